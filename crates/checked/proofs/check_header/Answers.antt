-- Each test of the header follows in the order of the numbers. Assumes nothing.
use mathlib.Core.Path.{◌≡◌, sym, ◌∙◌}
use Rattle.format.specs.Calls.{setting_number}
use Rattle.laws.proofs.Refusals.{accepted_at, handed_on, handed_least}
use Rattle.checked.proofs.Number.{setting_in, number-setting, view-allowed, number_extent, some-cells, number_counts}
use Rattle.checked.proofs.check_header.Goals.{In_ok-check_setting}
use Rattle.checked.proofs.check_header.Goals as goal

allowed : (c : In_ok-check_setting) → setting_number (setting_in c.args.v) 0 ≡ 0
allowed c = rw (← c.setting.ensures) (accepted_at _ _ c.check_setting.ensures _ c.in_ok-check_setting.was)

pub returns-in_err-check_setting : goal.returns-in_err-check_setting
returns-in_err-check_setting c =
    let h = handed_on _ _ c.in_err-check_setting.was _ c.from_residual.ensures.1 in
    let l = handed_least _ _ c.in_err-check_setting.was _ c.from_residual.ensures.1 in
    number-setting c.args.file.now c.args.v c.requires.0 c.requires.1 _ (h ∙ rw c.setting.ensures at c.check_setting.ensures) l

pub returns-then-v-eq0 : goal.returns-then-v-eq0
returns-then-v-eq0 c =
    number_extent c.args.file.now c.args.v c.requires.0 c.requires.1 (allowed (goal.at.returns-then-v-eq0 c).In_ok-check_setting) c.if-v-eq0.true

pub counts_right-requires : goal.counts_right-requires
counts_right-requires c =
    let a = allowed (goal.at.counts_right-requires c).In_ok-check_setting in (
      c.requires.0,
      c.requires.1,
      view-allowed c.args.file.now c.args.v c.requires.0 c.requires.1 a,
      some-cells c.args.file.now c.args.v c.requires.0 c.requires.1 a c.if-v-eq0.false,
    )

pub returns-then-not-counts_right : goal.returns-then-not-counts_right
returns-then-not-counts_right c =
    rw (
      number_counts c.args.file.now c.args.v c.requires.0 c.requires.1 (allowed (goal.at.returns-then-not-counts_right c).In_ok-check_setting) c.if-v-eq0.false,
      sym c.counts_right.ensures ∙ c.if-not-counts_right.true,
    )

pub returns : goal.returns
returns c =
    rw (
      number_counts c.args.file.now c.args.v c.requires.0 c.requires.1 (allowed (goal.at.returns c).In_ok-check_setting) c.if-v-eq0.false,
      sym c.counts_right.ensures ∙ c.if-not-counts_right.false,
    )

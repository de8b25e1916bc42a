-- What the header of an accepted file says. Assumes nothing.
use mathlib.Core.Path.{◌≡◌, refl, ◌∙◌}
use mathlib.Core.List.{List}
use Prim.Native.Nat.{ℕ}
use Rattle.format.specs.Accepted.{check_number}
use Rattle.format.specs.Opened.{view_of}
use Rattle.laws.proofs.Refusals.{accepted_at, handed_on, handed_least}
use Rattle.parts.proofs.Seen.{Headed, seen}
use Rattle.c_values.proofs.InfoCalls.{info_refused, info_told}
use Rattle.exports.proofs.read.info.Goals.{In_ok-check}
use Rattle.exports.proofs.read.info.Goals as goal

-- the header of a file that the check accepts
header : (b : List ℕ) → check_number b ≡ 0 → Headed b (view_of b)
header b h = (seen b (view_of b) (record { accepted = h; view = refl })).header

pub returns-in_err-check : goal.returns-in_err-check
returns-in_err-check c =
    let a = c.args in
    let h = handed_on _ _ c.in_err-check.was _ c.from_residual.ensures.1 in
    let l = handed_least _ _ c.in_err-check.was _ c.from_residual.ensures.1 in
    info_refused a.file.now a.dst.now _ (h ∙ c.check.ensures.number) l

-- the file is accepted
accepted : (c : In_ok-check) → check_number c.args.file.now ≡ 0
accepted c = accepted_at _ _ c.check.ensures.number _ c.in_ok-check.was

pub put_info-requires : goal.put_info-requires
put_info-requires c = (header _ (accepted (goal.at.put_info-requires c).In_ok-check)).right.long

pub returns : goal.returns
returns c =
    let a = c.args in
    let h = accepted (goal.at.returns c).In_ok-check in
    info_told a.file.now a.dst.now h (header a.file.now h).cells _ _ c.put_info.ensures

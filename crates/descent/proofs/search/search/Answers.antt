-- `search` meets its contract. Assumes nothing.
use Rattle.std.proofs.Common.{sym, refl, ◌∙◌}
use Rattle.descent.proofs.CheckSteps.{read-none, read-some}
use Rattle.descent.proofs.Whole.{step-low, step-high, many_runs, short-file, from_top, top_fits}
use Rattle.descent.proofs.search.search.Goals as goal

-- ---- refused numbers

pub returns-then-step-lt2 : goal.returns-then-step-lt2
returns-then-step-lt2 g c = let a = c.into-asked in (a.result, a.ensures, sym (step-low _ _ _ _ _ _ c.if-step-lt2.true))

pub returns-then-step-gt64 : goal.returns-then-step-gt64
returns-then-step-gt64 g c = let a = c.into-asked in (a.result, a.ensures, sym (step-high _ _ _ _ _ _ c.if-step-gt64.true))

pub returns-then-runs-gt16777216 : goal.returns-then-runs-gt16777216
returns-then-runs-gt16777216 g c = let a = c.into-asked in (a.result, a.ensures, sym (many_runs _ _ _ _ _ _ c.if-runs-gt16777216.true))

-- ---- numbers that fit

pub level_sizes-levels-requires : goal.level_sizes-levels-requires
level_sizes-levels-requires g c =
    (c.if-step-lt2.false, c.if-step-gt64.false, c.if-runs-gt16777216.false, refl)

pub returns-then-file-start : goal.returns-then-file-start
returns-then-file-start g c =
    let a = c.into-asked in
    let l = c.if-file-start.true in (
      a.result,
      a.ensures,
      sym (short-file _ _ _ _ _ _ c.if-step-lt2.false c.if-step-gt64.false c.if-runs-gt16777216.false _ _ _
          c.level_sizes-levels.ensures l),
    )

pub descend-found-requires : goal.descend-found-requires
descend-found-requires g c =
    let a = c.args in
    let k = c.if-file-start.false in
    top_fits a.file.now a.start a.step a.runs c.into-asked.result a.number c.if-step-lt2.false c.if-step-gt64.false c.if-runs-gt16777216.false _ _ _
    c.level_sizes-levels.ensures k c.well_formed.0.0

pub returns-then-found-lt-NOWHERE : goal.returns-then-found-lt-NOWHERE
returns-then-found-lt-NOWHERE g c =
    let a = c.into-asked in
    let k = c.if-file-start.false in (
      a.result,
      a.ensures,
      read-some _ _ c.descend-found.ensures c.if-found-lt-NOWHERE.true
          ∙ from_top _ _ _ _ _ _ c.if-step-lt2.false c.if-step-gt64.false c.if-runs-gt16777216.false _ _ _ c.level_sizes-levels.ensures k,
    )

pub returns-else-found-lt-NOWHERE : goal.returns-else-found-lt-NOWHERE
returns-else-found-lt-NOWHERE g c =
    let a = c.into-asked in
    let k = c.if-file-start.false in (
      a.result,
      a.ensures,
      read-none _ _ c.descend-found.ensures c.if-found-lt-NOWHERE.false
          ∙ from_top _ _ _ _ _ _ c.if-step-lt2.false c.if-step-gt64.false c.if-runs-gt16777216.false _ _ _ c.level_sizes-levels.ensures k,
    )

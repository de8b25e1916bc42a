use Rattle.std.proofs.Common.{rules}
use Rattle.kinds.specs.declared.kind.Kind.TheVariants as kind
use Rattle.kinds.proofs.Told.{told, other_told, none_told}
use Prim.Native.Nat.{ℕ}
use mathlib.Core.Path.{◌≡◌}
use mathlib.Core.Bool.{true}
use lib.ListN.{length}
use Rattle.format.specs.Kinds.{codec_of}
use Rattle.parts.specs.declared.Cursor.{Cursor}
use Rattle.parts.specs.Cursor.{walked_as}
use Rattle.parts.specs.Holds.{Holds, said}
use Rattle.parts.specs.Batch.{Along, RoomAll}
use Rattle.parts.specs.Carried.{Reached}
use Rattle.parts.proofs.Seen.{seen}
use Rattle.kinds.specs.Steps.{next_by}
use Rattle.kinds.specs.Coding.{coder_of}
use Rattle.kinds.specs.Copying.{copies_jumps}
use Rattle.kinds.proofs.At.{setting-allowed, setting-room, view_holds, view-step, put-both_kinds}
use Rattle.kinds.proofs.Jumping.{some_held, copies_runs, copies_others, one_no_jumps, five_no_jumps, asks_reached, asks_along, asks_room, gives_put}
use Rattle.kinds.proofs.copying.copy_ranks.Goals.{In-Ok-Runs, In-Ok-PagedRuns, In_default, Start, in_default-via-in-Ok+in_default, in_default-via-in_default}
use Rattle.kinds.proofs.copying.copy_ranks.Goals as goal

-- what the copying of kind k asks
asked : (c : Start) (k : ℕ)
    → let a = c.args in
    a.v.kind ≡ k → a.s.kind ≡ k
    → ((codec_of k a.s.width a.s.step).allowed ≡ true)
    × Holds (codec_of k a.v.width a.v.step) a.file.now a.v (said (codec_of k a.v.width a.v.step) a.file.now a.v)
    × Reached (next_by k a.file.now a.v) a.v.words a.c a.n × Along a.e (walked_as (next_by k a.file.now a.v) a.c a.n)
    × RoomAll (coder_of k a.s.width a.s.step) a.e (walked_as (next_by k a.file.now a.v) a.c a.n) (length a.dst.now)
asked c k e g =
    let a = c.args in
    let b = a.file.now in
    let step = view-step a.v a.s k e g b in (
      setting-allowed a.s k g c.requires.0,
      view_holds a.v a.s k e g b _ (seen b a.v c.requires.2).holds,
      step (λ (f : Cursor → Cursor). Reached f a.v.words a.c a.n) c.requires.3,
      step (λ (f : Cursor → Cursor). Along a.e (walked_as f a.c a.n)) c.requires.4,
      step (λ (f : Cursor → Cursor). RoomAll (coder_of k a.s.width a.s.step) a.e (walked_as f a.c a.n) (length a.dst.now)) (setting-room a.s k g _ _ _ c.requires.5),
    )

one : (c : In-Ok-Runs) → let a = c.args in (a.v.kind ≡ 1) × (a.s.kind ≡ 1)
one c = let e = told c.in-Ok-Runs.ensures c.in-Ok-Runs.field-0-is in (e, copies_runs c.args.v c.args.s c.requires.1 1 e one_no_jumps)

five : (c : In-Ok-PagedRuns) → let a = c.args in (a.v.kind ≡ 5) × (a.s.kind ≡ 5)
five c = let e = told c.in-Ok-PagedRuns.ensures c.in-Ok-PagedRuns.field-0-is in (e, copies_runs c.args.v c.args.s c.requires.1 5 e five_no_jumps)

-- in the last arm the kind is neither 1 nor 5
others : (c : In_default) → let a = c.args in copies_jumps a.v a.s
others c =
    let n : (c.args.v.kind ≡ 1 → ⊥) × (c.args.v.kind ≡ 5 → ⊥) = elim c.in_default.branch [
      | in_default-via-in-Ok+in_default w ↦ (let t = other_told c.try_from.ensures w.in_default.is in (t kind.Runs (search rules), t kind.PagedRuns (search rules)))
      | in_default-via-in_default w ↦ (let n = none_told c.try_from.ensures w.in_default.is in (n kind.Runs, n kind.PagedRuns))
    ] in
    copies_others c.args.v c.args.s c.requires.1 n.0 n.1

pub put_ranks-requires : goal.put_ranks-requires
put_ranks-requires c =
    let a = c.args in
    let b = a.file.now in
    let t = others (goal.at.put_ranks-requires c).In_default in (
      some_held b a.v c.requires.2 t.0,
      asks_reached b a.v a.s t a.c a.e a.n c.requires.3,
      asks_along b a.v a.s t a.c a.e a.n c.requires.4,
      asks_room b a.v a.s t a.c a.e a.n _ c.requires.5,
    )

pub returns-in_default : goal.returns-in_default
returns-in_default c =
    let a = c.args in
    gives_put a.file.now a.v a.s (others (goal.at.returns-in_default c).In_default) a.c a.e a.n _ _ _ c.put_ranks.ensures

pub put_runs-requires : goal.put_runs-requires
put_runs-requires c = let e = one (goal.at.put_runs-requires c).In-Ok-Runs in asked (goal.at.put_runs-requires c).Start 1 e.0 e.1

pub put_runs-requires-in-Ok-PagedRuns : goal.put_runs-requires-in-Ok-PagedRuns
put_runs-requires-in-Ok-PagedRuns c = let e = five (goal.at.put_runs-requires-in-Ok-PagedRuns c).In-Ok-PagedRuns in asked (goal.at.put_runs-requires-in-Ok-PagedRuns c).Start 5 e.0 e.1

pub returns-in-Ok-Runs : goal.returns-in-Ok-Runs
returns-in-Ok-Runs c = let a = c.args in
    let e = one (goal.at.returns-in-Ok-Runs c).In-Ok-Runs in
    put-both_kinds a.v a.s 1 e.0 e.1 a.file.now _ _ _ _ _ _ c.put_runs.ensures

pub returns-in-Ok-PagedRuns : goal.returns-in-Ok-PagedRuns
returns-in-Ok-PagedRuns c = let a = c.args in
    let e = five (goal.at.returns-in-Ok-PagedRuns c).In-Ok-PagedRuns in
    put-both_kinds a.v a.s 5 e.0 e.1 a.file.now _ _ _ _ _ _ c.put_runs-in-Ok-PagedRuns.ensures

-- What an edit measures, by its ranks and runs. Assumes nothing.
use Prim.Native.Nat.{ℕ, ◌+◌, ◌-◌, ◌≤◌}
use mathlib.Core.Path.{◌≡◌, refl, ◌∙◌}
use mathlib.Core.Bool.{Bool, true}
use mathlib.Core.List.{List, ◌++◌}
use native.Mathlib.Omega.{arith}
use lib.ListN.{length, take, drop, length-append, length-drop}
use lib.Seq.{length-take-le}
use Rattle.std.specs.Prelude.{Option, Some, None, is_some}
use Rattle.std.specs.Int.{from_bool}
use Rattle.format.specs.declared.Position.{Position}
use Rattle.format.specs.declared.Setting.{Setting}
use Rattle.format.specs.declared.View.{View}
use Rattle.format.specs.Runs.{runs}
use Rattle.format.specs.Kinds.{setting_allowed}
use Rattle.format.specs.Accepted.{positions_of}
use Rattle.laws.proofs.Stored.{rising-length}
use Rattle.parts.specs.Holds.{ViewOf}
use Rattle.parts.proofs.Seen.{seen}
use Rattle.parts.specs.declared.Sizes.{Sizes}
use Rattle.kinds.specs.Steps.{stores_runs}
use Rattle.kinds.specs.Coding.{coder, sized_by_ranks, counted_by}
use Rattle.kinds.proofs.Counts.{ByCount, by_ranks, by_runs}
use Rattle.layout.specs.Laid.{Measures}
use Rattle.layout.proofs.Measuring.{counts_measure}
use Rattle.edits.specs.declared.Edit.{Edit}
use Rattle.edits.specs.Edit.{position_in, edited, EditOf}
use Rattle.rewrite.proofs.Three.{ranks-there, edit-rising, cells-most, edit-below}

-- the cells that an edit puts
pub count_added : (t : Option Position) (n : Bool) → n ≡ is_some t → (from_bool n ≡ length (position_in t)) × (from_bool n ≤ 1)
count_added None n e = rw e (refl, omega arith)
count_added (Some p) n e = rw e (refl, omega arith)

-- how many ranks there are after the edit
edited-length : (x : Edit) (ls : List ℕ) (n : ℕ) → x.before ≤ x.after → x.after ≤ length ls → n ≡ x.before + (length ls - x.after) + length (position_in x.added)
    → n ≡ length (edited x ls)
unfolding edited
edited-length x ls n h k e =
    let a = length-append (take x.before ls ++ position_in x.added) (drop x.after ls) in
    let b = length-append (take x.before ls) (position_in x.added) in
    let c = length-take-le x.before ls (omega arith) in
    let d = length-drop x.after ls in
    omega arith

module _ (b : List ℕ) (v : View) (o : ViewOf b v) (x : Edit) (d : EditOf b x) (n : ℕ) (p : n ≡ x.before + (v.words - x.after) + length (position_in x.added)) where
  ranks : n ≡ length (edited x (positions_of b))
  ranks =
      let l = (seen b v o).holds.size in
      let k = ranks-there b v o x d in
      edited-length x (positions_of b) n k.0 (omega arith) (p ∙ rw l refl)

  pub few-ranks : n ≤ 16777216
  few-ranks = let r = ranks in let k = rising-length 0 16777216 (edited x (positions_of b)) (omega arith) (edit-below b v o x d) in omega arith

  module _ (s : Setting) (a : setting_allowed s ≡ true) (m : ℕ) (z : Sizes) (q : z ≡ (coder s).sizes (counted_by s.kind n m)) where
    measures : ByCount s (edited x (positions_of b)) n m → Measures s v.cells (edited x (positions_of b)) (Some z)
    measures h = counts_measure s a v.cells (edited x (positions_of b)) (cells-most b v o x d) (edit-rising b v o x d) n m z q h

    pub ranks_measure : sized_by_ranks s.kind → Measures s v.cells (edited x (positions_of b)) (Some z)
    ranks_measure k = measures (by_ranks s (edited x (positions_of b)) n m a ranks k)

    pub runs_measure : stores_runs s.kind → m ≡ length (runs (edited x (positions_of b))) → Measures s v.cells (edited x (positions_of b)) (Some z)
    runs_measure k q = measures (by_runs s (edited x (positions_of b)) n m a ranks k q)

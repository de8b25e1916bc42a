-- The runs of an accepted file's positions after an edit. Assumes nothing.
use Prim.Native.Nat.{ℕ, zero, suc, ◌+◌, ◌-◌, ◌≤◌, ◌<◌}
use mathlib.Core.Path.{◌≡◌, refl, sym, ap, subst, ◌∙◌}
use mathlib.Core.List.{List, [], ◌∷◌, ◌++◌, append_assoc}
use native.Mathlib.Numerals.{add-one}
use native.Mathlib.Omega.{arith}
use lib.Arith.{lt_of_le-ne}
use lib.ListN.{length, get_or, take, drop, take-append-drop, drop_of_length-le}
use lib.Seq.{drop-cons, drop-drop}
use borrow.Author.Tests.{eq-eqb, ne_eqb}
use Rattle.std.specs.Prelude.{Option, Some}
use Rattle.format.specs.declared.Position.{Position}
use Rattle.format.specs.declared.View.{View}
use Rattle.format.specs.Tools.{Below}
use Rattle.format.specs.Runs.{runs}
use Rattle.format.specs.Accepted.{positions_of}
use Rattle.laws.proofs.Stored.{rising-length}
use Rattle.laws.proofs.Bounds.{below-rising, length_runs}
use Rattle.parts.specs.Holds.{ViewOf}
use Rattle.parts.proofs.Seen.{seen}
use Rattle.kinds.specs.Steps.{stores_runs, runs_of}
use Rattle.kinds.proofs.Counts.{run-count}
use Rattle.edits.specs.declared.Edit.{Edit}
use Rattle.edits.specs.Edit.{position_in, edited, left_out, EditOf}
use Rattle.recode.specs.RunCount.{begins, run_count, end_after, first_begins, joint}
use Rattle.recode.proofs.RunCounts.{count_runs, count_replaced, end_take}
use Rattle.rewrite.proofs.Three.{ranks-there, edit-below}

-- ---- one cell

pub begins-at : (q l : ℕ) → (q ≡ 0 → ⊥) → l ≡ q → (0 ≡ begins q l) × (0 ≤ 1)
begins-at zero l h e = absurd (h refl)
begins-at (suc q) l h e = (rw (eq-eqb l (suc q) e), omega arith)

pub begins-not : (q l : ℕ) → (q ≡ 0 → ⊥) → (l ≡ q → ⊥) → (1 ≡ begins q l) × (1 ≤ 1)
begins-not zero l h e = absurd (h refl)
begins-not (suc q) l h e = (rw (ne_eqb l (suc q) e), omega arith)

-- ---- one rank of an accepted file

module _ (b : List ℕ) (v : View) (o : ViewOf b v) where
  abbrev ls : List ℕ
  ls = positions_of b

  size : length ls ≡ v.words
  size = (seen b v o).holds.size

  module _ (r : ℕ) (h : r < v.words) where
    pub first-there : (q x t : ℕ) → x ≡ get_or ls r 0 → (t ≡ begins q x) × (t ≤ 1) → (t ≡ first_begins q (drop r ls)) × (t ≤ 1)
    unfolding first_begins
    first-there q x t e k = let s = size in (rw (drop-cons ls r 0 (omega arith)) (k.0 ∙ ap (begins q) e), k.1)

    pub end-there : (k x : ℕ) → k ≡ r + 1 → x ≡ get_or ls r 0 → x + 1 ≡ end_after 0 (take k ls)
    end-there k x m e =
        let s = size in
        rw (m, add-one r) (add-one x ∙ ap suc e ∙ sym (end_take 0 r ls (omega arith)))

  pub first-none : (q r : ℕ) → r ≡ v.words → (0 ≡ first_begins q (drop r ls)) × (0 ≤ 1)
  unfolding first_begins
  first-none q r e = let s = size in (rw (drop_of_length-le ls {i = r} (omega arith)), omega arith)

pub end_none : (k : ℕ) (ls : List ℕ) → k ≡ 0 → 0 ≡ end_after 0 (take k ls)
unfolding end_after
end_none k ls e = rw e

-- ---- a cell and the rank behind it

pub joint-there : (q p x y : ℕ) (ys : List ℕ) → x ≡ begins q p → y ≡ first_begins (p + 1) ys → x ≤ 1 → y ≤ 1
    → (x + y ≡ joint q (p ∷ []) ys) × (x + y ≤ 2)
unfolding joint run_count end_after
joint-there q p x y ys a b c d = (rw (a, b, add-one) (omega arith), omega arith)

pub joint-none : (q y : ℕ) (ys : List ℕ) → y ≡ first_begins q ys → y ≤ 1 → (y ≡ joint q [] ys) × (y ≤ 2)
unfolding joint run_count end_after
joint-none q y ys a b = (rw a (omega arith), omega arith)

-- ---- the whole edit

below-front : (B : ℕ) (xs ys : List ℕ) → Below B (xs ++ ys) → Below B xs
below-front B [] ys h = tt
below-front B (x ∷ xs) ys h = (h.0, below-front B xs ys h.1)

below-back : (B : ℕ) (xs ys : List ℕ) → Below B (xs ++ ys) → Below B ys
below-back B [] ys h = h
below-back B (x ∷ xs) ys h = below-back B xs ys h.1

pub put_small : (b : List ℕ) (v : View) → ViewOf b v → (x : Edit) → EditOf b x → (p : Position) → x.added ≡ Some p → p.0 < 16777216
unfolding edited
put_small b v o x d p e =
    let ls = positions_of b in
    let r : Below 16777216 (take x.before ls ++ (p.0 ∷ []) ++ drop x.after ls)
    = subst (λ (t : Option Position). Below 16777216 (take x.before ls ++ position_in t ++ drop x.after ls)) e
    (below-rising 0 16777216 (take x.before ls ++ position_in x.added ++ drop x.after ls) (edit-below b v o x d)) in
    (below-back 16777216 (take x.before ls) (p.0 ∷ []) (below-front 16777216 (take x.before ls ++ (p.0 ∷ [])) (drop x.after ls) r)).0

pub none_left : (x : Edit) (ls : List ℕ) → x.before ≡ x.after → [] ≡ left_out x ls
none_left x ls e = let z : x.after - x.before ≡ 0 = omega arith in rw z

pub one_left : (x : Edit) (ls : List ℕ) → x.before < x.after → x.after ≤ x.before + 1 → x.before < length ls → get_or ls x.before 0 ∷ [] ≡ left_out x ls
one_left x ls h k l = let z : x.after - x.before ≡ 1 = omega arith in rw (z, drop-cons ls x.before 0 l)

whole : (x : Edit) (ls : List ℕ) → x.before ≤ x.after → take x.before ls ++ left_out x ls ++ drop x.after ls ≡ ls
whole x ls h =
    let n : x.before + (x.after - x.before) ≡ x.after = omega arith in
    let e : drop (x.after - x.before) (drop x.before ls) ≡ drop x.after ls
    = drop-drop (x.after - x.before) x.before ls ∙ ap (λ (k : ℕ). drop k ls) n in
    append_assoc (take x.before ls) (left_out x ls) (drop x.after ls)
    ∙ ap (λ (t : List ℕ). take x.before ls ++ (left_out x ls ++ t)) (sym e)
    ∙ ap (λ (t : List ℕ). take x.before ls ++ t) (take-append-drop (x.after - x.before) (drop x.before ls))
    ∙ take-append-drop x.before ls

pub runs-edited : (x : Edit) (ls : List ℕ) → x.before ≤ x.after → (total lost won : ℕ) → total ≡ length (runs ls)
    → lost ≡ joint (end_after 0 (take x.before ls)) (left_out x ls) (drop x.after ls)
    → won ≡ joint (end_after 0 (take x.before ls)) (position_in x.added) (drop x.after ls)
    → total + won ≡ length (runs (edited x ls)) + lost
unfolding edited
runs-edited x ls h total lost won t l w =
    let n = position_in x.added in
    let c = count_replaced (take x.before ls) (left_out x ls) n (drop x.after ls) in
    let d = ap (run_count 0) (whole x ls h) in
    let e = count_runs ls in
    let f = count_runs (take x.before ls ++ n ++ drop x.after ls) in
    omega arith

-- ---- the runs of an accepted file

module _ (b : List ℕ) (v : View) (o : ViewOf b v) where
  module _ (x : Edit) (d : EditOf b x) where
    pub lost-none : (q t : ℕ) → x.before ≡ x.after → (t ≡ joint q [] (drop x.after (positions_of b))) × (t ≤ 2)
        → (t ≡ joint q (left_out x (positions_of b)) (drop x.after (positions_of b))) × (t ≤ 2)
    lost-none q t e h = (h.0 ∙ ap (λ (m : List ℕ). joint q m (drop x.after (positions_of b))) (none_left x (positions_of b) e), h.1)

    before-there : (x.before ≡ x.after → ⊥) → x.before < x.after
    before-there h = lt_of_le-ne d.ordered h

    pub left_there : (x.before ≡ x.after → ⊥) → x.before < v.words
    left_there h = let k = before-there h in let r = ranks-there b v o x d in omega arith

    pub lost-one : (q t m : ℕ) → (x.before ≡ x.after → ⊥) → m ≡ get_or (positions_of b) x.before 0
        → (t ≡ joint q (m ∷ []) (drop x.after (positions_of b))) × (t ≤ 2)
        → (t ≡ joint q (left_out x (positions_of b)) (drop x.after (positions_of b))) × (t ≤ 2)
    lost-one q t m h e k =
        let n = left_there h in
        let s = size b v o in
        let l = ap (λ (y : ℕ). y ∷ []) e ∙ one_left x (positions_of b) (before-there h) d.near (omega arith) in
        (k.0 ∙ ap (λ (ms : List ℕ). joint q ms (drop x.after (positions_of b))) l, k.1)

pub few_words : (b : List ℕ) (v : View) → ViewOf b v → v.words ≤ 16777216
few_words b v o = let c = (seen b v o).header.counted in let m = c.cells-most in let n = c.words-most in omega arith

-- what the runs after an edit are found by
pub record RunsFound (R total lost won : ℕ) : Type 0 where
  pub equation : total + won ≡ R + lost
  pub most : R ≤ 16777216
  pub total-most : total ≤ 16777216

pub runs-found : (b : List ℕ) (v : View) → ViewOf b v → (x : Edit) → EditOf b x → stores_runs v.kind → (total lost won q : ℕ)
    → total ≡ runs_of v → q ≡ end_after 0 (take x.before (positions_of b))
    → lost ≡ joint q (left_out x (positions_of b)) (drop x.after (positions_of b))
    → won ≡ joint q (position_in x.added) (drop x.after (positions_of b))
    → RunsFound (length (runs (edited x (positions_of b)))) total lost won
runs-found b v o x d k total lost won q t e l w =
    let n = t ∙ run-count b v (positions_of b) (seen b v o).holds k in
    let f = few_words b v o in
    let g = size b v o in
    let h = length_runs (positions_of b) in
    let i = rising-length 0 16777216 (edited x (positions_of b)) (omega arith) (edit-below b v o x d) in
    let j = length_runs (edited x (positions_of b)) in
    record {
      equation = runs-edited x (positions_of b) d.ordered total lost won n (l ∙ ap (λ (y : ℕ). joint y (left_out x (positions_of b)) (drop x.after (positions_of b))) e)
          (w ∙ ap (λ (y : ℕ). joint y (position_in x.added) (drop x.after (positions_of b))) e);
      most = omega arith;
      total-most = omega arith;
    }

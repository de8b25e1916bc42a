-- The walk along a level above compares it with the sums of the last entries below. Assumes nothing.
use Prim.Native.Nat.{ℕ, zero, suc, ◌+◌, ◌-◌, ◌*◌, ◌≤◌, ◌<◌, min}
use mathlib.Core.Path.{◌≡◌, refl, sym, ap, ◌∙◌}
use mathlib.Core.Bool.{Bool, true, false, ◌&&◌}
use mathlib.Core.List.{List, [], ◌∷◌, ◌++◌}
use native.Mathlib.Nat.{zero-add, add-zero, suc-mul, zero-mul, sub-zero}
use native.Mathlib.Numerals.{add-one}
use native.Mathlib.Omega.{arith}
use lib.ListN.{length, take, drop, get_or, length-take, length-drop, drop_of_length-le}
use lib.Seq.{drop-cons, take-add, get_or-take, get_or-drop, length-take-le}
use lib.Dec.{eqb}
use borrow.Author.Tests.{eqb-true, ne_eqb}
use Rattle.format.specs.Tools.{pick, both, same, up_to}
use Rattle.format.specs.Runs.{Span}
use Rattle.format.specs.PagedRuns.{plus, none, sums_from, level, lasts, upper_levels, upper_entries, flat_spans, spans_in}
use Rattle.laws.proofs.Tools.{and_three, both_false, both_one, both_assoc, same_true}
use Rattle.laws.proofs.Levels.{span_path}
use Rattle.laws.proofs.Bounds.{index_inside, length-lasts, length-upper_levels, up_to_half}
use Rattle.laws.proofs.Positions.{spans_in_flat, length-flat_spans}
use Rattle.laws.proofs.Accumulation.{last_is_last, length_above, no_more_level, one_more_level, no_more_entries, one_more_entries}
use Rattle.wire.specs.declared.Pair.{Pair}
use Rattle.parts.specs.Encoder.{left_after}
use Rattle.levels.specs.declared.check.Compared.{Compared}
use Rattle.levels.specs.Levels.{span_of}
use Rattle.levels.specs.Comparing.{compared_with, same_spans}
use Rattle.levels.proofs.LevelBytes.{flat_append}

-- ---- one entry

-- a later test counts only where those before it pass
both_turn : (r s t k l : Bool) → (s ≡ true → t ≡ true → k ≡ l) → both r (both s (both t k)) ≡ both (both r (both s t)) l
both_turn false s t k l h = refl
both_turn true false t k l h = refl
both_turn true true false k l h = refl
both_turn true true true k l h = h refl refl

state : ℕ → Pair → Bool → Compared
state k a r = record { left = k; sum = a; right = r }

turn : (b k : ℕ) (a u : Pair) (r : Bool) (x : Span) (us ls : List Span)
    → both r (same_spans (span_of u ∷ us) (sums_from b k (span_of a) (x ∷ ls)))
    ≡ both (compared_with b (state k a r) u x).right (same_spans us (sums_from b (left_after b k) (span_of u) ls))
unfolding sums_from flat_spans state left_after
turn b zero a u r x us ls =
    rw (zero-add x.cells, zero-add x.empty)
    (both_turn r (eqb u.first x.cells) (eqb u.second x.empty) _ _
    (λ s t.
    let e : span_of u ≡ x = span_path (eqb-true u.first x.cells s) (eqb-true u.second x.empty t) in
    ap (λ (y : Span). same (flat_spans us) (flat_spans (sums_from b (b - 1) y ls))) (sym e)))
turn b (suc k) a u r x us ls =
    let d : suc k - 1 ≡ k = omega arith in
    rw (ne_eqb (suc k) 0 (λ z. omega arith), d)
    (both_turn r (eqb u.first (a.first + x.cells)) (eqb u.second (a.second + x.empty)) _ _
    (λ s t.
    let e : span_of u ≡ plus (span_of a) x = span_path (eqb-true u.first (a.first + x.cells) s) (eqb-true u.second (a.second + x.empty) t) in
    ap (λ (y : Span). same (flat_spans us) (flat_spans (sums_from b k y ls))) (sym e)))

pub compare_turn : (b : ℕ) (s : Compared) (u : Pair) (x : Span) (us ls : List Span)
    → both s.right (same_spans (span_of u ∷ us) (sums_from b s.left (span_of s.sum) (x ∷ ls)))
    ≡ both (compared_with b s u x).right (same_spans us (sums_from b (left_after b s.left) (span_of u) ls))
unfolding state
compare_turn b s u x us ls = turn b s.left s.sum u s.right x us ls

pub compared_path : (b : ℕ) (s : Compared) (u : Pair) (x : Span) (left cells empty uc ue : ℕ) → left ≡ left_after b s.left
    → cells ≡ pick (eqb s.left 0) 0 s.sum.first + x.cells → empty ≡ pick (eqb s.left 0) 0 s.sum.second + x.empty
    → uc ≡ u.first → ue ≡ u.second
    → ◌≡◌ {A = Compared} (record { left = left; sum = u; right = (s.right && eqb uc cells) && eqb ue empty }) (compared_with b s u x)
compared_path b s u x left cells empty uc ue l c e p q =
    rw (l, c, e, p, q)
    (ap (λ (r : Bool). record { left = left_after b s.left; sum = u; right = r }) (and_three s.right _ _))

-- ---- the last entries below

pub first-end : (b n : ℕ) → 0 ≡ min (0 * b) n
first-end b n = omega (arith, zero-mul b)

pub page-ends : (b n i end : ℕ) → 1 ≤ b → i < up_to n b → end ≡ min (i * b) n → min (end + b) n ≡ min (suc i * b) n
page-ends b n i end h k e =
    let s = index_inside b n i h k in
    let m = suc-mul i b in
    omega arith

pub end-some : (b n i : ℕ) → 1 ≤ b → i < up_to n b → 1 ≤ min (suc i * b) n
end-some b n i h k =
    let s = index_inside b n i h k in
    let m = suc-mul i b in
    omega arith

-- what is left to compare of a level, from its entry i on, with the level below it
unfoldable pub rest_of : ℕ → List Span → ℕ → ℕ → ℕ → ℕ → Compared → ℕ → Bool
rest_of b es start size below under s i =
    both s.right
    (same_spans (take (size - i) (drop (start + i) es)) (sums_from b s.left (span_of s.sum) (drop i (lasts b (take under (drop below es))))))

module _ (b : ℕ) (es : List Span) (start size below under : ℕ) (h : 2 ≤ b) (fit : size ≡ up_to under b)
    (long : start + size ≤ length es) (long-below : below + under ≤ length es) where
  length_ys : length (take under (drop below es)) ≡ under
  length_ys = length-take-le under (drop below es) (rw (length-drop below es) (omega arith))

  length_ls : length (lasts b (take under (drop below es))) ≡ size
  length_ls = length-lasts b (take under (drop below es)) (omega arith) ∙ rw (length_ys, fit)

  -- the entries left of the level, and the last entries left
  upper_cons : (i : ℕ) → i < size → take (size - i) (drop (start + i) es) ≡ get_or es (start + i) none ∷ take (size - (i + 1)) (drop (start + (i + 1)) es)
  upper_cons i k =
      let n : size - i ≡ suc (size - (i + 1)) = omega arith in
      let m : start + (i + 1) ≡ suc (start + i) = omega arith in
      let l : start + i < length es = omega arith in
      rw (drop-cons es (start + i) none l, n, m)

  last-at : (i : ℕ) → i < size → get_or (lasts b (take under (drop below es))) i none ≡ get_or es (below + min (suc i * b) under - 1) none
  last-at i k =
      let f : i < up_to under b = rw fit at k in
      let s = end-some b under i (omega arith) f in
      let g : i < up_to (length (take under (drop below es))) b = rw length_ys f in
      let m : min (suc i * b) under - 1 < under = omega arith in
      let n : below + (min (suc i * b) under - 1) ≡ below + min (suc i * b) under - 1 = omega arith in
      last_is_last b i (take under (drop below es)) (omega arith) g
      ∙ rw length_ys
      (get_or-take under (drop below es) (min (suc i * b) under - 1) none m ∙ get_or-drop below es (min (suc i * b) under - 1) none
      ∙ ap (λ (j : ℕ). get_or es j none) n)

  lower_cons : (i : ℕ) → i < size
      → drop i (lasts b (take under (drop below es))) ≡ get_or es (below + min (suc i * b) under - 1) none ∷ drop (i + 1) (lasts b (take under (drop below es)))
  lower_cons i k =
      let l : i < length (lasts b (take under (drop below es))) = rw length_ls k in
      rw (drop-cons (lasts b (take under (drop below es))) i none l, last-at i k, add-one i)

  pub rest_turn : (s : Compared) (i : ℕ) (u : Pair) (x : Span) → i < size → span_of u ≡ get_or es (start + i) none
      → x ≡ get_or es (below + min (suc i * b) under - 1) none
      → rest_of b es start size below under s i ≡ rest_of b es start size below under (compared_with b s u x) (i + 1)
  unfolding rest_of
  rest_turn s i u x k p q =
      rw (upper_cons i k, lower_cons i k, ← p, ← q)
      (compare_turn b s u x (take (size - (i + 1)) (drop (start + (i + 1)) es)) (drop (i + 1) (lasts b (take under (drop below es)))))

  pub rest_first : (a : Pair) → rest_of b es start size below under (record { left = 0; sum = a; right = true }) 0
      ≡ same_spans (take size (drop start es)) (level b (lasts b (take under (drop below es))))
  unfolding rest_of level
  rest_first a = rw (add-zero start, sub-zero size) (first (span_of a) (lasts b (take under (drop below es))))
    where
      first : (a : Span) (ls : List Span)
          → same_spans (take size (drop start es)) (sums_from b 0 a ls) ≡ same_spans (take size (drop start es)) (sums_from b 0 none ls)
      first a [] = unfold sums_from in refl
      first a (x ∷ ls) = unfold sums_from in refl

  pub rest_none : (s : Compared) (i : ℕ) → size ≤ i → rest_of b es start size below under s i ≡ s.right
  unfolding rest_of sums_from flat_spans
  rest_none s i k =
      let z : size - i ≡ 0 = omega arith in
      let l : length (lasts b (take under (drop below es))) ≤ i = rw length_ls k in
      rw (z, drop_of_length-le (lasts b (take under (drop below es))) l) (both_one s.right)

-- ---- level by level

same-append : (xs ys zs ws : List ℕ) → length xs ≡ length ys → same (xs ++ zs) (ys ++ ws) ≡ both (same xs ys) (same zs ws)
same-append [] [] zs ws h = refl
same-append [] (y ∷ ys) zs ws h = absurd (omega arith)
same-append (x ∷ xs) [] zs ws h = absurd (omega arith)
same-append (x ∷ xs) (y ∷ ys) zs ws h = rw (same-append xs ys zs ws (omega arith)) (sym (both_assoc (eqb x y) (same xs ys) (same zs ws)))

pub same-spans : (xs ys : List Span) → same_spans xs ys ≡ true → xs ≡ ys
same-spans xs ys h = sym (spans_in_flat xs) ∙ ap spans_in (same_true (flat_spans xs) (flat_spans ys) h) ∙ spans_in_flat ys

same-both : (xs ys zs ws : List Span) → length xs ≡ length ys → same_spans (xs ++ zs) (ys ++ ws) ≡ both (same_spans xs ys) (same_spans zs ws)
same-both xs ys zs ws h =
    rw (flat_append xs zs, flat_append ys ws)
    (same-append (flat_spans xs) (flat_spans ys) (flat_spans zs) (flat_spans ws) (rw (length-flat_spans xs, length-flat_spans ys, h)))

-- the levels above a level of `under` entries from `below` on
unfoldable pub upper_rest : ℕ → List Span → ℕ → ℕ → Bool
upper_rest b es below under = same_spans (take below es) (upper_levels b (take under (drop below es)))

module _ (b : ℕ) (es : List Span) (below under : ℕ) (h : 2 ≤ b) (count : below ≡ upper_entries b under) (long : below + under ≤ length es) where
  pub upper_none : under ≤ b → upper_rest b es below under ≡ true
  unfolding upper_rest flat_spans
  upper_none k =
      let z : below ≡ 0 = count ∙ no_more_entries b under k in
      let l : length (take under (drop below es)) ≤ b = rw (length-take under (drop below es)) (omega arith) in
      rw (no_more_level b (take under (drop below es)) l, z)

  module _ (more : b < under) where
    pub start_of_above : below ≡ upper_entries b (up_to under b) + up_to under b
    start_of_above = count ∙ one_more_entries b under h more

    pub start_count : below - up_to under b ≡ upper_entries b (up_to under b)
    start_count = omega (arith, start_of_above)

    long_under : length (take under (drop below es)) ≡ under
    long_under = length-take-le under (drop below es) (rw (length-drop below es) (omega arith))

    -- the level above, and those above it
    upper_split : upper_rest b es below under
        ≡ both (same_spans (take (below - up_to under b) es) (upper_levels b (level b (lasts b (take under (drop below es))))))
        (same_spans (take (up_to under b) (drop (below - up_to under b) es)) (level b (lasts b (take under (drop below es)))))
    unfolding upper_rest
    upper_split =
        let s = start_of_above in
        let e : below - up_to under b + up_to under b ≡ below = omega arith in
        let t : take below es ≡ take (below - up_to under b) es ++ take (up_to under b) (drop (below - up_to under b) es)
        = ap (λ (n : ℕ). take n es) (sym e) ∙ take-add (below - up_to under b) (up_to under b) es in
        let m : b < length (take under (drop below es)) = rw long_under more in
        let up : length (level b (lasts b (take under (drop below es)))) ≡ up_to under b = length_above b (take under (drop below es)) (omega arith)
        ∙ rw long_under in
        let n : length (take (below - up_to under b) es) ≡ length (upper_levels b (level b (lasts b (take under (drop below es)))))
        = length-take-le (below - up_to under b) es (omega arith) ∙ start_count
        ∙ sym (length-upper_levels b (level b (lasts b (take under (drop below es)))) (omega arith) ∙ rw up) in
        rw t
        (ap (λ (l : List Span). same_spans (take (below - up_to under b) es ++ take (up_to under b) (drop (below - up_to under b) es)) l)
        (one_more_level b (take under (drop below es)) h m)
        ∙ same-both (take (below - up_to under b) es) (upper_levels b (level b (lasts b (take under (drop below es))))) _ _ n)

    pub upper_wrong : same_spans (take (up_to under b) (drop (below - up_to under b) es)) (level b (lasts b (take under (drop below es)))) ≡ false
        → upper_rest b es below under ≡ false
    upper_wrong e =
        upper_split ∙ rw e (both_false (same_spans (take (below - up_to under b) es) (upper_levels b (level b (lasts b (take under (drop below es)))))))

    pub upper_turn : same_spans (take (up_to under b) (drop (below - up_to under b) es)) (level b (lasts b (take under (drop below es)))) ≡ true
        → upper_rest b es below under ≡ upper_rest b es (below - up_to under b) (up_to under b)
    unfolding upper_rest
    upper_turn e =
        let s = same-spans _ _ e in
        upper_split ∙ rw (e, ← s) (both_one (same_spans (take (below - up_to under b) es) (upper_levels b (take (up_to under b) (drop (below - up_to under b) es)))))

-- ---- the loop up the levels

pub upper_whole : (b : ℕ) (es : List Span) (below under : ℕ)
    → upper_rest b es below under ≡ same_spans (take below es) (upper_levels b (take under (drop below es)))
unfolding upper_rest
upper_whole b es below under = refl

-- the levels below `below` are right; what is left gives the whole
pub record Climbing (es : List Span) (b firsts seconds below under : ℕ) : Type 0 where
  pub whole : upper_rest b es below under ≡ upper_rest b es firsts seconds
  pub count : below ≡ upper_entries b under
  pub most : under ≤ 16777216
  pub long : below + under ≤ firsts + seconds

pub climbing_on : (es : List Span) (b firsts seconds below under : ℕ) → 2 ≤ b → firsts + seconds ≤ length es → Climbing es b firsts seconds below under
    → b < under
    → same_spans (take (up_to under b) (drop (below - up_to under b) es)) (level b (lasts b (take under (drop below es)))) ≡ true
    → Climbing es b firsts seconds (below - up_to under b) (up_to under b)
climbing_on es b firsts seconds below under h l c t e =
    let k = c.long in
    let m = c.most in
    let f = up_to_half under b h in
    let s = start_of_above b es below under h c.count (omega arith) t in
    record {
      whole = sym (upper_turn b es below under h c.count (omega arith) t e) ∙ c.whole;
      count = start_count b es below under h c.count (omega arith) t;
      most = omega arith;
      long = omega arith;
    }

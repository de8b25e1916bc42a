-- Levels of pairs, page by page: an entry sums its page so far, the last entries are the pages' sums. Assumes nothing.
use Prim.Native.Nat.{ℕ, zero, suc, ◌-◌, ◌≤◌}
use mathlib.Core.Path.{◌≡◌, refl, sym, ap, ◌∙◌, subst}
use mathlib.Core.List.{List, [], ◌∷◌}
use native.Mathlib.Nat.{le_refl, zero-add, add-zero, add_assoc, add-sub_cancel_left}
use native.Mathlib.Omega.{arith}
use lib.ListN.{length, take, drop, length-drop}
use Rattle.format.specs.Runs.{Span}
use Rattle.format.specs.PagedRuns.{plus, less, none, sums_from, level, lasts_from, lasts}
use Rattle.laws.proofs.Search.{Proper}

-- ---- sums of pairs

pub span_path : {a b c d : ℕ} → a ≡ c → b ≡ d → ◌≡◌ {A = Span} (record { cells = a; empty = b }) (record { cells = c; empty = d })
span_path p q = cc

pub none-plus : (x : Span) → plus none x ≡ x
none-plus x = span_path (zero-add x.cells) (zero-add x.empty)

pub plus_none : (x : Span) → plus x none ≡ x
plus_none x = span_path (add-zero x.cells) (add-zero x.empty)

pub plus_assoc : (a b c : Span) → plus (plus a b) c ≡ plus a (plus b c)
plus_assoc a b c = span_path (add_assoc a.cells b.cells c.cells) (add_assoc a.empty b.empty c.empty)

pub less-plus : (c x : Span) → less (plus c x) c ≡ x
less-plus c x = span_path (add-sub_cancel_left c.cells x.cells) (add-sub_cancel_left c.empty x.empty)

-- the sums of a page, and the page's whole sum
unfoldable pub running : Span → List Span → List Span
running a [] = []
running a (x ∷ xs) = plus a x ∷ running (plus a x) xs

unfoldable pub sum_of : Span → List Span → Span
sum_of a [] = a
sum_of a (x ∷ xs) = sum_of (plus a x) xs

-- ---- a level, page by page

sums-take : (b k : ℕ) (a : Span) (xs : List Span) → take k (sums_from b k a xs) ≡ running a (take k xs)
unfolding sums_from running
sums-take b zero a xs = refl
sums-take b (suc k) a [] = refl
sums-take b (suc k) a (x ∷ xs) = ap (λ (l : List Span). plus a x ∷ l) (sums-take b k (plus a x) xs)

sums-drop : (b k : ℕ) (a : Span) (xs : List Span) → drop k (sums_from b k a xs) ≡ level b (drop k xs)
unfolding sums_from level
sums-drop b zero a [] = refl
sums-drop b zero a (x ∷ xs) = refl
sums-drop b (suc k) a [] = refl
sums-drop b (suc k) a (x ∷ xs) = sums-drop b k (plus a x) xs

page-take : (b k : ℕ) (xs : List Span) → b - 1 ≡ k → take (suc k) (level b xs) ≡ running none (take (suc k) xs)
unfolding level running sums_from
page-take b k [] e = refl
page-take b k (x ∷ xs) e = rw (e, sums-take b k x xs, none-plus x)

page-drop : (b k : ℕ) (xs : List Span) → b - 1 ≡ k → drop (suc k) (level b xs) ≡ level b (drop (suc k) xs)
unfolding level sums_from
page-drop b k [] e = refl
page-drop b k (x ∷ xs) e = rw e (sums-drop b k x xs)

lasts_from_lem : (b k : ℕ) (y : Span) (xs : List Span) → lasts_from b k y (sums_from b k y xs) ≡ sum_of y (take k xs) ∷ lasts b (level b (drop k xs))
unfolding lasts_from sums_from sum_of lasts level
lasts_from_lem b zero y [] = refl
lasts_from_lem b (suc k) y [] = refl
lasts_from_lem b zero y (x ∷ xs) = refl
lasts_from_lem b (suc k) y (x ∷ xs) = lasts_from_lem b k (plus y x) xs

page-last : (b k : ℕ) (x : Span) (xs : List Span) → b - 1 ≡ k
    → lasts b (level b (x ∷ xs)) ≡ sum_of none (take (suc k) (x ∷ xs)) ∷ lasts b (level b (drop (suc k) (x ∷ xs)))
unfolding lasts level sums_from sum_of
page-last b k x xs e =
    rw e (lasts_from_lem b k x xs ∙ ap (λ (y : Span). sum_of y (take k xs) ∷ lasts b (level b (drop k xs))) (sym (none-plus x)))

-- the same with b for suc k
suc-less-one : (b : ℕ) → 1 ≤ b → suc (b - 1) ≡ b
suc-less-one b h = omega arith

pub level-take : (b : ℕ) (xs : List Span) → 1 ≤ b → take b (level b xs) ≡ running none (take b xs)
level-take b xs h = subst (λ (m : ℕ). take m (level b xs) ≡ running none (take m xs)) (suc-less-one b h) (page-take b (b - 1) xs refl)

pub level-drop : (b : ℕ) (xs : List Span) → 1 ≤ b → drop b (level b xs) ≡ level b (drop b xs)
level-drop b xs h = subst (λ (m : ℕ). drop m (level b xs) ≡ level b (drop m xs)) (suc-less-one b h) (page-drop b (b - 1) xs refl)

pub level-last : (b : ℕ) (x : Span) (xs : List Span) → 1 ≤ b
    → lasts b (level b (x ∷ xs)) ≡ sum_of none (take b (x ∷ xs)) ∷ lasts b (level b (drop b (x ∷ xs)))
level-last b x xs h =
    subst (λ (m : ℕ). lasts b (level b (x ∷ xs)) ≡ sum_of none (take m (x ∷ xs)) ∷ lasts b (level b (drop m (x ∷ xs))))
    (suc-less-one b h) (page-last b (b - 1) x xs refl)

-- ---- sums and pages of proper pairs are proper

abbrev pub Ok : Span → Type 0
Ok x = x.empty ≤ x.cells

sum_from : (a : Span) (xs : List Span) → sum_of a xs ≡ plus a (sum_of none xs)
unfolding sum_of
sum_from a [] = sym (plus_none a)
sum_from a (x ∷ xs) = sum_from (plus a x) xs ∙ plus_assoc a x (sum_of none xs) ∙ ap (plus a) (sym (rw (none-plus x) (sum_from x xs)))

pub sum_cons : (x : Span) (xs : List Span) → sum_of none (x ∷ xs) ≡ plus x (sum_of none xs)
unfolding sum_of
sum_cons x xs = ap (λ (y : Span). sum_of y xs) (none-plus x) ∙ sum_from x xs

pub ok_sum : (a : Span) (xs : List Span) → Ok a → Proper xs → Ok (sum_of a xs)
unfolding sum_of
ok_sum a [] h o = h
ok_sum a (x ∷ xs) h o = ok_sum (plus a x) xs (omega arith) o.1

pub proper_take : (n : ℕ) (xs : List Span) → Proper xs → Proper (take n xs)
proper_take zero xs o = tt
proper_take (suc n) [] o = tt
proper_take (suc n) (x ∷ xs) o = (o.0, proper_take n xs o.1)

pub proper_drop : (n : ℕ) (xs : List Span) → Proper xs → Proper (drop n xs)
proper_drop zero xs o = o
proper_drop (suc n) [] o = tt
proper_drop (suc n) (x ∷ xs) o = proper_drop n xs o.1

pub shorter : (b n : ℕ) (x : Span) (xs : List Span) → 1 ≤ b → length (x ∷ xs) ≤ suc n → length (drop b (x ∷ xs)) ≤ n
shorter b n x xs f h = rw (length-drop b (x ∷ xs)) (omega arith)

pub proper_lasts : (b n : ℕ) (xs : List Span) → 1 ≤ b → length xs ≤ n → Proper xs → Proper (lasts b (level b xs))
proper_lasts b zero [] f h o = unfold lasts level sums_from in tt
proper_lasts b zero (x ∷ xs) f h o = absurd (omega arith)
proper_lasts b (suc n) [] f h o = unfold lasts level sums_from in tt
proper_lasts b (suc n) (x ∷ xs) f h o =
    rw (level-last b x xs f)
    (ok_sum none (take b (x ∷ xs)) (le_refl 0) (proper_take b (x ∷ xs) o), proper_lasts b n (drop b (x ∷ xs)) f (shorter b n x xs f h) (proper_drop b (x ∷ xs) o))

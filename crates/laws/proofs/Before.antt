-- The number of stored cells before a cell (document 02, S-9): at both ends of a picture, and from one place to another. Assumes nothing.
use Prim.Native.Nat.{ℕ, suc, ◌+◌, ◌-◌, ◌≤◌, ◌<◌}
use mathlib.Core.Path.{◌≡◌, refl, sym, ap, ◌∙◌}
use mathlib.Core.List.{List, [], ◌∷◌, ◌++◌}
use native.Mathlib.Omega.{arith}
use lib.ListN.{length, get_or, take, drop, length-append, take-append-drop}
use lib.Seq.{take-add, take-suc}
use lib.Dec.{eqb}
use borrow.Author.Tests.{eq-eqb, lt-ltb}
use Rattle.format.specs.Stored.{stored, kept, rank_at}
use Rattle.format.specs.Answers.{Answer, refused, empty, given}
use Rattle.format.specs.Lookups.{rank_in}
use Rattle.laws.proofs.Tools.{cases}
use Rattle.laws.proofs.Stored.{length-stored, stored-kept, kept_append}

rank-kept : (E : ℕ) (ws : List ℕ) (p : ℕ) → rank_at E ws p ≡ length (kept E (take p ws))
unfolding rank_at stored
rank-kept E ws p = length-stored E 0 (take p ws)

-- all these words are E
abbrev pub AllEmpty : ℕ → List ℕ → Type 0
AllEmpty E ws = (i : ℕ) → i < length ws → get_or ws i 0 ≡ E

none_kept : (E : ℕ) (ws : List ℕ) → AllEmpty E ws → kept E ws ≡ []
unfolding kept
none_kept E [] a = refl
none_kept E (x ∷ ws) a = rw (eq-eqb x E (a 0 (omega arith))) (none_kept E ws (λ i h. a (suc i) (omega arith)))

-- an empty cell gives the number of stored cells before it: 0 before the first stored cell, N after the last
pub empty-before : (E p : ℕ) (ws : List ℕ) → p < length ws → get_or ws p 0 ≡ E → rank_in E ws p ≡ empty (rank_at E ws p)
unfolding rank_in
empty-before E p ws h e = rw (lt-ltb p (length ws) h, eq-eqb (get_or ws p 0) E e)

pub before-first : (E p : ℕ) (ws : List ℕ) → AllEmpty E (take p ws) → rank_at E ws p ≡ 0
before-first E p ws a = rank-kept E ws p ∙ ap length (none_kept E (take p ws) a)

pub after_last : (E p : ℕ) (ws : List ℕ) → AllEmpty E (drop p ws) → rank_at E ws p ≡ length (stored E ws)
after_last E p ws a =
    let k : kept E ws ≡ kept E (take p ws) ++ kept E (drop p ws) = ap (kept E) (sym (take-append-drop p ws)) ∙ kept_append E (take p ws) (drop p ws) in
    let n : length (kept E ws) ≡ length (kept E (take p ws)) + length (kept E (drop p ws)) = ap length k ∙ length-append (kept E (take p ws)) (kept E (drop p ws)) in
    let z : length (kept E (drop p ws)) ≡ 0 = ap length (none_kept E (drop p ws) a) in
    let s = stored-kept E ws in
    let r = rank-kept E ws p in
    omega arith

-- ---- from one place to another, both inclusive: a subtraction

-- the stored cells before a cell, and those up to and including it, by the answer at it
abbrev pub before_it : Answer → ℕ
before_it (refused n) = 0
before_it (empty n) = n
before_it (given r) = r

abbrev pub through_it : Answer → ℕ
through_it (refused n) = 0
through_it (empty n) = n
through_it (given r) = suc r

before_is : (E p : ℕ) (ws : List ℕ) → p < length ws → before_it (rank_in E ws p) ≡ length (kept E (take p ws))
unfolding rank_in
before_is E p ws h = cases (eqb (get_or ws p 0) E) (λ t. rw (lt-ltb p (length ws) h, t) (rank-kept E ws p)) (λ t. rw (lt-ltb p (length ws) h, t) (rank-kept E ws p))

through_is : (E p : ℕ) (ws : List ℕ) → p < length ws → through_it (rank_in E ws p) ≡ length (kept E (take (suc p) ws))
unfolding rank_in kept
through_is E p ws h =
    let s : kept E (take (suc p) ws) ≡ kept E (take p ws) ++ kept E (get_or ws p 0 ∷ [])
    = ap (kept E) (take-suc ws p 0 h) ∙ kept_append E (take p ws) (get_or ws p 0 ∷ []) in
    let n = ap length s ∙ length-append (kept E (take p ws)) (kept E (get_or ws p 0 ∷ [])) in
    let r = rank-kept E ws p in
    cases (eqb (get_or ws p 0) E)
    (λ t. let m = rw t at n in rw (lt-ltb p (length ws) h, t) (omega arith))
    (λ t. let m = rw t at n in rw (lt-ltb p (length ws) h, t) (omega arith))

pub between : (E p q : ℕ) (ws : List ℕ) → p ≤ q → q < length ws
    → length (stored E (take (suc q - p) (drop p ws))) ≡ through_it (rank_in E ws q) - before_it (rank_in E ws p)
between E p q ws h k =
    let l : suc q ≡ p + (suc q - p) = omega arith in
    let s : kept E (take (suc q) ws) ≡ kept E (take p ws) ++ kept E (take (suc q - p) (drop p ws))
    = ap (λ (i : ℕ). kept E (take i ws)) l ∙ ap (kept E) (take-add p (suc q - p) ws) ∙ kept_append E (take p ws) (take (suc q - p) (drop p ws)) in
    let n = ap length s ∙ length-append (kept E (take p ws)) (kept E (take (suc q - p) (drop p ws))) in
    let a = stored-kept E (take (suc q - p) (drop p ws)) in
    let b = before_is E p ws (omega arith) in
    let c = through_is E q ws k in
    omega arith

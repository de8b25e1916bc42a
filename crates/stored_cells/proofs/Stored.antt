-- Laws of the stored cells, cell by cell and group by group. Assumes nothing.
use Prim.Native.Nat.{ℕ, suc, ◌+◌, ◌≤◌, ◌<◌}
use mathlib.Core.Path.{◌≡◌, refl, sym, ap, ◌∙◌}
use mathlib.Core.Bool.{Bool, true, false, not, ◌&&◌}
use mathlib.Core.List.{List, [], ◌∷◌, ◌++◌, append-nil}
use native.Mathlib.Nat.{le_refl, add-zero}
use native.Mathlib.Numerals.{add-one}
use native.Mathlib.Omega.{arith}
use lib.ListN.{length, take, drop, get_or, set, length-drop, take-append-drop, drop_of_length-le}
use lib.Seq.{drop-cons, drop-drop, take-set-le, take-suc-set, append_snoc, length-take-le}
use lib.Dec.{eqb}
use mir.Val.{bool_byte}
use Rattle.format.specs.Tools.{both, every, unless}
use Rattle.format.specs.Stored.{stored_from}
use Rattle.laws.proofs.Tools.{cases, both_true, both_and}
use Rattle.laws.proofs.Stored.{stored-append}

-- a test as a number
pub flag_most : (t : Bool) → bool_byte t ≤ 1
flag_most true = omega arith
flag_most false = omega arith

-- ---- a group

-- each number of the list is e
abbrev pub empties : ℕ → List ℕ → Bool
empties e xs = every (λ x. eqb x e) xs

none-stored : (E p : ℕ) (xs : List ℕ) → empties E xs ≡ true → stored_from E p xs ≡ []
unfolding stored_from
none-stored E p [] t = refl
none-stored E p (x ∷ xs) t =
    let b = both_true (eqb x E) (empties E xs) t in
    rw b.0 (none-stored E (suc p) xs b.1)

-- what is listed so far, then the stored cells from index i on
abbrev pub listed_from : ℕ → ℕ → List ℕ → List ℕ → ℕ → ℕ → List ℕ
listed_from E at ws out n i = take n out ++ stored_from E (at + i) (drop i ws)

pub group_skipped : (E at : ℕ) (ws out : List ℕ) (n i m : ℕ) → i + m ≤ length ws → empties E (take m (drop i ws)) ≡ true
    → listed_from E at ws out n (i + m) ≡ listed_from E at ws out n i
group_skipped E at ws out n i m h t =
    let group : List ℕ = take m (drop i ws) in
    let l : m ≤ length (drop i ws) = rw (length-drop i ws) (omega arith) in
    let k : length group ≡ m = length-take-le m (drop i ws) l in
    let cut : drop i ws ≡ group ++ drop (i + m) ws = sym (take-append-drop m (drop i ws)) ∙ ap (λ (xs : List ℕ). group ++ xs) (drop-drop m i ws) in
    let e : at + i + m ≡ at + (i + m) = omega arith in
    let s : stored_from E (at + i) (drop i ws) ≡ stored_from E (at + (i + m)) (drop (i + m) ws)
    = ap (stored_from E (at + i)) cut ∙ stored-append E (at + i) group (drop (i + m) ws) ∙ rw (none-stored E (at + i) group t, k, e) in
    ap (λ (xs : List ℕ). take n out ++ xs) (sym s)

-- a loop along a group: one turn, and the end
pub all_turn : (E : ℕ) (xs : List ℕ) (i : ℕ) (b : Bool) → i < length xs
    → both (b && eqb (get_or xs i 0) E) (empties E (drop (i + 1) xs)) ≡ both b (empties E (drop i xs))
all_turn E xs i b h = rw (add-one i, drop-cons xs i 0 h) (both_and b (eqb (get_or xs i 0) E) _)

pub all_end : (E : ℕ) (xs : List ℕ) (i : ℕ) (b : Bool) → length xs ≤ i → b ≡ both b (empties E (drop i xs))
all_end E xs i true h = rw (drop_of_length-le xs {i = i} h)
all_end E xs i false h = refl

-- ---- a cell

cell_turn : (E at : ℕ) (ws : List ℕ) (i : ℕ) → i < length ws
    → stored_from E (at + i) (drop i ws) ≡ unless (eqb (get_or ws i 0) E) (at + i) (stored_from E (at + (i + 1)) (drop (i + 1) ws))
unfolding stored_from
cell_turn E at ws i h =
    let e : at + (i + 1) ≡ suc (at + i) = omega arith in
    rw (e, drop-cons ws i 0 h, add-one)

-- a loop along cells: each position is put at the end of the list, and stays there where the cell is stored
pub list_turn : (E at : ℕ) (ws out : List ℕ) (n i : ℕ) → i < length ws → n < length out
    → listed_from E at ws (set out n (at + i)) (n + bool_byte (not (eqb (get_or ws i 0) E))) (i + 1) ≡ listed_from E at ws out n i
list_turn E at ws out n i h k =
    cases (eqb (get_or ws i 0) E)
    (λ t. rw (cell_turn E at ws i h, t, add-zero n, take-set-le n out n (at + i) (le_refl n)))
    (λ t.
    rw (cell_turn E at ws i h, t, add-one n, take-suc-set out n (at + i) k)
    (append_snoc (take n out) (at + i) (stored_from E (at + (i + 1)) (drop (i + 1) ws))))

-- all cells passed
pub all_listed : (E at : ℕ) (ws out : List ℕ) (n : ℕ) → n ≤ length out → listed_from E at ws out n (length ws) ≡ stored_from E at ws
    → (n ≡ length (stored_from E at ws)) × (take n out ≡ stored_from E at ws)
unfolding stored_from
all_listed E at ws out n h q =
    let e : take n out ≡ stored_from E at ws = (rw (drop_of_length-le ws {i = length ws} (le_refl (length ws)), append-nil) at q) in
    (sym (length-take-le n out h) ∙ ap length e, e)

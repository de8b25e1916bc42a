-- The digits of a number: how many they are, one digit at a time, and that read back they are the number. Assumes nothing.
use Prim.Native.Nat.{ℕ, zero, suc, ◌+◌, ◌-◌, ◌*◌, ◌/◌, ◌%◌, ◌^◌, ◌≤◌, ◌<◌}
use mathlib.Core.Path.{◌≡◌, refl, sym, ap, ◌∙◌}
use mathlib.Core.List.{List, [], ◌∷◌, ◌++◌}
use native.Mathlib.Nat.{pow-suc, div-add-mod}
use native.Mathlib.Omega.{arith}
use lib.ListN.{length, length-append}
use lib.Dec.{ltb}
use borrow.Author.Tests.{ltb-true, ltb-false, lt-ltb, le-ltb}
use Rattle.format.specs.Tools.{first}
use Rattle.format.specs.Lister.{digits, decimal}
use Rattle.laws.proofs.Tools.{cases}

-- a number of one digit, and of more
digits-one : (k n : ℕ) → n < 10 → digits (suc k) n ≡ (48 + n) ∷ []
unfolding digits
digits-one k n h =
    let e : n % 10 ≡ n = omega arith in
    rw (lt-ltb n 10 h, e)

digits_more : (k n : ℕ) → 10 ≤ n → digits (suc k) n ≡ digits k (n / 10) ++ ((48 + n % 10) ∷ [])
unfolding digits
digits_more k n h = rw (le-ltb n 10 h)

-- one digit less
tenth : (k n : ℕ) → n < 10 ^ suc k → n / 10 < 10 ^ k
tenth k n h = let e = pow-suc 10 k in omega (arith, rw pow-suc at h)

-- as many digits as there may be
digits_enough : (k n : ℕ) → n < 10 ^ suc k → digits (suc (suc k)) n ≡ digits (suc k) n
digits_enough zero n h = let s : n < 10 = h in digits-one 1 n s ∙ sym (digits-one 0 n s)
digits_enough (suc k) n h =
    cases (ltb n 10)
    (λ t. let s = ltb-true n 10 t in digits-one (suc (suc k)) n s ∙ sym (digits-one (suc k) n s))
    (λ t.
    let s : 10 ≤ n = ltb-false n 10 t in
    digits_more (suc (suc k)) n s ∙ ap (λ (l : List ℕ). l ++ ((48 + n % 10) ∷ [])) (digits_enough k (n / 10) (tenth (suc k) n h)) ∙ sym (digits_more (suc k) n s))

length-one : (j n : ℕ) → n < 10 → length (digits j n) ≤ 1
unfolding digits
length-one zero n h = omega arith
length-one (suc j) n h = rw (digits-one j n h) (omega arith)

length_more : (j n : ℕ) → 10 ≤ n → length (digits (suc j) n) ≡ suc (length (digits j (n / 10)))
length_more j n h = rw (digits_more j n h, length-append (digits j (n / 10)) ((48 + n % 10) ∷ [])) (omega arith)

length_digits : (j k n : ℕ) → n < 10 ^ suc k → length (digits j n) ≤ suc k
length_digits j zero n h = length-one j n h
length_digits zero (suc k) n h = unfold digits in omega arith
length_digits (suc j) (suc k) n h =
    cases (ltb n 10)
    (λ t. let r = length-one (suc j) n (ltb-true n 10 t) in omega arith)
    (λ t. let r = length_digits j k (n / 10) (tenth (suc k) n h) in rw (length_more j n (ltb-false n 10 t)) (omega arith))

length_fuel : (k n : ℕ) → length (digits k n) ≤ k
length_fuel zero n = unfold digits in omega arith
length_fuel (suc k) n =
    cases (ltb n 10)
    (λ t. let r = length-one (suc k) n (ltb-true n 10 t) in omega arith)
    (λ t. let r = length_fuel k (n / 10) in rw (length_more k n (ltb-false n 10 t)) (omega arith))

-- ---- n in decimal, for the n that have at most 10 digits

-- a number below 10^(k + 1) has at most k + 1 digits
pub length-decimal : (k n : ℕ) → n < 10 ^ suc k → length (decimal n) ≤ suc k
unfolding decimal
length-decimal k n h = length_digits 10 k n h

pub decimal-most : (n : ℕ) → length (decimal n) ≤ 10
unfolding decimal
decimal-most n = length_fuel 10 n

pub decimal-one : (n : ℕ) → n < 10 → decimal n ≡ (48 + n) ∷ []
unfolding decimal
decimal-one n h = digits-one 9 n h

pub decimal_more : (n : ℕ) → n < 10 ^ 10 → 10 ≤ n → decimal n ≡ decimal (n / 10) ++ ((48 + n % 10) ∷ [])
unfolding decimal
decimal_more n h k = digits_more 9 n k ∙ ap (λ (l : List ℕ). l ++ ((48 + n % 10) ∷ [])) (sym (digits_enough 8 (n / 10) (tenth 9 n h)))

pub length-decimal_more : (n : ℕ) → n < 10 ^ 10 → 10 ≤ n → length (decimal n) ≡ length (decimal (n / 10)) + 1
length-decimal_more n h k = rw (decimal_more n h k, length-append (decimal (n / 10)) ((48 + n % 10) ∷ []))

-- one digit, or more, by how many there are
pub decimal-some : (n : ℕ) → 1 ≤ length (decimal n)
unfolding decimal
decimal-some n = cases (ltb n 10) (λ t. rw (digits-one 9 n (ltb-true n 10 t)) (omega arith)) (λ t. rw (length_more 9 n (ltb-false n 10 t)) (omega arith))

pub decimal-short : (n : ℕ) → n < 10 ^ 10 → length (decimal n) ≤ 1 → n < 10
decimal-short n h k =
    cases (ltb n 10) (λ t. ltb-true n 10 t) (λ t. absurd (omega (arith, k, length-decimal_more n h (ltb-false n 10 t), decimal-some (n / 10))))

pub decimal-long : (n : ℕ) → 2 ≤ length (decimal n) → 10 ≤ n
decimal-long n h =
    cases (ltb n 10) (λ t. absurd (omega (arith, h, ap length (decimal-one n (ltb-true n 10 t))))) (λ t. ltb-false n 10 t)

-- ---- the digits read back

-- the number that digits stand for, after digits that stand for a
unfoldable pub reading : ℕ → List ℕ → ℕ
reading a [] = a
reading a (d ∷ ds) = reading (10 * a + (d - 48)) ds

reading_last : (a : ℕ) (ds : List ℕ) (d : ℕ) → reading a (ds ++ (d ∷ [])) ≡ 10 * reading a ds + (d - 48)
unfolding reading
reading_last a [] d = refl
reading_last a (e ∷ ds) d = reading_last (10 * a + (e - 48)) ds d

reading_digits : (k n : ℕ) → n < 10 ^ k → reading 0 (digits k n) ≡ n
unfolding reading digits
reading_digits zero n h = let s : n < 1 = h in omega arith
reading_digits (suc k) n h =
    cases (ltb n 10)
    (λ t. rw (digits-one k n (ltb-true n 10 t)) (omega arith))
    (λ t.
    rw (digits_more k n (ltb-false n 10 t), reading_last 0 (digits k (n / 10)) (48 + n % 10), reading_digits k (n / 10) (tenth k n h))
    (omega (arith, div-add-mod n 10)))

-- a digit's byte
abbrev pub Digit : ℕ → Type 0
Digit d = (48 ≤ d) × (d ≤ 57)

abbrev pub Digits : List ℕ → Type 0
Digits [] = Unit
Digits (d ∷ ds) = Digit d × Digits ds

digits_last : (ds : List ℕ) (d : ℕ) → Digits ds → Digit d → Digits (ds ++ (d ∷ []))
digits_last [] d h k = (k, tt)
digits_last (e ∷ ds) d h k = (h.0, digits_last ds d h.1 k)

all_digits : (k n : ℕ) → Digits (digits k n)
unfolding digits
all_digits zero n = tt
all_digits (suc k) n =
    cases (ltb n 10)
    (λ t. let s = ltb-true n 10 t in rw (digits-one k n s) ((omega arith, omega arith), tt))
    (λ t. rw (digits_more k n (ltb-false n 10 t)) (digits_last (digits k (n / 10)) (48 + n % 10) (all_digits k (n / 10)) (omega arith, omega arith)))

first-append : (xs ys : List ℕ) → 0 < first xs → first (xs ++ ys) ≡ first xs
first-append [] ys h = absurd (omega arith)
first-append (x ∷ xs) ys h = refl

leading : (k n : ℕ) → 0 < n → n < 10 ^ k → 48 < first (digits k n)
leading zero n p h = let s : n < 1 = h in absurd (omega arith)
leading (suc k) n p h =
    cases (ltb n 10)
    (λ t. rw (digits-one k n (ltb-true n 10 t)) (omega arith))
    (λ t.
    let s = ltb-false n 10 t in
    let r = leading k (n / 10) (omega arith) (tenth k n h) in
    rw (digits_more k n s, first-append (digits k (n / 10)) ((48 + n % 10) ∷ []) (omega arith)) r)

-- what makes `decimal n` the decimal form of a number of 32 bits: digits, that read back are n, the first not 0 where n is not 0
pub record DecimalForm (n : ℕ) : Type 0 where
  pub bytes : Digits (decimal n)
  pub value : reading 0 (decimal n) ≡ n
  pub lead : 0 < n → 48 < first (decimal n)

pub decimal_form : (n : ℕ) → n < 2 ^ 32 → DecimalForm n
unfolding decimal
decimal_form n h =
    let s : n < 10 ^ 10 = omega arith in
    record { bytes = all_digits 10 n; value = reading_digits 10 n s; lead = λ p. leading 10 n p s }

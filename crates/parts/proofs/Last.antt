-- A search for the last number that is at most x, by counts: one turn, and its end. Assumes nothing.
use Rattle.std.proofs.Common.{◌≡◌, ℕ, zero, suc, ◌+◌, ◌-◌, ◌*◌, ◌/◌, ◌<◌, ◌≤◌, Bool, true, false, leb, List, length, sym, refl, ap, ◌∙◌, ⊎_elim, true≢false, mul_assoc, eq-or-lt_of_le, mul-le-mul_left, mul-zero, mul-suc, add-one, arith, le-leb, leb-false, leb-true}
use Rattle.std.specs.Int.{from_bool}
use Rattle.format.specs.Tools.{pick}
use Rattle.laws.proofs.Tools.{cases}
use Rattle.wire.specs.Wire.{whole}
use Rattle.wire.proofs.Laws.{whole-past}
use Rattle.parts.specs.Last.{Ascending, LastAtMost, passing}

-- ---- tests that pass up to a place

pub passing_as : (s t : ℕ → Bool) (n : ℕ) → ((i : ℕ) → s i ≡ t i) → passing s n ≡ passing t n
unfolding passing
passing_as s t zero h = refl
passing_as s t (suc n) h = rw (passing_as s t n h, h (suc n))

pub passing-none : (t : ℕ → Bool) → 0 ≡ passing t 0
unfolding passing
passing-none t = refl

pub passing-next : (t : ℕ → Bool) (n m : ℕ) → m ≡ pick (t (n + 1)) 1 0 → passing t n + m ≡ passing t (n + 1)
passing-next t n m h = rw (h, add-one n) (unfold passing in refl)

-- a test as a number
pub picked : (t : Bool) (n : ℕ) → n ≡ from_bool t → (n ≡ pick t 1 0) × (n ≤ 1)
picked true n e = rw e (refl, omega arith)
picked false n e = rw e (refl, omega arith)

-- the tests 1 to c pass, and those after them up to n fail
record Upto (t : ℕ → Bool) (n c : ℕ) : Type 0 where
  most : c ≤ n
  pass : (i : ℕ) → 0 < i → i ≤ c → t i ≡ true
  fail : (i : ℕ) → c < i → i ≤ n → t i ≡ false

-- where a test that passes has all before it pass, their number tells which pass
counted_upto : (t : ℕ → Bool) (n : ℕ) → ((i j : ℕ) → 0 < i → i < j → j ≤ n → t j ≡ true → t i ≡ true) → Upto t n (passing t n)
unfolding passing
counted_upto t zero h = record { most = omega arith; pass = λ i k l. absurd (omega arith); fail = λ i k l. absurd (omega arith) }
counted_upto t (suc n) h =
    let u = counted_upto t n (λ i j k l m. h i j k l (omega arith)) in
    more t n (passing t n) h u
  where
    more : (t : ℕ → Bool) (n c : ℕ) → ((i j : ℕ) → 0 < i → i < j → j ≤ suc n → t j ≡ true → t i ≡ true) → Upto t n c → Upto t (suc n) (c + pick (t (suc n)) 1 0)
    more t n c h u =
        let m = u.most in
        cases (t (suc n))
        (λ p.
        let e : c ≡ n
        = cases (leb n c) (λ q. let z = leb-true n c q in omega arith)
        (λ q.
        let z = leb-false n c q in
        absurd (true≢false (sym (h (suc c) (suc n) (omega arith) (omega arith) (omega arith) p) ∙ u.fail (suc c) (omega arith) (omega arith)))) in
        rw p
        (record {
          most = omega arith;
          pass = λ i k l. ⊎_elim (λ q. rw q p) (λ q. u.pass i k (omega arith)) (eq-or-lt_of_le {n = i} {m = suc n} (omega arith));
          fail = λ i k l. absurd (omega arith);
        }))
        (λ p.
        rw p
        (record {
          most = omega arith;
          pass = λ i k l. u.pass i k (omega arith);
          fail = λ i k l. ⊎_elim (λ q. rw q p) (λ q. u.fail i (omega arith) (omega arith)) (eq-or-lt_of_le {n = i} {m = suc n} l);
        }))

-- ---- the search

-- before a turn: `size` numbers from `low` on are left, and, where they rise, all after those are above x
pub record Left (e : ℕ → ℕ) (n x low size : ℕ) : Type 0 where
  pub within : low + size ≤ n
  pub some : 0 < size
  pub below : Ascending e n → 0 < low → e low ≤ x
  pub above : Ascending e n → (k : ℕ) → low + size ≤ k → k < n → x < e k

pub left-all : (e : ℕ → ℕ) (n x : ℕ) → 0 < n → Left e n x 0 n
left-all e n x h = record { within = omega arith; some = h; below = λ a k. absurd (omega arith); above = λ a k i j. absurd (omega arith) }

-- the first of m + 1 parts whose successor begins above x, or the last
module _ (e : ℕ → ℕ) (n x low size part m : ℕ) (l : Left e n x low size) (some : 0 < part) (room : part * m + part ≤ size) where
  abbrev test : ℕ → Bool
  test i = leb (e (low + part * i)) x

  begins : (i : ℕ) → i ≤ m → low + part * i + part ≤ low + size
  begins i h = let z = mul-le-mul_left part h in omega arith

  falls : Ascending e n → (i j : ℕ) → 0 < i → i < j → j ≤ m → test j ≡ true → test i ≡ true
  falls a i j h k g t =
      let w = l.within in
      let b = begins j g in
      let y = leb-true (e (low + part * j)) x t in
      let z = mul-le-mul_left part k in
      let q = a (low + part * i) (low + part * j) (omega (arith, mul-suc part i)) (omega arith) in
      le-leb (e (low + part * i)) x (omega arith)

  module _ (c : ℕ) (f : c ≡ passing test m) (g : c ≤ m) where
    upto : Ascending e n → Upto test m c
    upto a = rw f (counted_upto test m (falls a))

    first_below : Ascending e n → 0 < low + part * c → e (low + part * c) ≤ x
    first_below a h =
        cases (leb c 0)
        (λ t.
        let y = leb-true c 0 t in
        let z : c ≡ 0 = omega arith in
        let q : low + part * c ≡ low = rw (z, mul-zero part) (omega arith) in
        rw q (l.below a (omega arith)))
        (λ t. let y = leb-false c 0 t in leb-true (e (low + part * c)) x ((upto a).pass c (omega arith) (omega arith)))

    rest_above : Ascending e n → (k : ℕ) → low + part * c + (size - part * m) ≤ k → k < n → x < e k
    rest_above a k i j =
        cases (leb m c)
        (λ t.
        let y = leb-true m c t in
        let z : part * c ≡ part * m = ap (λ (d : ℕ). part * d) (omega arith) in
        l.above a k (omega arith) j)
        (λ t.
        let y = leb-false m c t in
        let h = leb-false (e (low + part * suc c)) x ((upto a).fail (suc c) (omega arith) (omega arith)) in
        let b = mul-suc part c in
        ⊎_elim (λ q. rw (← q) h) (λ q. let z = a (low + part * suc c) k q j in omega arith)
        (eq-or-lt_of_le {n = low + part * suc c} {m = k} (omega arith)))

    pub left_part : Left e n x (low + part * c) (size - part * m)
    left_part =
        let w = l.within in
        let b = mul-le-mul_left part g in
        record { within = omega arith; some = omega arith; below = first_below; above = rest_above }

pub left_one : (e : ℕ → ℕ) (n x low size : ℕ) → Left e n x low size → size ≤ 1 → LastAtMost e n x low
left_one e n x low size l h =
    let w = l.within in
    let s = l.some in
    record { within = λ z. omega arith; low = l.below; high = λ a k i j. l.above a k (omega arith) j }

-- a turn goes on in an eighth, and the last counts what is left
module _ (e : ℕ → ℕ) (n x low size : ℕ) (l : Left e n x low size) (c : ℕ) where
  pub left_eighth : 8 ≤ size → c ≡ passing (λ i. leb (e (low + size / 8 * i)) x) 7 → c ≤ 7 → Left e n x (low + size / 8 * c) (size - 7 * (size / 8))
  left_eighth h f g =
      let z : size / 8 * 7 ≡ 7 * (size / 8) = omega arith in
      rw z at (left_part e n x low size (size / 8) 7 l (omega arith) (omega arith) c f g)

  pub left_rest : c ≡ passing (λ i. leb (e (low + 1 * i)) x) (size - 1) → c ≤ size - 1 → LastAtMost e n x (low + c)
  left_rest f g =
      let s = l.some in
      let z : low + 1 * c ≡ low + c = omega arith in
      rw z at (left_one e n x (low + 1 * c) (size - 1 * (size - 1)) (left_part e n x low size 1 (size - 1) l (omega arith) (omega arith) c f g) (omega arith))

-- numbers of which each is below the next
pub ascending_by : (e : ℕ → ℕ) (n : ℕ) → ((i : ℕ) → suc i < n → e i < e (suc i)) → Ascending e n
ascending_by e n h i zero k g = absurd (omega arith)
ascending_by e n h i (suc j) k g =
    let b = h j g in
    ⊎_elim (λ q. rw q b) (λ q. let a = ascending_by e n h i j q (omega arith) in omega arith) (eq-or-lt_of_le {n = i} {m = j} (omega arith))

-- of the same numbers
pub last_as : (e t : ℕ → ℕ) (n x r : ℕ) → ((i : ℕ) → e i ≡ t i) → LastAtMost e n x r → LastAtMost t n x r
last_as e t n x r s l =
    let rise : Ascending t n → Ascending e n = λ a i j h g. rw (s i, s j) (a i j h g) in
    record { within = l.within; low = λ a h. rw (← s r) (l.low (rise a) h); high = λ a k i j. rw (← s k) (l.high (rise a) k i j) }

-- all of n numbers counted but the first
pub last-counted : (e t : ℕ → ℕ) (n x c : ℕ) → 0 < n → ((i : ℕ) → t i ≡ e i) → c ≡ passing (λ i. leb (t i) x) (n - 1) → c ≤ n - 1 → LastAtMost e n x c
last-counted e t n x c h s f g =
    let p : passing (λ i. leb (t i) x) (n - 1) ≡ passing (λ i. leb (e (0 + 1 * i)) x) (n - 1)
    = passing_as _ _ (n - 1) (λ i. let y : 0 + 1 * i ≡ i = omega arith in rw (y, s i)) in
    let z : 0 + c ≡ c = omega arith in
    rw z at (left_rest e n x 0 n (left-all e n x h) c (f ∙ p) g)

-- ---- among numbers of 4 bytes

abbrev pub numbers : List ℕ → ℕ → ℕ → ℕ
numbers b at i = whole 4 (at + 4 * i) b

pub last_none : (e : ℕ → ℕ) (n x : ℕ) → n ≡ 0 → LastAtMost e n x 0
last_none e n x z = record { within = λ h. absurd (omega arith); low = λ a h. absurd (omega arith); high = λ a k h g. absurd (omega arith) }

-- numbers that end in 0 do not rise, or there is one
pub last-zero : (e : ℕ → ℕ) (n x : ℕ) → e (n - 1) ≡ 0 → LastAtMost e n x 0
last-zero e n x z =
    record {
      within = λ k. k;
      low = λ a k. absurd (omega arith);
      high = λ a k i j. let y = a 0 (n - 1) (omega arith) (omega arith) in absurd (omega arith);
    }

pub last-cut : (b : List ℕ) (at n x : ℕ) → (n ≡ 0 → ⊥) → length b < at + 4 * n → LastAtMost (numbers b at) n x 0
last-cut b at n x z h = last-zero (numbers b at) n x (whole-past 4 (at + 4 * (n - 1)) b (omega arith))

-- the numbers at a stride from one of them
stride_as : (b : List ℕ) (at low part x n : ℕ)
    → passing (λ i. leb (whole 4 (at + 4 * low + 4 * part * i) b) x) n ≡ passing (λ i. leb (numbers b at (low + part * i)) x) n
stride_as b at low part x n =
    passing_as (λ i. leb (whole 4 (at + 4 * low + 4 * part * i) b) x) (λ i. leb (numbers b at (low + part * i)) x) n
    (λ i.
    let e : at + 4 * low + 4 * part * i ≡ at + 4 * (low + part * i) = omega (arith, mul_assoc 4 part i) in
    rw e)

module _ (b : List ℕ) (at n x low size : ℕ) (l : Left (numbers b at) n x low size) (c : ℕ) where
  pub eighth : 8 ≤ size → c ≡ passing (λ i. leb (whole 4 (at + 4 * low + 4 * (size / 8) * i) b) x) 7 → c ≤ 7
      → Left (numbers b at) n x (low + size / 8 * c) (size - 7 * (size / 8))
  eighth h e g = left_eighth (numbers b at) n x low size l c h (e ∙ stride_as b at low (size / 8) x 7) g

  pub last_part : c ≡ passing (λ i. leb (whole 4 (at + 4 * low + 4 * i) b) x) (size - 1) → c ≤ size - 1 → LastAtMost (numbers b at) n x (low + c)
  last_part e g =
      let f : passing (λ i. leb (whole 4 (at + 4 * low + 4 * i) b) x) (size - 1) ≡ passing (λ i. leb (numbers b at (low + 1 * i)) x) (size - 1)
      = passing_as _ _ (size - 1) (λ i. let y : at + 4 * low + 4 * i ≡ at + 4 * (low + 1 * i) = omega arith in rw y) in
      left_rest (numbers b at) n x low size l c (e ∙ f) g

-- Falls counted one by one. Assumes nothing.
use Rattle.std.proofs.Common.{◌≡◌, ℕ, suc, ◌+◌, ◌-◌, ◌*◌, ◌%◌, ◌^◌, ◌<◌, ◌≤◌, Bool, true, false, not, ◌||◌, ltb, leb, List, refl, arith, le-ltb, lt-ltb, leb-false, leb-true}
use Rattle.std.specs.Int.{from_bool}
use Rattle.laws.proofs.Tools.{cases}
use Rattle.wire.specs.declared.Pair.{Pair}
use Rattle.wire.specs.Wire.{field_pair}
use Rattle.rises.specs.Falls.{fallen, follows, pair_falls}

-- a difference by wrapping, where there is one
sub_wraps : (r a b : ℕ) → r < 2 ^ 32 → b < a → (r + b) % 2 ^ 32 ≡ a → r ≡ a - b
sub_wraps r a b h k e = omega arith

less-not : (a b : ℕ) → ltb a b ≡ not (leb b a)
less-not a b = cases (leb b a) (λ t. rw (t, le-ltb a b (leb-true b a t))) (λ t. rw (t, lt-ltb a b (leb-false b a t)))

pub not-less : (a b : ℕ) → not (ltb a b) ≡ leb b a
not-less a b = cases (leb b a) (λ t. rw (t, le-ltb a b (leb-true b a t))) (λ t. rw (t, lt-ltb a b (leb-false b a t)))

-- the code's tests, with differences by wrapping
pub follows-not : (x y : Pair) (cells empty : ℕ) → cells < 2 ^ 32 → empty < 2 ^ 32 → (cells + x.first) % 2 ^ 32 ≡ y.first
    → (empty + x.second) % 2 ^ 32 ≡ y.second → not ((leb y.first x.first || leb y.second x.second) || leb cells empty) ≡ follows x y
unfolding follows
follows-not x y cells empty h k p q =
    cases (leb y.first x.first) (λ t. rw (less-not x.first y.first, t))
    (λ t.
    cases (leb y.second x.second) (λ s. rw (less-not x.first y.first, t, less-not x.second y.second, s))
    (λ s.
    let c = sub_wraps cells y.first x.first h (leb-false y.first x.first t) p in
    let e = sub_wraps empty y.second x.second k (leb-false y.second x.second s) q in
    rw (less-not x.first y.first, t, less-not x.second y.second, s, less-not (y.second - x.second) (y.first - x.first), c, e)))

-- a test as a number, and what it is the failure of
pub raised : (t s : Bool) (n : ℕ) → n ≡ from_bool t → not t ≡ s → (n ≡ fallen s) × (n ≤ 1)
unfolding fallen
raised true s n e h = rw (e, ← h) (refl, omega arith)
raised false s n e h = rw (e, ← h) (refl, omega arith)

-- ---- along the pairs

pub pairs_turn : (n i at count r : ℕ) (b : List ℕ) → i < n → r ≡ fallen (follows (field_pair (at + 8 * i) b) (field_pair (at + 8 * i + 8) b))
    → count + r + pair_falls (n - (i + 1)) (at + 8 * (i + 1)) b ≡ count + pair_falls (n - i) (at + 8 * i) b
unfolding pair_falls
pairs_turn n i at count r b h e =
    let k : n - i ≡ suc (n - (i + 1)) = omega arith in
    let m : at + 8 * (i + 1) ≡ at + 8 * i + 8 = omega arith in
    rw (k, e, m) (omega arith)

pub pairs_end : (n i at count : ℕ) (b : List ℕ) → n ≤ i → count ≡ count + pair_falls (n - i) (at + 8 * i) b
unfolding pair_falls
pairs_end n i at count b h = let z : n - i ≡ 0 = omega arith in rw z (omega arith)

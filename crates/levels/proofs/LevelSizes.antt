-- The sizes of the levels: at most 24 levels stand over as many runs as a picture can have. Assumes nothing.
use Prim.Native.Nat.{ℕ, zero, suc, ◌+◌, ◌-◌, ◌*◌, ◌^◌, ◌≤◌, ◌<◌}
use mathlib.Core.Path.{◌≡◌, refl, sym, ap, ap₂, ◌∙◌}
use mathlib.Core.List.{List, [], ◌∷◌, ◌++◌, append-nil}
use native.Mathlib.Nat.{pow-suc, pow-zero}
use native.Mathlib.Numerals.{add-one}
use native.Mathlib.Omega.{arith}
use lib.ListN.{length, take, drop, get_or, set, length-set}
use lib.Seq.{take-suc-set, append_snoc, get_or-set_same, get_or-set_other, get_or-take}
use borrow.Author.Tests.{lt-leb, le-leb}
use Rattle.format.specs.Tools.{up_to}
use Rattle.format.specs.Runs.{Span}
use Rattle.laws.proofs.Bounds.{up_to_half}
use Rattle.levels.specs.Levels.{sizes_above, sizes_of, total, cut, Sized}

-- ---- each level has at most half the entries of the one below

pub halved : (b k v : ℕ) → 2 ≤ b → v ≤ 2 ^ suc k → up_to v b ≤ 2 ^ k
halved b k v h s = omega (arith, up_to_half v b h, pow-suc 2 k)

above-two : (k v : ℕ) → v ≤ 2 ^ k → 2 < v → 2 ≤ k
above-two zero v s h = absurd (omega (arith, pow-zero 2))
above-two (suc zero) v s h = absurd (omega arith)
above-two (suc (suc k)) v s h = omega arith

few : (count v : ℕ) → v ≤ 2 ^ (25 - count) → 2 < v → count < 24
few count v s h = omega (arith, above-two (25 - count) v s h)

-- ---- sizes that stand before a place

pub total-set : (sizes : List ℕ) (n k x : ℕ) → k ≤ n → total (set sizes n x) k ≡ total sizes k
total-set sizes n zero x h = refl
total-set sizes n (suc k) x h =
    ap₂ ◌+◌ (get_or-set_other sizes n k x 0 (λ e. omega arith)) (total-set sizes n k x (omega arith))

pub total-take : (sizes : List ℕ) (n k : ℕ) → k ≤ n → total (take n sizes) k ≡ total sizes k
total-take sizes n zero h = refl
total-take sizes n (suc k) h = ap₂ ◌+◌ (get_or-take n sizes k 0 (omega arith)) (total-take sizes n k (omega arith))

pub cut-take : (sizes : List ℕ) (n k : ℕ) (es : List Span) → k ≤ n → cut (take n sizes) k es ≡ cut sizes k es
cut-take sizes n zero es h = refl
cut-take sizes n (suc k) es h =
    let e : get_or (take n sizes) k 0 ≡ get_or sizes k 0 = get_or-take n sizes k 0 (omega arith) in
    rw (e, cut-take sizes n k (drop (get_or sizes k 0) es) (omega arith))

-- ---- the loop that stores the sizes

-- `count` sizes are stored, the last is `size`, and the sizes above it complete the list
pub record Storing (b v : ℕ) (sizes : List ℕ) (size count entries : ℕ) : Type 0 where
  pub levels : take count sizes ++ sizes_above (24 - count) b size ≡ sizes_of b v
  pub room : length sizes ≡ 24
  pub some : 1 ≤ count
  pub most : count ≤ 24
  pub small : size ≤ 2 ^ (25 - count)
  pub size-most : size ≤ 16777216
  pub sum : entries ≡ total sizes count
  pub entries-most : entries ≤ count * 16777216

pub storing_first : (b v : ℕ) (sizes : List ℕ) → length sizes ≡ 24 → v ≤ 16777216 → Storing b v (set sizes 0 v) v 1 v
unfolding sizes_of
storing_first b v [] r h = absurd (omega arith)
storing_first b v (x ∷ sizes) r h =
    record {
      levels = refl;
      room = r;
      some = omega arith;
      most = omega arith;
      small = h;
      size-most = h;
      sum = omega arith;
      entries-most = omega arith;
    }

module _ (b v : ℕ) (sizes : List ℕ) (size count entries : ℕ) (h : 2 ≤ b) (s : Storing b v sizes size count entries) where
  pub room-left : b < size → count < 24
  room-left t = few count size s.small (omega arith)

  pub less-above : b < size → up_to size b < size
  less-above t = omega (arith, up_to_half size b h)

  above-next : b < size → sizes_above (24 - count) b size ≡ up_to size b ∷ sizes_above (24 - (count + 1)) b (up_to size b)
  unfolding sizes_above
  above-next t =
      let e : 24 - count ≡ suc (24 - (count + 1)) = omega (arith, room-left t) in
      rw (e, lt-leb size b t)

  pub storing_next : b < size → Storing b v (set sizes count (up_to size b)) (up_to size b) (count + 1) (entries + up_to size b)
  storing_next t =
      let room = room-left t in
      let less = less-above t in
      let long = s.room in
      let k : 25 - count ≡ suc (25 - (count + 1)) = omega arith in
      let i : count < length sizes = omega arith in
      record {
        levels =
            rw (add-one count, take-suc-set sizes count (up_to size b) i, append_snoc)
            (ap (λ (l : List ℕ). take count sizes ++ l) (sym (rw add-one at (above-next t))) ∙ s.levels);
        room = rw (length-set sizes count (up_to size b)) long;
        some = omega arith;
        most = omega arith;
        small = halved b (25 - (count + 1)) size h (rw k at s.small);
        size-most = omega arith;
        sum = rw (add-one count, get_or-set_same sizes count (up_to size b) 0 i, total-set sizes count count (up_to size b) (omega arith)) (omega arith);
        entries-most = omega arith;
      }

  none_above : (n : ℕ) → size ≤ b → sizes_above n b size ≡ []
  unfolding sizes_above
  none_above zero t = refl
  none_above (suc n) t = rw (le-leb size b t)

  pub stored-all : size ≤ b → Sized b v sizes count entries
  stored-all t =
      record {
        levels = sym (append-nil (take count sizes)) ∙ ap (λ (l : List ℕ). take count sizes ++ l) (sym (none_above (24 - count) t)) ∙ s.levels;
        room = s.room;
        count_most = s.most;
        entries-most = omega arith;
        sum = s.sum;
      }

-- The cells and ranks of the runs behind a cursor in its page, by their entries. Assumes nothing.
use Rattle.std.proofs.Common.{◌≡◌, ℕ, zero, suc, ◌+◌, ◌-◌, ◌*◌, ◌^◌, ◌<◌, ◌≤◌, List, refl, ap, ◌∙◌, arith}
use Rattle.format.specs.declared.View.{View}
use Rattle.wire.specs.declared.Pair.{Pair}
use Rattle.wire.specs.Wire.{pair_at, add32}
use Rattle.parts.specs.declared.Cursor.{Cursor}
use Rattle.parts.proofs.Steps.{add32-back}
use Rattle.pages_copy.specs.Page.{cursor_on}
use Rattle.pages_copy.proofs.Behind.{Follow, pair_on, Behind}
use Rattle.pages_copy.proofs.OneRun.{Begins}

-- from the entry x to the entry y of a page that begins after n cells: `cells` cells, `empty` empty cells and `ranks` ranks
pub record Apart (n : ℕ) (x y : Pair) (cells empty ranks : ℕ) : Type 0 where
  pub first : x.first + cells ≡ y.first
  pub second : x.second + empty ≡ y.second
  pub stored : empty + ranks ≡ cells
  pub most : n + y.first ≤ 16777216

module _ (b : List ℕ) (v : View) (c : Cursor) (m : ℕ) (w : Behind b v c m) where
  -- the entry of the run t runs behind the cursor's, and the cells before the page
  abbrev pub X : ℕ → Pair
  X t = pair_on b v c t

  abbrev pub N : ℕ
  N = add32 c.base 1

  -- the cells, empty cells and ranks of t runs
  abbrev pub cells_on : ℕ → ℕ
  cells_on t = (X t).first - (X 0).first

  abbrev pub empty_on : ℕ → ℕ
  empty_on t = (X t).second - (X 0).second

  abbrev pub ranks_on : ℕ → ℕ
  ranks_on t = cells_on t - empty_on t

  apart_next : (x y z : Pair) (c e r : ℕ) → Apart N x y c e r → Follow 16777216 N y z
      → Apart N x z (z.first - x.first) (z.second - x.second) (z.first - x.first - (z.second - x.second))
  apart_next x y z c e r a f =
      let k = wider x.first x.second y.first y.second z.first z.second c e r a.first a.second a.stored f.empty f.stored in
      record { first = back x.first z.first k.0; second = back x.second z.second k.1; stored = back _ _ k.2; most = f.most }
    where
      back : (x y : ℕ) → x ≤ y → x + (y - x) ≡ y
      back x y h = omega arith

      wider : (a b f s g z c e r : ℕ) → a + c ≡ f → b + e ≡ s → e + r ≡ c → s < z → f + (z - s) < g → (a ≤ g) × (b ≤ z) × (z - b ≤ g - a)
      wider a b f s g z c e r i j k o p = (omega arith, omega arith, omega arith)

  pub apart : (t : ℕ) → t ≤ m → Apart N (X 0) (X t) (cells_on t) (empty_on t) (ranks_on t)
  apart zero k =
      let l = w.cells in
      let o = w.below in
      record { first = omega arith; second = omega arith; stored = omega arith; most = omega arith }
  apart (suc t) k = apart_next (X 0) (X t) (X (suc t)) _ _ _ (apart t (omega arith)) (w.follow t (omega arith))

  pub ranks_up : (t : ℕ) → t < m → ranks_on t < ranks_on (suc t)
  ranks_up t k =
      let x = apart t (omega arith) in
      let y = apart (suc t) (omega arith) in
      let f = w.follow t k in
      up _ _ _ _ _ _ _ _ _ _ _ _ x.first x.second x.stored y.first y.second y.stored f.empty f.stored
    where
      up : (a b f s g z c e r d h q : ℕ) → a + c ≡ f → b + e ≡ s → e + r ≡ c → a + d ≡ g → b + h ≡ z → h + q ≡ d → s < z → f + (z - s) < g → r < q
      up a b f s g z c e r d h q i j k l m n o p = omega arith

  pub ranks-none : ranks_on 0 ≡ 0
  ranks-none = omega arith

  -- the cursor at the end of run t
  abbrev pub cursor_at : ℕ → Cursor
  cursor_at t = cursor_on c (cells_on t) (ranks_on t) t

  pub cursor-here : cursor_at 0 ≡ c
  unfolding cursor_on
  cursor-here =
      let r : c.rank + ranks_on 0 ≡ c.rank = omega arith in
      let l : c.last + cells_on 0 ≡ c.last = omega arith in
      let n : c.next + 0 ≡ c.next = omega arith in
      let u : c.used + 0 ≡ c.used = omega arith in
      rw (r, l, n, u, w.ended)

  -- ---- from run t to the next

  module _ (t : ℕ) (k : t < m) where
    abbrev pub count : ℕ
    count = ranks_on (suc t) - ranks_on t

    pub begins : Begins c (X (suc t)) (cells_on t) (ranks_on t) (cells_on (suc t)) (ranks_on (suc t)) count
    begins =
        let x = apart t (omega arith) in
        let y = apart (suc t) (omega arith) in
        let n = numbers c.last c.rank c.empty N (X 0).first (X 0).second (X t).second (X (suc t)).first (X (suc t)).second (cells_on t) (empty_on t) (ranks_on t)
        (cells_on (suc t)) (empty_on (suc t)) (ranks_on (suc t)) w.cells w.ranks x.second x.stored y.first y.second y.stored y.most (w.follow t k).empty (ranks_up t k) in
        record { away = n.0; ends = n.1; sum = n.2; some = n.3; below = n.4; low = n.5 }
      where
        numbers : (l r z n a b s g u c e q d h p : ℕ) → l + 1 ≡ n + a → l ≡ r + (z + b) → b + e ≡ s → e + q ≡ c → a + d ≡ g → b + h ≡ u → h + p ≡ d
            → n + g ≤ 16777216 → s < u → q < p
            → (l + c + 1 < r + q + 1 + (z + u)) × (r + q + 1 + (z + u) + (p - q) ≡ l + d + 1) × (q + (p - q) ≡ p) × (1 ≤ p - q) × (l + d < 16777216) × (r + p ≤ l + d)
        numbers l r z n a b s g u c e q d h p i j k o f v x y t w = (omega arith, omega arith, omega arith, omega arith, omega arith, omega arith)

    pub read : pair_at (v.second + 8 * (c.next + t)) b ≡ X (suc t)
    read = let o = w.some in ap (λ (i : ℕ). pair_at (v.second + 8 * i) b) (omega arith)

    pub last : add32 c.base (X (suc t)).first ≡ c.last + cells_on (suc t)
    last =
        let y = apart (suc t) (omega arith) in
        ends c.base N (X 0).first (X (suc t)).first c.last (cells_on (suc t)) (X t).first _ w.base refl y.first y.most w.cells (w.follow t k).stored
      where
        ends : (a n x y l d f q : ℕ) → a < 2 ^ 32 → add32 a 1 ≡ n → x + d ≡ y → n + y ≤ 16777216 → l + 1 ≡ n + x → f + q < y → add32 a y ≡ l + d
        ends a n x y l d f q h i j k m o = add32-back a y n h i (omega arith) (omega arith) ∙ omega arith

-- The words at the listed positions of the stored cells. Assumes nothing.
use Prim.Native.Nat.{ℕ, zero, suc, ◌+◌, ◌-◌, ◌*◌, ◌≤◌, ◌<◌}
use mathlib.Core.Path.{◌≡◌, sym, ap, ◌∙◌}
use mathlib.Core.Bool.{true, false}
use mathlib.Core.List.{List, [], ◌∷◌}
use native.Mathlib.Nat.{add-zero, not-suc-le-zero, le_of_suc-le-suc}
use native.Mathlib.Omega.{arith}
use lib.ListN.{length, drop, get_or}
use lib.Dec.{eqb}
use Rattle.format.specs.Bytes.{bytes, bytes_of}
use Rattle.format.specs.Stored.{stored_from, kept}
use Rattle.laws.proofs.Tools.{cases}
use Rattle.laws.proofs.Stored.{length-stored}
use Rattle.stores.specs.Put.{put}
use Rattle.stores.proofs.Laws.{put-numbers-drop, put-numbers-end}

-- the stored cell of a rank: its index, and its word
pub record Cell (E at : ℕ) (ws : List ℕ) (rank : ℕ) : Type 0 where
  pub index : ℕ
  pub inside : index < length ws
  pub position : get_or (stored_from E at ws) rank 0 ≡ at + index
  pub word : get_or ws index 0 ≡ get_or (kept E ws) rank 0

cell-past : (E at : ℕ) (ws : List ℕ) (x r : ℕ) → eqb x E ≡ true → Cell E (suc at) ws r → Cell E at (x ∷ ws) r
unfolding stored_from kept
cell-past E at ws x r t c =
    let e : suc at + c.index ≡ at + suc c.index = omega arith in
    let h = c.inside in
    record { index = suc c.index; inside = omega arith; position = rw t (c.position ∙ e); word = rw t c.word }

cell-after : (E at : ℕ) (ws : List ℕ) (x r : ℕ) → eqb x E ≡ false → Cell E (suc at) ws r → Cell E at (x ∷ ws) (suc r)
unfolding stored_from kept
cell-after E at ws x r t c =
    let e : suc at + c.index ≡ at + suc c.index = omega arith in
    let h = c.inside in
    record { index = suc c.index; inside = omega arith; position = rw t (c.position ∙ e); word = rw t c.word }

cell-here : (E at : ℕ) (ws : List ℕ) (x : ℕ) → eqb x E ≡ false → Cell E at (x ∷ ws) 0
unfolding stored_from kept
cell-here E at ws x t = record { index = 0; inside = omega arith; position = rw (t, add-zero); word = rw t }

pub cell_of : (E at : ℕ) (ws : List ℕ) (rank : ℕ) → rank < length (stored_from E at ws) → Cell E at ws rank
unfolding stored_from
cell_of E at [] rank h = absurd (not-suc-le-zero h)
cell_of E at (x ∷ ws) zero h =
    cases (eqb x E) (λ t. cell-past E at ws x 0 t (cell_of E (suc at) ws 0 (rw t at h))) (λ t. cell-here E at ws x t)
cell_of E at (x ∷ ws) (suc r) h =
    cases (eqb x E)
    (λ t. cell-past E at ws x (suc r) t (cell_of E (suc at) ws (suc r) (rw t at h)))
    (λ t. cell-after E at ws x r t (cell_of E (suc at) ws r (le_of_suc-le-suc (rw t at h))))

-- ---- of a list of the positions

module _ (E at : ℕ) (ws ps : List ℕ) (listed : ps ≡ stored_from E at ws) where
  pub record Listed (rank : ℕ) : Type 0 where
    pub from : at ≤ get_or ps rank 0
    pub inside : get_or ps rank 0 - at < length ws
    pub word : get_or ws (get_or ps rank 0 - at) 0 ≡ get_or (kept E ws) rank 0

  pub cell-listed : (rank : ℕ) → rank < length ps → Listed rank
  cell-listed rank h =
      let c = cell_of E at ws rank (rw listed at h) in
      let p : get_or ps rank 0 ≡ at + c.index = rw listed c.position in
      let e : get_or ps rank 0 - at ≡ c.index = omega arith in
      record { from = omega arith; inside = rw e c.inside; word = rw e c.word }

  size : length ps ≡ length (kept E ws)
  size = ap length listed ∙ length-stored E at ws

  -- a loop that stores their words: one turn, and the end
  pub kept_turn : (d : List ℕ) (place rank : ℕ) → rank < length ps
      → put (put d (place + 4 * rank) (bytes 4 (get_or ws (get_or ps rank 0 - at) 0))) (place + 4 * (rank + 1)) (bytes_of 4 (drop (rank + 1) (kept E ws)))
      ≡ put d (place + 4 * rank) (bytes_of 4 (drop rank (kept E ws)))
  kept_turn d place rank h =
      let e : place + 4 * (rank + 1) ≡ place + 4 * rank + 4 = omega arith in
      rw ((cell-listed rank h).word, e) (sym (put-numbers-drop 4 d (place + 4 * rank) (kept E ws) rank (omega (arith, size))))

  pub kept-end : (d : List ℕ) (to rank : ℕ) → length ps ≤ rank → put d to (bytes_of 4 (drop rank (kept E ws))) ≡ d
  kept-end d to rank h = put-numbers-end 4 d to (kept E ws) rank (omega (arith, size))

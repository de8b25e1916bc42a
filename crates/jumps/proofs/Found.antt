-- What the searches answer, from rank 0 on. Assumes nothing.
use Prim.Native.Nat.{ℕ, ◌+◌, ◌*◌, ◌<◌}
use mathlib.Core.Path.{◌≡◌, refl, sym, ◌∙◌}
use mathlib.Core.Bool.{false, true≢false}
use mathlib.Core.List.{List}
use Rattle.std.proofs.Common.{Option}
use native.Mathlib.Nat.{sub-zero}
use native.Mathlib.Omega.{arith}
use lib.ListN.{length}
use Rattle.format.specs.declared.View.{View}
use Rattle.format.specs.Codec.{Codec}
use Rattle.format.specs.Jumps.{jumps_kind}
use Rattle.parts.specs.declared.Found.{Found}
use Rattle.parts.specs.Found.{FoundIn, PositionIn}
use Rattle.parts.proofs.Places.{found_gap}
use Rattle.differences.specs.declared.walk.Place.{Place}
use Rattle.differences.specs.Walk.{origin, Stopped}
use Rattle.differences.proofs.Walked.{walked_start}
use Rattle.jump_walk.specs.Width.{OfWidth}
use Rattle.jump_walk.specs.Held.{FoundFrom}
use Rattle.jump_walk.proofs.Found.{width, too_short, walk-position}
use Rattle.jumps.proofs.Held.{held}

module _ (b : List ℕ) (v : View) where
  abbrev K : Codec
  K = jumps_kind v.width v.step

  module _ (w : ℕ) (ew : OfWidth v w) where
    module _ (k : length b < v.second + w * v.words) where
      pub short : (p : ℕ) → FoundIn K b v p (record { below = 0; here = false })
      short p =
          record {
            right = λ ls z. let h = held b v ls z in absurd (too_short b v w ls h (width b v w ls h ew) k);
            free = λ e. absurd (true≢false (sym e));
          }

      pub position-short : (r : ℕ) → PositionIn K b v r 0
      position-short r = record { right = λ ls z n. let h = held b v ls z in absurd (too_short b v w ls h (width b v w ls h ew) k) }

    -- a walk from rank 0 to rank r reaches its position
    pub position-found : (from : Place) (r : ℕ) (target : Option ℕ) (t : Place) → from.rank ≡ 0 → from.reached ≡ origin v.start b → r < v.words
        → Stopped w v.start v.second b from r target t → t.rank ≡ r → PositionIn K b v r t.reached.position
    position-found from r target t n e h z q =
        record {
          right = λ ls x m.
              let y = held b v ls x in walk-position b v w ls y (width b v w ls y ew) r t.reached h (rw (n, e, q, sub-zero r) at z.there);
        }

    -- the place of p is found
    pub found_first : (from : Place) (p : ℕ) (f : Found) → from.rank ≡ 0 → from.reached ≡ origin v.start b → FoundFrom b v w from p f → FoundIn K b v p f
    found_first from p f n e g =
        record {
          right = λ ls z.
              let h = held b v ls z in
              g.right ls h (width b v w ls h ew) (rw n (e ∙ walked_start w v.start v.second b 0 (origin v.start b))) (λ i. absurd (omega arith));
          free = g.free;
        }

  -- no words
  pub none : (p : ℕ) → v.words ≡ 0 → FoundIn K b v p (record { below = 0; here = false })
  none p n = record {
    right = λ ls z.
        let y = held b v ls z in
        let m = y.size in
        found_gap v.cells p ls y.rising 0 (omega arith) (λ i. absurd (omega arith)) (λ i. absurd (omega arith)) _ refl refl;
    free = λ e. absurd (true≢false (sym e));
  }

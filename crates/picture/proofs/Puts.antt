-- The cells of a picture put out chunk by chunk: those of the chunk first, then those that are left, give the whole. Assumes nothing.
use Prim.Native.Nat.{ℕ, ◌+◌, ◌*◌, ◌≤◌}
use mathlib.Core.Path.{◌≡◌, sym, ap, ap₂, ◌∙◌}
use mathlib.Core.Bool.{true}
use mathlib.Core.List.{List, [], ◌++◌}
use native.Mathlib.Nat.{add-zero}
use native.Mathlib.Omega.{arith}
use lib.ListN.{length, drop, length-append, drop_of_length-le}
use Rattle.format.specs.declared.Setting.{Setting}
use Rattle.format.specs.Kinds.{setting_allowed}
use Rattle.format.specs.Bytes.{bytes_of}
use Rattle.format.specs.Stored.{stored, kept}
use Rattle.laws.proofs.Bytes.{length-bytes_of, bytes-append}
use Rattle.laws.proofs.Stored.{length-stored}
use Rattle.stores.specs.Put.{put}
use Rattle.stores.proofs.Laws.{put_nil}
use Rattle.parts.specs.declared.Encoder.{Encoder}
use Rattle.parts.specs.Encoder.{begun, firsts_by, seconds_by}
use Rattle.parts.specs.Batch.{put_all_by, Along}
use Rattle.kinds.specs.Coding.{coder, taken_all, firsts, seconds, added_first, added_second, Apart}
use Rattle.kinds.proofs.Driving.{rank-added, room-first-all, room-second-all, apart_added, put_turn_all}
use Rattle.picture.specs.Chunk.{put_chunk, ChunkRoom}
use Rattle.picture.proofs.Chunks.{left, chunk, listed, left-none, along-begun, stored_cut, kept-cut, along_chunk, along-left}

-- d with the bytes of the positions ls and of the end, and with the words vs after those put out before
abbrev pub put_rest : Setting → List ℕ → Encoder → List ℕ → ℕ → List ℕ → List ℕ
put_rest s d e ls place vs = put (put (put d e.first (firsts s e ls)) e.second (seconds s e ls)) (place + 4 * e.rank) (bytes_of 4 vs)

-- the cells from `at` on can be put out into n elements
pub record Going (s : Setting) (E : ℕ) (ws : List ℕ) (place n : ℕ) (e : Encoder) (at : ℕ) : Type 0 where
  pub along : Along e (left E ws at)
  pub apart : Apart s e (left E ws at) place
  pub room : place + 4 * (e.rank + length (kept E (drop at ws))) ≤ n

module _ (s : Setting) (E : ℕ) (ws : List ℕ) (place n : ℕ) where
  -- before the first cell
  pub going_begun : (f g : ℕ) → length ws ≤ 16777216 → f ≤ 4294967296 → g ≤ 4294967296 → Apart s (begun f g) (stored E ws) place → place + 4 * length (kept E ws) ≤ n
      → Going s E ws place n (begun f g) 0
  unfolding stored begun
  going_begun f g l k h a r = record { along = along-begun f g E ws k h l; apart = a; room = omega arith }

  pub put-begun : (f g : ℕ) (d : List ℕ)
      → put_rest s d (begun f g) (left E ws 0) place (kept E (drop 0 ws))
      ≡ put (put (put d f (firsts s (begun f g) (stored E ws))) g (seconds s (begun f g) (stored E ws))) place (bytes_of 4 (kept E ws))
  unfolding stored begun
  put-begun f g d = rw add-zero

  -- a chunk
  module _ (e : Encoder) (at : ℕ) (g : Going s E ws place n e at) where
    apart_cut : (v : ℕ) → place ≤ v → Apart s e (listed E ws at ++ left E ws (at + 1024)) v
    apart_cut v h =
        let k = g.apart.second in
        let a : Apart s e (left E ws at) v = record { first = g.apart.first; second = omega arith } in
        rw (← stored_cut E ws at) a

    length_cut : length (kept E (drop at ws)) ≡ length (listed E ws at) + length (kept E (drop (at + 1024) ws))
    length_cut =
        ap length (kept-cut E ws at) ∙ length-append (kept E (chunk ws at)) (kept E (drop (at + 1024) ws))
        ∙ rw (length-stored E at (chunk ws at))

    pub room_chunk : ChunkRoom s e (listed E ws at) (place + 4 * e.rank) n
    unfolding added_first added_second
    room_chunk =
        let a = apart_cut place (omega arith) in
        let r = g.room in
        let l = length_cut in
        record {
          along = along_chunk E ws at e g.along;
          room =
              record {
                first = room-first-all s e (listed E ws at) (left E ws (at + 1024)) place a;
                second = room-second-all s e (listed E ws at) (left E ws (at + 1024)) place a n (omega arith);
              };
          words = omega arith;
        }

    pub going_next : setting_allowed s ≡ true → Going s E ws place n (taken_all s e (listed E ws at)) (at + 1024)
    going_next t =
        let r = g.room in
        let l = length_cut in
        let k = rank-added s e (listed E ws at) in
        record {
          along = along-left E ws at s e t g.along;
          apart = apart_added s e (listed E ws at) (left E ws (at + 1024)) place (apart_cut place (omega arith));
          room = omega arith;
        }

    pub put_next : (d : List ℕ)
        → put_rest s (put_chunk s d e (listed E ws at) (place + 4 * e.rank) (kept E (chunk ws at)))
        (taken_all s e (listed E ws at)) (left E ws (at + 1024)) place (kept E (drop (at + 1024) ws))
        ≡ put_rest s d e (left E ws at) place (kept E (drop at ws))
    unfolding put_chunk put_all_by added_first added_second
    put_next d =
        let xs : List ℕ = listed E ws at in
        let ys : List ℕ = left E ws (at + 1024) in
        let t : Encoder = taken_all s e xs in
        let v : ℕ = place + 4 * e.rank in
        let b : List ℕ = put_chunk s d e xs v (kept E (chunk ws at)) in
        let cells : bytes_of 4 (kept E (drop at ws)) ≡ bytes_of 4 (kept E (chunk ws at)) ++ bytes_of 4 (kept E (drop (at + 1024) ws))
        = ap (bytes_of 4) (kept-cut E ws at) ∙ bytes-append 4 (kept E (chunk ws at)) (kept E (drop (at + 1024) ws)) in
        let l = length-bytes_of 4 (kept E (chunk ws at)) in
        let m = length-stored E at (chunk ws at) in
        let k = rank-added s e xs in
        let to : v + length (bytes_of 4 (kept E (chunk ws at))) ≡ place + 4 * t.rank = omega arith in
        sym (ap₂ (λ (ls vs : List ℕ). put (put (put d e.first (firsts s e ls)) e.second (seconds s e ls)) v vs) (stored_cut E ws at) cells
        ∙ put_turn_all s e xs ys v (apart_cut v (omega arith)) d (bytes_of 4 (kept E (chunk ws at))) (bytes_of 4 (kept E (drop (at + 1024) ws)))
        ∙ ap (λ (p : ℕ). put (put (put b t.first (firsts s t ys)) t.second (seconds s t ys)) p (bytes_of 4 (kept E (drop (at + 1024) ws)))) to)

  -- after the last cell
  module _ (e : Encoder) (at : ℕ) (h : length ws ≤ at) where
    pub room-end : Going s E ws place n e at → (e.first + length ((coder s).end_first e) ≤ n) × (e.second + length ((coder s).end_second e) ≤ n)
    unfolding firsts firsts_by seconds seconds_by
    room-end g =
        let a : Apart s e [] place = rw (← left-none E ws at h) g.apart in
        let f = a.first in
        let k = a.second in
        let r = g.room in
        (omega arith, omega arith)

    pub put_rest_end : (d : List ℕ)
        → put_rest s d e (left E ws at) place (kept E (drop at ws)) ≡ put (put d e.first ((coder s).end_first e)) e.second ((coder s).end_second e)
    unfolding firsts firsts_by seconds seconds_by kept bytes_of
    put_rest_end d =
        rw (left-none E ws at h, drop_of_length-le ws {i = at} h)
        (put_nil (put (put d e.first ((coder s).end_first e)) e.second ((coder s).end_second e)) (place + 4 * e.rank))

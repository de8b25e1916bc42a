-- Ranks from a cursor on into an encoder: behind the first, the jumps and differences that are put out are those of the file. Assumes nothing.
use Prim.Native.Nat.{ℕ, zero, suc, ◌+◌, ◌-◌, ◌*◌, ◌^◌, ◌≤◌, ◌<◌}
use mathlib.Core.Path.{◌≡◌, refl, ap, ◌∙◌}
use mathlib.Core.List.{List, [], ◌∷◌}
use native.Mathlib.Omega.{arith}
use lib.ListN.{length, get_or, take, drop, length-drop}
use lib.Seq.{length-take-le}
use Rattle.format.specs.declared.View.{View}
use Rattle.format.specs.Tools.{Below}
use Rattle.format.specs.Bytes.{bytes_of}
use Rattle.format.specs.Jumps.{differences_from}
use Rattle.stores.specs.Put.{put}
use Rattle.parts.specs.declared.Cursor.{Cursor}
use Rattle.parts.specs.declared.Encoder.{Encoder}
use Rattle.parts.specs.declared.walk.Walk.{Walk}
use Rattle.parts.specs.Cursor.{walked_as, stepped_as}
use Rattle.parts.specs.Encoder.{taken_all_by}
use Rattle.parts.specs.Batch.{Along, RoomAll, put_all_by}
use Rattle.parts.specs.Carried.{carried, PutAs, Reached}
use Rattle.parts.proofs.Steps.{upper}
use Rattle.parts.proofs.Carried.{along-front, room-front}
use Rattle.difference_rows.proofs.Follows.{stepped-last}
use Rattle.laws.proofs.Bounds.{length-differences_from}
use Rattle.jump_walk.specs.Held.{Held}
use Rattle.jump_walk.specs.Steps.{next}
use Rattle.jump_entries.specs.Coding.{jumps_coder}
use Rattle.jump_copy.specs.Further.{further}
use Rattle.jump_copy.proofs.Fronts.{jumps_from, take-differences, jumps-most, jumps-front, front-there, front_bytes}
use Rattle.jump_copy.proofs.Rows.{Stands, exact_jumps, walked_exact, jumps_exact}
use Rattle.jump_copy.proofs.Ranks.{reached_below, reached_stands}
use Rattle.jump_copy.proofs.Later.{later_taken, later_fits, later_room, later_put}

-- the last position of a walk is where the cursor stands
walked-last : (f : Cursor → Cursor) (c : Cursor) (m : ℕ) → (stepped_as f c m).at ≡ get_or (walked_as f c (suc m)) m 0
unfolding walked_as stepped_as
walked-last f c zero = refl
walked-last f c (suc m) = walked-last f (f c) m

module _ (b : List ℕ) (v : View) (ls : List ℕ) (h : Held b v ls) (c : Cursor) (n : ℕ) (o : Reached (next b v) v.words c n) (some : 0 < n) where
  abbrev w : ℕ
  w = v.width

  abbrev f : Cursor → Cursor
  f = next b v

  abbrev here : Stands b v ls o.rank c
  here = reached_stands b v ls h c n o some

  -- the positions ahead of the cursor, and those of them that are taken
  abbrev xs : List ℕ
  xs = drop (suc o.rank) ls

  abbrev qs : List ℕ
  qs = take (n - 1) xs

  enough : n - 1 ≤ length xs
  enough = let m = reached_below b v ls h c n o some in let l = length-drop (suc o.rank) ls in omega arith

  size : length qs ≡ n - 1
  size = length-take-le (n - 1) xs enough

  more : suc (n - 1) ≡ n
  more = omega arith

  pub positions : walked_as f c n ≡ c.at ∷ qs
  positions = rw more at (walked_exact b v ls h (n - 1) c xs enough here.exact)

  last-at : (stepped_as f c (n - 1)).at ≡ get_or (c.at ∷ qs) (n - 1) 0
  last-at = walked-last f c (n - 1) ∙ rw (more, positions)

  jumps_on : (stepped_as f c (n - 1)).next ≡ c.next + length (jumps_from w c.at qs)
  jumps_on = jumps_exact b v ls h (n - 1) c xs enough here.exact

  -- the first rank by itself
  pub first-along : (e : Encoder) → Along e (walked_as f c n) → Along e (c.at ∷ [])
  first-along e a = along-front e (c.at ∷ []) qs (rw positions at a)

  pub first-room : (e : Encoder) (z : ℕ) → RoomAll (jumps_coder w) e (walked_as f c n) z → RoomAll (jumps_coder w) e (c.at ∷ []) z
  first-room e z r = room-front (jumps_coder w) e (c.at ∷ []) qs z (rw positions at r)

  -- the last rank
  module _ {u : Cursor} (last : u ≡ stepped_as f c (n - 1)) where
    jumps-count : u.next ≡ c.next + length (jumps_from w c.at qs)
    jumps-count = rw last jumps_on

    pub jumps-least : c.next ≤ u.next
    jumps-least = let j = jumps-count in omega arith

    jumps_are : u.next - c.next ≡ length (jumps_from w c.at qs)
    jumps_are = let j = jumps-count in omega arith

    steps_all : next b v u ≡ stepped_as f c n
    steps_all = rw (last, ← stepped-last f c (n - 1), more)

    -- what the file has after the cursor's rank
    pub jumps-there : v.start + 4 * c.next + 4 * (u.next - c.next) ≤ length b
    jumps-there =
        rw jumps_are
        (front-there b 4 v.start c.next (jumps_from w c.at xs) (exact_jumps b v c xs here.exact) (length (jumps_from w c.at qs))
        (jumps-most w c.at (n - 1) xs))

    pub differences-there : v.second + w * (c.rank + 1) + w * (n - 1) ≤ length b
    differences-there =
        let l = length-differences_from w c.at xs in
        let k = enough in
        let e : upper c ≡ c.rank + 1 = let i = here.rank in let j = here.upper in omega arith in
        rw e at (front-there b w v.second (upper c) (differences_from w c.at xs) here.exact.differences (n - 1) (omega arith))

    module _ (small : Below 256 b) where
      jumps-copied : take (4 * (u.next - c.next)) (drop (v.start + 4 * c.next) b) ≡ bytes_of 4 (jumps_from w c.at qs)
      jumps-copied =
          rw jumps_are
          (front_bytes b 4 v.start c.next (jumps_from w c.at xs) (exact_jumps b v c xs here.exact) (length (jumps_from w c.at qs))
          (jumps-most w c.at (n - 1) xs) small)
          ∙ ap (bytes_of 4) (jumps-front w c.at (n - 1) xs)

      differences-copied : take (w * (n - 1)) (drop (v.second + w * (c.rank + 1)) b) ≡ bytes_of w (differences_from w c.at qs)
      differences-copied =
          let l = length-differences_from w c.at xs in
          let k = enough in
          let e : upper c ≡ c.rank + 1 = let i = here.rank in let j = here.upper in omega arith in
          rw (e, take-differences w c.at (n - 1) xs) at
          (front_bytes b w v.second (upper c) (differences_from w c.at xs) here.exact.differences (n - 1) (omega arith) small)

    -- the encoder behind the first rank
    module _ (e : Encoder) (a : Along e (walked_as f c n)) {at : Encoder} (first : at ≡ taken_all_by (jumps_coder w) e (c.at ∷ [])) where
      pub encoder_fits : (at.rank + (n - 1) < 2 ^ 32) × (at.first + 4 * (u.next - c.next) < 2 ^ 64) × (at.second + w * (n - 1) < 2 ^ 64)
      encoder_fits = rw (first, jumps_are) (rw size at (later_fits w e c.at qs (rw positions at a) h.laid.wide))

      encoder_all : further w at (n - 1) u.at (u.next - c.next) ≡ taken_all_by (jumps_coder w) e (walked_as f c n)
      encoder_all =
          let p : u.at ≡ get_or (c.at ∷ qs) (n - 1) 0 = ap (λ x. x.at) last ∙ last-at in
          rw (first, jumps_are, p, positions) (rw size at (later_taken w e c.at qs (rw positions at a)))

      pub taken-ranks : {t : Encoder} → t ≡ further w at (n - 1) u.at (u.next - c.next) → {i : Cursor} → i ≡ next b v u
          → ◌≡◌ {A = Walk} (record { c = i; e = t }) (carried f (jumps_coder w) c e n)
      unfolding carried
      taken-ranks k j = rw (j ∙ steps_all, k ∙ encoder_all)

      -- and the bytes
      module _ (d : List ℕ) (r : RoomAll (jumps_coder w) e (walked_as f c n) (length d)) where
        pub copies_room : (at.first + 4 * (u.next - c.next) ≤ length d) × (at.second + w * (n - 1) ≤ length d)
        copies_room = rw (first, jumps_are) (rw size at (later_room w e c.at qs (length d) (rw positions at r)))

        pub put-ranks : Below 256 b → {t : Encoder} → t ≡ further w at (n - 1) u.at (u.next - c.next) → {i : Cursor} → i ≡ next b v u → {d₁ d₂ d₃ : List ℕ}
            → d₁ ≡ put_all_by (jumps_coder w) d e (c.at ∷ []) → d₂ ≡ put d₁ at.first (take (4 * (u.next - c.next)) (drop (v.start + 4 * c.next) b))
            → d₃ ≡ put d₂ at.second (take (w * (n - 1)) (drop (v.second + w * (c.rank + 1)) b))
            → PutAs f (jumps_coder w) c e n d (record { c = i; e = t }) d₃
        put-ranks small k j x y z =
            record {
              walk = taken-ranks k j;
              bytes = z ∙ rw (y, x, jumps-copied small, differences-copied small, first, positions) (later_put w e c.at qs (length d) (rw positions at r) d);
            }

-- The encoder puts out jumps and differences as kind 4's, and the pointers that are made of the differences complete the parts. Assumes nothing.
use Prim.Native.Nat.{ℕ, suc, ◌+◌, ◌*◌, ◌≤◌}
use mathlib.Core.Path.{◌≡◌, refl, sym, ap, ap₂, ◌∙◌}
use mathlib.Core.Bool.{true}
use mathlib.Core.List.{List, [], ◌∷◌}
use native.Mathlib.Omega.{arith}
use lib.ListN.{length, drop, length-append}
use Rattle.format.specs.Tools.{up_to}
use Rattle.format.specs.Bytes.{bytes, bytes_of, numbers_of}
use Rattle.format.specs.Codec.{Parts}
use Rattle.format.specs.Jumps.{differences, jumps, jump_parts}
use Rattle.format.specs.PointedJumps.{jump_ranks_from, pointers, pointed_parts, pointed_kind}
use Rattle.laws.proofs.Stored.{rising-length}
use Rattle.laws.proofs.Bytes.{length-bytes_of}
use Rattle.laws.proofs.Bounds.{length-differences, below-differences, length-jumps_of}
use Rattle.laws.proofs.Pointers.{length-jumps, length-pointers}
use Rattle.stores.specs.Put.{put}
use Rattle.stores.proofs.Laws.{length-put, put-append, put-numbers-end}
use Rattle.parts.specs.declared.Sizes.{Sizes}
use Rattle.parts.specs.Encoder.{begun, firsts_by, seconds_by}
use Rattle.parts.specs.Codes.{sizes_in, out_in, Standing}
use Rattle.parts.proofs.Alike.{Alike, firsts-alike, seconds-alike}
use Rattle.parts.proofs.Outright.{words_in, second_in}
use Rattle.jump_entries.specs.Coding.{jumps_coder}
use Rattle.jump_entries.proofs.Taken.{firsts, seconds}
use Rattle.pointed_jumps.specs.Coding.{with_pointers, coder}
use Rattle.pointed_jumps.proofs.Held.{widths, steps}
use Rattle.pointed_jumps.proofs.Between.{rank_of}
use Rattle.pointed_jumps.proofs.Stands.{numbers-back, Stands}
use Rattle.pointed_jumps.proofs.Pointing.{Pointing, pointing_begin, pointing_end}

-- positions are taken as by kind 4
pub alike : (w n : ℕ) → Alike (jumps_coder w) (coder w n)
unfolding coder
alike w n =
    record { first = λ e p. refl; second = λ e p. refl; inside = λ e p. refl; end_first = λ e. refl; end_second = λ e. refl }

-- the first difference is a jump
first_jump : (w : ℕ) (ls : List ℕ) → rank_of (differences w ls) 0 ≡ 0
unfolding differences jump_ranks_from
first_jump w [] = refl
first_jump w (l ∷ ls) = refl

module _ (w n : ℕ) (ls : List ℕ) where
  pub firsts-out : (f g : ℕ) → firsts_by (coder w n) (begun f g) ls ≡ bytes_of 4 (jumps w ls)
  firsts-out f g = sym (firsts-alike (jumps_coder w) (coder w n) (alike w n) (begun f g) ls) ∙ firsts w f g ls

  pub seconds-out : (f g : ℕ) → seconds_by (coder w n) (begun f g) ls ≡ bytes_of w (differences w ls)
  seconds-out f g = sym (seconds-alike (jumps_coder w) (coder w n) (alike w n) (begun f g) ls) ∙ seconds w f g ls

  pub length-seconds : length (bytes_of w (differences w ls)) ≡ w * length ls
  length-seconds = length-bytes_of w (differences w ls) ∙ ap (λ (x : ℕ). w * x) (length-differences w ls)

  -- as many pointers as there are steps of jumps
  pub count-pointers : length (pointers n (differences w ls)) ≡ up_to (length (jumps w ls)) n
  count-pointers = length-pointers n (differences w ls) ∙ ap (λ (x : ℕ). up_to x n) (sym (length-jumps w ls))

  jumps-most : length (jumps w ls) ≤ length ls
  unfolding jumps
  jumps-most = length-jumps_of (differences w ls) ls

  module _ (B : ℕ) where
    abbrev parts : Parts
    parts = (pointed_kind w n).parts B ls

    pub length-second : length parts.second ≡ w * length ls + 4 * length (pointers n (differences w ls))
    unfolding pointed_kind pointed_parts jump_parts
    length-second =
        length-append (bytes_of w (differences w ls)) (bytes_of 4 (pointers n (differences w ls)))
        ∙ ap₂ (λ (x y : ℕ). x + y) length-seconds (length-bytes_of 4 (pointers n (differences w ls)))

    -- what is put out for positions into parts of their sizes
    module _ (z : Sizes) (q : z ≡ sizes_in (length ls) parts) (before : List ℕ) (start : ℕ) (room : start + z.first + z.second ≤ length before) where
      firsts_in : z.firsts ≡ length (jumps w ls)
      unfolding sizes_in pointed_kind pointed_parts jump_parts
      firsts_in = ap (λ (x : Sizes). x.firsts) q

      abbrev second : ℕ
      second = start + z.first

      -- the jumps alone
      abbrev front : List ℕ
      front = put before start (bytes_of 4 (jumps w ls))

      out : out_in (coder w n) z start ls before ≡ put front second (bytes_of w (differences w ls))
      unfolding out_in
      out = rw (firsts-out start second, seconds-out start second)

      room-front : second + w * length ls + 4 * length (pointers n (differences w ls)) ≤ length front
      room-front =
          let a = second_in z (length ls) parts q in
          let b = length-second in
          let c = length-put before start (bytes_of 4 (jumps w ls)) in
          omega arith

      numbers-front : numbers_of w (length ls) (drop second (put front second (bytes_of w (differences w ls)))) ≡ differences w ls
      numbers-front =
          let h = room-front in
          let l = length-differences w ls in
          let m : w * length (differences w ls) ≡ w * length ls = ap (λ (x : ℕ). w * x) l in
          rw l at (numbers-back w front second (differences w ls) (below-differences w ls) (omega arith))

      numbers-out : numbers_of w z.words (drop second (out_in (coder w n) z start ls before)) ≡ differences w ls
      numbers-out = ap₂ (λ (x : ℕ) (l : List ℕ). numbers_of w x (drop second l)) (words_in z (length ls) parts q) out ∙ numbers-front

      pub made : (coder w n).derived z start (out_in (coder w n) z start ls before) ≡ put (put before start parts.first) second parts.second
      unfolding coder with_pointers pointed_kind pointed_parts jump_parts
      made =
          let xs = bytes_of w (differences w ls) in
          let ys = bytes_of 4 (pointers n (differences w ls)) in
          let l : second + w * z.words ≡ second + length xs = ap (λ (x : ℕ). second + x) (ap (λ (x : ℕ). w * x) (words_in z (length ls) parts q) ∙ sym length-seconds) in
          ap (λ (ds : List ℕ). put (out_in (coder w n) z start ls before) (second + w * z.words) (bytes_of 4 (pointers n ds))) numbers-out
          ∙ ap₂ (λ (d : List ℕ) (at : ℕ). put d at ys) out l
          ∙ sym (put-append front second xs ys)

-- ---- for the code: what stands in d where the making of the rest is asked

pub record Given (w n : ℕ) (z : Sizes) (start : ℕ) (d : List ℕ) : Type 0 where
  pub ds : List ℕ
  pub here : numbers_of w z.words (drop (start + z.first) d) ≡ ds
  pub stands : Stands w n (start + z.first) ds d
  pub size : length ds ≡ z.words
  pub count : up_to z.firsts n ≡ length (pointers n ds)
  pub words : z.firsts ≤ z.words
  pub most : z.words ≤ 16777216
  pub room : start + z.first + w * z.words + 4 * up_to z.firsts n ≤ length d

pub given : (w n : ℕ) → (pointed_kind w n).allowed ≡ true → (z : Sizes) (start : ℕ) (d : List ℕ) → Standing (coder w n) (pointed_kind w n) z start d → Given w n z start d
given w n a z start d t =
    let ls = t.positions in
    let ds = differences w ls in
    let e : numbers_of w z.words (drop (start + z.first) d) ≡ ds
    = rw t.out (numbers-out w n ls t.bound z t.sizes t.before start t.room) in
    let r = room-front w n ls t.bound z t.sizes t.before start t.room in
    let l = length-differences w ls in
    let m : w * length ds ≡ w * length ls = ap (λ (x : ℕ). w * x) l in
    let x = words_in z (length ls) ((pointed_kind w n).parts t.bound ls) t.sizes in
    let f = firsts_in w n ls t.bound z t.sizes t.before start t.room in
    let o : length d ≡ length (front w n ls t.bound z t.sizes t.before start t.room)
    = ap length (t.out ∙ out w n ls t.bound z t.sizes t.before start t.room) ∙ length-put _ (start + z.first) (bytes_of w ds) in
    let j = jumps-most w n ls in
    let h = t.most in
    let k = rising-length 0 t.bound ls (omega arith) t.rising in
    let s : start + z.first + w * 0 ≡ start + z.first = omega arith in
    record {
      ds = ds;
      here = e;
      stands =
          record {
            narrow = (widths w n a).0;
            wide = (widths w n a).1;
            step = (steps w n a).0;
            most = omega arith;
            first = first_jump w ls;
            entries = record { there = omega arith; list = rw (s, l, ← x) e };
            room = omega arith;
          };
      size = l ∙ sym x;
      count = ap (λ (i : ℕ). up_to i n) f ∙ sym (count-pointers w n ls);
      words = omega arith;
      most = omega arith;
      room = rw (x, f, ← count-pointers w n ls) (omega arith);
    }

module _ (w n : ℕ) (z : Sizes) (start : ℕ) (d : List ℕ) (g : Given w n z start d) where
  -- where no pointer is due there is nothing to make
  pub none_made : up_to z.firsts n ≡ 0 → d ≡ (coder w n).derived z start d
  unfolding coder with_pointers
  none_made h =
      let c = g.count in
      let l : length (pointers n g.ds) ≤ 0 = omega arith in
      sym (put-numbers-end 4 d (start + z.first + w * z.words) (pointers n g.ds) 0 l)
      ∙ ap (λ (ds : List ℕ). put d (start + z.first + w * z.words) (bytes_of 4 (pointers n ds))) (sym g.here)

  module _ (at last m : ℕ) (d₀ : List ℕ) (l : suc last ≡ z.words) (o : d₀ ≡ put d at (bytes 4 0)) where
    -- the first pointer
    pub begun-given : at ≡ start + z.first + w * z.words → m ≡ up_to z.firsts n → 1 ≤ m → Pointing w n (start + z.first) at last m d₀ d₀ 0 1
    begun-given a c h =
        pointing_begin w n (start + z.first) at last m d₀ g.ds d (rw l g.here) g.stands (g.size ∙ sym l) (rw l a) (c ∙ g.count) h o

    -- and all
    pub ended_given : (d' : List ℕ) (r k : ℕ) → Pointing w n (start + z.first) at last m d₀ d' r k → m ≤ k → d' ≡ (coder w n).derived z start d
    unfolding coder with_pointers
    ended_given d' r k p h = rw l at (pointing_end w n (start + z.first) at last m d₀ d' r k p h d o)

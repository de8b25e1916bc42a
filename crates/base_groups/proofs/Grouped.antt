-- For the code: the positions of one base, and a loop that takes those of one base a turn. Assumes nothing.
use Rattle.std.proofs.Common.{◌≡◌, ℕ, zero, suc, ◌+◌, ◌-◌, ◌*◌, ◌≤◌, min, true, false, eqb, List, [], ◌∷◌, ◌++◌, length, get_or, sym, refl, ap, ◌∙◌, subst, ap₂, le_refl, mul-le-mul, arith, length-append, eqb-true}
use native.Mathlib.Nat.{min-le_left, le-min}
use borrow.Author.Tests.{eqb-false}
use Rattle.format.specs.Bytes.{bytes, bytes_of}
use Rattle.laws.proofs.Tools.{cases}
use Rattle.laws.proofs.Bytes.{length-bytes, length-bytes_of}
use Rattle.laws.proofs.Positions.{rising-at}
use Rattle.laws.proofs.Stored.{Rising, rising_weaken, rising-length}
use Rattle.stores.specs.Put.{put}
use Rattle.stores.proofs.Laws.{length-put, put3_step}
use Rattle.parts.specs.declared.Encoder.{Encoder}
use Rattle.parts.specs.Encoder.{Coder, if_zero, taken_all_by}
use Rattle.parts.specs.Ready.{passed, Next, Keeps}
use Rattle.parts.specs.Batch.{added_first_by, added_second_by, put_all_by, Along, RoomAll}
use Rattle.parts.proofs.Taking.{if_zero_lem, if_more}
use Rattle.parts.proofs.Added.{firsts_by_lem, seconds_by_lem, taken-append, first-place, second-place, along_by_lem, rising-front}
use Rattle.parts.proofs.Taken.{all_by_end, put-all-end}
use Rattle.offsets.specs.Over.{offsets_over}
use Rattle.offsets.proofs.Putting.{length_over}
use Rattle.base_groups.specs.Coding.{coder, due, opened, OneBase}
use Rattle.base_groups.proofs.Adds.{taken_group, first_group, second_group, added-firsts, added-seconds}

-- ---- one base

-- the numbers of the encoder r, which has the base of the positions ls, do not wrap
pub record Sized (w : ℕ) (r : Encoder) (ls : List ℕ) : Type 0 where
  pub ranks : r.rank + length ls ≤ 16777216
  pub left : length ls ≤ r.left
  pub bytes : w * length ls ≤ 2 * length ls
  pub second : r.second ≤ 4294967296 + 8 * 16777216
  pub base : r.base ≤ get_or ls (length ls - 1) 0

module _ (l : ℕ) (e : Encoder) (ls : List ℕ) (o : OneBase l e ls) where
  -- the base
  abbrev b : ℕ
  b = if_zero e.left (get_or ls 0 0) e.base

  -- the positions rise from it on
  pub rising-base : Rising b 16777216 ls
  rising-base =
      let r = o.along.rising in
      let s = o.along.sound.base-most in
      cases (eqb e.left 0)
      (λ t. rw (if_zero_lem e.left (get_or ls 0 0) e.base (eqb-true e.left 0 t)) (own ls r))
      (λ t. rw (if_more e.left (get_or ls 0 0) e.base (eqb-false e.left 0 t)) (rising_weaken e.base (passed e) 16777216 ls s r))
    where
      own : (ls : List ℕ) → Rising (passed e) 16777216 ls → Rising (get_or ls 0 0) 16777216 ls
      own [] r = tt
      own (p ∷ ls) r = (omega arith, r.1, r.2)

  pub next-first : Next e (get_or ls 0 0)
  next-first = go ls o.some o.along.rising
    where
      go : (ls : List ℕ) → 1 ≤ length ls → Rising (passed e) 16777216 ls → Next e (get_or ls 0 0)
      go [] s r = absurd (omega arith)
      go (p ∷ ls) s r = record { sound = o.along.sound; above = r.0; below = r.1 }

  pub sized : (w : ℕ) (r : Encoder) → w ≤ 2 → r ≡ opened l e (get_or ls 0 0) → Sized w r ls
  unfolding opened
  sized w r h q =
      let s = o.along.sound in
      let n = rising-length (passed e) 16777216 ls s.passed-most o.along.rising in
      let m = s.empty-most in
      let t = s.second-most in
      let u = o.some in
      rw q
      (record {
        ranks = omega arith;
        left = o.served;
        bytes = mul-le-mul h (le_refl (length ls));
        second = omega arith;
        base = rising-at b 16777216 ls (length ls - 1) rising-base (omega arith);
      })

  module _ (w : ℕ) where
    pub base_group : 1 ≤ l → (taken_all_by (coder w l) e ls).base ≡ b
    base_group h =
        ap (λ (x : Encoder). x.base) (sym (taken_group w l e ls (passed e) 16777216 h o.some o.served o.along.rising))
        ∙ (unfold opened in refl)

    pub put_group : (d : List ℕ)
        → put (put d e.first (if_zero e.left (bytes 4 (get_or ls 0 0)) [])) e.second (bytes_of w (offsets_over b ls)) ≡ put_all_by (coder w l) d e ls
    unfolding put_all_by
    put_group d = rw (first_group w l e ls o.some o.served, second_group w l e ls o.some o.served)

    module _ (n : ℕ) (r : RoomAll (coder w l) e ls n) where
      pub room-first : e.left ≡ 0 → e.first + 4 ≤ n
      room-first z =
          let f : length (added_first_by (coder w l) e ls) ≡ 4
          = ap length (first_group w l e ls o.some o.served ∙ if_zero_lem e.left (bytes 4 (get_or ls 0 0)) [] z) ∙ length-bytes 4 (get_or ls 0 0) in
          let a = r.first in
          let b = r.second in
          omega arith

      pub room-second : e.second + w * length ls ≤ n
      room-second =
          let f : length (added_second_by (coder w l) e ls) ≡ w * length ls
          = ap length (second_group w l e ls o.some o.served) ∙ length-bytes_of w (offsets_over b ls) ∙ ap (λ (x : ℕ). w * x) (length_over b ls) in
          let a = r.second in
          omega arith

-- ---- a loop along ls₀ that takes the positions of one base a turn, from encoder e₀ and the bytes d₀ on

pub due-some : (l left : ℕ) → 1 ≤ l → 1 ≤ due l left
unfolding due
due-some l zero h = h
due-some l (suc n) h = omega arith

-- before a turn: ls are left, and give the whole
pub record Measuring (w l : ℕ) (ls₀ : List ℕ) (e₀ e : Encoder) (ls : List ℕ) : Type 0 where
  pub along : Along e ls
  pub whole : taken_all_by (coder w l) e ls ≡ taken_all_by (coder w l) e₀ ls₀

-- the same with the bytes d
pub record Writing (w l : ℕ) (ls₀ : List ℕ) (e₀ : Encoder) (d₀ : List ℕ) (e : Encoder) (d ls : List ℕ) : Type 0 where
  pub measured : Measuring w l ls₀ e₀ e ls
  pub room : RoomAll (coder w l) e ls (length d)
  pub same : length d ≡ length d₀
  pub written : put_all_by (coder w l) d e ls ≡ put_all_by (coder w l) d₀ e₀ ls₀

-- the end: none are left
pub measured_all : (w l : ℕ) (ls₀ : List ℕ) (e₀ e : Encoder) (ls : List ℕ) → eqb (length ls) 0 ≡ true → Measuring w l ls₀ e₀ e ls → e ≡ taken_all_by (coder w l) e₀ ls₀
measured_all w l ls₀ e₀ e [] z m = sym (all_by_end (coder w l) e) ∙ m.whole
measured_all w l ls₀ e₀ e (p ∷ ls) z m = let n = eqb-true (length (p ∷ ls)) 0 z in absurd (omega arith)

pub written_all : (w l : ℕ) (ls₀ : List ℕ) (e₀ : Encoder) (d₀ : List ℕ) (e : Encoder) (d ls : List ℕ) → eqb (length ls) 0 ≡ true → Writing w l ls₀ e₀ d₀ e d ls
    → (e ≡ taken_all_by (coder w l) e₀ ls₀) × (d ≡ put_all_by (coder w l) d₀ e₀ ls₀)
written_all w l ls₀ e₀ d₀ e d [] z m = (measured_all w l ls₀ e₀ e [] z m.measured, sym (put-all-end (coder w l) d e) ∙ m.written)
written_all w l ls₀ e₀ d₀ e d (p ∷ ls) z m = let n = eqb-true (length (p ∷ ls)) 0 z in absurd (omega arith)

-- of those left the first n go to one base, xs, and then ys are left
pub record Front (l : ℕ) (e : Encoder) (n : ℕ) (ls xs ys : List ℕ) : Type 0 where
  pub size : length xs ≡ n
  pub some : 1 ≤ n
  pub few : n ≤ due l e.left
  pub parts : ls ≡ xs ++ ys

pub front : (l : ℕ) (e : Encoder) (n : ℕ) (ls xs ys : List ℕ) → 1 ≤ l → eqb (length ls) 0 ≡ false → n ≡ min (due l e.left) (length ls) → length xs ≡ n → ls ≡ xs ++ ys
    → Front l e n ls xs ys
front l e n ls xs ys h s m q p =
    let a = min-le_left (due l e.left) (length ls) in
    let z = eqb-false (length ls) 0 s in
    let c : 1 ≤ min (due l e.left) (length ls) = le-min (due-some l e.left h) (omega arith) in
    record { size = q; some = omega arith; few = omega arith; parts = p }

module _ (w l : ℕ) (ls₀ : List ℕ) (e₀ e : Encoder) (n : ℕ) (ls xs ys : List ℕ) (t : Front l e n ls xs ys) where
  along_parted : Measuring w l ls₀ e₀ e ls → Along e (xs ++ ys)
  along_parted m = subst (Along e) t.parts m.along

  pub one-base : Measuring w l ls₀ e₀ e ls → OneBase l e xs
  one-base m =
      let a = along_parted m in
      let s = t.some in
      let z = t.size in
      let f = t.few in
      record {
        along = record { sound = a.sound; rising = rising-front (passed e) 16777216 xs ys a.rising };
        some = omega arith;
        served = omega arith;
      }

  pub measure_group : Keeps (coder w l) → Measuring w l ls₀ e₀ e ls → (r : Encoder) → r ≡ taken_all_by (coder w l) e xs → Measuring w l ls₀ e₀ r ys
  measure_group s m r q =
      rw q
      (record {
        along = along_by_lem (coder w l) s e xs ys (along_parted m);
        whole = sym (taken-append (coder w l) e xs ys) ∙ ap (taken_all_by (coder w l) e) (sym t.parts) ∙ m.whole;
      })

-- ---- the bytes of those of xs, then those of ys

pub length-put-all : (w l : ℕ) (d : List ℕ) (e : Encoder) (ls : List ℕ) → length (put_all_by (coder w l) d e ls) ≡ length d
unfolding put_all_by
length-put-all w l d e ls =
    length-put (put d e.first (added_first_by (coder w l) e ls)) e.second (added_second_by (coder w l) e ls)
    ∙ length-put d e.first (added_first_by (coder w l) e ls)

module _ (w l : ℕ) (e : Encoder) (xs ys : List ℕ) where
  abbrev k : Coder
  k = coder w l

  abbrev t : Encoder
  t = taken_all_by k e xs

  firsts-append : added_first_by k e (xs ++ ys) ≡ added_first_by k e xs ++ added_first_by k t ys
  firsts-append =
      added-firsts w l e (xs ++ ys) ∙ firsts_by_lem k e xs ys ∙ ap (λ (x : List ℕ). added_first_by k e xs ++ x) (sym (added-firsts w l t ys))

  seconds-append : added_second_by k e (xs ++ ys) ≡ added_second_by k e xs ++ added_second_by k t ys
  seconds-append =
      added-seconds w l e (xs ++ ys) ∙ seconds_by_lem k e xs ys ∙ ap (λ (x : List ℕ). added_second_by k e xs ++ x) (sym (added-seconds w l t ys))

  module _ (n : ℕ) (r : RoomAll k e (xs ++ ys) n) where
    f : length (added_first_by k e (xs ++ ys)) ≡ length (added_first_by k e xs) + length (added_first_by k t ys)
    f = ap length firsts-append ∙ length-append (added_first_by k e xs) (added_first_by k t ys)

    g : length (added_second_by k e (xs ++ ys)) ≡ length (added_second_by k e xs) + length (added_second_by k t ys)
    g = ap length seconds-append ∙ length-append (added_second_by k e xs) (added_second_by k t ys)

    room-front : RoomAll k e xs n
    room-front =
        let a = f in
        let b = g in
        record { first = omega (arith, r.first); second = omega (arith, r.second) }

    room_rest : RoomAll k t ys n
    room_rest =
        let a = f in
        let b = g in
        let p = first-place k e xs in
        let q = second-place k e xs in
        record { first = omega (arith, r.first); second = omega (arith, r.second) }

    put-append-all : (d : List ℕ) → put_all_by k d e (xs ++ ys) ≡ put_all_by k (put_all_by k d e xs) t ys
    unfolding put_all_by put
    put-append-all d =
        let x : List ℕ = added_first_by k e xs in
        let x2 : List ℕ = added_first_by k t ys in
        let y : List ℕ = added_second_by k e xs in
        let y2 : List ℕ = added_second_by k t ys in
        let v = e.second + length (y ++ y2) in
        let o : put_all_by k d e (xs ++ ys) ≡ put (put (put_all_by k d e xs) (e.first + length x) x2) (e.second + length y) y2
        = rw (firsts-append, seconds-append)
        (put3_step d e.first x x2 e.second y y2 v [] [] (rw firsts-append at r.first) (le_refl v)) in
        o ∙ ap₂ (λ (f s : ℕ). put (put (put_all_by k d e xs) f x2) s y2) (sym (first-place k e xs)) (sym (second-place k e xs))

module _ (w l : ℕ) (ls₀ : List ℕ) (e₀ : Encoder) (d₀ : List ℕ) (e : Encoder) (d : List ℕ) (n : ℕ) (ls xs ys : List ℕ) (t : Front l e n ls xs ys)
    (m : Writing w l ls₀ e₀ d₀ e d ls) where
  room_parted : RoomAll (coder w l) e (xs ++ ys) (length d)
  room_parted = subst (λ (x : List ℕ). RoomAll (coder w l) e x (length d)) t.parts m.room

  pub group_room : RoomAll (coder w l) e xs (length d)
  group_room = room-front w l e xs ys (length d) room_parted

  pub write_group : Keeps (coder w l) → (r : Encoder) (o : List ℕ) → (r ≡ taken_all_by (coder w l) e xs) × (o ≡ put_all_by (coder w l) d e xs)
      → Writing w l ls₀ e₀ d₀ r o ys
  write_group s r o q =
      let k = length-put-all w l d e xs in
      rw (q.0, q.1)
      (record {
        measured = measure_group w l ls₀ e₀ e n ls xs ys t s m.measured (taken_all_by (coder w l) e xs) refl;
        room = rw k (room_rest w l e xs ys (length d) room_parted);
        same = k ∙ m.same;
        written = sym (put-append-all w l e xs ys (length d) room_parted d) ∙ ap (put_all_by (coder w l) d e) (sym t.parts) ∙ m.written;
      })

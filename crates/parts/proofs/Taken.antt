-- For a loop that takes the positions of a slice: what holds before each turn, for any kind. Assumes nothing.
use Rattle.std.proofs.Common.{◌≡◌, ℕ, suc, ◌+◌, ◌<◌, ◌≤◌, List, [], ◌∷◌, ◌++◌, length, get_or, drop, sym, refl, ap, ◌∙◌, subst, le_refl, add-one, arith, length-append, drop_of_length-le, drop-cons}
use Rattle.stores.specs.Put.{put}
use Rattle.stores.proofs.Laws.{put3_step}
use Rattle.parts.specs.declared.Encoder.{Encoder}
use Rattle.parts.specs.Encoder.{Coder, taken_by, taken_all_by}
use Rattle.parts.specs.Ready.{passed, Next, Room, put_by, Keeps}
use Rattle.parts.specs.Batch.{added_first_by, added_second_by, put_all_by, Along, RoomAll}
use Rattle.parts.proofs.Sounds.{passed_by}
use Rattle.parts.proofs.Taking.{length-put_by}

-- ---- the first position of a list, and the rest

pub along_head : (e : Encoder) (p : ℕ) (ls : List ℕ) → Along e (p ∷ ls) → Next e p
along_head e p ls a = record { sound = a.sound; above = a.rising.0; below = a.rising.1 }

module _ (k : Coder) (e : Encoder) (p : ℕ) (ls : List ℕ) where
  pub along_tail : Keeps k → Along e (p ∷ ls) → Along (taken_by k e p) ls
  along_tail s a =
      let n : passed (taken_by k e p) ≡ suc p = passed_by k e p ∙ add-one p in
      record { sound = s e p (along_head e p ls a); rising = rw n a.rising.2 }

  pub length-first : length (added_first_by k e (p ∷ ls)) ≡ length (k.first e p) + length (added_first_by k (taken_by k e p) ls)
  unfolding added_first_by
  length-first = length-append (k.first e p) (added_first_by k (taken_by k e p) ls)

  pub length-second : length (added_second_by k e (p ∷ ls)) ≡ length (k.second e p) + length (added_second_by k (taken_by k e p) ls)
  unfolding added_second_by
  length-second = length-append (k.second e p) (added_second_by k (taken_by k e p) ls)

  module _ (n : ℕ) (r : RoomAll k e (p ∷ ls) n) where
    pub room_head : Room k e p n
    room_head =
        let a = length-first in
        let b = length-second in
        record { first = omega arith; second = omega arith }

    pub room_tail : RoomAll k (taken_by k e p) ls n
    unfolding taken_by
    room_tail =
        let a = length-first in
        let b = length-second in
        record { first = omega arith; second = omega arith }

    pub put-all_cons : (d : List ℕ) → put_all_by k d e (p ∷ ls) ≡ put_all_by k (put_by k d e p) (taken_by k e p) ls
    unfolding put_all_by put_by added_first_by added_second_by taken_by put
    put-all_cons d =
        let xs = added_first_by k (taken_by k e p) ls in
        let ys = added_second_by k (taken_by k e p) ls in
        let v = e.second + length (k.second e p ++ ys) in
        put3_step d e.first (k.first e p) xs e.second (k.second e p) ys v [] [] r.first (le_refl v)

pub all_by_cons : (k : Coder) (e : Encoder) (p : ℕ) (ls : List ℕ) → taken_all_by k e (p ∷ ls) ≡ taken_all_by k (taken_by k e p) ls
unfolding taken_all_by
all_by_cons k e p ls = refl

pub all_by_end : (k : Coder) (e : Encoder) → taken_all_by k e [] ≡ e
unfolding taken_all_by
all_by_end k e = refl

pub put-all-end : (k : Coder) (d : List ℕ) (e : Encoder) → put_all_by k d e [] ≡ d
unfolding put_all_by added_first_by added_second_by put
put-all-end k d e = refl

-- ---- before the turn of index i, with encoder e: what is left of ls gives the whole

pub record Measuring (k : Coder) (ls : List ℕ) (e₀ e : Encoder) (i : ℕ) : Type 0 where
  pub along : Along e (drop i ls)
  pub whole : taken_all_by k e (drop i ls) ≡ taken_all_by k e₀ ls

module _ (k : Coder) (ls : List ℕ) (e₀ : Encoder) where
  pub measure_begin : Along e₀ ls → Measuring k ls e₀ e₀ 0
  measure_begin a = record { along = a; whole = refl }

  pub measure_end : (e : Encoder) (i : ℕ) → length ls ≤ i → Measuring k ls e₀ e i → e ≡ taken_all_by k e₀ ls
  measure_end e i h m = sym (all_by_end k e) ∙ ap (taken_all_by k e) (sym (drop_of_length-le ls {i = i} h)) ∙ m.whole

  module _ (e : Encoder) (i : ℕ) (h : i < length ls) where
    left_cons : drop i ls ≡ get_or ls i 0 ∷ drop (i + 1) ls
    left_cons = drop-cons ls i 0 h ∙ ap (λ (n : ℕ). get_or ls i 0 ∷ drop n ls) (sym (add-one i))

    pub measure_next : Measuring k ls e₀ e i → Next e (get_or ls i 0)
    measure_next m = along_head e (get_or ls i 0) (drop (i + 1) ls) (subst (Along e) left_cons m.along)

    pub measure_turn : Keeps k → Measuring k ls e₀ e i → (r : Encoder) → r ≡ taken_by k e (get_or ls i 0) → Measuring k ls e₀ r (i + 1)
    measure_turn s m r q =
        rw q
        (record {
          along = along_tail k e (get_or ls i 0) (drop (i + 1) ls) s (subst (Along e) left_cons m.along);
          whole = sym (all_by_cons k e (get_or ls i 0) (drop (i + 1) ls)) ∙ ap (taken_all_by k e) (sym left_cons) ∙ m.whole;
        })

-- the same with the bytes d
pub record Writing (k : Coder) (ls : List ℕ) (e₀ : Encoder) (d₀ : List ℕ) (e : Encoder) (d : List ℕ) (i : ℕ) : Type 0 where
  pub measured : Measuring k ls e₀ e i
  pub room : RoomAll k e (drop i ls) (length d)
  pub same : length d ≡ length d₀
  pub written : put_all_by k d e (drop i ls) ≡ put_all_by k d₀ e₀ ls

module _ (k : Coder) (ls : List ℕ) (e₀ : Encoder) (d₀ : List ℕ) where
  pub write_begin : Along e₀ ls → RoomAll k e₀ ls (length d₀) → Writing k ls e₀ d₀ e₀ d₀ 0
  write_begin a r = record { measured = measure_begin k ls e₀ a; room = r; same = refl; written = refl }

  pub write-end : (e : Encoder) (d : List ℕ) (i : ℕ) → length ls ≤ i → Writing k ls e₀ d₀ e d i
      → (e ≡ taken_all_by k e₀ ls) × (d ≡ put_all_by k d₀ e₀ ls)
  write-end e d i h w = (
    measure_end k ls e₀ e i h w.measured,
    sym (put-all-end k d e) ∙ ap (put_all_by k d e) (sym (drop_of_length-le ls {i = i} h)) ∙ w.written,
  )

  module _ (e : Encoder) (d : List ℕ) (i : ℕ) (h : i < length ls) (w : Writing k ls e₀ d₀ e d i) where
    room-left : RoomAll k e (get_or ls i 0 ∷ drop (i + 1) ls) (length d)
    room-left = subst (λ (l : List ℕ). RoomAll k e l (length d)) (left_cons k ls e₀ e i h) w.room

    pub write-next : Next e (get_or ls i 0) × Room k e (get_or ls i 0) (length d)
    write-next = (measure_next k ls e₀ e i h w.measured, room_head k e (get_or ls i 0) (drop (i + 1) ls) (length d) room-left)

    pub write_turn : Keeps k → (r : Encoder) (o : List ℕ) → (r ≡ taken_by k e (get_or ls i 0)) × (o ≡ put_by k d e (get_or ls i 0))
        → Writing k ls e₀ d₀ r o (i + 1)
    write_turn s r o q =
        let p : ℕ = get_or ls i 0 in
        let l : List ℕ = drop (i + 1) ls in
        let n = length-put_by k d e p in
        rw (q.0, q.1)
        (record {
          measured = measure_turn k ls e₀ e i h s w.measured (taken_by k e p) refl;
          room = rw n (room_tail k e p l (length d) room-left);
          same = n ∙ w.same;
          written = sym (put-all_cons k e p l (length d) room-left d) ∙ ap (put_all_by k d e) (sym (left_cons k ls e₀ e i h)) ∙ w.written;
        })

-- A loop that puts out an entry for each run that ends among the positions of a slice, for any kind where the positions of a run add nothing. Assumes nothing.
use Prim.Native.Nat.{ℕ, zero, suc, ◌+◌, ◌-◌, ◌≤◌, ◌<◌}
use mathlib.Core.Path.{◌≡◌, refl, sym, ap, ◌∙◌, subst}
use mathlib.Core.Bool.{true, false, not}
use mathlib.Core.List.{List, [], ◌∷◌}
use native.Mathlib.Nat.{le_refl, add-zero}
use native.Mathlib.Numerals.{add-one}
use native.Mathlib.Omega.{arith}
use lib.ListN.{length, take, drop, get_or, length-drop, drop_of_length-le}
use lib.Seq.{take_all, drop-cons}
use lib.Dec.{leb}
use borrow.Author.Tests.{leb-true, leb-false, eq-eqb, ne_eqb}
use Rattle.format.specs.Tools.{pick}
use Rattle.laws.proofs.Tools.{cases}
use Rattle.parts.specs.declared.Encoder.{Encoder}
use Rattle.parts.specs.Encoder.{Coder, run_ends, taken_by, taken_all_by}
use Rattle.parts.specs.Ready.{Keeps, moved, put_by}
use Rattle.parts.specs.Batch.{put_all_by, Along, RoomAll, grown}
use Rattle.rises.specs.Far.{ends_after, ends_of}
use Rattle.parts.proofs.Taking.{ends_later, put-none}
use Rattle.parts.proofs.Taken.{Writing, write_begin, write-next, write_turn}
use Rattle.parts.proofs.Grown.{Lengthens}

grown_by_none : (e : Encoder) (m : ℕ) → m ≡ 0 → grown e m ≡ e
unfolding grown
grown_by_none e m h = rw (h, add-zero e.rank, add-zero e.last)

grown_more : (e : Encoder) (m n : ℕ) → m + 1 ≡ n → grown (grown e 1) m ≡ grown e n
unfolding grown
grown_more e m n h =
    let r : e.rank + 1 + m ≡ e.rank + n = omega arith in
    let l : e.last + 1 + m ≡ e.last + n = omega arith in
    rw (r, l)

-- ---- numbers

-- p is the next after l, of r positions, or it is not
is_next : (r l p : ℕ) → 1 ≤ r → l + 1 - (1 - r) ≤ p → p - l ≤ 1 → p ≡ l + 1
is_next r l p h u v = omega arith

not-next : (l p : ℕ) → 1 < p - l → p ≡ l + 1 → ⊥
not-next l p h e = omega arith

-- of l positions m are left behind n
some_left : (m n l : ℕ) → suc m + n ≡ l → n < l
some_left m n l h = omega arith

one_less : (m n l : ℕ) → suc m + n ≡ l → m + (n + 1) ≡ l
one_less m n l h = omega arith

none_more : (n l : ℕ) → 0 + n ≡ l → l ≡ n
none_more n l h = omega arith

none_after : (n l : ℕ) → 0 + n ≡ l → l ≤ n
none_after n l h = omega arith

all_left : (n l : ℕ) → n ≤ l → l - n + n ≡ l
all_left n l h = omega arith

up_by_one : (n l : ℕ) → n < l → n + 1 ≤ l
up_by_one n l h = omega arith

between : (n x : ℕ) → n + 1 ≤ x → (n ≤ x) × (x - (n + 1) + 1 ≡ x - n)
between n x h = (omega arith, omega arith)

nothing : (n : ℕ) → n - n ≡ 0
nothing n = omega arith

not-empty : (x : ℕ) (xs : List ℕ) → [] ≡ x ∷ xs → ⊥
not-empty x xs e = omega (arith, ap length e)

sound-fits : (r l v m : ℕ) → l + m + 1 - (1 - (r + m)) ≤ 16777216 → v + (r + m) ≤ l + m + 1 - (1 - (r + m)) → (r + m < 4294967296) × (l + m < 4294967296)
sound-fits r l v m h k = (omega arith, omega arith)

-- ---- an open run

-- the positions of an open run follow on each other, and the first of the next run does not
module _ (e : Encoder) (p : ℕ) (h : 1 ≤ e.rank) where
  goes_on : p ≡ e.last + 1 → run_ends e p ≡ false
  goes_on q = sym (ends_later e p (λ z. omega arith)) ∙ ap not (eq-eqb p (e.last + 1) q)

  pub breaks_off : (p ≡ e.last + 1 → ⊥) → run_ends e p ≡ true
  breaks_off q = sym (ends_later e p (λ z. omega arith)) ∙ ap not (ne_eqb p (e.last + 1) q)

-- after p
module _ (k : Coder) (e : Encoder) (p : ℕ) (r : Encoder) (q : r ≡ taken_by k e p) where
  taken-last : r.last ≡ p
  unfolding taken_by
  taken-last = ap (λ (x : Encoder). x.last) q

  taken-some : 1 ≤ r.rank
  unfolding taken_by
  taken-some = let z : r.rank ≡ e.rank + 1 = ap (λ (x : Encoder). x.rank) q in least r.rank e.rank z
    where
      least : (a b : ℕ) → a ≡ b + 1 → 1 ≤ a
      least a b h = omega arith

-- n positions are taken, the last in the run that is open; among the rest, runs end at these places
pub record Ending (k : Coder) (ls : List ℕ) (e₀ : Encoder) (d₀ : List ℕ) (e : Encoder) (d : List ℕ) (n : ℕ) (ends : List ℕ) : Type 0 where
  pub writing : Writing k ls e₀ d₀ e d n
  pub most : n ≤ length ls
  pub opened : 1 ≤ e.rank
  pub left : ends_after n e.last (drop n ls) ≡ ends

-- the open run goes on up to the index x and ends there; more runs end at the places es
pub record Ended (k : Coder) (ls : List ℕ) (e₀ : Encoder) (d₀ : List ℕ) (e : Encoder) (d : List ℕ) (n x : ℕ) (es : List ℕ) : Type 0 where
  pub low : n ≤ x
  pub high : x < length ls
  pub writing : Writing k ls e₀ d₀ (grown e (x - n)) d x
  pub breaks : run_ends (grown e (x - n)) (get_or ls x 0) ≡ true
  pub rest : ends_after (x + 1) (get_or ls x 0) (drop (x + 1) ls) ≡ es

-- the places of the ends, by whether the next position is in the open run
module _ (n p : ℕ) (ls : List ℕ) (h : n < length ls) where
  abbrev later : List ℕ
  later = ends_after (n + 1) (get_or ls n 0) (drop (n + 1) ls)

  ends_cons : ends_after n p (drop n ls) ≡ pick (leb (get_or ls n 0 - p) 1) later (n ∷ later)
  unfolding ends_after
  ends_cons = let z : n + 1 ≡ suc n = add-one n in rw (drop-cons ls n 0 h, z)

  ends_on : leb (get_or ls n 0 - p) 1 ≡ true → ends_after n p (drop n ls) ≡ later
  ends_on t = ends_cons ∙ rw t

  ends_off : leb (get_or ls n 0 - p) 1 ≡ false → ends_after n p (drop n ls) ≡ n ∷ later
  ends_off t = ends_cons ∙ rw t

module _ (k : Coder) (s : Lengthens k) (keeps : Keeps k) (ls : List ℕ) (e₀ : Encoder) (d₀ d : List ℕ) where
  -- one more position of the open run
  grow_on : (e : Encoder) (n : ℕ) → Writing k ls e₀ d₀ e d n → n < length ls → 1 ≤ e.rank → get_or ls n 0 ≡ e.last + 1
      → Writing k ls e₀ d₀ (grown e 1) d (n + 1)
  grow_on e n w h r q =
      let p : ℕ = get_or ls n 0 in
      let t = goes_on e p r q in
      let m : grown e 1 ≡ moved e p e.first e.second = unfold grown moved in rw q in
      write_turn k ls e₀ d₀ e d n h w keeps (grown e 1) d (m ∙ s.on e p t, put-none k d e p (s.first e p t) (s.second e p t))

  -- the next position, by whether it is in the open run
  module _ (e : Encoder) (n : ℕ) (ends : List ℕ) (a : Ending k ls e₀ d₀ e d n ends) (h : n < length ls) where
    step_on : leb (get_or ls n 0 - e.last) 1 ≡ true → Ending k ls e₀ d₀ (grown e 1) d (n + 1) ends
    unfolding grown
    step_on t =
        let o = a.opened in
        let up = (write-next k ls e₀ d₀ e d n h a.writing).0.above in
        let l = leb-true (get_or ls n 0 - e.last) 1 t in
        let q = is_next e.rank e.last (get_or ls n 0) o up l in
        record {
          writing = grow_on e n a.writing h o q;
          most = up_by_one n (length ls) h;
          opened = le_add e.rank o;
          left = sym (ap (λ (p : ℕ). ends_after (n + 1) p (drop (n + 1) ls)) q) ∙ sym (ends_on n e.last ls h t) ∙ a.left;
        }
      where
        le_add : (r : ℕ) → 1 ≤ r → 1 ≤ r + 1
        le_add r h = omega arith

    step_off : leb (get_or ls n 0 - e.last) 1 ≡ false → (x : ℕ) (es : List ℕ) → ends ≡ x ∷ es → Ended k ls e₀ d₀ e d n x es
    step_off t x es f =
        let l = leb-false (get_or ls n 0 - e.last) 1 t in
        let xs = sym (ends_off n e.last ls h t) ∙ a.left ∙ f in
        let u : n ≡ x = ap (λ (z : List ℕ). get_or z 0 0) xs in
        let g : e ≡ grown e (n - n) = sym (grown_by_none e (n - n) (nothing n)) in
        subst (λ (z : ℕ). Ended k ls e₀ d₀ e d n z es) u
        (record {
          low = le_refl n;
          high = h;
          writing = subst (λ (z : Encoder). Writing k ls e₀ d₀ z d n) g a.writing;
          breaks = subst (λ (z : Encoder). run_ends z (get_or ls n 0) ≡ true) g (breaks_off e (get_or ls n 0) a.opened (not-next e.last (get_or ls n 0) l));
          rest = ap (drop 1) xs;
        })

  -- none is left
  none_left : (e : Encoder) (n : ℕ) (ends : List ℕ) → Ending k ls e₀ d₀ e d n ends → length ls ≤ n → [] ≡ ends
  none_left e n ends a h = let z : ends_after n e.last [] ≡ [] = unfold ends_after in refl in sym z ∙ rw (drop_of_length-le ls {i = n} h) at a.left

  to_end : (m n : ℕ) (e : Encoder) (x : ℕ) (es : List ℕ) → m + n ≡ length ls → Ending k ls e₀ d₀ e d n (x ∷ es) → Ended k ls e₀ d₀ e d n x es
  to_end zero n e x es h a = absurd (not-empty x es (none_left e n (x ∷ es) a (none_after n (length ls) h)))
  to_end (suc m) n e x es h a =
      let i = some_left m n (length ls) h in
      cases (leb (get_or ls n 0 - e.last) 1)
      (λ t.
      let u = to_end m (n + 1) (grown e 1) x es (one_less m n (length ls) h) (step_on e n (x ∷ es) a i t) in
      let b = between n x u.low in
      let g : grown (grown e 1) (x - (n + 1)) ≡ grown e (x - n) = grown_more e (x - (n + 1)) (x - n) b.1 in
      record {
        low = b.0;
        high = u.high;
        writing = subst (λ (z : Encoder). Writing k ls e₀ d₀ z d x) g u.writing;
        breaks = subst (λ (z : Encoder). run_ends z (get_or ls x 0) ≡ true) g u.breaks;
        rest = u.rest;
      })
      (λ t. step_off e n (x ∷ es) a i t x es refl)

  to_last : (m n : ℕ) (e : Encoder) → m + n ≡ length ls → Ending k ls e₀ d₀ e d n [] → Writing k ls e₀ d₀ (grown e m) d (length ls)
  to_last zero n e h a =
      subst (λ (z : ℕ). Writing k ls e₀ d₀ (grown e 0) d z) (sym (none_more n (length ls) h))
      (subst (λ (z : Encoder). Writing k ls e₀ d₀ z d n) (sym (grown_by_none e 0 refl)) a.writing)
  to_last (suc m) n e h a =
      let i = some_left m n (length ls) h in
      cases (leb (get_or ls n 0 - e.last) 1)
      (λ t.
      subst (λ (z : Encoder). Writing k ls e₀ d₀ z d (length ls)) (grown_more e m (suc m) (add-one m))
      (to_last m (n + 1) (grown e 1) (one_less m n (length ls) h) (step_on e n [] a i t)))
      (λ t. absurd (not-empty _ _ (sym a.left ∙ ends_off n e.last ls i t)))

  -- ---- for the code

  pub end-here : (e : Encoder) (n : ℕ) (ends : List ℕ) (t : ℕ) → Ending k ls e₀ d₀ e d n (drop t ends) → t < length ends
      → Ended k ls e₀ d₀ e d n (get_or ends t 0) (drop (t + 1) ends)
  end-here e n ends t a h =
      let z : drop t ends ≡ get_or ends t 0 ∷ drop (t + 1) ends = drop-cons ends t 0 h ∙ ap (λ (i : ℕ). get_or ends t 0 ∷ drop i ends) (sym (add-one t)) in
      to_end (length ls - n) n e (get_or ends t 0) (drop (t + 1) ends) (all_left n (length ls) a.most) (subst (Ending k ls e₀ d₀ e d n) z a)

  pub last-here : (e : Encoder) (n : ℕ) (ends : List ℕ) (t : ℕ) → Ending k ls e₀ d₀ e d n (drop t ends) → length ends ≤ t
      → Writing k ls e₀ d₀ (grown e (length ls - n)) d (length ls)
  last-here e n ends t a h =
      to_last (length ls - n) n e (all_left n (length ls) a.most) (subst (Ending k ls e₀ d₀ e d n) (drop_of_length-le ends {i = t} h) a)

  -- the open run can be made longer by m positions
  pub grown-fits : (e : Encoder) (m n : ℕ) → Writing k ls e₀ d₀ (grown e m) d n → (e.rank + m < 4294967296) × (e.last + m < 4294967296)
  unfolding grown
  grown-fits e m n w =
      let z = w.measured.along.sound in
      sound-fits e.rank e.last e.empty m z.passed-most z.empty-most

  -- past the first position of the next run
  pub next-run : (e : Encoder) (n x : ℕ) (es : List ℕ) → Ended k ls e₀ d₀ e d n x es → (r : Encoder) (o : List ℕ)
      → (r ≡ taken_by k (grown e (x - n)) (get_or ls x 0)) × (o ≡ put_by k d (grown e (x - n)) (get_or ls x 0)) → Ending k ls e₀ d₀ r o (x + 1) es
  next-run e n x es u r o q =
      record {
        writing = write_turn k ls e₀ d₀ (grown e (x - n)) d x u.high u.writing keeps r o q;
        most = up_by_one x (length ls) u.high;
        opened = taken-some k (grown e (x - n)) (get_or ls x 0) r q.0;
        left = ap (λ (p : ℕ). ends_after (x + 1) p (drop (x + 1) ls)) (taken-last k (grown e (x - n)) (get_or ls x 0) r q.0) ∙ u.rest;
      }

-- ---- all positions of a slice: the first by itself, then the rest by their ends

module _ (k : Coder) (keeps : Keeps k) (ls : List ℕ) (e : Encoder) (d : List ℕ) (a : Along e ls) (b : RoomAll k e ls (length d)) (h : 1 ≤ length ls) (r : Encoder)
    (o : List ℕ) (q : (r ≡ taken_by k e (get_or ls 0 0)) × (o ≡ put_by k d e (get_or ls 0 0))) where
  begun : Writing k ls e d r o 1
  begun = write_turn k ls e d e d 0 h (write_begin k ls e d a b) keeps r o q

  tail : take (length ls - 1) (drop 1 ls) ≡ drop 1 ls
  tail = take_all (length ls - 1) (drop 1 ls) (omega (arith, length-drop 1 ls))

  ends_tail : (ls : List ℕ) → 1 ≤ length ls → ends_of ls ≡ ends_after 0 (get_or ls 0 0) (drop 1 ls)
  unfolding ends_of
  ends_tail [] h = absurd (omega arith)
  ends_tail (p ∷ ls) h = refl

  pub rest_asks : (1 ≤ r.rank) × (ends_of ls ≡ ends_after 0 r.last (take (length ls - 1) (drop 1 ls))) × Along r (take (length ls - 1) (drop 1 ls))
      × RoomAll k r (take (length ls - 1) (drop 1 ls)) (length o)
  rest_asks =
      let w = begun in
      let n = taken-last k e (get_or ls 0 0) r q.0 in
      let m = taken-some k e (get_or ls 0 0) r q.0 in
      let t = sym tail in (
        m,
        ends_tail ls h ∙ ap (λ (p : ℕ). ends_after 0 p (drop 1 ls)) (sym n) ∙ ap (ends_after 0 r.last) t,
        subst (Along r) t w.measured.along,
        subst (λ (l : List ℕ). RoomAll k r l (length o)) t w.room,
      )

  pub rest_gives : (x : Encoder) (y : List ℕ)
      → (x ≡ taken_all_by k r (take (length ls - 1) (drop 1 ls))) × (y ≡ put_all_by k o r (take (length ls - 1) (drop 1 ls)))
      → (x ≡ taken_all_by k e ls) × (y ≡ put_all_by k d e ls)
  rest_gives x y f =
      let w = begun in
      (f.0 ∙ ap (taken_all_by k r) tail ∙ w.measured.whole, f.1 ∙ ap (put_all_by k o r) tail ∙ w.written)

-- What write and change answer and leave. Assumes nothing.
use Prim.Native.Nat.{ℕ, zero, suc, ◌+◌, ◌≤◌, ◌<◌}
use mathlib.Core.Path.{◌≡◌, refl, sym, ap, ap₂, subst, ◌∙◌}
use mathlib.Core.Bool.{Bool, true, false, not, ◌&&◌}
use mathlib.Core.List.{List}
use native.Mathlib.Omega.{arith}
use lib.ListN.{length, get_or, set, take, drop, length-set}
use lib.Seq.{take-length}
use lib.Dec.{eqb}
use Rattle.std.specs.Prelude.{Ok, Option}
use Rattle.std.specs.Bool.{then_some}
use borrow.Author.Tests.{lt-ltb, le-ltb, eqb-true, eqb-false}
use Rattle.format.specs.declared.Position.{Position}
use Rattle.format.specs.declared.Rank.{Rank}
use Rattle.format.specs.declared.RankAnswer.{RankAnswer}
use Rattle.format.specs.declared.RankAnswer.TheVariants as ra
use Rattle.format.specs.declared.Setting.{Setting}
use Rattle.format.specs.declared.View.{View}
use Rattle.format.specs.Tools.{pick}
use Rattle.format.specs.Signals.{BEYOND, SMALL, or_else}
use Rattle.format.specs.Answers.{Answer, refused, empty, given, rank_says, leaves}
use Rattle.format.specs.Picture.{cells}
use Rattle.format.specs.Stored.{stored, kept, rank_at}
use Rattle.format.specs.Kinds.{codec}
use Rattle.format.specs.File.{layout}
use Rattle.format.specs.Accepted.{setting_of, dimensions_of, empty_of, positions_of, kept_of, words_of, check_number}
use Rattle.format.specs.Calls.{out_number, setting_number, write_signal, change_signal, write_number, change_number, written_file, changed_file, Wrote, Changed}
use Rattle.format.specs.Lookups.{rank_in}
use Rattle.format.specs.Opened.{view_of, Free, number}
use Rattle.laws.proofs.Tools.{cases, both_true, and_both}
use Rattle.laws.proofs.Settings.{setting}
use Rattle.parts.specs.declared.Found.{Found}
use Rattle.parts.specs.Holds.{ViewOf, kind_of}
use Rattle.parts.specs.Found.{count_below, FoundIn}
use Rattle.parts.proofs.Seen.{seen}
use Rattle.search.specs.Searched.{rank_from, RankSearched}
use Rattle.search.proofs.RankAnswers.{no_rank}
use Rattle.search.proofs.Places.{rank-place}
use Rattle.stores.specs.Put.{put}
use Rattle.stores.proofs.Laws.{put_front}
use Rattle.edits.specs.declared.Edit.{Edit}
use Rattle.edits.specs.Edit.{edited, overlaid, Writes}
use Rattle.edits.proofs.Edits.{keeping, keeping_positions, keeping_words, keeps, rank_below, adds, removes, replaces, same_word}
use Rattle.recode.specs.Recoded.{words_after, Recodes, Recoded}
use Rattle.writing.specs.Same.{Copied}
use Rattle.checked.proofs.Number.{setting_in, setting_later}
use Rattle.recode.proofs.Recoding.{after_is, recodes}

-- ---- the edit of a write

-- the case of an answer, and its value
abbrev sort : Answer → ℕ
sort (refused n) = 0
sort (empty n) = 1
sort (given x) = 2

abbrev value : Answer → ℕ
value (refused n) = 0
value (empty n) = n
value (given x) = x

module _ (b : List ℕ) (v : View) (o : ViewOf b v) (q : Position) (w : ℕ) where
  abbrev p : ℕ
  p = q.0

  abbrev E : ℕ
  E = empty_of b

  abbrev ws : List ℕ
  ws = words_of b

  module _ (i : p < v.cells) where
    inside : p < length ws
    inside = let n = (seen b v o).words_size in omega arith

    says : (a : Answer) → RankSearched b v p a → a ≡ pick (eqb (get_or ws p 0) E) (empty (rank_at E ws p)) (given (rank_at E ws p))
    unfolding rank_in
    says a s = s.right o ∙ rw (lt-ltb p (length ws) inside)

    -- the answer made of a place
    pub place-answer : (f : Found) → FoundIn (kind_of v) b v p f → (a : RankAnswer) → rank_says (Ok a) ≡ rank_from f → RankSearched b v p (rank_says (Ok a))
    place-answer f h a e = subst (RankSearched b v p) (sym e) (rank-place b v p f i h)

    pub below-place : (f : Found) → FoundIn (kind_of v) b v p f → f.below ≡ count_below p (positions_of b)
    below-place f h = (h.right (positions_of b) (seen b v o).holds).below

    pub empty-there : (a : RankAnswer) → ((r : Rank) → a ≡ ra.Rank r → ⊥) → RankSearched b v p (rank_says (Ok a)) → get_or ws p 0 ≡ E
    empty-there a h s =
        let n = no_rank a h in
        let k = subst (λ (x : RankAnswer). RankSearched b v p (rank_says (Ok x))) n.1 s in
        cases (eqb (get_or ws p 0) E) (λ t. eqb-true (get_or ws p 0) E t)
        (λ t. absurd (let z : empty n.0.0 ≡ given (rank_at E ws p) = says (empty n.0.0) k ∙ rw t in let e : 1 ≡ 2 = ap sort z in omega arith))

    pub stored_there : (r : ℕ) → RankSearched b v p (given r) → (get_or ws p 0 ≡ E → ⊥) × (r ≡ rank_at E ws p)
    stored_there r s =
        cases (eqb (get_or ws p 0) E) (λ t. absurd (let z : given r ≡ empty (rank_at E ws p) = says (given r) s ∙ rw t in let e : 2 ≡ 1 = ap sort z in omega arith))
        (λ t. let z : given r ≡ given (rank_at E ws p) = says (given r) s ∙ rw t in (eqb-false (get_or ws p 0) E t, ap value z))

    -- an empty cell: a new rank, or nothing new
    pub edit-empty : get_or ws p 0 ≡ E → (k : ℕ) → k ≡ count_below p (positions_of b) → (t : Option Position) → t ≡ then_some (not (eqb w v.empty)) q
        → Writes b p w (record { before = k; added = t; after = k })
    edit-empty a k c t f =
        let n : k ≡ rank_at E ws p = c ∙ sym (rank_below b v o q w inside) in
        subst (λ (m : ℕ). Writes b p w (record { before = m; added = t; after = m })) (sym n)
        (cases (eqb w E)
        (λ e. rw (f, (seen b v o).empty, e) (same_word b v o q w inside (a ∙ sym (eqb-true w E e))))
        (λ e. rw (f, (seen b v o).empty, e) (adds b v o q w inside a (eqb-false w E e))))

    -- a stored cell: none in its place, or another word
    pub edit-stored : (r : ℕ) → (get_or ws p 0 ≡ E → ⊥) × (r ≡ rank_at E ws p) → (t : Option Position) → t ≡ then_some (not (eqb w v.empty)) q
        → Writes b p w (record { before = r; added = t; after = r + 1 })
    edit-stored r a t f =
        subst (λ (m : ℕ). Writes b p w (record { before = m; added = t; after = m + 1 })) (sym a.1)
        (cases (eqb w E)
        (λ e. rw (f, (seen b v o).empty, e) (removes b v o q w inside a.0 (eqb-true w E e)))
        (λ e. rw (f, (seen b v o).empty, e) (replaces b v o q w inside a.0 (eqb-false w E e))))

-- a rank that was found is below the words
free-below : (bound r : ℕ) → Free bound (given r) → r < bound
free-below bound r (number n h) = h

pub rank-small : (b : List ℕ) (v : View) (p r : ℕ) → RankSearched b v p (given r) → r < v.words
rank-small b v p r s = free-below v.words r s.free

-- ---- write

module _ (b : List ℕ) (p w : ℕ) (before : List ℕ) where
  pub write-refused : (n : ℕ) → n ≡ check_number b → (n ≡ 0 → ⊥) → Wrote b p w before n before
  unfolding write_number
  write-refused zero e h = absurd (h refl)
  write-refused (suc n) e h = record { number = rw (← e); left = refl }

  module _ (v : View) (o : ViewOf b v) where
    inside-cells : p < v.cells → p < cells (dimensions_of b)
    inside-cells l = let c = (seen b v o).header.cells in omega arith

    write-signal : write_number b p w (length before) ≡ write_signal (setting_of b) (dimensions_of b) (empty_of b) (words_of b) p w (length before)
    unfolding write_number
    write-signal = rw o.accepted

    pub write-beyond : v.cells ≤ p → Wrote b p w before BEYOND before
    unfolding write_signal
    write-beyond l =
        let c = (seen b v o).header.cells in
        record { number = sym (write-signal ∙ rw (le-ltb p (cells (dimensions_of b)) (omega arith))); left = refl }

    module _ (x : Edit) (m : Writes b p w x) where
      written : words_after b x w ≡ set (words_of b) p w
      written = after_is b v o x w (set (words_of b) p w) (length-set (words_of b) p w) m.positions m.words

      pub write_recodes : Recodes b x w
      write_recodes = recodes b v o x w (set (words_of b) p w) (length-set (words_of b) p w) m.positions m.words m.edit

      pub write_done : (n : ℕ) (after : List ℕ) → p < v.cells → Recoded b x w (setting_of b) before n after → Wrote b p w before n after
      unfolding write_signal written_file
      write_done n after l r =
          record {
            number = r.number ∙ rw written (sym (write-signal ∙ rw (lt-ltb p (cells (dimensions_of b)) (inside-cells l))));
            left = r.left ∙ ap (λ (us : List ℕ). leaves n (layout (setting_of b) (dimensions_of b) (empty_of b) us) before) written;
          }

-- ---- change

-- settings that `==` finds equal
pub same-setting : (s t : Setting) → (eqb s.kind t.kind && (eqb s.width t.width && eqb s.step t.step)) ≡ true → s ≡ t
same-setting s t h =
    let a = both_true _ _ (sym (and_both (eqb s.kind t.kind) (eqb s.width t.width && eqb s.step t.step)) ∙ h) in
    let b = both_true _ _ (sym (and_both (eqb s.width t.width) (eqb s.step t.step)) ∙ a.1) in
    ap₂ (λ (x y : ℕ). setting x y s.step) (eqb-true s.kind t.kind a.0) (eqb-true s.width t.width b.0)
    ∙ ap (setting t.kind t.width) (eqb-true s.step t.step b.1)

setting-of-view : (b : List ℕ) → setting_in (view_of b) ≡ setting_of b
unfolding view_of
setting-of-view b = refl

-- the view's setting is the file's
pub view-setting : (b : List ℕ) (v : View) → v ≡ view_of b → setting_in v ≡ setting_of b
view-setting b v e = ap setting_in e ∙ setting-of-view b

module _ (b : List ℕ) (s : Setting) (before : List ℕ) where
  pub change-refused : (n : ℕ) → n ≡ check_number b → (n ≡ 0 → ⊥) → Changed b s before n before
  unfolding change_number
  change-refused zero e h = absurd (h refl)
  change-refused (suc n) e h = record { number = rw (← e); left = refl }

  module _ (v : View) (o : ViewOf b v) where
    abbrev out : ℕ
    out = out_number s (dimensions_of b) (empty_of b) (words_of b) (length before)

    change-signal : change_number b s (length before) ≡ or_else (setting_number s 0) out
    unfolding change_number change_signal
    change-signal = rw o.accepted (setting_later s 0 out)

    pub change-setting : (n : ℕ) → n ≡ setting_number s 0 → (n ≡ 0 → ⊥) → Changed b s before n before
    change-setting zero e z = absurd (z refl)
    change-setting (suc n) e z = record { number = sym (change-signal ∙ ap (λ (k : ℕ). or_else k out) (sym e)); left = refl }

    -- all ranks kept
    abbrev pub all : Edit
    all = keeping v.words

    same-positions : edited all (positions_of b) ≡ stored (empty_of b) (words_of b)
    same-positions = keeping_positions v.words (positions_of b) ∙ (seen b v o).stored

    same-words : overlaid all 0 (kept_of b) ≡ kept (empty_of b) (words_of b)
    same-words = keeping_words v.words 0 (kept_of b) ∙ (seen b v o).kept

    unchanged : words_after b all 0 ≡ words_of b
    unchanged = after_is b v o all 0 (words_of b) refl same-positions same-words

    pub change_recodes : Recodes b all 0
    change_recodes =
        let n = (seen b v o).words in
        recodes b v o all 0 (words_of b) refl same-positions same-words (keeps b v o v.words (omega arith))

    pub change-done : (n : ℕ) (after : List ℕ) → setting_number s 0 ≡ 0 → Recoded b all 0 s before n after → Changed b s before n after
    unfolding changed_file
    change-done n after t r =
        record {
          number = r.number ∙ rw unchanged (sym (change-signal ∙ ap (λ (j : ℕ). or_else j out) t));
          left = r.left ∙ ap (λ (us : List ℕ). leaves n (layout s (dimensions_of b) (empty_of b) us) before) unchanged;
        }

    -- the file's own setting
    pub change-own : s ≡ setting_of b → setting_number s 0 ≡ 0 → (n : ℕ) (after : List ℕ) → Copied b before n after → Changed b s before n after
    unfolding changed_file out_number
    change-own own z n after r =
        let f = (seen b v o).file in
        let l : layout s (dimensions_of b) (empty_of b) (words_of b) ≡ b = ap (λ (x : Setting). layout x (dimensions_of b) (empty_of b) (words_of b)) own ∙ f.file in
        let u : (codec s).unfit (stored (empty_of b) (words_of b)) ≡ false = ap (λ (x : Setting). (codec x).unfit (stored (empty_of b) (words_of b))) own ∙ f.fits in
        record {
          number =
              r.number
              ∙ sym (change-signal ∙ ap (λ (j : ℕ). or_else j out) z ∙ rw (u, l));
          left = r.left ∙ ap (λ (us : List ℕ). leaves n us before) (sym l);
        }

-- a copy
pub copy_small : (b before : List ℕ) → length before < length b → Copied b before SMALL before
copy_small b before h = record { number = rw (lt-ltb (length before) (length b) h); left = refl }

pub copy_done : (b before after : List ℕ) → length b ≤ length before → after ≡ put before 0 (take (length b) (drop 0 b)) → Copied b before 0 after
copy_done b before after h e =
    record {
      number = rw (le-ltb (length before) (length b) h);
      left = e ∙ ap (put before 0) (take-length b) ∙ put_front before b h;
    }

-- Demand 3, proved of every two lists. Assumes nothing.
use Prim.Native.Nat.{ℕ, zero, suc, ◌^◌, ◌<◌}
use mathlib.Core.Path.{◌≡◌, refl, sym, ap, ap₂, ◌∙◌, subst}
use mathlib.Core.Logic.{◌↔◌}
use mathlib.Core.List.{List, [], ◌∷◌, ◌++◌, map}
use native.Mathlib.Omega.{arith}
use lib.ListN.{length, drop, get_or, replicate, get_or-replicate}
use lib.Seq.{get_or-set_same, get_or-set_other, ext_get_or}
use lib.Dec.{eqb}
use borrow.Author.Tests.{eqb-true, eqb-false, lt-ltb}
use Rattle.format.specs.declared.Dimensions.{Dimensions}
use Rattle.format.specs.Picture.{cells}
use Rattle.format.specs.declared.Setting.{Setting}
use Rattle.format.specs.File.{layout, HasFile}
use Rattle.format.specs.Accepted.{words_of, setting_of}
use Rattle.format.specs.Calls.{make_number, expand_number, write_number, written_file, change_number, changed_file, Made, Expanded}
use Rattle.format.specs.Answers.{leaves, empty, given}
use Rattle.format.specs.Lookups.{CellFound, RankFound, PositionFound, cell_in, cell_answer, rank_answer, position_answer}
use Rattle.format.specs.Table.{Request, write, change, Table, new_table, table_file, would_be, signal, table_number, becomes, table_next, table_run, table_numbers}
use Rattle.format.specs.Demand3.{Call, fed, Called, file_in, next_file, Ran, done, then, Listed, word_after, last_written, Alike, AsTable, Agree, Demand3}
use Rattle.laws.proofs.Tools.{cases}
use Rattle.laws.proofs.Files.{words_back, setting-back}
use Rattle.laws.proofs.Calls.{write-number, written_file_lem, change-number, changed-file, cell-answer, rank-answer, position-answer, expand-number, file_in_lem, below-replicate, write_has_file, write-inside, change_has_file, make_has_file}

-- the table's picture has the file b
abbrev Holds : Dimensions → ℕ → Table → List ℕ → Type 0
Holds d E t b = HasFile t.setting d E t.words b

-- one call: its number and what it leaves, by the table
record Stepped (d : Dimensions) (E : ℕ) (t : Table) (q : Request) (before : List ℕ) (n : ℕ) (left : List ℕ) : Type 0 where
  number : n ≡ signal d E t q (length before)
  leaves : left ≡ leaves n (table_file d E (would_be t q)) before

stepped : (d : Dimensions) (E : ℕ) (t : Table) (b : List ℕ) → Holds d E t b → (q : Request) (before : List ℕ) (n : ℕ) (left : List ℕ)
    → Called b q before n left → Stepped d E t q before n left
unfolding table_file
stepped d E t b h (write p x) before n left c =
    record {
      number = c.1.number ∙ write-number t.setting d E t.words b h p x (length before);
      leaves = c.1.left ∙ ap (λ (f : List ℕ). leaves n f before) (written_file_lem t.setting d E t.words b h p x);
    }
stepped d E t b h (change s) before n left c =
    record {
      number = c.number ∙ change-number t.setting d E t.words b h s (length before);
      leaves = c.left ∙ ap (λ (f : List ℕ). leaves n f before) (changed-file t.setting d E t.words b h s);
    }

-- an accepted call: what the table would be has its file
would_hold : (d : Dimensions) (E : ℕ) (t : Table) (b : List ℕ) → Holds d E t b → (q : Request) (before : List ℕ) (n : ℕ) (left : List ℕ)
    → Called b q before n left → signal d E t q (length before) ≡ 0 → Holds d E (would_be t q) (table_file d E (would_be t q))
unfolding table_file
would_hold d E t b h (write p x) before n left c e = write_has_file t.setting d E t.words b p x (length before) h c.0 e
would_hold d E t b h (change s) before n left c e = change_has_file t.setting d E t.words b s (length before) h e

-- the word at a position becomes a call
would_word : (d : Dimensions) (E : ℕ) (t : Table) → length t.words ≡ cells d → (q : Request) (room p : ℕ) → signal d E t q room ≡ 0
    → get_or (would_be t q).words p 0 ≡ word_after p (get_or t.words p 0) q 0
would_word d E t n (write j y) room p e =
    let k : j < length t.words = omega (arith, n, write-inside t.setting d E t.words j y room e) in
    cases (eqb j p)
    (λ z. let m : j ≡ p = eqb-true j p z in rw (z, ← m) (get_or-set_same t.words j y 0 k))
    (λ z. rw z (get_or-set_other t.words j p y 0 (λ m. eqb-false j p z (sym m))))
would_word d E t n (change s) room p e = refl

-- a list of calls, by the table
record Followed (d : Dimensions) (E : ℕ) (t : Table) (cs : List Call) (ns b : List ℕ) : Type 0 where
  numbers : ns ≡ table_numbers d E t (map fed cs)
  holds : Holds d E (table_run d E t (map fed cs)) b
  words : (p : ℕ) → get_or (table_run d E t (map fed cs)).words p 0 ≡ last_written p (get_or t.words p 0) cs ns

word-refused : (p x : ℕ) (q : Request) (n : ℕ) → word_after p x q (suc n) ≡ x
word-refused p x (write j y) n = refl
word-refused p x (change s) n = refl

-- the table becomes a call, by its number
table_next_lem : (d : Dimensions) (E : ℕ) (t : Table) (c : Call) (n : ℕ) → signal d E t c.request (length c.destination) ≡ n
    → table_next d E t (fed c) ≡ becomes n (would_be t c.request) t
unfolding table_next table_number
table_next_lem d E t c n e = ap (λ (k : ℕ). becomes k (would_be t c.request) t) e

then_one : (d : Dimensions) (E : ℕ) (t u : Table) (c : Call) (cs : List Call) (n : ℕ) (ns b : List ℕ) → signal d E t c.request (length c.destination) ≡ n
    → table_next d E t (fed c) ≡ u → ((p : ℕ) → get_or u.words p 0 ≡ word_after p (get_or t.words p 0) c.request n)
    → Followed d E u cs ns b → Followed d E t (c ∷ cs) (n ∷ ns) b
unfolding table_numbers table_number table_run last_written
then_one d E t u c cs n ns b e x w f =
    record {
      numbers = ap₂ (λ (k : ℕ) (l : List ℕ). k ∷ l) (sym e) (f.numbers ∙ rw x);
      holds = subst (λ (v : Table). Holds d E (table_run d E v (map fed cs)) b) (sym x) f.holds;
      words = λ p. ap (λ (v : Table). get_or (table_run d E v (map fed cs)).words p 0) x ∙ f.words p ∙ ap (λ (y : ℕ). last_written p y cs ns) (w p);
    }

-- the file in the destination becomes an accepted call
file-left : (d : Dimensions) (E : ℕ) (t : Table) (before left : List ℕ) → Holds d E t (table_file d E t) → left ≡ leaves 0 (table_file d E t) before
    → Holds d E t (file_in left)
file-left d E t before left h e =
    let f : file_in left ≡ table_file d E t
    = ap file_in e ∙ file_in_lem t.setting d E t.words (table_file d E t) h (drop (length (table_file d E t)) before) in
    subst (λ (b : List ℕ). Holds d E t b) (sym f) h

followed : (d : Dimensions) (E : ℕ) (t : Table) (b : List ℕ) (cs : List Call) (ns b' : List ℕ) → Holds d E t b → Ran b cs ns b' → Followed d E t cs ns b'
followed d E t b cs ns b' h done = record { numbers = unfold table_numbers in refl; holds = unfold table_run in h; words = unfold table_run last_written in (λ p. refl) }
followed d E t b cs ns b' h (then {c = c} {n = zero} left {cs = cs'} {ns = ns'} called rest) =
    let st = stepped d E t b h c.request c.destination 0 left called in
    let e : signal d E t c.request (length c.destination) ≡ 0 = sym st.number in
    let g = would_hold d E t b h c.request c.destination 0 left called e in
    then_one d E t (would_be t c.request) c cs' 0 ns' b' e (table_next_lem d E t c 0 e) (λ p. would_word d E t h.size c.request (length c.destination) p e)
    (followed d E (would_be t c.request) (file_in left) cs' ns' b' (file-left d E (would_be t c.request) c.destination left g st.leaves) rest)
followed d E t b cs ns b' h (then {c = c} {n = suc n} left {cs = cs'} {ns = ns'} called rest) =
    let st = stepped d E t b h c.request c.destination (suc n) left called in
    let e : signal d E t c.request (length c.destination) ≡ suc n = sym st.number in
    then_one d E t t c cs' (suc n) ns' b' e (table_next_lem d E t c (suc n) e) (λ p. sym (word-refused p (get_or t.words p 0) c.request n))
    (followed d E t b cs' ns' b' h rest)

-- one list
start : (d : Dimensions) (E : ℕ) (s : Setting) (before left : List ℕ) → E < 2 ^ 32 → Made s d E (replicate (cells d) E) before 0 left
    → Holds d E (new_table d E s) (file_in left)
unfolding new_table table_file
start d E s before left k m =
    let h = make_has_file s d E (replicate (cells d) E) (length before) k (below-replicate (2 ^ 32) (cells d) E k) (sym m.number) in
    file-left d E (new_table d E s) before left h m.left

listed : (d : Dimensions) (E : ℕ) (s : Setting) (cs : List Call) (ns b : List ℕ) → E < 2 ^ 32 → Listed d E s cs ns b → Followed d E (new_table d E s) cs ns b
listed d E s cs ns b k l = followed d E (new_table d E s) (file_in l.after) cs ns b (start d E s l.before l.after k l.made) l.ran

-- the final table's word at a position is that of the last accepted write
last_word : (d : Dimensions) (E : ℕ) (s : Setting) (cs : List Call) (ns b : List ℕ) → Followed d E (new_table d E s) cs ns b
    → (p : ℕ) → p < cells d → get_or (table_run d E (new_table d E s) (map fed cs)).words p 0 ≡ last_written p E cs ns
unfolding new_table
last_word d E s cs ns b f p k = f.words p ∙ ap (λ (y : ℕ). last_written p y cs ns) (get_or-replicate (cells d) p E 0 k)

cell-inside : (ws : List ℕ) (n p : ℕ) → length ws ≡ n → p < n → cell_in ws p ≡ given (get_or ws p 0)
unfolding cell_in
cell-inside ws n p e k = rw (lt-ltb p (length ws) (omega arith))

as_table : (d : Dimensions) (E : ℕ) (s : Setting) (cs : List Call) (ns b : List ℕ) → Followed d E (new_table d E s) cs ns b → AsTable d E s cs ns b
unfolding table_file
as_table d E s cs ns b f =
    let t = table_run d E (new_table d E s) (map fed cs) in
    record {
      numbers = f.numbers;
      file = sym f.holds.file;
      cell =
          λ p k a found.
          found.said
          ∙ cell-answer t.setting d E t.words b f.holds p
          ∙ cell-inside t.words (cells d) p f.holds.size k
          ∙ ap given (last_word d E s cs ns b f p k);
    }

-- words that agree at each position are the same
words_agree : (n : ℕ) (ws ws' : List ℕ) (f f' : ℕ → ℕ) → length ws ≡ n → length ws' ≡ n
    → ((p : ℕ) → p < n → get_or ws p 0 ≡ f p) → ((p : ℕ) → p < n → get_or ws' p 0 ≡ f' p)
    → ((p : ℕ) → p < n → f p ≡ f' p) → ws ≡ ws'
words_agree n ws ws' f f' a b g g' h =
    ext_get_or 0 ws ws' (a ∙ sym b) (λ i k. let k' : i < n = omega arith in g i k' ∙ h i k' ∙ sym (g' i k'))

given-same : (a b : ℕ) → given a ≡ given b → a ≡ b
given-same a b e = cc

-- two files of one picture answer alike
same_alike : (s s' : Setting) (d : Dimensions) (E : ℕ) (ws b b' : List ℕ) → HasFile s d E ws b → HasFile s' d E ws b' → Alike b b'
same_alike s s' d E ws b b' h h' =
    record {
      cell = λ p a₁ a₂ f₁ f₂. f₁.said ∙ cell-answer s d E ws b h p ∙ sym (cell-answer s' d E ws b' h' p) ∙ sym f₂.said;
      rank = λ p a₁ a₂ f₁ f₂. f₁.said ∙ rank-answer s d E ws b h p ∙ sym (rank-answer s' d E ws b' h' p) ∙ sym f₂.said;
      position = λ r a₁ a₂ f₁ f₂. f₁.said ∙ position-answer s d E ws b h r ∙ sym (position-answer s' d E ws b' h' r) ∙ sym f₂.said;
      expand =
          λ dst n₁ left₁ n₂ left₂ x₁ x₂.
          let e : n₁ ≡ n₂ = x₁.number ∙ expand-number s d E ws b h (length dst) ∙ sym (expand-number s' d E ws b' h' (length dst)) ∙ sym x₂.number in
          (e, x₁.left ∙ ap₂ (λ (n : ℕ) (out : List ℕ). leaves n out dst) e (words_back s d E ws b h ∙ sym (words_back s' d E ws b' h')) ∙ sym x₂.left);
    }

-- lists whose cell lookups give the same have the same last writes
agree : (d : Dimensions) (E : ℕ) (s₁ : Setting) (cs₁ : List Call) (ns₁ b₁ : List ℕ) (s₂ : Setting) (cs₂ : List Call) (ns₂ b₂ : List ℕ)
    → AsTable d E s₁ cs₁ ns₁ b₁ → AsTable d E s₂ cs₂ ns₂ b₂ → ((p : ℕ) → cell_answer b₁ p ≡ cell_answer b₂ p) → Agree d E cs₁ ns₁ cs₂ ns₂
agree d E s₁ cs₁ ns₁ b₁ s₂ cs₂ ns₂ b₂ one two a p i =
    given-same (last_written p E cs₁ ns₁) (last_written p E cs₂ ns₂)
    (sym (one.cell p i (cell_answer b₁ p) (record { said = refl })) ∙ a p ∙ two.cell p i (cell_answer b₂ p) (record { said = refl }))

-- demand 3
pub demand3 : Demand3
demand3 d E k s₁ cs₁ ns₁ b₁ l₁ s₂ cs₂ ns₂ b₂ l₂ =
    let f₁ = listed d E s₁ cs₁ ns₁ b₁ k l₁ in
    let f₂ = listed d E s₂ cs₂ ns₂ b₂ k l₂ in
    let t₁ = table_run d E (new_table d E s₁) (map fed cs₁) in
    let t₂ = table_run d E (new_table d E s₂) (map fed cs₂) in
    let one = as_table d E s₁ cs₁ ns₁ b₁ f₁ in
    let two = as_table d E s₂ cs₂ ns₂ b₂ f₂ in
    let words : Agree d E cs₁ ns₁ cs₂ ns₂ → t₁.words ≡ t₂.words
    = words_agree (cells d) t₁.words t₂.words (λ p. last_written p E cs₁ ns₁) (λ p. last_written p E cs₂ ns₂) f₁.holds.size f₂.holds.size
    (last_word d E s₁ cs₁ ns₁ b₁ f₁) (last_word d E s₂ cs₂ ns₂ b₂ f₂) in
    let only : ((p : ℕ) → cell_answer b₁ p ≡ cell_answer b₂ p) → Agree d E cs₁ ns₁ cs₂ ns₂ = agree d E s₁ cs₁ ns₁ b₁ s₂ cs₂ ns₂ b₂ one two in
    record {
      one = one;
      two = two;
      alike = (
        (λ a. only (λ p. a.cell p (cell_answer b₁ p) (cell_answer b₂ p) (record { said = refl }) (record { said = refl }))),
        (λ a. same_alike t₁.setting t₂.setting d E t₁.words b₁ b₂ f₁.holds
            (subst (λ (ws : List ℕ). HasFile t₂.setting d E ws b₂) (sym (words a)) f₂.holds)),
      );
      tables = (words, (λ e p k. sym (last_word d E s₁ cs₁ ns₁ b₁ f₁ p k) ∙ ap (λ (ws : List ℕ). get_or ws p 0) e ∙ last_word d E s₂ cs₂ ns₂ b₂ f₂ p k));
      bytes = (
        (λ a. (
          only (λ p. ap (λ (x : List ℕ). cell_answer x p) a),
          sym (setting-back t₁.setting d E t₁.words b₁ f₁.holds) ∙ ap setting_of a ∙ setting-back t₂.setting d E t₂.words b₂ f₂.holds,
        )),
        (λ a. sym f₁.holds.file ∙ ap₂ (λ (s : Setting) (ws : List ℕ). layout s d E ws) a.1 (words a.0) ∙ f₂.holds.file),
      );
    }

-- files that answer alike give the same number of stored cells before an empty cell (document 02, S-9)
pub alike-before : (b₁ b₂ : List ℕ) → Alike b₁ b₂ → (p n : ℕ) → RankFound b₁ p (empty n) ↔ RankFound b₂ p (empty n)
alike-before b₁ b₂ a p n = (
  (λ f. record { said = a.rank p (empty n) (rank_answer b₂ p) f (record { said = refl }) }),
  (λ f. record { said = sym (a.rank p (rank_answer b₁ p) (empty n) (record { said = refl }) f) }),
)

-- a written word is below 2^32
abbrev pub WordIn : Request → Type 0
WordIn (write p x) = x < 2 ^ 32
WordIn (change s) = Unit

abbrev pub WordsIn : List Call → Type 0
WordsIn [] = Unit
WordsIn (c ∷ cs) = WordIn c.request × WordsIn cs

-- ---- the claim is about something: each list of calls whose make is accepted has a run, and each lookup and expand an answer

called : (b : List ℕ) (q : Request) (before : List ℕ) → WordIn q → (n : ℕ) × ((left : List ℕ) × Called b q before n left)
called b (write p x) before w =
    (write_number b p x (length before), (leaves (write_number b p x (length before)) (written_file b p x) before, (w, record { number = refl; left = refl })))
called b (change s) before w =
    (change_number b s (length before), (leaves (change_number b s (length before)) (changed_file b s) before, record { number = refl; left = refl }))

pub runs_exist : (b : List ℕ) (cs : List Call) → WordsIn cs → (ns : List ℕ) × ((b' : List ℕ) × Ran b cs ns b')
runs_exist b [] w = ([], (b, done))
runs_exist b (c ∷ cs) w =
    let a = called b c.request c.destination w.0 in
    let r = runs_exist (next_file b a.0 a.1.0) cs w.1 in
    (a.0 ∷ r.0, (r.1.0, then a.1.0 a.1.1 r.1.1))

pub lists_exist : (d : Dimensions) (E : ℕ) (s : Setting) (before : List ℕ) → make_number s d E (replicate (cells d) E) (length before) ≡ 0
    → (cs : List Call) → WordsIn cs → (ns : List ℕ) × ((b : List ℕ) × Listed d E s cs ns b)
lists_exist d E s before e cs w =
    let after = leaves 0 (layout s d E (replicate (cells d) E)) before in
    let r = runs_exist (file_in after) cs w in
    (r.0, (r.1.0, record { before = before; after = after; made = record { number = sym e; left = refl }; ran = r.1.1 }))

pub answers_exist : (b : List ℕ) (p : ℕ) → CellFound b p (cell_answer b p) × RankFound b p (rank_answer b p) × PositionFound b p (position_answer b p)
answers_exist b p = (record { said = refl }, record { said = refl }, record { said = refl })

pub expand_exists : (b before : List ℕ) → Expanded b before (expand_number b (length before)) (leaves (expand_number b (length before)) (words_of b) before)
expand_exists b before = record { number = refl; left = refl }

-- each beginning of a list is a list: what ran on all the calls ran on the first of them, and then on the others
pub beginning : (b : List ℕ) (cs more : List Call) (ns b' : List ℕ) → Ran b (cs ++ more) ns b'
    → (ns₁ : List ℕ) × ((ns₂ : List ℕ) × ((m : List ℕ) × ((ns ≡ ns₁ ++ ns₂) × Ran b cs ns₁ m × Ran m more ns₂ b')))
beginning b [] more ns b' r = ([], (ns, (b, (refl, done, r))))
beginning b (c ∷ cs) more ns b' (then {n = n} after {ns = ns'} called rest) =
    let i = beginning (next_file b n after) cs more ns' b' rest in
    (n ∷ i.0, (i.1.0, (i.1.1.0, (ap (λ (l : List ℕ). n ∷ l) i.1.1.1.0, then after called i.1.1.1.1, i.1.1.1.2))))

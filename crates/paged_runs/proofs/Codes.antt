-- Kind 5: the encoder puts out level 0 of the length pairs of the runs, and measures the parts. Assumes nothing.
use Rattle.std.proofs.Common.{◌≡◌, ℕ, zero, suc, ◌+◌, ◌-◌, ◌*◌, ◌/◌, ◌<◌, ◌≤◌, Bool, true, false, not, eqb, List, [], ◌∷◌, ◌++◌, length, sym, refl, ap, ◌∙◌, ap₂, append-nil, add-one, arith, eqb-true}
use lib.Arith.{lt_of_le-ne}
use borrow.Author.Tests.{eqb-false}
use Rattle.format.specs.Tools.{pick}
use Rattle.format.specs.Bytes.{bytes_of}
use Rattle.format.specs.Picture.{most_cells}
use Rattle.format.specs.Codec.{Parts}
use Rattle.format.specs.Runs.{Span, run_at, runs_from, runs, spans_from, spans}
use Rattle.format.specs.PagedRuns.{none, plus, sums_from, level, flat_spans, upper_levels, upper_entries, paged_parts, pages_kind}
use Rattle.laws.proofs.Tools.{cases}
use Rattle.laws.proofs.Stored.{Rising}
use Rattle.laws.proofs.Bounds.{length-level, length-upper_levels}
use Rattle.stores.specs.Put.{put, pair}
use Rattle.stores.proofs.Laws.{put_nil}
use Rattle.parts.specs.declared.Encoder.{Encoder}
use Rattle.parts.specs.declared.Sizes.{Sizes}
use Rattle.parts.specs.Encoder.{if_zero, begun, left_after, unchanged, run_ends, taken_by, taken_all_by, ended_by, firsts_by, seconds_by}
use Rattle.parts.specs.Codes.{Codes, PutOut, sizes_in, out_in}
use Rattle.parts.proofs.Taking.{if_suc, run_ends_lem, no_firsts, same_fit, rank-all, second-all}
use Rattle.page_entries.specs.Coding.{page_entry, paged, page_sizes, pages_coder, coder}
use Rattle.page_walk.proofs.Allowed.{page-step}
use Rattle.page_entries.proofs.OneEntry.{pages_fit, keeps_pages}
use Rattle.levels.proofs.LevelBytes.{flat_cons, length-entries}
use Rattle.paged_runs.proofs.FirstPart.{levels-made}

-- the entry of the pair x, where k more entries belong to the page that has the sum a so far
entry_at : ℕ → Span → Span → Span
entry_at k a x = if_zero k x (plus a x)

sums_cons : (b k : ℕ) (a x : Span) (xs : List Span) → sums_from b k a (x ∷ xs) ≡ entry_at k a x ∷ sums_from b (left_after b k) (entry_at k a x) xs
unfolding sums_from entry_at left_after
sums_cons b zero a x xs = refl
sums_cons b (suc k) a x xs = let e : suc k - 1 ≡ k = omega arith in rw e

-- The encoder is in a page that has k more entries to come and the sum a so far; the runs before end at `end`, with v empty cells up to there.
record InPage (e : Encoder) (k : ℕ) (a : Span) (end v : ℕ) : Type 0 where
  left : e.left ≡ k
  cells : e.cells + (if_zero k none a).cells ≡ end
  empty : e.empty + (if_zero k none a).empty ≡ v

-- the open run as a length pair
abbrev open_span : ℕ → ℕ → ℕ → ℕ → Span
open_span end v p r = record { cells = suc p - end; empty = p - r - v }

module _ (k : ℕ) (a : Span) (end v p r c m : ℕ) (lo : end ≤ suc p) (hi : v + r ≤ p) where
  entry_cells : c + (if_zero k none a).cells ≡ end → (entry_at k a (open_span end v p r)).cells ≡ p + 1 - c
  unfolding entry_at
  entry_cells h = go k a h
    where
      go : (k : ℕ) (a : Span) → c + (if_zero k none a).cells ≡ end → (if_zero k (open_span end v p r) (plus a (open_span end v p r))).cells ≡ p + 1 - c
      go zero a h = omega arith
      go (suc k) a h = omega arith

  entry_empty : m + (if_zero k none a).empty ≡ v → (entry_at k a (open_span end v p r)).empty ≡ p + 1 - suc r - m
  unfolding entry_at
  entry_empty h = go k a h
    where
      go : (k : ℕ) (a : Span) → m + (if_zero k none a).empty ≡ v → (if_zero k (open_span end v p r) (plus a (open_span end v p r))).empty ≡ p + 1 - suc r - m
      go zero a h = omega arith
      go (suc k) a h = omega arith

-- after the entry y of a run that ends with q cells, or q empty ones: a new page, or the same one with the sum y
page-cells : (n c q : ℕ) (y : Span) → c ≤ q → y.cells ≡ q - c → if_zero n q c + (if_zero n none y).cells ≡ q
page-cells zero c q y h k = omega arith
page-cells (suc n) c q y h k = omega arith

page-empty : (n c q : ℕ) (y : Span) → c ≤ q → y.empty ≡ q - c → if_zero n q c + (if_zero n none y).empty ≡ q
page-empty zero c q y h k = omega arith
page-empty (suc n) c q y h k = omega arith

sums-one : (b k : ℕ) (y : Span) → bytes_of 4 (flat_spans (sums_from b k y [])) ≡ []
unfolding sums_from flat_spans bytes_of
sums-one b k y = refl

-- ---- one run more, or one cell more of the open run

module _ (b : ℕ) (e : Encoder) (k : ℕ) (a : Span) (end v r : ℕ) (h : e.rank ≡ suc r) (i : InPage e k a end v)
    (lo : end ≤ suc e.last) (hi : v + r ≤ e.last) where
  entry : Span
  entry = entry_at k a (open_span end v e.last r)

  entry_is : page_entry e ≡ pair entry.cells entry.empty
  unfolding page_entry entry
  entry_is =
      let c : entry.cells ≡ e.last + 1 - e.cells = entry_cells k a end v e.last r e.cells e.empty lo hi i.cells in
      let m : entry.empty ≡ e.last + 1 - suc r - e.empty = entry_empty k a end v e.last r e.cells e.empty lo hi i.empty in
      rw (c, m, h)

  kept : (p : ℕ) → run_ends e p ≡ false → InPage (taken_by (pages_coder b) e p) k a end v
  unfolding taken_by pages_coder unchanged
  kept p t = record { left = rw t i.left; cells = rw t i.cells; empty = rw t i.empty }

  turned : (p : ℕ) → run_ends e p ≡ true → InPage (taken_by (pages_coder b) e p) (left_after b k) entry (suc e.last) (e.last - r)
  unfolding taken_by pages_coder paged entry
  turned p t =
      let ic = i.cells in
      let im = i.empty in
      let c : entry.cells ≡ e.last + 1 - e.cells = entry_cells k a end v e.last r e.cells e.empty lo hi i.cells in
      let m : entry.empty ≡ e.last + 1 - suc r - e.empty = entry_empty k a end v e.last r e.cells e.empty lo hi i.empty in
      let n : e.last + 1 - suc r ≡ e.last - r = omega arith in
      record {
        left = rw t (ap (left_after b) i.left);
        cells = rw (t, i.left) (page-cells (left_after b k) e.cells (e.last + 1) entry (omega arith) c ∙ add-one e.last);
        empty = rw (t, i.left, h) (page-empty (left_after b k) e.empty (e.last + 1 - suc r) entry (omega arith) m ∙ n);
      }

  closed : if_zero e.rank [] (page_entry e) ≡ bytes_of 4 (flat_spans (sums_from b k a (open_span end v e.last r ∷ [])))
  unfolding entry
  closed =
      if_suc e.rank r [] (page_entry e) h
      ∙ entry_is
      ∙ sym (append-nil (pair entry.cells entry.empty))
      ∙ ap (λ (l : List ℕ). pair entry.cells entry.empty ++ l) (sym (sums-one b (left_after b k) entry))
      ∙ sym (flat_cons entry (sums_from b (left_after b k) entry []))
      ∙ ap (λ (ys : List Span). bytes_of 4 (flat_spans ys)) (sym (sums_cons b k a (open_span end v e.last r) []))

  added : (xs : List Span)
      → page_entry e ++ bytes_of 4 (flat_spans (sums_from b (left_after b k) entry xs)) ≡ bytes_of 4 (flat_spans (sums_from b k a (open_span end v e.last r ∷ xs)))
  unfolding entry
  added xs =
      ap (λ (l : List ℕ). l ++ bytes_of 4 (flat_spans (sums_from b (left_after b k) entry xs))) entry_is
      ∙ sym (flat_cons entry (sums_from b (left_after b k) entry xs))
      ∙ ap (λ (ys : List Span). bytes_of 4 (flat_spans ys)) (sym (sums_cons b k a (open_span end v e.last r) xs))

-- ---- all runs

module _ (b B : ℕ) where
  seconds_from : (e : Encoder) (k : ℕ) (a : Span) (end v r : ℕ) (ls : List ℕ) → e.rank ≡ suc r → InPage e k a end v
      → end ≤ suc e.last → v + r ≤ e.last → Rising (suc e.last) B ls
      → seconds_by (pages_coder b) e ls ≡ bytes_of 4 (flat_spans (sums_from b k a (spans_from end v (runs_from e.last r ls))))
  unfolding seconds_by taken_by pages_coder runs_from run_at spans_from
  seconds_from e k a end v r [] h i lo hi o = closed b e k a end v r h i lo hi
  seconds_from e k a end v r (p ∷ ls) h i lo hi o =
      let n : (taken_by (pages_coder b) e p).rank ≡ suc (suc r) = omega arith in
      cases (eqb p (suc e.last))
      (λ t.
      let q : p ≡ suc e.last = eqb-true p (suc e.last) t in
      let u : run_ends e p ≡ false = run_ends_lem e r p h ∙ ap not t in
      let ih = seconds_from (taken_by (pages_coder b) e p) k a end v (suc r) ls n (kept b e k a end v r h i lo hi p u) (omega arith) (omega arith) o.2 in
      rw t (ap₂ (λ (x y : List ℕ). x ++ y) (ap (λ (x : Bool). pick x (page_entry e) []) u) ih))
      (λ t.
      let w : suc e.last < p = lt_of_le-ne o.0 (λ z. eqb-false p (suc e.last) t (sym z)) in
      let u : run_ends e p ≡ true = run_ends_lem e r p h ∙ ap not t in
      let y : Span = entry b e k a end v r h i lo hi in
      let ih = seconds_from (taken_by (pages_coder b) e p) (left_after b k) y (suc e.last) (e.last - r) (suc r) ls n
      (turned b e k a end v r h i lo hi p u) (omega arith) (omega arith) o.2 in
      rw t
      (ap₂ (λ (x y : List ℕ). x ++ y) (ap (λ (x : Bool). pick x (page_entry e) []) u) ih
      ∙ added b e k a end v r h i lo hi (spans_from (suc e.last) (e.last - r) (runs_from p (suc r) ls))))

  all-seconds : (f g : ℕ) (ls : List ℕ) → Rising 0 B ls → seconds_by (pages_coder b) (begun f g) ls ≡ bytes_of 4 (flat_spans (level b (spans (runs ls))))
  unfolding seconds_by pages_coder taken_by begun run_ends unchanged runs spans level
  all-seconds f g [] o = unfold spans_from sums_from flat_spans bytes_of in refl
  all-seconds f g (p ∷ ls) o =
      seconds_from (taken_by (pages_coder b) (begun f g) p) 0 none 0 0 0 ls refl (record { left = refl; cells = refl; empty = refl })
      (omega arith) (omega arith) o.2

-- ---- the sizes after the end

eight : (n c : ℕ) → n ≡ 8 * c → n / 8 ≡ c
eight n c e = omega arith

sizes_by : (b : ℕ) (e : Encoder) (n : ℕ) (q : Parts) → e.rank ≡ n → e.second / 8 ≡ q.second_count → upper_entries b q.second_count ≡ q.first_count
    → 8 * q.first_count ≡ length q.first → e.second ≡ length q.second → page_sizes b e ≡ sizes_in n q
unfolding sizes_in
sizes_by b e n q r c u f s = rw (c, u, f, r, s)

all-sizes : (b B : ℕ) (ls : List ℕ) → 2 ≤ b → Rising 0 B ls
    → page_sizes b (ended_by (pages_coder b) (taken_all_by (pages_coder b) (begun 0 0) ls)) ≡ sizes_in (length ls) (paged_parts b (spans (runs ls)))
unfolding paged_parts begun ended_by
all-sizes b B ls two o =
    let k = pages_coder b in
    let xs = spans (runs ls) in
    let m = ended_by k (taken_all_by k (begun 0 0) ls) in
    let lv : length (level b xs) ≡ length xs = length-level b xs in
    let r = rank-all k (begun 0 0) ls in
    let s : m.second ≡ length (bytes_of 4 (flat_spans (level b xs))) =
    second-all k (begun 0 0) ls ∙ ap (λ (l : List ℕ). 0 + length l) (all-seconds b B 0 0 ls o) ∙ omega arith in
    sizes_by b m (length ls) (paged_parts b xs) (r ∙ omega arith)
    (eight m.second (length xs) (s ∙ length-entries (level b xs) ∙ ap (λ (n : ℕ). 8 * n) lv))
    (sym (length-upper_levels b (level b xs) (omega arith) ∙ ap (upper_entries b) lv))
    (sym (length-entries (upper_levels b (level b xs))))
    s

module _ (w b : ℕ) (a : (pages_kind w b).allowed ≡ true) (B : ℕ) (ls : List ℕ) (o : Rising 0 B ls) where
  abbrev parts : Parts
  parts = (pages_kind w b).parts B ls

  firsts-none : (f g : ℕ) → firsts_by (pages_coder b) (begun f g) ls ≡ []
  unfolding pages_coder
  firsts-none f g = no_firsts (pages_coder b) (begun f g) ls (λ e p. refl) (λ e. refl)

  seconds-all : (f g : ℕ) → seconds_by (pages_coder b) (begun f g) ls ≡ parts.second
  unfolding pages_kind paged_parts
  seconds-all f g = all-seconds b B f g ls o

  pub level-alone : (z : Sizes) (start : ℕ) (d : List ℕ) → out_in (pages_coder b) z start ls d ≡ put d (start + z.first) parts.second
  unfolding out_in
  level-alone z start d = rw (firsts-none start (start + z.first), seconds-all start (start + z.first), put_nil)

  put-out : B ≤ most_cells → PutOut (pages_coder b) (pages_kind w b) B ls
  put-out h =
      record {
        first-most = λ f g. let e = firsts-none f g in rw e (omega arith);
        second-most = λ f g. let e = seconds-all f g in rw e (omega arith);
        sizes = λ t. unfold pages_kind paged_parts pages_coder in all-sizes b B ls (page-step w b a).0 o;
        made = λ z q d start room. unfold pages_coder in levels-made w b a B ls h o z q d start room _ (level-alone z start d);
      }

pub codes : (w b : ℕ) → (pages_kind w b).allowed ≡ true → Codes (coder w b) (pages_kind w b)
unfolding coder
codes w b a =
    let k = pages_coder b in
    record {
      keeps = keeps_pages b;
      fits = λ f g ls. unfold pages_kind begun in same_fit k (begun f g) ls (pages_fit b);
      out = λ B ls h o. put-out w b a B ls o h;
    }

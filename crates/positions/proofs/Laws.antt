-- The cursor walks the stored positions, and the coder puts them out. Assumes nothing.
use Rattle.std.proofs.Common.{◌≡◌, ℕ, suc, ◌+◌, ◌-◌, ◌*◌, ◌/◌, ◌^◌, ◌≤◌, true, List, [], ◌∷◌, ◌++◌, length, get_or, sym, refl, ap, ◌∙◌, add-zero, arith}
use Rattle.format.specs.declared.View.{View}
use Rattle.format.specs.Tools.{Below}
use Rattle.format.specs.Bytes.{bytes, bytes_of}
use Rattle.format.specs.Picture.{most_cells}
use Rattle.format.specs.Positions.{position_parts, positions_kind}
use Rattle.laws.proofs.Bytes.{length-bytes, length-bytes_of}
use Rattle.laws.proofs.Stored.{Rising}
use Rattle.laws.proofs.Bounds.{below-rising, below_widen}
use Rattle.parts.specs.declared.Cursor.{Cursor}
use Rattle.parts.specs.declared.Encoder.{Encoder}
use Rattle.parts.specs.Holds.{Holds}
use Rattle.parts.specs.Walks.{Walks}
use Rattle.wire.specs.Wire.{add32}
use Rattle.parts.specs.Cursor.{moved_to, before}
use Rattle.parts.specs.Encoder.{unchanged, begun, taken_by, ended_by, taken_all_by, firsts_by}
use Rattle.parts.specs.Ready.{Next, moved}
use Rattle.parts.specs.Codes.{sizes_in, PutOut, Codes}
use Rattle.parts.proofs.Steps.{upper, RanksFit, upper_next, ranks_rest, kept-walk}
use Rattle.parts.proofs.Entries.{Entries, first_entry, rest_entries, all-entries}
use Rattle.parts.proofs.Outright.{outright}
use Rattle.parts.proofs.Taking.{taken-moved, no_seconds, same_fit, rank-all, first-all, second-all}
use Rattle.parts.proofs.Sounds.{Kept, sound_by}
use Rattle.positions.specs.Steps.{next}
use Rattle.positions.specs.Coding.{coder}
use Rattle.positions.proofs.Held.{there}

-- ---- the cursor

record Ahead (b : List ℕ) (v : View) (c : Cursor) (ls : List ℕ) : Type 0 where
  ranks : RanksFit c ls
  entries : Entries b 4 v.start (upper c) ls

turn : (b : List ℕ) (v : View) (c : Cursor) (p : ℕ) (ls : List ℕ) → Ahead b v c (p ∷ ls) → ((next b v c).at ≡ p) × Ahead b v (next b v c) ls
unfolding next moved_to
turn b v c p ls a = (
  first_entry b 4 v.start (upper c) p ls a.entries,
  record {
    ranks = ranks_rest c p ls a.ranks;
    entries = rw (upper_next c p ls a.ranks) (rest_entries b 4 v.start (upper c) p ls a.entries);
  },
)

-- before rank 0 all stand ahead
begin : (b : List ℕ) (v : View) (ls : List ℕ) → Holds (positions_kind v.width v.step) b v ls → Ahead b v before ls
unfolding positions_kind position_parts add32
begin b v ls h =
    let m = h.counted.cells-most in
    let n = h.size in
    let w = h.counted.words-most in
    let t = there b v h.counted in
    let four : Below (256 ^ 4) ls = below_widen v.cells (256 ^ 4) ls (omega arith) (below-rising 0 v.cells ls h.rising) in
    record { ranks = omega arith; entries = all-entries b 4 v.start (4 * v.firsts) ls (omega arith) four h.first }

pub walks : Walks positions_kind next
walks =
    record {
      rank = λ b v c. unfold next moved_to in refl;
      walk = λ b v ls h. kept-walk (next b v) (Ahead b v) (turn b v) ls before (begin b v ls h);
    }

-- ---- the coder

module _ (w l : ℕ) where
  pub taken-one : (e : Encoder) (p : ℕ) → moved e p (e.first + 4) e.second ≡ taken_by (coder w l) e p
  unfolding coder
  taken-one e p = taken-moved e p (coder w l) (e.first + 4) e.second refl (rw (length-bytes 4 p)) (add-zero e.second)

  -- all of a list at once
  pub taken_list : (e : Encoder) (p : ℕ) (ls : List ℕ)
      → taken_all_by (coder w l) e (p ∷ ls)
      ≡ record {
        rank = e.rank + suc (length ls);
        last = get_or (p ∷ ls) (length ls) 0;
        left = e.left;
        base = e.base;
        cells = e.cells;
        empty = e.empty;
        first = e.first + 4 * suc (length ls);
        second = e.second;
        fits = e.fits;
      }
  unfolding taken_all_by moved
  taken_list e p [] = sym (taken-one e p)
  taken_list e p (q ∷ ls) =
      let r : e.rank + 1 + suc (length ls) ≡ e.rank + suc (suc (length ls)) = omega arith in
      let f : e.first + 4 + 4 * suc (length ls) ≡ e.first + 4 * suc (suc (length ls)) = omega arith in
      ap (λ (x : Encoder). taken_all_by (coder w l) x (q ∷ ls)) (sym (taken-one e p))
      ∙ taken_list (moved e p (e.first + 4) e.second) q ls
      ∙ rw (r, f)

  -- the same by the number of positions
  pub taken_none : (e : Encoder) (ls : List ℕ) → length ls ≡ 0 → e ≡ taken_all_by (coder w l) e ls
  unfolding taken_all_by
  taken_none e [] h = refl
  taken_none e (p ∷ ls) h = absurd (omega arith)

  pub taken-some : (e : Encoder) (ls : List ℕ) → (length ls ≡ 0 → ⊥)
      → ◌≡◌ {A = Encoder}
      (record {
        rank = e.rank + length ls;
        last = get_or ls (length ls - 1) 0;
        left = e.left;
        base = e.base;
        cells = e.cells;
        empty = e.empty;
        first = e.first + 4 * length ls;
        second = e.second;
        fits = e.fits;
      })
      (taken_all_by (coder w l) e ls)
  taken-some e [] h = absurd (h refl)
  taken-some e (p ∷ ls) h = let n : suc (length ls) - 1 ≡ length ls = omega arith in rw n (sym (taken_list e p ls))

  firsts : (e : Encoder) (ls : List ℕ) → firsts_by (coder w l) e ls ≡ bytes_of 4 ls
  unfolding firsts_by coder bytes_of
  firsts e [] = refl
  firsts e (p ∷ ls) = ap (λ (x : List ℕ). bytes 4 p ++ x) (firsts (taken_by (coder w l) e p) ls)

  kept : (e : Encoder) (p : ℕ) → Next e p → Kept (coder w l) e p
  unfolding coder unchanged
  kept e p n =
      let s = n.sound in
      record { first = omega (arith, length-bytes 4 p); second = omega arith; base = omega arith; cells = omega arith; empty = omega arith }

  out : (B : ℕ) (ls : List ℕ) → B ≤ most_cells → Rising 0 B ls → PutOut (coder w l) (positions_kind w l) B ls
  unfolding coder positions_kind position_parts sizes_in begun
  out B ls m o =
      outright (coder w l) (positions_kind w l) B ls (λ z start d. refl)
      (λ f g. firsts (begun f g) ls)
      (λ f g. no_seconds (coder w l) (begun f g) ls (λ e p. refl) (λ e. refl))
      (λ u.
      let r = rank-all (coder w l) (begun 0 0) ls in
      let f = first-all (coder w l) (begun 0 0) ls ∙ ap (λ (x : List ℕ). 0 + length x) (firsts (begun 0 0) ls) in
      let s = second-all (coder w l) (begun 0 0) ls ∙ ap (λ (x : List ℕ). 0 + length x) (no_seconds (coder w l) (begun 0 0) ls (λ e p. refl) (λ e. refl)) in
      done r f s)
    where
      done : (taken_all_by (coder w l) (begun 0 0) ls).rank ≡ (begun 0 0).rank + length ls
          → (ended_by (coder w l) (taken_all_by (coder w l) (begun 0 0) ls)).first ≡ 0 + length (bytes_of 4 ls)
          → (ended_by (coder w l) (taken_all_by (coder w l) (begun 0 0) ls)).second ≡ 0 + 0
          → (coder w l).sizes (ended_by (coder w l) (taken_all_by (coder w l) (begun 0 0) ls)) ≡ sizes_in (length ls) ((positions_kind w l).parts B ls)
      done r f s =
          let e = length-bytes_of 4 ls in
          let r' : (ended_by (coder w l) (taken_all_by (coder w l) (begun 0 0) ls)).rank ≡ length ls = unfold ended_by begun in omega arith in
          let f' : (ended_by (coder w l) (taken_all_by (coder w l) (begun 0 0) ls)).first ≡ length (bytes_of 4 ls) = omega arith in
          let q : length (bytes_of 4 ls) / 4 ≡ length ls = omega arith in
          rw (r', f', s, q)

  pub codes : (positions_kind w l).allowed ≡ true → Codes (coder w l) (positions_kind w l)
  codes a =
      record {
        keeps = sound_by (coder w l) kept;
        fits = λ f g ls. unfold coder positions_kind begun unchanged in same_fit (coder w l) (begun f g) ls (λ e p. refl);
        out = out;
      }

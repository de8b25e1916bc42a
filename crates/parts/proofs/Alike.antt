-- Two coders that take positions alike, whatever they measure and make at the end: what follows for the one of the other. Assumes nothing.
use Rattle.std.proofs.Common.{◌≡◌, ℕ, ◌+◌, List, [], ◌∷◌, ◌++◌, sym, refl, ap, ◌∙◌, subst, ap₂}
use Rattle.parts.specs.declared.Cursor.{Cursor}
use Rattle.parts.specs.declared.Encoder.{Encoder}
use Rattle.parts.specs.declared.Sizes.{Sizes}
use Rattle.parts.specs.declared.walk.Walk.{Walk}
use Rattle.parts.specs.Cursor.{walked_as, stepped_as}
use Rattle.parts.specs.Encoder.{Coder, begun, taken_by, ended_by, firsts_by, seconds_by, taken_all_by}
use Rattle.parts.specs.Ready.{Sound, Keeps}
use Rattle.parts.specs.Batch.{added_first_by, added_second_by, put_all_by, RoomAll}
use Rattle.parts.specs.Codes.{out_in}
use Rattle.parts.specs.Carried.{carried, PutAs}

-- the same bytes and the same state for each position, and the same bytes at the end
pub record Alike (k m : Coder) : Type 0 where
  pub first : (e : Encoder) (p : ℕ) → k.first e p ≡ m.first e p
  pub second : (e : Encoder) (p : ℕ) → k.second e p ≡ m.second e p
  pub inside : (e : Encoder) (p : ℕ) → k.inside e p ≡ m.inside e p
  pub end_first : (e : Encoder) → k.end_first e ≡ m.end_first e
  pub end_second : (e : Encoder) → k.end_second e ≡ m.end_second e

pub alike-back : (k m : Coder) → Alike k m → Alike m k
alike-back k m h =
    record {
      first = λ e p. sym (h.first e p);
      second = λ e p. sym (h.second e p);
      inside = λ e p. sym (h.inside e p);
      end_first = λ e. sym (h.end_first e);
      end_second = λ e. sym (h.end_second e);
    }

abbrev appended : List ℕ → List ℕ → List ℕ
appended xs ys = xs ++ ys

module _ (k m : Coder) (h : Alike k m) where
  -- ---- one position, and the end

  pub taken-alike : (e : Encoder) (p : ℕ) → taken_by k e p ≡ taken_by m e p
  unfolding taken_by
  taken-alike e p = rw (h.first e p, h.second e p, h.inside e p)

  pub ended_alike : (e : Encoder) → ended_by k e ≡ ended_by m e
  unfolding ended_by
  ended_alike e = rw (h.end_first e, h.end_second e)

  -- ---- all positions of a list

  pub taken-all-alike : (e : Encoder) (ls : List ℕ) → taken_all_by k e ls ≡ taken_all_by m e ls
  unfolding taken_all_by
  taken-all-alike e [] = refl
  taken-all-alike e (p ∷ ls) = ap (λ (t : Encoder). taken_all_by k t ls) (taken-alike e p) ∙ taken-all-alike (taken_by m e p) ls

  pub added-first-alike : (e : Encoder) (ls : List ℕ) → added_first_by k e ls ≡ added_first_by m e ls
  unfolding added_first_by
  added-first-alike e [] = refl
  added-first-alike e (p ∷ ls) =
      ap₂ appended (h.first e p) (ap (λ (t : Encoder). added_first_by k t ls) (taken-alike e p) ∙ added-first-alike (taken_by m e p) ls)

  pub added-second-alike : (e : Encoder) (ls : List ℕ) → added_second_by k e ls ≡ added_second_by m e ls
  unfolding added_second_by
  added-second-alike e [] = refl
  added-second-alike e (p ∷ ls) =
      ap₂ appended (h.second e p) (ap (λ (t : Encoder). added_second_by k t ls) (taken-alike e p) ∙ added-second-alike (taken_by m e p) ls)

  pub firsts-alike : (e : Encoder) (ls : List ℕ) → firsts_by k e ls ≡ firsts_by m e ls
  unfolding firsts_by
  firsts-alike e [] = h.end_first e
  firsts-alike e (p ∷ ls) = ap₂ appended (h.first e p) (ap (λ (t : Encoder). firsts_by k t ls) (taken-alike e p) ∙ firsts-alike (taken_by m e p) ls)

  pub seconds-alike : (e : Encoder) (ls : List ℕ) → seconds_by k e ls ≡ seconds_by m e ls
  unfolding seconds_by
  seconds-alike e [] = h.end_second e
  seconds-alike e (p ∷ ls) = ap₂ appended (h.second e p) (ap (λ (t : Encoder). seconds_by k t ls) (taken-alike e p) ∙ seconds-alike (taken_by m e p) ls)

  -- ---- put out

  pub put-all-alike : (d : List ℕ) (e : Encoder) (ls : List ℕ) → put_all_by k d e ls ≡ put_all_by m d e ls
  unfolding put_all_by
  put-all-alike d e ls = rw (added-first-alike e ls, added-second-alike e ls)

  pub out-alike : (z : Sizes) (start : ℕ) (ls d : List ℕ) → out_in k z start ls d ≡ out_in m z start ls d
  unfolding out_in
  out-alike z start ls d = let b = begun start (start + z.first) in rw (firsts-alike b ls, seconds-alike b ls)

  pub room-alike : (e : Encoder) (ls : List ℕ) (n : ℕ) → RoomAll k e ls n → RoomAll m e ls n
  room-alike e ls n r = record { first = rw (added-first-alike e ls) at r.first; second = rw (added-second-alike e ls) at r.second }

  pub carried-alike : (f : Cursor → Cursor) (c : Cursor) (e : Encoder) (n : ℕ) → carried f k c e n ≡ carried f m c e n
  unfolding carried
  carried-alike f c e n = ap (λ (t : Encoder). record { c = stepped_as f c n; e = t }) (taken-all-alike e (walked_as f c n))

  pub put_as_alike : (f : Cursor → Cursor) (c : Cursor) (e : Encoder) (n : ℕ) (d : List ℕ) (w : Walk) (out : List ℕ) → PutAs f k c e n d w out
      → PutAs f m c e n d w out
  put_as_alike f c e n d w out p =
      record { walk = p.walk ∙ carried-alike f c e n; bytes = p.bytes ∙ put-all-alike d e (walked_as f c n) }

  pub keeps-alike : Keeps k → Keeps m
  keeps-alike s e p n = subst Sound (taken-alike e p) (s e p n)

-- What the positions of one base add, and the encoder after them. Assumes nothing.
use Rattle.std.proofs.Common.{◌≡◌, ℕ, zero, suc, ◌+◌, ◌-◌, ◌*◌, ◌^◌, ◌≤◌, Bool, eqb, leb, List, [], ◌∷◌, length, get_or, sym, refl, ap, ◌∙◌, ap₂, append-nil, add-zero, mul-one, mul-suc, arith, eqb-true, le-leb, leb-true}
use borrow.Author.Tests.{eqb-false}
use Rattle.format.specs.Tools.{both}
use Rattle.format.specs.Bytes.{bytes, bytes_of}
use Rattle.laws.proofs.Tools.{cases, both_assoc, both_false}
use Rattle.laws.proofs.Bytes.{length-bytes}
use Rattle.laws.proofs.Positions.{rising-at}
use Rattle.laws.proofs.Stored.{Rising}
use Rattle.laws.proofs.Streams.{bases_from, offsets_from}
use Rattle.parts.specs.declared.Encoder.{Encoder}
use Rattle.parts.specs.Encoder.{if_zero, left_after, taken_by, taken_all_by, firsts_by, seconds_by}
use Rattle.parts.specs.Batch.{added_first_by, added_second_by}
use Rattle.parts.proofs.Taking.{if_more}
use Rattle.parts.proofs.Added.{firsts_by_lem, seconds_by_lem}
use Rattle.offsets.specs.Over.{offsets_over}
use Rattle.base_groups.specs.Coding.{offset_at, based, coder, due, opened}
use Rattle.base_groups.proofs.Encoded.{firsts_from, seconds_from}

-- ---- the encoder

-- after n more positions of the base, the last of them p
abbrev pub after : ℕ → Encoder → ℕ → ℕ → Encoder
after w e n p =
    record {
      rank = e.rank + n;
      last = p;
      left = e.left - n;
      base = e.base;
      cells = e.cells;
      empty = e.empty;
      first = e.first;
      second = e.second + w * n;
      fits = both e.fits (leb (p - e.base) (256 ^ w - 1));
    }

-- a larger number that fits says that a smaller one does
fit_last : (f : Bool) (p q m : ℕ) → p ≤ q → both (both f (leb p m)) (leb q m) ≡ both f (leb q m)
fit_last f p q m h =
    both_assoc f (leb p m) (leb q m)
    ∙ ap (both f) (cases (leb q m) (λ e. let t = leb-true q m e in rw (e, le-leb p m (omega arith))) (λ e. rw e (both_false (leb p m))))

after_more : (w : ℕ) (e : Encoder) (p q n : ℕ) → p ≤ q → after w (after w e 1 p) n q ≡ after w e (suc n) q
after_more w e p q n h =
    let r : e.rank + 1 + n ≡ e.rank + suc n = omega arith in
    let l : e.left - 1 - n ≡ e.left - suc n = omega arith in
    let s : e.second + w * 1 + w * n ≡ e.second + w * suc n = omega (arith, mul-suc w n, mul-one w) in
    rw (r, l, s, fit_last e.fits (p - e.base) (q - e.base) (256 ^ w - 1) (omega arith))

pub opened-same : (l : ℕ) (e : Encoder) (p : ℕ) → (e.left ≡ 0 → ⊥) → opened l e p ≡ e
unfolding opened due
opened-same l e p n =
    rw (if_more e.left l e.left n, if_more e.left p e.base n, if_more e.left (e.first + 4) e.first n)

module _ (w l : ℕ) where
  taken-one : (e : Encoder) (p : ℕ) → (e.left ≡ 0 → ⊥) → taken_by (coder w l) e p ≡ after w e 1 p
  unfolding taken_by coder based offset_at left_after
  taken-one e p h =
      rw (
        if_more e.left (l - 1) (e.left - 1) h,
        if_more e.left p e.base h,
        if_more e.left (bytes 4 p) [] h,
        if_more e.left 0 (p - e.base) h,
        length-bytes w (p - e.base),
        mul-one w,
        add-zero e.first,
      )

  taken_more : (e : Encoder) (p : ℕ) (ls : List ℕ) (B : ℕ) → suc (length ls) ≤ e.left → Rising (suc p) B ls
      → taken_all_by (coder w l) e (p ∷ ls) ≡ after w e (suc (length ls)) (get_or (p ∷ ls) (length ls) 0)
  unfolding taken_all_by
  taken_more e p [] B h r = taken-one e p (λ z. omega arith)
  taken_more e p (q ∷ ls) B h r =
      let z = rising-at (suc p) B (q ∷ ls) (length ls) r (omega arith) in
      ap (λ (x : Encoder). taken_all_by (coder w l) x (q ∷ ls)) (taken-one e p (λ z. omega arith))
      ∙ taken_more (after w e 1 p) q ls B (omega arith) r.2
      ∙ after_more w e p (get_or (q ∷ ls) (length ls) 0) (suc (length ls)) (omega arith)

  opened_new : (e : Encoder) (p : ℕ) → 1 ≤ l → e.left ≡ 0 → taken_by (coder w l) e p ≡ taken_by (coder w l) (opened l e p) p
  unfolding taken_by coder based offset_at left_after opened due
  opened_new e p h z =
      let n : l ≡ 0 → ⊥ = λ q. omega arith in
      let s : p - p ≡ 0 = omega arith in
      rw (
        z,
        if_more l (l - 1) (l - 1) n,
        if_more l p p n,
        if_more l (bytes 4 p) [] n,
        if_more l 0 (p - p) n,
        s,
        length-bytes 4 p,
        add-zero (e.first + 4),
      )

  opened_one : (e : Encoder) (p : ℕ) → 1 ≤ l → taken_by (coder w l) e p ≡ taken_by (coder w l) (opened l e p) p
  opened_one e p h =
      cases (eqb e.left 0)
      (λ t. opened_new e p h (eqb-true e.left 0 t))
      (λ t. ap (λ (x : Encoder). taken_by (coder w l) x p) (sym (opened-same l e p (eqb-false e.left 0 t))))

  -- all of one base
  pub taken_group : (e : Encoder) (ls : List ℕ) (a B : ℕ) → 1 ≤ l → 1 ≤ length ls → length ls ≤ due l e.left → Rising a B ls
      → after w (opened l e (get_or ls 0 0)) (length ls) (get_or ls (length ls - 1) 0) ≡ taken_all_by (coder w l) e ls
  taken_group e [] a B h s d r = absurd (omega arith)
  taken_group e (p ∷ ls) a B h s d r =
      let n : suc (length ls) - 1 ≡ length ls = omega arith in
      let t : taken_all_by (coder w l) (opened l e p) (p ∷ ls) ≡ taken_all_by (coder w l) e (p ∷ ls)
      = unfold taken_all_by in ap (λ (x : Encoder). taken_all_by (coder w l) x ls) (sym (opened_one e p h)) in
      rw n (sym (taken_more (opened l e p) p ls B (unfold opened in d) r.2) ∙ t)

  -- ---- the bytes

  pub added-firsts : (e : Encoder) (ls : List ℕ) → added_first_by (coder w l) e ls ≡ firsts_by (coder w l) e ls
  unfolding firsts_by coder
  added-firsts e ls =
      sym (append-nil (added_first_by (coder w l) e ls)) ∙ sym (firsts_by_lem (coder w l) e ls []) ∙ ap (firsts_by (coder w l) e) (append-nil ls)

  pub added-seconds : (e : Encoder) (ls : List ℕ) → added_second_by (coder w l) e ls ≡ seconds_by (coder w l) e ls
  unfolding seconds_by coder
  added-seconds e ls =
      sym (append-nil (added_second_by (coder w l) e ls)) ∙ sym (seconds_by_lem (coder w l) e ls []) ∙ ap (seconds_by (coder w l) e) (append-nil ls)

  bases-none : (k : ℕ) (ls : List ℕ) → length ls ≤ k → bases_from l k ls ≡ []
  unfolding bases_from
  bases-none k [] h = refl
  bases-none zero (p ∷ ls) h = absurd (omega arith)
  bases-none (suc k) (p ∷ ls) h = bases-none k ls (omega arith)

  offsets-over : (k base : ℕ) (ls : List ℕ) → length ls ≤ k → offsets_from l k base ls ≡ offsets_over base ls
  unfolding offsets_from offsets_over
  offsets-over k base [] h = refl
  offsets-over zero base (p ∷ ls) h = absurd (omega arith)
  offsets-over (suc k) base (p ∷ ls) h = ap (λ (os : List ℕ). (p - base) ∷ os) (offsets-over k base ls (omega arith))

  bases-one : (n p : ℕ) (ls : List ℕ) → suc (length ls) ≤ due l n → bytes_of 4 (bases_from l n (p ∷ ls)) ≡ if_zero n (bytes 4 p) []
  unfolding bases_from bytes_of due
  bases-one zero p ls h = rw (bases-none (l - 1) ls (omega arith)) (append-nil (bytes 4 p))
  bases-one (suc n) p ls h = rw (bases-none n ls (omega arith))

  offsets-one : (n base p : ℕ) (ls : List ℕ) → suc (length ls) ≤ due l n → offsets_from l n base (p ∷ ls) ≡ offsets_over (if_zero n p base) (p ∷ ls)
  unfolding offsets_from offsets_over due
  offsets-one zero base p ls h =
      let z : 0 ≡ p - p = omega arith in
      ap₂ (λ (o : ℕ) (os : List ℕ). o ∷ os) z (offsets-over (l - 1) p ls (omega arith))
  offsets-one (suc n) base p ls h = ap (λ (os : List ℕ). (p - base) ∷ os) (offsets-over n base ls (omega arith))

  module _ (e : Encoder) (ls : List ℕ) (some : 1 ≤ length ls) (d : length ls ≤ due l e.left) where
    pub first_group : added_first_by (coder w l) e ls ≡ if_zero e.left (bytes 4 (get_or ls 0 0)) []
    first_group = added-firsts e ls ∙ firsts_from w l e e.left ls refl ∙ go ls some d
      where
        go : (ls : List ℕ) → 1 ≤ length ls → length ls ≤ due l e.left → bytes_of 4 (bases_from l e.left ls) ≡ if_zero e.left (bytes 4 (get_or ls 0 0)) []
        go [] s d = absurd (omega arith)
        go (p ∷ ls) s d = bases-one e.left p ls d

    pub second_group : added_second_by (coder w l) e ls ≡ bytes_of w (offsets_over (if_zero e.left (get_or ls 0 0) e.base) ls)
    second_group = added-seconds e ls ∙ seconds_from w l e e.left e.base ls refl refl ∙ ap (bytes_of w) (go ls some d)
      where
        go : (ls : List ℕ) → 1 ≤ length ls → length ls ≤ due l e.left → offsets_from l e.left e.base ls ≡ offsets_over (if_zero e.left (get_or ls 0 0) e.base) ls
        go [] s d = absurd (omega arith)
        go (p ∷ ls) s d = offsets-one e.left e.base p ls d

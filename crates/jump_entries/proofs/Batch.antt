-- A batch of positions: what those after the first add. Assumes nothing.
use Prim.Native.Nat.{ℕ, suc, ◌+◌, ◌-◌, ◌*◌, ◌^◌, ◌≤◌, ◌<◌}
use mathlib.Core.Path.{◌≡◌, refl, sym, ap, ◌∙◌}
use mathlib.Core.List.{List, [], ◌∷◌}
use native.Mathlib.Nat.{add-zero, mul-zero, mul-suc}
use native.Mathlib.Omega.{arith}
use lib.ListN.{length, get_or}
use lib.Dec.{leb}
use borrow.Author.Tests.{leb-true, leb-false}
use Rattle.laws.proofs.Tools.{cases}
use Rattle.laws.proofs.Stored.{Rising, rising_weaken, rising-length}
use Rattle.parts.specs.declared.Encoder.{Encoder}
use Rattle.parts.specs.Encoder.{taken_by, taken_all_by}
use Rattle.parts.specs.Ready.{passed, moved, Sound}
use Rattle.parts.specs.Batch.{Along}
use Rattle.rises.specs.Falls.{fallen}
use Rattle.rises.specs.Far.{far_after, far}
use Rattle.parts.proofs.Taken.{along_head}
use Rattle.jump_entries.specs.Coding.{jumps_coder}
use Rattle.jump_entries.proofs.Adds.{difference-near, difference-far, taken_jump, taken_on, keeps}

-- all positions rise, from 0 on
pub along-rising : (e : Encoder) (ls : List ℕ) → Along e ls → Rising 0 16777216 ls
along-rising e ls a = rising_weaken 0 (passed e) 16777216 ls (omega arith) a.rising

module _ (w : ℕ) where
  -- a position after the first is a jump where it is far from the one before
  taken_later : (e : Encoder) (q : ℕ) → (e.rank ≡ 0 → ⊥) → e.last < q
      → moved e q (e.first + 4 * fallen (leb (q - e.last) (256 ^ w - 1))) (e.second + w) ≡ taken_by (jumps_coder w) e q
  unfolding fallen
  taken_later e q h k =
      cases (leb (q - e.last) (256 ^ w - 1))
      (λ t.
      let n = difference-near w e q h (leb-true (q - e.last) (256 ^ w - 1) t) in
      rw (t, add-zero e.first) (taken_on w e q (λ z. omega arith)))
      (λ t. rw t (taken_jump w e q (sym (difference-far w e q h (leb-false (q - e.last) (256 ^ w - 1) t)))))

  -- the encoder after the positions ls, of which so many are jumps
  abbrev further : Encoder → List ℕ → ℕ → Encoder
  further e ls x =
      record {
        rank = e.rank + length ls;
        last = get_or (e.last ∷ ls) (length ls) 0;
        left = e.left;
        base = e.base;
        cells = e.cells;
        empty = e.empty;
        first = e.first + 4 * x;
        second = e.second + w * length ls;
        fits = e.fits;
      }

  taken-further : (e : Encoder) (B : ℕ) (ls : List ℕ) → (e.rank ≡ 0 → ⊥) → Rising (suc e.last) B ls
      → further e ls (far_after (256 ^ w - 1) e.last ls) ≡ taken_all_by (jumps_coder w) e ls
  unfolding taken_all_by far_after moved
  taken-further e B [] h r = rw (add-zero e.rank, add-zero e.first, mul-zero w, add-zero e.second)
  taken-further e B (q ∷ ls) h r =
      let x = fallen (leb (q - e.last) (256 ^ w - 1)) in
      let y = far_after (256 ^ w - 1) q ls in
      let m : Encoder = moved e q (e.first + 4 * x) (e.second + w) in
      let a : e.rank + suc (length ls) ≡ e.rank + 1 + length ls = omega arith in
      let f : e.first + 4 * (x + y) ≡ e.first + 4 * x + 4 * y = omega arith in
      let s : e.second + w * suc (length ls) ≡ e.second + w + w * length ls = rw mul-suc (omega arith) in
      rw (a, f, s) (taken-further m B ls (λ z. omega arith) r.2)
      ∙ ap (λ (t : Encoder). taken_all_by (jumps_coder w) t ls) (taken_later e q h (omega arith))

  module _ (e : Encoder) (ls : List ℕ) (some : length ls ≡ 0 → ⊥) (along : Along e ls) {at : Encoder} (h : at ≡ taken_by (jumps_coder w) e (get_or ls 0 0)) where
    -- by the first position and the number of jumps after it
    pub taken_batch : {x : ℕ} → x ≡ far (256 ^ w - 1) ls
        → ◌≡◌ {A = Encoder}
        (record {
          rank = at.rank + (length ls - 1);
          last = get_or ls (length ls - 1) 0;
          left = at.left;
          base = at.base;
          cells = at.cells;
          empty = at.empty;
          first = at.first + 4 * x;
          second = at.second + w * (length ls - 1);
          fits = at.fits;
        })
        (taken_all_by (jumps_coder w) e ls)
    unfolding taken_all_by far taken_by
    taken_batch f = rw (h, f) (go ls some along)
      where
        go : (ls : List ℕ) → (length ls ≡ 0 → ⊥) → Along e ls
            → ◌≡◌ {A = Encoder}
            (record {
              rank = (taken_by (jumps_coder w) e (get_or ls 0 0)).rank + (length ls - 1);
              last = get_or ls (length ls - 1) 0;
              left = (taken_by (jumps_coder w) e (get_or ls 0 0)).left;
              base = (taken_by (jumps_coder w) e (get_or ls 0 0)).base;
              cells = (taken_by (jumps_coder w) e (get_or ls 0 0)).cells;
              empty = (taken_by (jumps_coder w) e (get_or ls 0 0)).empty;
              first = (taken_by (jumps_coder w) e (get_or ls 0 0)).first + 4 * far (256 ^ w - 1) ls;
              second = (taken_by (jumps_coder w) e (get_or ls 0 0)).second + w * (length ls - 1);
              fits = (taken_by (jumps_coder w) e (get_or ls 0 0)).fits;
            })
            (taken_all_by (jumps_coder w) e ls)
        go [] s a = absurd (s refl)
        go (p ∷ ls) s a =
            let n : suc (length ls) - 1 ≡ length ls = omega arith in
            rw n (taken-further (taken_by (jumps_coder w) e p) 16777216 ls (λ z. omega arith) a.rising.2)

    -- no number wraps
    pub batch_fits : w ≤ 2 → Sound at × (at.rank + (length ls - 1) ≤ 16777216)
    unfolding taken_by
    batch_fits k = rw h (go ls some along)
      where
        go : (ls : List ℕ) → (length ls ≡ 0 → ⊥) → Along e ls
            → Sound (taken_by (jumps_coder w) e (get_or ls 0 0)) × ((taken_by (jumps_coder w) e (get_or ls 0 0)).rank + (length ls - 1) ≤ 16777216)
        go [] s a = absurd (s refl)
        go (p ∷ ls) s a =
            let n = rising-length (passed e) 16777216 (p ∷ ls) a.sound.passed-most a.rising in
            let m = a.sound.empty-most in
            (keeps w k e p (along_head e p ls a), omega arith)

-- Over parts that hold stored positions the cursor walks along them: what stands ahead of it, and that each step keeps it. Assumes nothing.
use Rattle.std.proofs.Common.{◌≡◌, ℕ, suc, ◌+◌, ◌-◌, ◌*◌, ◌^◌, ◌<◌, ◌≤◌, ltb, List, ◌∷◌, refl, ◌∙◌, arith, ltb-false, ltb-true, le-ltb, lt-ltb}
use Rattle.format.specs.declared.View.{View}
use Rattle.format.specs.BaseOffset.{based_kind}
use Rattle.laws.proofs.Tools.{cases}
use Rattle.laws.proofs.Stored.{Rising, rising-length}
use Rattle.laws.proofs.Streams.{bases_from, offsets_from, bases_stream, offsets_stream}
use Rattle.wire.specs.Wire.{whole, entry_size, add32}
use Rattle.parts.specs.declared.Cursor.{Cursor}
use Rattle.parts.specs.Cursor.{before, moved_to, entry_of}
use Rattle.parts.specs.Holds.{Holds}
use Rattle.parts.specs.Walks.{Walks}
use Rattle.parts.proofs.Entries.{Entries, first_entry, rest_entries}
use Rattle.parts.proofs.Steps.{add32-small, upper, RanksFit, upper_next, ranks_rest, kept-walk}
use Rattle.base_groups.specs.Steps.{base_of, offset_from, next}
use Rattle.base_groups.proofs.Known.{kind, held, base-entries, offset_entries}

-- of the base the ranks up to the step are left; the base is not above the positions ahead
record Ahead (b : List ℕ) (v : View) (B : ℕ) (c : Cursor) (ls : List ℕ) : Type 0 where
  least : ℕ
  rising : Rising least B ls
  base-low : c.used < v.step → c.base ≤ least
  ranks : RanksFit c ls
  next_low : c.next ≤ upper c
  bases : Entries b 4 v.start c.next (bases_from v.step (v.step - c.used) ls)
  offsets : Entries b (entry_size v.width) v.second (upper c) (offsets_from v.step (v.step - c.used) c.base ls)

module _ (b : List ℕ) (v : View) (B : ℕ) (small : B < 2 ^ 32) (c : Cursor) (p : ℕ) (ls : List ℕ) (a : Ahead b v B c (p ∷ ls)) where
  abbrev w : ℕ
  w = entry_size v.width

  abbrev r : ℕ
  r = upper c

  next-rank : add32 r 1 ≡ suc r
  next-rank = upper_next c p ls a.ranks

  -- the base is kept
  same_base : c.used < v.step → ((next b v c).at ≡ p) × Ahead b v B (next b v c) ls
  unfolding next offset_from base_of moved_to entry_of bases_from offsets_from
  same_base h =
      let n = a.ranks in
      let o = a.rising in
      let low = a.base-low h in
      let k : v.step - c.used ≡ suc (v.step - (c.used + 1)) = omega arith in
      let os = rw k at a.offsets in
      let bs = rw k at a.bases in
      let d : whole w (v.second + w * r) b ≡ p - c.base = first_entry b w v.second r (p - c.base) _ os in
      let q : add32 c.base (p - c.base) ≡ p = add32-small c.base (p - c.base) (omega arith) ∙ omega arith in
      rw (lt-ltb c.used v.step h, d, q) (
        refl,
        record {
          least = suc p;
          rising = o.2;
          base-low = λ z. omega arith;
          ranks = ranks_rest c p ls n;
          next_low = let l = a.next_low in rw next-rank (omega arith);
          bases = bs;
          offsets = rw next-rank (rest_entries b w v.second r (p - c.base) _ os);
        },
      )

  -- the next base
  next-base : v.step ≤ c.used → ((next b v c).at ≡ p) × Ahead b v B (next b v c) ls
  unfolding next offset_from base_of moved_to entry_of bases_from offsets_from
  next-base h =
      let n = a.ranks in
      let o = a.rising in
      let l = a.next_low in
      let k : v.step - c.used ≡ 0 = omega arith in
      let os = rw k at a.offsets in
      let bs = rw k at a.bases in
      let d : whole w (v.second + w * r) b ≡ 0 = first_entry b w v.second r 0 _ os in
      let g : whole 4 (v.start + 4 * c.next) b ≡ p = first_entry b 4 v.start c.next p _ bs in
      let q : add32 p 0 ≡ p = add32-small p 0 (omega arith) ∙ omega arith in
      let m : add32 c.next 1 ≡ suc c.next = add32-small c.next 1 (omega arith) ∙ omega arith in
      rw (le-ltb c.used v.step h, d, g, q, m) (
        refl,
        record {
          least = suc p;
          rising = o.2;
          base-low = λ z. omega arith;
          ranks = ranks_rest c p ls n;
          next_low = rw next-rank (omega arith);
          bases = rest_entries b 4 v.start c.next p _ bs;
          offsets = rw next-rank (rest_entries b w v.second r 0 _ os);
        },
      )

  turn : ((next b v c).at ≡ p) × Ahead b v B (next b v c) ls
  turn = cases (ltb c.used v.step) (λ e. same_base (ltb-true c.used v.step e)) (λ e. next-base (ltb-false c.used v.step e))

-- before rank 0 all stand ahead
begin : (b : List ℕ) (v : View) (ls : List ℕ) → Holds (kind v) b v ls → Ahead b v v.cells before ls
unfolding add32
begin b v ls h =
    let a = (held b v ls h).rule in
    let m = (held b v ls h).cells-most in
    let n = rising-length 0 v.cells ls (omega arith) h.rising in
    let k : v.step - 4294967295 ≡ 0 = omega arith in
    record {
      least = 0;
      rising = h.rising;
      base-low = λ z. absurd (omega arith);
      ranks = omega arith;
      next_low = omega arith;
      bases = rw k (rw (bases_stream v.step ls a.step-least) at (base-entries b v ls h));
      offsets = rw k (rw (offsets_stream v.step ls a.step-least) at (offset_entries b v ls h));
    }

pub walks : Walks based_kind next
walks =
    record {
      rank = λ b v c. unfold next offset_from base_of moved_to in cases (ltb c.used v.step) (λ t. rw t) (λ t. rw t);
      walk = λ b v ls h.
          let m = (held b v ls h).cells-most in
          kept-walk (next b v) (Ahead b v v.cells) (turn b v v.cells (omega arith)) ls before (begin b v ls h);
    }

-- The first stored cell from p on, by a search over the ranks or by a walk. Assumes nothing.
use Prim.Native.Nat.{ℕ, zero, suc, ◌+◌, ◌≤◌, ◌<◌}
use mathlib.Core.Path.{◌≡◌, refl, sym, ap, ◌∙◌}
use mathlib.Core.Bool.{true, false}
use mathlib.Core.List.{List, [], ◌∷◌}
use native.Mathlib.Nat.{lt_of_not-le}
use native.Mathlib.Decide.{dec_le}
use native.Mathlib.Omega.{arith}
use lib.ListN.{length, get_or, take}
use lib.Dec.{ltb, eqb}
use borrow.Author.Tests.{lt-ltb, le-ltb, ltb-true, ltb-false, eqb-true, ne_eqb}
use Rattle.format.specs.declared.View.{View}
use Rattle.format.specs.Tools.{pick, Below}
use Rattle.format.specs.Accepted.{positions_of}
use Rattle.laws.proofs.Tools.{cases, both_false}
use Rattle.laws.proofs.Stored.{Rising}
use Rattle.laws.proofs.Positions.{rising-at}
use Rattle.parts.specs.declared.Cursor.{Cursor}
use Rattle.parts.specs.declared.Found.{Found}
use Rattle.parts.specs.Found.{count_below, among, FoundIn}
use Rattle.parts.specs.Holds.{kind_of, ViewOf}
use Rattle.parts.specs.Walks.{sought}
use Rattle.parts.proofs.Places.{count_none}
use Rattle.parts.proofs.Seen.{seen}
use Rattle.kinds.specs.Steps.{next_of, by_walk, stores_runs, sought_by}
use Rattle.row_seek.specs.declared.seek.Gap.{Gap}
use Rattle.kinds.proofs.None.{never}
use Rattle.row_seek.specs.Ready.{Ready, Reached, Around}
use Rattle.row_seek.proofs.Resumed.{passed-at, rank_up, ready-next}

-- ---- among rising positions

-- k are below p, and they are the first; p is the next one, if it is any
pub record Cut (p : ℕ) (ls : List ℕ) (k : ℕ) : Type 0 where
  pub most : k ≤ length ls
  pub passed : Below p (take k ls)
  pub past : k < length ls → p ≤ get_or ls k 0
  pub here : among p ls ≡ true → (k < length ls) × (get_or ls k 0 ≡ p)

cut : (a B p : ℕ) (ls : List ℕ) → Rising a B ls → Cut p ls (count_below p ls)
unfolding count_below among
cut a B p [] o = record { most = omega arith; passed = tt; past = λ h. absurd (omega arith); here = λ h. absurd (never h) }
cut a B p (l ∷ ls) o =
    cases (ltb l p)
    (λ t.
    let h = ltb-true l p t in
    let i = cut (suc l) B p ls o.2 in
    let m = i.most in
    let d : eqb l p ≡ false = ne_eqb l p (λ e. omega arith) in
    let s : pick (ltb l p) 1 0 + count_below p ls ≡ suc (count_below p ls) = rw t (omega arith) in
    rw s
    (record {
      most = omega arith;
      passed = (h, i.passed);
      past = λ k. i.past (omega arith);
      here = λ e. let n = i.here (rw d at e) in let g = n.0 in (omega arith, n.1);
    }))
    (λ t.
    let h = ltb-false l p t in
    let z = count_none (suc l) p B ls (omega arith) o.2 in
    let s : pick (ltb l p) 1 0 + count_below p ls ≡ 0 = rw (t, z) (omega arith) in
    rw s (record { most = omega arith; passed = tt; past = λ k. h; here = λ e. (omega arith, first h (rw z at (cut (suc l) B p ls o.2)) e) }))
  where
    -- the later positions are above p
    first : p ≤ l → Cut p ls 0 → pick (eqb l p) true (among p ls) ≡ true → l ≡ p
    first h i e =
        cases (eqb l p)
        (λ q. eqb-true l p q)
        (λ q.
        let n = i.here (rw q at e) in
        let m = rising-at (suc l) B ls 0 o.2 n.0 in
        let s = n.1 in
        absurd (omega arith))

module _ (b : List ℕ) (v : View) (o : ViewOf b v) where
  -- ---- neighbours

  pub reached_between : (c : Cursor) (g : Gap) (p : ℕ) → by_walk v.kind ≡ false → (stores_runs v.kind → ⊥) → Around b v p g → g.high ≡ g.low + 1 → c.rank ≡ g.high → c.at ≡ g.at
      → Reached b v c p
  reached_between c g p k s a e z w =
      let m = a.most in
      let h : g.low < v.words = omega arith in
      record {
        ready = record {
          rank = omega arith;
          at = λ i. w ∙ a.at (omega arith) ∙ ap (λ (x : ℕ). get_or (positions_of b) x 0) (sym z);
          ahead = λ i. absurd (never (sym k ∙ i));
          run = λ i. absurd (s i);
          passed = rw (z, e) (passed-at b v o p g.low h a.below);
        };
        past = λ i. rw w (a.past (omega arith));
      }

  -- ---- by a search for p

  module _ (p : ℕ) (f : Found) (found : FoundIn (kind_of v) b v p f) where
    pub cut-found : Cut p (positions_of b) f.below
    cut-found =
        let h = (seen b v o).holds in
        rw (found.right (positions_of b) h).below (cut 0 v.cells p (positions_of b) h.rising)

  -- ---- by a walk

  -- with as many steps as ranks are ahead, the walk reaches p or the end
  pub reached_walk : by_walk v.kind ≡ true → (k : ℕ) (c : Cursor) (p : ℕ) → Ready b v c p → v.words ≤ c.rank + k → Reached b v (sought_by b v p k c) p
  unfolding sought_by sought
  reached_walk w zero c p y h = record { ready = y; past = λ i. absurd (omega arith) }
  reached_walk w (suc k) c p y h =
      elim (dec_le v.words c.rank) [
        | yes n ↦ rw (le-ltb c.rank v.words n) (record { ready = y; past = λ i. absurd (omega arith) })
        | no n ↦
            let m = lt_of_not-le n in
            elim (dec_le p c.at) [
              | yes q ↦ rw (le-ltb c.at p q, both_false) (record { ready = y; past = λ i. q })
              | no q ↦
                  let l = lt_of_not-le q in
                  let u = rank_up b v o c p y m (next_of b v c) refl in
                  rw (lt-ltb c.rank v.words m, lt-ltb c.at p l)
                  (reached_walk w k (next_of b v c) p (ready-next b v o c p y m w (next_of b v c) refl l) (omega arith))
            ]
      ]

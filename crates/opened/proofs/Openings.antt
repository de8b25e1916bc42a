-- What an opening keeps, and what the lookups through any bytes and numbers say. Assumes nothing.
use Prim.Native.Nat.{ℕ, zero, suc}
use mathlib.Core.Path.{◌≡◌, refl, sym, ap, ◌∙◌, subst}
use mathlib.Core.Bool.{Bool, true, false}
use mathlib.Core.List.{List, []}
use native.Mathlib.Omega.{arith}
use lib.Dec.{eqb}
use borrow.Author.Tests.{eqb-true, eqb-false, eq-eqb, ne_eqb}
use denote.Ref.{Bor}
use Rattle.std.specs.Prelude.{Result, Err}
use Rattle.format.specs.declared.View.{View}
use Rattle.format.specs.declared.Refusal.{Refusal}
use Rattle.format.specs.Tools.{pick}
use Rattle.format.specs.Signals.{BEYOND}
use Rattle.format.specs.Answers.{Answer, refused, answered}
use Rattle.format.specs.Accepted.{empty_of, words_of, check_number}
use Rattle.format.specs.Lookups.{cell_in, rank_in, position_in, cell_answer, rank_answer, position_answer}
use Rattle.format.specs.Opened.{Opened, view_of, no_view, opening, OpeningOf, via_opening, Free, FreeWord, OpenedCell, OpenedRank, OpenedPosition}
use Rattle.laws.proofs.Tools.{cases}
use Rattle.laws.proofs.Settings.{small-setting}
use Rattle.laws.proofs.Refusals.{refused_at}
use Rattle.parts.specs.Holds.{ViewOf}
use Rattle.parts.proofs.Seen as parts
use Rattle.checked.specs.Verdict.{Judged}
use Rattle.search.specs.Searched.{CellSearched, RankSearched, PositionSearched}
use Rattle.opened.specs.Kept.{Kept}

-- ---- opening

abbrev put : List ℕ → View → Opened
put b v = record { bytes = b; view = v }

opening-accepted : (b : List ℕ) → check_number b ≡ 0 → opening b ≡ put b (view_of b)
unfolding opening
opening-accepted b e = rw e

opening-refused : (b : List ℕ) → (check_number b ≡ 0 → ⊥) → opening b ≡ put [] no_view
unfolding opening
opening-refused b h = rw (ne_eqb (check_number b) 0 h)

-- no accepted file has kind 0
kind_opened : (b : List ℕ) → check_number b ≡ 0 → (opening b).view.kind ≡ 0 → ⊥
kind_opened b e z =
    let s = parts.seen b (view_of b) (record { accepted = e; view = refl }) in
    let k = s.kind in
    let o = ap (λ (x : Opened). x.view.kind) (opening-accepted b e) in
    omega (arith, (small-setting _ s.header.right.setting).kind_least)

pub view-accepted : (b : List ℕ) (v : View) → ViewOf b v → v ≡ (opening b).view
view-accepted b v o = o.view ∙ sym (ap (λ (x : Opened). x.view) (opening-accepted b o.accepted))

pub view-refused : (b : List ℕ) → (check_number b ≡ 0 → ⊥) → no_view ≡ (opening b).view
view-refused b h = sym (ap (λ (x : Opened). x.view) (opening-refused b h))

-- by the check's answer
pub refused_view : (b : List ℕ) (answer : Result View Refusal) (r : Refusal) → Judged b answer → answer ≡ Err r → (opening b).view ≡ no_view
refused_view b answer r j is = sym (view-refused b (refused_at answer _ j.number r is).1)

-- the contract of open, by what it keeps
pub opened : (x r : Bor (List ℕ)) (v : View) → v ≡ (opening x.now).view → Kept x v r → OpeningOf x r v
opened x r v e k = record { view = e; bytes = cases (eqb (check_number x.now) 0) held none; own = λ z. k.own (other z) }
  where
    other : check_number x.now ≡ 0 → v.kind ≡ 0 → ⊥
    other z h = kind_opened x.now z (sym (ap (λ (y : View). y.kind) e) ∙ h)

    held : eqb (check_number x.now) 0 ≡ true → r.now ≡ (opening x.now).bytes
    held t =
        let z = eqb-true (check_number x.now) 0 t in
        k.bytes ∙ ap (λ (q : Bool). pick q [] x.now) (ne_eqb v.kind 0 (other z)) ∙ sym (ap (λ (y : Opened). y.bytes) (opening-accepted x.now z))

    none : eqb (check_number x.now) 0 ≡ false → r.now ≡ (opening x.now).bytes
    none t =
        let o = opening-refused x.now (eqb-false (check_number x.now) 0 t) in
        let z : v.kind ≡ 0 = ap (λ (y : View). y.kind) e ∙ ap (λ (y : Opened). y.view.kind) o in
        k.bytes ∙ ap (λ (q : Bool). pick q [] x.now) (eq-eqb v.kind 0 z) ∙ sym (ap (λ (y : Opened). y.bytes) o)

-- ---- lookups through the bytes x and the numbers v

-- an opening that was refused
says_beyond : (n : ℕ) (a : Answer) → (n ≡ 0 → ⊥) → refused BEYOND ≡ via_opening n a
says_beyond zero a h = absurd (h refl)
says_beyond (suc n) a h = refl

module _ (x : List ℕ) (v : View) (p : ℕ) (z : v.kind ≡ 0) where
  beyond : (b : List ℕ) (a : Answer) → put x v ≡ opening b → refused BEYOND ≡ via_opening (check_number b) a
  beyond b a o = says_beyond (check_number b) a (λ e. kind_opened b e (sym (ap (λ (y : Opened). y.view.kind) o) ∙ z))

  pub cell-beyond : OpenedCell (put x v) p (refused BEYOND)
  cell-beyond = record { right = λ b. beyond b (cell_answer b p); free = FreeWord.beyond }

  pub rank-beyond : OpenedRank (put x v) p (refused BEYOND)
  rank-beyond = record { right = λ b. beyond b (rank_answer b p); free = Free.beyond }

  pub position-beyond : OpenedPosition (put x v) p (refused BEYOND)
  position-beyond = record { right = λ b. beyond b (position_answer b p); free = Free.beyond }

-- an opening that was accepted keeps the file and its view
record Seen (x : List ℕ) (v : View) (b : List ℕ) : Type 0 where
  same : x ≡ b
  view : ViewOf x v

module _ (x : List ℕ) (v : View) (p : ℕ) (a : Answer) (h : v.kind ≡ 0 → ⊥) where
  seen : (b : List ℕ) → put x v ≡ opening b → Seen x v b
  seen b o = cases (eqb (check_number b) 0) held none
    where
      held : eqb (check_number b) 0 ≡ true → Seen x v b
      held t =
          let z = eqb-true (check_number b) 0 t in
          let e = o ∙ opening-accepted b z in
          let s : x ≡ b = ap (λ (y : Opened). y.bytes) e in
          record {
            same = s;
            view = record { accepted = ap check_number s ∙ z; view = ap (λ (y : Opened). y.view) e ∙ ap view_of (sym s) };
          }

      none : eqb (check_number b) 0 ≡ false → Seen x v b
      none t = absurd (h (ap (λ (y : Opened). y.view.kind) (o ∙ opening-refused b (eqb-false (check_number b) 0 t))))

  through : (b : List ℕ) (d : Answer) → Seen x v b → a ≡ d → a ≡ via_opening (check_number b) (answered (check_number b) d)
  through b d s e = let z = ap check_number (sym s.same) ∙ s.view.accepted in rw z e

  pub cell-through : CellSearched x v p a → OpenedCell (put x v) p a
  unfolding cell_answer
  cell-through s =
      record {
        right = λ b o. let k = seen b o in through b _ k (subst (λ (y : List ℕ). a ≡ cell_in (words_of y) p) k.same (s.right k.view));
        free = s.free;
      }

  pub rank-through : RankSearched x v p a → OpenedRank (put x v) p a
  unfolding rank_answer
  rank-through s =
      record {
        right = λ b o. let k = seen b o in through b _ k (subst (λ (y : List ℕ). a ≡ rank_in (empty_of y) (words_of y) p) k.same (s.right k.view));
        free = s.free;
      }

  pub position-through : PositionSearched x v p a → OpenedPosition (put x v) p a
  unfolding position_answer
  position-through s =
      record {
        right = λ b o. let k = seen b o in through b _ k (subst (λ (y : List ℕ). a ≡ position_in (empty_of y) (words_of y) p) k.same (s.right k.view));
        free = s.free;
      }

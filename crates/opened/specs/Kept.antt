-- The opened file as document 01's record, and which bytes an opening keeps. Assumes nothing.
use Rattle.std.specs.Prelude.{ℕ, ◌≡◌, List, [], eqb}
use Rattle.std.specs.Borrow.{Bor}
use Rattle.format.specs.declared.View.{View}
use Rattle.format.specs.Tools.{pick}
use Rattle.format.specs.Opened as format
use Rattle.opened.specs.declared.Opened.{Opened}

-- bytes and numbers put together, by whomever
abbrev pub over : Bor (List ℕ) → View → format.Opened
over x v = record { bytes = x.now; view = v }

abbrev pub file_of : Opened → format.Opened
file_of o = over o.bytes o.view

-- r is the lent slice x itself, or no bytes where the numbers v are a refusal's
pub record Kept (x : Bor (List ℕ)) (v : View) (r : Bor (List ℕ)) : Type 0 where
  pub bytes : r.now ≡ pick (eqb v.kind 0) [] x.now
  pub own : (v.kind ≡ 0 → ⊥) → r ≡ x

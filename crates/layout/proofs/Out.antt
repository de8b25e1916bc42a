-- What each way through `measured` and `going` gives. Assumes nothing.
use Prim.Native.Nat.{ℕ, ◌≤◌, ◌<◌}
use mathlib.Core.Path.{◌≡◌, refl, sym, ap, ◌∙◌}
use mathlib.Core.Bool.{Bool, true, false}
use borrow.Author.Tests.{lt-ltb, le-ltb}
use Rattle.std.specs.Prelude.{Option, Some, None, Result, Ok, Err}
use Rattle.std.specs.Option.{ok_or}
use Rattle.format.specs.declared.Setting.{Setting}
use Rattle.format.specs.Tools.{pick}
use Rattle.format.specs.Signals.{UNFIT, SMALL}
use Rattle.parts.specs.declared.Encoder.{Encoder}
use Rattle.parts.specs.declared.Sizes.{Sizes}
use Rattle.parts.specs.Encoder.{ended_by}
use Rattle.kinds.specs.Coding.{coder}
use Rattle.layout.specs.Laid.{total_of, out_of, measured_by}

module _ (s : Setting) (e : Encoder) where
  abbrev chosen : Bool → Option Sizes
  chosen t = pick t (Some ((coder s).sizes (ended_by (coder s) e))) None

  pub measured_unfit : e.fits ≡ false → None ≡ measured_by s e
  unfolding measured_by
  measured_unfit f = ap chosen (sym f)

  pub measured_fits : (z : Sizes) → z ≡ (coder s).sizes (ended_by (coder s) e) → e.fits ≡ true → Some z ≡ measured_by s e
  unfolding measured_by
  measured_fits z q f = ap Some q ∙ ap chosen (sym f)

-- an option by what `ok_or` gave
module _ {X E : Type 0} (o : Option X) (e : E) (r : Result X E) (by : r ≡ ok_or o e) where
  pub some_by : (x : X) → r ≡ Ok x → o ≡ Some x
  some_by x h = go o (sym h ∙ by)
    where
      go : (o : Option X) → Ok x ≡ ok_or o e → o ≡ Some x
      go (Some y) h = cc
      go None h = cc

  pub none_by : (d : E) → r ≡ Err d → (o ≡ None) × (d ≡ e)
  none_by d h = go o (sym h ∙ by)
    where
      go : (o : Option X) → Err d ≡ ok_or o e → (o ≡ None) × (d ≡ e)
      go (Some y) h = cc
      go None h = (refl, cc)

module _ (m : Option Sizes) (room : ℕ) where
  pub out-unfit : m ≡ None → UNFIT ≡ out_of m room
  out-unfit e = rw e

  module _ (z : Sizes) (e : m ≡ Some z) where
    pub out-small : room < total_of z → SMALL ≡ out_of m room
    out-small h = rw (e, lt-ltb room (total_of z) h)

    pub out-fits : total_of z ≤ room → 0 ≡ out_of m room
    out-fits h = rw (e, le-ltb room (total_of z) h)

-- The code of an answer whose refusal is one of the signal list, or a plain number. Assumes nothing.
use Prim.Native.Nat.{ℕ}
use mathlib.Core.Path.{◌≡◌}
use Rattle.std.specs.Prelude.{Result, Ok, Err}
use Rattle.format.specs.declared.Position.{Position}
use Rattle.format.specs.declared.Refusal.{Refusal}
use Rattle.format.specs.declared.RankAnswer.{RankAnswer}
use Rattle.format.specs.declared.RankAnswer.TheVariants as ra
use Rattle.format.specs.Signals.{signal_number}
use Rattle.format.specs.Answers.{Answer, refused, given, cell_says, rank_says, position_says}
use Rattle.c_values.specs.Code.{coded, rank_given, position_given, CodeOf}

pub cell_coded : (a : Result ℕ Refusal) (r : ℕ) → CodeOf given (λ e n. n ≡ signal_number e) a r → r ≡ coded (cell_says a)
cell_coded (Ok x) r h = h
cell_coded (Err e) r h = rw h.1 at h.2

pub rank_coded : (a : Result RankAnswer Refusal) (r : ℕ) → CodeOf rank_given (λ e n. n ≡ signal_number e) a r → r ≡ coded (rank_says a)
rank_coded (Ok (ra.Rank x)) r h = h
rank_coded (Ok (ra.Empty n)) r h = h
rank_coded (Err e) r h = rw h.1 at h.2

pub position_coded : (a : Result Position Refusal) (r : ℕ) → CodeOf position_given (λ e n. n ≡ signal_number e) a r → r ≡ coded (position_says a)
position_coded (Ok p) r h = h
position_coded (Err e) r h = rw h.1 at h.2

-- a refusal that is a number itself
pub refused_coded : {X : Type 0} (gives : X → Answer) (n r : ℕ) → CodeOf gives (λ e m. m ≡ e) (Err n) r → r ≡ coded (refused n)
refused_coded gives n r h = rw h.1 at h.2

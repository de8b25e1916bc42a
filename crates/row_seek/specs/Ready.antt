-- A cursor from which the positions from p on can be sought. Assumes nothing.
use Rattle.std.specs.Prelude.{ℕ, suc, ◌-◌, ◌≤◌, ◌<◌, ◌≡◌, true, List, get_or, take, drop}
use Rattle.format.specs.declared.View.{View}
use Rattle.format.specs.Tools.{Below}
use Rattle.format.specs.Accepted.{positions_of}
use Rattle.parts.specs.declared.Cursor.{Cursor}
use Rattle.parts.specs.declared.RunPart.{RunPart}
use Rattle.parts.specs.Found.{PartOf}
use Rattle.kinds.specs.Steps.{walked, by_walk, stores_runs}
use Rattle.row_seek.specs.declared.seek.Gap.{Gap}

-- where runs are stored: the cells of its run that a cursor knows, from where it stands up to `last`
abbrev pub known_run : Cursor → RunPart
known_run c = record { at = c.at; cells = suc c.last - c.at }

-- it stands at the position of its rank, and the ranks before are below p; in a kind that is sought by a walk it can walk on, and where runs are stored the
-- cells that it knows are stored
pub record Ready (b : List ℕ) (v : View) (c : Cursor) (p : ℕ) : Type 0 where
  pub rank : c.rank ≤ v.words
  pub at : c.rank < v.words → c.at ≡ get_or (positions_of b) c.rank 0
  pub ahead : by_walk v.kind ≡ true → walked b v c (v.words - c.rank) ≡ drop c.rank (positions_of b)
  pub run : stores_runs v.kind → c.rank < v.words → PartOf (positions_of b) c.rank (known_run c)
  pub passed : Below p (take c.rank (positions_of b))

-- it stands at the first rank from p on, or past the last
pub record Reached (b : List ℕ) (v : View) (c : Cursor) (p : ℕ) : Type 0 where
  pub ready : Ready b v c p
  pub past : c.rank < v.words → p ≤ c.at

-- it stands at the rank r, and knows cells of its run; or r is no rank
pub record Stands (b : List ℕ) (v : View) (r : ℕ) (c : Cursor) : Type 0 where
  pub rank : c.rank ≡ r
  pub run : r < v.words → PartOf (positions_of b) r (known_run c)

-- the rank low stands below p, and the later rank high, or N, does not
pub record Around (b : List ℕ) (v : View) (p : ℕ) (g : Gap) : Type 0 where
  pub order : g.low < g.high
  pub most : g.high ≤ v.words
  pub below : get_or (positions_of b) g.low 0 < p
  pub at : g.high < v.words → g.at ≡ get_or (positions_of b) g.high 0
  pub past : g.high < v.words → p ≤ g.at

-- A group: a base and the offsets of the ranks that it serves. Assumes nothing.
use Rattle.std.specs.Prelude.{ℕ, ◌+◌, ◌-◌, Bool, List, [], ◌∷◌, take, drop}
use Rattle.format.specs.declared.View.{View}
use Rattle.format.specs.Tools.{both}
use Rattle.format.specs.Bytes.{field, numbers_of}
use Rattle.wire.specs.Wire.{entry_size}
use Rattle.offsets.specs.Ends.{group_ends}

-- the group of `base`, then those of the bases bs, by their ends
unfoldable pub ends_right : ℕ → ℕ → ℕ → List ℕ → List ℕ → Bool
ends_right l bound base [] os = group_ends base bound os
ends_right l bound base (next ∷ bs) os = both (group_ends base next (take l os)) (ends_right l bound next bs (drop l os))

-- the groups of a view with words, by their ends
unfoldable pub ends_of : List ℕ → View → Bool
ends_of b v =
    ends_right v.step v.cells (field 4 v.start b) (numbers_of 4 (v.firsts - 1) (drop (v.start + 4) b))
    (numbers_of (entry_size v.width) v.words (drop v.second b))

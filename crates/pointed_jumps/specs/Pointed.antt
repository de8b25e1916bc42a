-- The pointers of a file, by a view. Assumes nothing.
use Rattle.std.specs.Prelude.{ℕ, ◌+◌, ◌*◌, Bool, List, drop}
use Rattle.format.specs.declared.View.{View}
use Rattle.format.specs.Tools.{same, up_to}
use Rattle.format.specs.Bytes.{numbers_of}
use Rattle.format.specs.PointedJumps.{pointers}
use Rattle.jump_pass.specs.Pass.{differences_left}

-- those that stand behind the differences, one for each step-th of the jumps that the header counts
unfoldable pub pointers_said : List ℕ → View → List ℕ
pointers_said b v = numbers_of 4 (up_to v.firsts v.step) (drop (v.second + v.width * v.words) b)

-- they are the pointers of the differences
unfoldable pub pointed_right : List ℕ → View → Bool
pointed_right b v = same (pointers v.step (differences_left v 0 b)) (pointers_said b v)

-- With each descent the levels below fall: a walk along a page counts one more than the descent that follows it.
use Rattle.std.proofs.Common.{◌+◌, ◌*◌}
use Rattle.descent.proofs.search.+descend_page_walk.Given as goal

abbrev pub decreases-descend : goal.decreases-descend
decreases-descend l = 2 * l.level

abbrev pub decreases-page_walk : goal.decreases-page_walk
decreases-page_walk l = 2 * l.level + 1

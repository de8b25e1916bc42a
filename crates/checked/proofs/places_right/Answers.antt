use Rattle.checked.proofs.Number.{places_tests}
use Rattle.checked.proofs.places_right.Goals as goal

pub returns : goal.returns
returns c =
    let a = c.args in
    places_tests a.file.now a.v a.first a.second c.get_u32.result c.get_u32.ensures.0

use Rattle.header.proofs.Fields.{dimension_fields}
use Rattle.header.proofs.view.read_dimensions.Goals as goal

pub returns : goal.returns
returns c =
    dimension_fields _
    c.get_u8.ensures.0
    c.get_u32.ensures.0
    c.get_u32-2.ensures.0
    c.get_u32-3.ensures.0
    c.get_u32-4.ensures.0

use Rattle.header.proofs.Fields.{count_fields}
use Rattle.header.proofs.view.read_counts.Goals as goal

pub returns : goal.returns
returns c =
    count_fields _
    c.get_u32.ensures.0
    c.get_u32-2.ensures.0
    c.get_u32-3.ensures.0
    c.get_u32-4.ensures.0
    c.get_u32-5.ensures.0
    c.get_u32-6.ensures.0

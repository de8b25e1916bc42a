use Rattle.opened.proofs.Openings.{opened}
use Rattle.opened.proofs.open.Goals as goal

pub returns : goal.returns
returns c = opened _ _ _ c.opened_view-view.ensures c.opened_bytes-bytes.ensures

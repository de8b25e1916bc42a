use Rattle.stores.proofs.Laws.{put_1}
use Rattle.stores.proofs.put_u8.Goals as goal

pub returns : goal.returns
returns c = put_1 _ _ _

use Rattle.header.proofs.Fields.{setting_fields}
use Rattle.header.proofs.view.read_setting.Goals as goal

pub returns : goal.returns
returns c = setting_fields _ c.get_u8.ensures.0 c.get_u8-2.ensures.0 c.get_u8-3.ensures.0

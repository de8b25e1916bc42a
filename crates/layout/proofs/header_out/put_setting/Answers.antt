-- `put_setting` meets its contract. Assumes nothing.
use Rattle.layout.proofs.Header.{put_four}
use Rattle.layout.proofs.header_out.put_setting.Goals as goal

-- `put_setting` meets its contract. Assumes nothing.
pub returns : goal.returns
returns c =
    let a = c.args in
    put_four a.dst.now a.s.kind a.count a.s.width a.s.step c.put_u8.ensures c.put_u8-2.ensures
    c.put_u8-3.ensures c.put_u8-4.ensures

use native.Mathlib.Omega.{arith}
use Rattle.stores.proofs.Copied.{put_written}
use Rattle.text.proofs.put_bytes.Goals as goal

pub returns : goal.returns
returns c = record { place = omega arith; bytes = put_written _ _ _ _ _ c.copy_from_slice.ensures.after (omega arith) (omega arith) }

use Rattle.std.proofs.Common.{refl}
use Rattle.rules.specs.Spare.{spare_bytes}
use Rattle.nand.proofs.spare.spare_bytes.Goals as goal

pub returns : goal.returns
unfolding spare_bytes
returns c = rw (c.to_le_bytes-number.ensures, c.to_le_bytes-address.ensures) refl

use Rattle.std.proofs.Common.{refl}
use Rattle.rules.specs.WellFormed.{is_bad}
use Rattle.blocks.proofs.scan.is_bad.Goals as goal

pub returns : goal.returns
unfolding is_bad
returns c = rw (c.is_marked-first.ensures, c.is_marked-second.ensures) refl

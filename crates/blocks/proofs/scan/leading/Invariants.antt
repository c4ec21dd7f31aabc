-- The first i pages fit, and `ordered` says whether each has its own offset.
use Rattle.rules.specs.WellFormed.{pages_of}
use Rattle.nand.specs.Chip.{seen}
use Rattle.blocks.proofs.Leading.{Begun}
use Rattle.blocks.proofs.scan.leading.Given as goal

abbrev pub invariant-loop-i : goal.invariant-loop-i
invariant-loop-i l = Begun l.s (pages_of l.s (seen l.chip) l.b) l.x l.i l.ordered

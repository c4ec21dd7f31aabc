-- The pages from `from` to i are erased.
use Rattle.rules.specs.WellFormed.{pages_of}
use Rattle.nand.specs.Chip.{seen}
use Rattle.blocks.proofs.Image.{ErasedTo}
use Rattle.blocks.proofs.scan.is_blank.Given as goal

abbrev pub invariant-loop-i : goal.invariant-loop-i
invariant-loop-i l = ErasedTo (pages_of l.chip.shape (seen l.chip) l.b) l.from l.i

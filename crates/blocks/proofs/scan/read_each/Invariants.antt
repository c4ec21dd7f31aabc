-- What is read of the blocks below b is in the list.
use Rattle.rules.specs.WellFormed.{Blocks}
use Rattle.blocks.specs.Scanned.{Reads}
use Rattle.blocks.proofs.Image.{ReadTo}
use Rattle.blocks.proofs.scan.read_each.Given as goal

abbrev pub invariant-loop-b : goal.invariant-loop-b
invariant-loop-b g l = (c : Blocks) → Reads (goal.F-post g l.read) l.chip.shape.blocks c → ReadTo c l.list l.b

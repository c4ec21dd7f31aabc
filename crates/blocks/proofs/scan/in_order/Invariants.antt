-- The pages before i are in order.
use Rattle.std.proofs.Common.{ℕ, ◌≤◌, ◌<◌}
use lib.Dec.{T}
use Rattle.nand.specs.Chip.{seen}
use Rattle.blocks.specs.Leading.{is_next}
use Rattle.blocks.proofs.scan.in_order.Given as goal

abbrev pub invariant-loop-i : goal.invariant-loop-i
invariant-loop-i l = (j : ℕ) → 1 ≤ j → j < l.i → T (is_next l.s (seen l.chip) l.b l.x j)

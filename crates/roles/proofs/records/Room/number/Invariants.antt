use Rattle.rules.specs.WellFormed.{blocks_in}
use Rattle.roles.proofs.Passes.{NumbersTo}
use Rattle.roles.proofs.records.Room.number.Given as goal

abbrev pub invariant-loop-j : goal.invariant-loop-j
invariant-loop-j l = NumbersTo l.shape (blocks_in l.list) l.numbers l.j

use Rattle.std.proofs.Common.{option_copied}
use Rattle.roles.specs.Kept.{recorded_by}
use Rattle.steps.specs.Doing.{Does}
use Rattle.carry.specs.Carrying.{copies_to}
use Rattle.carry.proofs.copy_all.Given as goal

abbrev pub invariant-loop-o : goal.invariant-loop-o
invariant-loop-o l =
    Does (λ im. copies_to l.records.shape im (recorded_by l.records) l.renewal (option_copied l.block) l.o) l.fn.run l.run

use Rattle.steps.proofs.Running.{does_none}
use Rattle.steps.proofs.run.Run.erase_any.Goals as goal

pub returns-in_default : goal.returns-in_default
returns-in_default c = rw c.in_default.is (does_none c.args.self.now)

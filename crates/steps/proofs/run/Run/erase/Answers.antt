use Rattle.steps.proofs.Running.{does_stop, does_step}
use Rattle.steps.proofs.run.Run.erase.Goals as goal

pub returns-then-is_spent : goal.returns-then-is_spent
returns-then-is_spent c = does_stop c.if-is_spent.ensures c.stop-self.ensures

pub returns : goal.returns
returns c = does_step c.if-is_spent.ensures c.erase_block.ensures c.erased-self.ensures

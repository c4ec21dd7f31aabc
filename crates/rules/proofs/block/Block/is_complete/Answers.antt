use Rattle.std.proofs.Common.{rules}
use Rattle.rules.specs.WellFormed.{is_complete}
use Rattle.rules.proofs.block.Block.is_complete.Goals as goal

-- src/block.rt:60:5
pub returns : goal.returns
unfolding is_complete
returns c = search rules

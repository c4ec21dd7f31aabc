use Rattle.std.proofs.Common.{ap, ◌∙◌}
use Rattle.rules.specs.Content.{content, bytes_at}
use Rattle.nand.specs.Chip.{seen}
use Rattle.content.proofs.fetch.Goals as goal

pub returns : goal.returns
unfolding content
returns c = c.copy_from.ensures c.args.chip.now.spare.now ∙ ap (bytes_at (seen c.args.chip.now)) (c.of-place.ensures.is c.args.chip.now.bytes.now)

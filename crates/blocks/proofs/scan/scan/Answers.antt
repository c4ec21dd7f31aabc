use Rattle.std.proofs.Common.{rules, ◌∙◌}
use Rattle.rules.specs.WellFormed.{block_at}
use Rattle.nand.specs.Chip.{seen}
use Rattle.blocks.proofs.Image.{records_read}
use Rattle.blocks.proofs.scan.scan.Goals as goal

pub returns-clause-is : goal.returns-clause-is
returns-clause-is c =
    let chip = c.args.chip.now in
    c.read_each.ensures (block_at chip.shape (seen chip)) (λ b x h told. search rules) ∙ records_read chip.shape (seen chip)

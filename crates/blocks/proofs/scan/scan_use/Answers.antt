use Rattle.std.proofs.Common.{rules, ℕ, ◌∙◌}
use Rattle.rules.specs.WellFormed.{not_used}
use Rattle.nand.specs.Chip.{seen}
use Rattle.blocks.specs.Scanned.{use_at}
use Rattle.blocks.proofs.Image.{uses_read}
use Rattle.blocks.proofs.scan.scan_use.Goals as goal

pub returns-clause-is : goal.returns-clause-is
returns-clause-is c =
    let chip = c.args.chip.now in
    c.read_each.ensures (λ (b : ℕ). not_used (use_at chip.shape (seen chip) b)) (λ b x h told. search rules) ∙ uses_read chip.shape (seen chip)

use Rattle.std.proofs.Common.{sym, ◌∙◌}
use Rattle.rules.specs.WellFormed.{pages_of}
use Rattle.nand.specs.Chip.{seen}
use Rattle.blocks.proofs.Image.{blank_whole}
use Rattle.blocks.proofs.scan.use_of.Goals as goal

pub returns-then-is_blank : goal.returns-then-is_blank
returns-then-is_blank c =
    let chip = c.args.chip.now in
    let g = pages_of chip.shape (seen chip) c.args.b in
    rw (sym c.is_bad.ensures ∙ c.if-is_bad.false, sym (blank_whole chip.shape g) ∙ sym c.is_blank.ensures ∙ c.if-is_blank.true)

pub returns : goal.returns
returns c =
    let chip = c.args.chip.now in
    let g = pages_of chip.shape (seen chip) c.args.b in
    rw (sym c.is_bad.ensures ∙ c.if-is_bad.false, sym (blank_whole chip.shape g) ∙ sym c.is_blank.ensures ∙ c.if-is_blank.false)

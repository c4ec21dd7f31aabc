use Rattle.std.proofs.Common.{ap, sym, ◌∙◌}
use Rattle.rules.specs.WellFormed.{pages_of}
use Rattle.nand.specs.Chip.{seen}
use Rattle.blocks.specs.Leading.{blank_from}
use Rattle.blocks.proofs.Image.{block_bad, block_leading, block_ill}
use Rattle.blocks.proofs.scan.read_block.Goals as goal

pub returns-then-is_bad : goal.returns-then-is_bad
returns-then-is_bad c =
    let chip = c.args.chip.now in
    c.not_used.ensures ∙ block_bad chip.shape (seen chip) c.args.b (sym c.is_bad.ensures ∙ c.if-is_bad.true)

pub returns-then-is_blank : goal.returns-then-is_blank
returns-then-is_blank c =
    let chip = c.args.chip.now in
    block_leading chip.shape (seen chip) c.args.b c.leading-x.ensures (c.is_blank.ensures ∙ ap (blank_from chip.shape (pages_of chip.shape (seen chip) c.args.b)) c.from.ensures) (sym c.is_bad.ensures ∙ c.if-is_bad.false) c.if-is_blank.true

pub returns : goal.returns
returns c =
    let chip = c.args.chip.now in
    c.not_used-2.ensures
    ∙ block_ill chip.shape (seen chip) c.args.b c.leading-x.ensures (c.is_blank.ensures ∙ ap (blank_from chip.shape (pages_of chip.shape (seen chip) c.args.b)) c.from.ensures) (sym c.is_bad.ensures ∙ c.if-is_bad.false) c.if-is_blank.false

use Rattle.std.proofs.Common.{refl}
use Rattle.rules.specs.Page.{page_at}
use Rattle.nand.proofs.chip.Chip.page_at.Goals as goal

pub returns : goal.returns
unfolding page_at
returns c = rw (c.read_page.ensures, c.page.ensures.bytes, c.marks.ensures) refl

use Rattle.std.proofs.Common.{sym}
use Rattle.rules.specs.Page.{page_at}
use Rattle.laws.proofs.Pages.{is_erased-page_of}
use Rattle.nand.proofs.chip.Chip.erased_at.Goals as goal

pub returns : goal.returns
unfolding page_at
returns c = rw (c.page_erased.ensures, c.page.ensures.bytes, c.marks.ensures) (sym (is_erased-page_of _ _))

use native.Mathlib.Omega.{arith}
use Rattle.nand.specs.Chip.{seen}
use Rattle.blocks.proofs.Image.{first_page}
use Rattle.blocks.proofs.scan.begin.Goals as goal

pub returns : goal.returns
returns c =
    let chip = c.args.chip.now in
    let low = chip.fits.limits.pages_low in
    first_page chip.shape (seen chip) c.args.b (omega arith) c.page_no.ensures.0 c.page_at.ensures c.start.ensures

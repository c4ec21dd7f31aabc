use Rattle.std.proofs.Common.{refl}
use native.Mathlib.Omega.{arith}
use Rattle.nand.specs.Chip.{seen}
use Rattle.laws.proofs.Bytes.{part_lent, part_lent_length}
use Rattle.laws.proofs.Pages.{fits_page}
use Rattle.nand.proofs.chip.Chip.page.Goals as goal

pub returns-clause-bytes : goal.returns-clause-bytes
returns-clause-bytes c = rw (part_lent c.args.self.now.bytes.now c.page_start-at.result 512, c.page_start-at.ensures) refl

pub returns-clause-long : goal.returns-clause-long
returns-clause-long c =
    let chip = c.args.self.now in
    part_lent_length chip.bytes.now c.page_start-at.result 512
    (omega (arith, fits_page chip.shape (seen chip) chip.fits c.args.p c.requires, c.page_start-at.ensures))

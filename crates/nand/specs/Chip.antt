-- The image that a chip shows.
use Rattle.rules.specs.Page.{Image}
use Rattle.rules.specs.Facts.{image_of}
use Rattle.nand.specs.declared.chip.Chip.{Chip}

abbrev pub seen : Chip → Image
seen c = image_of c.bytes.now c.spare.now

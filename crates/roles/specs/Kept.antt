-- The records of a card.
use Rattle.rules.specs.WellFormed.{Blocks, blocks_in}
use Rattle.roles.specs.declared.records.Records.{Records}

abbrev pub recorded_by : Records → Blocks
recorded_by r = blocks_in r.list.now

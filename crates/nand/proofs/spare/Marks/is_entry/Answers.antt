use Rattle.laws.proofs.Spare.{kind_byte_is}
use Rattle.rules.specs.Spare.{kind_byte}
use Rattle.nand.proofs.Entries.{entry_told}
use Rattle.nand.proofs.spare.Marks.is_entry.Goals as goal

pub returns : goal.returns
returns c =
    let a = c.args in
    let marks = a.self.now in
    rw (c.from-2.ensures, c.from.ensures)
    (entry_told marks.bytes.now a.number (kind_byte a.kind) a.address marks.sixteen c.requires.0 (kind_byte_is a.kind) c.word_at.ensures
    c.word_at-2.ensures c.word_at-3.ensures c.word_at-4.ensures)

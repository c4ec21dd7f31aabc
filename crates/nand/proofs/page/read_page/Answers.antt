use Rattle.std.proofs.Common.{sym, ◌∙◌}
use Rattle.laws.proofs.Tests.{true_is, false_is}
use Rattle.laws.proofs.Pages.{page_of-erased, page_of-in_table, page_of_junk}
use Rattle.nand.proofs.Entries.{entry_of_table, no_kind}
use Rattle.nand.proofs.page.read_page.Goals as goal
use Rattle.nand.proofs.page.read_page.Goals.{in_default-via-in-Some+else-in_table, in_default-via-in_default}

pub returns-in-Some : goal.returns-in-Some
returns-in-Some c =
    let marks = c.args.marks.now in
    let table = true_is _ (sym c.in_table.ensures ∙ c.if-in_table.true) in
    rw (c.number.ensures, c.address.ensures)
    (entry_of_table marks.bytes.now (sym c.in-Some.is ∙ c.kind.ensures) table ∙ sym (page_of-in_table c.args.page.now marks.bytes.now marks.sixteen table))

pub returns-in_default : goal.returns-in_default
returns-in_default c = sym (page_of-erased c.args.page.now c.args.marks.now.bytes.now (true_is _ (sym c.page_erased.ensures ∙ c.if-page_erased.true)))

pub returns-in_default-2 : goal.returns-in_default-2
returns-in_default-2 c =
    let t = c.args.marks.now.bytes.now in
    sym
    (page_of_junk c.args.page.now t (false_is _ (sym c.page_erased.ensures ∙ c.if-page_erased.false))
    (elim c.in_default.branch [
      | in_default-via-in-Some+else-in_table w ↦ false_is _ (sym w.in_table.ensures ∙ w.if-in_table.false)
      | in_default-via-in_default w ↦ no_kind t (sym w.in_default.is ∙ c.kind.ensures)
    ]))

use Rattle.std.proofs.Common.{◌≡◌, arith, ◌∙◌, ap}
use Rattle.rules.specs.declared.block.Block.{Block}
use Rattle.roles.specs.Kept.{recorded_by}
use Rattle.roles.proofs.Entries.{table_none, table_same, table_more, table_all}
use Rattle.roles.proofs.records.Records.fill_table.Goals as goal
use Rattle.roles.proofs.records.Records.fill_table.Goals.{then-l-self, else-l-self}

pub loop-j-init : goal.loop-j-init
loop-j-init c = table_none c.args.self.now.shape (recorded_by c.args.self.now) c.args.table.now c.requires (c.fill.ensures.after (λ y h. h))

pub loop-j-preserved : goal.loop-j-preserved
loop-j-preserved c =
    let s = c.args.self.now.shape in
    let records = recorded_by c.args.self.now in
    let j = c.loop-j.j in
    let same : c.from-l.result ≡ (records j).logical = c.from-l.ensures ∙ ap (λ (x : Block). x.logical) c.block.ensures in
    elim c.if-l-self.branch [
      | then-l-self w ↦
          rw (w.table-is, w.enter-then-l-self.ensures, w.enter.ensures, w.is_live.ensures, w.is_data.ensures, same)
          (table_more s records j c.loop-j.invariant (omega arith))
      | else-l-self w ↦ rw w.table-is (table_same s records j c.loop-j.invariant (omega arith))
    ]

pub returns : goal.returns
returns c = table_all c.args.self.now.shape (recorded_by c.args.self.now) c.loop-j.table c.loop-j.j (omega arith) c.loop-j.invariant

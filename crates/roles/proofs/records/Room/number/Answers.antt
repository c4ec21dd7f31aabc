use Rattle.std.proofs.Common.{◌≡◌, arith, false, refl}
use Rattle.rules.specs.WellFormed.{blocks_in, is_complete}
use Rattle.roles.proofs.Passes.{numbers_none, numbers_more, numbers_same, numbers_all}
use Rattle.roles.proofs.records.Room.number.Goals as goal
use Rattle.roles.proofs.records.Room.number.Goals.{then-is_complete, else-is_complete}

pub loop-j-init : goal.loop-j-init
loop-j-init c = numbers_none _ _

pub loop-j-preserved : goal.loop-j-preserved
loop-j-preserved c =
    let s = c.args.shape in
    let records = blocks_in c.args.self.now.list in
    let j = c.loop-j.j in
    elim c.if-is_complete.branch [
      | then-is_complete w ↦
          let more = numbers_more s records j c.loop-j.invariant {x = records j} refl (c.requires.small j) cc in
          rw (w.numbers-is, w.max.ensures, w.from-l.ensures) more
      | else-is_complete w ↦
          let fails : is_complete s (records j) ≡ false = cc in
          rw w.numbers-is (numbers_same s records j c.loop-j.invariant fails)
    ]

pub returns-clause-numbers : goal.returns-clause-numbers
returns-clause-numbers c = (numbers_all c.requires (omega arith) c.loop-j.invariant).numbers_are

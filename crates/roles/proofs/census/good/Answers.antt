use Rattle.std.proofs.Common.{arith, ◌≡◌, ◌∙◌, cond}
use Rattle.rules.specs.WellFormed.{blocks_in}
use Rattle.laws.proofs.Below.{bit_le}
use Rattle.roles.proofs.Passes.{good_none, good_more, byte_is}
use Rattle.roles.proofs.census.good.Goals as goal

pub loop-j-init : goal.loop-j-init
loop-j-init c = record { few = omega arith; counted = good_none (blocks_in c.args.list.now) }

pub loop-j-preserved : goal.loop-j-preserved
loop-j-preserved c =
    let more = good_more (blocks_in c.args.list.now) c.loop-j.j in
    let bit : c.from-n.result ≡ cond c.is_good.result 1 0 = c.from-n.ensures ∙ byte_is c.is_good.result in
    record { few = omega (arith, bit_le c.is_good.result); counted = cc }

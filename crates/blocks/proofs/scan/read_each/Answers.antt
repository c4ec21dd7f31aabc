use Rattle.std.proofs.Common.{arith}
use Rattle.blocks.proofs.Image.{read_more, read_all}
use Rattle.blocks.proofs.scan.read_each.Goals as goal

pub loop-b-preserved : goal.loop-b-preserved
loop-b-preserved g c =
    let few = c.args.chip.now.fits.limits.blocks_high in
    λ r told. read_more r c.loop-b.list c.loop-b.b (omega arith) (told c.loop-b.b _ c.loop-b-test.true c.read.ensures) (c.loop-b.invariant r told)

pub returns : goal.returns
returns g c = λ r told. read_all r c.loop-b.list (omega (arith, c.loop-b.auto.b-end)) (c.loop-b.invariant r told)

use Rattle.std.proofs.Common.{refl}
use native.Mathlib.Omega.{arith}
use Rattle.laws.proofs.Bytes.{all255-none, all255_turn}
use Rattle.nand.proofs.bytes.all_255.Goals as goal

pub loop-byte-init : goal.loop-byte-init
loop-byte-init c = all255-none c.args.s.now

pub loop-byte-preserved : goal.loop-byte-preserved
loop-byte-preserved c = all255_turn c.args.s.now c.loop-byte.byte-index (omega arith) c.loop-byte.invariant refl

-- `all` says whether the bytes so far are all 255.
use Rattle.std.proofs.Common.{◌≡◌}
use lib.ListN.{take}
use Rattle.rules.specs.Bytes.{all255}
use Rattle.nand.proofs.bytes.all_255.Given as goal

abbrev pub invariant-loop-byte : goal.invariant-loop-byte
invariant-loop-byte l = l.all ≡ all255 (take l.byte-index l.s)

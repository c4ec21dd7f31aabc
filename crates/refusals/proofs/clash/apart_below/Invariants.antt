-- `all` says of the blocks so far that none has number n.
use Rattle.std.proofs.Common.{◌≡◌, get_or}
use lib.Dec.{eqb}
use mathlib.Core.Bool.{not}
use Rattle.rules.specs.Below.{all_below}
use Rattle.refusals.proofs.clash.apart_below.Given as goal

abbrev pub invariant-loop-other : goal.invariant-loop-other
invariant-loop-other l = l.all ≡ all_below l.other-index (λ k. not (eqb (get_or l.own k 0) l.n))

-- The claim: the definitions give every row of the tables. Computed.
use mathlib.Core.List.{[]}
use lib.Dec.{T}
use Rattle.rules.specs.Computing.{computing}
use Rattle.worked.specs.Rows.{all_hold}
use Rattle.worked.specs.Cases.{cases}
use Rattle.worked.specs.Rules.{rules}
use Rattle.worked.specs.BlockWrites.{block_writes}

pub block_writes_hold : T (all_hold block_writes [])
unfolding computing
block_writes_hold = tt

pub rules_hold : T (all_hold rules [])
unfolding computing
rules_hold = tt

pub cases_hold : T (all_hold cases [])
unfolding computing
cases_hold = tt

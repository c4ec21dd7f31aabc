-- W5 by the numbers of the blocks.
use Rattle.std.specs.Prelude.{Bool, ◌||◌, not, List, ℕ, eqb, get_or}
use Rattle.rules.specs.Below.{all_below, list_below}
use Rattle.rules.specs.Shape.{most}
use Rattle.rules.specs.WellFormed.{Blocks}

-- the number of each block
abbrev pub numbers_in : Blocks → List ℕ
numbers_in c = list_below most (λ j. (c j).number)

-- Number i is 0, or another than each below it.
abbrev pub apart_below : List ℕ → ℕ → Bool
apart_below own i = eqb (get_or own i 0) 0 || all_below i (λ j. not (eqb (get_or own j 0) (get_or own i 0)))

-- What the passes over the records collect, each after the first n records.
use Rattle.std.specs.Prelude.{◌≡◌, ◌&&◌, not, List, ℕ, ◌<◌, ◌≤◌, ltb, eqb, ◌⊎◌}
use Rattle.rules.specs.declared.shape.Shape.{Shape}
use Rattle.rules.specs.declared.block.State.TheVariants.{Bad}
use Rattle.rules.specs.Below.{all_below, count_below, highest_below, first_below, lowest_below, list_below, none, found}
use Rattle.rules.specs.Shape.{most}
use Rattle.rules.specs.WellFormed.{Blocks, not_used, is_good, is_free, is_ill, is_used, data_number, is_data, is_live, is_obsolete}
use Rattle.roles.specs.declared.census.Census.{Census}
use Rattle.roles.specs.declared.seats.Seats.{Seats}

-- a used block has a number above 0, any other has 0
abbrev pub Numbered : Blocks → Type 0
Numbered c = (j : ℕ) → is_used (c j).state ≡ ltb 0 (c j).number

-- the records of a card that has the good blocks it needs: L is below B then, so that an array has room for a number of each logical block
pub record Recorded (s : Shape) (c : Blocks) : Type 0 where
  pub few : s.blocks ≤ most
  pub small : (j : ℕ) → (c j).logical < most
  pub outside : (j : ℕ) → s.blocks ≤ j → c j ≡ not_used Bad
  pub fits : (j : ℕ) → (c j).filled ≤ s.pages
  pub numbered : Numbered c

-- the number of each logical block's data block, 0 for none
abbrev pub numbers_of : Shape → Blocks → List ℕ
numbers_of s c = list_below most (data_number s c)

-- what every function over the records asks for: such records, and those numbers
pub record Numbers (s : Shape) (c : Blocks) (numbers : List ℕ) : Type 0 where
  pub recorded : Recorded s c
  pub numbers_are : numbers ≡ numbers_of s c

-- ---- what one pass counts and finds

abbrev pub good_to : Blocks → ℕ → ℕ
good_to c n = count_below n (λ j. is_good (c j).state)

unfoldable pub eldest_to : Shape → Blocks → ℕ → ℕ
eldest_to s c n = lowest_below n (is_live s c) (λ j. (c j).number)

unfoldable pub census_to : Shape → Blocks → ℕ → Census
census_to s c n =
    record {
      sound = all_below n (λ j. not (is_ill (c j).state));
      live = count_below n (is_live s c);
      recovered = all_below n (λ j. not (is_obsolete s c j));
      highest = highest_below n (λ j. (c j).number);
      free = found (first_below n (λ j. is_free (c j).state));
      eldest = found (eldest_to s c n);
    }

abbrev pub census : Shape → Blocks → Census
census s c = census_to s c s.blocks

-- t is theirs
abbrev pub IsCensus : Shape → Blocks → Census → Type 0
IsCensus s c t = t ≡ census s c

-- ---- the blocks of one logical block

unfoldable pub seats_to : Shape → Blocks → ℕ → ℕ → Seats
seats_to s c l n =
    record {
      «data» = found (first_below n (λ j. is_data s c j && eqb (c j).logical l));
      log = found (first_below n (λ j. is_live s c j && eqb (c j).logical l));
    }

abbrev pub seats : Shape → Blocks → ℕ → Seats
seats s c l = seats_to s c l s.blocks

-- as each of the two is: a block of the card, or none
abbrev pub BlockOrNone : Shape → ℕ → Type 0
BlockOrNone s b = (b < s.blocks) ⊎ (b ≡ none)

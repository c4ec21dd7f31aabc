-- What is read of each block of a card, and what format asks of it.
use Rattle.std.specs.Prelude.{◌≡◌, cond, ℕ, ◌<◌, ltb}
use Rattle.rules.specs.declared.shape.Shape.{Shape}
use Rattle.rules.specs.declared.block.State.{State}
use Rattle.rules.specs.declared.block.State.TheVariants.{Bad, Free, Ill}
use Rattle.rules.specs.declared.block.Block.{Block}
use Rattle.rules.specs.Page.{Image}
use Rattle.rules.specs.WellFormed.{Blocks, not_used, all_erased, is_bad, pages_of}

-- Of each block below n, c is what is read.
abbrev pub Reads : (ℕ → Block → Type 0) → ℕ → Blocks → Type 0
Reads told n c = (b : ℕ) (x : Block) → b < n → told b x → x ≡ c b

-- c below n, and what is no block of the card counts as bad
abbrev pub of_card : ℕ → Blocks → Blocks
of_card n c j = cond (ltb j n) (c j) (not_used Bad)

-- bad, free, or in use. No rule is looked at, so that one in use stands as ill.
abbrev pub use_at : Shape → Image → ℕ → State
use_at s im b = cond (is_bad s im b) Bad (cond (all_erased s (pages_of s im b)) Free Ill)

abbrev pub uses_of : Shape → Image → Blocks
uses_of s im j = not_used (cond (ltb j s.blocks) (use_at s im j) Bad)

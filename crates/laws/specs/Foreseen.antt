-- What steps will leave, told by the records before them: the tests that the code makes ahead.
use Rattle.std.specs.Prelude.{Bool, ◌&&◌, ◌||◌, not, ℕ, ◌+◌, eqb}
use Rattle.rules.specs.declared.shape.Shape.{Shape}
use Rattle.rules.specs.declared.block.Block.{Block}
use Rattle.rules.specs.Shape.{offset_of}
use Rattle.rules.specs.WellFormed.{Blocks, is_free}

-- logical page a, programmed next, makes the log block with record x complete: all but one page are there in order, and a has the last offset
abbrev pub completes : Shape → Block → ℕ → Bool
completes s x a = eqb (x.filled + 1) s.pages && (x.ordered && eqb (offset_of s a) x.filled)

-- after a merge into block f, block j is free: it was the log block v or the data block d, or it was free
abbrev pub free_then : Blocks → ℕ → ℕ → ℕ → ℕ → Bool
free_then c f v d j = not (eqb j f) && (eqb j v || eqb j d || is_free (c j).state)

-- The content of a logical page, and the flash page that holds it.
use Rattle.std.specs.Prelude.{cond, Option, Some, None, List, ℕ, zero, suc, eqb, replicate}
use Rattle.rules.specs.declared.shape.Shape.{Shape}
use Rattle.rules.specs.Below.{is_none}
use Rattle.rules.specs.Spare.{address_in}
use Rattle.rules.specs.Shape.{page_no, block_of, offset_of}
use Rattle.rules.specs.Page.{Image, page_bytes, page_spare}
use Rattle.rules.specs.WellFormed.{Blocks, data_block, live_log}

-- p, or q where there is no p
abbrev pub or_else : Option ℕ → Option ℕ → Option ℕ
or_else (Some p) q = Some p
or_else None q = q

-- the copy of offset o among the first n pages of block b, searched from the last backwards
unfoldable pub newest : Shape → Image → ℕ → ℕ → ℕ → Option ℕ
newest s im b o zero = None
newest s im b o (suc i) =
    cond (eqb (offset_of s (address_in (page_spare im (page_no s b i)))) o) (Some (page_no s b i)) (newest s im b o i)

-- In the live log block, the copy searched from the last programmed page backwards; ..
unfoldable pub in_log : Shape → Image → Blocks → ℕ → Option ℕ
in_log s im c a = newest s im (live_log s c (block_of s a)) (offset_of s a) (c (live_log s c (block_of s a))).filled

-- .. else the page at its offset in the data block; ..
unfoldable pub in_data : Shape → Blocks → ℕ → Option ℕ
in_data s c a =
    cond (is_none (data_block s c (block_of s a))) None (Some (page_no s (data_block s c (block_of s a)) (offset_of s a)))

-- the flash page that holds logical page a
unfoldable pub holder : Shape → Image → Blocks → ℕ → Option ℕ
holder s im c a = or_else (in_log s im c a) (in_data s c a)

-- .. else 512 bytes of 255.
abbrev pub bytes_at : Image → Option ℕ → List ℕ
bytes_at im (Some p) = page_bytes im p
bytes_at im None = replicate 512 255

unfoldable pub content : Shape → Image → Blocks → ℕ → List ℕ
content s im c a = bytes_at im (holder s im c a)

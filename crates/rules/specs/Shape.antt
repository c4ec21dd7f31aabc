-- The shape of a card: P pages per block, B blocks, L logical blocks, K log blocks at most.
use Rattle.std.specs.Prelude.{Bool, ◌&&◌, ℕ, ◌+◌, ◌*◌, ◌/◌, ◌%◌, leb, ltb, eqb}
use Rattle.rules.specs.declared.shape.Shape.{Shape}

-- P, L and K as given, and as many whole blocks as the data image holds
abbrev pub shape_of : ℕ → ℕ → ℕ → ℕ → Shape
shape_of P L K bytes = record { pages = P; blocks = bytes / 512 / P; logical = L; logs = K }

-- the most blocks that a card may have; the code has room for so many records
abbrev pub most : ℕ
most = 64

-- P 2 to 32, B 3 to 64, L and K at least 1; both images have B x P pages.
unfoldable pub within_limits : Shape → ℕ → ℕ → Bool
within_limits s bytes spares =
    leb 2 s.pages && leb s.pages 32
    && leb 3 s.blocks && leb s.blocks most
    && leb 1 s.logical
    && leb 1 s.logs
    && eqb bytes (s.blocks * s.pages * 512)
    && eqb spares (s.blocks * s.pages * 16)

-- page i of block b, numbered through the chip
abbrev pub page_no : Shape → ℕ → ℕ → ℕ
page_no s b i = b * s.pages + i

-- Logical page a belongs to logical block a / P, at offset a mod P.
abbrev pub block_of : Shape → ℕ → ℕ
block_of s a = a / s.pages

abbrev pub offset_of : Shape → ℕ → ℕ
offset_of s a = a % s.pages

abbrev pub logical_page : Shape → ℕ → ℕ → ℕ
logical_page s l o = l * s.pages + o

-- a is 0 to L x P - 1.
abbrev pub in_range : Shape → ℕ → Bool
in_range s a = ltb a (s.logical * s.pages)

-- the good blocks that a card must have: L + K + 1
abbrev pub good_needed : Shape → ℕ
good_needed s = s.logical + s.logs + 1

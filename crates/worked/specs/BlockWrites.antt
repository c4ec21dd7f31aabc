-- Block writes of a small card: each set of blocks that a logical block may have, each cut, each refusal and their order.
use Rattle.std.specs.Prelude.{List, [], ◌∷◌, ◌++◌, ℕ, replicate}
use Rattle.worked.specs.Rows.{Mark, spare_is, log, copy, Start, left, chip, Call, power_up, block_write, Did, p, e, Look, reads, bytes, spare, table, filled, unchanged, Row}

-- P, then L 2 and K 1; B is 4. Page p holds 512 bytes 100 + p where it is marked. A cut number of 9 cuts nothing.
abbrev row_of : ℕ → Start → Call → ℕ → ℕ → ℕ → List Did → List Look → Row
row_of P s c a n m d l =
    record { given = record { P = P; L = 2; K = 1 }; start = s; call = c; answer = a; programs = n; erases = m; did = d; looks = l }

abbrev row : Start → Call → ℕ → ℕ → ℕ → List Did → List Look → Row
row = row_of 3

-- logical block 0: a data block of number 5 in block 0
abbrev base : List Mark
base = copy 0 5 0 ∷ copy 1 5 1 ∷ copy 2 5 2 ∷ []

-- and a log block with page 1 in block 1; logical block 1: a data block in block 2
abbrev both : List Mark
both = base ++ (log 3 6 1 ∷ copy 6 4 3 ∷ copy 7 4 4 ∷ copy 8 4 5 ∷ [])

-- what logical block 0 reads as before and after, and logical block 1 always
abbrev other : List Look
other = reads 3 106 ∷ reads 5 108 ∷ []

abbrev old : List Look
old = reads 0 100 ∷ reads 1 103 ∷ reads 2 102 ∷ other

abbrev new : List Look
new = reads 0 11 ∷ reads 1 12 ∷ reads 2 13 ∷ other

-- a block write of logical block l with three pages: of bytes 11, of 12, of 13
abbrev load : ℕ → ℕ → Call
load l cut = block_write l 1536 11 cut

-- it answers a, and changes nothing
abbrev refused : List Mark → ℕ → ℕ → ℕ → Row
refused marks l size a = row (chip 3 4 marks) (block_write l size 11 9) a 0 0 [] (unchanged ∷ [])

abbrev pub block_writes : List Row
block_writes =
    -- with log and data block: P programs in order, then the log block goes and then the data block
    row (chip 3 4 both) (load 0 5) 0 3 2 (p 9 ∷ p 10 ∷ p 11 ∷ e 1 ∷ e 0 ∷ [])
    (new ++ (bytes 9 11 ∷ bytes 11 13 ∷ spare 9 (7 ∷ 0 ∷ 0 ∷ 0 ∷ 15 ∷ 255 ∷ 0 ∷ 0 ∷ []) ∷ spare 11 (7 ∷ 0 ∷ 0 ∷ 0 ∷ 15 ∷ 255 ∷ 2 ∷ 0 ∷ [])
    ∷ spare 3 (replicate 8 255) ∷ spare 0 (replicate 8 255) ∷ table (3 ∷ 65535 ∷ 2 ∷ 65535 ∷ []) ∷ []))
    -- each cut of it: the old content up to the last program, and the new one from there, also after power-up
    ∷ row (chip 3 4 both) (load 0 0) 8 0 0 [] (unchanged ∷ old)
    ∷ row (chip 3 4 both) (load 0 1) 8 1 0 (p 9 ∷ []) old
    ∷ row (chip 3 4 both) (load 0 2) 8 2 0 (p 9 ∷ p 10 ∷ []) old
    ∷ row (left 0) (power_up 4 9) 0 0 1 (e 3 ∷ []) (filled (0 ∷ 1 ∷ 2 ∷ 65535 ∷ []) ∷ old)
    ∷ row (chip 3 4 both) (load 0 3) 8 3 0 (p 9 ∷ p 10 ∷ p 11 ∷ []) new
    ∷ row (left 0) (power_up 4 9) 0 0 2 (e 0 ∷ e 1 ∷ []) (filled (3 ∷ 65535 ∷ 2 ∷ 65535 ∷ []) ∷ new)
    ∷ row (chip 3 4 both) (load 0 4) 8 3 1 (p 9 ∷ p 10 ∷ p 11 ∷ e 1 ∷ []) (spare 2 (5 ∷ 0 ∷ 0 ∷ 0 ∷ 15 ∷ 255 ∷ 2 ∷ 0 ∷ []) ∷ new)
    ∷ row (left 0) (power_up 4 9) 0 0 1 (e 0 ∷ []) new
    -- with a data block only, with a log block only
    ∷ row (chip 3 4 base) (load 0 9) 0 3 1 (p 3 ∷ p 4 ∷ p 5 ∷ e 0 ∷ []) (reads 0 11 ∷ reads 2 13 ∷ [])
    ∷ row (chip 3 4 (log 0 1 2 ∷ [])) (load 0 9) 0 3 1 (p 3 ∷ p 4 ∷ p 5 ∷ e 0 ∷ []) (reads 0 11 ∷ reads 2 13 ∷ [])
    -- with neither: number 1 on an empty card; and beside K live log blocks, none of which is merged
    ∷ row (chip 3 4 []) (load 1 9) 0 3 0 (p 0 ∷ p 1 ∷ p 2 ∷ []) (reads 3 11 ∷ reads 5 13 ∷ reads 0 255 ∷ spare 1 (1 ∷ 0 ∷ 0 ∷ 0 ∷ 15 ∷ 255 ∷ 4 ∷ 0 ∷ []) ∷ [])
    ∷ row (chip 3 4 (log 0 1 2 ∷ log 1 1 0 ∷ log 2 1 0 ∷ [])) (load 1 9) 0 3 0 (p 3 ∷ p 4 ∷ p 5 ∷ []) (reads 0 102 ∷ reads 2 100 ∷ reads 4 12 ∷ table (65535 ∷ 0 ∷ 1 ∷ 65535 ∷ []) ∷ [])
    -- 2: a buffer of P x 512 - 1, + 1, none; 3: l = L, and the highest that there is
    ∷ refused both 0 1535 2
    ∷ refused both 0 1537 2
    ∷ refused both 0 0 2
    ∷ refused both 2 1536 3
    ∷ refused both 18446744073709551615 1536 3
    -- 6: an obsolete block, here a log block older than the data block
    ∷ refused (base ++ (log 3 4 1 ∷ [])) 0 1536 6
    -- 7: the last number is taken, and then none is left
    ∷ row (chip 3 4 (log 0 4294967293 0 ∷ [])) (load 1 9) 0 3 0 (p 3 ∷ p 4 ∷ p 5 ∷ []) (spare 3 (254 ∷ 255 ∷ 255 ∷ 255 ∷ 15 ∷ 255 ∷ 3 ∷ 0 ∷ []) ∷ [])
    ∷ row (left 0) (load 1 0) 7 0 0 [] (unchanged ∷ [])
    -- the order of the refusals: 6 before 7, 5 before 6, 4 before 5, 3 before 4, 2 before 3, 1 before 2
    ∷ refused (log 0 4294967294 0 ∷ copy 3 1 3 ∷ []) 0 1536 6
    ∷ refused (log 0 1 0 ∷ log 3 2 3 ∷ copy 6 3 3 ∷ []) 0 1536 5
    ∷ refused (log 0 1 0 ∷ log 3 2 3 ∷ spare_is 9 5 0 ∷ []) 0 1536 4
    ∷ refused (spare_is 9 5 0 ∷ []) 2 1536 3
    ∷ refused both 2 1535 2
    ∷ row_of 0 (chip 3 4 both) (block_write 2 1535 11 9) 1 0 0 [] (unchanged ∷ [])
    ∷ []

-- A small card worked through, of document 01: cases 1 to 9, whole.
use Rattle.std.specs.Prelude.{List, [], ◌∷◌, ℕ, replicate}
use Rattle.worked.specs.Rows.{Start, left, chip, Call, format, power_up, read, write, Did, p, e, Look, reads, bytes, spare, table, lent, unlent, lends, got, filled, unchanged, Row}

-- P 4, L 2, K 1; B is 4. A cut number of 9 cuts nothing.
abbrev row : Start → Call → ℕ → ℕ → ℕ → List Did → List Look → Row
row s c a n m d l =
    record { given = record { P = 4; L = 2; K = 1 }; start = s; call = c; answer = a; programs = n; erases = m; did = d; looks = l }

-- the first eight spare bytes
abbrev log : ℕ → ℕ → List ℕ
log n a = n ∷ 0 ∷ 0 ∷ 0 ∷ 240 ∷ 255 ∷ a ∷ 0 ∷ []

abbrev copy : ℕ → ℕ → List ℕ
copy n a = n ∷ 0 ∷ 0 ∷ 0 ∷ 15 ∷ 255 ∷ a ∷ 0 ∷ []

abbrev erased : List ℕ
erased = replicate 8 255

abbrev pub cases : List Row
cases =
    -- 1 [P]: format of 4 free blocks; read of page 3
    row (chip 4 4 []) (format 9) 0 0 0 [] (unchanged ∷ reads 3 255 ∷ unlent 3 ∷ lends 3 [] ∷ [])
    -- 2 [P]: write page 1
    ∷ row (left 0) (write 1 512 11 9) 0 1 0 (p 0 ∷ []) (spare 0 (log 1 1) ∷ bytes 0 11 ∷ [])
    -- 3 [P]: then writes of 0, 1, 2; read of 1 gives the third write, from block 0 page 2
    ∷ row (left 0) (write 0 512 12 9) 0 1 0 (p 1 ∷ []) []
    ∷ row (left 0) (write 1 512 13 9) 0 1 0 (p 2 ∷ []) []
    ∷ row (left 0) (write 2 512 14 9) 0 1 0 (p 3 ∷ []) (reads 1 13 ∷ lent 1 2 ∷ lends 1 (replicate 512 13) ∷ [])
    -- 4 [P]: write page 3
    ∷ row (left 0) (write 3 512 15 9) 0 5 1 (p 4 ∷ p 5 ∷ p 6 ∷ p 7 ∷ e 0 ∷ p 0 ∷ [])
    (spare 4 (copy 2 0) ∷ spare 7 (copy 2 3) ∷ bytes 5 13 ∷ bytes 7 255 ∷ spare 0 (log 3 3) ∷ spare 1 erased ∷ reads 0 12 ∷ reads 3 15 ∷ [])
    -- 6 [P]: case 5 cut at 0
    ∷ row (left 0) (write 4 512 16 0) 8 0 0 [] (unchanged ∷ reads 4 255 ∷ [])
    -- cut at 1, 2 or 3: power-up erases block 2
    ∷ row (left 1) (write 4 512 16 1) 8 1 0 (p 8 ∷ []) (reads 4 255 ∷ [])
    ∷ row (left 0) (power_up 4 9) 0 0 1 (e 2 ∷ []) (reads 4 255 ∷ [])
    ∷ row (left 3) (write 4 512 16 2) 8 2 0 (p 8 ∷ p 9 ∷ []) (reads 4 255 ∷ [])
    ∷ row (left 0) (power_up 4 9) 0 0 1 (e 2 ∷ []) (reads 4 255 ∷ [])
    ∷ row (left 5) (write 4 512 16 3) 8 3 0 (p 8 ∷ p 9 ∷ p 10 ∷ []) (reads 4 255 ∷ reads 3 15 ∷ [])
    ∷ row (left 0) (power_up 4 9) 0 0 1 (e 2 ∷ []) (reads 4 255 ∷ spare 8 erased ∷ [])
    -- [P] at 4: it erases 0 and 1
    ∷ row (left 7) (write 4 512 16 4) 8 4 0 (p 8 ∷ p 9 ∷ p 10 ∷ p 11 ∷ []) (reads 4 255 ∷ reads 3 15 ∷ [])
    ∷ row (left 0) (power_up 4 9) 0 0 2 (e 0 ∷ e 1 ∷ []) (filled (2 ∷ 65535 ∷ 65535 ∷ 65535 ∷ []) ∷ reads 4 255 ∷ reads 1 13 ∷ [])
    -- [P] at 5: it erases 1
    ∷ row (left 9) (write 4 512 16 5) 8 4 1 (p 8 ∷ p 9 ∷ p 10 ∷ p 11 ∷ e 0 ∷ []) (reads 4 255 ∷ spare 4 (copy 2 0) ∷ [])
    ∷ row (left 0) (power_up 4 9) 0 0 1 (e 1 ∷ []) (reads 4 255 ∷ [])
    -- at 6: nothing to erase
    ∷ row (left 11) (write 4 512 16 6) 8 4 2 (p 8 ∷ p 9 ∷ p 10 ∷ p 11 ∷ e 0 ∷ e 1 ∷ []) (reads 4 255 ∷ [])
    ∷ row (left 0) (power_up 4 9) 0 0 0 [] (unchanged ∷ reads 4 255 ∷ [])
    -- at 7: answer 0
    ∷ row (left 13) (write 4 512 16 7) 0 5 2 (p 8 ∷ p 9 ∷ p 10 ∷ p 11 ∷ e 0 ∷ e 1 ∷ p 0 ∷ []) (reads 4 16 ∷ [])
    -- 5 [P]: write page 4
    ∷ row (left 14) (write 4 512 16 9) 0 5 2 (p 8 ∷ p 9 ∷ p 10 ∷ p 11 ∷ e 0 ∷ e 1 ∷ p 0 ∷ [])
    (spare 8 (copy 4 0) ∷ spare 0 (log 5 4) ∷ reads 4 16 ∷ reads 3 15 ∷ table (2 ∷ 65535 ∷ 65535 ∷ 0 ∷ []) ∷ [])
    -- 7 [P]: writes of 5, 6, 7 complete block 0, no erase
    ∷ row (left 0) (write 5 512 17 9) 0 1 0 (p 1 ∷ []) []
    ∷ row (left 0) (write 6 512 18 9) 0 1 0 (p 2 ∷ []) []
    ∷ row (left 0) (write 7 512 19 9) 0 1 0 (p 3 ∷ []) (table (2 ∷ 65535 ∷ 0 ∷ 65535 ∷ []) ∷ lent 7 3 ∷ [])
    -- 8 [P]: then 4, 5, 6, 7 again go to block 1 (number 6); the last erases block 0
    ∷ row (left 0) (write 4 512 20 9) 0 1 0 (p 4 ∷ []) (spare 4 (log 6 4) ∷ lent 4 4 ∷ lent 5 1 ∷ [])
    ∷ row (left 0) (write 5 512 21 9) 0 1 0 (p 5 ∷ []) []
    ∷ row (left 0) (write 6 512 22 9) 0 1 0 (p 6 ∷ []) []
    ∷ row (left 0) (write 7 512 23 9) 0 1 1 (p 7 ∷ e 0 ∷ []) (reads 4 20 ∷ reads 7 23 ∷ spare 0 erased ∷ [])
    -- 9 [P]: page 7 is in range, page 8 answers 3; page 8 with a 511-byte buffer answers 2
    ∷ row (left 0) (read 7 512) 0 0 0 [] (got 23 ∷ [])
    ∷ row (left 0) (read 8 512) 3 0 0 [] (got 7 ∷ unlent 8 ∷ [])
    ∷ row (left 0) (read 8 511) 2 0 0 [] (got 7 ∷ [])
    ∷ row (left 0) (write 8 512 24 9) 3 0 0 [] (unchanged ∷ [])
    ∷ row (left 0) (write 8 511 24 9) 2 0 0 [] (unchanged ∷ [])
    ∷ []

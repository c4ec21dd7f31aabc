-- What document 01's own cases leave unseen: each of W1 to W7 broken, each role, each refusal and their order.
use Rattle.std.specs.Prelude.{List, [], ◌∷◌, ◌++◌, ℕ}
use Rattle.worked.specs.Rows.{Mark, entry, spare_is, data_is, log, copy, Start, left, chip, plain, Call, format, power_up, read, write, Did, p, e, Look, reads, bytes, spare, table, lent, unlent, got, filled, unchanged, Row}

-- P 2, L 2; K 1 and B 4, or K 2 and B 5. Page p holds 512 bytes 100 + p where it is marked. A cut number of 9 cuts nothing.
abbrev row : ℕ → Start → Call → ℕ → ℕ → ℕ → List Did → List Look → Row
row K s c a n m d l =
    record { given = record { P = 2; L = 2; K = K }; start = s; call = c; answer = a; programs = n; erases = m; did = d; looks = l }

-- a read of page 0 answers a
abbrev answers_at : ℕ → ℕ → ℕ → ℕ → List Mark → Row
answers_at P K B a marks =
    record { given = record { P = P; L = 2; K = K }; start = chip P B marks; call = read 0 512; answer = a; programs = 0; erases = 0; did = []; looks = [] }

abbrev answers : ℕ → ℕ → ℕ → List Mark → Row
answers = answers_at 2

-- a read of page 0 on n pages of bytes v, whose spare image is of m pages, answers a
abbrev lengths : ℕ → ℕ → ℕ → ℕ → ℕ → ℕ → ℕ → Row
lengths v P L K n m a =
    record { given = record { P = P; L = L; K = K }; start = plain v n m; call = read 0 512; answer = a; programs = 0; erases = 0; did = []; looks = [] }

abbrev shaped : ℕ → ℕ → ℕ → ℕ → ℕ → Row
shaped P L K n a = lengths 255 P L K n n a

-- n pages of which every block is bad: 4 within the limits
abbrev all_bad : ℕ → ℕ → ℕ → Row
all_bad P n a = lengths 0 P 1 1 n n a

-- logical block 0: a data block of number 5 in block 0
abbrev base : List Mark
base = copy 0 5 0 ∷ copy 1 5 1 ∷ []

-- block 0 is a log block; block 1, else the data block of logical block 1, is bad by page 1
abbrev second_mark : Start
second_mark = chip 2 5 (log 0 1 0 ∷ copy 2 7 2 ∷ copy 3 7 3 ∷ spare_is 3 5 0 ∷ [])

abbrev top : ℕ
top = 4294967294

abbrev pub rules : List Row
rules =
    -- bad by a mark on page 0, on page 1, on both: 4, where 4 good blocks are needed; not by one on page 2: 5
    answers 1 4 4 (spare_is 6 5 0 ∷ [])
    ∷ answers 1 4 4 (spare_is 7 5 254 ∷ [])
    ∷ answers 1 4 4 (spare_is 6 5 127 ∷ spare_is 7 5 0 ∷ [])
    ∷ answers_at 4 1 4 5 (spare_is 2 5 0 ∷ [])
    -- what stands in a bad block counts for nothing: neither its address nor its number, and it is not taken; format and power-up leave it alone
    ∷ row 1 second_mark (read 2 512) 0 0 0 [] (got 255 ∷ unlent 2 ∷ reads 0 100 ∷ [])
    ∷ row 1 second_mark (write 2 512 9 9) 0 3 1 (p 4 ∷ p 5 ∷ e 0 ∷ p 0 ∷ []) (reads 2 9 ∷ spare 0 (3 ∷ 0 ∷ 0 ∷ 0 ∷ 240 ∷ 255 ∷ 2 ∷ 0 ∷ []) ∷ spare 2 (7 ∷ 0 ∷ 0 ∷ 0 ∷ 15 ∷ 255 ∷ 2 ∷ 0 ∷ []) ∷ [])
    ∷ row 1 second_mark (power_up 4 9) 0 0 0 [] (unchanged ∷ table (65535 ∷ 0 ∷ 65535 ∷ 65535 ∷ []) ∷ [])
    ∷ row 1 second_mark (format 9) 0 0 1 (e 0 ∷ []) (bytes 2 102 ∷ spare 3 (7 ∷ 0 ∷ 0 ∷ 0 ∷ 15 ∷ 0 ∷ 3 ∷ 0 ∷ []) ∷ [])
    -- W1: a gap at page 0, and one after it
    ∷ answers 1 4 5 (log 1 1 0 ∷ [])
    ∷ answers_at 4 1 4 5 (log 0 1 0 ∷ log 2 1 1 ∷ [])
    -- W2: a kind that is neither; numbers 0 and 4,294,967,295; the last eight bytes; the status of a third page; two kinds; two numbers
    ∷ answers 1 4 5 (entry 0 1 7 0 ∷ [])
    ∷ answers 1 4 5 (log 0 0 0 ∷ [])
    ∷ answers 1 4 5 (log 0 4294967295 0 ∷ [])
    ∷ answers 1 4 0 (log 0 top 0 ∷ [])
    ∷ answers 1 4 5 (log 0 1 0 ∷ spare_is 0 8 0 ∷ [])
    ∷ answers 1 4 5 (spare_is 0 15 0 ∷ [])
    ∷ answers_at 4 1 4 5 (log 0 1 0 ∷ log 1 1 1 ∷ log 2 1 2 ∷ spare_is 2 5 0 ∷ [])
    ∷ answers 1 4 5 (log 0 1 0 ∷ copy 1 1 1 ∷ [])
    ∷ answers 1 4 5 (log 0 1 0 ∷ log 1 2 1 ∷ [])
    -- a page with blank spare bytes is erased only if its data bytes are so too, from the first to the last; format erases its block
    ∷ answers 1 4 5 (data_is 0 0 0 ∷ [])
    ∷ answers 1 4 5 (data_is 0 511 254 ∷ [])
    ∷ row 1 (chip 2 4 (data_is 2 0 254 ∷ data_is 7 511 0 ∷ [])) (format 9) 0 0 2 (e 1 ∷ e 3 ∷ []) (bytes 2 255 ∷ bytes 7 255 ∷ [])
    -- W3: page 4 is out of range; two logical blocks
    ∷ answers 1 4 5 (log 0 1 4 ∷ [])
    ∷ answers 1 4 0 (log 0 1 3 ∷ [])
    ∷ answers 1 4 5 (log 0 1 1 ∷ log 1 1 2 ∷ [])
    -- W4: a copy out of order; a log may be so
    ∷ answers 1 4 5 (copy 0 1 1 ∷ [])
    ∷ answers 1 4 5 (copy 0 1 0 ∷ copy 1 1 0 ∷ [])
    ∷ answers 1 4 0 (log 0 1 1 ∷ log 1 1 0 ∷ [])
    -- W5: one number in two used blocks, obsolete ones too, bad ones not
    ∷ answers 2 5 5 (log 0 1 0 ∷ log 2 1 2 ∷ [])
    ∷ answers 1 4 5 (log 0 1 0 ∷ copy 2 1 2 ∷ [])
    ∷ answers 1 5 0 (log 0 1 0 ∷ copy 2 1 2 ∷ spare_is 2 5 0 ∷ [])
    ∷ answers 1 5 0 (log 0 1 0 ∷ copy 2 1 2 ∷ spare_is 3 5 0 ∷ [])
    -- W6: two live log blocks of one logical block
    ∷ answers 2 5 5 (log 0 1 0 ∷ log 2 2 1 ∷ [])
    -- W7: two live log blocks, K 1 and K 2
    ∷ answers 1 4 5 (log 0 1 0 ∷ log 2 2 2 ∷ [])
    ∷ answers 2 5 0 (log 0 1 0 ∷ log 2 2 2 ∷ [])
    -- of two complete blocks the one with the highest number is the data block, whatever its kind; the other is obsolete
    ∷ row 1 (chip 2 4 (base ++ (log 2 6 0 ∷ log 3 6 1 ∷ []))) (write 0 512 1 9) 6 0 0 [] (unchanged ∷ reads 1 103 ∷ lent 0 2 ∷ [])
    ∷ row 1 (left 0) (power_up 4 9) 0 0 1 (e 0 ∷ []) (table (1 ∷ 65535 ∷ 65535 ∷ 65535 ∷ []) ∷ spare 0 (255 ∷ 255 ∷ 255 ∷ 255 ∷ 255 ∷ 255 ∷ 255 ∷ 255 ∷ []) ∷ [])
    -- a log block with a higher number than the data block is live, one with a lower number is obsolete
    ∷ row 1 (chip 2 4 (base ++ (log 2 6 1 ∷ []))) (power_up 4 9) 0 0 0 [] (table (0 ∷ 1 ∷ 65535 ∷ 65535 ∷ []) ∷ reads 0 100 ∷ reads 1 102 ∷ [])
    ∷ row 1 (chip 2 4 (base ++ (log 2 4 1 ∷ []))) (power_up 4 9) 0 0 1 (e 1 ∷ []) (table (0 ∷ 65535 ∷ 65535 ∷ 65535 ∷ []) ∷ reads 1 101 ∷ [])
    -- the list of power-up ascends; the cut leaves its first steps and fills no table
    ∷ row 1 (chip 2 4 (base ++ (copy 2 6 2 ∷ log 4 4 1 ∷ []))) (power_up 4 9) 0 0 2 (e 1 ∷ e 2 ∷ []) []
    ∷ row 1 (chip 2 4 (base ++ (copy 2 6 2 ∷ log 4 4 1 ∷ []))) (power_up 4 1) 8 0 1 (e 1 ∷ []) (filled (7 ∷ 7 ∷ 7 ∷ 7 ∷ []) ∷ [])
    -- format erases each good block that is not free, ill ones too, and no bad one
    ∷ row 1 (chip 2 5 (log 2 1 0 ∷ spare_is 5 9 0 ∷ log 6 1 0 ∷ spare_is 6 5 0 ∷ [])) (format 9) 0 0 2 (e 1 ∷ e 2 ∷ []) (spare 6 (1 ∷ 0 ∷ 0 ∷ 0 ∷ 240 ∷ 0 ∷ 0 ∷ 0 ∷ []) ∷ [])
    ∷ row 1 (chip 2 5 (log 2 1 0 ∷ spare_is 5 9 0 ∷ log 6 1 0 ∷ spare_is 6 5 0 ∷ [])) (format 1) 8 0 1 (e 1 ∷ []) []
    -- K log blocks are live: the one with the lowest number is merged, into the lowest free block
    ∷ record {
      given = record { P = 2; L = 3; K = 2 };
      start = chip 2 6 (log 2 2 0 ∷ log 4 1 3 ∷ []);
      call = write 4 512 9 9;
      answer = 0;
      programs = 3;
      erases = 1;
      did = p 0 ∷ p 1 ∷ e 2 ∷ p 4 ∷ [];
      looks = reads 3 104 ∷ reads 2 255 ∷ reads 0 102 ∷ reads 4 9 ∷ spare 1 (3 ∷ 0 ∷ 0 ∷ 0 ∷ 15 ∷ 255 ∷ 3 ∷ 0 ∷ []) ∷ spare 4 (4 ∷ 0 ∷ 0 ∷ 0 ∷ 240 ∷ 255 ∷ 4 ∷ 0 ∷ []) ∷ [];
    }
    -- the number, low byte first, of a page that joins a log block
    ∷ row 1 (chip 2 4 (log 0 16909060 0 ∷ [])) (write 1 512 1 9) 0 1 0 (p 1 ∷ []) (spare 1 (4 ∷ 3 ∷ 2 ∷ 1 ∷ 240 ∷ 255 ∷ 1 ∷ 0 ∷ []) ∷ [])
    -- 7: new numbers needed, 0, 2 and 1
    ∷ row 1 (chip 2 4 (log 0 top 0 ∷ [])) (write 0 512 1 9) 0 1 0 (p 1 ∷ []) []
    ∷ row 1 (chip 2 4 (log 0 4294967293 0 ∷ [])) (write 2 512 1 0) 7 0 0 [] (unchanged ∷ [])
    ∷ row 1 (chip 2 4 (log 0 4294967292 0 ∷ [])) (write 2 512 1 0) 8 0 0 [] []
    ∷ row 2 (chip 2 5 (log 0 4294967293 0 ∷ [])) (write 2 512 1 9) 0 1 0 (p 2 ∷ []) []
    ∷ row 2 (chip 2 5 (log 0 top 0 ∷ [])) (write 2 512 1 0) 7 0 0 [] []
    -- the order of a write's refusals: 6 before 7, 5 before 6, 4 before 5, 3 before 4, 1 before 2 (2 before 3 is in case 9); ..
    ∷ row 1 (chip 2 4 (base ++ (log 2 top 0 ∷ log 3 top 1 ∷ []))) (write 2 512 1 0) 6 0 0 [] []
    ∷ row 1 (chip 2 4 (base ++ (log 2 6 0 ∷ log 3 6 1 ∷ log 4 6 2 ∷ []))) (write 2 512 1 9) 5 0 0 [] (unlent 0 ∷ [])
    ∷ row 1 (chip 2 4 (log 0 1 0 ∷ log 2 2 2 ∷ spare_is 6 5 0 ∷ [])) (write 0 512 1 9) 4 0 0 [] (unlent 0 ∷ [])
    ∷ row 1 (chip 2 4 (spare_is 6 5 0 ∷ [])) (write 4 512 1 9) 3 0 0 [] []
    ∷ row 0 (chip 2 4 []) (write 4 511 1 9) 1 0 0 [] []
    -- .. of a read's, 4 before 5, 3 before 4, 1 before 2; ..
    ∷ row 1 (chip 2 4 (log 0 1 0 ∷ log 2 2 2 ∷ spare_is 6 5 0 ∷ [])) (read 0 512) 4 0 0 [] []
    ∷ row 1 (chip 2 4 (spare_is 6 5 0 ∷ [])) (read 4 512) 3 0 0 [] []
    ∷ row 0 (chip 2 4 []) (read 0 511) 1 0 0 [] []
    -- .. of a power-up's, 5, 4 before 5, 2 before 4, 1 before 2; ..
    ∷ row 1 (chip 2 4 (log 0 1 0 ∷ log 2 2 2 ∷ [])) (power_up 4 9) 5 0 0 [] (filled (7 ∷ 7 ∷ 7 ∷ 7 ∷ []) ∷ [])
    ∷ row 1 (chip 2 4 (log 0 1 0 ∷ log 2 2 2 ∷ spare_is 6 5 0 ∷ [])) (power_up 4 9) 4 0 0 [] (filled (7 ∷ 7 ∷ 7 ∷ 7 ∷ []) ∷ [])
    ∷ row 1 (chip 2 4 (spare_is 6 5 0 ∷ [])) (power_up 3 9) 2 0 0 [] (filled (7 ∷ 7 ∷ 7 ∷ []) ∷ [])
    ∷ row 0 (chip 2 4 []) (power_up 3 9) 1 0 0 [] (filled (7 ∷ 7 ∷ 7 ∷ []) ∷ [])
    -- .. of a format's, 4, 1 before 4
    ∷ row 1 (chip 2 4 (spare_is 6 5 0 ∷ [])) (format 9) 4 0 0 [] (unchanged ∷ [])
    ∷ row 0 (chip 2 4 (spare_is 4 5 0 ∷ spare_is 6 5 0 ∷ [])) (format 9) 1 0 0 [] (unchanged ∷ [])
    -- 1: P 2 to 32, B 3 to 64, L and K at least 1, whole blocks
    ∷ shaped 2 1 1 6 0
    ∷ shaped 1 1 1 6 1
    ∷ shaped 0 1 1 6 1
    ∷ shaped 33 1 1 99 1
    ∷ shaped 2 1 1 5 1
    ∷ shaped 2 1 1 4 1
    ∷ shaped 2 0 1 6 1
    ∷ shaped 2 1 0 6 1
    ∷ all_bad 32 96 4
    ∷ all_bad 2 128 4
    ∷ all_bad 2 130 1
    -- a spare image of fewer pages, of more
    ∷ lengths 255 2 1 1 6 5 1
    ∷ lengths 255 2 1 1 6 8 1
    -- L has no upper limit: such a card has too few good blocks
    ∷ shaped 2 9223372036854775808 1 6 4
    ∷ []

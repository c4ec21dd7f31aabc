-- Lists of bytes.
use Rattle.std.specs.Prelude.{Bool, true, ◌&&◌, List, [], ◌∷◌, ◌++◌, ℕ, ◌+◌, eqb, get_or, take, drop}

unfoldable pub all255 : List ℕ → Bool
all255 [] = true
all255 (x ∷ xs) = eqb x 255 && all255 xs

-- byte i, 0 past the end
abbrev pub byte : List ℕ → ℕ → ℕ
byte xs i = get_or xs i 0

-- the n bytes from place at on
abbrev pub part : List ℕ → ℕ → ℕ → List ℕ
part xs at n = take n (drop at xs)

-- xs with the n bytes from place at on replaced by ys
unfoldable pub replaced : List ℕ → ℕ → ℕ → List ℕ → List ℕ
replaced xs at n ys = take at xs ++ (ys ++ drop (at + n) xs)

-- Tests, counts, searches and lists over the numbers below n, each by the length of the prefix, as a loop goes.
use Rattle.std.specs.Prelude.{Bool, true, ◌&&◌, cond, Option, Some, None, List, [], ◌∷◌, ◌++◌, ℕ, zero, suc, ◌+◌, max, ltb, eqb}

-- 65,535 stands for no block.
abbrev pub none : ℕ
none = 65535

abbrev pub is_none : ℕ → Bool
is_none b = eqb b none

-- a search's number as an option
abbrev pub found : ℕ → Option ℕ
found b = cond (is_none b) None (Some b)

-- "if any": block b alone, or no block
abbrev pub if_any : ℕ → List ℕ
if_any b = cond (is_none b) [] (b ∷ [])

unfoldable pub all_below : ℕ → (ℕ → Bool) → Bool
all_below zero p = true
all_below (suc n) p = all_below n p && p n

unfoldable pub count_below : ℕ → (ℕ → Bool) → ℕ
count_below zero p = 0
count_below (suc n) p = count_below n p + cond (p n) 1 0

-- the highest of f 0, .., f (n - 1), and 0 where n is 0
unfoldable pub highest_below : ℕ → (ℕ → ℕ) → ℕ
highest_below zero f = 0
highest_below (suc n) f = max (highest_below n f) (f n)

-- a, or b where a is none
abbrev pub or_none : ℕ → ℕ → ℕ
or_none a b = cond (is_none a) b a

-- the first that passes, or none
unfoldable pub first_below : ℕ → (ℕ → Bool) → ℕ
first_below zero p = none
first_below (suc n) p = or_none (first_below n p) (cond (p n) n none)

-- of a, if it is one, and b: the one with the lower f
abbrev pub lower_of : (ℕ → ℕ) → ℕ → ℕ → ℕ
lower_of f a b = cond (is_none a) b (cond (ltb (f b) (f a)) b a)

-- of those that pass, the one with the lowest f, or none
unfoldable pub lowest_below : ℕ → (ℕ → Bool) → (ℕ → ℕ) → ℕ
lowest_below zero p f = none
lowest_below (suc n) p f = cond (p n) (lower_of f (lowest_below n p f) n) (lowest_below n p f)

-- those that pass, ascending
unfoldable pub pick_below : ℕ → (ℕ → Bool) → List ℕ
pick_below zero p = []
pick_below (suc n) p = pick_below n p ++ cond (p n) (n ∷ []) []

-- f 0, .., f (n - 1)
unfoldable pub list_below : {A : Type 0} → ℕ → (ℕ → A) → List A
list_below zero f = []
list_below (suc n) f = list_below n f ++ (f n ∷ [])

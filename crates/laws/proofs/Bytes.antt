-- Laws of lists of bytes: all 255, a part, a part replaced.
use mathlib.Core.Path.{◌≡◌, refl, sym, ap, ◌∙◌}
use mathlib.Core.Bool.{Bool, true, false, ◌&&◌, and_assoc, and-true, and-false}
use mathlib.Core.List.{List, [], ◌∷◌, ◌++◌}
use Prim.Native.Nat.{ℕ, zero, suc, ◌+◌, ◌-◌, ◌*◌, ◌≤◌, ◌<◌}
use native.Mathlib.Nat.{add-mul, one-mul}
use native.Mathlib.Omega.{arith}
use lib.Dec.{T, eqb, eqb→eq}
use lib.ListN.{length, take, drop, replicate, length-append, length-take, length-drop, length-replicate, take-append-drop, replicate-append-replicate}
use lib.Seq.{take-add, drop-cons, drop-drop, length-take-le, take-append-le, drop-append-le, take_at, drop_at}
use Rattle.rules.specs.Bytes.{all255, byte, part, replaced}
use Rattle.laws.proofs.Tests.{and_l, and_r}

-- ---- a part that is lent

-- what a part lent as &xs[at..at + n] is
pub part_lent : (xs : List ℕ) (at n : ℕ) → take ((at + n) - at) (drop at xs) ≡ part xs at n
part_lent xs at n = let e : (at + n) - at ≡ n = omega arith in ap (λ (k : ℕ). take k (drop at xs)) e

-- ---- all255

pub all255_replicate : (n : ℕ) → all255 (replicate n 255) ≡ true
unfolding all255
all255_replicate zero = refl
all255_replicate (suc n) = all255_replicate n

-- several at a time: a list is all 255 where both its parts are, wherever it is parted
pub all255-append : (xs ys : List ℕ) → all255 (xs ++ ys) ≡ (all255 xs && all255 ys)
unfolding all255
all255-append [] ys = refl
all255-append (x ∷ xs) ys = ap (λ (b : Bool). eqb x 255 && b) (all255-append xs ys) ∙ sym (and_assoc (eqb x 255) (all255 xs) (all255 ys))

-- the first i and the n after them
pub all255_more : (xs : List ℕ) (i n : ℕ) → all255 (take (i + n) xs) ≡ (all255 (take i xs) && all255 (part xs i n))
all255_more xs i n = ap all255 (take-add i n xs) ∙ all255-append (take i xs) (part xs i n)

pub all255-none : (xs : List ℕ) → true ≡ all255 (take 0 xs)
unfolding all255
all255-none xs = refl

-- one at a time, as a loop goes
pub all255_turn : (xs : List ℕ) (i : ℕ) {t r : Bool} → i < length xs → t ≡ all255 (take i xs) → r ≡ (t && eqb (byte xs i) 255)
    → r ≡ all255 (take (i + 1) xs)
unfolding all255
all255_turn xs i h e f =
    let one : all255 (part xs i 1) ≡ eqb (byte xs i) 255 = rw (drop-cons xs i 0) (and-true (eqb (byte xs i) 255)) in
    f ∙ ap (λ (b : Bool). b && eqb (byte xs i) 255) e ∙ ap (λ (b : Bool). all255 (take i xs) && b) (sym one) ∙ sym (all255_more xs i 1)

-- group k of n bytes; r says whether it is all 255
module _ (xs : List ℕ) (n k : ℕ) {r : Bool} (told : r ≡ all255 (part xs (k * n) n)) where
  pub group_next : true ≡ all255 (take (k * n) xs) → r ≡ true → true ≡ all255 (take ((k + 1) * n) xs)
  group_next before here =
      let next : (k + 1) * n ≡ k * n + n = add-mul k 1 n ∙ ap (λ (m : ℕ). k * n + m) (one-mul n) in
      rw (next, all255_more xs (k * n) n, ← before, ← told, here) refl

  pub group_differs : r ≡ false → false ≡ all255 xs
  group_differs here =
      let m : ℕ = k * n + n in
      let first : all255 (take m xs) ≡ false =
      all255_more xs (k * n) n ∙ ap (λ (b : Bool). all255 (take (k * n) xs) && b) (sym told ∙ here) ∙ and-false (all255 (take (k * n) xs)) in
      sym (ap all255 (sym (take-append-drop m xs)) ∙ all255-append (take m xs) (drop m xs) ∙ ap (λ (b : Bool). b && all255 (drop m xs)) first)

pub all255_at : (xs : List ℕ) (i : ℕ) → T (all255 xs) → i < length xs → byte xs i ≡ 255
unfolding all255
all255_at [] i t h = omega arith
all255_at (x ∷ xs) zero t h = eqb→eq x 255 (and_l (eqb x 255) (all255 xs) t)
all255_at (x ∷ xs) (suc i) t h = all255_at xs i (and_r (eqb x 255) (all255 xs) t) (omega arith)

-- ---- part

pub part_length : (xs : List ℕ) (at n : ℕ) → at + n ≤ length xs → length (part xs at n) ≡ n
part_length xs at n h = simp (length-take, length-drop) (omega arith)

pub part-append : (xs ys : List ℕ) (at n : ℕ) → at + n ≤ length xs → part (xs ++ ys) at n ≡ part xs at n
part-append xs ys at n h =
    let short : at ≤ length xs = omega arith in
    let long : n ≤ length (drop at xs) = simp length-drop (omega arith) in
    ap (take n) (drop-append-le at xs ys short) ∙ take-append-le n (drop at xs) ys long

pub part_replicate : (m v at n : ℕ) → at + n ≤ m → part (replicate m v) at n ≡ replicate n v
part_replicate m v at n h =
    let rest : List ℕ = replicate (m - (at + n)) v in
    let e : at + (n + (m - (at + n))) ≡ m = omega arith in
    let whole : replicate at v ++ (replicate n v ++ rest) ≡ replicate m v =
    ap (λ (l : List ℕ). replicate at v ++ l) (replicate-append-replicate n (m - (at + n)) v)
    ∙ replicate-append-replicate at (n + (m - (at + n))) v
    ∙ ap (λ (k : ℕ). replicate k v) e in
    ap (λ (l : List ℕ). part l at n) (sym whole)
    ∙ ap (take n) (drop_at (replicate at v) (replicate n v ++ rest) at (length-replicate at v))
    ∙ take_at (replicate n v) rest n (length-replicate n v)

pub part_lent_length : (xs : List ℕ) (at n : ℕ) → at + n ≤ length xs → length (take ((at + n) - at) (drop at xs)) ≡ n
part_lent_length xs at n h = ap length (part_lent xs at n) ∙ part_length xs at n h

-- ---- replaced

-- lists that are the same from place k on
drop_further : (xs ys : List ℕ) (k i : ℕ) → k ≤ i → drop k xs ≡ drop k ys → drop i xs ≡ drop i ys
drop_further xs ys k i h e =
    let there : k + (i - k) ≡ i = omega arith in
    let on : (zs : List ℕ) → drop (i - k) (drop k zs) ≡ drop i zs = λ zs. drop-drop (i - k) k zs ∙ ap (λ (j : ℕ). drop j zs) there in
    sym (on xs) ∙ ap (drop (i - k)) e ∙ on ys

lent : (xs ys : List ℕ) (at n : ℕ) → take at xs ++ (ys ++ drop ((at + n) - at) (drop at xs)) ≡ replaced xs at n ys
unfolding replaced
lent xs ys at n =
    let e : at + ((at + n) - at) ≡ at + n = omega arith in
    rw (drop-drop ((at + n) - at) at xs, e)

-- what a part lent as &mut xs[i..i + n] leaves, where i is at, and it came back as zs, which is ys
pub replaced_lent : (xs ys zs : List ℕ) (at i n : ℕ) → i ≡ at → zs ≡ ys → take i xs ++ (zs ++ drop ((i + n) - i) (drop i xs)) ≡ replaced xs at n ys
replaced_lent xs ys zs at i n e f = lent xs zs i n ∙ ap (λ (k : ℕ). replaced xs k n zs) e ∙ ap (replaced xs at n) f

module _ (xs ys : List ℕ) (at n : ℕ) (fits : at + n ≤ length xs) (long : length ys ≡ n) where
  pub replaced_length : length (replaced xs at n ys) ≡ length xs
  unfolding replaced
  replaced_length = simp (length-append, length-take, length-drop) (omega arith)

  -- the bytes from place at on
  replaced_drop : drop at (replaced xs at n ys) ≡ ys ++ drop (at + n) xs
  unfolding replaced
  replaced_drop = drop_at (take at xs) (ys ++ drop (at + n) xs) at (length-take-le at xs (omega arith))

  pub part_replaced_same : part (replaced xs at n ys) at n ≡ ys
  part_replaced_same = ap (take n) replaced_drop ∙ take_at ys (drop (at + n) xs) n long

  -- a part of what was put there
  pub part_replaced_inside : (i k : ℕ) → i + k ≤ n → part (replaced xs at n ys) (at + i) k ≡ part ys i k
  part_replaced_inside i k h =
      ap (take k) (sym (drop-drop i at (replaced xs at n ys)) ∙ ap (drop i) replaced_drop) ∙ part-append ys (drop (at + n) xs) i k (omega arith)

  -- parts elsewhere
  pub part_replaced_before : (i k : ℕ) → i + k ≤ at → part (replaced xs at n ys) i k ≡ part xs i k
  unfolding replaced
  part_replaced_before i k h =
      let long : i + k ≤ length (take at xs) = simp length-take (omega arith) in
      part-append (take at xs) (ys ++ drop (at + n) xs) i k long ∙ sym (part-append (take at xs) (drop at xs) i k long)
      ∙ ap (λ (l : List ℕ). part l i k) (take-append-drop at xs)

  pub part_replaced_after : (i k : ℕ) → at + n ≤ i → part (replaced xs at n ys) i k ≡ part xs i k
  part_replaced_after i k h =
      let new : List ℕ = replaced xs at n ys in
      let rest : drop (at + n) new ≡ drop (at + n) xs = sym (drop-drop n at new) ∙ ap (drop n) replaced_drop ∙ drop_at ys (drop (at + n) xs) n long in
      ap (take k) (drop_further new xs (at + n) i h rest)

-- ---- a part replaced by another part of the same list, which lies before it, after it, or is it

-- what is put between the list's first places and what comes n places further on
pub replaced_between : (xs ys zs before rest after : List ℕ) (at n : ℕ) → before ≡ take at xs → rest ≡ drop at xs → after ≡ drop n rest → zs ≡ ys
    → before ++ (zs ++ after) ≡ replaced xs at n ys
unfolding replaced
replaced_between xs ys zs before rest after at n e f g h = rw (e, g, f, h, drop-drop n at xs) refl

pub part_before : (xs before : List ℕ) (at i n : ℕ) → before ≡ take at xs → at ≤ length xs → i + n ≤ at → part before i n ≡ part xs i n
part_before xs before at i n e long h =
    let short : i + n ≤ length (take at xs) = simp length-take (omega arith) in
    ap (λ (l : List ℕ). part l i n) e ∙ sym (part-append (take at xs) (drop at xs) i n short) ∙ ap (λ (l : List ℕ). part l i n) (take-append-drop at xs)

pub part_after : (xs rest after : List ℕ) (at n i m : ℕ) → rest ≡ drop at xs → after ≡ drop n rest → at + n ≤ i → part after (i - at - n) m ≡ part xs i m
part_after xs rest after at n i m e f h =
    let there : (at + n) + (i - at - n) ≡ i = omega arith in
    rw (f, e) (ap (take m) (ap (drop (i - at - n)) (drop-drop n at xs) ∙ drop-drop (i - at - n) (at + n) xs ∙ ap (λ (j : ℕ). drop j xs) there))

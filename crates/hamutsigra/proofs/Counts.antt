-- The number and the counts of every answer fit the bits that they are packed in.
use mathlib.Core.Path.{◌≡◌, refl}
use mathlib.Core.Bool.{Bool, ◌&&◌, not, cond}
use mathlib.Core.List.{List, [], ◌∷◌, ◌++◌, map}
use Prim.Native.Nat.{ℕ, zero, suc, ◌+◌, ◌/◌, ◌%◌, ◌≤◌, ◌<◌}
use native.Mathlib.Omega.{arith}
use lib.Dec.{ltb}
use lib.ListN.{length, take, length-append, length-map, length-take}
use Rattle.rules.specs.declared.shape.Shape.{Shape}
use Rattle.std.specs.Prelude.{Option, Some, None}
use Rattle.rules.specs.declared.refusal.Refusal.{Refusal}
use Rattle.rules.specs.declared.refusal.Refusal.TheVariants.{OutsideLimits, WrongLength, OutOfRange, TooFewGood, IllFormed, Unrecovered, OutOfNumbers}
use Rattle.rules.specs.declared.answer.Answer.{Answer}
use Rattle.rules.specs.declared.answer.Answer.TheVariants.{Done, Refused, Cut}
use Rattle.rules.specs.Below.{pick_below}
use Rattle.rules.specs.Shape.{within_limits}
use Rattle.rules.specs.Page.{Image}
use Rattle.rules.specs.Facts.{Limits}
use Rattle.rules.specs.WellFormed.{Blocks, blocks_of, is_good, is_free, is_obsolete}
use Rattle.rules.specs.Steps.{Step, program, erase, programs, erases, format_list, power_up_list, write_list, block_write_list}
use Rattle.rules.specs.Replies.{number, refusal_number, programs_of, erases_of, Test, ◌when◌, first_refusal, outside_limits, format_refusal, power_up_refusal, read_refusal, write_refusal, block_write_refusal, carried_out, refused_by, unless, format_reply, power_up_reply, read_reply, write_reply, block_write_reply}
use Rattle.laws.proofs.Tests.{cond_both}
use Rattle.laws.proofs.First.{first_none}
use Rattle.laws.proofs.Shape.{within_limits_within}
use Rattle.history.proofs.Answers.{passes}
use Rattle.history.proofs.Demands.{short_lists, block_write_lists}
use Rattle.hamutsigra.specs.Results.{packed, InBits}

-- ---- the three parts of an answer, read back from their bits

module _ (a : Answer) (fits : InBits a) where
  pub packed_number : packed a % 256 ≡ number a
  packed_number = omega arith

  pub packed-programs : packed a / 256 % 16777216 ≡ programs_of a
  packed-programs = omega arith

  pub packed-erases : packed a / 4294967296 ≡ erases_of a
  packed-erases = omega arith

-- ---- the length of the lists

-- each step is a program or an erase
counts_length : (ts : List Step) → programs ts + erases ts ≡ length ts
counts_length [] = refl
counts_length (program p d t ∷ ts) = let e = counts_length ts in omega arith
counts_length (erase b ∷ ts) = let e = counts_length ts in omega arith

-- format and power-up erase each block once at most
erasing_length : (n : ℕ) (p : ℕ → Bool) → length (map erase (pick_below n p)) ≤ n
unfolding pick_below
erasing_length zero p = omega arith
erasing_length (suc n) p =
    let last : List ℕ = cond (p n) (n ∷ []) [] in
    let one : length last ≤ 1 = cond_both (λ (xs : List ℕ). length xs ≤ 1) (p n) (n ∷ []) [] (λ t. omega arith) (λ t. omega arith) in
    omega (
      arith,
      length-map (pick_below n p ++ last) erase,
      length-append (pick_below n p) last,
      length-map (pick_below n p) erase,
      erasing_length n p,
    )

-- ---- the answers

in_bits : (a : Answer) → number a < 256 → programs_of a + erases_of a < 16777216 → InBits a
in_bits a h k = record { number_fits = h; programs_fit = omega arith; erases_fit = omega arith }

number_small : (r : Refusal) → refusal_number r ≤ 7
number_small OutsideLimits = omega arith
number_small WrongLength = omega arith
number_small OutOfRange = omega arith
number_small TooFewGood = omega arith
number_small IllFormed = omega arith
number_small Unrecovered = omega arith
number_small OutOfNumbers = omega arith

-- a refusal, or a list of steps that is cut anywhere
reply_fits : (q : Option Refusal) (cut : ℕ) (ts : List Step) → (q ≡ None → length ts < 16777216) → InBits (unless q refused_by (carried_out cut ts)).answer
reply_fits None cut ts h =
    let p : ℕ = programs (take cut ts) in
    let e : ℕ = erases (take cut ts) in
    let n : p + e < 16777216 = omega (arith, counts_length (take cut ts), length-take cut ts, h refl) in
    cond_both InBits (ltb cut (length ts)) (Cut p e) (Done p e) (λ t. in_bits (Cut p e) (omega arith) n) (λ t. in_bits (Done p e) (omega arith) n)
reply_fits (Some r) cut ts h = let k = number_small r in in_bits (Refused r) (omega arith) (omega arith)

-- every command asks for the limits first
limits : (s : Shape) (im : Image) (ts : List Test) → first_refusal (OutsideLimits when outside_limits s im ∷ ts) ≡ None → Limits s
limits s im ts e =
    let n : ℕ = length im.bytes in
    let m : ℕ = length im.spare in
    (within_limits_within s n m (passes (within_limits s n m) (first_none (OutsideLimits when outside_limits s im ∷ ts) e).0)).limits

-- ---- every answer of a command

module _ (s : Shape) (im : Image) where
  abbrev c : Blocks
  c = blocks_of s im

  pub format_reply_fits : (cut : ℕ) → InBits (format_reply s im cut).answer
  unfolding format_reply format_refusal format_list
  format_reply_fits cut =
      reply_fits (format_refusal s im c) cut (format_list s c)
      (λ z. omega (arith, (limits s im _ z).blocks_high, erasing_length s.blocks (λ j. is_good (c j).state && not (is_free (c j).state))))

  pub power_up_reply_fits : (size cut : ℕ) → InBits (power_up_reply s im size cut).answer
  unfolding power_up_reply power_up_refusal power_up_list
  power_up_reply_fits size cut =
      reply_fits (power_up_refusal s im c size) cut (power_up_list s c)
      (λ z. omega (arith, (limits s im _ z).blocks_high, erasing_length s.blocks (is_obsolete s c)))

  pub read_reply_fits : (size a : ℕ) → InBits (read_reply s im size a).answer
  unfolding read_reply read_refusal
  read_reply_fits size a = reply_fits (read_refusal s im c size a) 0 [] (λ z. omega arith)

  pub write_reply_fits : (a : ℕ) (d : List ℕ) (cut : ℕ) → InBits (write_reply s im a d cut).answer
  unfolding write_reply write_refusal
  write_reply_fits a d cut =
      reply_fits (write_refusal s im c (length d) a) cut (write_list s im c a d)
      (λ z. omega (arith, (limits s im _ z).pages_high, counts_length (write_list s im c a d), (short_lists s im a d z).0, (short_lists s im a d z).1))

  pub block_write_reply_fits : (l : ℕ) (d : List ℕ) (cut : ℕ) → InBits (block_write_reply s im l d cut).answer
  unfolding block_write_reply block_write_refusal
  block_write_reply_fits l d cut =
      let short = block_write_lists s c l d in
      reply_fits (block_write_refusal s im c (length d) l) cut (block_write_list s c l d)
      (λ z. omega (arith, (limits s im _ z).pages_high, counts_length (block_write_list s c l d), short.0, short.1))

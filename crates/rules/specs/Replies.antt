-- What the card replies: total functions of what a command is given.
use Rattle.std.specs.Prelude.{Result, Ok, Err, Bool, not, cond, Option, Some, None, List, [], ◌∷◌, ◌++◌, ℕ, zero, suc, ◌+◌, ◌*◌, ltb, eqb, length, take}
use Rattle.rules.specs.declared.shape.Shape.{Shape}
use Rattle.rules.specs.declared.refusal.Refusal.{Refusal}
use Rattle.rules.specs.declared.refusal.Refusal.TheVariants.{OutsideLimits, WrongLength, OutOfRange, TooFewGood, IllFormed, Unrecovered, OutOfNumbers}
use Rattle.rules.specs.declared.answer.Answer.{Answer}
use Rattle.rules.specs.declared.answer.Answer.TheVariants.{Done, Refused, Cut}
use Rattle.rules.specs.Below.{all_below, count_below}
use Rattle.rules.specs.Spare.{number_limit}
use Rattle.rules.specs.Shape.{shape_of, within_limits, block_of, in_range, good_needed}
use Rattle.rules.specs.Page.{Image, page_bytes}
use Rattle.rules.specs.WellFormed.{Blocks, blocks_of, is_good, is_obsolete, data_block, live_log, well_formed}
use Rattle.rules.specs.Content.{holder, content}
use Rattle.rules.specs.Steps.{Step, steps_done, programs, erases, highest, format_list, power_up_list, write_case, numbers_needed, write_list, block_write_list}

infix 70 ◌when◌
-- ---- the numbers of the table; the number, the programs and the erases of an answer

abbrev pub refusal_number : Refusal → ℕ
refusal_number OutsideLimits = 1
refusal_number WrongLength = 2
refusal_number OutOfRange = 3
refusal_number TooFewGood = 4
refusal_number IllFormed = 5
refusal_number Unrecovered = 6
refusal_number OutOfNumbers = 7

abbrev pub number : Answer → ℕ
number (Done p e) = 0
number (Refused r) = refusal_number r
number (Cut p e) = 8

abbrev pub programs_of : Answer → ℕ
programs_of (Done p e) = p
programs_of (Refused r) = 0
programs_of (Cut p e) = p

abbrev pub erases_of : Answer → ℕ
erases_of (Done p e) = e
erases_of (Refused r) = 0
erases_of (Cut p e) = e

-- what is answered by a command that gave an answer or was refused
abbrev pub answer_of : Result Answer Refusal → Answer
answer_of (Ok a) = a
answer_of (Err r) = Refused r

-- ---- refusals

-- a refusal, and whether what it stands for applies
pub record Test : Type 0 where
  pub gives : Refusal
  pub applies : Bool

abbrev pub ◌when◌ : Refusal → Bool → Test
r when b = record { gives = r; applies = b }

-- The lowest number that applies is the answer: the first of a list in ascending order, and none where none of 1 to 7 applies.
unfoldable pub first_refusal : List Test → Option Refusal
first_refusal [] = None
first_refusal (t ∷ ts) = cond t.applies (Some t.gives) (first_refusal ts)

unfoldable pub good_blocks : Shape → Blocks → ℕ
good_blocks s c = count_below s.blocks (λ j. is_good (c j).state)

-- 1: shape or image length outside the limits
abbrev pub outside_limits : Shape → Image → Bool
outside_limits s im = not (within_limits s (length im.bytes) (length im.spare))

-- 4: fewer good blocks than L + K + 1
abbrev pub too_few_good : Shape → Blocks → Bool
too_few_good s c = ltb (good_blocks s c) (good_needed s)

-- 6: an obsolete block exists
abbrev pub unrecovered : Shape → Blocks → Bool
unrecovered s c = not (all_below s.blocks (λ j. not (is_obsolete s c j)))

-- 7: highest number plus new numbers needed (0, 1 or 2) above 4,294,967,294
abbrev pub out_of_numbers : Shape → Blocks → ℕ → Bool
out_of_numbers s c needed = ltb number_limit (highest s c + needed)

-- The tests of each command, in the order of the table.

abbrev pub format_tests : Shape → Image → Blocks → List Test
format_tests s im c =
    OutsideLimits when outside_limits s im
    ∷ TooFewGood when too_few_good s c
    ∷ []

-- size: the numbers in the table
abbrev pub power_up_tests : Shape → Image → Blocks → ℕ → List Test
power_up_tests s im c size =
    OutsideLimits when outside_limits s im
    ∷ WrongLength when not (eqb size (2 * s.logical))
    ∷ TooFewGood when too_few_good s c
    ∷ IllFormed when not (well_formed s c)
    ∷ []

-- size: the bytes of the page buffer; a: the logical page
abbrev pub read_tests : Shape → Image → Blocks → ℕ → ℕ → List Test
read_tests s im c size a =
    OutsideLimits when outside_limits s im
    ∷ WrongLength when not (eqb size 512)
    ∷ OutOfRange when not (in_range s a)
    ∷ TooFewGood when too_few_good s c
    ∷ IllFormed when not (well_formed s c)
    ∷ []

-- write and block write; sized: the buffer has the length asked; ranged: the logical page or block is in range; needed: the new numbers
abbrev pub writing_tests : Shape → Image → Blocks → Bool → Bool → ℕ → List Test
writing_tests s im c sized ranged needed =
    OutsideLimits when outside_limits s im
    ∷ WrongLength when not sized
    ∷ OutOfRange when not ranged
    ∷ TooFewGood when too_few_good s c
    ∷ IllFormed when not (well_formed s c)
    ∷ Unrecovered when unrecovered s c
    ∷ OutOfNumbers when out_of_numbers s c needed
    ∷ []

abbrev pub write_tests : Shape → Image → Blocks → ℕ → ℕ → List Test
write_tests s im c size a = writing_tests s im c (eqb size 512) (in_range s a) (numbers_needed (write_case s c (block_of s a)))

-- Checks are those of write, with 2 for a wrong buffer length and 3 for l not below L. It needs one new number.
abbrev pub block_write_tests : Shape → Image → Blocks → ℕ → ℕ → List Test
block_write_tests s im c size l = writing_tests s im c (eqb size (s.pages * 512)) (ltb l s.logical) 1

unfoldable pub format_refusal : Shape → Image → Blocks → Option Refusal
format_refusal s im c = first_refusal (format_tests s im c)

unfoldable pub power_up_refusal : Shape → Image → Blocks → ℕ → Option Refusal
power_up_refusal s im c size = first_refusal (power_up_tests s im c size)

unfoldable pub read_refusal : Shape → Image → Blocks → ℕ → ℕ → Option Refusal
read_refusal s im c size a = first_refusal (read_tests s im c size a)

unfoldable pub write_refusal : Shape → Image → Blocks → ℕ → ℕ → Option Refusal
write_refusal s im c size a = first_refusal (write_tests s im c size a)

unfoldable pub block_write_refusal : Shape → Image → Blocks → ℕ → ℕ → Option Refusal
block_write_refusal s im c size l = first_refusal (block_write_tests s im c size l)

-- ---- the replies

-- the shape of a card: P, L and K as given with the command, B by the image's length
abbrev pub shape_for : ℕ → ℕ → ℕ → Image → Shape
shape_for P L K im = shape_of P L K (length im.bytes)

-- an answer, and the steps that were done
pub record Reply : Type 0 where
  pub answer : Answer
  pub steps : List Step

-- The steps done are the first `cut` of the list, or all if there are fewer; the answer is 8 where cut is below the list's length, else 0.
abbrev pub carried_out : ℕ → List Step → Reply
carried_out cut ts =
    let ts' : List Step = take cut ts in
    record { answer = cond (ltb cut (length ts)) (Cut (programs ts') (erases ts')) (Done (programs ts') (erases ts')); steps = ts' }

-- 1 to 7 change nothing and report zero counts.
abbrev pub refused_by : Refusal → Reply
refused_by r = record { answer = Refused r; steps = [] }

-- x, unless a refusal applies: then what is made of it
abbrev pub unless : {A : Type 0} → Option Refusal → (Refusal → A) → A → A
unless None refused x = x
unless (Some r) refused x = refused r

unfoldable pub format_reply : Shape → Image → ℕ → Reply
format_reply s im cut =
    let c : Blocks = blocks_of s im in
    unless (format_refusal s im c) refused_by (carried_out cut (format_list s c))

unfoldable pub power_up_reply : Shape → Image → ℕ → ℕ → Reply
power_up_reply s im size cut =
    let c : Blocks = blocks_of s im in
    unless (power_up_refusal s im c size) refused_by (carried_out cut (power_up_list s c))

unfoldable pub write_reply : Shape → Image → ℕ → List ℕ → ℕ → Reply
write_reply s im a d cut =
    let c : Blocks = blocks_of s im in
    unless (write_refusal s im c (length d) a) refused_by (carried_out cut (write_list s im c a d))

unfoldable pub block_write_reply : Shape → Image → ℕ → List ℕ → ℕ → Reply
block_write_reply s im l d cut =
    let c : Blocks = blocks_of s im in
    unless (block_write_refusal s im c (length d) l) refused_by (carried_out cut (block_write_list s c l d))

unfoldable pub read_reply : Shape → Image → ℕ → ℕ → Reply
read_reply s im size a =
    let c : Blocks = blocks_of s im in
    unless (read_refusal s im c size a) refused_by (carried_out 0 [])

-- the image that a reply leaves
abbrev pub image_left : Shape → Image → Reply → Image
image_left s im r = steps_done s r.steps im

-- Power-up also fills a table of 2 x L numbers: for each logical block its data block, then its live log block, 65,535 for none.
unfoldable pub table_of : Shape → Blocks → ℕ → List ℕ
table_of s c zero = []
table_of s c (suc l) = table_of s c l ++ (data_block s c l ∷ live_log s c l ∷ [])

-- the table left: filled where the answer is 0, else as it was. It is that of the records before the erases; the image left has the same
-- (TableOfTheImageLeft of crates/history).
unfoldable pub table_left : Shape → Image → List ℕ → ℕ → List ℕ
table_left s im old cut = cond (eqb (number (power_up_reply s im (length old) cut).answer) 0) (table_of s (blocks_of s im) s.logical) old

-- the page buffer that read leaves
unfoldable pub page_left : Shape → Image → List ℕ → ℕ → List ℕ
page_left s im old a =
    let c : Blocks = blocks_of s im in
    unless (read_refusal s im c (length old) a) (λ r. old) (content s im c a)

-- Page lending lends back the page's own 512 bytes of the image; the part is empty when read would refuse (its buffer check aside) or when no
-- flash page holds the content.
unfoldable pub lent_page : Shape → Image → ℕ → Option ℕ
lent_page s im a =
    let c : Blocks = blocks_of s im in
    unless (read_refusal s im c 512 a) (λ r. None) (holder s im c a)

abbrev pub lent_bytes : Image → Option ℕ → List ℕ
lent_bytes im (Some p) = page_bytes im p
lent_bytes im None = []

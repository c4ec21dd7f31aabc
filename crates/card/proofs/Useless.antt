-- Useless layers: none of them meets the promises. One table has for each what it does, whatever it is given, and an input at which the promise leaves
-- something else.
use mathlib.Core.Path.{◌≡◌, ap, subst, ◌∙◌}
use mathlib.Core.Bool.{Bool, true, ◌&&◌, ◌||◌, not}
use mathlib.Core.List.{List, [], ◌∷◌}
use Prim.Native.Nat.{ℕ, suc}
use lib.Dec.{T, ltb, eqb, T_not}
use lib.ListN.{length, replicate, take}
use Rattle.rules.specs.declared.shape.Shape.{Shape}
use Rattle.rules.specs.declared.answer.Answer.{Answer}
use Rattle.rules.specs.Below.{all_below}
use Rattle.rules.specs.Bytes.{all255, byte}
use Rattle.rules.specs.Spare.{log_kind, copy_kind}
use Rattle.rules.specs.Shape.{block_of}
use Rattle.rules.specs.Page.{Image}
use Rattle.rules.specs.Facts.{image_of}
use Rattle.rules.specs.WellFormed.{Blocks, blocks_of}
use Rattle.rules.specs.Steps.{Step, step_done, steps_done, erases, entry_step, write_case, merge_first, write_list, block_write_list}
use Rattle.rules.specs.Replies.{Reply, number, erases_of, shape_for, image_left, format_reply, page_left}
use Rattle.rules.specs.Promises.{FormatDone, PowerUpDone, ReadDone, WriteDone, BlockWriteDone}
use Rattle.rules.specs.Computing.{computing}
use Rattle.laws.proofs.Tests.{and_l, and_r}
use Rattle.history.specs.History.{Command, read, write, block_write, power_up, reply_to, Tells}
use Rattle.history.proofs.Demands.{counts_are_of_the_steps}

-- ---- what a layer leaves, and whether that meets the promise

-- a format with its cut number, or another command
pub data Input : Type 0 where
  format : ℕ → Input
  after : Command → Input

-- the answer, and the page buffer of a read, the spare image of any other command
pub record Out : Type 0 where
  pub answer : Answer
  pub left : List ℕ

-- with any data image, and any table of power-up
abbrev pub Meets : Shape → Image → Input → Out → Type 0
Meets s im (format cut) o = (bytes : List ℕ) × FormatDone s im cut o.answer bytes o.left
Meets s im (after (power_up old cut)) o = (bytes : List ℕ) × ((table : List ℕ) × PowerUpDone s im old cut o.answer bytes o.left table)
Meets s im (after (read a old)) o = ReadDone s im old a o.answer o.left
Meets s im (after (write a page cut)) o = (bytes : List ℕ) × WriteDone s im a page cut o.answer bytes o.left
Meets s im (after (block_write l block cut)) o = (bytes : List ℕ) × BlockWriteDone s im l block cut o.answer bytes o.left

abbrev reply : Shape → Image → Input → Reply
reply s im (format cut) = format_reply s im cut
reply s im (after x) = reply_to s im x

abbrev looked : Shape → Image → Input → List ℕ
looked s im (format cut) = (image_left s im (reply s im (format cut))).spare
looked s im (after (power_up old cut)) = (image_left s im (reply s im (after (power_up old cut)))).spare
looked s im (after (read a old)) = page_left s im old a
looked s im (after (write a page cut)) = (image_left s im (reply s im (after (write a page cut)))).spare
looked s im (after (block_write l block cut)) = (image_left s im (reply s im (after (block_write l block cut)))).spare

abbrev due : Shape → Image → Input → Out
due s im x = record { answer = (reply s im x).answer; left = looked s im x }

same_out : {r r' : Answer} {xs xs' : List ℕ} → r ≡ r' → xs ≡ xs' → ◌≡◌ {A = Out} (record { answer = r; left = xs }) (record { answer = r'; left = xs' })
same_out e f = cc

meets_due : (s : Shape) (im : Image) (x : Input) (o : Out) → Meets s im x o → o ≡ due s im x
meets_due s im (format cut) o h = same_out h.1.answer h.1.spare_left
meets_due s im (after (power_up old cut)) o h = same_out h.1.1.replied.answer h.1.1.replied.spare_left
meets_due s im (after (read a old)) o h = same_out h.answer h.page_left
meets_due s im (after (write a page cut)) o h = same_out h.1.answer h.1.spare_left
meets_due s im (after (block_write l block cut)) o h = same_out h.1.answer h.1.spare_left

-- ---- what useless layers do

abbrev Deed : Type 0
Deed = Shape → Image → Out → Bool

-- it answers 1 to 7
abbrev refuses : Deed
refuses s im o = ltb 0 (number o.answer) && ltb (number o.answer) 8

abbrev reads255 : Deed
reads255 s im o = all255 o.left

abbrev same_bytes : List ℕ → List ℕ → Bool
same_bytes xs ys = all_below (length ys) (λ i. eqb (byte xs i) (byte ys i))

abbrev does_nothing : Deed
does_nothing s im o = same_bytes o.left im.spare

abbrev sevens : List ℕ
sevens = replicate 512 7

-- two pages
abbrev fourteens : List ℕ
fourteens = replicate 1024 14

-- of these steps none is done, or the first k at least
abbrev in_one_go : List Step → ℕ → Deed
in_one_go steps k s im o =
    not (all_below (suc (length steps)) (λ n. (ltb 0 n && ltb n k) || not (same_bytes o.left (steps_done s (take n steps) im).spare)))

-- the merge of a write of page 0
abbrev merges_whole : Deed
merges_whole s im =
    let c : Blocks = blocks_of s im in
    in_one_go (write_list s im c 0 sevens) (length (merge_first s im c (write_case s c (block_of s 0)))) s im

-- the P programs of a block write of logical block 0
abbrev loads_whole : Deed
loads_whole s im = in_one_go (block_write_list s (blocks_of s im) 0 fourteens) s.pages s im

-- ---- the table, on cards of P 2, L 1, K 1, B 3

abbrev blank : Image
blank = image_of (replicate 3072 255) (replicate 96 255)

-- page p gets 512 bytes of 7, with number 1, kind k and logical page a
abbrev with : ℕ → ℕ → ℕ → Image → Image
with p k a im = step_done (shape_for 2 1 1 im) (entry_step p 1 k a sevens) im

-- one page in a log block
abbrev logged : Image
logged = with 0 log_kind 0 blank

-- one page of a copy, which is obsolete
abbrev half_copied : Image
half_copied = with 0 copy_kind 0 blank

-- a log block that is full and not complete: the next write merges it
abbrev full_log : Image
full_log = with 1 log_kind 0 (with 0 log_kind 1 blank)

pub record Useless : Type 0 where
  pub does : Deed
  pub image : Image
  pub call : Input

abbrev layer : Deed → Image → Input → Useless
layer deed im x = record { does = deed; image = im; call = x }

abbrev pub layers : List Useless
layers =
    layer refuses blank (format 9)
    ∷ layer refuses blank (after (power_up (0 ∷ 0 ∷ []) 9))
    ∷ layer refuses blank (after (read 0 sevens))
    ∷ layer refuses blank (after (write 0 sevens 9))
    ∷ layer refuses blank (after (block_write 0 fourteens 9))
    ∷ layer reads255 logged (after (read 0 (replicate 512 0)))
    ∷ layer does_nothing logged (format 9)
    ∷ layer does_nothing half_copied (after (power_up (0 ∷ 0 ∷ []) 9))
    ∷ layer does_nothing blank (after (write 0 sevens 9))
    ∷ layer does_nothing blank (after (block_write 0 fourteens 9))
    ∷ layer merges_whole full_log (after (write 0 sevens 1))
    ∷ layer loads_whole logged (after (block_write 0 fourteens 1))
    ∷ []

-- ---- none of them meets the promises

abbrev shape_at : Useless → Shape
shape_at u = shape_for 2 1 1 u.image

abbrev differs : Useless → Bool
differs u = not (u.does (shape_at u) u.image (due (shape_at u) u.image u.call))

abbrev all_differ : List Useless → Bool
all_differ [] = true
all_differ (u ∷ us) = differs u && all_differ us

all_differ_lem : T (all_differ layers)
unfolding computing
all_differ_lem = tt

-- nothing that the layer leaves at this input meets the promise
abbrev pub Unable : Useless → Type 0
Unable u = (o : Out) → T (u.does (shape_at u) u.image o) → Meets (shape_at u) u.image u.call o → ⊥

abbrev pub AllUnable : List Useless → Type 0
AllUnable [] = Unit {0}
AllUnable (u ∷ us) = Unable u × AllUnable us

pub none_meets : AllUnable layers
none_meets = go layers all_differ_lem
  where
    fails : (u : Useless) → T (differs u) → Unable u
    fails u t left does meets =
        T_not (u.does (shape_at u) u.image (due (shape_at u) u.image u.call)) t
        (subst (λ (o : Out). T (u.does (shape_at u) u.image o)) (meets_due (shape_at u) u.image u.call left meets) does)

    go : (us : List Useless) → T (all_differ us) → AllUnable us
    go [] t = tt
    go (u ∷ us) t = (fails u (and_l (differs u) (all_differ us) t), go us (and_r (differs u) (all_differ us) t))

-- ---- made-up erase counts: the erases of an answer are those of the steps whose application gives the image

pub not_made_up : (s : Shape) (im : Image) (x : Input) (o : Out) → Meets s im x o → erases_of o.answer ≡ erases (reply s im x).steps
not_made_up s im x o h = ap (λ (u : Out). erases_of u.answer) (meets_due s im x o h) ∙ (tells x).1
  where
    tells : (x : Input) → Tells (reply s im x)
    tells (format cut) = (counts_are_of_the_steps s im).0 cut
    tells (after x) = (counts_are_of_the_steps s im).1 x

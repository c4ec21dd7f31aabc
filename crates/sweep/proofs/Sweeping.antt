-- Laws of format and power-up.
use mathlib.Core.Path.{◌≡◌, refl, sym, ap, ◌∙◌, fun_ext}
use mathlib.Core.Bool.{Bool, true, false, ◌&&◌, not, cond}
use mathlib.Core.List.{List, [], ◌∷◌}
use Prim.Native.Nat.{ℕ, ◌*◌}
use lib.Dec.{ltb, eqb}
use lib.ListN.{length}
use Rattle.std.specs.Prelude.{Option, Some, None}
use Rattle.rules.specs.declared.shape.Shape.{Shape}
use Rattle.rules.specs.declared.refusal.Refusal.{Refusal}
use Rattle.rules.specs.declared.refusal.Refusal.TheVariants.{OutsideLimits, WrongLength, OutOfRange, TooFewGood, IllFormed, Unrecovered, OutOfNumbers}
use Rattle.rules.specs.declared.answer.Answer.{Answer}
use Rattle.rules.specs.declared.answer.Answer.TheVariants.{Done, Refused, Cut}
use Rattle.rules.specs.Below.{count_below}
use Rattle.rules.specs.Shape.{good_needed}
use Rattle.rules.specs.WellFormed.{Blocks, blocks_of, is_good, is_free}
use Rattle.rules.specs.Steps.{power_up_list}
use Rattle.rules.specs.Page.{Image}
use Rattle.rules.specs.Facts.{image_of}
use Rattle.rules.specs.Replies.{◌when◌, first_refusal, number, refusal_number, unless, good_blocks, outside_limits, too_few_good, format_refusal, power_up_refusal, power_up_reply, table_of, table_left}
use Rattle.rules.specs.Promises.{Replied, PowerUpDone}
use Rattle.laws.proofs.First.{first_end, first_here, first_later, unless_some, unless_none}
use Rattle.roles.specs.Passes.{good_to}
use Rattle.refusals.specs.Orders.{call_refusal, open_refusal}
use Rattle.refusals.proofs.Refusing.{power_up_order, few_by}
use Rattle.blocks.specs.Scanned.{uses_of}
use Rattle.blocks.proofs.Image.{use_told}
use Rattle.steps.specs.declared.run.Run.{Run}
use Rattle.steps.specs.Runs.{started}
use Rattle.steps.specs.Answers.{finished}
use Rattle.steps.specs.Doing.{image_in, Does}
use Rattle.steps.proofs.Replying.{replied_refused, replied_done}

-- ---- what format asks of each block is as the records have it

-- the blocks that format erases
abbrev pub goes : Blocks → ℕ → Bool
goes c j = is_good (c j).state && not (is_free (c j).state)

module _ (s : Shape) (im : Image) where
  pub few_told : {c : Blocks} {n : ℕ} {b : Bool} → c ≡ uses_of s im → n ≡ good_to c s.blocks → b ≡ ltb n (good_needed s) → b ≡ too_few_good s (blocks_of s im)
  unfolding good_blocks
  few_told {c} u e f =
      few_by s c e f ∙ ap (too_few_good s) u
      ∙ ap (λ (p : ℕ → Bool). ltb (count_below s.blocks p) (good_needed s)) (fun_ext (use_told s im is_good refl))

  pub goes_same : (j : ℕ) → goes (uses_of s im) j ≡ goes (blocks_of s im) j
  goes_same = use_told s im (λ t. is_good t && not (is_free t)) refl

-- ---- the refusals of format: those by the call, then that by the records

module _ (s : Shape) (im : Image) where
  abbrev by_call : Option Refusal
  by_call = call_refusal s (length im.bytes) (length im.spare) true true

  format_order : format_refusal s im (blocks_of s im) ≡ unless by_call Some (first_refusal (TooFewGood when too_few_good s (blocks_of s im) ∷ []))
  unfolding format_refusal first_refusal
  format_order = go (outside_limits s im) _
    where
      go : (b : Bool) (q : Option Refusal) → cond b (Some OutsideLimits) q ≡ unless (cond b (Some OutsideLimits) None) Some q
      go true q = refl
      go false q = refl

  pub format_refused : {r : Refusal} → call_refusal s (length im.bytes) (length im.spare) true true ≡ Some r → format_refusal s im (blocks_of s im) ≡ Some r
  format_refused e = format_order ∙ unless_some Some _ e

  pub format_few : call_refusal s (length im.bytes) (length im.spare) true true ≡ None → too_few_good s (blocks_of s im) ≡ true
      → format_refusal s im (blocks_of s im) ≡ Some TooFewGood
  format_few e f = format_order ∙ unless_none Some _ e ∙ first_here _ _ f

  pub format_none : call_refusal s (length im.bytes) (length im.spare) true true ≡ None → too_few_good s (blocks_of s im) ≡ false
      → format_refusal s im (blocks_of s im) ≡ None
  format_none e f = format_order ∙ unless_none Some _ e ∙ first_later _ _ f ∙ first_end

-- ---- power-up

module _ (s : Shape) (bytes spare old : List ℕ) (cut : ℕ) where
  abbrev im : Image
  im = image_of bytes spare

  pub power_up_refused : {r : Refusal} → open_refusal s (image_of bytes spare) (eqb (length old) (2 * s.logical)) true ≡ Some r
      → PowerUpDone s (image_of bytes spare) old cut (Refused r) bytes spare old
  unfolding power_up_reply table_left
  power_up_refused {r} e =
      let refused : power_up_refusal s im (blocks_of s im) (length old) ≡ Some r = power_up_order s im (length old) ∙ e in
      record {
        replied = replied_refused s bytes spare cut (power_up_list s (blocks_of s im)) refused;
        table_left = rw refused (kept r);
      }
    where
      kept : (r : Refusal) → old ≡ cond (eqb (refusal_number r) 0) (table_of s (blocks_of s im) s.logical) old
      kept OutsideLimits = refl
      kept WrongLength = refl
      kept OutOfRange = refl
      kept TooFewGood = refl
      kept IllFormed = refl
      kept Unrecovered = refl
      kept OutOfNumbers = refl

-- a is the run as it starts, b as it ends; the table is filled unless the steps were cut
pub power_up_done : {a b : Run} (old : List ℕ) (cut : ℕ) {r : Answer} {bytes spare table : List ℕ}
    → open_refusal a.shape (image_in a) (eqb (length old) (2 * a.shape.logical)) true ≡ None
    → a.budget ≡ started cut → Does (λ _. power_up_list a.shape (blocks_of a.shape (image_in a))) a b → r ≡ finished b.budget
    → bytes ≡ b.bytes.now → spare ≡ b.spare.now
    → table ≡ cond b.budget.short old (table_of a.shape (blocks_of a.shape (image_in a)) a.shape.logical)
    → PowerUpDone a.shape (image_in a) old cut r bytes spare table
unfolding power_up_reply table_left
power_up_done {a} {b} old cut {r} {bytes} {spare} {table} e started does f bytes_are spare_are g =
    let s : Shape = a.shape in
    let im : Image = image_in a in
    let filled : List ℕ = table_of s (blocks_of s im) s.logical in
    let none : power_up_refusal s im (blocks_of s im) (length old) ≡ None = power_up_order s im (length old) ∙ e in
    let done : Replied s im (power_up_reply s im (length old) cut) r bytes spare = replied_done cut none started does f bytes_are spare_are in
    record {
      replied = done;
      table_left =
          g ∙ sym (left filled b.budget.programs b.budget.erases b.budget.short)
          ∙ ap (λ (x : Answer). cond (eqb (number x) 0) filled old) (sym f ∙ done.answer);
    }
  where
    left : (x : List ℕ) (p e : ℕ) (t : Bool) → cond (eqb (number (cond t (Cut p e) (Done p e))) 0) x old ≡ cond t old x
    left x p e true = refl
    left x p e false = refl

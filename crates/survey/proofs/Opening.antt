-- Laws of the opening.
use mathlib.Core.Path.{◌≡◌, refl, sym, ap, subst, ◌∙◌}
use mathlib.Core.Logic.{inl, inr}
use mathlib.Core.Bool.{Bool, true, false}
use mathlib.Core.List.{List}
use Prim.Native.Nat.{ℕ, ◌<◌}
use native.Mathlib.Omega.{arith}
use lib.ListN.{length}
use borrow.Author.Tests.{ltb-false}
use Rattle.std.specs.Prelude.{Option, Some, None, Result, Ok, Err}
use Rattle.std.proofs.lemmas.Option.{none-some, same_Some}
use Rattle.rules.specs.declared.shape.Shape.{Shape}
use Rattle.rules.specs.declared.block.Block.{Block}
use Rattle.rules.specs.declared.refusal.Refusal.{Refusal}
use Rattle.rules.specs.declared.refusal.Refusal.TheVariants.{OutsideLimits, WrongLength, OutOfRange, TooFewGood, IllFormed, Unrecovered, OutOfNumbers}
use Rattle.rules.specs.Shape.{most, good_needed}
use Rattle.rules.specs.Page.{Image}
use Rattle.rules.specs.Facts.{Fits}
use Rattle.rules.specs.WellFormed.{Blocks, is_good, blocks_of, blocks_in}
use Rattle.rules.specs.Replies.{good_blocks, too_few_good}
use Rattle.laws.proofs.Tests.{lt_or_le}
use Rattle.laws.proofs.First.{first_by, unless_some, unless_none, neither_refuses}
use Rattle.laws.proofs.Below.{count_below-most}
use Rattle.laws.proofs.Records.{blocks_of_at, blocks_of_outside, block_at_number, block_at_logical, blocks_of_records}
use Rattle.blocks.proofs.Image.{read_one}
use Rattle.roles.specs.declared.census.Census.{Census}
use Rattle.roles.specs.declared.records.Room.{Room}
use Rattle.roles.specs.Passes.{Recorded, Numbers, numbers_of}
use Rattle.refusals.specs.Orders.{call_tests, call_refusal, card_refusal, open_refusal}
use Rattle.refusals.proofs.Refusing.{call_accepts, card_accepts, open_order}
use Rattle.survey.specs.Opened.{Holds, Surveyed, Left, Opened}

-- ---- the records of a card that has the good blocks it needs

module _ (s : Shape) (im : Image) (w : Fits s im) (enough : too_few_good s (blocks_of s im) ≡ false) where
  -- so that it has fewer logical blocks than blocks
  few_logical : s.logical < most
  unfolding good_blocks
  few_logical =
      let few = w.limits.blocks_high in
      let good = count_below-most s.blocks (λ j. is_good (blocks_of s im j).state) in
      omega (arith, ltb-false (good_blocks s (blocks_of s im)) (good_needed s) enough)

  some : 0 < s.pages
  some = omega (arith, w.limits.pages_low)

  pub recorded : Recorded s (blocks_of s im)
  recorded =
      let records = blocks_of_records s im some w.limits.blocks_high in
      let l = few_logical in
      record {
        few = records.few;
        small = λ j. elim (lt_or_le j s.blocks) [
          | inl h ↦ rw (blocks_of_at s im j h) (elim (block_at_logical s im some j) [ inl z ↦ omega arith | inr z ↦ omega arith ])
          | inr h ↦ rw (blocks_of_outside s im j h) (omega arith)
        ];
        outside = records.outside;
        fits = records.fits;
        numbered = λ j. elim (lt_or_le j s.blocks) [
          | inl h ↦ rw (blocks_of_at s im j h) (block_at_number s im some j)
          | inr h ↦ rw (blocks_of_outside s im j h) refl
        ];
      }

-- ---- what it says

-- by the records, once it is not by the call
pub by_card : (s : Shape) (im : Image) (sized ranged : Bool) → call_refusal s (length im.bytes) (length im.spare) sized ranged ≡ None
    → open_refusal s im sized ranged ≡ card_refusal s (blocks_of s im)
by_card s im sized ranged e = open_order s im sized ranged refl ∙ unless_none Some (card_refusal s (blocks_of s im)) e

-- by the call
pub by_call : (s : Shape) (im : Image) (sized ranged : Bool) {r : Refusal} → call_refusal s (length im.bytes) (length im.spare) sized ranged ≡ Some r
    → open_refusal s im sized ranged ≡ Some r
by_call s im sized ranged e = open_order s im sized ranged refl ∙ unless_some Some (card_refusal s (blocks_of s im)) e

-- a card that is not refused
pub record Accepts (s : Shape) (im : Image) (sized ranged : Bool) : Type 0 where
  pub within : Fits s im
  pub lengths : sized ≡ true
  pub in_range : ranged ≡ true
  pub recorded : Recorded s (blocks_of s im)
  pub accepted : card_refusal s (blocks_of s im) ≡ None

pub opened_accepts : (s : Shape) (im : Image) (sized ranged : Bool) → open_refusal s im sized ranged ≡ None → Accepts s im sized ranged
opened_accepts s im sized ranged e =
    let none = neither_refuses _ _ (sym (open_order s im sized ranged refl) ∙ e) in
    let ok = call_accepts s (length im.bytes) (length im.spare) sized ranged none.0 in
    record {
      within = ok.within;
      lengths = ok.lengths;
      in_range = ok.in_range;
      recorded = recorded s im ok.within (card_accepts s (blocks_of s im) none.1).0;
      accepted = none.1;
    }

-- What is told of records with the shape s and the blocks c is told of s and c.
pub told_of : {A : Type 0} (f : Shape → Blocks → A) {s z : Shape} {c d e : Blocks} {x : A} → x ≡ f z d → z ≡ s → d ≡ e → e ≡ c → x ≡ f s c
told_of f x shape list read = cc

-- ---- what is left in the room

module _ (s : Shape) (im : Image) where
  -- once the list holds the records and the numbers are made from it
  pub held : {list : List Block} {room : Room} → length list ≡ most → blocks_in list ≡ blocks_of s im → room.list ≡ list
      → room.numbers ≡ numbers_of s (blocks_in list) → Holds s im (numbers_of s (blocks_of s im)) room
  held long e f g = record { long = ap length f ∙ long; list_is = ap blocks_in f ∙ e; numbers_are = g ∙ ap (numbers_of s) e }

  pub held_numbers : {room : Room} → Holds s im (numbers_of s (blocks_of s im)) room → Recorded s (blocks_of s im)
      → Numbers s (blocks_in room.list) room.numbers
  held_numbers h r = rw h.list_is (record { recorded = r; numbers_are = h.numbers_are })

  -- which is what the records of a card that is not refused ask for
  pub opened_numbers : (sized ranged : Bool) {room : Room} {found : Census} → open_refusal s im sized ranged ≡ None → Surveyed s im room found
      → Numbers s (blocks_in room.list) room.numbers
  opened_numbers sized ranged e o = held_numbers o.holds (opened_accepts s im sized ranged e).recorded

-- what a refusal by the call leaves in the room
pub left_by_call : (s : Shape) (im : Image) (sized ranged : Bool) (old : Room) {r : Refusal}
    → call_refusal s (length im.bytes) (length im.spare) sized ranged ≡ Some r → Left s im old old r
left_by_call s im sized ranged old e =
    subst LeftBy e (first_by LeftBy (call_tests s (length im.bytes) (length im.spare) sized ranged) ((λ h. refl), ((λ h. refl), ((λ h. refl), tt))) tt)
  where
    LeftBy : Option Refusal → Type 0
    LeftBy None = Unit {0}
    LeftBy (Some r) = Left s im old old r

-- There is one answer and one content of the room, each array of it whole.
pub record Same (a b : Room) (v w : Result Census Refusal) : Type 0 where
  pub answer : v ≡ w
  pub list : a.list ≡ b.list
  pub numbers : a.numbers ≡ b.numbers

module _ (s : Shape) (im : Image) (old a b : Room) where
  list_one : {m n : List ℕ} → Holds s im m a → Holds s im n b → a.list ≡ b.list
  list_one o p = read_one (blocks_of s im) o.long p.long o.list_is p.list_is

  left_one : (r : Refusal) → Left s im old a r → Left s im old b r → (a.list ≡ b.list) × (a.numbers ≡ b.numbers)
  left_one OutsideLimits o p = (cc, cc)
  left_one WrongLength o p = (cc, cc)
  left_one OutOfRange o p = (cc, cc)
  left_one TooFewGood o p = (list_one o p, cc)
  left_one IllFormed o p = (list_one o p, cc)
  left_one Unrecovered o p = (cc, cc)
  left_one OutOfNumbers o p = (cc, cc)

  pub opened_one : (sized ranged : Bool) (v w : Result Census Refusal) → Opened s im sized ranged old a v → Opened s im sized ranged old b w → Same a b v w
  opened_one sized ranged (Ok v) (Ok w) o p = record { answer = cc; list = list_one o.1.holds p.1.holds; numbers = cc }
  opened_one sized ranged (Ok v) (Err r) o p = absurd (none-some r (sym o.0 ∙ p.0))
  opened_one sized ranged (Err q) (Ok w) o p = absurd (none-some q (sym p.0 ∙ o.0))
  opened_one sized ranged (Err q) (Err r) o p =
      let same : q ≡ r = same_Some q r (sym o.0 ∙ p.0) in
      let left = left_one q o.1 (subst (λ x. Left s im old b x) (sym same) p.1) in
      record { answer = ap Err same; list = left.0; numbers = left.1 }

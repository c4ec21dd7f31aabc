-- Laws of the refusals.
use mathlib.Core.Path.{◌≡◌, refl, sym, ap, ◌∙◌}
use mathlib.Core.Bool.{Bool, true, false, not}
use mathlib.Core.List.{◌++◌}
use Prim.Native.Nat.{ℕ, ◌*◌}
use lib.Dec.{T, ltb, eqb}
use lib.ListN.{length}
use borrow.Author.Tests.{not-false}
use Rattle.std.specs.Prelude.{Option, Some, None, Result, Ok, Err}
use Rattle.rules.specs.declared.shape.Shape.{Shape}
use Rattle.rules.specs.declared.refusal.Refusal.{Refusal}
use Rattle.rules.specs.Shape.{within_limits, block_of, in_range, good_needed}
use Rattle.rules.specs.Page.{Image}
use Rattle.rules.specs.Facts.{Within}
use Rattle.rules.specs.WellFormed.{Blocks, blocks_of, well_formed}
use Rattle.rules.specs.Steps.{highest, write_case, numbers_needed}
use Rattle.rules.specs.Replies.{first_refusal, good_blocks, too_few_good, unless, power_up_refusal, read_refusal, write_refusal, block_write_refusal}
use Rattle.laws.proofs.Tests.{is_false, true_is}
use Rattle.laws.proofs.Shape.{within_limits_within}
use Rattle.laws.proofs.First.{first_none, first_append}
use Rattle.roles.specs.Passes.{good_to, census_to, census}
use Rattle.refusals.specs.Orders.{call_tests, card_tests, late_tests, call_refusal, card_refusal, late_refusal, open_tests, open_refusal, ok_unless}

-- the result of a function that tests, by the first refusal that applies
pub told : {p q : Option Refusal} → p ≡ q → ◌≡◌ {A = Result (Unit {0}) Refusal} (ok_unless q tt) (ok_unless p tt)
told e = ap (λ (r : Option Refusal). ok_unless {A = Unit {0}} r tt) (sym e)

-- what such a result says of that refusal
pub told_ok : (q : Option Refusal) {u : Unit {0}} → ok_unless q (tt {0}) ≡ Ok u → q ≡ None
told_ok None e = refl
told_ok (Some r) e = cc

pub told_err : (q : Option Refusal) {r : Refusal} → ok_unless q (tt {0}) ≡ Err r → q ≡ Some r
told_err None e = cc
told_err (Some x) e = cc

-- ---- what a call, the records and the census of a card that is not refused show

pub record Accepted (s : Shape) (bytes spares : ℕ) (sized ranged : Bool) : Type 0 where
  pub within : Within s bytes spares
  pub lengths : sized ≡ true
  pub in_range : ranged ≡ true

passed : (b : Bool) → (T (not b) → ⊥) → b ≡ true
passed b f = not-false b (is_false (not b) f)

pub call_accepts : (s : Shape) (bytes spares : ℕ) (sized ranged : Bool) → call_refusal s bytes spares sized ranged ≡ None
    → Accepted s bytes spares sized ranged
call_accepts s bytes spares sized ranged e =
    let f = first_none (call_tests s bytes spares sized ranged) e in
    record {
      within = within_limits_within s bytes spares (true_is (within_limits s bytes spares) (passed (within_limits s bytes spares) f.0));
      lengths = passed sized f.1.0;
      in_range = passed ranged f.1.1.0;
    }

pub card_accepts : (s : Shape) (c : Blocks) → card_refusal s c ≡ None → (too_few_good s c ≡ false) × (well_formed s c ≡ true)
card_accepts s c e =
    let f = first_none (card_tests s c) e in
    (is_false (too_few_good s c) f.0, passed (well_formed s c) f.1.0)

-- by the number of good ones
pub few_by : (s : Shape) (c : Blocks) {n : ℕ} {b : Bool} → n ≡ good_to c s.blocks → b ≡ ltb n (good_needed s) → b ≡ too_few_good s c
unfolding good_blocks
few_by s c e f = f ∙ ap (λ (k : ℕ). ltb k (good_needed s)) e

-- ---- one group after the other

module _ (s : Shape) (im : Image) where
  pub open_order : (sized ranged : Bool) {q : Option Refusal} → q ≡ call_refusal s (length im.bytes) (length im.spare) sized ranged
      → open_refusal s im sized ranged ≡ unless q Some (card_refusal s (blocks_of s im))
  unfolding open_refusal
  open_order sized ranged e =
      first_append (call_tests s (length im.bytes) (length im.spare) sized ranged) (card_tests s (blocks_of s im))
      ∙ ap (λ (r : Option Refusal). unless r Some (card_refusal s (blocks_of s im))) (sym e)

  pub read_order : (size a : ℕ) → read_refusal s im (blocks_of s im) size a ≡ open_refusal s im (eqb size 512) (in_range s a)
  unfolding read_refusal open_refusal
  read_order size a = refl

  pub power_up_order : (size : ℕ) → power_up_refusal s im (blocks_of s im) size ≡ open_refusal s im (eqb size (2 * s.logical)) true
  unfolding power_up_refusal open_refusal first_refusal
  power_up_order size = refl

  -- 1 to 5, then 6 and 7
  late_order : (sized ranged : Bool) (needed : ℕ) {q : Option Refusal} → q ≡ open_refusal s im sized ranged
      → first_refusal (open_tests s im (blocks_of s im) sized ranged ++ late_tests (census s (blocks_of s im)) needed)
      ≡ unless q Some (late_refusal (census s (blocks_of s im)) needed)
  unfolding open_refusal
  late_order sized ranged needed e =
      first_append (open_tests s im (blocks_of s im) sized ranged) (late_tests (census s (blocks_of s im)) needed)
      ∙ ap (λ (r : Option Refusal). unless r Some (late_refusal (census s (blocks_of s im)) needed)) (sym e)

  pub write_order : (size a : ℕ) {q : Option Refusal} → q ≡ open_refusal s im (eqb size 512) (in_range s a)
      → write_refusal s im (blocks_of s im) size a
      ≡ unless q Some (late_refusal (census s (blocks_of s im)) (numbers_needed (write_case s (blocks_of s im) (block_of s a))))
  unfolding write_refusal census_to highest
  write_order size a e = late_order (eqb size 512) (in_range s a) (numbers_needed (write_case s (blocks_of s im) (block_of s a))) e

  pub block_write_order : (size l : ℕ) {q : Option Refusal} → q ≡ open_refusal s im (eqb size (s.pages * 512)) (ltb l s.logical)
      → block_write_refusal s im (blocks_of s im) size l ≡ unless q Some (late_refusal (census s (blocks_of s im)) 1)
  unfolding block_write_refusal census_to highest
  block_write_order size l e = late_order (eqb size (s.pages * 512)) (ltb l s.logical) 1 e

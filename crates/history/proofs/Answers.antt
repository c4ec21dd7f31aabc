-- What the replies say: the refusals as facts, and the number and the erases of an answer.
use mathlib.Core.Path.{◌≡◌, refl, ap}
use mathlib.Core.Logic.{◌⊎◌, inl, inr}
use mathlib.Core.Bool.{Bool, true, false, not, cond}
use mathlib.Core.List.{List}
use Prim.Native.Nat.{ℕ, ◌+◌, ◌*◌, ◌≤◌, ◌<◌}
use native.Mathlib.Omega.{arith}
use lib.ListN.{length, take}
use lib.Seq.{take_all}
use lib.Dec.{T, ltb, eqb, eqb→eq, T_not, not_T, lt→ltb, nltb→le}
use Rattle.std.specs.Prelude.{Option, Some, None}
use Rattle.rules.specs.declared.shape.Shape.{Shape}
use Rattle.rules.specs.declared.refusal.Refusal.{Refusal}
use Rattle.rules.specs.declared.refusal.Refusal.TheVariants.{OutsideLimits, WrongLength, OutOfRange, TooFewGood, IllFormed, Unrecovered, OutOfNumbers}
use Rattle.rules.specs.declared.answer.Answer.TheVariants.{Done, Cut}
use Rattle.rules.specs.Spare.{number_limit}
use Rattle.rules.specs.Shape.{good_needed, block_of, in_range, within_limits}
use Rattle.rules.specs.Page.{Image}
use Rattle.rules.specs.WellFormed.{Blocks, blocks_of, well_formed}
use Rattle.rules.specs.Steps.{Step, programs, erases, highest, write_case, numbers_needed}
use Rattle.rules.specs.Replies.{refusal_number, number, programs_of, erases_of, good_blocks, first_refusal, outside_limits, too_few_good, unrecovered, out_of_numbers, power_up_refusal, read_refusal, write_refusal, block_write_refusal, unless, refused_by, carried_out, power_up_tests, read_tests, writing_tests}
use Rattle.laws.proofs.First.{first_none, first_by}
use Rattle.laws.proofs.Tests.{cond_yes, cond_no, lt_or_le, nlt→ltb}
use Rattle.laws.proofs.Shape.{within_limits_within, within_within_limits}
use Rattle.laws.proofs.Roles.{well_formed_e, well_formed_i, recovered_e, recovered_i, Recovered}
use Rattle.laws.proofs.Records.{blocks_of_records}
use Rattle.history.specs.History.{Tells}
use Rattle.history.specs.Demands.{RecoveredCard}
use Rattle.laws.proofs.Erasing.{Sound}

-- ---- refusals as facts

pub passes : (b : Bool) → (T (not b) → ⊥) → T b
passes true f = tt
passes false f = absurd (f tt)

module _ (s : Shape) (im : Image) where
  abbrev c : Blocks
  c = blocks_of s im

  pub sound_of : (T (outside_limits s im) → ⊥) → (T (too_few_good s c) → ⊥) → T (well_formed s c) → Sound s im
  sound_of f g t =
      let w = within_limits_within s (length im.bytes) (length im.spare) (passes (within_limits s (length im.bytes) (length im.spare)) f) in
      record {
        fits = w;
        wf = well_formed_e s c (blocks_of_records s im (omega (arith, w.limits.pages_low)) w.limits.blocks_high) t;
        enough = nltb→le (good_blocks s c) (good_needed s) (not_T (too_few_good s c) g);
      }

  module _ (w : Sound s im) where
    pub sound_1 : T (outside_limits s im) → ⊥
    sound_1 t =
        T_not (within_limits s (length im.bytes) (length im.spare)) t (within_within_limits s (length im.bytes) (length im.spare) w.fits)

    pub sound_4 : T (too_few_good s c) → ⊥
    sound_4 = nlt→ltb (good_blocks s c) (good_needed s) w.enough

    pub sound_5 : T (well_formed s c)
    sound_5 = well_formed_i s c w.wf.records w.wf

    not_5 : T (not (well_formed s c)) → ⊥
    not_5 t = T_not (well_formed s c) t sound_5

  pub card_of : Sound s im → Recovered s c → RecoveredCard s im
  card_of w rec = record { not1 = sound_1 w; not4 = sound_4 w; not5 = sound_5 w; not6 = recovered_i s c rec }

  pub of_card : RecoveredCard s im → Sound s im × Recovered s c
  of_card r = let w = sound_of r.not1 r.not4 r.not5 in (w, recovered_e s c w.wf.records r.not6)

-- ---- what no refusal says

-- of a write or block write: given `size` bytes where `want` are asked, for a place that is in range or not, with new numbers needed
pub record Taken (s : Shape) (im : Image) (size want : ℕ) (place : Bool) (needed : ℕ) : Type 0 where
  pub sound : Sound s im
  pub long : size ≡ want
  pub inside : T place
  pub clean : Recovered s (blocks_of s im)
  pub fit : highest s (blocks_of s im) + needed ≤ number_limit

taken : (s : Shape) (im : Image) (size want : ℕ) (place : Bool) (needed : ℕ) → first_refusal (writing_tests s im (blocks_of s im) (eqb size want) place needed) ≡ None
    → Taken s im size want place needed
taken s im size want place needed e =
    let (f₁, (f₂, (f₃, (f₄, (f₅, (f₆, (f₇, _))))))) = first_none (writing_tests s im (blocks_of s im) (eqb size want) place needed) e in
    let w = sound_of s im f₁ f₄ (passes (well_formed s (blocks_of s im)) f₅) in
    record {
      sound = w;
      long = eqb→eq size want (passes (eqb size want) f₂);
      inside = passes place f₃;
      clean = recovered_e s (blocks_of s im) w.wf.records f₆;
      fit = nltb→le number_limit (highest s (blocks_of s im) + needed) (not_T (out_of_numbers s (blocks_of s im) needed) f₇);
    }

module _ (s : Shape) (im : Image) (size : ℕ) where
  abbrev pub WriteTaken : ℕ → Type 0
  WriteTaken a = Taken s im size 512 (in_range s a) (numbers_needed (write_case s (blocks_of s im) (block_of s a)))

  abbrev pub BlockWriteTaken : ℕ → Type 0
  BlockWriteTaken l = Taken s im size (s.pages * 512) (ltb l s.logical) 1

  pub write_taken : (a : ℕ) → write_refusal s im (blocks_of s im) size a ≡ None → WriteTaken a
  unfolding write_refusal
  write_taken a = taken s im size 512 (in_range s a) (numbers_needed (write_case s (blocks_of s im) (block_of s a)))

  pub block_write_taken : (l : ℕ) → block_write_refusal s im (blocks_of s im) size l ≡ None → BlockWriteTaken l
  unfolding block_write_refusal
  block_write_taken l = taken s im size (s.pages * 512) (ltb l s.logical) 1

pub record ReadTaken (s : Shape) (im : Image) (size a : ℕ) : Type 0 where
  pub sound : Sound s im
  pub long : size ≡ 512
  pub inside : T (in_range s a)

pub read_taken : (s : Shape) (im : Image) (size a : ℕ) → read_refusal s im (blocks_of s im) size a ≡ None → ReadTaken s im size a
unfolding read_refusal
read_taken s im size a e =
    let (f₁, (f₂, (f₃, (f₄, (f₅, _))))) = first_none (read_tests s im (blocks_of s im) size a) e in
    record {
      sound = sound_of s im f₁ f₄ (passes (well_formed s (blocks_of s im)) f₅);
      long = eqb→eq size 512 (passes (eqb size 512) f₂);
      inside = passes (in_range s a) f₃;
    }

pub power_up_taken : (s : Shape) (im : Image) (size : ℕ) → power_up_refusal s im (blocks_of s im) size ≡ None → Sound s im
unfolding power_up_refusal
power_up_taken s im size e =
    let (f₁, (f₂, (f₄, (f₅, _)))) = first_none (power_up_tests s im (blocks_of s im) size) e in
    sound_of s im f₁ f₄ (passes (well_formed s (blocks_of s im)) f₅)

-- ---- refusals on a sound image: none of 1, 4 and 5 applies

module _ (s : Shape) (im : Image) (w : Sound s im) (Q : Option Refusal → Type 0) where
  abbrev k : Blocks
  k = blocks_of s im

  pub power_up_refusal_lem : (size : ℕ) → (T (not (eqb size (2 * s.logical))) → Q (Some WrongLength)) → Q None → Q (power_up_refusal s im (blocks_of s im) size)
  unfolding power_up_refusal
  power_up_refusal_lem size q2 q0 =
      first_by Q (power_up_tests s im k size) ((λ t. absurd (sound_1 s im w t)), (q2, ((λ t. absurd (sound_4 s im w t)), ((λ t. absurd (not_5 s im w t)), tt)))) q0

  pub read_refusal_lem : (size a : ℕ) → (T (not (eqb size 512)) → Q (Some WrongLength)) → (T (not (in_range s a)) → Q (Some OutOfRange)) → Q None
      → Q (read_refusal s im (blocks_of s im) size a)
  unfolding read_refusal
  read_refusal_lem size a q2 q3 q0 =
      first_by Q (read_tests s im k size a)
      ((λ t. absurd (sound_1 s im w t)), (q2, (q3, ((λ t. absurd (sound_4 s im w t)), ((λ t. absurd (not_5 s im w t)), tt))))) q0

  -- of a write or block write
  pub writing_refusal : (size want : ℕ) (place : Bool) (needed : ℕ) → (T (not (eqb size want)) → Q (Some WrongLength)) → (T (not place) → Q (Some OutOfRange))
      → (T (unrecovered s (blocks_of s im)) → Q (Some Unrecovered))
      → Q (Some OutOfNumbers)
      → Q None
      → Q (first_refusal (writing_tests s im (blocks_of s im) (eqb size want) place needed))
  writing_refusal size want place needed q2 q3 q6 q7 q0 =
      first_by Q (writing_tests s im (blocks_of s im) (eqb size want) place needed)
      ((λ t. absurd (sound_1 s im w t)), (q2, (q3, ((λ t. absurd (sound_4 s im w t)), ((λ t. absurd (not_5 s im w t)), (q6, ((λ t. q7), tt))))))) q0

-- ---- replies

module _ (cut : ℕ) (ts : List Step) where
  -- 8 where the list is cut, else 0
  pub done_number : ((number (carried_out cut ts).answer ≡ 0) × (length ts ≤ cut)) ⊎ ((number (carried_out cut ts).answer ≡ 8) × (cut < length ts))
  done_number =
      elim (lt_or_le cut (length ts)) [
        | inl h ↦ inr (ap number (cond_yes (ltb cut (length ts)) _ _ (lt→ltb cut (length ts) h)), h)
        | inr h ↦ inl (ap number (cond_no (ltb cut (length ts)) _ _ (nlt→ltb cut (length ts) h)), h)
      ]

-- no refusal has number 0
pub refusal_number_low : (r : Refusal) → 1 ≤ refusal_number r
refusal_number_low OutsideLimits = omega arith
refusal_number_low WrongLength = omega arith
refusal_number_low OutOfRange = omega arith
refusal_number_low TooFewGood = omega arith
refusal_number_low IllFormed = omega arith
refusal_number_low Unrecovered = omega arith
refusal_number_low OutOfNumbers = omega arith

-- answered 0: nothing is refused, and the whole list is done
pub answered_0 : (r : Option Refusal) (cut : ℕ) (ts : List Step) → number (unless r refused_by (carried_out cut ts)).answer ≡ 0
    → (r ≡ None) × (take cut ts ≡ ts)
answered_0 None cut ts e = (refl, elim (done_number cut ts) [ inl q ↦ take_all cut ts q.1 | inr q ↦ absurd (omega (arith, q.0)) ])
answered_0 (Some r) cut ts e = absurd (omega (arith, refusal_number_low r))

pub counts_told : (r : Option Refusal) (cut : ℕ) (ts : List Step) → Tells (unless r refused_by (carried_out cut ts))
counts_told (Some r) cut ts = (refl, refl)
counts_told None cut ts = go (ltb cut (length ts))
  where
    p : ℕ
    p = programs (take cut ts)

    e : ℕ
    e = erases (take cut ts)

    go : (b : Bool) → (programs_of (cond b (Cut p e) (Done p e)) ≡ p) × (erases_of (cond b (Cut p e) (Done p e)) ≡ e)
    go true = (refl, refl)
    go false = (refl, refl)

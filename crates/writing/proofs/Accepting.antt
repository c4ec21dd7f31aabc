-- Laws of the refusals of write and block write, one group after the other, and of what is planned where none applies.
use mathlib.Core.Path.{◌≡◌, refl, sym, ap, ◌∙◌}
use mathlib.Core.List.{List}
use Prim.Native.Nat.{ℕ, ◌*◌}
use lib.Dec.{eqb, ltb, ltb→lt}
use lib.ListN.{length}
use Rattle.std.specs.Prelude.{Option, Some, None, Ok, Err}
use Rattle.rules.specs.declared.shape.Shape.{Shape}
use Rattle.rules.specs.declared.refusal.Refusal.{Refusal}
use Rattle.rules.specs.Shape.{block_of, in_range}
use Rattle.rules.specs.Page.{Image}
use Rattle.rules.specs.WellFormed.{Blocks, blocks_of}
use Rattle.rules.specs.Steps.{Case, room, fresh, merging, write_case, numbers_needed, block_write_list}
use Rattle.rules.specs.Replies.{unless, write_refusal, block_write_refusal}
use Rattle.laws.proofs.First.{unless_some, unless_none}
use Rattle.history.proofs.Answers.{write_taken, block_write_taken}
use Rattle.roles.specs.declared.census.Census.{Census}
use Rattle.roles.specs.Passes.{census, seats}
use Rattle.refusals.specs.Orders.{late_refusal, open_refusal, ok_unless}
use Rattle.refusals.proofs.Refusing.{write_order, block_write_order, told_ok, told_err}
use Rattle.plans.specs.declared.plan.Plan.{Plan}
use Rattle.plans.specs.declared.renewal.Renewal.{Renewal}
use Rattle.plans.specs.Plans.{plan_for, plan_of, renewal_by}
use Rattle.plans.proofs.Choosing.{renewal_is}
use Rattle.carry.specs.Carrying.{Renewable, Kept, renewal_steps}
use Rattle.carry.proofs.Planning.{Ready, ready, loadable}

-- the new numbers that a plan needs are those of the definition
pub plan_needs : (s : Shape) (c : Blocks) (a : ℕ) {p : Plan} → p ≡ plan_of s c a → p.needed ≡ numbers_needed (write_case s c (block_of s a))
unfolding plan_of
plan_needs s c a e = ap (λ (q : Plan). q.needed) e ∙ go (write_case s c (block_of s a))
  where
    go : (k : Case) → (plan_for s c a k).needed ≡ numbers_needed k
    go room = refl
    go fresh = refl
    go (merging l) = refl

-- q is the refusal of 1 to 5, R that of the command
module _ (s : Shape) (im : Image) (needed : ℕ) {q R : Option Refusal} (order : R ≡ unless q Some (late_refusal (census s (blocks_of s im)) needed)) where
  -- 1 to 5
  pub refused_first : {r : Refusal} → q ≡ Some r → R ≡ Some r
  refused_first e = order ∙ unless_some Some _ e

  -- 6 and 7, by the census t of the records
  pub refused_late : q ≡ None → {t : Census} {m : ℕ} {late : Option Refusal} → t ≡ census s (blocks_of s im) → m ≡ needed → late_refusal t m ≡ late
      → R ≡ late
  refused_late z {t} {m} f g h =
      order ∙ unless_none Some _ z ∙ sym (ap (λ (u : Census). late_refusal u m) f ∙ ap (late_refusal (census s (blocks_of s im))) g) ∙ h

-- ---- write of page a with the bytes d, by the census found at its opening and the plan p

module _ (s : Shape) (im : Image) (a : ℕ) (d : List ℕ) {found : Census} {p : Plan} (opened : open_refusal s im (eqb (length d) 512) (in_range s a) ≡ None)
    (counted : found ≡ census s (blocks_of s im)) (made : p ≡ plan_of s (blocks_of s im) a) where
  late : {r : Option Refusal} → late_refusal found p.needed ≡ r → write_refusal s im (blocks_of s im) (length d) a ≡ r
  late e = refused_late s im _ (write_order s im (length d) a refl) opened counted (plan_needs s (blocks_of s im) a made) e

  pub write_refused : {r : Refusal} → ok_unless (late_refusal found p.needed) (tt {0}) ≡ Err r → write_refusal s im (blocks_of s im) (length d) a ≡ Some r
  write_refused e = late (told_err _ e)

  pub write_ready : {u : Unit {0}} → ok_unless (late_refusal found p.needed) (tt {0}) ≡ Ok u
      → (write_refusal s im (blocks_of s im) (length d) a ≡ None) × Ready s im (blocks_of s im) p a d
  write_ready e =
      let none = late (told_ok _ e) in
      let w = write_taken s im (length d) a none in
      (none, ready s im w.sound w.clean a w.inside d w.long {c = blocks_of s im} refl made w.fit)

-- ---- block write of logical block l with the bytes d, by the census found at its opening and the renewal r

module _ (s : Shape) (im : Image) (l : ℕ) (d : List ℕ) {found : Census} (opened : open_refusal s im (eqb (length d) (s.pages * 512)) (ltb l s.logical) ≡ None)
    (counted : found ≡ census s (blocks_of s im)) where
  late_block : {r : Option Refusal} → late_refusal found 1 ≡ r → block_write_refusal s im (blocks_of s im) (length d) l ≡ r
  late_block e = refused_late s im 1 (block_write_order s im (length d) l refl) opened counted refl e

  pub block_write_refused : {r : Refusal} → ok_unless (late_refusal found 1) (tt {0}) ≡ Err r
      → block_write_refusal s im (blocks_of s im) (length d) l ≡ Some r
  block_write_refused e = late_block (told_err _ e)

  pub block_write_ready : {u : Unit {0}} {r : Renewal} → ok_unless (late_refusal found 1) (tt {0}) ≡ Ok u
      → r ≡ renewal_by found l (seats s (blocks_of s im) l)
      → (block_write_refusal s im (blocks_of s im) (length d) l ≡ None) × Renewable s r (Some d) × Kept s im (blocks_of s im) r (Some d)
      × (renewal_steps s im (blocks_of s im) r (Some d) ≡ block_write_list s (blocks_of s im) l d)
  block_write_ready e made =
      let none = late_block (told_ok _ e) in
      let w = block_write_taken s im (length d) l none in
      let load = loadable s im w.sound w.clean l (ltb→lt l s.logical w.inside) w.fit d w.long {c = blocks_of s im} refl
      (made ∙ renewal_is s (blocks_of s im) counted l refl) in
      (none, load.0, load.1, load.2)

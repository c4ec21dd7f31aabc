-- Demands 2 and 3, and that the card never gets stuck: the proofs of the statements in specs/Demands.antt.
use mathlib.Core.Path.{◌≡◌, refl, sym, ap, ◌∙◌, subst, subst₃}
use mathlib.Core.Logic.{◌≢◌, ◌⊎◌, inl, inr}
use mathlib.Core.Bool.{Bool, not, ◌&&◌}
use mathlib.Core.List.{List, [], ◌∷◌, ◌++◌}
use Prim.Native.Nat.{ℕ, zero, suc, ◌+◌, ◌*◌, ◌/◌, ◌≤◌}
use native.Mathlib.Omega.{arith}
use native.Mathlib.Nat.{le-div_iff_mul-le}
use lib.ListN.{length, take}
use lib.Dec.{T, ltb, eqb, T_not}
use Rattle.std.specs.Prelude.{Option, Some, None, is_none}
use Rattle.rules.specs.declared.shape.Shape.{Shape}
use Rattle.rules.specs.declared.refusal.Refusal.{Refusal}
use Rattle.rules.specs.Shape.{shape_of, block_of, in_range}
use Rattle.rules.specs.Page.{Image}
use Rattle.rules.specs.WellFormed.{Blocks, is_bad, blocks_of, well_formed}
use Rattle.rules.specs.Content.{holder, bytes_at, content}
use Rattle.rules.specs.Steps.{format_list, Step, steps_done, power_up_list, numbers_needed, write_list, block_write_list}
use Rattle.rules.specs.Replies.{refusal_number, first_refusal, writing_tests, format_refusal, format_reply, number, shape_for, image_left, carried_out, refused_by, unless, read_refusal, power_up_refusal, write_refusal, block_write_refusal, read_reply, power_up_reply, write_reply, block_write_reply, table_of, table_left, page_left, lent_page, lent_bytes}
use Rattle.laws.proofs.Tests.{chain_each, cond_yes, eq→eqb}
use Rattle.laws.proofs.Roles.{Recovered, taken_free}
use Rattle.history.specs.History.{Tells, Command, read, write, block_write, power_up, reply_to, Event, History, format, formatted_image, end, shape, events, page_after, last_from, last_write, writes_in, cuts_in, erases_in, FallIn, steps_in, never_twice, FindErased, left_alone}
use Rattle.history.specs.Demands.{CountsAreOfTheSteps, ReadsTheLastWrite, OneMoreCommand, OnAnyImage, LendsWhatIsRead, NeverProgrammedTwice, BadBlocksStay, SameBadBlocks, StaysWellFormed, AtMostTwiceTheWrites, FewLogicalBlocks, ShortLists, BlockWriteLists, RecoveredCard, WriteIsTaken, BlockWriteIsTaken, PowerUpRecovers, TableOfTheImageLeft, WriteLeavesRecovered, BlockWriteLeavesRecovered, ThereIsAFreeBlock, AFreeBlockAfterTheMerge}
use Rattle.laws.proofs.Along.{AllAllowed, allowed_take, allowed_append}
use Rattle.laws.proofs.Erasing.{Sound, content_of, SamePlaces}
use Rattle.laws.proofs.Renewal.{renewal-programs, renewal-erases}
use Rattle.laws.proofs.Cases.{write_cases}
use Rattle.history.proofs.Cost.{log_pages_none}
use Rattle.history.proofs.Plan.{plan_end, plan_erases}
use Rattle.history.proofs.Prepare.{none_in, pre_goal}
use Rattle.history.proofs.Write.{the_case, pre_image, write_is, write-programs}
use Rattle.history.proofs.BlockWrite.{block_write_is, block_write_ok}
use Rattle.history.proofs.Answers.{counts_told, sound_5, card_of, of_card, write_taken, block_write_taken, read_taken, power_up_taken, power_up_refusal_lem, read_refusal_lem, writing_refusal, done_number, answered_0}
use Rattle.history.proofs.Outcome.{power_up_cut, power_up_end, taken_plan, outcome}
use Rattle.history.proofs.Format.{JustFormatted, format_done}
use Rattle.history.proofs.Programs.{find_erased, never_twice_lem, steps_bad, bad_alone}
use Rattle.history.proofs.Histories.{after, events_of, one_shape, sound_after, holds_after, allowed_after, wear, wear_few}

-- ---- a history, for the one shape that its commands find

module _ (h : History) where
  abbrev s : Shape
  s = shape_for h.pages h.logical h.logs h.given

  start : JustFormatted s h.given (format h)
  start = format_done s h.given h.cut h.formatted

  shape_formatted : shape_for h.pages h.logical h.logs (formatted_image h) ≡ s
  shape_formatted = ap (shape_of h.pages h.logical h.logs) (start.sound.fits.bytes_long ∙ sym start.fits.bytes_long)

  abbrev es : List Event
  es = events_of s (formatted_image h) h.commands

  abbrev im : Image
  im = after s (formatted_image h) h.commands

  known : (events h ≡ es) × (end h ≡ im) × (shape_for h.pages h.logical h.logs im ≡ s)
  known = one_shape h.pages h.logical h.logs s (formatted_image h) h.commands shape_formatted start.sound

  -- what holds of that shape holds of the history
  by_shape : (Q : Shape → Image → List Event → Type 0) → Q s im es → Q (shape h) (end h) (events h)
  by_shape Q q =
      subst₃ Q (sym (ap (shape_for h.pages h.logical h.logs) known.1 ∙ known.2)) (sym known.1) (sym known.0) q

  sound : Sound s im
  sound = sound_after s (formatted_image h) h.commands start.sound

  holds : (a : ℕ) → content_of s im a ≡ last_write s es a
  holds a = holds_after s (formatted_image h) h.commands start.sound a ∙ ap (last_from s es a) (start.blank a)

  -- each step of the history is allowed where it is done
  all_allowed : AllAllowed s ((format h).steps ++ steps_in es) h.given
  all_allowed =
      allowed_append s (format h).steps (steps_in es) h.given start.allowed
      (allowed_after s (formatted_image h) h.commands start.sound)

-- ---- demand 2

module _ (s : Shape) (im : Image) (w : Sound s im) (buffer : List ℕ) (a : ℕ) (long : length buffer ≡ 512) (t : T (in_range s a)) where
  taken_read : read_refusal s im (blocks_of s im) (length buffer) a ≡ None
  taken_read =
      read_refusal_lem s im w (λ r. r ≡ None) (length buffer) a (λ u. absurd (T_not (eqb (length buffer) 512) u (eq→eqb (length buffer) 512 long)))
      (λ u. absurd (T_not (in_range s a) u t)) refl

  read_gives : page_left s im buffer a ≡ content_of s im a
  unfolding page_left
  read_gives = rw taken_read refl

  read_zero : number (read_reply s im (length buffer) a).answer ≡ 0
  unfolding read_reply
  read_zero = rw taken_read refl

pub reads_the_last_write : ReadsTheLastWrite
reads_the_last_write h a buffer =
    by_shape h (λ z im es. T (in_range z a) → length buffer ≡ 512 → (number (read_reply z im (length buffer) a).answer ≡ 0)
    × (page_left z im buffer a ≡ last_write z es a))
    (λ t long. (read_zero (s h) (im h) (sound h) buffer a long t, read_gives (s h) (im h) (sound h) buffer a long t ∙ holds h a))

pub on_any_image : OnAnyImage
unfolding read_reply
on_any_image s im x a buffer e =
    let t = read_taken s im (length buffer) a (answered_0 (read_refusal s im (blocks_of s im) (length buffer) a) 0 [] e).0 in
    let o = outcome s im t.sound x in
    let im' : Image = image_left s im (reply_to s im x) in (
      read_zero s im' o.sound buffer a t.long t.inside,
      read_gives s im' o.sound buffer a t.long t.inside ∙ o.holds a
          ∙ ap (page_after s x (reply_to s im x) a) (sym (read_gives s im t.sound buffer a t.long t.inside)),
    )

pub one_more_command : OneMoreCommand
one_more_command h x a buffer t long = (on_any_image (shape h) (end h) x a buffer (reads_the_last_write h a buffer t long).0).1

nowhere : {p : ℕ} → None ≡ Some p → ⊥
nowhere e = subst (λ (q : Option ℕ). T (is_none q)) e tt

pub lends_what_is_read : LendsWhatIsRead
unfolding page_left lent_page content
lends_what_is_read s im a p buffer long = rw long (go (read_refusal s im (blocks_of s im) 512 a) (holder s im (blocks_of s im) a))
  where
    -- nothing is lent where r refuses, or where no page holds the content
    go : (r : Option Refusal) (q : Option ℕ) → unless r (λ x. None) q ≡ Some p
        → unless r (λ x. buffer) (bytes_at im q) ≡ lent_bytes im (unless r (λ x. None) q)
    go None (Some i) e = refl
    go None None e = absurd (nowhere e)
    go (Some r) q e = absurd (nowhere e)

pub never_programmed_twice : NeverProgrammedTwice
never_programmed_twice h =
    by_shape h (λ z im es. T (never_twice z ((format h).steps ++ steps_in es)) × FindErased z ((format h).steps ++ steps_in es) h.given) (
      never_twice_lem (s h) ((format h).steps ++ steps_in (es h)) h.given (start h).fits (all_allowed h),
      find_erased (s h) ((format h).steps ++ steps_in (es h)) h.given (all_allowed h),
    )

pub bad_blocks_stay : BadBlocksStay
bad_blocks_stay h b =
    by_shape h (λ z im es. T (is_bad z h.given b) → T (left_alone z b ((format h).steps ++ steps_in es)))
    (bad_alone (s h) b ((format h).steps ++ steps_in (es h)) h.given (start h).fits (all_allowed h))

pub same_bad_blocks : SameBadBlocks
same_bad_blocks h b k =
    by_shape h (λ z im es. is_bad z (steps_done z (take k ((format h).steps ++ steps_in es)) h.given) b ≡ is_bad z h.given b)
    (steps_bad (s h) b (take k ((format h).steps ++ steps_in (es h))) h.given (start h).fits
    (allowed_take (s h) k ((format h).steps ++ steps_in (es h)) h.given (all_allowed h)))

-- the number of a refusal, 0 for none
abbrev numbered : Option Refusal → ℕ
numbered None = 0
numbered (Some r) = refusal_number r

-- the number of an answer is that of the refusal, or 8
number-cases : (r : Option Refusal) (cut : ℕ) (ts : List Step)
    → (number (unless r refused_by (carried_out cut ts)).answer ≡ numbered r) ⊎ (number (unless r refused_by (carried_out cut ts)).answer ≡ 8)
number-cases None cut ts = elim (done_number cut ts) [ inl q ↦ inl q.0 | inr q ↦ inr q.0 ]
number-cases (Some r) cut ts = inl refl

-- none of 1, 4 and 5
abbrev Fine : ℕ → Type 0
Fine n = (n ≢ 1) × (n ≢ 4) × (n ≢ 5)

fine : (n : ℕ) → T (not (eqb n 1) && not (eqb n 4) && not (eqb n 5)) → Fine n
fine n t =
    let q = chain_each (not (eqb n 1)) (not (eqb n 4) ∷ not (eqb n 5) ∷ []) t in (
      (λ e. T_not (eqb n 1) q.0 (eq→eqb n 1 e)),
      (λ e. T_not (eqb n 4) q.1.0 (eq→eqb n 4 e)),
      (λ e. T_not (eqb n 5) q.1.1.0 (eq→eqb n 5 e)),
    )

fine_number : (r : Option Refusal) (cut : ℕ) (ts : List Step) → Fine (numbered r) → Fine (number (unless r refused_by (carried_out cut ts)).answer)
fine_number r cut ts f = elim (number-cases r cut ts) [ inl e ↦ subst Fine (sym e) f | inr e ↦ subst Fine (sym e) (fine 8 tt) ]

-- the refusal of a write or block write
fine_writing : (s : Shape) (im : Image) → Sound s im → (size want : ℕ) (place : Bool) (needed : ℕ)
    → Fine (numbered (first_refusal (writing_tests s im (blocks_of s im) (eqb size want) place needed)))
fine_writing s im w size want place needed =
    writing_refusal s im w (λ r. Fine (numbered r)) size want place needed (λ t. fine 2 tt) (λ t. fine 3 tt) (λ t. fine 6 tt) (fine 7 tt) (fine 0 tt)

never_1_4_5 : (s : Shape) (im : Image) → Sound s im → (x : Command) → Fine (number (reply_to s im x).answer)
unfolding read_reply write_reply block_write_reply power_up_reply write_refusal block_write_refusal
never_1_4_5 s im w (read a buffer) =
    fine_number (read_refusal s im (blocks_of s im) (length buffer) a) 0 []
    (read_refusal_lem s im w (λ r. Fine (numbered r)) (length buffer) a (λ t. fine 2 tt) (λ t. fine 3 tt) (fine 0 tt))
never_1_4_5 s im w (write a d cut) =
    fine_number (write_refusal s im (blocks_of s im) (length d) a) cut (write_list s im (blocks_of s im) a d)
    (fine_writing s im w (length d) 512 (in_range s a) (numbers_needed (the_case s im a d)))
never_1_4_5 s im w (block_write l d cut) =
    fine_number (block_write_refusal s im (blocks_of s im) (length d) l) cut (block_write_list s (blocks_of s im) l d)
    (fine_writing s im w (length d) (s.pages * 512) (ltb l s.logical) 1)
never_1_4_5 s im w (power_up table cut) =
    fine_number (power_up_refusal s im (blocks_of s im) (length table)) cut (power_up_list s (blocks_of s im))
    (power_up_refusal_lem s im w (λ r. Fine (numbered r)) (length table) (λ t. fine 2 tt) (fine 0 tt))

pub stays_well_formed : StaysWellFormed
stays_well_formed h =
    by_shape h
    (λ z im es. T (well_formed z (blocks_of z im))
    × ((x : Command) → (number (reply_to z im x).answer ≢ 1) × (number (reply_to z im x).answer ≢ 4) × (number (reply_to z im x).answer ≢ 5)))
    (sound_5 (s h) (im h) (sound h), never_1_4_5 (s h) (im h) (sound h))

-- ---- demand 3

pub counts_are_of_the_steps : CountsAreOfTheSteps
unfolding format_reply read_reply write_reply block_write_reply power_up_reply
counts_are_of_the_steps s im = (
  (λ cut. counts_told (format_refusal s im c) cut (format_list s c)),
  λ x. elim x as (λ k. Tells (reply_to s im k)) [
    | read a buffer ↦ counts_told (read_refusal s im c (length buffer) a) 0 []
    | write a d cut ↦ counts_told (write_refusal s im c (length d) a) cut (write_list s im c a d)
    | block_write l d cut ↦ counts_told (block_write_refusal s im c (length d) l) cut (block_write_list s c l d)
    | power_up table cut ↦ counts_told (power_up_refusal s im c (length table)) cut (power_up_list s c)
  ],
)
  where
    c : Blocks
    c = blocks_of s im

pub at_most_twice_the_writes : AtMostTwiceTheWrites
at_most_twice_the_writes h =
    by_shape h (λ z im es. erases_in es ≤ 2 * writes_in h.pages es)
    (omega (arith, wear (s h) (formatted_image h) h.commands (start h).sound, none_in (s h) (formatted_image h) (start h).clean))

pub few_logical_blocks : FewLogicalBlocks
few_logical_blocks h S few =
    by_shape h (λ z im es. FallIn z S es → erases_in es ≤ 2 * (writes_in h.pages es / h.pages) + cuts_in es)
    (λ f.
    let r = wear_few (s h) S few (formatted_image h) h.commands (start h).sound (λ l n j t e. (start h).no_live j t) f in
    let q : r.0 ≤ writes_in h.pages (es h) / h.pages =
    (le-div_iff_mul-le {k = h.pages} (omega (arith, (start h).fits.limits.pages_low))).1
    (omega (arith, r.1, log_pages_none (s h) (blocks_of (s h) (formatted_image h)) (start h).no_live)) in
    omega (arith, r.2, none_in (s h) (formatted_image h) (start h).clean))

pub short_lists : ShortLists
short_lists s im a d e = (
  write-programs s im a d,
  rw (write_is s im a d) (plan_erases s im (taken_plan s im a d (write_taken s im (length d) a e))),
)

pub block_write_lists : BlockWriteLists
unfolding block_write_list
block_write_lists s c l d = (renewal-programs s c l _, renewal-erases s c l _)

-- ---- the card never gets stuck

-- a write or block write in range, of the length asked
is_taken : (s : Shape) (im : Image) → RecoveredCard s im → (size want : ℕ) (place : Bool) (needed cut : ℕ) (ts : List Step) → T place → size ≡ want
    → let k : Option Refusal = first_refusal (writing_tests s im (blocks_of s im) (eqb size want) place needed) in
    let n : ℕ = number (unless k refused_by (carried_out cut ts)).answer in
    (n ≡ 0) ⊎ ((n ≡ 7) ⊎ (n ≡ 8))
is_taken s im r size want place needed cut ts t long =
    let k : Option Refusal = first_refusal (writing_tests s im (blocks_of s im) (eqb size want) place needed) in
    let none-but-7 : (numbered k ≡ 0) ⊎ (numbered k ≡ 7) =
    writing_refusal s im (of_card s im r).0 (λ m. (numbered m ≡ 0) ⊎ (numbered m ≡ 7)) size want place needed
    (λ u. absurd (T_not (eqb size want) u (eq→eqb size want long))) (λ u. absurd (T_not place u t)) (λ u. absurd (r.not6 u)) (inr refl) (inl refl) in
    elim (number-cases k cut ts) [
      | inl e ↦ elim none-but-7 [ inl z ↦ inl (e ∙ z) | inr z ↦ inr (inl (e ∙ z)) ]
      | inr e ↦ inr (inr e)
    ]

pub write_is_taken : WriteIsTaken
unfolding write_reply write_refusal
write_is_taken s im r a d cut =
    is_taken s im r (length d) 512 (in_range s a) (numbers_needed (the_case s im a d)) cut (write_list s im (blocks_of s im) a d)

pub block_write_is_taken : BlockWriteIsTaken
unfolding block_write_reply block_write_refusal
block_write_is_taken s im r l d cut =
    is_taken s im r (length d) (s.pages * 512) (ltb l s.logical) 1 cut (block_write_list s (blocks_of s im) l d)

-- answered 0, a command leaves what its whole list leaves
leaves : (s : Shape) (im : Image) (r : Option Refusal) (cut : ℕ) (ts : List Step)
    → (r ≡ None → Sound s (steps_done s ts im) × Recovered s (blocks_of s (steps_done s ts im)))
    → number (unless r refused_by (carried_out cut ts)).answer ≡ 0 → RecoveredCard s (image_left s im (unless r refused_by (carried_out cut ts)))
leaves s im r cut ts f z =
    let q = answered_0 r cut ts z in
    let e = f q.0 in
    rw (q.0, q.1) (card_of s (steps_done s ts im) e.0 e.1)

pub power_up_recovers : PowerUpRecovers
unfolding power_up_reply
power_up_recovers s im size cut =
    leaves s im (power_up_refusal s im (blocks_of s im) size) cut (power_up_list s (blocks_of s im)) (λ e. power_up_end s im (power_up_taken s im size e))

pub write_leaves_recovered : WriteLeavesRecovered
unfolding write_reply
write_leaves_recovered s im a d cut =
    leaves s im (write_refusal s im (blocks_of s im) (length d) a) cut (write_list s im (blocks_of s im) a d)
    (λ e. rw (write_is s im a d) (plan_end s im (taken_plan s im a d (write_taken s im (length d) a e))))

pub block_write_leaves_recovered : BlockWriteLeavesRecovered
unfolding block_write_reply
block_write_leaves_recovered s im l d cut =
    leaves s im (block_write_refusal s im (blocks_of s im) (length d) l) cut (block_write_list s (blocks_of s im) l d)
    (λ e. let t = block_write_taken s im (length d) l e in rw (block_write_is s im l d t) (plan_end s im (block_write_ok s im l d {Any = ⊥} t)))

table_same : (s : Shape) (c c' : Blocks) → SamePlaces s c c' → (n : ℕ) → table_of s c n ≡ table_of s c' n
unfolding table_of
table_same s c c' f zero = refl
table_same s c c' f (suc l) = cc (table_same s c c' f l, (f l).0, (f l).1)

pub table_of_the_image_left : TableOfTheImageLeft
unfolding table_left power_up_reply steps_done
table_of_the_image_left s im old cut z =
    cond_yes (eqb (number (power_up_reply s im (length old) cut).answer) 0) (table_of s (blocks_of s im) s.logical) old (eq→eqb _ 0 z)
    ∙ go (power_up_refusal s im (blocks_of s im) (length old)) refl
  where
    -- an image that no step has changed, or one with obsolete blocks erased
    go : (r : Option Refusal) → power_up_refusal s im (blocks_of s im) (length old) ≡ r
        → let im' : Image = image_left s im (unless r refused_by (carried_out cut (power_up_list s (blocks_of s im)))) in
        table_of s (blocks_of s im) s.logical ≡ table_of s (blocks_of s im') s.logical
    go None e =
        table_same s (blocks_of s im) (blocks_of s (steps_done s (take cut (power_up_list s (blocks_of s im))) im))
        (power_up_cut s im (power_up_taken s im (length old) e) cut).places s.logical
    go (Some r) e = refl

pub there_is_a_free_block : ThereIsAFreeBlock
there_is_a_free_block s im r = let w = of_card s im r in (taken_free s (blocks_of s im) w.0.wf w.1 w.0.enough).0

pub a_free_block_after_the_merge : AFreeBlockAfterTheMerge
a_free_block_after_the_merge s im a d e =
    let t = write_taken s im (length d) a e in
    let r = (pre_goal s im t.sound (block_of s a) t.clean (the_case s im a d) (write_cases s im t.sound (block_of s a)) t.fit).1 in
    (taken_free s (blocks_of s (pre_image s im a d)) r.before.sound.wf r.clean r.before.sound.enough).0

-- What a block write or a write that is not refused plans can be carried out, and has the steps of the definition.
use mathlib.Core.Path.{◌≡◌, refl, sym, ap, ◌∙◌, subst}
use mathlib.Core.Logic.{inl, inr}
use mathlib.Core.Bool.{Bool, true, false, cond}
use mathlib.Core.List.{List, [], ◌∷◌, ◌++◌, map, map-append, append_assoc, append-nil}
use Prim.Native.Nat.{ℕ, ◌+◌, ◌*◌, ◌<◌, ◌≤◌}
use native.Mathlib.Omega.{arith}
use lib.Dec.{T}
use lib.ListN.{length}
use borrow.Author.Tests.{eq-eqb, ne_eqb}
use Rattle.std.specs.Prelude.{Option, Some, None, IfSome, IsSomeAnd}
use Rattle.rules.specs.declared.shape.Shape.{Shape}
use Rattle.rules.specs.declared.kind.Kind.TheVariants.{Log}
use Rattle.rules.specs.declared.block.State.TheVariants.{Free}
use Rattle.rules.specs.declared.block.Block.{Block}
use Rattle.rules.specs.Below.{none, found, if_any, list_below}
use Rattle.rules.specs.Spare.{log_kind, number_limit}
use Rattle.rules.specs.Shape.{most, page_no, block_of, in_range, logical_page}
use Rattle.rules.specs.Page.{Image}
use Rattle.rules.specs.Facts.{Fits}
use Rattle.rules.specs.WellFormed.{Blocks, not_used, is_free, is_used, is_complete, is_live, data_block, live_log, block_at, blocks_of}
use Rattle.rules.specs.Content.{content}
use Rattle.rules.specs.Steps.{Step, erase, step_done, steps_done, entry_step, taken, highest, new_number, contents, copy_step, copies, renewal, merge_list, Case, room, fresh, merging, write_case, numbers_needed, merge_first, log_block, log_number, own_step, erase_after, own_list, write_list, block_write_list}
use Rattle.laws.specs.Foreseen.{completes}
use Rattle.laws.proofs.Tests.{dec_eq, is_false}
use Rattle.laws.proofs.Shape.{in_range_small}
use Rattle.laws.proofs.Pages.{is_log_is}
use Rattle.laws.proofs.Roles.{Recovered, live_e, live_used, used_below, taken_free}
use Rattle.laws.proofs.Records.{blocks_of_at}
use Rattle.laws.proofs.Blocks.{Writable, Joins, used_used_pages}
use Rattle.laws.proofs.Steps.{next_step, used_numbers}
use Rattle.laws.proofs.Erasing.{Sound, logical_few}
use Rattle.laws.proofs.Merged.{free_record, moment_content, merged, merged_fits, merged_taken, merged_number, merged_next}
use Rattle.laws.proofs.Completed.{next_completes, first_incomplete}
use Rattle.laws.proofs.Cases.{MergeFirst, Cases, has_room, has_none, must_merge, write_cases, merge_logical}
use Rattle.roles.specs.Passes.{BlockOrNone}
use Rattle.roles.proofs.Found.{found_none, found_some}
use Rattle.roles.proofs.Seating.{data_block_in, live_log_in}
use Rattle.steps.specs.Doing.{erase_any}
use Rattle.plans.specs.declared.plan.Plan.{Plan}
use Rattle.plans.specs.declared.renewal.Renewal.{Renewal}
use Rattle.plans.specs.Plans.{renewal_of, free_after, plan_for, plan_of}
use Rattle.carry.specs.Carrying.{number_of_block, pages_for, renewal_steps, Sized, Renewable, Kept, first_steps, planned, Doable}

-- ---- a block that is found, as the code has it

number_found : (b : ℕ) → number_of_block (found b) ≡ b
number_found b = elim (dec_eq b none) [ inl e ↦ rw (found_none e) (sym e) | inr n ↦ rw (found_some n) refl ]

erase_found : (b : ℕ) → erase_any (found b) ≡ map erase (if_any b)
erase_found b =
    elim (dec_eq b none) [
      | inl e ↦ rw (found_none e, eq-eqb b none e) refl
      | inr n ↦ rw (found_some n, ne_eqb b none n) refl
    ]

found_below : (s : Shape) (b : ℕ) → s.blocks ≤ most → b < s.blocks → IsSomeAnd (found b) (λ j. j < s.blocks)
found_below s b few h = let e : found b ≡ Some b = found_some (λ e. omega arith) in rw e h

found_in_card : (s : Shape) (b : ℕ) → BlockOrNone s b → IfSome (found b) (λ j. j < s.blocks)
found_in_card s b h =
    elim (dec_eq b none) [
      | inl e ↦ rw (found_none e) tt
      | inr n ↦ rw (found_some n) (elim h [ inl k ↦ k | inr e ↦ absurd (n e) ])
    ]

-- the steps of a renewal are those of the definition
renewal_found : (s : Shape) (im : Image) (c : Blocks) (l : ℕ) (d : Option (List ℕ))
    → renewal_steps s im c (renewal_of s c l) d ≡ renewal s c l (pages_for s im c l d)
unfolding renewal_steps renewal_of renewal copies
renewal_found s im c l d =
    ap (λ (b : ℕ). pages b ++ erase_any (found log) ++ erase_any (found held)) (number_found (taken s c))
    ∙ append_assoc (pages (taken s c)) (erase_any (found log)) (erase_any (found held))
    ∙ ap (λ (zs : List Step). pages (taken s c) ++ zs)
    (ap (λ (zs : List Step). zs ++ erase_any (found held)) (erase_found log)
    ∙ ap (λ (zs : List Step). map erase (if_any log) ++ zs) (erase_found held)
    ∙ sym (map-append erase (if_any log) (if_any held)))
  where
    pages : ℕ → List Step
    pages b = list_below s.pages (copy_step s b (new_number s c) l (pages_for s im c l d))

    log : ℕ
    log = live_log s c l

    held : ℕ
    held = data_block s c l

-- ---- a logical block made anew

module _ (s : Shape) (im : Image) (w : Sound s im) (rec : Recovered s (blocks_of s im)) (l : ℕ) (hl : l < s.logical)
    (fit : new_number s (blocks_of s im) ≤ number_limit) where
  abbrev c₀ : Blocks
  c₀ = blocks_of s im

  renewable : (d : Option (List ℕ)) → Sized s d → Renewable s (renewal_of s (blocks_of s im) l) d
  unfolding renewal_of
  renewable d size =
      let few = w.fits.limits.blocks_high in
      record {
        sized = size;
        logical_small = omega (arith, logical_few s im w, few);
        into_below = found_below s (taken s c₀) few (taken_free s c₀ w.wf rec w.enough).1;
        log_in = found_in_card s (live_log s c₀ l) (live_log_in s c₀ l few);
        data_in = found_in_card s (data_block s c₀ l) (data_block_in s c₀ l few refl);
        number_high = fit;
      }

  -- with the present content
  kept : Kept s im (blocks_of s im) (renewal_of s (blocks_of s im) l) None
  unfolding renewal_of
  kept =
      record {
        page_kept = λ m o h.
            ap (λ (b : ℕ). content s (steps_done s (list_below m (copy_step s b (new_number s c₀) l (contents s im c₀ l))) im) c₀ (logical_page s l o))
            (number_found (taken s c₀))
            ∙ moment_content s im w rec l hl fit m h (logical_page s l o);
      }

  -- with the parts of a buffer: no page to be programmed is read from the image
  module _ (d : List ℕ) (long : length d ≡ s.pages * 512) where
    -- the steps of a block write
    steps : renewal_steps s im (blocks_of s im) (renewal_of s (blocks_of s im) l) (Some d) ≡ block_write_list s (blocks_of s im) l d
    unfolding block_write_list
    steps = renewal_found s im c₀ l (Some d)

    pub loadable : {c : Blocks} {r : Renewal} → c ≡ blocks_of s im → r ≡ renewal_of s c l
        → Renewable s r (Some d) × Kept s im c r (Some d) × (renewal_steps s im c r (Some d) ≡ block_write_list s (blocks_of s im) l d)
    loadable {c} {r} scanned made =
        let is : r ≡ renewal_of s (blocks_of s im) l = made ∙ ap (λ (k : Blocks). renewal_of s k l) scanned in
        rw (scanned, is) (renewable (Some d) long, record { page_kept = λ m o h. refl }, steps)

-- ---- the steps of the definition, by what the write needs

abbrev list_for : Shape → Image → Blocks → ℕ → List ℕ → Case → List Step
list_for s im c a d k =
    merge_first s im c k ++ own_list s (steps_done s (merge_first s im c k) im) (blocks_of s (steps_done s (merge_first s im c k) im)) k a d

write_list_for : (s : Shape) (im : Image) (c : Blocks) (a : ℕ) (d : List ℕ) → write_list s im c a d ≡ list_for s im c a d (write_case s c (block_of s a))
unfolding write_list
write_list_for s im c a d = refl

found_cond : (t : Bool) (b : ℕ) → erase_any (cond t (found b) None) ≡ map erase (cond t (if_any b) [])
found_cond true b = erase_found b
found_cond false b = refl

-- page 0 of a block just taken, on the image and the records of that moment
own_first : (s : Shape) (im : Image) → Fits s im → (k : Case) (a b n : ℕ) → T (in_range s a) → (d : List ℕ) → length d ≡ 512
    → log_block s (blocks_of s im) k (block_of s a) ≡ b → log_number s (blocks_of s im) k (block_of s a) ≡ n
    → blocks_of s im b ≡ not_used Free → Writable n a
    → own_list s im (blocks_of s im) k a d ≡ entry_step (page_no s b 0) n log_kind a d ∷ []
unfolding own_list own_step erase_after
own_first s im w k a b n ha d long eb en free wr =
    let z : (blocks_of s im b).filled ≡ 0 = ap (λ (x : Block). x.filled) free in
    let joins : Joins s (blocks_of s im b) n Log a =
    record {
      own = inl (subst (λ (x : Block). T (is_free x.state)) (sym free) tt);
      room = omega (arith, w.limits.pages_low);
      in_range = ha;
      offset = λ t. absurd t;
    } in
    let incomplete : is_complete s (block_at s (step_done s (next_step s im b n Log a d) im) b) ≡ false =
    is_false _ (first_incomplete s im w b n Log a d wr joins long z) in
    rw (eb, en, incomplete, z)

-- ---- the plan, by what the write needs

module _ (s : Shape) (im : Image) (w : Sound s im) (rec : Recovered s (blocks_of s im)) (a : ℕ) (ha : T (in_range s a)) (d : List ℕ)
    (long : length d ≡ 512) where
  abbrev cs : Blocks
  cs = blocks_of s im

  abbrev l : ℕ
  l = block_of s a

  abbrev Right : Case → Type 0
  Right k = Doable s im cs (plan_for s cs a k) × (planned s im cs (plan_for s cs a k) a d ≡ list_for s im cs a d k)

  writable : (n : ℕ) → 1 ≤ n → n ≤ number_limit → Writable n a
  writable n low high =
      record { number_low = low; number_high = high; address = in_range_small s w.fits.limits (logical_few s im w) a ha }

  data_found : (m : ℕ) → IfSome (found (data_block s cs m)) (λ b. b < s.blocks)
  data_found m = found_in_card s (data_block s cs m) (data_block_in s cs m w.fits.limits.blocks_high refl)

  taken_below : taken s cs < s.blocks
  taken_below = (taken_free s cs w.wf rec w.enough).1

  taken_record : cs (taken s cs) ≡ not_used Free
  taken_record = free_record s im (taken s cs) taken_below (taken_free s cs w.wf rec w.enough).0

  module _ (live : T (is_live s cs (live_log s cs l))) (own : (cs (live_log s cs l)).logical ≡ l) (h : (cs (live_log s cs l)).filled < s.pages) where
    abbrev v : ℕ
    v = live_log s cs l

    used : T (is_used (cs v).state)
    used = live_used s cs v live

    below : v < s.blocks
    below = used_below s cs w.wf.records v used

    -- a used block has a page or more
    some : 0 < (cs v).filled
    some =
        let e : cs v ≡ block_at s im v = blocks_of_at s im v below in
        subst (λ (x : Block). 0 < x.filled) (sym e)
        (used_used_pages s im v (omega (arith, w.fits.limits.pages_low)) (subst (λ (x : Block). T (is_used x.state)) e used)).some

    joins : Joins s (cs v) (cs v).number Log a
    joins = record { own = inr (used, refl, is_log_is (cs v).kind (live_e s cs v live).log, own); room = h; in_range = ha; offset = λ t. absurd t }

    former_found : (t : Bool) → IfSome (cond t (found (data_block s cs l)) None) (λ b. b < s.blocks)
    former_found true = data_found l
    former_found false = tt

    room_right : Right room
    unfolding planned first_steps steps_done own_list own_step erase_after
    room_right =
        let bounds = used_numbers s im w.fits v used in
        let whole : is_complete s (block_at s (step_done s (next_step s im v (cs v).number Log a d) im) v) ≡ completes s (cs v) a =
        next_completes s im w.fits v (cs v).number Log a d (writable (cs v).number bounds.0 bounds.1) joins long some in
        let z : (cs v).number + 0 ≡ (cs v).number = omega arith in
        let own : ℕ → Step = λ b. entry_step (page_no s b (cs v).filled) ((cs v).number + 0) log_kind a d in (
          record {
            merge_in = tt;
            former_in = former_found (completes s (cs v) a);
            block_below = found_below s v w.fits.limits.blocks_high below;
            place_below = h;
            number_high = omega (arith, bounds.1);
          },
          ap (λ (b : ℕ). own b ∷ erase_any (cond (completes s (cs v) a) (found (data_block s cs l)) None)) (number_found v)
              ∙ ap (λ (zs : List Step). own v ∷ zs) (found_cond (completes s (cs v) a) (data_block s cs l))
              ∙ rw (whole, z) refl,
        )

  fresh_right : highest s cs + 1 ≤ number_limit → Right fresh
  unfolding planned first_steps steps_done
  fresh_right q = (
    record {
      merge_in = tt;
      former_in = tt;
      block_below = found_below s (taken s cs) w.fits.limits.blocks_high taken_below;
      place_below = omega (arith, w.fits.limits.pages_low);
      number_high = q;
    },
    ap (λ (b : ℕ). entry_step (page_no s b 0) (new_number s cs) log_kind a d ∷ []) (number_found (taken s cs))
        ∙ sym (own_first s im w.fits fresh a (taken s cs) (new_number s cs) ha d long refl refl taken_record (writable (new_number s cs) (omega arith) q)),
  )

  merge_right : (m : ℕ) → MergeFirst s im w l m → highest s cs + 2 ≤ number_limit → Right (merging m)
  unfolding planned first_steps merge_list free_after
  merge_right m first q =
      let hm : m < s.logical = merge_logical s im w l first in
      let r : new_number s cs ≤ number_limit = omega arith in
      let im' : Image = merged s im w rec m hm r in
      let b : ℕ = free_after s cs (taken s cs) (live_log s cs m) (data_block s cs m) in
      let eb : taken s (blocks_of s im') ≡ b = merged_taken s im w rec m hm r in
      let next = merged_next s im w rec m hm r in
      let own : ℕ → List Step = λ x. entry_step (page_no s x 0) (highest s cs + 2) log_kind a d ∷ [] in (
        record {
          merge_in = (renewable s im w rec m hm r None tt, kept s im w rec m hm r);
          former_in = tt;
          block_below = found_below s b w.fits.limits.blocks_high (subst (λ (i : ℕ). i < s.blocks) eb next.0);
          place_below = omega (arith, w.fits.limits.pages_low);
          number_high = q;
        },
        append-nil (renewal_steps s im cs (renewal_of s cs m) None ++ own (number_of_block (found b)))
            ∙ ap (λ (x : ℕ). renewal_steps s im cs (renewal_of s cs m) None ++ own x) (number_found b)
            ∙ ap (λ (xs : List Step). xs ++ own b) (renewal_found s im cs m None)
            ∙ ap (λ (zs : List Step). merge_list s im cs m ++ zs)
            (sym (own_first s im' (merged_fits s im w rec m hm r) (merging m) a b (highest s cs + 2) ha d long eb
            (merged_number s im w rec m hm r) (ap (blocks_of s im') (sym eb) ∙ next.1) (writable (highest s cs + 2) (omega arith) q))),
      )

  right : {k : Case} → Cases s im w l k → highest s cs + numbers_needed k ≤ number_limit → Right k
  right (has_room t e h) q = room_right t e h
  right (has_none n h) q = fresh_right q
  right (must_merge m first) q = merge_right m first q

-- ---- all of it

-- a plan that can be carried out, with the steps of the definition
pub record Ready (s : Shape) (im : Image) (c : Blocks) (p : Plan) (a : ℕ) (d : List ℕ) : Type 0 where
  pub doable : Doable s im c p
  pub steps_are : planned s im c p a d ≡ write_list s im (blocks_of s im) a d

pub ready : (s : Shape) (im : Image) → Sound s im → Recovered s (blocks_of s im) → (a : ℕ) → T (in_range s a) → (d : List ℕ) → length d ≡ 512
    → {c : Blocks} {p : Plan} → c ≡ blocks_of s im → p ≡ plan_of s c a
    → highest s (blocks_of s im) + numbers_needed (write_case s (blocks_of s im) (block_of s a)) ≤ number_limit
    → Ready s im c p a d
unfolding plan_of
ready s im w rec a ha d long {c} {p} scanned plan q =
    let r = right s im w rec a ha d long (write_cases s im w (block_of s a)) q in
    let is : p ≡ plan_for s (blocks_of s im) a (write_case s (blocks_of s im) (block_of s a)) =
    plan ∙ ap (λ (x : Blocks). plan_for s x a (write_case s x (block_of s a))) scanned in
    rw (scanned, is) (record { doable = r.0; steps_are = r.1 ∙ sym (write_list_for s im (blocks_of s im) a d) })

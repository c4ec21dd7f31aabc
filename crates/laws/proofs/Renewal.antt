-- A logical block made anew, with any bytes: every cut of it, and its end.
use mathlib.Core.Path.{◌≡◌, refl, sym, ap, ◌∙◌, subst}
use mathlib.Core.Logic.{◌≢◌, ◌⊎◌, inl, inr}
use mathlib.Core.Bool.{true, cond}
use mathlib.Core.List.{List, [], ◌∷◌, ◌++◌, map, append_assoc}
use Prim.Native.Nat.{ℕ, zero, suc, ◌+◌, ◌-◌, ◌≤◌, ◌<◌}
use native.Mathlib.Omega.{arith}
use native.Mathlib.Nat.{le_refl}
use lib.ListN.{length, length-append}
use lib.Dec.{T, eqb}
use borrow.Author.Tests.{eq-eqb, ne_eqb}
use Rattle.std.specs.Prelude.{Some}
use Rattle.rules.specs.declared.shape.Shape.{Shape}
use Rattle.rules.specs.declared.kind.Kind.TheVariants.{Copy}
use Rattle.rules.specs.declared.block.Block.{Block}
use Rattle.rules.specs.Below.{none, if_any, count_below}
use Rattle.rules.specs.Spare.{number_limit}
use Rattle.rules.specs.Shape.{page_no, block_of, offset_of}
use Rattle.rules.specs.Page.{Image, page_bytes, is_log}
use Rattle.rules.specs.WellFormed.{Blocks, is_free, is_used, is_complete, is_data, is_live, is_obsolete, data_block, live_log, blocks_of}
use Rattle.rules.specs.Content.{content}
use Rattle.rules.specs.Steps.{Step, erase, step_done, steps_done, erases, programs, taken, highest, new_number, copies, copy_step, renewal}
use Rattle.laws.proofs.Tests.{dec_eq}
use Rattle.laws.proofs.Below.{All, all_append, all_left, all_right, distinct_append, found_all, found_distinct, found_few, found_out, count_below_one, count_below_two, list_below-suc}
use Rattle.laws.proofs.Shape.{offset_of_below}
use Rattle.laws.proofs.Pages.{steps_done-append}
use Rattle.laws.proofs.Filled.{used_with}
use Rattle.laws.proofs.Roles.{free_not_used, used_below, below_none, none_filled, complete_i, complete_e, obsolete_e, data_used, live_used, data_not_live, data_number_below, WellFormed, has_some, data_block_found, live_log_found, data_block_is, live_log_none, Recovered, highest_ge, highest_le, taken_free}
use Rattle.laws.proofs.Change.{changed, changed_same, changed_other, changed_elim, Fitting, NoLive, LiveIs, good_blocks_kept, obsolete_other, below_obsolete, Idle, Quiet, quiet, Completed, complete, complete_obsolete}
use Rattle.laws.proofs.Content.{content_data}
use Rattle.laws.proofs.Along.{Allowed, Along, erases-append, programs-append, programs-erases, erases-erases, along_append, along_end, along_map}
use Rattle.laws.proofs.Copy.{first, copied, copy_record, copy_record_filled, copy_record_some, copies-erases, copies-programs, copied_next, Copies, copies_is, copies_along}
use Rattle.laws.proofs.Erasing.{Sound, logical_few, content_of, content_kept, contents_kept, obsoletes, Erasing, erasing_start, live_is_trans, erasing}

-- the bytes of each logical page, those of l being page 0, page 1, ..
unfoldable pub renewed : Shape → ℕ → (ℕ → List ℕ) → (ℕ → List ℕ) → ℕ → List ℕ
renewed s l page old a = cond (eqb (block_of s a) l) (page (offset_of s a)) (old a)

-- im' is im with e erases and a copy in a block of its own, whole or not; it holds these bytes
pub record Renewing (s : Shape) (im : Image) (held : ℕ → List ℕ) (e : ℕ) (im' : Image) : Type 0 where
  pub sound : Sound s im'
  pub holds : (a : ℕ) → content_of s im' a ≡ held a
  pub live : LiveIs s (blocks_of s im) (blocks_of s im')
  pub highest : highest s (blocks_of s im') ≤ highest s (blocks_of s im) + 1
  pub total : e + obsoletes s im' ≤ 2

-- before the last page each page holds what it held, and at most one block is obsolete
abbrev pub Before : Shape → Image → ℕ → Image → Type 0
Before s im e im' = Renewing s im (content_of s im) e im' × (e + obsoletes s im' ≤ 1)

-- from the last page on, l has no live log block
abbrev pub After : Shape → Image → ℕ → (ℕ → List ℕ) → ℕ → Image → Type 0
After s im l held e im' = Renewing s im held e im' × NoLive s (blocks_of s im') l

-- ---- its list: the pages but the last, the last, and the blocks that are erased then

abbrev pub old_blocks : Shape → Blocks → ℕ → List ℕ
old_blocks s c l = if_any (live_log s c l) ++ if_any (data_block s c l)

module _ (s : Shape) (c : Blocks) (l : ℕ) (page : ℕ → List ℕ) where
  abbrev pub pages_first : List Step
  pages_first = first s (taken s c) (new_number s c) l page (s.pages - 1)

  abbrev pub page_last : Step
  page_last = copy_step s (taken s c) (new_number s c) l page (s.pages - 1)

  pub renewal_is : 0 < s.pages → renewal s c l page ≡ pages_first ++ (page_last ∷ map erase (old_blocks s c l))
  unfolding renewal copies
  renewal_is h =
      let e : s.pages ≡ suc (s.pages - 1) = omega arith in
      ap (λ (ts : List Step). ts ++ map erase (old_blocks s c l))
      (ap (first s (taken s c) (new_number s c) l page) e ∙ list_below-suc (s.pages - 1) (copy_step s (taken s c) (new_number s c) l page))
      ∙ append_assoc pages_first (page_last ∷ []) (map erase (old_blocks s c l))

module _ (s : Shape) (im : Image) (w : Sound s im) (rec : Recovered s (blocks_of s im)) (l : ℕ) (hl : l < s.logical)
    (fit : new_number s (blocks_of s im) ≤ number_limit) (page : ℕ → List ℕ) (long : (o : ℕ) → o < s.pages → length (page o) ≡ 512) where
  abbrev c : Blocks
  c = blocks_of s im

  -- the block that is taken
  abbrev fb : ℕ
  fb = taken s c

  fr : T (is_free (c fb).state)
  fr = (taken_free s c w.wf rec w.enough).0

  abbrev n : ℕ
  n = new_number s c

  abbrev held : ℕ → List ℕ
  held = renewed s l page (content_of s im)

  abbrev so_far : ℕ → Block
  so_far = copy_record s fb n l page

  abbrev after : ℕ → Image
  after m = copied s fb n l page m im

  fb_below : fb < s.blocks
  fb_below = (taken_free s c w.wf rec w.enough).1

  fb_not_data : T (is_data s c fb) → ⊥
  fb_not_data t = free_not_used (c fb).state fr (data_used s c fb t)

  fb_not_live : T (is_live s c fb) → ⊥
  fb_not_live t = free_not_used (c fb).state fr (live_used s c fb t)

  numbers_below : (j : ℕ) → j < s.blocks → (c j).number < n
  numbers_below j h = omega (arith, highest_ge s c j h)

  -- after m of the pages
  pub renewal_made : (m : ℕ) → m ≤ s.pages → Copies s fb n l page im m
  renewal_made = copies_is s fb n l page im w.fits fb_below fr (omega arith) fit hl (logical_few s im w) long

  -- ---- the records while pages are copied

  -- a copy of m pages may be the record of fb
  copy_fits : (m : ℕ) → m ≤ s.pages → Fitting s c fb (used_with n (Some Copy) l m true)
  copy_fits m h =
      record {
        below = fb_below;
        good = tt;
        no_ill = λ u. u;
        free = λ u. absurd u;
        in_range = λ u. hl;
        fits = h;
        fresh = λ u j ne v e. omega (arith, numbers_below j (used_below s c w.wf.records j v));
      }

  so_far_fits : (m : ℕ) → m ≤ s.pages → Fitting s c fb (so_far m)
  so_far_fits zero h =
      record { below = fb_below; good = tt; no_ill = λ u. u; free = λ u. refl; in_range = λ u. absurd u; fits = omega arith; fresh = λ u. absurd u }
  so_far_fits (suc m) h = copy_fits (suc m) h

  so_far_number : (m : ℕ) → (so_far m).number ≤ n
  so_far_number zero = omega arith
  so_far_number (suc m) = omega arith

  so_far_idle : (m : ℕ) → m < s.pages → Idle s (so_far m)
  so_far_idle m h =
      record { incomplete = λ t. omega (arith, (complete_e s (so_far m) t).full, copy_record_filled s fb n l page m); no_log = no_log_lem m }
    where
      no_log_lem : (m : ℕ) → T (is_used (so_far m).state) → T (is_log (so_far m).kind) → ⊥
      no_log_lem zero t = λ e. t
      no_log_lem (suc m) t = λ e. e

  so_far_sound : (m : ℕ) → m ≤ s.pages → WellFormed s (blocks_of s (after m)) → Sound s (after m)
  so_far_sound m h wf =
      record {
        fits = (renewal_made m h).fits;
        wf = wf;
        enough = rw (renewal_made m h).blocks (omega (arith, good_blocks_kept s c fb (so_far m) (so_far_fits m h).good, w.enough));
      }

  so_far_highest : (m : ℕ) → m ≤ s.pages → highest s (blocks_of s (after m)) ≤ highest s c + 1
  so_far_highest m h =
      rw (renewal_made m h).blocks
      (highest_le s (changed c fb (so_far m)) (highest s c + 1)
      (changed_elim c fb (so_far m) (λ j z. j < s.blocks → z.number ≤ highest s c + 1) (λ k. omega (arith, so_far_number m))
      (λ j ne k. omega (arith, highest_ge s c j k))))

  -- ---- before the last page

  copying : (m : ℕ) → m < s.pages → Before s im 0 (after m)
  unfolding obsoletes
  copying m h = (
    record {
      sound = so_far_sound m le (rw q.blocks calm.wf);
      holds = λ a. ap (λ (k : Blocks). content s (after m) k a) q.blocks
          ∙ contents_kept s im (after m) w.fits c w.wf.records fb (so_far m) fb_below q.others calm.numbers fb_not_data fb_not_live
          (so_far_idle m h) a;
      live = rw q.blocks calm.live;
      highest = so_far_highest m le;
      total = omega (arith, one);
    },
    omega (arith, one),
  )
    where
      le : m ≤ s.pages
      le = omega arith

      q : Copies s fb n l page im m
      q = renewal_made m le

      calm : Quiet s c (changed c fb (so_far m))
      calm = quiet s c fb (so_far m) w.wf (so_far_fits m le) (so_far_idle m h) fb_not_data fb_not_live

      only : (j : ℕ) → T (is_obsolete s (changed c fb (so_far m)) j) → j ≡ fb
      only j t =
          elim (dec_eq j fb) [
            | inl e ↦ e
            | inr ne ↦ absurd (rec j (subst T (obsolete_other s c fb (so_far m) j ne (calm.numbers (c j).logical)) t))
          ]

      one : count_below s.blocks (is_obsolete s (blocks_of s (after m))) ≤ 1
      one = rw q.blocks (count_below_one s.blocks fb (is_obsolete s (changed c fb (so_far m))) (λ j k. only j))

  -- ---- with the last page

  abbrev whole : Block
  whole = used_with n (Some Copy) l s.pages true

  abbrev c₂ : Blocks
  c₂ = changed c fb whole

  abbrev im₂ : Image
  im₂ = after s.pages

  q₂ : Copies s fb n l page im s.pages
  q₂ = renewal_made s.pages (le_refl s.pages)

  blocks₂ : blocks_of s im₂ ≡ c₂
  blocks₂ = q₂.blocks ∙ ap (changed c fb) (copy_record_some s fb n l page s.pages (omega (arith, w.fits.limits.pages_low)))

  whole_fits : Fitting s c fb whole
  whole_fits = copy_fits s.pages (le_refl s.pages)

  whole_complete : T (is_complete s whole)
  whole_complete = complete_i s whole (record { used = tt; full = refl; order = tt })

  completed : Completed s c fb whole
  completed =
      complete s c fb whole w.wf whole_fits whole_complete fb_not_data (data_number_below s c l n (omega arith) numbers_below)
      (λ j ne t r. omega (arith, numbers_below j (used_below s c w.wf.records j (live_used s c j t))))

  sound₂ : Sound s im₂
  sound₂ = so_far_sound s.pages (le_refl s.pages) (rw blocks₂ completed.wf)

  data_is : data_block s c₂ l ≡ fb
  data_is = data_block_is s c₂ completed.wf fb l completed.is_data (ap (λ (y : Block). y.logical) (changed_same c fb whole))

  log_is : live_log s c₂ l ≡ none
  log_is = live_log_none s c₂ completed.wf.records l completed.no_live

  holds₂ : (a : ℕ) → content_of s im₂ a ≡ held a
  unfolding renewed
  holds₂ a =
      ap (λ (k : Blocks). content s im₂ k a) blocks₂
      ∙ elim (dec_eq (block_of s a) l) [
        | inl r ↦
            rw (eq-eqb (block_of s a) l r)
            (content_data s a low im₂ c₂
            (ap (λ (v : ℕ). (c₂ v).filled) (ap (live_log s c₂) r ∙ log_is) ∙ none_filled s c₂ completed.wf.records)
            (λ y. below_none s c w.wf.records fb_below (sym data_is ∙ ap (data_block s c₂) (sym r) ∙ y))
            ∙ ap (λ (d : ℕ). page_bytes im₂ (page_no s d (offset_of s a))) (ap (data_block s c₂) r ∙ data_is)
            ∙ q₂.pages (offset_of s a) low)
        | inr ne ↦
            rw (ne_eqb (block_of s a) l ne)
            (content_kept s im im₂ w.fits c w.wf.records fb whole fb_below q₂.others a (completed.numbers (block_of s a) ne)
            (λ t. absurd (fb_not_data t)) (λ t. absurd (fb_not_live t)) (λ t y. ne (sym y)) (λ t y. ne (sym y)))
      ]
    where
      low : offset_of s a < s.pages
      low = offset_of_below s w.fits.limits a

  -- ---- the erases

  abbrev log : ℕ
  log = live_log s c l

  abbrev old : ℕ
  old = data_block s c l

  obsolete_then : (j : ℕ) → T (is_obsolete s (blocks_of s im₂) j) → (j ≡ old) ⊎ (j ≡ log)
  obsolete_then j t =
      elim (complete_obsolete s c fb whole w.wf whole_fits whole_complete completed j (subst (λ (k : Blocks). T (is_obsolete s k j)) blocks₂ t)) [
        | inl o ↦ absurd (rec j o)
        | inr r ↦ r
      ]

  -- the blocks that l had
  obsolete_old : (j : ℕ) → T (is_used (c j).state) → (c j).logical ≡ l → T (is_obsolete s (blocks_of s im₂) j)
  obsolete_old j t r =
      let ne : j ≢ fb = λ y. free_not_used (c fb).state fr (subst (λ (i : ℕ). T (is_used (c i).state)) y t) in
      let z : c₂ j ≡ c j = changed_other c fb whole j ne in
      subst (λ (k : Blocks). T (is_obsolete s k j)) (sym blocks₂)
      (below_obsolete s c₂ j (rw z t) (rw (z, r, completed.top) (numbers_below j (used_below s c w.wf.records j t))))

  log_old : log ≢ none → T (is_live s c log) × T (is_obsolete s (blocks_of s im₂) log)
  log_old h = let y = has_some (live_log_found s c w.wf.records l) h in (y.passes, obsolete_old log (live_used s c log y.passes) y.logical)

  data_old : old ≢ none → T (is_data s c old) × T (is_obsolete s (blocks_of s im₂) old)
  data_old h = let y = has_some (data_block_found s c w.wf.records l) h in (y.passes, obsolete_old old (data_used s c old y.passes) y.logical)

  abbrev out : List ℕ
  out = old_blocks s c l

  abbrev IsOld : ℕ → Type 0
  IsOld x = T (is_obsolete s (blocks_of s im₂) x)

  tail : Along s (Erasing s im₂) 0 (map erase out) im₂
      × ((j : ℕ) → T (is_obsolete s (blocks_of s (steps_done s (map erase out) im₂)) j) → IsOld j × All (λ x. j ≢ x) out)
  tail =
      erasing s im₂ out 0 im₂ (erasing_start s im₂ sound₂)
      (all_append IsOld (if_any log) (if_any old) (found_all IsOld log (λ h. (log_old h).1)) (found_all IsOld old (λ h. (data_old h).1)))
      (distinct_append (if_any log) (if_any old) (found_distinct log) (found_distinct old)
      (found_all (λ y. All (λ x. y ≢ x) (if_any log)) old
      (λ h. found_all (λ x. old ≢ x) log
      (λ k r. data_not_live s c log (subst (λ (i : ℕ). T (is_data s c i)) r (data_old h).0) (log_old k).0))))

  erased_after : (e : ℕ) (im' : Image) → Erasing s im₂ e im' → After s im l held e im'
  unfolding obsoletes
  erased_after e im' i = (
    record {
      sound = i.sound;
      holds = λ a. i.same a ∙ holds₂ a;
      live = live_is_trans s c (blocks_of s im₂) (blocks_of s im') (rw blocks₂ completed.live) i.live;
      highest = omega (arith, i.highest, so_far_highest s.pages (le_refl s.pages));
      total = omega (arith, i.total, count_below_two s.blocks old log (is_obsolete s (blocks_of s im₂)) (λ j h. obsolete_then j));
    },
    λ j t r. let y = i.live j t in
        completed.no_live j (subst (λ (z : Blocks). T (is_live s z j)) blocks₂ y.0)
        (ap (λ (z : Blocks). (z j).logical) (sym blocks₂) ∙ ap (λ (z : Block). z.logical) (sym y.1) ∙ r),
  )

  ends_recovered : Recovered s (blocks_of s (steps_done s (map erase out) im₂))
  ends_recovered j t =
      let r = tail.1 j t in
      let h : j ≢ none =
      below_none s c w.wf.records (used_below s (blocks_of s im₂) sound₂.wf.records j (obsolete_e s (blocks_of s im₂) j r.0).0) in
      elim (obsolete_then j r.0) [
        | inl y ↦ found_out old j h (all_right (λ x. j ≢ x) (if_any log) (if_any old) r.1) y
        | inr y ↦ found_out log j h (all_left (λ x. j ≢ x) (if_any log) (if_any old) r.1) y
      ]

  -- ---- all of it

  abbrev pre : List Step
  pre = pages_first s c l page

  abbrev im₁ : Image
  im₁ = step_done s (page_last s c l page) (steps_done s pre im)

  some : 0 < s.pages
  some = omega (arith, w.fits.limits.pages_low)

  -- the last page is the one after the first P - 1
  im₂_is : im₂ ≡ im₁
  im₂_is = let e : s.pages ≡ suc (s.pages - 1) = omega (arith, some) in ap after e ∙ copied_next s fb n l page (s.pages - 1) im

  no_erases : 0 ≡ 0 + erases pre
  no_erases = omega (arith, copies-erases s fb n l page (s.pages - 1))

  -- what holds up to the last page, and what holds from it on
  pub renewal_halves : (I J : ℕ → Image → Type 0) → ((e : ℕ) (im' : Image) → Before s im e im' → I e im')
      → ((e : ℕ) (im' : Image) → After s im l held e im' → J e im')
      → Along s I 0 pre im × Allowed s (page_last s c l page) (steps_done s pre im) × Along s J (0 + erases pre) (map erase out) im₁
      × Recovered s (blocks_of s (steps_done s (map erase out) im₁))
  renewal_halves I J f h = (
    copies_along s fb n l page im w.fits fb_below fr (omega arith) fit hl (logical_few s im w) long I (s.pages - 1) (omega arith)
        (λ k q. f 0 (after k) (copying k (omega (arith, some)))),
    (renewal_made (s.pages - 1) (omega arith)).next (omega (arith, some)),
    subst (λ (i : Image). Along s J (0 + erases pre) (map erase out) i) im₂_is
        (subst (λ (e : ℕ). Along s J e (map erase out) im₂) no_erases
        (along_map s (Erasing s im₂) J (λ e im' i. h e im' (erased_after e im' i)) 0 (map erase out) im₂ tail.0)),
    subst (λ (i : Image). Recovered s (blocks_of s (steps_done s (map erase out) i))) im₂_is ends_recovered,
  )

  pub renewal_along : (I : ℕ → Image → Type 0) → ((e : ℕ) (im' : Image) → Before s im e im' → I e im')
      → ((e : ℕ) (im' : Image) → After s im l held e im' → I e im') → Along s I 0 (renewal s c l page) im
  renewal_along I f h =
      let x = renewal_halves I I f h in
      let e : 0 + erases pre ≡ 0 + erases pre + 0 = omega arith in
      rw (renewal_is s c l page some)
      (along_append s I 0 pre (page_last s c l page ∷ map erase out) im x.0
      (along_end s I 0 pre im x.0, x.1, subst (λ (k : ℕ). Along s I k (map erase out) im₁) e x.2))

  pub renewal_end : After s im l held (0 + erases (renewal s c l page)) (steps_done s (renewal s c l page) im)
      × Recovered s (blocks_of s (steps_done s (renewal s c l page) im))
  unfolding steps_done
  renewal_end =
      let x = renewal_halves (Before s im) (After s im l held) (λ e im' r. r) (λ e im' r. r) in
      let y = along_end s (After s im l held) (0 + erases pre) (map erase out) im₁ x.2 in
      let e : 0 + erases pre + erases (map erase out) ≡ 0 + erases (pre ++ (page_last s c l page ∷ map erase out)) =
      omega (arith, erases-append pre (page_last s c l page ∷ map erase out)) in
      rw (renewal_is s c l page some, steps_done-append s pre (page_last s c l page ∷ map erase out) im)
      (subst (λ (k : ℕ). After s im l held k (steps_done s (map erase out) im₁)) e y, x.3)

-- ---- its programs and erases, for any records

module _ (s : Shape) (c : Blocks) (l : ℕ) (page : ℕ → List ℕ) where
  abbrev pages : List Step
  pages = first s (taken s c) (new_number s c) l page s.pages

  pub renewal-programs : programs (renewal s c l page) ≡ s.pages
  unfolding renewal copies
  renewal-programs =
      omega (
        arith,
        programs-append pages (map erase (old_blocks s c l)),
        copies-programs s (taken s c) (new_number s c) l page s.pages,
        programs-erases (old_blocks s c l),
      )

  pub renewal-erases : erases (renewal s c l page) ≤ 2
  unfolding renewal copies
  renewal-erases =
      omega (
        arith,
        erases-append pages (map erase (old_blocks s c l)),
        copies-erases s (taken s c) (new_number s c) l page s.pages,
        erases-erases (old_blocks s c l),
        length-append (if_any (live_log s c l)) (if_any (data_block s c l)),
        found_few (live_log s c l),
        found_few (data_block s c l),
      )

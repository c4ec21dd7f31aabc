-- What a merge leaves, from the records before it: the block that is taken next and its number; and the contents while pages are copied.
use mathlib.Core.Path.{◌≡◌, refl, sym, ap, ◌∙◌, subst}
use mathlib.Core.Logic.{◌≢◌, ◌⊎◌, inl, inr}
use mathlib.Core.Bool.{true}
use mathlib.Core.List.{List, ◌++◌, map}
use Prim.Native.Nat.{ℕ, ◌+◌, ◌≤◌, ◌<◌}
use native.Mathlib.Omega.{arith}
use native.Mathlib.Nat.{le_refl}
use lib.Dec.{T}
use borrow.Author.Tests.{eq-eqb, ne_eqb}
use Rattle.std.specs.Prelude.{Some, None}
use Rattle.rules.specs.declared.shape.Shape.{Shape}
use Rattle.rules.specs.declared.kind.Kind.TheVariants.{Copy}
use Rattle.rules.specs.declared.block.State.TheVariants.{Free}
use Rattle.rules.specs.declared.block.Block.{Block}
use Rattle.rules.specs.Below.{none, if_any, first_below, list_below}
use Rattle.rules.specs.Spare.{number_limit}
use Rattle.rules.specs.Shape.{block_of}
use Rattle.rules.specs.Page.{Image}
use Rattle.rules.specs.WellFormed.{Blocks, not_used, is_free, is_used, data_block, live_log, block_at, blocks_of}
use Rattle.rules.specs.Content.{content}
use Rattle.rules.specs.Steps.{erase, steps_done, erases, taken, highest, new_number, copies, merge_list, copy_step, contents, renewal}
use Rattle.rules.specs.Facts.{Fits}
use Rattle.laws.specs.Foreseen.{free_then}
use Rattle.laws.proofs.Tests.{dec_eq}
use Rattle.laws.proofs.Below.{All, all_append, all_left, all_right, found_all, found_out, first_below-same}
use Rattle.laws.proofs.Shape.{offset_of_below}
use Rattle.laws.proofs.Pages.{steps_done-append}
use Rattle.laws.proofs.Roles.{free_not_used, used_below, below_none, none_filled, data_used, live_used, data_block_found, live_log_found, Recovered, highest_ge, taken_free}
use Rattle.laws.proofs.Records.{blocks_of_at}
use Rattle.laws.proofs.Filled.{used_with}
use Rattle.laws.proofs.Blocks.{free_block_filled, blank_block_at, steps_block_at, erases_in_lem, erases_apart, erases-block_at}
use Rattle.laws.proofs.Change.{changed, changed_same, changed_other}
use Rattle.laws.proofs.Content.{SamePages, content_same}
use Rattle.laws.proofs.Erasing.{Sound, content_of}
use Rattle.laws.proofs.Copy.{Copies, copy_record, copy_record_some}
use Rattle.laws.proofs.Renewal.{After}
use Rattle.laws.proofs.Merge.{merge_made, merge_end}

-- a block of an image that is free has the record of a free block
pub free_record : (s : Shape) (im : Image) (j : ℕ) → j < s.blocks → T (is_free (blocks_of s im j).state) → blocks_of s im j ≡ not_used Free
free_record s im j h t =
    blocks_of_at s im j h ∙ blank_block_at s im j (free_block_filled s im j (subst (λ (x : Block). T (is_free x.state)) (blocks_of_at s im j h) t) 0 None 0)

module _ (s : Shape) (im : Image) (w : Sound s im) (rec : Recovered s (blocks_of s im)) (l : ℕ) (hl : l < s.logical)
    (fit : new_number s (blocks_of s im) ≤ number_limit) where
  abbrev c : Blocks
  c = blocks_of s im

  -- the block taken, the log block and the data block
  abbrev f : ℕ
  f = taken s c

  abbrev v : ℕ
  v = live_log s c l

  abbrev d : ℕ
  d = data_block s c l

  f_free : T (is_free (c f).state)
  f_free = (taken_free s c w.wf rec w.enough).0

  f_below : f < s.blocks
  f_below = (taken_free s c w.wf rec w.enough).1

  f_other : (j : ℕ) → T (is_used (c j).state) → j ≢ f
  f_other j t e = free_not_used (c f).state f_free (subst (λ (i : ℕ). T (is_used (c i).state)) e t)

  log_used : (k : ℕ) → live_log s c k ≢ none → T (is_used (c (live_log s c k)).state)
  log_used k ne = elim (live_log_found s c w.wf.records k) [ inl y ↦ live_used s c (live_log s c k) y.passes | inr y ↦ absurd (ne y.is) ]

  data_in : (k : ℕ) → data_block s c k ≢ none → T (is_used (c (data_block s c k)).state)
  data_in k ne = elim (data_block_found s c w.wf.records k) [ inl y ↦ data_used s c (data_block s c k) y.passes | inr y ↦ absurd (ne y.is) ]

  -- ---- while pages are copied

  abbrev own : ℕ → List ℕ
  own = contents s im c l

  -- the image after m of them
  abbrev pub moment : ℕ → Image
  moment m = steps_done s (list_below m (copy_step s f (new_number s c) l own)) im

  copying : (m : ℕ) → m ≤ s.pages → Copies s f (new_number s c) l own im m
  copying = merge_made s im w l rec hl fit

  -- A copy step reads the image of that moment: by the records of the start, each page has the content that it had.
  pub moment_content : (m : ℕ) → m ≤ s.pages → (a : ℕ) → content s (moment m) c a ≡ content s im c a
  moment_content m h a =
      content_same s a (offset_of_below s w.fits.limits a) im (moment m) c c b (c b).filled refl refl refl refl log refl
      (λ ne. (copying m h).others (data_block s c k) (f_other (data_block s c k) (data_in k ne)))
    where
      k : ℕ
      k = block_of s a

      b : ℕ
      b = live_log s c k

      log : SamePages s im (moment m) b (c b).filled
      log i q =
          (copying m h).others b
          (f_other b (log_used k (λ z. omega (arith, none_filled s c w.wf.records, ap (λ (j : ℕ). (c j).filled) z)))) i
          (omega (arith, w.wf.records.fits b))

  -- ---- after the merge

  abbrev pub merged : Image
  merged = steps_done s (merge_list s im c l) im

  abbrev out : List ℕ
  out = if_any v ++ if_any d

  abbrev copy : Block
  copy = copy_record s f (new_number s c) l own s.pages

  copied_all : Copies s f (new_number s c) l own im s.pages
  copied_all = copying s.pages (le_refl s.pages)

  merged_is : merged ≡ steps_done s (map erase out) (moment s.pages)
  unfolding merge_list renewal copies
  merged_is = steps_done-append s (list_below s.pages (copy_step s f (new_number s c) l own)) (map erase out) im

  out_below : All (λ b. b < s.blocks) out
  out_below =
      all_append (λ b. b < s.blocks) (if_any v) (if_any d)
      (found_all (λ b. b < s.blocks) v (λ ne. used_below s c w.wf.records v (log_used l ne)))
      (found_all (λ b. b < s.blocks) d (λ ne. used_below s c w.wf.records d (data_in l ne)))

  end : After s im l (content_of s im) (0 + erases (merge_list s im c l)) merged × Recovered s (blocks_of s merged)
  end = merge_end s im w l rec hl fit

  pub merged_fits : Fits s merged
  merged_fits = end.0.0.sound.fits

  -- the log block and the data block are free
  merged_free : (j : ℕ) → j < s.blocks → (j ≡ v) ⊎ (j ≡ d) → blocks_of s merged j ≡ not_used Free
  merged_free j h e =
      blocks_of_at s merged j h ∙ ap (λ (i : Image). block_at s i j) merged_is
      ∙ erases-block_at s j out (moment s.pages) copied_all.fits out_below
      (λ a. elim e [
        | inl q ↦ found_out v j (below_none s c w.wf.records h) (all_left (λ x. j ≢ x) (if_any v) (if_any d) a) q
        | inr q ↦ found_out d j (below_none s c w.wf.records h) (all_right (λ x. j ≢ x) (if_any v) (if_any d) a) q
      ])

  -- the others but the copy are as they were
  merged_kept : (j : ℕ) → j < s.blocks → j ≢ v → j ≢ d → blocks_of s merged j ≡ changed c f copy j
  merged_kept j h nv nd =
      blocks_of_at s merged j h ∙ ap (λ (i : Image). block_at s i j) merged_is
      ∙ steps_block_at s (moment s.pages) copied_all.fits (map erase out) (erases_in_lem s out out_below) j
      (erases_apart s j out (all_append (λ x. j ≢ x) (if_any v) (if_any d) (found_all (λ x. j ≢ x) v (λ ne. nv)) (found_all (λ x. j ≢ x) d (λ ne. nd))))
      ∙ sym (blocks_of_at s (moment s.pages) j h) ∙ ap (λ (k : Blocks). k j) copied_all.blocks

  -- the block taken holds the copy
  merged_copy : blocks_of s merged f ≡ used_with (new_number s c) (Some Copy) l s.pages true
  merged_copy =
      merged_kept f f_below (λ e. not_it e (log_used l)) (λ e. not_it e (data_in l)) ∙ changed_same c f copy
      ∙ copy_record_some s f (new_number s c) l own s.pages (omega (arith, w.fits.limits.pages_low))
    where
      not_it : {b : ℕ} → f ≡ b → (b ≢ none → T (is_used (c b).state)) → ⊥
      not_it {b} e used = f_other b (used (λ z. below_none s c w.wf.records f_below (e ∙ z))) (sym e)

  free_test : (j : ℕ) → j < s.blocks → is_free (blocks_of s merged j).state ≡ free_then c f v d j
  free_test j h =
      elim (dec_eq j f) [
        | inl e ↦ rw (eq-eqb j f e) (by (ap (blocks_of s merged) e ∙ merged_copy))
        | inr n ↦ elim (dec_eq j v) [
          | inl e ↦ rw (ne_eqb j f n, eq-eqb j v e) (by (merged_free j h (inl e)))
          | inr nv ↦ elim (dec_eq j d) [
            | inl e ↦ rw (ne_eqb j f n, ne_eqb j v nv, eq-eqb j d e) (by (merged_free j h (inr e)))
            | inr nd ↦ rw (ne_eqb j f n, ne_eqb j v nv, ne_eqb j d nd) (by (merged_kept j h nv nd ∙ changed_other c f copy j n))
          ]
        ]
      ]
    where
      by : {x y : Block} → x ≡ y → is_free x.state ≡ is_free y.state
      by e = ap (λ (z : Block). is_free z.state) e

  -- The block taken after the merge is the lowest that is free by then.
  pub merged_taken : taken s (blocks_of s merged) ≡ first_below s.blocks (free_then c f v d)
  unfolding taken
  merged_taken = first_below-same s.blocks (λ j. is_free (blocks_of s merged j).state) (free_then c f v d) free_test

  -- It gets the number after the copy's.
  pub merged_number : new_number s (blocks_of s merged) ≡ highest s c + 2
  merged_number =
      let here : (blocks_of s merged f).number ≡ new_number s c = ap (λ (x : Block). x.number) merged_copy in
      omega (arith, highest_ge s (blocks_of s merged) f f_below, end.0.0.highest)

  -- There is one.
  pub merged_next : (taken s (blocks_of s merged) < s.blocks) × (blocks_of s merged (taken s (blocks_of s merged)) ≡ not_used Free)
  merged_next =
      let r = taken_free s (blocks_of s merged) end.0.0.sound.wf end.1 end.0.0.sound.enough in
      (r.1, free_record s merged (taken s (blocks_of s merged)) r.1 r.0)

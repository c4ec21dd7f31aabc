-- The own program of a write: the next page of the live log block, or the first of a block just taken, and the erase after it.
use mathlib.Core.Path.{◌≡◌, sym, ap, ◌∙◌, subst}
use mathlib.Core.Logic.{◌≢◌, ◌⊎◌, inl, inr}
use mathlib.Core.Bool.{Bool, cond}
use mathlib.Core.List.{List, map}
use Prim.Native.Nat.{ℕ, suc, ◌+◌, ◌≤◌, ◌<◌}
use native.Mathlib.Omega.{arith}
use native.Mathlib.Numerals.{add-one}
use lib.ListN.{length}
use lib.Dec.{T, eqb, eqb→eq}
use Rattle.rules.specs.declared.shape.Shape.{Shape}
use Rattle.rules.specs.declared.kind.Kind.TheVariants.{Log}
use Rattle.rules.specs.declared.block.Block.{Block}
use Rattle.rules.specs.Below.{none, if_any}
use Rattle.rules.specs.Spare.{number_limit}
use Rattle.rules.specs.Shape.{page_no, block_of, offset_of, logical_page, in_range}
use Rattle.rules.specs.Page.{Image, page_bytes}
use Rattle.rules.specs.WellFormed.{Blocks, is_free, is_used, is_complete, data_number, is_data, is_live, is_obsolete, data_block, live_log, live_logs, blocks_of}
use Rattle.rules.specs.Content.{content}
use Rattle.rules.specs.Steps.{erase, step_done, steps_done, new_number}
use Rattle.laws.proofs.Tests.{bool_ext, dec_eq, eq→eqb}
use Rattle.laws.proofs.Below.{All, found_all, found_distinct, found_out, count_below_one}
use Rattle.laws.proofs.Shape.{logical_page_of, offset_of_below, in_range_block, in_range_small}
use Rattle.laws.proofs.Blocks.{one_more, Writable, Joins}
use Rattle.laws.proofs.Pages.{is_log_is}
use Rattle.laws.proofs.Roles.{free_good, free_not_used, good_below, used_below, below_none, none_filled, complete_e, data_e, data_used, live_e, live_used, data_not_live, obsolete_e, data_number_below, WellFormed, has_some, data_block_found, data_block_is, live_log_is, live_log_none, Recovered, highest_ge}
use Rattle.laws.proofs.Change.{changed, changed_same, changed_other, Fitting, NoLive, LiveIs, good_blocks_kept, data_block_kept, below_obsolete, Completed, complete, complete_obsolete, LogGrown, append, begin}
use Rattle.laws.proofs.Content.{offset_at, content-append, content_fill}
use Rattle.laws.proofs.Along.{Along}
use Rattle.laws.proofs.Steps.{next_step, Programmed, program_done, used_numbers, ordered_offsets}
use Rattle.laws.proofs.Erasing.{Sound, logical_few, content_of, content_kept, obsoletes, Erasing, erasing_start, erasing}
use Rattle.history.proofs.Cost.{pages_at, pages_at_most, pages_at_live, pages_at_dead, log_pages, log_pages_changed}
use Rattle.history.proofs.Plan.{written, written_is, written_other}

-- in one logical block, the same offset is the same page
offset_page : (s : Shape) (a x : ℕ) → block_of s x ≡ block_of s a → eqb (offset_of s a) (offset_of s x) ≡ eqb x a
offset_page s a x e =
    bool_ext (eqb (offset_of s a) (offset_of s x)) (eqb x a)
    (λ t. eq→eqb x a (sym (logical_page_of s x) ∙ ap (λ (l : ℕ). logical_page s l (offset_of s x)) e
    ∙ ap (logical_page s (block_of s a)) (sym (eqb→eq (offset_of s a) (offset_of s x) t)) ∙ logical_page_of s a))
    (λ t. eq→eqb (offset_of s a) (offset_of s x) (ap (offset_of s) (sym (eqb→eq x a t))))

-- b is the live log block of l, with number n; or it is free, l has none, one more may be, and n is new
abbrev pub Place : Shape → Blocks → ℕ → ℕ → ℕ → Type 0
Place s c l b n =
    (T (is_live s c b) × ((c b).logical ≡ l) × ((c b).number ≡ n))
    ⊎ (T (is_free (c b).state) × NoLive s c l × (live_logs s c < s.logs) × (n ≡ new_number s c))

-- im is ready for the program of page a with the bytes d, into block b with number n
pub record Ready (s : Shape) (im : Image) (a : ℕ) (d : List ℕ) (b n : ℕ) : Type 0 where
  pub sound : Sound s im
  pub clean : Recovered s (blocks_of s im)
  pub long : length d ≡ 512
  pub inside : T (in_range s a)
  pub place : Place s (blocks_of s im) (block_of s a) b n
  pub below : (blocks_of s im b).filled < s.pages
  pub high : n ≤ number_limit

-- ---- what is left

-- im' is im with page a written to a log block that is not complete then
pub record Appends (s : Shape) (im : Image) (a : ℕ) (d : List ℕ) (im' : Image) : Type 0 where
  pub sound : Sound s im'
  pub clean : Recovered s (blocks_of s im')
  pub pages : log_pages s (blocks_of s im') ≤ log_pages s (blocks_of s im) + 1
  pub no_live : (m : ℕ) → m ≢ block_of s a → NoLive s (blocks_of s im) m → NoLive s (blocks_of s im') m
  pub holds : (y : ℕ) → content_of s im' y ≡ written a d (content_of s im) y

-- im' is im with page a written to the live log block b, which is complete then; the former data block is erased after it
pub record Fills (s : Shape) (im : Image) (a : ℕ) (d : List ℕ) (b : ℕ) (im' : Image) : Type 0 where
  pub sound : Sound s im'
  pub was_live : T (is_live s (blocks_of s im) b)
  pub along : Along s (Erasing s im') 0 (map erase (if_any (data_block s (blocks_of s im) (block_of s a)))) im'
  pub clean : Recovered s (blocks_of s (steps_done s (map erase (if_any (data_block s (blocks_of s im) (block_of s a)))) im'))
  pub obsolete : obsoletes s im' ≤ 1
  pub pages : log_pages s (blocks_of s im') + s.pages ≤ log_pages s (blocks_of s im) + 1
  pub live : LiveIs s (blocks_of s im) (blocks_of s im')
  pub holds : (y : ℕ) → content_of s im' y ≡ written a d (content_of s im) y

module _ (s : Shape) (im : Image) {a : ℕ} {d : List ℕ} {b n : ℕ} (r : Ready s im a d b n) where
  abbrev w : Sound s im
  w = r.sound

  abbrev c : Blocks
  c = blocks_of s im

  abbrev l : ℕ
  l = block_of s a

  abbrev f : ℕ
  f = (c b).filled

  abbrev x : Block
  x = one_more s (c b) n Log a

  abbrev im' : Image
  im' = step_done s (next_step s im b n Log a d) im

  abbrev c' : Blocks
  c' = changed c b x

  -- ---- what b is

  table : Writable n a
  table =
      let low : 1 ≤ n = elim r.place [
        | inl p ↦ omega (arith, (used_numbers s im w.fits b (live_used s c b p.0)).0, p.2)
        | inr p ↦ omega (arith, p.3)
      ] in
      record { number_low = low; number_high = r.high; address = in_range_small s w.fits.limits (logical_few s im w) a r.inside }

  joins : Joins s (blocks_of s im b) n Log a
  joins =
      record {
        own = elim r.place [ inl p ↦ inr (live_used s c b p.0, p.2, is_log_is (c b).kind (live_e s c b p.0).log, p.1) | inr p ↦ inl p.0 ];
        room = r.below;
        in_range = r.inside;
        offset = λ t. absurd t;
      }

  pub done : Programmed s im b n Log a d (step_done s (next_step s im b n Log a d) im)
  done = program_done s im w.fits b n Log a d table joins r.long

  pub b_below : b < s.blocks
  b_below =
      elim r.place [
        | inl p ↦ used_below s c w.wf.records b (live_used s c b p.0)
        | inr p ↦ good_below s c w.wf.records b (free_good (c b).state p.0)
      ]

  not_data : T (is_data s c b) → ⊥
  not_data t = elim r.place [ inl p ↦ data_not_live s c b t p.0 | inr p ↦ free_not_used (c b).state p.0 (data_used s c b t) ]

  live_here : T (is_live s c b) → (c b).logical ≡ l
  live_here t = elim r.place [ inl p ↦ p.1 | inr p ↦ absurd (free_not_used (c b).state p.0 (live_used s c b t)) ]

  above : data_number s c l < n
  above =
      elim r.place [
        | inl p ↦ subst (λ (m : ℕ). data_number s c l < m) p.2
            (subst (λ (m : ℕ). data_number s c m < (c b).number) p.1 (live_e s c b p.0).above)
        | inr p ↦ data_number_below s c l n (omega (arith, p.3)) (λ j h. omega (arith, highest_ge s c j h, p.3))
      ]

  x_allowed : Fitting s c b x
  x_allowed =
      record {
        below = b_below;
        good = tt;
        no_ill = λ u. u;
        free = λ u. absurd u;
        in_range = λ u. in_range_block s w.fits.limits a r.inside;
        fits = omega (arith, r.below);
        fresh = λ u j ne v e. elim r.place [
          | inl p ↦ ne (w.wf.numbers j b v (live_used s c b p.0) (e ∙ sym p.2))
          | inr p ↦ omega (arith, highest_ge s c j (used_below s c w.wf.records j v), p.3)
        ];
      }

  -- the live log block of l before, if any, was b
  before : ((c (live_log s c l)).filled ≡ f) × ((live_log s c l ≡ b) ⊎ (f ≡ 0))
  before =
      elim r.place [
        | inl p ↦ let e : live_log s c l ≡ b = live_log_is s c w.wf b l p.0 p.1 in (ap (λ (v : ℕ). (c v).filled) e, inl e)
        | inr p ↦
            let z : f ≡ 0 = ap (λ (y : Block). y.filled) (w.wf.records.free b p.0) in
            (ap (λ (v : ℕ). (c v).filled) (live_log_none s c w.wf.records l p.1) ∙ none_filled s c w.wf.records ∙ sym z, inr z)
      ]

  -- a logical block's data block is another than b
  data_other : (m : ℕ) → data_block s c m ≢ none → data_block s c m ≢ b
  data_other m h e = not_data (subst (λ (j : ℕ). T (is_data s c j)) e (has_some (data_block_found s c w.wf.records m) h).passes)

  -- ---- the contents

  sound_with : WellFormed s c' → Sound s im'
  sound_with wf =
      record {
        fits = done.fits;
        wf = rw done.blocks wf;
        enough = rw done.blocks (omega (arith, good_blocks_kept s c b x tt, w.enough));
      }

  other_holds : ((m : ℕ) → m ≢ l → data_number s c' m ≡ data_number s c m) → (y : ℕ) → block_of s y ≢ l → content s im' c' y ≡ content s im c y
  other_holds e y ne =
      content_kept s im im' w.fits c w.wf.records b x b_below done.others y (e (block_of s y) ne)
      (λ t. absurd (not_data t)) (λ t q. ne (sym q ∙ live_here t)) (λ t q. ne (sym q)) (λ t q. ne (sym q))

  -- the page programmed is page a
  own_page : (y : ℕ) → block_of s y ≡ l
      → cond (eqb (offset_at s im' b f) (offset_of s y)) (page_bytes im' (page_no s b f)) (content s im c y) ≡ written a d (content_of s im) y
  own_page y e =
      ap (λ (o : ℕ). cond (eqb (offset_of s o) (offset_of s y)) (page_bytes im' (page_no s b f)) (content s im c y)) done.address
      ∙ ap (λ (t : Bool). cond t (page_bytes im' (page_no s b f)) (content s im c y)) (offset_page s a y e)
      ∙ ap (λ (v : List ℕ). cond (eqb y a) v (content s im c y)) done.bytes
      ∙ sym (written_is a d (content_of s im) y)

  other_page : (y : ℕ) → block_of s y ≢ l → content s im c y ≡ written a d (content_of s im) y
  other_page y ne = sym (written_other a d (content_of s im) y (λ e. ne (ap (block_of s) e)))

  -- by the two cases
  holds_with : ((m : ℕ) → m ≢ l → data_number s c' m ≡ data_number s c m)
      → ((y : ℕ) → block_of s y ≡ l → content s im' c' y
      ≡ cond (eqb (offset_at s im' b f) (offset_of s y)) (page_bytes im' (page_no s b f)) (content s im c y))
      → (y : ℕ) → content_of s im' y ≡ written a d (content_of s im) y
  holds_with e own y =
      ap (λ (k : Blocks). content s im' k y) done.blocks
      ∙ elim (dec_eq (block_of s y) l) [ inl q ↦ own y q ∙ own_page y q | inr q ↦ other_holds e y q ∙ other_page y q ]

  -- ---- b stays a log block

  module _ (open' : T (is_complete s x) → ⊥) where
    made : LogGrown s c b x
    made =
        elim r.place [
          | inl p ↦ append s c b x w.wf x_allowed tt tt open' not_data above p.0 p.1
          | inr p ↦ begin s c b x w.wf x_allowed tt tt open' not_data above p.1 p.2
        ]

    log_is : live_log s c' l ≡ b
    log_is = live_log_is s c' made.wf b l made.is_live (ap (λ (y : Block). y.logical) (changed_same c b x))

    data_is : data_block s c' l ≡ data_block s c l
    data_is = data_block_kept s c b x l (made.numbers l) (λ t. absurd (not_data t)) (λ t. absurd (open' t.complete))

    append-holds : (y : ℕ) → content_of s im' y ≡ written a d (content_of s im) y
    append-holds =
        holds_with (λ m ne. made.numbers m)
        (λ y e. content-append s y (offset_of_below s w.fits.limits y) im im' c c' b f
        (subst (λ (m : ℕ). ((c (live_log s c m)).filled ≡ f) × ((live_log s c m ≡ b) ⊎ (f ≡ 0))) (sym e) before) done.earlier
        (ap (live_log s c') e ∙ log_is) (ap (λ (z : Block). z.filled) (changed_same c b x) ∙ add-one f)
        (ap (data_block s c') e ∙ data_is ∙ ap (data_block s c) (sym e))
        (λ h. done.others (data_block s c (block_of s y)) (data_other (block_of s y) h)))

    append-pages : log_pages s (blocks_of s im') ≤ log_pages s c + 1
    append-pages =
        rw done.blocks
        (let r = log_pages_changed s c b x 0 1 b_below (λ m. omega (arith, made.numbers m)) one_more in omega arith)
      where
        most : pages_at s c' b ≤ suc f
        most = omega (arith, pages_at_most s c' b, ap (λ (z : Block). z.filled) (changed_same c b x))

        one_more : pages_at s c' b + 0 ≤ pages_at s c b + 1
        one_more =
            elim r.place [
              | inl p ↦ omega (arith, most, pages_at_live s c b p.0)
              | inr p ↦ omega (arith, most, ap (λ (z : Block). z.filled) (w.wf.records.free b p.0))
            ]

    pub own_appends : Appends s im a d (step_done s (next_step s im b n Log a d) im)
    own_appends =
        record {
          sound = sound_with made.wf;
          clean = rw done.blocks (λ j t. r.clean j (made.obsolete j t));
          pages = append-pages;
          no_live = λ m ne. rw done.blocks (made.no_live m ne);
          holds = append-holds;
        }

  -- ---- b becomes complete, and the data block of l: the former one goes

  module _ (full : T (is_complete s x)) where
    was_live_lem : T (is_live s c b) × ((c b).logical ≡ l) × ((c b).number ≡ n)
    was_live_lem =
        elim r.place [
          | inl p ↦ p
          | inr p ↦
              absurd (omega (
                arith,
                (complete_e s x full).full,
                ap (λ (z : Block). z.filled) (w.wf.records.free b p.0),
                w.fits.limits.pages_low,
              ))
        ]

    filled_is : suc f ≡ s.pages
    filled_is = omega (arith, (complete_e s x full).full)

    made' : Completed s c b x
    made' =
        complete s c b x w.wf x_allowed full not_data above
        (λ j ne t q. absurd (ne (w.wf.one_live j b t was_live_lem.0 (q ∙ sym was_live_lem.1))))

    data_is' : data_block s c' l ≡ b
    data_is' = data_block_is s c' made'.wf b l made'.is_data (ap (λ (z : Block). z.logical) (changed_same c b x))

    log_none : (c' (live_log s c' l)).filled ≡ 0
    log_none = ap (λ (v : ℕ). (c' v).filled) (live_log_none s c' made'.wf.records l made'.no_live) ∙ none_filled s c' made'.wf.records

    -- page i of b has offset i
    in_order : (i : ℕ) → i < s.pages → offset_at s im' b i ≡ i
    in_order i h =
        ordered_offsets s im' done.fits b (subst (λ (z : Block). T (is_used z.state)) (sym at_b) tt)
        (subst (λ (z : Block). T z.ordered) (sym at_b) (complete_e s x full).order)
        i (omega (arith, ap (λ (z : Block). z.filled) at_b, filled_is)) h
      where
        at_b : blocks_of s im' b ≡ x
        at_b = ap (λ (k : Blocks). k b) done.blocks ∙ changed_same c b x

    fill_holds : (y : ℕ) → content_of s im' y ≡ written a d (content_of s im) y
    fill_holds =
        holds_with made'.numbers
        (λ y e. content_fill s y (offset_of_below s w.fits.limits y) im im' c c' b f
        (subst (λ (m : ℕ). ((c (live_log s c m)).filled ≡ f) × ((live_log s c m ≡ b) ⊎ (f ≡ 0))) (sym e) before) done.earlier
        (subst (λ (m : ℕ). (c' (live_log s c' m)).filled ≡ 0) (sym e) log_none) (ap (data_block s c') e ∙ data_is')
        (below_none s c w.wf.records b_below) filled_is in_order)

    abbrev o : ℕ
    o = data_block s c l

    obsolete_then : (j : ℕ) → T (is_obsolete s (blocks_of s im') j) → j ≡ o
    obsolete_then j t =
        let t' : T (is_obsolete s c' j) = subst (λ (k : Blocks). T (is_obsolete s k j)) done.blocks t in
        elim (complete_obsolete s c b x w.wf x_allowed full made' j t') [
          | inl q ↦ absurd (r.clean j q)
          | inr q ↦ elim q [
            | inl y ↦ y
            | inr y ↦
                let e : j ≡ b = y ∙ live_log_is s c w.wf b l was_live_lem.0 was_live_lem.1 in
                absurd ((obsolete_e s c' b (subst (λ (i : ℕ). T (is_obsolete s c' i)) e t')).1 made'.is_data)
          ]
        ]

    former : o ≢ none → T (is_obsolete s (blocks_of s im') o)
    former h =
        let y = has_some (data_block_found s c w.wf.records l) h in
        let z : c' o ≡ c o = changed_other c b x o (data_other l h) in
        let q : (c o).number ≡ data_number s c l = (data_e s c o y.passes).number ∙ ap (data_number s c) y.logical in
        subst (λ (k : Blocks). T (is_obsolete s k o)) (sym done.blocks)
        (below_obsolete s c' o (rw z (data_used s c o y.passes)) (rw (z, y.logical, made'.top) (omega (arith, above))))

    fill_sound : Sound s im'
    fill_sound = sound_with made'.wf

    tail : Along s (Erasing s im') 0 (map erase (if_any o)) im'
        × ((j : ℕ) → T (is_obsolete s (blocks_of s (steps_done s (map erase (if_any o)) im')) j) → T (is_obsolete s (blocks_of s im') j)
        × All (λ z. j ≢ z) (if_any o))
    tail =
        erasing s im' (if_any o) 0 im' (erasing_start s im' fill_sound) (found_all (λ z. T (is_obsolete s (blocks_of s im') z)) o former)
        (found_distinct o)

    fill_clean : Recovered s (blocks_of s (steps_done s (map erase (if_any o)) im'))
    fill_clean j t =
        let r = tail.1 j t in
        found_out o j (below_none s c w.wf.records
        (used_below s (blocks_of s im') fill_sound.wf.records j (obsolete_e s (blocks_of s im') j r.0).0))
        r.1 (obsolete_then j r.0)

    pub own_fills : Fills s im a d b (step_done s (next_step s im b n Log a d) im)
    unfolding obsoletes
    own_fills =
        record {
          sound = fill_sound;
          was_live = was_live_lem.0;
          along = tail.0;
          clean = fill_clean;
          obsolete = count_below_one s.blocks o (is_obsolete s (blocks_of s im')) (λ j h. obsolete_then j);
          pages =
              rw done.blocks
              (log_pages_changed s c b x s.pages 1 b_below made'.rises
              (omega (arith, pages_at_dead s c' b (data_not_live s c' b made'.is_data), pages_at_live s c b was_live_lem.0, filled_is)));
          live = rw done.blocks made'.live;
          holds = fill_holds;
        }

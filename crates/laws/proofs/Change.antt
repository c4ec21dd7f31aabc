-- The roles of used blocks after the record of one block has changed.
use mathlib.Core.Path.{◌≡◌, refl, sym, ap, ◌∙◌, subst}
use mathlib.Core.Logic.{◌≢◌, ◌⊎◌, inl, inr}
use mathlib.Core.Bool.{Bool, not, ◌&&◌, cond}
use Prim.Native.Nat.{ℕ, ◌≤◌, ◌<◌}
use native.Mathlib.Omega.{arith}
use native.Mathlib.Nat.{le_refl}
use lib.Dec.{T, ltb, eqb}
use Rattle.rules.specs.declared.shape.Shape.{Shape}
use Rattle.rules.specs.declared.block.State.TheVariants.{Free}
use Rattle.rules.specs.declared.block.Block.{Block}
use Rattle.rules.specs.Below.{none}
use Rattle.rules.specs.Page.{is_log}
use Rattle.rules.specs.WellFormed.{Blocks, not_used, is_good, is_free, is_ill, is_used, is_complete, data_number, is_data, is_live, is_obsolete, data_block, live_log, live_logs}
use Rattle.rules.specs.Replies.{good_blocks}
use Rattle.laws.proofs.Tests.{cond_yes, cond_no, dec_eq, lt_or_le, eq→eqb, ne→eqb}
use Rattle.laws.proofs.Below.{bit_le, count_below-le, count_below_move}
use Rattle.laws.proofs.Roles.{Records, IsData, IsLive, data_e, data_i, live_e, live_i, obsolete_e, obsolete_i, used_roles, data_number-le, data_number_at, data_number-ge, WellFormed, Has, data_block_same, live_log_same, data_block_is, live_log_is}

-- ---- the records c, but x for block b

unfoldable pub changed : Blocks → ℕ → Block → Blocks
changed c b x j = cond (eqb j b) x (c j)

pub changed_same : (c : Blocks) (b : ℕ) (x : Block) → changed c b x b ≡ x
unfolding changed
changed_same c b x = cond_yes (eqb b b) x (c b) (eq→eqb b b refl)

pub changed_other : (c : Blocks) (b : ℕ) (x : Block) (j : ℕ) → j ≢ b → changed c b x j ≡ c j
unfolding changed
changed_other c b x j h = cond_no (eqb j b) x (c j) (ne→eqb j b h)

-- what holds of x at b, and of every other record, holds of each
pub changed_elim : (c : Blocks) (b : ℕ) (x : Block) (Q : ℕ → Block → Type 0) → Q b x → ((j : ℕ) → j ≢ b → Q j (c j)) → (j : ℕ) → Q j (changed c b x j)
changed_elim c b x Q q r j =
    elim (dec_eq j b) [
      | inl e ↦ subst (λ (i : ℕ). Q i (changed c b x i)) (sym e) (subst (λ (z : Block). Q b z) (sym (changed_same c b x)) q)
      | inr n ↦ subst (λ (z : Block). Q j z) (sym (changed_other c b x j n)) (r j n)
    ]

-- x may be the record of b, where the others are c
pub record Fitting (s : Shape) (c : Blocks) (b : ℕ) (x : Block) : Type 0 where
  pub below : b < s.blocks
  pub good : T (is_good x.state)
  pub no_ill : T (is_ill x.state) → ⊥
  pub free : T (is_free x.state) → x ≡ not_used Free
  pub in_range : T (is_used x.state) → x.logical < s.logical
  pub fits : x.filled ≤ s.pages
  pub fresh : T (is_used x.state) → (j : ℕ) → j ≢ b → T (is_used (c j).state) → (c j).number ≢ x.number

-- each live log block of c' is one of c, of the same logical block
abbrev pub LiveWas : Shape → Blocks → Blocks → Type 0
LiveWas s c c' = (j : ℕ) → T (is_live s c' j) → T (is_live s c j) × ((c' j).logical ≡ (c j).logical)

-- l has no live log block
abbrev pub NoLive : Shape → Blocks → ℕ → Type 0
NoLive s c l = (j : ℕ) → T (is_live s c j) → (c j).logical ≡ l → ⊥

module _ (s : Shape) (c : Blocks) (b : ℕ) (x : Block) where
  abbrev c' : Blocks
  c' = changed c b x

  pub changed_records : Records s c → Fitting s c b x → Records s (changed c b x)
  changed_records r p =
      record {
        few = r.few;
        outside = λ j h. changed_other c b x j (λ e. omega (arith, p.below)) ∙ r.outside j h;
        free = changed_elim c b x (λ j z. T (is_free z.state) → z ≡ not_used Free) p.free (λ j n. r.free j);
        in_range = changed_elim c b x (λ j z. T (is_used z.state) → z.logical < s.logical) p.in_range (λ j n. r.in_range j);
        fits = changed_elim c b x (λ j z. z.filled ≤ s.pages) p.fits (λ j n. r.fits j);
      }

  -- ---- the number of the data block

  -- b is no data block, and x none of l
  pub data_number_keep : (l : ℕ) → (T (is_data s c b) → ⊥) → (T (is_complete s x) → x.logical ≡ l → ⊥)
      → data_number s (changed c b x) l ≡ data_number s c l
  data_number_keep l nd nx =
      elim (lt_or_le 0 (data_number s c l)) [ inl p ↦ omega (arith, most, least (data_number_at s c l p)) | inr p ↦ omega (arith, most) ]
    where
      most : data_number s c' l ≤ data_number s c l
      most =
          data_number-le s c' l (data_number s c l)
          (changed_elim c b x (λ j z. j < s.blocks → T (is_complete s z) → z.logical ≡ l → z.number ≤ data_number s c l)
          (λ h t e. absurd (nx t e))
          (λ j n h t e. subst (λ (k : ℕ). (c j).number ≤ data_number s c k) e (data_number-ge s c j h t)))

      least : (i : ℕ) × (i < s.blocks) × T (is_complete s (c i)) × ((c i).logical ≡ l) × ((c i).number ≡ data_number s c l)
          → data_number s c l ≤ data_number s c' l
      least q =
          let i : ℕ = q.0 in
          let d : T (is_data s c i) = data_i s c i (record { complete = q.2; number = q.4 ∙ ap (data_number s c) (sym q.3) }) in
          let n : i ≢ b = λ e. nd (subst (λ (j : ℕ). T (is_data s c j)) e d) in
          let z : c' i ≡ c i = changed_other c b x i n in
          let g = data_number-ge s c' i q.1 (subst (λ (y : Block). T (is_complete s y)) (sym z) q.2) in
          let g' : (c i).number ≤ data_number s c' (c i).logical = subst (λ (y : Block). y.number ≤ data_number s c' y.logical) z g in
          let g'' : (c i).number ≤ data_number s c' l = subst (λ (k : ℕ). (c i).number ≤ data_number s c' k) q.3 g' in
          omega (arith, q.4)

  -- x is complete, with a number as high as any
  pub data_number_new : b < s.blocks → T (is_complete s x) → data_number s c x.logical ≤ x.number
      → data_number s (changed c b x) x.logical ≡ x.number
  data_number_new h t k =
      let lo = data_number-ge s c' b h (subst (λ (z : Block). T (is_complete s z)) (sym (changed_same c b x)) t) in
      let lo' : x.number ≤ data_number s c' x.logical = subst (λ (z : Block). z.number ≤ data_number s c' z.logical) (changed_same c b x) lo in
      let hi : data_number s c' x.logical ≤ x.number =
      data_number-le s c' x.logical x.number
      (changed_elim c b x (λ j z. j < s.blocks → T (is_complete s z) → z.logical ≡ x.logical → z.number ≤ x.number) (λ q u e. le_refl x.number)
      (λ j n q u e. let g : (c j).number ≤ data_number s c x.logical =
      subst (λ (m : ℕ). (c j).number ≤ data_number s c m) e (data_number-ge s c j q u) in omega arith)) in
      omega arith

  -- ---- live log blocks

  -- where no data block has got a lower number, a live log block was live, if b is no other
  pub live_was : ((l : ℕ) → data_number s c l ≤ data_number s (changed c b x) l)
      → (IsLive s (data_number s (changed c b x) x.logical) x → T (is_live s c b) × (x.logical ≡ (c b).logical)) → LiveWas s c (changed c b x)
  live_was m f j t =
      changed_elim c b x (λ j z. IsLive s (data_number s c' z.logical) z → T (is_live s c j) × (z.logical ≡ (c j).logical)) f
      (λ j n v.
      let above : data_number s c (c j).logical < (c j).number = omega (arith, v.above, m (c j).logical) in
      (live_i s c j (record { used = v.used; log = v.log; incomplete = v.incomplete; above = above }), refl))
      j (live_e s c' j t)

  pub live_logs_was : LiveWas s c (changed c b x) → live_logs s (changed c b x) ≤ live_logs s c
  unfolding live_logs
  live_logs_was f = count_below-le s.blocks (is_live s c') (is_live s c) (λ j h t. (f j t).0)

  -- ---- W5 to W7

  pub good_blocks_kept : T (is_good x.state) → good_blocks s c ≤ good_blocks s (changed c b x)
  unfolding good_blocks
  good_blocks_kept g =
      count_below-le s.blocks (λ j. is_good (c j).state) (λ j. is_good (c' j).state)
      (λ j h. changed_elim c b x (λ j z. T (is_good (c j).state) → T (is_good z.state)) (λ t. g) (λ j n t. t) j)

  numbers_kept : WellFormed s c → Fitting s c b x → (i j : ℕ) → T (is_used (c' i).state) → T (is_used (c' j).state) → (c' i).number ≡ (c' j).number
      → i ≡ j
  numbers_kept w p i j =
      changed_elim c b x (λ i z. T (is_used z.state) → T (is_used (c' j).state) → z.number ≡ (c' j).number → i ≡ j)
      (λ t. changed_elim c b x (λ j z. T (is_used z.state) → x.number ≡ z.number → b ≡ j) (λ u e. refl)
      (λ j n u e. absurd (p.fresh t j n u (sym e))) j)
      (λ i m t. changed_elim c b x (λ j z. T (is_used z.state) → (c i).number ≡ z.number → i ≡ j) (λ u e. absurd (p.fresh u i m t e))
      (λ j n u e. w.numbers i j t u e) j)
      i

  -- with the live log blocks of c'
  pub well_formed_with : WellFormed s c → Fitting s c b x
      → ((i j : ℕ) → T (is_live s (changed c b x) i) → T (is_live s (changed c b x) j) → (changed c b x i).logical ≡ (changed c b x j).logical → i ≡ j)
      → live_logs s (changed c b x) ≤ s.logs → WellFormed s (changed c b x)
  well_formed_with w p one few =
      record {
        records = changed_records w.records p;
        no_ill = changed_elim c b x (λ j z. T (is_ill z.state) → ⊥) p.no_ill (λ j n. w.no_ill j);
        numbers = numbers_kept w p;
        one_live = one;
        few_live = few;
      }

  pub well_formed_kept : WellFormed s c → Fitting s c b x → LiveWas s c (changed c b x) → WellFormed s (changed c b x)
  well_formed_kept w p f =
      well_formed_with w p (λ i j t u e. w.one_live i j (f i t).0 (f j u).0 (sym (f i t).1 ∙ e ∙ (f j u).1))
      (omega (arith, live_logs_was f, w.few_live))

  -- ---- where the pages of l are

  -- of a role R that a test decides: neither the old nor the new record of b has it for l, so the same blocks have it
  module _ (R : ℕ → Block → Type 0) (test : Blocks → ℕ → Bool)
      (test-e : (k : Blocks) (j : ℕ) → T (test k j) → R (data_number s k (k j).logical) (k j))
      (test-i : (k : Blocks) (j : ℕ) → R (data_number s k (k j).logical) (k j) → T (test k j))
      (l : ℕ) (e : data_number s (changed c b x) l ≡ data_number s c l)
      (old : T (test c b) → (c b).logical ≢ l) (new : R (data_number s c l) x → x.logical ≢ l) where
    role_to : (j : ℕ) → Has (test c) c l j → Has (test c') c' l j
    role_to j q =
        let n : j ≢ b = λ z. old (subst (λ (i : ℕ). T (test c i)) z q.passes) (subst (λ (i : ℕ). (c i).logical ≡ l) z q.logical) in
        let z : c' j ≡ c j = changed_other c b x j n in
        let d : data_number s c (c j).logical ≡ data_number s c' (c j).logical = ap (data_number s c) q.logical ∙ sym e
        ∙ ap (data_number s c') (sym q.logical) in
        record {
          passes = test-i c' j (subst (λ (y : Block). R (data_number s c' y.logical) y) (sym z)
              (subst (λ (m : ℕ). R m (c j)) d (test-e c j q.passes)));
          logical = ap (λ (y : Block). y.logical) z ∙ q.logical;
        }

    role_from : (j : ℕ) → Has (test c') c' l j → Has (test c) c l j
    role_from j q =
        changed_elim c b x (λ j z. z.logical ≡ l → R (data_number s c' z.logical) z → Has (test c) c l j)
        (λ q v. absurd (new (subst (λ (d : ℕ). R d x) (ap (data_number s c') q ∙ e) v) q))
        (λ j n q v. record {
          passes = test-i c j (subst (λ (d : ℕ). R d (c j)) (ap (data_number s c') q ∙ e ∙ ap (data_number s c) (sym q)) v);
          logical = q;
        })
        j q.logical (test-e c' j q.passes)

  module _ (l : ℕ) (e : data_number s (changed c b x) l ≡ data_number s c l) where
    pub live_log_kept : (T (is_live s c b) → (c b).logical ≢ l) → (IsLive s (data_number s c l) x → x.logical ≢ l)
        → live_log s (changed c b x) l ≡ live_log s c l
    live_log_kept old new =
        live_log_same s c c' l (role_to (IsLive s) (is_live s) (live_e s) (live_i s) l e old new)
        (role_from (IsLive s) (is_live s) (live_e s) (live_i s) l e old new)

    pub data_block_kept : (T (is_data s c b) → (c b).logical ≢ l) → (IsData s (data_number s c l) x → x.logical ≢ l)
        → data_block s (changed c b x) l ≡ data_block s c l
    data_block_kept old new =
        data_block_same s c c' l (role_to (IsData s) (is_data s) (data_e s) (data_i s) l e old new)
        (role_from (IsData s) (is_data s) (data_e s) (data_i s) l e old new)

  -- ---- another block, where the data number of its logical block is the same

  module _ (j : ℕ) (n : j ≢ b) (e : data_number s (changed c b x) (c j).logical ≡ data_number s c (c j).logical) where
    -- a test of a block by its data number
    other : (test : ℕ → Block → Bool) → test (data_number s c' (c' j).logical) (c' j) ≡ test (data_number s c (c j).logical) (c j)
    other test =
        ap (λ (y : Block). test (data_number s c' y.logical) y) (changed_other c b x j n) ∙ ap (λ (d : ℕ). test d (c j)) e

    pub obsolete_other : is_obsolete s (changed c b x) j ≡ is_obsolete s c j
    unfolding is_obsolete is_data is_live
    obsolete_other =
        other (λ d y. is_used y.state && not (is_complete s y && eqb y.number d)
        && not (is_used y.state && is_log y.kind && not (is_complete s y) && ltb d y.number))

    pub live_other : is_live s (changed c b x) j ≡ is_live s c j
    unfolding is_live
    live_other = other (λ d y. is_used y.state && is_log y.kind && not (is_complete s y) && ltb d y.number)

-- a used block with a number below the data block's is obsolete
pub below_obsolete : (s : Shape) (c : Blocks) (j : ℕ) → T (is_used (c j).state) → (c j).number < data_number s c (c j).logical → T (is_obsolete s c j)
below_obsolete s c j t h =
    obsolete_i s c j t (λ u. let e = (data_e s c j u).number in omega arith) (λ u. let e = (live_e s c j u).above in omega arith)

-- ---- a block that is neither data block nor live gives place to another such

-- neither a complete block nor a log block
pub record Idle (s : Shape) (x : Block) : Type 0 where
  pub incomplete : T (is_complete s x) → ⊥
  pub no_log : T (is_used x.state) → T (is_log x.kind) → ⊥

-- each live log block of c' is one of c, as it stands
abbrev pub LiveIs : Shape → Blocks → Blocks → Type 0
LiveIs s c c' = (j : ℕ) → T (is_live s c' j) → T (is_live s c j) × (c' j ≡ c j)

pub record Quiet (s : Shape) (c c' : Blocks) : Type 0 where
  pub wf : WellFormed s c'
  pub numbers : (l : ℕ) → data_number s c' l ≡ data_number s c l
  pub live : LiveIs s c c'

module _ (s : Shape) (c : Blocks) (b : ℕ) (x : Block) where
  -- where x is no live log block, what was live before is so as it stands
  pub live_is : LiveWas s c (changed c b x) → ((d : ℕ) → IsLive s d x → ⊥) → LiveIs s c (changed c b x)
  live_is f g j t = ((f j t).0, changed_other c b x j n)
    where
      n : j ≢ b
      n e =
          let u = live_e s (changed c b x) b (subst (λ (i : ℕ). T (is_live s (changed c b x) i)) e t) in
          g (data_number s (changed c b x) (changed c b x b).logical)
          (subst (λ (z : Block). IsLive s (data_number s (changed c b x) (changed c b x b).logical) z) (changed_same c b x) u)

  pub quiet : WellFormed s c → Fitting s c b x → Idle s x → (T (is_data s c b) → ⊥) → (T (is_live s c b) → ⊥) → Quiet s c (changed c b x)
  quiet w p q nd nl = record { wf = well_formed_kept s c b x w p was; numbers = numbers; live = live_is was dead }
    where
      numbers : (l : ℕ) → data_number s (changed c b x) l ≡ data_number s c l
      numbers l = data_number_keep s c b x l nd (λ t e. q.incomplete t)

      dead : (d : ℕ) → IsLive s d x → ⊥
      dead d v = q.no_log v.used v.log

      was : LiveWas s c (changed c b x)
      was = live_was s c b x (λ l. omega (arith, numbers l)) (λ v. absurd (dead (data_number s (changed c b x) x.logical) v))

-- ---- a block x becomes complete, with a number above its data block's and not below its log block's

pub record Completed (s : Shape) (c : Blocks) (b : ℕ) (x : Block) : Type 0 where
  pub wf : WellFormed s (changed c b x)
  pub top : data_number s (changed c b x) x.logical ≡ x.number
  pub numbers : (l : ℕ) → l ≢ x.logical → data_number s (changed c b x) l ≡ data_number s c l
  pub rises : (l : ℕ) → data_number s c l ≤ data_number s (changed c b x) l
  pub live : LiveIs s c (changed c b x)
  pub no_live : NoLive s (changed c b x) x.logical
  pub is_data : T (is_data s (changed c b x) b)

module _ (s : Shape) (c : Blocks) (b : ℕ) (x : Block) (w : WellFormed s c) (p : Fitting s c b x) (t : T (is_complete s x)) where
  abbrev k : Blocks
  k = changed c b x

  pub complete : (T (is_data s c b) → ⊥) → data_number s c x.logical < x.number
      → ((j : ℕ) → j ≢ b → T (is_live s c j) → (c j).logical ≡ x.logical → (c j).number ≤ x.number) → Completed s c b x
  complete nd h m =
      record {
        wf = well_formed_kept s c b x w p was;
        top = top;
        numbers = numbers;
        rises = rises;
        live = live_is s c b x was (λ d v. v.incomplete t);
        no_live = no_live;
        is_data = data_i s k b (subst (λ (z : Block). IsData s (data_number s k z.logical) z) (sym (changed_same c b x))
            (record { complete = t; number = sym top }));
      }
    where
      top : data_number s k x.logical ≡ x.number
      top = data_number_new s c b x p.below t (omega arith)

      numbers : (l : ℕ) → l ≢ x.logical → data_number s k l ≡ data_number s c l
      numbers l n = data_number_keep s c b x l nd (λ u e. n (sym e))

      rises : (l : ℕ) → data_number s c l ≤ data_number s k l
      rises l = elim (dec_eq l x.logical) [ inl e ↦ rw e (omega (arith, top)) | inr n ↦ omega (arith, numbers l n) ]

      was : LiveWas s c k
      was = live_was s c b x rises (λ v. absurd (v.incomplete t))

      no_live : NoLive s k x.logical
      no_live j u e =
          changed_elim c b x (λ j z. T (is_live s c j) → IsLive s (data_number s k z.logical) z → z.logical ≡ x.logical → ⊥)
          (λ l v q. v.incomplete t)
          (λ j n l v q. let d : data_number s k (c j).logical ≡ x.number = ap (data_number s k) q ∙ top in omega (arith, m j n l q, v.above))
          j (was j u).0 (live_e s k j u) e

  -- what is obsolete then was so, or was data block or live log block of the same logical block
  pub complete_obsolete : Completed s c b x → (j : ℕ) → T (is_obsolete s (changed c b x) j)
      → T (is_obsolete s c j) ⊎ ((j ≡ data_block s c x.logical) ⊎ (j ≡ live_log s c x.logical))
  complete_obsolete r j u =
      let q = obsolete_e s k j u in
      let n : j ≢ b = λ e. q.1 (subst (λ (i : ℕ). T (is_data s k i)) (sym e) r.is_data) in
      let z : k j ≡ c j = changed_other c b x j n in
      elim (dec_eq (c j).logical x.logical) [
        | inl e ↦ elim (used_roles s c j (subst (λ (y : Block). T (is_used y.state)) z q.0)) [
          | inl d ↦ inr (inl (sym (data_block_is s c w j x.logical d e)))
          | inr y ↦ elim y [ inl v ↦ inr (inr (sym (live_log_is s c w j x.logical v e))) | inr o ↦ inl o ]
        ]
        | inr m ↦ inl (subst T (obsolete_other s c b x j n (r.numbers (c j).logical m)) u)
      ]

-- ---- a page more in the live log block of l, which stays incomplete; or the first of a new one

pub record LogGrown (s : Shape) (c : Blocks) (b : ℕ) (x : Block) : Type 0 where
  pub wf : WellFormed s (changed c b x)
  pub numbers : (l : ℕ) → data_number s (changed c b x) l ≡ data_number s c l
  pub is_live : T (is_live s (changed c b x) b)
  pub obsolete : (j : ℕ) → T (is_obsolete s (changed c b x) j) → T (is_obsolete s c j)
  pub no_live : (l : ℕ) → l ≢ x.logical → NoLive s c l → NoLive s (changed c b x) l

module _ (s : Shape) (c : Blocks) (b : ℕ) (x : Block) (w : WellFormed s c) (p : Fitting s c b x) (u : T (is_used x.state))
    (kind : T (is_log x.kind))
    (open' : T (is_complete s x) → ⊥) (nd : T (is_data s c b) → ⊥) (above : data_number s c x.logical < x.number) where
  abbrev k' : Blocks
  k' = changed c b x

  log_numbers : (l : ℕ) → data_number s (changed c b x) l ≡ data_number s c l
  log_numbers l = data_number_keep s c b x l nd (λ t e. open' t)

  log_is : IsLive s (data_number s (changed c b x) x.logical) x
  log_is = record { used = u; log = kind; incomplete = open'; above = omega (arith, log_numbers x.logical) }

  log_live : T (is_live s (changed c b x) b)
  log_live = live_i s k' b (subst (λ (z : Block). IsLive s (data_number s k' z.logical) z) (sym (changed_same c b x)) log_is)

  log_grown : WellFormed s (changed c b x) → LogGrown s c b x
  log_grown wf =
      record {
        wf = wf;
        numbers = log_numbers;
        is_live = log_live;
        obsolete = λ j t. elim (dec_eq j b) [
          | inl e ↦ absurd ((obsolete_e s k' j t).2 (subst (λ (i : ℕ). T (is_live s k' i)) (sym e) log_live))
          | inr n ↦ subst T (obsolete_other s c b x j n (log_numbers (c j).logical)) t
        ];
        no_live = λ l n f j t e. elim (dec_eq j b) [
          | inl q ↦ n (sym e ∙ ap (λ (z : Block). z.logical) (ap k' q ∙ changed_same c b x))
          | inr q ↦ f j (subst T (live_other s c b x j q (log_numbers (c j).logical)) t)
              (ap (λ (z : Block). z.logical) (sym (changed_other c b x j q)) ∙ e)
        ];
      }

  -- one page more
  pub append : T (is_live s c b) → (c b).logical ≡ x.logical → LogGrown s c b x
  append v e =
      log_grown (well_formed_kept s c b x w p (live_was s c b x (λ l. omega (arith, log_numbers l)) (λ y. (v, sym e))))

  -- a new log block
  pub begin : NoLive s c x.logical → live_logs s c < s.logs → LogGrown s c b x
  unfolding live_logs
  begin none room = log_grown (well_formed_with s c b x w p one few)
    where
      same : (j : ℕ) → j ≢ b → T (is_live s k' j) → T (is_live s c j)
      same j n t = subst T (live_other s c b x j n (log_numbers (c j).logical)) t

      logical : (j : ℕ) → j ≢ b → (k' j).logical ≡ (c j).logical
      logical j n = ap (λ (z : Block). z.logical) (changed_other c b x j n)

      own : (k' b).logical ≡ x.logical
      own = ap (λ (z : Block). z.logical) (changed_same c b x)

      one : (i j : ℕ) → T (is_live s k' i) → T (is_live s k' j) → (k' i).logical ≡ (k' j).logical → i ≡ j
      one i j t v e =
          elim (dec_eq i b) [
            | inl q ↦ elim (dec_eq j b) [
              | inl r ↦ q ∙ sym r
              | inr r ↦ absurd (none j (same j r v) (sym (logical j r) ∙ sym e ∙ ap (λ (m : ℕ). (k' m).logical) q ∙ own))
            ]
            | inr q ↦ elim (dec_eq j b) [
              | inl r ↦ absurd (none i (same i q t) (sym (logical i q) ∙ e ∙ ap (λ (m : ℕ). (k' m).logical) r ∙ own))
              | inr r ↦ w.one_live i j (same i q t) (same j r v) (sym (logical i q) ∙ e ∙ logical j r)
            ]
          ]

      few : live_logs s k' ≤ s.logs
      few =
          omega (
            arith,
            count_below_move s.blocks (is_live s c) (is_live s k') b 0 1 p.below (λ j h n. same j n)
                (omega (arith, bit_le (is_live s k' b))),
          )

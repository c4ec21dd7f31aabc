-- The leading pages of a block: which they are, and that with the others erased they give the block its record.
use mathlib.Core.Path.{◌≡◌, refl, sym, ap, subst, ◌∙◌}
use mathlib.Core.Logic.{inl, inr}
use mathlib.Core.Bool.{Bool, true, false, not, ◌&&◌, ◌||◌, and-true, and-false}
use mathlib.Core.List.{List, [], ◌∷◌}
use Prim.Native.Nat.{ℕ, ◌+◌, ◌-◌, ◌*◌, ◌≤◌, ◌<◌}
use native.Mathlib.Omega.{arith}
use lib.Dec.{T, T_not, not_T, leb, ltb, eqb, eqb→eq, le→leb, leb→le, lt→ltb, ltb→lt}
use lib.ListN.{length}
use borrow.Author.Tests.{eq-eqb, ne_eqb}
use Rattle.rules.specs.declared.shape.Shape.{Shape}
use Rattle.std.specs.Prelude.{Option, Some, None, MatchOption, ⊤}
use Rattle.rules.specs.declared.kind.Kind.{Kind}
use Rattle.rules.specs.declared.page.Page.{Page}
use Rattle.rules.specs.declared.page.Page.TheVariants.{Erased, Entry, Junk}
use Rattle.rules.specs.declared.block.State.TheVariants.{Free, Ill}
use Rattle.rules.specs.declared.block.Block.{Block}
use Rattle.blocks.specs.declared.record.First.{First}
use Rattle.rules.specs.Below.{all_below}
use Rattle.rules.specs.Facts.{Limits}
use Rattle.rules.specs.Spare.{kind_byte, kind_for, number_in, kind_in, address_in, in_table}
use Rattle.rules.specs.Shape.{page_no, block_of, offset_of, logical_page, in_range}
use Rattle.rules.specs.Page.{Image, page_spare, page_of, is_erased, is_entry, number_of, kind_of, address_of, is_copy, same_kind}
use Rattle.rules.specs.WellFormed.{naming, Pages, Rule, W1, W2, W3, W4, W1to4, not_used, all_erased, filled_in, in_order, good_block}
use Rattle.nand.specs.Entries.{OfTable, is_entry_of}
use Rattle.laws.proofs.Tests.{tcase, dec_eq, lt_or_le, true_is, is_true, is_false, false_is, bool_ext, and_l, and_r, and_i, or_l, or_r, or_e, eq→eqb, nlt→ltb, cond_yes, cond_no, each_chain, chain_each}
use Rattle.laws.proofs.Below.{all_below_at, all_below_all, all_turn, count_below_prefix}
use Rattle.laws.proofs.Shape.{logical_page_of, offset_of_below, in_range_block, block_in_range, logical_page_block}
use Rattle.laws.proofs.Pages.{is_erased_is, is_entry_is, is_same_kind, page_of-in_table, page_of-is_entry}
use Rattle.laws.proofs.Filled.{free_good_block}
use Rattle.laws.proofs.Records.{good_block_cases, rules_e, W1_before, W2_entry}
use Rattle.laws.proofs.Spare.{facts_in_table, kind_for_byte}
use Rattle.blocks.specs.Leading.{fits, blank_from, used_to, with_pages, may_start, started, start_of, in_block, goes_on, Begins, InOrder, Leads}

-- ---- a page that fits

module _ (s : Shape) (g : Pages) (i : ℕ) where
  fits_each : T (fits s g i) → (T (is_erased (g i)) → ⊥) × T (W2 s g i) × T (W3 s g i) × T (W4 s g i)
  unfolding fits
  fits_each t =
      let (t₁, (t₂, (t₃, (t₄, _)))) = chain_each (not (is_erased (g i))) (W2 s g i ∷ W3 s g i ∷ W4 s g i ∷ []) t in
      (T_not (is_erased (g i)) t₁, t₂, t₃, t₄)

  fits_entry : T (fits s g i) → T (is_entry (g i))
  fits_entry t = W2_entry s g i (fits_each t).0 (fits_each t).1

-- ---- no page from n on is programmed

module _ (s : Shape) (g : Pages) (n : ℕ) where
  pub blank_past : T (blank_from s g n) → (i : ℕ) → n ≤ i → i < s.pages → T (is_erased (g i))
  unfolding blank_from
  blank_past t i h k =
      elim (or_e (ltb i n) (is_erased (g i)) (all_below_at s.pages (λ j. ltb j n || is_erased (g j)) t i k)) [
        | inl u ↦ absurd (nlt→ltb i n h u)
        | inr u ↦ u
      ]

  pub past_blank : ((i : ℕ) → n ≤ i → i < s.pages → T (is_erased (g i))) → T (blank_from s g n)
  unfolding blank_from
  past_blank f =
      all_below_all s.pages (λ j. ltb j n || is_erased (g j)) (λ j h. elim (lt_or_le j n) [
        | inl k ↦ or_l (ltb j n) (is_erased (g j)) (lt→ltb j n k)
        | inr k ↦ or_r (ltb j n) (is_erased (g j)) (f j k h)
      ])

-- ---- the record of a block, by its leading pages

module _ (s : Shape) (g : Pages) {x : Block} (d : Leads s g x) where
  abbrev all : Rule → Bool
  all rule = all_below s.pages (rule s g)

  programmed : (i : ℕ) → i < x.filled → T (is_erased (g i)) → ⊥
  programmed i h = (fits_each s g i (d.fit i h)).0

  module _ (blank : T (blank_from s g x.filled)) where
    erased_past : (i : ℕ) → x.filled ≤ i → i < s.pages → T (is_erased (g i))
    erased_past = blank_past s g x.filled blank

    -- a rule that a fitting page passes, and an erased one
    each_page : (rule : Rule) → ((i : ℕ) → i < x.filled → T (rule s g i)) → ((i : ℕ) → T (is_erased (g i)) → T (rule s g i)) → T (all rule)
    each_page rule f e =
        all_below_all s.pages (rule s g) (λ i h. elim (lt_or_le i x.filled) [
          | inl k ↦ f i k
          | inr k ↦ e i (erased_past i k h)
        ])

    all_rules : T (W1to4 s g)
    unfolding W1to4 W1 W2 W3 W4
    all_rules =
        each_chain (all W1) (all W2 ∷ all W3 ∷ all W4 ∷ [])
        (each_page W1 (λ i h. or_r (is_erased (g i)) _ (all_below_all i (λ j. not (is_erased (g j))) (λ j k. not_T (is_erased (g j)) (programmed j (omega arith)))))
        (λ i e. or_l (is_erased (g i)) _ e)) (
          each_page W2 (λ i h. (fits_each s g i (d.fit i h)).1) (λ i e. or_l (is_erased (g i)) _ e),
          (
            each_page W3 (λ i h. (fits_each s g i (d.fit i h)).2) (λ i e. or_l (is_erased (g i)) _ e),
            (each_page W4 (λ i h. (fits_each s g i (d.fit i h)).3) (λ i e. or_l (is_erased (g i) || no_copy) (eqb (offset_of s (address_of (g i))) i) (or_l (is_erased (g i)) no_copy e)), tt),
          ),
        )
      where
        no_copy : Bool
        no_copy = not (is_copy (kind_of (naming g)))

    filled_are : filled_in s g ≡ x.filled
    filled_are =
        count_below_prefix (λ i. not (is_erased (g i))) s.pages x.filled d.few (λ i h. not_T (is_erased (g i)) (programmed i h))
        (λ i h k t. T_not (is_erased (g i)) t (erased_past i h k))

    none_leads : x.filled ≡ 0 → x ≡ good_block s g
    none_leads z =
        d.is ∙ rw (eq-eqb x.filled 0 z) (sym (free_good_block s g (λ i h. is_erased_is (g i) (erased_past i (omega arith) h))))

    some_lead : 0 < x.filled → x ≡ good_block s g
    unfolding good_block
    some_lead z =
        d.is ∙ rw (ne_eqb x.filled 0 (λ e. omega arith)) (ap (used_to s g) (sym filled_are))
        ∙ sym (cond_no (all_erased s g) _ _ (λ t. programmed 0 z (all_below_at s.pages (λ i. is_erased (g i)) t 0 (let h = d.few in omega arith)))
        ∙ cond_yes (W1to4 s g) _ _ all_rules)

    pub leading_alone : x ≡ good_block s g
    leading_alone = elim (lt_or_le 0 x.filled) [ inl h ↦ some_lead h | inr h ↦ none_leads (omega arith) ]

  -- Where a programmed page comes later, the block breaks a rule: the page after the leading ones is programmed (W1), and does not fit.
  pub leading_ill : (T (blank_from s g x.filled) → ⊥) → not_used Ill ≡ good_block s g
  unfolding fits
  leading_ill f =
      good_block_cases s g (λ y. not_used Ill ≡ y)
      (λ t. absurd (f (past_blank s g n (λ i k h. all_below_at s.pages (λ j. is_erased (g j)) t i h)))) refl
      (λ _ t. absurd (f (past_blank s g n (λ i k h. late t i h k))))
    where
      n : ℕ
      n = x.filled

      next : T (W1to4 s g) → n < s.pages → (T (is_erased (g n)) → ⊥) → ⊥
      next t h e =
          let r = rules_e s g t in
          d.last h (each_chain (not (is_erased (g n))) (W2 s g n ∷ W3 s g n ∷ W4 s g n ∷ []) (not_T (is_erased (g n)) e)
          (all_below_at s.pages (W2 s g) r.1 n h, (all_below_at s.pages (W3 s g) r.2 n h, (all_below_at s.pages (W4 s g) r.3 n h, tt))))

      late : T (W1to4 s g) → (i : ℕ) → i < s.pages → n ≤ i → T (is_erased (g i))
      late t i h k =
          elim (tcase (is_erased (g i))) [
            | inl e ↦ e
            | inr e ↦ absurd (next t (omega arith) (λ u. elim (dec_eq n i) [
              | inl z ↦ T_not (is_erased (g i)) e (subst (λ (j : ℕ). T (is_erased (g j))) z u)
              | inr z ↦ W1_before s g t i n h (omega arith) (T_not (is_erased (g i)) e) u
            ]))
          ]

-- ---- the first page

-- what a page that may be the first says
pub record Named (s : Shape) (q : Page) (x : First) : Type 0 where
  pub n : ℕ
  pub k : Kind
  pub a : ℕ
  pub page : q ≡ Entry n k a
  pub may : T (may_start s k a)
  pub is : x ≡ started s n k a

given : First → Option First → First
given d None = d
given d (Some x) = x

none_some : {x : First} → Some x ≡ None → ⊥
none_some e = subst (λ (o : Option First). MatchOption o ⊥ (λ _. ⊤)) e tt

-- x is what it gives
start_some : (s : Shape) (q : Page) {x : First} → Some x ≡ start_of s q → Named s q x
unfolding start_of given
start_some s Erased e = absurd (none_some e)
start_some s Junk e = absurd (none_some e)
start_some s (Entry n k a) {x} e =
    elim (tcase (may_start s k a)) [
      | inl t ↦ record { n = n; k = k; a = a; page = refl; may = t; is = ap (given x) (e ∙ cond_yes (may_start s k a) _ _ t) }
      | inr t ↦ absurd (none_some (e ∙ cond_no (may_start s k a) _ _ (T_not (may_start s k a) t)))
    ]

-- It gives none, and may not be the first.
start_none : (s : Shape) (q : Page) → None ≡ start_of s q → {n : ℕ} {k : Kind} {a : ℕ} → q ≡ Entry n k a → T (may_start s k a) → ⊥
unfolding start_of
start_none s q e {n} {k} {a} f t = none_some (sym (e ∙ ap (start_of s) f ∙ cond_yes (may_start s k a) _ _ t))

module _ (s : Shape) (g : Pages) where
  -- as the first page of its block
  fits_first : {n : ℕ} {k : Kind} {a : ℕ} → naming g ≡ Entry n k a → fits s g 0 ≡ may_start s k a
  unfolding fits W2 W3 W4
  fits_first {n} {k} {a} e =
      rw (e, eq-eqb (kind_byte k) (kind_byte k) refl, eq-eqb n n refl, eq-eqb (block_of s a) (block_of s a) refl, and-true (in_range s a)) refl

  -- none leads
  pub none_leading : {y : Block} → Begins s g None → y ≡ not_used Free → Leads s g y
  none_leading {y} u e =
      let z : y.filled ≡ 0 = ap (λ (y : Block). y.filled) e in
      record {
        few = omega arith;
        fit = λ i h. absurd (omega arith);
        last = λ h t. unfit (subst (λ (i : ℕ). T (fits s g i)) z t);
        is = e ∙ rw (eq-eqb y.filled 0 z) refl;
      }
    where
      unfit : T (fits s g 0) → ⊥
      unfit t = let (k, e) = is_entry_is (naming g) (fits_entry s g 0 t) in start_none s (naming g) u.is e (subst T (fits_first e) t)

-- what the first page gives, where its bytes are d and t
pub start_begins : (s : Shape) (g : Pages) {o : Option First} (d t : List ℕ) → naming g ≡ page_of d t → o ≡ start_of s (naming g) → Begins s g o
start_begins s g {o} d t here e = record { is = e; of_table = go o e }
  where
    table : {x : First} → Named s (naming g) x → OfTable x.number
    table {x} m =
        let entry : T (is_entry (page_of d t)) = subst (λ (p : Page). T (is_entry p)) (sym m.page ∙ here) tt in
        let (f, same) = page_of-is_entry d t entry in
        let n : x.number ≡ number_in t = ap (λ (y : First). y.number) m.is ∙ ap number_of (sym m.page ∙ here ∙ same) in
        record { low = rw n f.number_low; high = rw n f.number_high }

    go : (o : Option First) → o ≡ start_of s (naming g) → MatchOption o ⊤ (λ x. OfTable x.number)
    go None f = tt
    go (Some x) f = table (start_some s (naming g) f)

-- ---- a later page

-- whether logical page c is in logical block b, and at offset i: by division, and by where the block starts
module _ (s : Shape) (l : Limits s) (b : ℕ) (below : b < s.logical) (c i : ℕ) where
  offset_place : block_of s c ≡ b → eqb (offset_of s c) i ≡ eqb c (logical_page s b i)
  offset_place e =
      let whole : logical_page s b (offset_of s c) ≡ c = ap (λ (m : ℕ). logical_page s m (offset_of s c)) (sym e) ∙ logical_page_of s c in
      bool_ext (eqb (offset_of s c) i) (eqb c (logical_page s b i))
      (λ t. eq→eqb _ _ (sym whole ∙ ap (logical_page s b) (eqb→eq (offset_of s c) i t)))
      (λ t. let f : c ≡ logical_page s b i = eqb→eq c (logical_page s b i) t in let g : offset_of s c ≡ i = omega arith in eq→eqb (offset_of s c) i g)

  block_in_block : block_of s c ≡ b → in_block s b c ≡ true
  block_in_block e =
      let whole : logical_page s b (offset_of s c) ≡ c = ap (λ (m : ℕ). logical_page s m (offset_of s c)) (sym e) ∙ logical_page_of s c in
      let small = offset_of_below s l c in
      is_true (in_block s b c) (and_i (leb (b * s.pages) c) (ltb c (b * s.pages + s.pages)) (le→leb (b * s.pages) c (omega arith)) (lt→ltb c (b * s.pages + s.pages) (omega arith)))

  other_in_block : (block_of s c ≡ b → ⊥) → in_block s b c ≡ false
  other_in_block f =
      is_false (in_block s b c)
      (λ t. let low = leb→le (b * s.pages) c (and_l (leb (b * s.pages) c) (ltb c (b * s.pages + s.pages)) t) in
      let high = ltb→lt c (b * s.pages + s.pages) (and_r (leb (b * s.pages) c) (ltb c (b * s.pages + s.pages)) t) in
      let e : c ≡ logical_page s b (c - b * s.pages) = omega arith in
      f (ap (block_of s) e ∙ logical_page_block s b (c - b * s.pages) (omega arith)))

  in_block_lem : (u v : Bool) → ((u && (in_range s c && eqb (block_of s c) b)) && (v || eqb (offset_of s c) i))
      ≡ ((u && in_block s b c) && (v || eqb c (logical_page s b i)))
  in_block_lem u v =
      elim (dec_eq (block_of s c) b) [
        | inl e ↦
            let range : in_range s c ≡ true = is_true (in_range s c) (block_in_range s l c (subst (λ (m : ℕ). m < s.logical) (sym e) below)) in
            rw (range, eq-eqb (block_of s c) b e, block_in_block e, offset_place e) refl
        | inr f ↦ rw (ne_eqb (block_of s c) b f, other_in_block f, and-false (in_range s c), and-false u) refl
      ]

-- page i, with spare bytes t; x is what the first page gives
module _ (s : Shape) (l : Limits s) (g : Pages) {x : First} (m : Named s (naming g) x) (i : ℕ) (d t : List ℕ) (long : length t ≡ 16)
    (here : g i ≡ page_of d t) where
  below : block_of s m.a < s.logical
  below = in_range_block s l m.a (and_l (in_range s m.a) _ m.may)

  -- bytes of the table
  entry_fits : T (in_table t) → goes_on s x i t ≡ fits s g i
  unfolding goes_on fits W2 W3 W4
  entry_fits h =
      let e : g i ≡ Entry (number_in t) (kind_for (kind_in t)) (address_in t) = here ∙ page_of-in_table d t long h in
      rw (m.is, e, m.page, is_true (in_table t) h)
      (sym (in_block_lem s l (block_of s m.a) below (address_in t) i (same_kind (Some (kind_for (kind_in t))) (Some m.k) && eqb (number_in t) m.n)
      (not (is_copy (Some m.k)))))

  -- other bytes
  other_fits : (T (in_table t) → ⊥) → goes_on s x i t ≡ fits s g i
  unfolding goes_on
  other_fits f =
      let unfit : fits s g i ≡ false =
      is_false (fits s g i) (λ u. f (facts_in_table t (page_of-is_entry d t (subst (λ (q : Page). T (is_entry q)) here (fits_entry s g i u))).0)) in
      rw (is_false (in_table t) f, unfit) refl

  pub goes_fits : goes_on s x i t ≡ fits s g i
  goes_fits =
      elim (tcase (in_table t)) [
        | inl h ↦ entry_fits h
        | inr h ↦ other_fits (T_not (in_table t) h)
      ]

  -- its offset, if it goes on
  goes_place : T (goes_on s x i t) → eqb (offset_of s (address_of (g i))) i ≡ eqb (address_in t) (logical_page s x.logical i)
  unfolding goes_on
  goes_place u =
      let c : ℕ = address_in t in
      let same : Bool = same_kind (Some (kind_for (kind_in t))) (Some x.kind) && eqb (number_in t) x.number in
      let placed : Bool = not (is_copy (Some x.kind)) || eqb c (logical_page s x.logical i) in
      let (h, (_, (inside, _))) = chain_each (in_table t) (same ∷ in_block s x.logical c ∷ placed ∷ []) u in
      let first : x.logical ≡ block_of s m.a = ap (λ (y : First). y.logical) m.is in
      let small : x.logical < s.logical = subst (λ (b : ℕ). b < s.logical) (sym first) below in
      let own : block_of s c ≡ x.logical = elim (dec_eq (block_of s c) x.logical) [
        | inl e ↦ e
        | inr f ↦ absurd (false_is (in_block s x.logical c) (other_in_block s l x.logical small c i f) inside)
      ] in
      ap (λ (q : Page). eqb (offset_of s (address_of q)) i) (here ∙ page_of-in_table d t long h) ∙ offset_place s l x.logical small c i own

-- ---- the loop over them

-- x is what the first page gives, the first n pages fit, and o says whether each has its own offset.
pub record Begun (s : Shape) (g : Pages) (x : First) (n : ℕ) (o : Bool) : Type 0 where
  pub named : Named s (naming g) x
  pub fit : (i : ℕ) → i < n → T (fits s g i)
  pub order : o ≡ in_order s g n

pub begun_first : (s : Shape) (g : Pages) {x : First} → Begins s g (Some x) → Begun s g x 1 x.ordered
unfolding all_below
begun_first s g {x} u = go (start_some s (naming g) u.is)
  where
    go : Named s (naming g) x → Begun s g x 1 x.ordered
    go m =
        record {
          named = m;
          fit = λ i h. let z : i ≡ 0 = omega arith in rw z (subst T (sym (fits_first s g m.page)) m.may);
          order = rw (m.is, m.page) refl;
        }

pub begun_turn : (s : Shape) (l : Limits s) (g : Pages) {x : First} (i : ℕ) {o p r : Bool} (d t : List ℕ) → length t ≡ 16 → g i ≡ page_of d t
    → Begun s g x i o → T (goes_on s x i t) → p ≡ eqb (address_in t) (logical_page s x.logical i) → r ≡ (o && p) → Begun s g x (i + 1) r
begun_turn s l g {x} i {o} {p} {r} d t long here u go e f =
    record {
      named = u.named;
      fit = λ j h. elim (dec_eq j i) [
        | inl z ↦ subst (λ (k : ℕ). T (fits s g k)) (sym z) (subst T (goes_fits s l g u.named i d t long here) go)
        | inr z ↦ u.fit j (omega arith)
      ];
      order = all_turn (λ j. eqb (offset_of s (address_of (g j))) j) i u.order (e ∙ sym (goes_place s l g u.named i d t long here go)) f;
    }

-- what is written in order goes on, and has its own offset
next_goes : (s : Shape) (x : First) (i : ℕ) (t : List ℕ) → i < s.pages → T (is_entry_of t x.number (kind_byte x.kind) (logical_page s x.logical i))
    → T (goes_on s x i t) × (address_in t ≡ logical_page s x.logical i)
unfolding is_entry_of goes_on
next_goes s x i t h u =
    let l : ℕ = x.logical in
    let c : ℕ = address_in t in
    let kind : Bool = eqb (kind_in t) (kind_byte x.kind) in
    let alike : Bool = same_kind (Some (kind_for (kind_in t))) (Some x.kind) in
    let number : Bool = eqb (number_in t) x.number in
    let placed : Bool = eqb c (logical_page s l i) in
    let (u₀, (u₁, (u₂, (u₃, _)))) = chain_each (in_table t) (number ∷ kind ∷ placed ∷ []) u in
    let e : c ≡ logical_page s l i = eqb→eq c (logical_page s l i) u₃ in
    let own : T alike =
    is_same_kind (Some (kind_for (kind_in t))) (Some x.kind)
    (ap (λ (b : ℕ). Some (kind_for b)) (eqb→eq (kind_in t) (kind_byte x.kind) u₂) ∙ ap Some (kind_for_byte x.kind)) in
    let inside : T (in_block s l c) =
    and_i (leb (l * s.pages) c) (ltb c (l * s.pages + s.pages)) (le→leb (l * s.pages) c (omega arith)) (lt→ltb c (l * s.pages + s.pages) (omega arith)) in (
      each_chain (in_table t) ((alike && number) ∷ in_block s l c ∷ (not (is_copy (Some x.kind)) || placed) ∷ []) u₀
          (and_i alike number own u₁, (inside, (or_r (not (is_copy (Some x.kind))) placed u₃, tt))),
      e,
    )

-- The first n pages in order, where page i of g has the spare bytes of page i of block b.
pub begun_order : (s : Shape) (l : Limits s) (g : Pages) {x : First} (im : Image) (b : ℕ) {n : ℕ} (d : ℕ → List ℕ)
    → ((i : ℕ) → i < s.pages → length (page_spare im (page_no s b i)) ≡ 16)
    → ((i : ℕ) → i < s.pages → g i ≡ page_of (d i) (page_spare im (page_no s b i)))
    → Begun s g x 1 x.ordered → InOrder s im b x n → Begun s g x n x.ordered
begun_order s l g {x} im b {n} d long here u v = go x.ordered refl
  where
    t : ℕ → List ℕ
    t i = page_spare im (page_no s b i)

    later : (i : ℕ) → 1 ≤ i → i < n → T (fits s g i) × T (eqb (offset_of s (address_of (g i))) i)
    later i low below =
        let few = v.few in
        let (goes, e) = next_goes s x i (t i) (omega arith) (v.next i low below) in (
          subst T (goes_fits s l g u.named i (d i) (t i) (long i (omega arith)) (here i (omega arith))) goes,
          subst T (sym (goes_place s l g u.named i (d i) (t i) (long i (omega arith)) (here i (omega arith)) goes)) (eq→eqb _ _ e),
        )

    go : (o : Bool) → x.ordered ≡ o → Begun s g x n x.ordered
    go false e = subst (λ (m : ℕ). Begun s g x m x.ordered) (sym (v.alone e)) u
    go true e =
        record {
          named = u.named;
          fit = λ i h. elim (lt_or_le 0 i) [ inl k ↦ (later i k h).0 | inr k ↦ u.fit i (omega arith) ];
          order = e ∙ sym (is_true (in_order s g n) (all_below_all n (λ i. eqb (offset_of s (address_of (g i))) i) (λ i h. elim (lt_or_le 0 i) [
            | inl k ↦ (later i k h).1
            | inr k ↦ all_below_at 1 (λ i. eqb (offset_of s (address_of (g i))) i) (true_is (in_order s g 1) (sym u.order ∙ e)) i (omega arith)
          ])));
        }

pub begun_ends : (s : Shape) (g : Pages) {x : First} {y : Block} (n : ℕ) {o : Bool} → 1 ≤ n → n ≤ s.pages → Begun s g x n o
    → (n < s.pages → T (fits s g n) → ⊥) → y ≡ with_pages x n o → Leads s g y
begun_ends s g {x} {y} n {o} low few u last e =
    let m = u.named in
    let f : y.filled ≡ n = ap (λ (z : Block). z.filled) e in
    let k : kind_of (naming g) ≡ Some x.kind = rw (m.page, m.is) refl in
    let b : number_of (naming g) ≡ x.number = rw (m.page, m.is) refl in
    let l : block_of s (address_of (naming g)) ≡ x.logical = rw (m.page, m.is) refl in
    record {
      few = omega arith;
      fit = λ i h. u.fit i (omega arith);
      last = λ h t. last (omega arith) (subst (λ (i : ℕ). T (fits s g i)) f t);
      is = e ∙ rw (f, ne_eqb n 0 (λ z. omega arith)) cc;
    }

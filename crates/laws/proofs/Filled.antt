-- The pages of a block of which the first m are programmed: they give its record, and its record gives them.
use mathlib.Core.Path.{◌≡◌, refl, sym, ap, ◌∙◌, subst}
use mathlib.Core.Logic.{◌≢◌, inl, inr}
use mathlib.Core.Bool.{Bool, not, ◌&&◌, ◌||◌, or_assoc}
use mathlib.Core.List.{[], ◌∷◌}
use Prim.Native.Nat.{ℕ, ◌+◌, ◌≤◌, ◌<◌}
use native.Mathlib.Numerals.{add-one}
use native.Mathlib.Omega.{arith}
use lib.Dec.{T, eqb, T_not, not_T, eqb→eq}
use Rattle.std.specs.Prelude.{Option, Some}
use Rattle.rules.specs.declared.shape.Shape.{Shape}
use Rattle.rules.specs.declared.kind.Kind.{Kind}
use Rattle.rules.specs.declared.page.Page.{Page}
use Rattle.rules.specs.declared.page.Page.TheVariants.{Erased, Entry, Junk}
use Rattle.rules.specs.declared.block.State.TheVariants.{Free, Used}
use Rattle.rules.specs.declared.block.Block.{Block}
use Rattle.rules.specs.Below.{all_below}
use Rattle.rules.specs.Shape.{block_of, offset_of, in_range}
use Rattle.rules.specs.Page.{is_erased, is_entry, number_of, kind_of, address_of, is_copy, same_kind}
use Rattle.rules.specs.WellFormed.{naming, Pages, W1, W2, W3, W4, W1to4, not_used, all_erased, filled_in, in_order, good_block, is_used, is_free}
use Rattle.laws.proofs.Tests.{tcase, and_l, and_r, and_i, or_l, or_r, or_e, cond_yes, cond_no, dec_eq, lt_or_le, eq→eqb, chain_each, each_chain}
use Rattle.laws.proofs.Below.{all_below_at, all_below_all, all_below-same, count_below-most, Before, count_below_first, count_below_prefix}
use Rattle.laws.proofs.Pages.{is_erased_is, same_kind_is, is_same_kind}
use Rattle.laws.proofs.Records.{good_block_cases, rules_e, W1_before, first_programmed}

-- pages 0 to m - 1 have number n, kind k and addresses in logical block l, as W1 to W4 say; the others are erased
pub record Filled (s : Shape) (g : Pages) (n : ℕ) (k : Option Kind) (l m : ℕ) : Type 0 where
  pub most : m ≤ s.pages
  pub entry : (i : ℕ) → i < m → T (is_entry (g i))
  pub number : (i : ℕ) → i < m → number_of (g i) ≡ n
  pub kind : (i : ℕ) → i < m → kind_of (g i) ≡ k
  pub in_range : (i : ℕ) → i < m → T (in_range s (address_of (g i)))
  pub block : (i : ℕ) → i < m → block_of s (address_of (g i)) ≡ l
  pub offset : T (is_copy k) → (i : ℕ) → i < m → offset_of s (address_of (g i)) ≡ i
  pub blank : (i : ℕ) → m ≤ i → i < s.pages → g i ≡ Erased

-- ---- from the pages to the record

entry_not_erased : (q : Page) → T (is_entry q) → T (is_erased q) → ⊥
entry_not_erased Erased t u = t
entry_not_erased (Entry n k a) t u = u
entry_not_erased Junk t u = t

abbrev pub used_with : ℕ → Option Kind → ℕ → ℕ → Bool → Block
used_with n k l m o = record { state = Used; kind = k; number = n; logical = l; filled = m; ordered = o }

module _ (s : Shape) (g : Pages) where
  abbrev all : (Shape → Pages → ℕ → Bool) → Bool
  all rule = all_below s.pages (rule s g)

  pub free_good_block : ((i : ℕ) → i < s.pages → g i ≡ Erased) → good_block s g ≡ not_used Free
  unfolding good_block
  free_good_block f =
      cond_yes (all_erased s g) _ _ (all_below_all s.pages (λ i. is_erased (g i)) (λ i h. subst (λ (q : Page). T (is_erased q)) (sym (f i h)) tt))

  module _ {n : ℕ} {k : Option Kind} {l m : ℕ} (f : Filled s g n k l m) where
    programmed : (i : ℕ) → i < m → T (is_erased (g i)) → ⊥
    programmed i h t = entry_not_erased (g i) (f.entry i h) t

    erased_past : (i : ℕ) → m ≤ i → i < s.pages → T (is_erased (g i))
    erased_past i h k = subst (λ (q : Page). T (is_erased q)) (sym (f.blank i h k)) tt

    -- a rule that an erased page passes
    rule_i : (rest : ℕ → Bool) → ((i : ℕ) → i < m → T (rest i)) → (i : ℕ) → i < s.pages → T (is_erased (g i) || rest i)
    rule_i rest r i h =
        elim (lt_or_le i m) [
          | inl a ↦ or_r (is_erased (g i)) (rest i) (r i a)
          | inr a ↦ or_l (is_erased (g i)) (rest i) (erased_past i a h)
        ]

    filled-W1 : T (all W1)
    unfolding W1
    filled-W1 =
        all_below_all s.pages (W1 s g)
        (rule_i (λ i. all_below i (λ j. not (is_erased (g j))))
        (λ i h. all_below_all i (λ j. not (is_erased (g j))) (λ j a. not_T (is_erased (g j)) (programmed j (omega arith)))))

    filled-W2 : T (all W2)
    unfolding W2
    filled-W2 =
        all_below_all s.pages (W2 s g)
        (rule_i (λ i. is_entry (g i) && same_kind (kind_of (g i)) (kind_of (naming g)) && eqb (number_of (g i)) (number_of (naming g)))
        (λ i h. each_chain (is_entry (g i)) (same_kind (kind_of (g i)) (kind_of (naming g)) ∷ eqb (number_of (g i)) (number_of (naming g)) ∷ [])
        (f.entry i h)
        (is_same_kind _ _ (f.kind i h ∙ sym (f.kind 0 (omega arith))), (eq→eqb _ _ (f.number i h ∙ sym (f.number 0 (omega arith))), tt))))

    filled-W3 : T (all W3)
    unfolding W3
    filled-W3 =
        all_below_all s.pages (W3 s g)
        (rule_i (λ i. in_range s (address_of (g i)) && eqb (block_of s (address_of (g i))) (block_of s (address_of (naming g))))
        (λ i h. and_i (in_range s (address_of (g i))) (eqb (block_of s (address_of (g i))) (block_of s (address_of (naming g)))) (f.in_range i h)
        (eq→eqb _ _ (f.block i h ∙ sym (f.block 0 (omega arith))))))

    filled-W4 : T (all W4)
    unfolding W4
    filled-W4 =
        all_below_all s.pages (W4 s g)
        (λ i h. subst T (sym (or_assoc (is_erased (g i)) no_copy (in_place i))) (rule_i (λ j. no_copy || in_place j) pass i h))
      where
        no_copy : Bool
        no_copy = not (is_copy (kind_of (naming g)))

        in_place : ℕ → Bool
        in_place i = eqb (offset_of s (address_of (g i))) i

        pass : (i : ℕ) → i < m → T (no_copy || in_place i)
        pass i h =
            elim (tcase (is_copy (kind_of (naming g)))) [
              | inl t ↦ or_r no_copy (in_place i) (eq→eqb _ _ (f.offset (subst (λ (x : Option Kind). T (is_copy x)) (f.kind 0 (omega arith)) t) i h))
              | inr t ↦ or_l no_copy (in_place i) t
            ]

    filled_count : filled_in s g ≡ m
    filled_count =
        count_below_prefix (λ i. not (is_erased (g i))) s.pages m f.most (λ i h. not_T (is_erased (g i)) (programmed i h))
        (λ i h a t. T_not (is_erased (g i)) t (erased_past i h a))

    pub filled_good_block : 0 < m → good_block s g ≡ used_with n k l m (in_order s g m)
    unfolding good_block W1to4
    filled_good_block h =
        let kind : kind_of (naming g) ≡ k = f.kind 0 h in
        let number : number_of (naming g) ≡ n = f.number 0 h in
        let block : block_of s (address_of (naming g)) ≡ l = f.block 0 h in
        let count : filled_in s g ≡ m = filled_count in
        let order : in_order s g (filled_in s g) ≡ in_order s g m = ap (in_order s g) count in
        cond_no (all_erased s g) _ _ (λ t. programmed 0 h (all_below_at s.pages (λ i. is_erased (g i)) t 0 (omega arith)))
        ∙ cond_yes (W1to4 s g) _ _ (each_chain (all W1) (all W2 ∷ all W3 ∷ all W4 ∷ []) filled-W1 (filled-W2, (filled-W3, (filled-W4, tt))))
        ∙ cc

-- ---- from the record to the pages

-- the pages of a good block, by its record
pub record UsedPages (s : Shape) (g : Pages) (x : Block) : Type 0 where
  pub some : 0 < x.filled
  pub filled : Filled s g x.number x.kind x.logical x.filled
  pub ordered : x.ordered ≡ in_order s g x.filled

module _ (s : Shape) (g : Pages) where
  pub good_block_free : T (is_free (good_block s g).state) → (i : ℕ) → i < s.pages → g i ≡ Erased
  good_block_free t i h = is_erased_is (g i) (all_below_at s.pages (λ j. is_erased (g j)) (all_erased_lem t) i h)
    where
      all_erased_lem : T (is_free (good_block s g).state) → T (all_erased s g)
      all_erased_lem = good_block_cases s g (λ x. T (is_free x.state) → T (all_erased s g)) (λ a u. a) (λ u. absurd u) (λ f a u. absurd u)

  module _ (f : T (all_erased s g) → ⊥) (rules : T (W1to4 s g)) where
    first : Before (λ i. not (is_erased (g i))) s.pages
    first i j h k t = not_T (is_erased (g j)) (W1_before s g rules i j h k (T_not (is_erased (g i)) t))

    below_count : (i : ℕ) → i < s.pages → (i < filled_in s g → T (not (is_erased (g i)))) × (T (not (is_erased (g i))) → i < filled_in s g)
    below_count i h = count_below_first (λ j. not (is_erased (g j))) s.pages first i h

    most : filled_in s g ≤ s.pages
    most = count_below-most s.pages (λ i. not (is_erased (g i)))

    -- what a rule asks of a programmed page
    rule_e : (rest : Bool) (i : ℕ) → i < filled_in s g → T (is_erased (g i) || rest) → T rest
    rule_e rest i h t =
        let h' : i < s.pages = omega (arith, most) in
        elim (or_e (is_erased (g i)) rest t) [ inl e ↦ absurd (T_not (is_erased (g i)) ((below_count i h').0 h) e) | inr r ↦ r ]

    W2_at : (i : ℕ) → i < filled_in s g → T (is_entry (g i)) × (kind_of (g i) ≡ kind_of (naming g)) × (number_of (g i) ≡ number_of (naming g))
    unfolding W2
    W2_at i h =
        let one_kind : Bool = same_kind (kind_of (g i)) (kind_of (naming g)) in
        let same_number : Bool = eqb (number_of (g i)) (number_of (naming g)) in
        let t = all_below_at s.pages (W2 s g) (rules_e s g rules).1 i (omega (arith, most)) in
        let a = rule_e (is_entry (g i) && one_kind && same_number) i h t in
        let e = chain_each (is_entry (g i)) (one_kind ∷ same_number ∷ []) a in
        (e.0, same_kind_is _ _ e.1.0, eqb→eq _ _ e.1.1.0)

    W3_at : (i : ℕ) → i < filled_in s g → T (in_range s (address_of (g i))) × (block_of s (address_of (g i)) ≡ block_of s (address_of (naming g)))
    unfolding W3
    W3_at i h =
        let range : Bool = in_range s (address_of (g i)) in
        let same_block : Bool = eqb (block_of s (address_of (g i))) (block_of s (address_of (naming g))) in
        let t = all_below_at s.pages (W3 s g) (rules_e s g rules).2 i (omega (arith, most)) in
        let a = rule_e (range && same_block) i h t in
        (and_l range same_block a, eqb→eq _ _ (and_r range same_block a))

    W4_at : T (is_copy (kind_of (naming g))) → (i : ℕ) → i < filled_in s g → offset_of s (address_of (g i)) ≡ i
    unfolding W4
    W4_at copy i h =
        let no_copy : Bool = not (is_copy (kind_of (naming g))) in
        let in_place : Bool = eqb (offset_of s (address_of (g i))) i in
        let t = all_below_at s.pages (W4 s g) (rules_e s g rules).3 i (omega (arith, most)) in
        let a = rule_e (no_copy || in_place) i h (subst T (or_assoc (is_erased (g i)) no_copy in_place) t) in
        elim (or_e no_copy in_place a) [ inl u ↦ absurd (T_not (is_copy (kind_of (naming g))) u copy) | inr u ↦ eqb→eq _ _ u ]

    used_filled : Filled s g (number_of (naming g)) (kind_of (naming g)) (block_of s (address_of (naming g))) (filled_in s g)
    used_filled =
        record {
          most = most;
          entry = λ i h. (W2_at i h).0;
          number = λ i h. (W2_at i h).2;
          kind = λ i h. (W2_at i h).1;
          in_range = λ i h. (W3_at i h).0;
          block = λ i h. (W3_at i h).1;
          offset = W4_at;
          blank = λ i h k. elim (tcase (is_erased (g i))) [ inl t ↦ is_erased_is (g i) t | inr t ↦ absurd (let l = (below_count i k).1 t in omega arith) ];
        }

    used_some : 0 < s.pages → 0 < filled_in s g
    used_some p = (below_count 0 p).1 (not_T (is_erased (naming g)) (first_programmed s g f rules))

  pub good_block_used : 0 < s.pages → T (is_used (good_block s g).state) → UsedPages s g (good_block s g)
  good_block_used p =
      good_block_cases s g (λ x. T (is_used x.state) → UsedPages s g x) (λ a u. absurd u) (λ u. absurd u)
      (λ f a u. record { some = used_some f a p; filled = used_filled f a; ordered = refl })

-- ---- one more page

-- the next page of such a block may have logical page a
pub record NextPage (s : Shape) (k : Kind) (l m a : ℕ) : Type 0 where
  pub room : m < s.pages
  pub in_range : T (in_range s a)
  pub block : block_of s a ≡ l
  pub offset : T (is_copy (Some k)) → offset_of s a ≡ m

-- the pages g' are the pages g, and page m
pub record PageAdded (s : Shape) (g g' : Pages) (m : ℕ) (q : Page) : Type 0 where
  pub here : g' m ≡ q
  pub others : (i : ℕ) → i < s.pages → i ≢ m → g' i ≡ g i

module _ (s : Shape) (g g' : Pages) {n : ℕ} {k : Kind} {l m a : ℕ} (f : Filled s g n (Some k) l m) (x : NextPage s k l m a)
    (p : PageAdded s g g' m (Entry n k a)) where
  -- what holds of page m and of the pages before it holds of the first m + 1
  up_to : (Q : ℕ → Page → Type 0) → Q m (Entry n k a) → ((i : ℕ) → i < m → Q i (g i)) → (i : ℕ) → i < m + 1 → Q i (g' i)
  up_to Q new old i h =
      elim (dec_eq i m) [
        | inl e ↦ subst (λ (j : ℕ). Q j (g' j)) (sym e) (subst (Q m) (sym p.here) new)
        | inr e ↦ subst (Q i) (sym (p.others i (omega (arith, x.room)) e)) (old i (omega arith))
      ]

  pub filled_more : Filled s g' n (Some k) l (m + 1)
  filled_more =
      record {
        most = omega (arith, x.room);
        entry = up_to (λ i q. T (is_entry q)) tt f.entry;
        number = up_to (λ i q. number_of q ≡ n) refl f.number;
        kind = up_to (λ i q. kind_of q ≡ Some k) refl f.kind;
        in_range = up_to (λ i q. T (in_range s (address_of q))) x.in_range f.in_range;
        block = up_to (λ i q. block_of s (address_of q) ≡ l) x.block f.block;
        offset = λ c. up_to (λ i q. offset_of s (address_of q) ≡ i) (x.offset c) (f.offset c);
        blank = λ i h b. p.others i b (omega arith) ∙ f.blank i (omega arith) b;
      }

  pub in_order_more : in_order s g' (m + 1) ≡ (in_order s g m && eqb (offset_of s a) m)
  unfolding all_below
  in_order_more =
      let old : in_order s g' m ≡ in_order s g m =
      all_below-same m _ _ (λ i h. ap (λ (q : Page). eqb (offset_of s (address_of q)) i) (p.others i (omega (arith, x.room)) (omega arith))) in
      let new : eqb (offset_of s (address_of (g' m))) m ≡ eqb (offset_of s a) m = ap (λ (q : Page). eqb (offset_of s (address_of q)) m) p.here in
      ap (in_order s g') (add-one m) ∙ ap (λ (b : Bool). b && eqb (offset_of s (address_of (g' m))) m) old ∙ ap (λ (b : Bool). in_order s g m && b) new

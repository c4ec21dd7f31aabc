-- One step done to an image: the records and the pages that it leaves.
use mathlib.Core.Path.{◌≡◌, sym, ap, ◌∙◌, subst, fun_ext}
use mathlib.Core.Logic.{◌≢◌, inl, inr}
use mathlib.Core.List.{List}
use Prim.Native.Nat.{ℕ, ◌≤◌, ◌<◌}
use native.Mathlib.Omega.{arith}
use native.Mathlib.Nat.{le_refl}
use lib.ListN.{length}
use lib.Dec.{T}
use Rattle.rules.specs.declared.shape.Shape.{Shape}
use Rattle.rules.specs.declared.kind.Kind.{Kind}
use Rattle.rules.specs.declared.page.Page.{Page}
use Rattle.rules.specs.declared.page.Page.TheVariants.{Erased}
use Rattle.rules.specs.declared.block.State.TheVariants.{Free}
use Rattle.rules.specs.declared.block.Block.{Block}
use Rattle.rules.specs.Bytes.{all255}
use Rattle.rules.specs.Spare.{kind_byte, number_limit, address_in, spare_bytes}
use Rattle.rules.specs.Shape.{page_no}
use Rattle.rules.specs.Page.{Image, page_bytes, page_spare, erased, page_at, is_erased}
use Rattle.rules.specs.WellFormed.{not_used, is_good, is_free, is_used, is_bad, block_at, blocks_of}
use Rattle.rules.specs.Steps.{Step, erase, step_done, entry_step}
use Rattle.rules.specs.Facts.{Fits}
use Rattle.laws.proofs.Tests.{false_is, dec_eq}
use Rattle.laws.proofs.Shape.{page_no_below, page_no_block, page_no_same_block, page_no_same_place}
use Rattle.laws.proofs.Spare.{kind_byte_is, spare_bytes-length, spare_bytes_status, spare_bytes_address, spare_bytes_not_255}
use Rattle.laws.proofs.Pages.{page_of-cases, Programs, program_fits, program_page, program_other, erase_fits, erase_other}
use Rattle.laws.proofs.Roles.{good_below, used_good, free_good}
use Rattle.laws.proofs.Records.{blocks_of_at, blocks_of_records}
use Rattle.laws.proofs.Blocks.{one_more, Writable, Joins, is_good_good, block_at_same, blocks_of_same, step_block_at, erase-block_at, program-block_at, free_page, used_blank, ordered_offset, used_number}
use Rattle.laws.proofs.Change.{changed, changed_same, changed_other}
use Rattle.laws.proofs.Content.{SamePages, offset_at}
use Rattle.laws.proofs.Along.{Allowed}

-- ---- records, block by block

-- the records of two images that differ at b
pub blocks_changed : (s : Shape) (im im' : Image) (b : ℕ) (x : Block) → b < s.blocks → block_at s im' b ≡ x
    → ((j : ℕ) → j ≢ b → block_at s im' j ≡ block_at s im j)
    → blocks_of s im' ≡ changed (blocks_of s im) b x
blocks_changed s im im' b x h here else =
    fun_ext (λ j. elim (dec_eq j b) [
      | inl e ↦
          ap (blocks_of s im') e ∙ blocks_of_at s im' b h ∙ here ∙ sym (changed_same (blocks_of s im) b x) ∙ ap (changed (blocks_of s im) b x) (sym e)
      | inr n ↦ blocks_of_same s im' im j (else j n) ∙ sym (changed_other (blocks_of s im) b x j n)
    ])

module _ (s : Shape) (im : Image) (w : Fits s im) (b : ℕ) where
  pub good_in : T (is_good (blocks_of s im b).state) → b < s.blocks
  good_in = good_below s (blocks_of s im) (blocks_of_records s im (omega (arith, w.limits.pages_low)) w.limits.blocks_high) b

  -- what holds of the record of a good block holds of it as read from its pages
  pub as_read : (Q : Block → Type 0) → b < s.blocks → Q (blocks_of s im b) → Q (block_at s im b)
  as_read Q h = subst Q (blocks_of_at s im b h)

  good_not_bad : T (is_good (blocks_of s im b).state) → T (is_bad s im b) → ⊥
  good_not_bad g = is_good_good s im b (as_read (λ x. T (is_good x.state)) (good_in g) g)

  pub used_numbers : T (is_used (blocks_of s im b).state) → (1 ≤ (blocks_of s im b).number) × ((blocks_of s im b).number ≤ number_limit)
  used_numbers t =
      let h : b < s.blocks = good_in (used_good (blocks_of s im b).state t) in
      subst (λ (x : Block). (1 ≤ x.number) × (x.number ≤ number_limit)) (sym (blocks_of_at s im b h))
      (used_number s im (omega (arith, w.limits.pages_low)) b (as_read (λ x. T (is_used x.state)) h t))

  -- page i of a used block that is in order has offset i
  pub ordered_offsets : T (is_used (blocks_of s im b).state) → T (blocks_of s im b).ordered → (i : ℕ) → i < (blocks_of s im b).filled → i < s.pages
      → offset_at s im b i ≡ i
  ordered_offsets t o i k h =
      let hb : b < s.blocks = good_in (used_good (blocks_of s im b).state t) in
      ordered_offset s im b i h (as_read (λ x. T (is_used x.state)) hb t) (as_read (λ x. i < x.filled) hb k) (as_read (λ x. T x.ordered) hb o)

-- a page that is read as erased has 528 bytes of 255
pub page_at-erased : (im : Image) (p : ℕ) → page_at im p ≡ Erased → T (erased (page_bytes im p) (page_spare im p))
unfolding page_at
page_at-erased im p e =
    page_of-cases (page_bytes im p) (page_spare im p) (λ q. T (is_erased q) → T (erased (page_bytes im p) (page_spare im p))) (λ u v. u) (λ f v. absurd v)
    (λ v. absurd v) (subst (λ (q : Page). T (is_erased q)) (sym e) tt)

-- ---- an erase

pub record Erases (s : Shape) (im : Image) (b : ℕ) : Type 0 where
  pub fits : Fits s (step_done s (erase b) im)
  pub blocks : blocks_of s (step_done s (erase b) im) ≡ changed (blocks_of s im) b (not_used Free)
  pub others : (j : ℕ) → j ≢ b → SamePages s im (step_done s (erase b) im) j s.pages
  pub allowed : Allowed s (erase b) im

pub erase_done : (s : Shape) (im : Image) → Fits s im → (b : ℕ) → T (is_good (blocks_of s im b).state) → Erases s im b
erase_done s im w b g =
    record {
      fits = erase_fits s im w b h;
      blocks = blocks_changed s im (step_done s (erase b) im) b (not_used Free) h (erase-block_at s im w b h) (step_block_at s im w (erase b) h);
      others = λ j n i k. let q = erase_other s im w b h j i n k in (q.bytes_are, q.spare_are);
      allowed = record { below = h; good = good_not_bad s im w b g };
    }
  where
    h : b < s.blocks
    h = good_in s im w b g

-- ---- the program of the next page of a block

abbrev pub next_step : Shape → Image → ℕ → ℕ → Kind → ℕ → List ℕ → Step
next_step s im b n k a d = entry_step (page_no s b (blocks_of s im b).filled) n (kind_byte k) a d

pub record Programmed (s : Shape) (im : Image) (b n : ℕ) (k : Kind) (a : ℕ) (d : List ℕ) (im' : Image) : Type 0 where
  pub fits : Fits s im'
  pub blocks : blocks_of s im' ≡ changed (blocks_of s im) b (one_more s (blocks_of s im b) n k a)
  pub others : (j : ℕ) → j ≢ b → SamePages s im im' j s.pages
  pub earlier : SamePages s im im' b (blocks_of s im b).filled
  pub bytes : page_bytes im' (page_no s b (blocks_of s im b).filled) ≡ d
  pub address : address_in (page_spare im' (page_no s b (blocks_of s im b).filled)) ≡ a
  pub allowed : Allowed s (next_step s im b n k a d) im

module _ (s : Shape) (im : Image) (w : Fits s im) (b n : ℕ) (k : Kind) (a : ℕ) (d : List ℕ) (e : Writable n a) (j : Joins s (blocks_of s im b) n k a)
    (long : length d ≡ 512) where
  abbrev f : ℕ
  f = (blocks_of s im b).filled

  abbrev im' : Image
  im' = step_done s (next_step s im b n k a d) im

  good : T (is_good (blocks_of s im b).state)
  good = elim j.own [ inl t ↦ free_good (blocks_of s im b).state t | inr t ↦ used_good (blocks_of s im b).state t.0 ]

  hb : b < s.blocks
  hb = good_in s im w b good

  page : Programs s (page_no s b f) d (spare_bytes n (kind_byte k) a)
  page = record { page_in = page_no_below s b f hb j.room; bytes_long = long; spare_long = spare_bytes-length n (kind_byte k) a }

  blank : page_at im (page_no s b f) ≡ Erased
  blank =
      elim j.own [
        | inl t ↦ free_page s im b f j.room (as_read s im w b (λ x. T (is_free x.state)) hb t)
        | inr t ↦
            used_blank s im b f j.room (as_read s im w b (λ x. T (is_used x.state)) hb t.0)
            (as_read s im w b (λ x. x.filled ≤ f) hb (le_refl f))
      ]

  pub program_done : Programmed s im b n k a d (step_done s (next_step s im b n k a d) im)
  program_done =
      record {
        fits = program_fits s im w page;
        blocks =
            blocks_changed s im im' b (one_more s (blocks_of s im b) n k a) hb
            (program-block_at s im w b hb e d long (blocks_of s im b) (sym (blocks_of_at s im b hb)) j)
            (λ i ne. block_at_same s im' im w.limits.pages_low i
            (λ o h. program_other s im w page (page_no s i o) (λ q. ne (page_no_same_block s i b o f h j.room q))));
        others = λ i ne o h. let q = program_other s im w page (page_no s i o) (λ q. ne (page_no_same_block s i b o f h j.room q)) in
            (q.bytes_are, q.spare_are);
        earlier = λ i h.
            let q = program_other s im w page (page_no s b i)
            (λ q. let z : i ≡ f = page_no_same_place s b b i f (omega (arith, j.room)) j.room q in omega arith) in
            (q.bytes_are, q.spare_are);
        bytes = (program_page s im w page).bytes_are;
        address = ap address_in (program_page s im w page).spare_are ∙ spare_bytes_address n (kind_byte k) a e.address;
        allowed = record {
          page = page;
          erased = page_at-erased im (page_no s b f) blank;
          good = λ t. good_not_bad s im w b good (subst (λ (i : ℕ). T (is_bad s im i)) (page_no_block s b f j.room) t);
          programmed =
              false_is (all255 (spare_bytes n (kind_byte k) a)) (spare_bytes_not_255 n (kind_byte k) a (kind_byte_is k));
          status = spare_bytes_status n (kind_byte k) a;
        };
      }

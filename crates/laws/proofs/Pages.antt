-- Laws of pages: what a page says, and the pages after a step.
use mathlib.Core.Path.{◌≡◌, refl, sym, ap, ◌∙◌, subst}
use mathlib.Core.Bool.{Bool, true, false, cond}
use mathlib.Core.Logic.{◌≢◌, ◌⊎◌, inl, inr, ⊎_elim}
use mathlib.Core.List.{List, [], ◌∷◌, ◌++◌}
use Prim.Native.Nat.{ℕ, ◌+◌, ◌*◌, ◌/◌, ◌≤◌, ◌<◌}
use native.Mathlib.Nat.{add-mul, mul-le-mul_right}
use native.Mathlib.Omega.{arith}
use lib.Dec.{T, T_not}
use lib.ListN.{length, replicate, length-replicate}
use Rattle.std.specs.Prelude.{Option, Some, None}
use Rattle.rules.specs.declared.shape.Shape.{Shape}
use Rattle.rules.specs.declared.kind.Kind.{Kind}
use Rattle.rules.specs.declared.kind.Kind.TheVariants.{Log, Copy}
use Rattle.rules.specs.declared.page.Page.{Page}
use Rattle.rules.specs.declared.page.Page.TheVariants.{Erased, Entry, Junk}
use Rattle.rules.specs.Bytes.{all255, part, replaced}
use Rattle.rules.specs.Spare.{number_limit, kind_byte, kind_for, number_in, kind_in, address_in, in_table, spare_bytes}
use Rattle.rules.specs.Shape.{page_no}
use Rattle.rules.specs.Page.{Image, page_bytes, page_spare, erased, page_of, page_at, is_erased, is_entry, number_of, address_of, is_log, same_kind}
use Rattle.rules.specs.Steps.{Step, program, erase, step_done, steps_done}
use Rattle.rules.specs.Facts.{Fits, Left}
use Rattle.rules.proofs.Sizes.{block_within}
use Rattle.laws.proofs.Tests.{tcase, true_is, false_is, and_l, and_i, cond_yes, cond_no, lt_or_le}
use Rattle.laws.proofs.Bytes.{all255_replicate, all255_at, part_replicate, replaced_length, part_replaced_same, part_replaced_inside, part_replaced_before, part_replaced_after}
use Rattle.laws.proofs.Shape.{page_no_block, page_no_away}
use Rattle.laws.proofs.Spare.{InTable, kind_byte_is, kind_for_byte, in_table_facts, spare_bytes_number, spare_bytes_kind, spare_bytes_address, spare_bytes-in_table, spare_bytes_not_255}

-- ---- what a page says

pub is_erased_is : (q : Page) → T (is_erased q) → q ≡ Erased
is_erased_is Erased t = refl
is_erased_is (Entry n k a) t = absurd t
is_erased_is Junk t = absurd t

pub is_entry_is : (q : Page) → T (is_entry q) → (k : Kind) × (q ≡ Entry (number_of q) k (address_of q))
is_entry_is Erased t = absurd t
is_entry_is (Entry n k a) t = (k, refl)
is_entry_is Junk t = absurd t

-- ---- kinds

pub is_log_is : (k : Option Kind) → T (is_log k) → k ≡ Some Log
is_log_is None t = absurd t
is_log_is (Some Log) t = refl
is_log_is (Some Copy) t = absurd t

pub same_kind_is : (k m : Option Kind) → T (same_kind k m) → k ≡ m
same_kind_is None None t = refl
same_kind_is None (Some m) t = absurd t
same_kind_is (Some k) None t = absurd t
same_kind_is (Some Log) (Some Log) t = refl
same_kind_is (Some Log) (Some Copy) t = absurd t
same_kind_is (Some Copy) (Some Log) t = absurd t
same_kind_is (Some Copy) (Some Copy) t = refl

pub is_same_kind : (k m : Option Kind) → k ≡ m → T (same_kind k m)
is_same_kind k m e = subst (λ (x : Option Kind). T (same_kind k x)) e (one k)
  where
    one : (x : Option Kind) → T (same_kind x x)
    one None = tt
    one (Some Log) = tt
    one (Some Copy) = tt

module _ (d t : List ℕ) where
  pub page_of-erased : T (erased d t) → page_of d t ≡ Erased
  unfolding page_of
  page_of-erased h = cond_yes (erased d t) _ _ h

  pub page_of_entry : (T (erased d t) → ⊥) → T (in_table t) → page_of d t ≡ Entry (number_in t) (kind_for (kind_in t)) (address_in t)
  unfolding page_of
  page_of_entry h k = cond_no (erased d t) _ _ h ∙ cond_yes (in_table t) _ _ k

  pub page_of_junk : (T (erased d t) → ⊥) → (T (in_table t) → ⊥) → page_of d t ≡ Junk
  unfolding page_of
  page_of_junk h k = cond_no (erased d t) _ _ h ∙ cond_no (in_table t) _ _ k

pub page_of_255 : page_of (replicate 512 255) (replicate 16 255) ≡ Erased
unfolding erased
page_of_255 =
    page_of-erased (replicate 512 255) (replicate 16 255)
    (and_i (all255 (replicate 16 255)) (all255 (replicate 512 255)) (true_is _ (all255_replicate 16)) (true_is _ (all255_replicate 512)))

-- a page programmed with number n, kind k and logical page a, whatever its data
pub page_of-spare_bytes : (d : List ℕ) (n : ℕ) (k : Kind) (a : ℕ) → 1 ≤ n → n ≤ number_limit → a < 65536
    → page_of d (spare_bytes n (kind_byte k) a) ≡ Entry n k a
unfolding erased
page_of-spare_bytes d n k a low high small =
    let b : ℕ = kind_byte k in
    let t : List ℕ = spare_bytes n b a in
    let number : number_in t ≡ n = spare_bytes_number n b a (omega arith) in
    let address : address_in t ≡ a = spare_bytes_address n b a small in
    let kind : kind_for (kind_in t) ≡ k = ap kind_for (spare_bytes_kind n b a) ∙ kind_for_byte k in
    page_of_entry d t (λ e. false_is (all255 t) (spare_bytes_not_255 n b a (kind_byte_is k)) (and_l (all255 t) (all255 d) e))
    (spare_bytes-in_table n b a low high (kind_byte_is k))
    ∙ cc

pub is_erased-page_of : (d t : List ℕ) → is_erased (page_of d t) ≡ erased d t
unfolding page_of
is_erased-page_of d t = go (erased d t) (in_table t)
  where
    go : (e f : Bool) → is_erased (cond e Erased (cond f (Entry (number_in t) (kind_for (kind_in t)) (address_in t)) Junk)) ≡ e
    go true f = refl
    go false true = refl
    go false false = refl

-- Spare bytes of the table say what the page is, whatever its data.
pub page_of-in_table : (d t : List ℕ) → length t ≡ 16 → T (in_table t) → page_of d t ≡ Entry (number_in t) (kind_for (kind_in t)) (address_in t)
unfolding erased
page_of-in_table d t long h =
    page_of_entry d t
    (λ e. let k : kind_in t ≡ 255 = all255_at t 4 (and_l (all255 t) (all255 d) e) (omega arith) in
    ⊎_elim (λ f. omega arith) (λ f. omega arith) (in_table_facts t h).kind)
    h

-- what holds of a page, if it is erased, an entry or junk
pub page_of-cases : (d t : List ℕ) (Q : Page → Type 0) → (T (erased d t) → Q Erased) → (InTable t → Q (Entry (number_in t) (kind_for (kind_in t)) (address_in t)))
    → Q Junk → Q (page_of d t)
page_of-cases d t Q blank entry junk =
    elim (tcase (erased d t)) [
      | inl e ↦ rw (page_of-erased d t e) (blank e)
      | inr e ↦ elim (tcase (in_table t)) [
        | inl f ↦ rw (page_of_entry d t (T_not (erased d t) e) f) (entry (in_table_facts t f))
        | inr f ↦ rw (page_of_junk d t (T_not (erased d t) e) (T_not (in_table t) f)) junk
      ]
    ]

-- the spare bytes of an entry
pub page_of-is_entry : (d t : List ℕ) → T (is_entry (page_of d t)) → InTable t × (page_of d t ≡ Entry (number_in t) (kind_for (kind_in t)) (address_in t))
page_of-is_entry d t =
    page_of-cases d t (λ q. T (is_entry q) → InTable t × (q ≡ Entry (number_in t) (kind_for (kind_in t)) (address_in t))) (λ e u. absurd u) (λ f u. (f, refl))
    (λ u. absurd u)

-- ---- pages of w bytes, end to end: those from page c on are replaced, m of them

module _ (w c m : ℕ) (xs ys : List ℕ) (fits : c * w + m * w ≤ length xs) (long : length ys ≡ m * w) where
  pub pages_replaced : (i : ℕ) → i < m → part (replaced xs (c * w) (m * w) ys) ((c + i) * w) w ≡ part ys (i * w) w
  pages_replaced i h =
      ap (λ (at : ℕ). part (replaced xs (c * w) (m * w) ys) at w) (add-mul c i w)
      ∙ part_replaced_inside xs ys (c * w) (m * w) fits long (i * w) w (block_within w h)

  pub pages_elsewhere : (q : ℕ) → (q < c) ⊎ (c + m ≤ q) → part (replaced xs (c * w) (m * w) ys) (q * w) w ≡ part xs (q * w) w
  pages_elsewhere q away =
      ⊎_elim (λ (h : q < c). part_replaced_before xs ys (c * w) (m * w) fits long (q * w) w (block_within w h))
      (λ (h : c + m ≤ q). part_replaced_after xs ys (c * w) (m * w) fits long (q * w) w (after h))
      away
    where
      after : c + m ≤ q → c * w + m * w ≤ q * w
      after h = subst (λ (k : ℕ). k ≤ q * w) (add-mul c m w) (mul-le-mul_right w h)

erased-part : (w c m : ℕ) (xs : List ℕ) → c * w + m * w ≤ length xs → (i : ℕ) → i < m
    → part (replaced xs (c * w) (m * w) (replicate (m * w) 255)) ((c + i) * w) w ≡ replicate w 255
erased-part w c m xs fits i h =
    pages_replaced w c m xs (replicate (m * w) 255) fits (length-replicate (m * w) 255) i h ∙ part_replicate (m * w) 255 (i * w) w (block_within w h)

-- ---- the pages of an image

pub record PageIs (im : Image) (p : ℕ) (d t : List ℕ) : Type 0 where
  pub bytes_are : page_bytes im p ≡ d
  pub spare_are : page_spare im p ≡ t

pub page_at_is : {im : Image} {p : ℕ} {d t : List ℕ} → PageIs im p d t → page_at im p ≡ page_of d t
unfolding page_at
page_at_is {im} {p} {d} {t} h = ap (λ (x : List ℕ). page_of x (page_spare im p)) h.bytes_are ∙ ap (page_of d) h.spare_are

-- page p of the first image is that of the second
abbrev pub SamePage : Image → Image → ℕ → Type 0
SamePage im im' p = PageIs im p (page_bytes im' p) (page_spare im' p)

pub page_at-same : (im im' : Image) (p : ℕ) → SamePage im im' p → page_at im p ≡ page_at im' p
unfolding page_at
page_at-same im im' p h = page_at_is h

pub same_page_then : {im im' : Image} {p : ℕ} {d t : List ℕ} → SamePage im im' p → PageIs im' p d t → PageIs im p d t
same_page_then g h = record { bytes_are = g.bytes_are ∙ h.bytes_are; spare_are = g.spare_are ∙ h.spare_are }

module _ (s : Shape) (im : Image) (w : Fits s im) where
  pub fits_page : (p : ℕ) → p < s.blocks * s.pages → (p * 512 + 512 ≤ length im.bytes) × (p * 16 + 16 ≤ length im.spare)
  fits_page p h = (omega arith, omega arith)

  pub fits_block : (b : ℕ) → b < s.blocks
      → (b * s.pages * 512 + s.pages * 512 ≤ length im.bytes) × (b * s.pages * 16 + s.pages * 16 ≤ length im.spare)
  fits_block b h = (omega (arith, block_within s.pages h), omega (arith, block_within s.pages h))

-- ---- the pages after a program

-- a page of the card gets 512 data bytes and 16 spare bytes
pub record Programs (s : Shape) (p : ℕ) (d t : List ℕ) : Type 0 where
  pub page_in : p < s.blocks * s.pages
  pub bytes_long : length d ≡ 512
  pub spare_long : length t ≡ 16

module _ (s : Shape) (im : Image) (w : Fits s im) {p : ℕ} {d t : List ℕ} (g : Programs s p d t) where
  pub program_fits : Fits s (step_done s (program p d t) im)
  unfolding step_done
  program_fits =
      let f = fits_page s im w p g.page_in in
      record {
        limits = w.limits;
        bytes_long = replaced_length im.bytes d (p * 512) 512 f.0 g.bytes_long ∙ w.bytes_long;
        spares_long = replaced_length im.spare t (p * 16) 16 f.1 g.spare_long ∙ w.spares_long;
      }

  pub program_page : PageIs (step_done s (program p d t) im) p d t
  unfolding step_done
  program_page =
      let f = fits_page s im w p g.page_in in
      record {
        bytes_are = part_replaced_same im.bytes d (p * 512) 512 f.0 g.bytes_long;
        spare_are = part_replaced_same im.spare t (p * 16) 16 f.1 g.spare_long;
      }

  pub program_other : (q : ℕ) → q ≢ p → SamePage (step_done s (program p d t) im) im q
  unfolding step_done
  program_other q ne =
      let f = fits_page s im w p g.page_in in
      let away : (q < p) ⊎ (p + 1 ≤ q) = ⊎_elim (λ (h : q < p). inl h) (λ (h : p ≤ q). inr (omega arith)) (lt_or_le q p) in
      record {
        bytes_are = pages_elsewhere 512 p 1 im.bytes d f.0 g.bytes_long q away;
        spare_are = pages_elsewhere 16 p 1 im.spare t f.1 g.spare_long q away;
      }

-- ---- the pages after an erase

module _ (s : Shape) (im : Image) (w : Fits s im) (b : ℕ) (hb : b < s.blocks) where
  pub erase_fits : Fits s (step_done s (erase b) im)
  unfolding step_done
  erase_fits =
      let f = fits_block s im w b hb in
      record {
        limits = w.limits;
        bytes_long = replaced_length im.bytes _ (b * s.pages * 512) (s.pages * 512) f.0 (length-replicate (s.pages * 512) 255) ∙ w.bytes_long;
        spares_long = replaced_length im.spare _ (b * s.pages * 16) (s.pages * 16) f.1 (length-replicate (s.pages * 16) 255) ∙ w.spares_long;
      }

  pub erase_page : (i : ℕ) → i < s.pages → PageIs (step_done s (erase b) im) (page_no s b i) (replicate 512 255) (replicate 16 255)
  unfolding step_done
  erase_page i h =
      let f = fits_block s im w b hb in
      record {
        bytes_are = erased-part 512 (b * s.pages) s.pages im.bytes f.0 i h;
        spare_are = erased-part 16 (b * s.pages) s.pages im.spare f.1 i h;
      }

  pub erase-page_at : (i : ℕ) → i < s.pages → page_at (step_done s (erase b) im) (page_no s b i) ≡ Erased
  erase-page_at i h = page_at_is (erase_page i h) ∙ page_of_255

  pub erase_other : (j i : ℕ) → j ≢ b → i < s.pages → SamePage (step_done s (erase b) im) im (page_no s j i)
  unfolding step_done
  erase_other j i ne h =
      let f = fits_block s im w b hb in
      let away = page_no_away s b j i ne h in
      record {
        bytes_are = pages_elsewhere 512 (b * s.pages) s.pages im.bytes _ f.0 (length-replicate (s.pages * 512) 255) (page_no s j i) away;
        spare_are = pages_elsewhere 16 (b * s.pages) s.pages im.spare _ f.1 (length-replicate (s.pages * 16) 255) (page_no s j i) away;
      }

-- ---- the pages after any step, and after a list of them

-- a step on this card
abbrev pub StepIn : Shape → Step → Type 0
StepIn s (program p d t) = Programs s p d t
StepIn s (erase b) = b < s.blocks

-- the block that a step changes
abbrev pub step_block : Shape → Step → ℕ
step_block s (program p d t) = p / s.pages
step_block s (erase b) = b

pub step_fits : (s : Shape) (im : Image) → Fits s im → (x : Step) → StepIn s x → Fits s (step_done s x im)
step_fits s im w (program p d t) g = program_fits s im w g
step_fits s im w (erase b) g = erase_fits s im w b g

pub step_other : (s : Shape) (im : Image) → Fits s im → (x : Step) → StepIn s x → (j i : ℕ) → j ≢ step_block s x → i < s.pages
    → SamePage (step_done s x im) im (page_no s j i)
step_other s im w (program p d t) g j i ne h =
    program_other s im w g (page_no s j i) (λ e. ne (sym (page_no_block s j i h) ∙ ap (λ (q : ℕ). q / s.pages) e))
step_other s im w (erase b) g j i ne h = erase_other s im w b g j i ne h

abbrev pub StepsIn : Shape → List Step → Type 0
StepsIn s [] = Unit {0}
StepsIn s (x ∷ xs) = StepIn s x × StepsIn s xs

-- no step is on block j
abbrev pub Apart : Shape → ℕ → List Step → Type 0
Apart s j [] = Unit {0}
Apart s j (x ∷ xs) = (j ≢ step_block s x) × Apart s j xs

pub steps_other : (s : Shape) (im : Image) → Fits s im → (xs : List Step) → StepsIn s xs → (j i : ℕ) → Apart s j xs → i < s.pages
    → SamePage (steps_done s xs im) im (page_no s j i)
unfolding steps_done
steps_other s im w [] g j i apart h = record { bytes_are = refl; spare_are = refl }
steps_other s im w (x ∷ xs) g j i apart h =
    same_page_then (steps_other s (step_done s x im) (step_fits s im w x g.0) xs g.1 j i apart.1 h) (step_other s im w x g.0 j i apart.0 h)

pub steps_done-append : (s : Shape) (xs ys : List Step) (im : Image) → steps_done s (xs ++ ys) im ≡ steps_done s ys (steps_done s xs im)
unfolding steps_done
steps_done-append s [] ys im = refl
steps_done-append s (x ∷ xs) ys im = steps_done-append s xs ys (step_done s x im)

-- ---- the two slices that an image is lent in

-- no other bytes than its own are left in them
pub left_one : {im : Image} {bytes bytes' spare spare' : List ℕ} → Left im bytes spare → Left im bytes' spare' → (bytes ≡ bytes') × (spare ≡ spare')
left_one h k = (h.bytes_are ∙ sym k.bytes_are, h.spare_are ∙ sym k.spare_are)

-- Of steps that are each allowed where they are done: no page is programmed twice between erases, none is of a bad block, and bad blocks stay bad
-- and good ones good.
use mathlib.Core.Path.{◌≡◌, refl, sym, subst, ◌∙◌}
use mathlib.Core.Logic.{◌≢◌, inl, inr}
use mathlib.Core.Bool.{not, ◌&&◌}
use mathlib.Core.List.{List, [], ◌∷◌}
use Prim.Native.Nat.{ℕ, ◌/◌, ◌%◌}
use lib.Dec.{T, eqb, eqb→eq, T_not, not_T}
use Rattle.rules.specs.declared.shape.Shape.{Shape}
use Rattle.rules.specs.Bytes.{all255}
use Rattle.rules.specs.Page.{Image, page_bytes, page_spare, erased}
use Rattle.rules.specs.WellFormed.{is_bad}
use Rattle.rules.specs.Steps.{Step, program, erase, step_done, steps_done}
use Rattle.rules.specs.Facts.{Fits}
use Rattle.laws.proofs.Tests.{is_false, and_l, and_r, and_i, or_e, dec_eq, eq→eqb, ne→eqb}
use Rattle.laws.proofs.Shape.{page_no_of, page_place_below}
use Rattle.laws.proofs.Pages.{SamePage, program_fits, program_page, program_other, erase_fits, erase_other, StepIn, step_block, step_fits, step_other}
use Rattle.laws.proofs.Blocks.{is_bad_same, erase_good, program_good}
use Rattle.history.specs.History.{again, never_twice, FindErased, left_alone}
use Rattle.laws.proofs.Along.{Fresh, Allowed, AllAllowed}

pub find_erased : (s : Shape) (ts : List Step) (im : Image) → AllAllowed s ts im → FindErased s ts im
find_erased s [] im a = tt
find_erased s (program p d t ∷ ts) im a = (a.0.erased, find_erased s ts (step_done s (program p d t) im) a.1)
find_erased s (erase b ∷ ts) im a = find_erased s ts (step_done s (erase b) im) a.1

-- page p is not erased
abbrev Programmed : Image → ℕ → Type 0
Programmed im p = T (erased (page_bytes im p) (page_spare im p)) → ⊥

stays : (im im' : Image) (p : ℕ) → SamePage im' im p → Programmed im p → Programmed im' p
stays im im' p q f t =
    f (subst (λ (d : List ℕ). T (erased d (page_spare im p))) q.bytes_are (subst (λ (u : List ℕ). T (erased (page_bytes im' p) u)) q.spare_are t))

-- it is not programmed again before its block is erased
not_again : (s : Shape) (ts : List Step) (im : Image) → Fits s im → AllAllowed s ts im → (p : ℕ) → Programmed im p → T (again s p ts) → ⊥
not_again s [] im w a p f t = t
not_again s (program q d u ∷ ts) im w a p f t =
    elim (dec_eq q p) [
      | inl e ↦ f (subst (λ (i : ℕ). T (erased (page_bytes im i) (page_spare im i))) e a.0.erased)
      | inr n ↦
          not_again s ts (step_done s (program q d u) im) (program_fits s im w a.0.page) a.1 p
          (stays im (step_done s (program q d u) im) p (program_other s im w a.0.page p (λ e. n (sym e))) f)
          (elim (or_e (eqb q p) (again s p ts) t) [ inl y ↦ absurd (n (eqb→eq q p y)) | inr y ↦ y ])
    ]
not_again s (erase b ∷ ts) im w a p f t =
    let n : b ≢ p / s.pages = λ e. T_not (eqb b (p / s.pages)) (and_l (not (eqb b (p / s.pages))) (again s p ts) t) (eq→eqb b (p / s.pages) e) in
    let q : SamePage (step_done s (erase b) im) im p =
    subst (SamePage (step_done s (erase b) im) im) (page_no_of s p)
    (erase_other s im w b a.0.below (p / s.pages) (p % s.pages) (λ e. n (sym e)) (page_place_below s w.limits p)) in
    not_again s ts (step_done s (erase b) im) (erase_fits s im w b a.0.below) a.1 p (stays im (step_done s (erase b) im) p q f)
    (and_r (not (eqb b (p / s.pages))) (again s p ts) t)

now_programmed : (s : Shape) (im : Image) → Fits s im → (p : ℕ) (d t : List ℕ) → Fresh s im p d t → Programmed (step_done s (program p d t) im) p
unfolding erased
now_programmed s im w p d t f u =
    let q = program_page s im w f.page in
    f.programmed (subst (λ (x : List ℕ). T (all255 x)) q.spare_are
    (and_l (all255 (page_spare (step_done s (program p d t) im) p)) (all255 (page_bytes (step_done s (program p d t) im) p)) u))

pub never_twice_lem : (s : Shape) (ts : List Step) (im : Image) → Fits s im → AllAllowed s ts im → T (never_twice s ts)
never_twice_lem s [] im w a = tt
never_twice_lem s (program p d t ∷ ts) im w a =
    let im' : Image = step_done s (program p d t) im in
    let w' : Fits s im' = program_fits s im w a.0.page in
    and_i (not (again s p ts)) (never_twice s ts)
    (not_T (again s p ts) (not_again s ts im' w' a.1 p (now_programmed s im w p d t a.0)))
    (never_twice_lem s ts im' w' a.1)
never_twice_lem s (erase b ∷ ts) im w a = never_twice_lem s ts (step_done s (erase b) im) (erase_fits s im w b a.0.below) a.1

-- ---- bad blocks

-- a step is of a block of the card that is not bad
allowed_good : (s : Shape) (x : Step) (im : Image) → Allowed s x im → StepIn s x × (T (is_bad s im (step_block s x)) → ⊥)
allowed_good s (program p d t) im a = (a.page, a.good)
allowed_good s (erase b) im a = (a.below, a.good)

left_alone-cons : (s : Shape) (b : ℕ) (x : Step) (ts : List Step) → left_alone s b (x ∷ ts) ≡ (not (eqb (step_block s x) b) && left_alone s b ts)
left_alone-cons s b (program p d t) ts = refl
left_alone-cons s b (erase j) ts = refl

-- a step leaves bad blocks bad and good ones good
step_bad : (s : Shape) (x : Step) (im : Image) → Fits s im → Allowed s x im → (b : ℕ) → is_bad s (step_done s x im) b ≡ is_bad s im b
step_bad s x im w a b =
    elim (dec_eq b (step_block s x)) [
      | inl z ↦
          let f : T (is_bad s im b) → ⊥ = λ t. (allowed_good s x im a).1 (subst (λ (j : ℕ). T (is_bad s im j)) z t) in
          is_false (is_bad s (step_done s x im) b) (stays_good x a z f) ∙ sym (is_false (is_bad s im b) f)
      | inr n ↦
          is_bad_same s b w.limits.pages_low (step_done s x im) im (λ i h. step_other s im w x (allowed_good s x im a).0 b i n h)
    ]
  where
    stays_good : (x : Step) → Allowed s x im → b ≡ step_block s x → (T (is_bad s im b) → ⊥) → T (is_bad s (step_done s x im) b) → ⊥
    stays_good (program p d t) a z f = program_good s im w a.page a.status b f
    stays_good (erase j) a z f = subst (λ (k : ℕ). T (is_bad s (step_done s (erase j) im) k) → ⊥) (sym z) (erase_good s im w j a.below)

pub steps_bad : (s : Shape) (b : ℕ) (ts : List Step) (im : Image) → Fits s im → AllAllowed s ts im → is_bad s (steps_done s ts im) b ≡ is_bad s im b
unfolding steps_done
steps_bad s b [] im w a = refl
steps_bad s b (x ∷ ts) im w a =
    steps_bad s b ts (step_done s x im) (step_fits s im w x (allowed_good s x im a.0).0) a.1 ∙ step_bad s x im w a.0 b

pub bad_alone : (s : Shape) (b : ℕ) (ts : List Step) (im : Image) → Fits s im → AllAllowed s ts im → T (is_bad s im b) → T (left_alone s b ts)
bad_alone s b [] im w a t = tt
bad_alone s b (x ∷ ts) im w a t =
    let g = allowed_good s x im a.0 in
    let n : step_block s x ≢ b = λ e. g.1 (subst (λ (j : ℕ). T (is_bad s im j)) (sym e) t) in
    subst T (sym (left_alone-cons s b x ts))
    (and_i (not (eqb (step_block s x) b)) (left_alone s b ts) (not_T (eqb (step_block s x) b) (ne→eqb (step_block s x) b n))
    (bad_alone s b ts (step_done s x im) (step_fits s im w x g.0) a.1 (subst T (sym (step_bad s x im w a.0 b)) t)))

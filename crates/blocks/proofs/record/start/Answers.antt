use Rattle.std.proofs.Common.{◌≡◌, None, refl, sym, ◌∙◌}
use native.Mathlib.Omega.{arith}
use denote.Enum.Declared.{tag_of}
use Rattle.rules.specs.declared.shape.Shape.{Shape}
use Rattle.rules.specs.declared.page.Page.{Page}
use Rattle.rules.specs.declared.page.Page.TheVariants.{Erased, Entry, Junk}
use Rattle.rules.specs.contracts.page.Page.{the_type}
use Rattle.blocks.specs.Leading.{start_of}
use Rattle.blocks.proofs.record.start.Goals as goal

-- no entry, which is the second variant
other : (s : Shape) (q : Page) → (tag_of the_type q ≡ 1 → ⊥) → None ≡ start_of s q
unfolding start_of
other s Erased h = refl
other s (Entry n k a) h = absurd (h refl)
other s Junk h = refl

pub returns-in-Entry : goal.returns-in-Entry
unfolding start_of
returns-in-Entry c = rw (c.in-Entry.is, sym c.may_start.ensures ∙ c.if-may_start.true, c.started.ensures) refl

pub returns-in_default : goal.returns-in_default
unfolding start_of
returns-in_default c = rw (c.in-Entry.is, sym c.may_start.ensures ∙ c.if-may_start.false) refl

pub returns-in_default-2 : goal.returns-in_default-2
returns-in_default-2 c = other c.args.s c.args.page (λ e. omega arith)

-- The plan of a write, by what it needs.
use Rattle.std.specs.Prelude.{Bool, ◌&&◌, ◌||◌, not, cond, Option, Some, None, ℕ, nat_eq}
use Rattle.std.specs.Option.{option_eq}
use Rattle.rules.specs.declared.shape.Shape.{Shape}
use Rattle.rules.specs.declared.block.Block.{Block}
use Rattle.rules.specs.Below.{found, first_below}
use Rattle.rules.specs.Shape.{block_of}
use Rattle.rules.specs.WellFormed.{Blocks, is_free, data_block, live_log}
use Rattle.rules.specs.Steps.{taken, highest, Case, room, fresh, merging, write_case}
use Rattle.laws.specs.Foreseen.{completes, free_then}
use Rattle.roles.specs.declared.census.Census.{Census}
use Rattle.roles.specs.declared.seats.Seats.{Seats}
use Rattle.plans.specs.declared.plan.Plan.{Plan}
use Rattle.plans.specs.declared.renewal.Renewal.{Renewal}

-- logical block l made anew, by the census of the records and by its blocks
abbrev pub renewal_by : Census → ℕ → Seats → Renewal
renewal_by t l q = record { logical = l; into = t.free; log = q.log; «data» = q.«data»; highest = t.highest }

unfoldable pub renewal_of : Shape → Blocks → ℕ → Renewal
renewal_of s c l = record { logical = l; into = found (taken s c); log = found (live_log s c l); «data» = found (data_block s c l); highest = highest s c }

-- no merge comes first
abbrev pub unmerged : ℕ → Option ℕ → ℕ → ℕ → Option ℕ → Plan
unmerged needed block place number former =
    record {
      needed = needed;
      merge = None;
      block = block;
      place = place;
      number = number;
      former = former;
    }

-- the next page of log block v, which has the record x; d goes when page a makes it complete
abbrev pub room_plan : Shape → Block → Option ℕ → Option ℕ → ℕ → Plan
room_plan s x v d a = unmerged 0 v x.filled x.number (cond (completes s x a) d None)

abbrev pub is_block : Option ℕ → ℕ → Bool
is_block o j = option_eq nat_eq o (Some j)

-- block j is free after the renewal x: it was its log block or its data block, or it was free
abbrev pub free_after_renewal : Blocks → Renewal → ℕ → Bool
free_after_renewal c x j = not (is_block x.into j) && (is_block x.log j || is_block x.«data» j || is_free (c j).state)

-- the block taken after a merge into f that erases v and d
unfoldable pub free_after : Shape → Blocks → ℕ → ℕ → ℕ → ℕ
free_after s c f v d = first_below s.blocks (free_then c f v d)

abbrev pub merge_plan : Shape → Blocks → ℕ → Plan
merge_plan s c l =
    record {
      needed = 2;
      merge = Some (renewal_of s c l);
      block = found (free_after s c (taken s c) (live_log s c l) (data_block s c l));
      place = 0;
      number = highest s c;
      former = None;
    }

abbrev pub plan_for : Shape → Blocks → ℕ → Case → Plan
plan_for s c a room = room_plan s (c (live_log s c (block_of s a))) (found (live_log s c (block_of s a))) (found (data_block s c (block_of s a))) a
plan_for s c a fresh = unmerged 1 (found (taken s c)) 0 (highest s c) None
plan_for s c a (merging l) = merge_plan s c l

unfoldable pub plan_of : Shape → Blocks → ℕ → Plan
plan_of s c a = plan_for s c a (write_case s c (block_of s a))

-- The servants in their states, and the states stored for servants to come.
use Rattle.std.specs.Prelude.{ℕ, List, Option, unwrap_or, slice_get}
use Rattle.std.specs.Map.{lookup}
use Rattle.std.specs.BTreeMap.{is_at}
use Rattle.std.specs.Ordering.{nat_cmp}
use Rattle.poa_base.specs.declared.State.{State}
use Rattle.poa_base.specs.declared.State.TheVariants.{Fault}
use Rattle.poa_base.specs.declared.Sid.{Sid}
use Rattle.poa_base.specs.declared.Sid.TheVariants.{Named as NamedServant, Fresh as FreshServant}
use Rattle.poa_base.specs.Store as slots
use Rattle.poa_base.specs.Store.{Slots}
use Rattle.poa_history.specs.States.{Stored}
use Rattle.core_state.specs.declared.servants.Servants.{Servants}

pub record Kept : Type 0 where
  -- the states of the configured servants
  pub configured : List State
  -- the fresh ones, each by the number of its activation
  pub fresh : List (ℕ × State)
  -- what is stored, and where there is room
  pub store : Slots

-- what the program keeps
abbrev pub kept_in : Servants → Kept
kept_in s = record { configured = s.configured.items; fresh = s.fresh.entries; store = s.store }

-- the fresh servant of an activation, if it is kept
abbrev pub fresh_at : Kept → ℕ → Option State
fresh_at s n = lookup (is_at (nat_cmp n)) s.fresh

-- the state of a servant; one that isn't kept only fails
abbrev pub state_in : Kept → Sid → State
state_in s (NamedServant k) = unwrap_or (slice_get s.configured k) Fault
state_in s (FreshServant n) = unwrap_or (fresh_at s n) Fault

-- what is stored
abbrev pub stored_in : Kept → Stored
stored_in s p oid = slots.stored s.store p oid

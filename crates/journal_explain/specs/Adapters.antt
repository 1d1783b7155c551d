-- The adapter at the path of a call's key, as it stands when the call arrives.
use Rattle.std.specs.Prelude.{ℕ, pred, ◌==◌, if◌then◌else◌, List, [], ◌∷◌, Option, Some, None, option_map, slice_get}
use Rattle.poa_base.specs.declared.Config.{Config}
use Rattle.poa_base.specs.declared.Entry.{Entry}
use Rattle.poa_base.specs.declared.Entry.TheVariants.{Arrive}
use Rattle.poa_base.specs.declared.Key.{Key}
use Rattle.history_standing.specs.Arrivals.{arrivals}
use Rattle.history_standing.specs.Changes.{standing}
use Rattle.history_standing.specs.Keys.{key_in}
use Rattle.history_standing.specs.Nodes.{node_at}
use Rattle.history_standing.specs.Templates.{manager_at, policies_at}
use Rattle.journal_explain.specs.declared.adapter.Adapter.{Adapter}

-- the name that a manager has in the configuration; `root` has none there
abbrev pub name_at : Config → ℕ → Option (List ℕ)
name_at c m = if m == 0 then None else option_map (λ conf. conf.name) (slice_get c.managers (pred m))

-- the adapter of this number, which stands at a path
abbrev pub adapter_of : Config → List (List ℕ) → ℕ → Adapter
adapter_of c path k =
    record { number = k; policies = policies_at c path; manager = manager_at c path; name = name_at c (manager_at c path) }

-- at the path of a key, also while it is being destroyed
abbrev pub adapter_at : Config → ℕ → List Entry → Option Key → Option Adapter
adapter_at c run h None = None
adapter_at c run h (Some key) =
    option_map (adapter_of c key.path) (option_map (λ n. n.number) (node_at (standing c run h).nodes key.path))

-- for the call that arrived as the one of this number, after the entries before it
abbrev pub adapter_for : Config → ℕ → List Entry → ℕ → Option Adapter
adapter_for c run [] r = None
adapter_for c run (Arrive conn size call ∷ past) r =
    if arrivals past == r then adapter_at c run past (key_in (Some call)) else adapter_for c run past r
adapter_for c run (e ∷ past) r = adapter_for c run past r

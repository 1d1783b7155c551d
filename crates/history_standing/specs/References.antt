-- The reference of an object, as `reference` answers it and as the configured objects have it.
use Rattle.std.specs.Prelude.{ℕ, List, [], Option, Some, None, slice_get, if◌then◌else◌}
use Rattle.poa_base.specs.declared.Config.{Config}
use Rattle.poa_base.specs.declared.Key.{Key}
use Rattle.poa_base.specs.declared.Stamp.{Stamp}
use Rattle.history_standing.specs.Reference.{reference_text as reference_at}
use Rattle.servant_kinds.specs.Object.{type_id_of}
use Rattle.history_standing.specs.Templates.{policies_at, tag_at, lasts}

-- a transient key has the run and the adapter's number, a persistent one no stamp (CORBA 3.3 Part 1, section 15.3.8)
abbrev pub stamp_for : Config → ℕ → ℕ → List (List ℕ) → Option Stamp
stamp_for c run k p = if lasts (policies_at c p) then None else Some (record { run = run; number = k })

-- a persistent key has the template's tag, a transient one none
abbrev pub tag_for : Config → List (List ℕ) → ℕ
tag_for c p = if lasts (policies_at c p) then tag_at c p else 0

abbrev pub key_for : Config → ℕ → ℕ → List (List ℕ) → List ℕ → Key
key_for c run k p oid = record { stamp = stamp_for c run k p; path = p; oid = oid; tag = tag_for c p }

-- the repository id of a configured servant's interface
abbrev pub type_of : Config → ℕ → List ℕ
type_of c servant = elim (slice_get c.servants servant) [ Some conf ↦ type_id_of conf.state | None ↦ [] ]

-- the text of the reference: one profile, at the configured host and port
abbrev pub reference_text : Config → ℕ → ℕ → List (List ℕ) → List ℕ → ℕ → List ℕ
reference_text c run k p oid servant = reference_at (record { host = c.host; port = c.port }) (type_of c servant) (key_for c run k p oid)

-- The request that a line `ask` writes.
use Rattle.std.specs.Prelude.{ℕ, Bool, true, false, ◌&&◌, not, if◌then◌else◌, List, Option, Some, None, option_map, unwrap_or, is_some}
use Rattle.poa_base.specs.declared.Ask.{Ask}
use Rattle.poa_base.specs.declared.Config.{Config}
use Rattle.poa_base.specs.declared.Datum.{Datum}
use Rattle.poa_base.specs.declared.Head.{Head}
use Rattle.poa_base.specs.declared.Key.{Key}
use Rattle.poa_base.specs.declared.Stamp.{Stamp}
use Rattle.object_key.specs.Spelling.{key_spelling}
use Rattle.giop_msg.specs.Ask.{request_bytes}
use Rattle.history_standing.specs.Nodes.{node_at}
use Rattle.history_standing.specs.Changes.{standing}
use Rattle.history_standing.specs.Templates.{template, policies_at, lasts}
use Rattle.poa_history.specs.Life.{Life}

-- the number of no adapter
abbrev pub no_adapter : ℕ
no_adapter = 4294967295

-- the number of the adapter that stands at a path, also while it is being destroyed
abbrev pub number_of : Life → List (List ℕ) → ℕ
number_of life path = unwrap_or (option_map (λ n. n.number) (node_at (standing life.config life.run life.history).nodes path)) no_adapter

-- the adapters of this path are transient: the root, and one whose template says so
abbrev pub is_transient : Config → List (List ℕ) → Bool
is_transient c path = is_some (template c path) && not (lasts (policies_at c path))

-- a transient key is that of this run and of the adapter
abbrev pub stamp_for : Life → List (List ℕ) → Option Stamp
stamp_for life path = if is_transient life.config path then Some (record { run = life.run; number = number_of life path }) else None

-- without a tag
abbrev pub key_for : Life → List (List ℕ) → List ℕ → Key
key_for life path oid = record { stamp = stamp_for life path; path = path; oid = oid; tag = 0 }

-- little-endian, of GIOP 1.2, and it asks a reply
abbrev pub head_for : ℕ → Head
head_for id = record { id = id; minor = 2; little = true; flags = 3; locate = false }

-- to the object of a key
abbrev pub ask_for : ℕ → List ℕ → List ℕ → Option Datum → Ask
ask_for id key operation argument = record { head = head_for id; key = key; operation = operation; argument = argument }

-- the bytes of the request
abbrev pub asked : Life → ℕ → List (List ℕ) → List ℕ → List ℕ → Option Datum → List ℕ
asked life id path oid operation argument = request_bytes (ask_for id (key_spelling (key_for life path oid)) operation argument)

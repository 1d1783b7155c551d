-- What a log holds and does: `append` and `read`.
use Rattle.std.specs.Prelude.{ℕ, ◌+◌, ◌-◌, nat_lt, if◌then◌else◌, List, [], ◌∷◌, ◌++◌, length, sum_by, codes, Option, Some, None, slice_get}
use Rattle.std.specs.Str.{bytes_eq}
use Rattle.poa_base.specs.declared.Body.{Body}
use Rattle.poa_base.specs.declared.State.{State}
use Rattle.poa_base.specs.declared.State.TheVariants.{Register, Book, Echo, Fault}
use Rattle.poa_base.specs.declared.Outcome.{Outcome}
use Rattle.poa_base.specs.declared.Outcome.TheVariants.{Value}
use Rattle.poa_base.specs.declared.Datum.TheVariants.{Ulong, Octets}
use Rattle.servant_kinds.specs.Arguments.{ulong_of, octets_of}
use Rattle.servant_kinds.specs.Exceptions.{bad_arguments, full, out_of_range}
use Rattle.servant_kinds.specs.Object.{type_id_of, object_outcome}

-- the lengths of the entries, and one for each
abbrev pub size_of : List (List ℕ) → ℕ
size_of entries = sum_by (λ entry. length entry + 1) entries

-- how much of the 65,536 is left
abbrev pub room_of : List (List ℕ) → ℕ
room_of entries = 65536 - size_of entries

-- the room of a log, and nothing for the other kinds
abbrev pub state_room : State → ℕ
state_room (Book entries) = room_of entries
state_room (Register _) = 0
state_room Echo = 0
state_room Fault = 0

-- the entry is added last, where there is room for it and its one
abbrev pub append_log : List (List ℕ) → Option (List ℕ) → List (List ℕ) × Outcome
append_log entries None = (entries, bad_arguments)
append_log entries (Some entry) =
    if nat_lt 65536 (size_of entries + length entry + 1) then (entries, full)
    else (entries ++ entry ∷ [], Value (Some (Ulong (length entries + 1))))

-- an entry as an outcome
abbrev pub entry_outcome : Option (List ℕ) → Outcome
entry_outcome None = out_of_range
entry_outcome (Some entry) = Value (Some (Octets entry))

-- the entry of a number, from 0 on
abbrev pub read_log : List (List ℕ) → Option ℕ → Outcome
read_log entries None = bad_arguments
read_log entries (Some i) = entry_outcome (slice_get entries i)

-- the entries after an operation, and its outcome
abbrev pub log_act : List (List ℕ) → List ℕ → Body → List (List ℕ) × Outcome
log_act entries operation body =
    if bytes_eq operation (codes "append") then append_log entries (octets_of body)
    else if bytes_eq operation (codes "read") then (entries, read_log entries (ulong_of body))
    else (entries, object_outcome (type_id_of (Book entries)) operation body)

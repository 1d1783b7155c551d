-- The key that a target spells.
use Rattle.std.specs.Prelude.{ℕ, zero, suc, Bool, ◌&&◌, ◌==◌, nat_lt, nat_le, if◌then◌else◌, List, [], ◌∷◌, take, drop, length, Option, Some, None, option_map, option_and_then}
use Rattle.std.specs.List.{list_all}
use Rattle.std.specs.Int.{w16, w32, from_be_bytes}
use Rattle.poa_base.specs.declared.Key.{Key}
use Rattle.poa_base.specs.declared.Stamp.{Stamp}
use Rattle.poa_base.specs.declared.Call.{Call}
use Rattle.object_key.specs.Spelling.{key_spelling}
use Rattle.history_standing.specs.Paths.{same_bytes}
use Rattle.history_standing.specs.Arrivals.{target_of}

-- so many names from the front, and what is behind them
abbrev pub names_in : ℕ → List ℕ → Option (List (List ℕ) × List ℕ)
names_in zero rest = Some ([], rest)
names_in (suc count) [] = None
names_in (suc count) (size ∷ rest) = option_map (λ more. (take size rest ∷ more.0, more.1)) (names_in count (drop size rest))

-- the key whose path and id stand at the front
abbrev pub key_behind : Option Stamp → ℕ → List ℕ → Option Key
key_behind stamp tag [] = None
key_behind stamp tag (count ∷ rest) =
    option_map (λ found. record { stamp = stamp; path = found.0; oid = drop 2 found.1; tag = tag }) (names_in count rest)

-- the stamp of a transient key: the run, and the number of the adapter
abbrev pub stamp_in : List ℕ → Stamp
stamp_in rest = record { run = from_be_bytes w32 (take 4 rest); number = from_be_bytes w32 (take 4 (drop 4 rest)) }

-- the one key that the bytes may spell: behind the mark, octet 2 before a persistent key with a tag; in the other form octet 0
-- before a transient key, and 1 before a persistent one
abbrev pub key_tried : List ℕ → Option Key
key_tried [] = None
key_tried (form ∷ []) = None
key_tried (form ∷ lifespan ∷ rest) =
    if form == 2 then key_behind None (from_be_bytes w16 (take 2 rest)) (drop 2 rest)
    else if lifespan == 0 then key_behind (Some (stamp_in rest)) 0 (drop 8 rest)
    else key_behind None 0 rest

-- names of 1 to 64 bytes, at most 16 of them, and an id of at most 256
abbrev pub is_within : Key → Bool
is_within key =
    (list_all (λ name. nat_lt 0 (length name) && nat_le (length name) 64) key.path && nat_le (length key.path) 16) && nat_le
    (length key.oid) 256

abbrev pub if_spelled : List ℕ → Key → Option Key
if_spelled bytes key = if is_within key && same_bytes (key_spelling key) bytes then Some key else None

-- the key whose spelling the bytes are, if there is one
abbrev pub key_of : List ℕ → Option Key
key_of bytes = option_and_then (if_spelled bytes) (key_tried (drop 3 bytes))

-- the key of a call; none where its target gives none, or no spelling of one
abbrev pub key_in : Option Call → Option Key
key_in call = option_and_then key_of (target_of call)

-- What the reader keeps of the lines before. These words are for the contracts inside of this crate.
use Rattle.std.specs.Prelude.{ℕ, ◌&&◌, not, Bool, true, false, List, [], ◌∷◌, Option, Some, None, map, if◌then◌else◌}
use Rattle.std.specs.Str.{bytes_eq}
use Rattle.replay_script.specs.declared.role.Role.{Role}
use Rattle.replay_script.specs.declared.role.Role.TheVariants.{Call, Command, End, Collect}
use Rattle.replay_script.specs.declared.traffic.Traffic.{Traffic}
use Rattle.replay_script.specs.declared.connections.Connection.{Connection}

abbrev pub no_traffic : Traffic
no_traffic = record { calls = false; commands = false; ended = false }

abbrev pub with_role : Role → Traffic → Traffic
with_role Call t = record { calls = true; commands = t.commands; ended = t.ended }
with_role Command t = record { calls = t.calls; commands = true; ended = t.ended }
with_role End t = record { calls = t.calls; commands = t.commands; ended = true }
with_role Collect t = t

abbrev pub allowed : Traffic → Role → Bool
allowed t Call = not t.commands && not t.ended
allowed t Command = not t.calls && not t.ended
allowed t End = not t.ended
allowed t Collect = true

-- the traffic of a name, none of a name that has no row
abbrev pub traffic_of : List ℕ → List Connection → Traffic
traffic_of name [] = no_traffic
traffic_of name (r ∷ rs) = if bytes_eq r.name name then r.traffic else traffic_of name rs

-- the rows with one more line of a name
abbrev pub noted : List ℕ → Role → List Connection → List Connection
noted name role [] = record { name = name; traffic = with_role role no_traffic } ∷ []
noted name role (r ∷ rs) =
    if bytes_eq r.name name then record { name = r.name; traffic = with_role role r.traffic } ∷ rs else r ∷ noted name role rs

abbrev pub noted_by : Option (List ℕ × Role) → List Connection → List Connection
noted_by None rows = rows
noted_by (Some r) rows = noted r.0 r.1 rows

abbrev pub allowed_by : List Connection → Option (List ℕ × Role) → Bool
allowed_by rows None = true
allowed_by rows (Some r) = allowed (traffic_of r.0 rows) r.1

abbrev pub names : List Connection → List (List ℕ)
names rows = map (λ r. r.name) rows

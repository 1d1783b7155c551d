-- Which lines may stand behind one another on one connection, and the order of connections. The lines before one are
-- listed newest first.
use Rattle.std.specs.Prelude.{ℕ, suc, ◌==◌, ◌&&◌, ◌||◌, not, Bool, true, false, List, [], ◌∷◌, Option, Some, None, if◌then◌else◌}
use Rattle.std.specs.Option.{option_map}
use Rattle.std.specs.Str.{bytes_eq}
use Rattle.poa_base.specs.declared.ScriptLine.{ScriptLine}
use Rattle.poa_base.specs.declared.ScriptLine.TheVariants.{Skipped, Ask, Flood, Feed, End, Admin, Step, Run, Collect, Store, Journal}
use Rattle.replay_script.specs.declared.role.Role.{Role}
use Rattle.replay_script.specs.declared.role.Role.TheVariants as role

-- the connection of a line, and what the line is to it
abbrev pub role_of : ScriptLine → Option (List ℕ × Role)
role_of Skipped = None
role_of (Ask conn id path oid operation argument) = Some (conn, role.Call)
role_of (Flood conn count path oid operation argument) = Some (conn, role.Call)
role_of (Feed conn bytes) = Some (conn, role.Call)
role_of (End conn) = Some (conn, role.End)
role_of (Admin conn words) = Some (conn, role.Command)
role_of (Step worker) = None
role_of (Run worker) = None
role_of (Collect conn) = Some (conn, role.Collect)
role_of Store = None
role_of Journal = None

abbrev pub is_call : Role → Bool
is_call role.Call = true
is_call role.Command = false
is_call role.End = false
is_call role.Collect = false

abbrev pub is_command : Role → Bool
is_command role.Call = false
is_command role.Command = true
is_command role.End = false
is_command role.Collect = false

abbrev pub is_collect : Role → Bool
is_collect role.Call = false
is_collect role.Command = false
is_collect role.End = false
is_collect role.Collect = true

-- whether an earlier line of a connection leaves it to a later one
abbrev pub allows : Role → Role → Bool
allows role.Call later = not (is_command later)
allows role.Command later = not (is_call later)
allows role.End later = is_collect later
allows role.Collect later = true

-- a line of another connection leaves everything
abbrev pub leaves : Option (List ℕ × Role) → List ℕ → Role → Bool
leaves None name later = true
leaves (Some earlier) name later = not (bytes_eq earlier.0 name) || allows earlier.1 later

-- whether all of the lines before leave a connection to a line of this role
abbrev pub is_open : List ScriptLine → List ℕ → Role → Bool
is_open [] name later = true
is_open (l ∷ past) name later = leaves (role_of l) name later && is_open past name later

abbrev pub is_open_to : List ScriptLine → Option (List ℕ × Role) → Bool
is_open_to past None = true
is_open_to past (Some later) = is_open past later.0 later.1

-- whether a line may stand behind the lines before
abbrev pub may_stand : List ScriptLine → ScriptLine → Bool
may_stand past l = is_open_to past (role_of l)

-- the names with this one at their end, where it isn't among them
abbrev pub entered : List ℕ → List (List ℕ) → List (List ℕ)
entered name [] = name ∷ []
entered name (n ∷ ns) = if bytes_eq n name then n ∷ ns else n ∷ entered name ns

-- a flood of no request stands for no line
abbrev pub is_void : ScriptLine → Bool
is_void (Flood conn count path oid operation argument) = count == 0
is_void l = false

-- the connection that a line enters
abbrev pub entered_by_line : ScriptLine → Option (List ℕ)
entered_by_line l = if is_void l then None else option_map (λ r. r.0) (role_of l)

abbrev pub entered_by : Option (List ℕ) → List (List ℕ) → List (List ℕ)
entered_by None names = names
entered_by (Some name) names = entered name names

-- the connections of lines, in the order of their first lines
abbrev pub connections : List ScriptLine → List (List ℕ)
connections [] = []
connections (l ∷ past) = entered_by (entered_by_line l) (connections past)

-- the place of a name, or how many names there are where it isn't among them
abbrev pub place_in : List ℕ → List (List ℕ) → ℕ
place_in name [] = 0
place_in name (n ∷ ns) = if bytes_eq n name then 0 else suc (place_in name ns)

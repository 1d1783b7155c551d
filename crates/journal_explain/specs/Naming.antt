-- How a call is named, and which calls are asked for.
use Rattle.std.specs.Prelude.{ℕ, ◌==◌, Bool, true, false, ◌&&◌, nat_le, if◌then◌else◌, List, [], ◌∷◌, ◌++◌, length, Option, Some, None}
use Rattle.poa_base.specs.declared.Call.{Call}
use Rattle.poa_base.specs.declared.Call.TheVariants.{Request, Locate, Line}
use Rattle.poa_base.specs.declared.Entry.{Entry}
use Rattle.poa_base.specs.declared.Entry.TheVariants.{Arrive}
use Rattle.history_standing.specs.Arrivals.{arrivals}
use Rattle.journal_explain.specs.declared.selection.Selection.{Selection}
use Rattle.journal_explain.specs.declared.selection.Selection.TheVariants as asked
use Rattle.journal_explain.specs.declared.call_name.CallName.{CallName}

-- the request id; an administrator's line has none
abbrev pub id_of : Call → Option ℕ
id_of (Request head target operation body) = Some head.id
id_of (Locate head target) = Some head.id
id_of (Line number command) = None

-- a call that arrives as the one of this number
abbrev pub name_of : ℕ → ℕ → Call → CallName
name_of r conn call = record { arrival = r; conn = conn; id = id_of call }

abbrev pub is_id : ℕ → Option ℕ → Bool
is_id id None = false
is_id id (Some own) = own == id

-- the call of this name, which arrived with the entry at this place, is asked for by itself
abbrev pub asks : Selection → CallName → ℕ → Bool
asks (asked.Arrival r) name place = name.arrival == r
asks (asked.Call conn id) name place = name.conn == conn && is_id id name.id
asks (asked.Object path oid) name place = false
asks (asked.Picture from to) name place = nat_le from place && nat_le place to
asks asked.All name place = false

-- it is asked what came of all
abbrev pub is_all : Selection → Bool
is_all asked.All = true
is_all (asked.Arrival r) = false
is_all (asked.Call conn id) = false
is_all (asked.Object path oid) = false
is_all (asked.Picture from to) = false

abbrev pub with_name : Selection → CallName → ℕ → List CallName → List CallName
with_name which name place before = if asks which name place then before ++ name ∷ [] else before

-- the calls that are asked for, in the order of their arriving
abbrev pub names_in : Selection → List Entry → List CallName
names_in which [] = []
names_in which (Arrive conn size call ∷ past) = with_name which (name_of (arrivals past) conn call) (length past) (names_in which past)
names_in which (e ∷ past) = names_in which past

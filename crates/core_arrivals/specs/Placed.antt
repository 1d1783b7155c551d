-- Where in the journal each call arrived.
use Rattle.std.specs.Prelude.{◌≡◌, ℕ, ◌<◌, Bool, true, false, List, ◌∷◌, length, reverse, Option, Some, None}
use Rattle.std.specs.List.{slice_get}
use Rattle.poa_base.specs.declared.Call.{Call}
use Rattle.poa_base.specs.declared.Entry.{Entry}
use Rattle.poa_base.specs.declared.Entry.TheVariants.{Arrive}
use Rattle.history_standing.specs.Arrivals.{arrivals, call_of, conn_of}

-- the entry of the journal at this place is the arriving of that call; a history has its newest entry first
pub record IsPlaceOf (h : List Entry) (r place : ℕ) : Type 0 where
  pub conn : ℕ
  pub size : ℕ
  pub call : Call
  pub there : slice_get (reverse h) place ≡ Some (Arrive conn size call)
  pub call_is : call_of h r ≡ Some call
  pub conn_is : conn_of h r ≡ Some conn

pub record CallsAgree (h : List Entry) (places : List ℕ) : Type 0 where
  pub counted : length places ≡ arrivals h
  pub placed : (r : ℕ) → r < arrivals h → (place : ℕ) × (slice_get places r ≡ Some place) × IsPlaceOf h r place

-- the entry of a journal at the place of a call
abbrev pub entry_of : List Entry → List ℕ → ℕ → Option Entry
entry_of entries places r = elim (slice_get places r) [ Some place ↦ slice_get entries place | None ↦ None ]

abbrev pub call_in : Option Entry → Option Call
call_in (Some (Arrive conn size call)) = Some call
call_in e = None

abbrev pub conn_in : Option Entry → Option ℕ
conn_in (Some (Arrive conn size call)) = Some conn
conn_in e = None

-- a call arrives with the entry
abbrev pub arrives : Entry → Bool
arrives (Arrive conn size call) = true
arrives e = false

-- the table took in an entry, which is at that place of the journal
abbrev pub CallsFollow : ℕ → Entry → List ℕ → List ℕ → Type 0
CallsFollow place e old new = (past : List Entry) → place ≡ length past → CallsAgree past old → CallsAgree (e ∷ past) new

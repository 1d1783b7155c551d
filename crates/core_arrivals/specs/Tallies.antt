-- What the tally of a run says of its history.
use Rattle.std.specs.Prelude.{◌≡◌, ℕ, ◌^◌, ◌<◌, ◌≤◌, ◌∷◌, Bool, false, List, length, Option, None, option_map, slice_index_or, vec_len, vec_capacity}
use Rattle.poa_base.specs.declared.Call.{Call}
use Rattle.poa_base.specs.declared.Config.{Config}
use Rattle.poa_base.specs.declared.Entry.{Entry}
use Rattle.poa_base.specs.declared.Entry.TheVariants.{Entered, Admit}
use Rattle.history_standing.specs.Arrivals.{arrivals, arrived_bytes, call_of, connections}
use Rattle.poa_history.specs.Legal.{IsLegal, has_left, had_shutdown}
use Rattle.core_arrivals.specs.declared.tally.Tally.{Tally}
use Rattle.poa_history.specs.Leaving.{is_shut, staying}
use Rattle.poa_history.specs.Limits.{filled_at}
use Rattle.poa_history.specs.Phases.{first_abandoned}

-- the flag of a number; those behind the list are false
abbrev pub flag_of : List Bool → ℕ → Bool
flag_of flags k = slice_index_or flags k false

pub record TallyAgrees (h : List Entry) (t : Tally) : Type 0 where
  pub entered : length t.left.items ≡ connections h
  pub leavers : (k : ℕ) → flag_of t.left.items k ≡ has_left h k
  pub stayers : t.staying ≡ staying h (connections h)
  pub calls : t.arrivals ≡ arrivals h
  pub sizes : t.bytes ≡ arrived_bytes h
  pub full : option_map (λ f. (f.arrivals, f.bytes)) t.filled ≡ filled_at h
  pub order : t.ordered ≡ had_shutdown h
  pub end : t.shut ≡ is_shut h
  pub gave : t.given_up ≡ first_abandoned h

-- there is room for one connection more
abbrev pub HasRoomForOne : Tally → Type 0
HasRoomForOne t = vec_len t.left < vec_capacity t.left

-- only a connection that enters takes room
abbrev pub HasRoomFor : Entry → Tally → Type 0
HasRoomFor (Entered conn) t = HasRoomForOne t
HasRoomFor e t = Unit {0}

-- the call that an entry admits
abbrev pub call_admitted : List Entry → Entry → Option Call
call_admitted past (Admit w r verdict) = call_of past r
call_admitted past e = None

-- the counts of calls and bytes fit 64 bits
pub record AreFew (h : List Entry) : Type 0 where
  pub arrivals_are : arrivals h < 2 ^ 64
  pub bytes_are : arrived_bytes h < 2 ^ 64

-- what holds of each history that the tally agrees with
abbrev pub TallyTells : Tally → (List Entry → Type 0) → Type 0
TallyTells t says = (h : List Entry) → TallyAgrees h t → says h

-- the tally agrees with each history that it agreed with
abbrev pub TallyStays : Tally → Tally → Type 0
TallyStays old new = (h : List Entry) → TallyAgrees h old → TallyAgrees h new

-- the tally took the entry in: it agrees with the history that has it on top
abbrev pub TallyTakes : Entry → Tally → Tally → Type 0
TallyTakes e old new = (past : List Entry) → TallyAgrees past old → TallyAgrees (e ∷ past) new

-- the same of the histories of which this holds
abbrev pub TallyTakesAfter : (List Entry → Type 0) → Entry → Tally → Tally → Type 0
TallyTakesAfter given e old new = (past : List Entry) → given past → TallyAgrees past old → TallyAgrees (e ∷ past) new

-- a connection enters, with the next number
abbrev pub TallyEnters : ℕ → Tally → Tally → Type 0
TallyEnters conn old new = (past : List Entry) → conn ≡ connections past → conn < 4000000 → TallyAgrees past old → TallyAgrees (Entered conn ∷ past) new

-- the tally took a legal entry in, with the call that it admits
abbrev pub TallyFollows : Entry → Option Call → Tally → Tally → Type 0
TallyFollows e call old new =
    (c : Config) (run limit : ℕ) (past : List Entry) → IsLegal c run limit (e ∷ past) → limit ≤ 4000000 → call ≡ call_admitted past e
    → TallyAgrees past old → TallyAgrees (e ∷ past) new

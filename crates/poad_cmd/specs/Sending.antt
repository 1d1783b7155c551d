-- What comes in over the links that the doors of a run have, and that it fits the run.
use Rattle.std.specs.Prelude.{◌≡◌, ℕ, ◌+◌, ◌^◌, ◌<◌, ◌≤◌, Bool, true, false, ◌||◌, List, [], ◌∷◌, ◌++◌, length, Option, ⊤}
use Rattle.std.specs.Option.{IsSomeAnd}
use Rattle.outside.specs.Accepting.{Standing}
use Rattle.outside.specs.Link.{Shown}
use Rattle.poa_history.specs.Legal.{is_shutdown}
use Rattle.poad_cmd.specs.Complete.{bytes_in}
use Rattle.serve_run.specs.declared.doors.Doors.{Doors}
use Rattle.session_laws.specs.Hearing.{Heard, Stop}
use Rattle.session_laws.specs.Sessions.{Hears}
use Rattle.session_laws.specs.declared.peer.Peer.{Peer}
use Rattle.session_laws.specs.declared.peer.Peer.TheVariants.{Administrator, Client}

-- the link tells the bytes that its peer sends, and these are their calls
abbrev pub Sends : Peer → Shown → List Heard → Type 0
Sends peer link calls = IsSomeAnd link.left (λ text. (stop : Stop) × Hears peer text calls stop)

module _ {A L : Type 0} (shown : L → Shown) (standing : A → Option (Standing L)) where
  -- so do all of these links, the calls of one behind those of the other
  abbrev pub LinksSend : Peer → List L → List (List Heard) → Type 0
  LinksSend peer [] [] = ⊤
  LinksSend peer (link ∷ links) (calls ∷ sent) = Sends peer (shown link) calls × LinksSend peer links sent
  LinksSend peer links sent = ⊥

  -- the door tells the links that it will give, and what they send is this
  abbrev pub DoorSends : Peer → A → List (List Heard) → Type 0
  DoorSends peer door sent = IsSomeAnd (standing door) (λ s. LinksSend peer s.left sent)

  -- so do all of these doors
  abbrev pub DoorsSend : Peer → List A → List (List Heard) → Type 0
  DoorsSend peer [] sent = sent ≡ []
  DoorsSend peer (door ∷ doors) sent = (here : List (List Heard)) × (behind : List (List Heard)) × (sent ≡ here ++ behind)
      × DoorSends peer door here × DoorsSend peer doors behind

  -- what comes in over the doors of a run: the administrators' first, and then the clients'
  pub record AreSent (doors : Doors A) (sent : List (List Heard)) : Type 0 where
    pub admins : List (List Heard)
    pub clients : List (List Heard)
    pub both : sent ≡ admins ++ clients
    pub admin : DoorSends Administrator doors.admin admins
    pub lanes : DoorsSend Client doors.lanes.items clients

abbrev pub all_calls : List (List Heard) → List Heard
all_calls [] = []
all_calls (calls ∷ sent) = calls ++ all_calls sent

abbrev pub has_shutdown : List Heard → Bool
has_shutdown [] = false
has_shutdown (heard ∷ more) = is_shutdown heard.call || has_shutdown more

-- it fits a run that takes so many calls: the links, their calls, and the bytes of these. Where a `shutdown` is among them there
-- is room for the run's own too, a line of eight bytes
pub record FitsRun (limit : ℕ) (sent : List (List Heard)) : Type 0 where
  pub links : length sent < 4000000
  pub few : length (all_calls sent) ≤ limit
  pub small : bytes_in (all_calls sent) ≤ 2 ^ 30
  pub own : has_shutdown (all_calls sent) ≡ true → (length (all_calls sent) < limit) × (bytes_in (all_calls sent) + 8 ≤ 2 ^ 30)

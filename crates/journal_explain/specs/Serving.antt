-- The activation by which a request is served: its servant, with which entry it began, and with which it ends.
use Rattle.std.specs.Prelude.{ℕ, ◌-◌, ◌==◌, nat_lt, Bool, false, not, ◌&&◌, if◌then◌else◌, List, [], ◌∷◌, ◌++◌, length, Option, Some, None, option_map, option_and_then, slice_get}
use Rattle.std.specs.List.{list_any}
use Rattle.poa_base.specs.declared.Config.{Config}
use Rattle.poa_base.specs.declared.Entry.{Entry}
use Rattle.poa_base.specs.declared.Entry.TheVariants.{Admit}
use Rattle.poa_base.specs.declared.Incarnation.{Incarnation}
use Rattle.poa_base.specs.declared.Incarnation.TheVariants as incarnation
use Rattle.poa_base.specs.declared.Sid.{Sid}
use Rattle.poa_base.specs.declared.Sid.TheVariants as sid
use Rattle.poa_base.specs.declared.Verdict.{Verdict}
use Rattle.poa_base.specs.declared.Verdict.TheVariants.{Serve, Incarnate}
use Rattle.history_standing.specs.Changes.{standing}
use Rattle.history_standing.specs.Opening.{opening}
use Rattle.history_standing.specs.Standings.{is_active}
use Rattle.history_standing.specs.Templates.{servant_name}
use Rattle.poa_history.specs.States.{servant_of_activation}
use Rattle.poa_history.specs.Turns.{activation_numbered}
use Rattle.journal_explain.specs.declared.event.Event.{Event}
use Rattle.journal_explain.specs.declared.event.Event.TheVariants as event
use Rattle.journal_explain.specs.declared.servant.Servant.{Servant}
use Rattle.journal_explain.specs.declared.servant.Servant.TheVariants as servant
use Rattle.journal_explain.specs.declared.service.Service.{Service}

-- how many activations were begun, those of the configuration among them
abbrev pub begun_in : Config → ℕ → List Entry → ℕ
begun_in c run h = length (standing c run h).activations

-- the entries that began the activations, in the order of their numbers, those of the configuration left out
abbrev pub begins_in : Config → ℕ → List Entry → List ℕ
begins_in c run [] = []
begins_in c run (e ∷ past) =
    if nat_lt (begun_in c run past) (begun_in c run (e ∷ past)) then begins_in c run past ++ length past ∷ [] else begins_in c run past

-- the entry of an activation among these, where so many have the first numbers and none
abbrev pub beginning_at : ℕ → List ℕ → ℕ → Option ℕ
beginning_at first rows n = if nat_lt n first then None else slice_get rows (n - first)

-- the entry that began the activation of this number; none where it is one of the configuration's
abbrev pub begun_with : Config → ℕ → List Entry → ℕ → Option ℕ
begun_with c run h n = beginning_at (length (opening c run).activations) (begins_in c run h) n

-- the activation that has a request served, as it stands
abbrev pub serving_by : Verdict → Option ℕ
serving_by (Serve n) = Some n
serving_by verdict = None

abbrev pub served_with : Entry → Option ℕ
served_with (Admit w a verdict) = serving_by verdict
served_with e = None

-- the entry that began it
abbrev pub begun_for : Config → ℕ → List Entry → Option ℕ → Option ℕ
begun_for c run past None = None
begun_for c run past (Some n) = begun_with c run past n

-- a servant: one of the configuration, by its name, or a fresh one
abbrev pub servant_of : Config → Sid → Option Servant
servant_of c (sid.Named k) = option_map (λ name. servant.Named name) (servant_name c k)
servant_of c (sid.Fresh n) = Some (servant.Fresh n)

-- the servant of the activation of this number, as it stands
abbrev pub servant_at : Config → ℕ → List Entry → ℕ → Option Servant
servant_at c run h n = option_and_then (servant_of c) (servant_of_activation (activation_numbered (standing c run h) n))

-- an activation that has a request served, as it is told: by its servant, and by this entry, which began it
abbrev pub service_by : Config → ℕ → List Entry → Option ℕ → Option ℕ → Option Service
service_by c run past begun None = None
service_by c run past begun (Some n) = Some (record { servant = servant_at c run past n; begun = begun })

-- the servant that an answer of the servant activator brings
abbrev pub servant_brought : Incarnation → Option Servant
servant_brought (incarnation.Fresh n) = Some (servant.Fresh n)
servant_brought (incarnation.Named name) = Some (servant.Named name)
servant_brought answer = None

-- the activation that serves a request, or is to serve it as soon as it has its servant
abbrev pub server_of : Verdict → Option ℕ
server_of (Serve n) = Some n
server_of (Incarnate n) = Some n
server_of verdict = None

-- with one entry more
abbrev pub server_with : Entry → ℕ → Option ℕ → Option ℕ
server_with (Admit w a verdict) r before = if a == r then server_of verdict else before
server_with e r before = before

-- the activation of the verdict with which the call was admitted last
abbrev pub server_in : List Entry → ℕ → Option ℕ
server_in [] r = None
server_in (e ∷ past) r = server_with e r (server_in past r)

-- the activation of this number is active
abbrev pub is_serving : Config → ℕ → List Entry → ℕ → Bool
is_serving c run h n = list_any (λ a. (a.number == n) && is_active a) (standing c run h).activations

abbrev pub serves : Config → ℕ → List Entry → Option ℕ → Bool
serves c run h None = false
serves c run h (Some n) = is_serving c run h n

-- the activation was active before an entry, and isn't behind it
abbrev pub ended_where : Option ℕ → Bool → Bool → Option Event
ended_where None before after = None
ended_where (Some n) before after = if before && not after then Some (event.Ends n) else None

-- the activation that serves the call is active no longer from an entry on
abbrev pub ended_by : Config → ℕ → List Entry → Entry → ℕ → Option Event
ended_by c run past e r =
    ended_where (server_in (e ∷ past) r) (serves c run past (server_in (e ∷ past) r)) (serves c run (e ∷ past) (server_in (e ∷ past) r))

-- What an entry changes, and so what stands after a history.
use Rattle.std.specs.Prelude.{ℕ, suc, Bool, true, false, not, ◌&&◌, ◌||◌, ◌==◌, if◌then◌else◌, List, [], ◌∷◌, ◌++◌, map, filter, length, find, Option, Some, None, option_and_then}
use Rattle.std.specs.List.{list_any}
use Rattle.poa_base.specs.declared.Config.{Config}
use Rattle.poa_base.specs.declared.Key.{Key}
use Rattle.poa_base.specs.declared.Command.{Command}
use Rattle.poa_base.specs.declared.Command.TheVariants.{Manager, Create, Destroy, Activate, ActivateId, Deactivate, Reference, Shutdown}
use Rattle.poa_base.specs.declared.Order.TheVariants.{Deactivate as DeactivateAll}
use Rattle.poa_base.specs.declared.Sid.TheVariants.{Named as NamedServant, Fresh as FreshServant}
use Rattle.poa_base.specs.declared.Entry.{Entry}
use Rattle.poa_base.specs.declared.Entry.TheVariants.{Admit, Tried, Incarnated, Done, TakeOut, Etherealized}
use Rattle.poa_base.specs.declared.Attempt.{Attempt}
use Rattle.poa_base.specs.declared.Attempt.TheVariants.{Yes}
use Rattle.poa_base.specs.declared.Incarnation.{Incarnation}
use Rattle.poa_base.specs.declared.Incarnation.TheVariants.{Fresh, Named}
use Rattle.poa_base.specs.declared.Verdict.{Verdict}
use Rattle.poa_base.specs.declared.Verdict.TheVariants.{Serve, Preset, Locator, Incarnate, Try}
use Rattle.history_standing.specs.declared.flight.Flight.{Flight}
use Rattle.history_standing.specs.declared.activation.Activation.{Activation}
use Rattle.history_standing.specs.declared.activation.Phase.{Phase}
use Rattle.history_standing.specs.declared.activation.Phase.TheVariants.{Begun, Complete, Void}
use Rattle.history_standing.specs.declared.stage.Stage.{Stage}
use Rattle.history_standing.specs.declared.stage.Stage.TheVariants.{Incarnating, Removing}
use Rattle.history_standing.specs.Templates.{has_activator, manager_at, manager_number, servant_number}
use Rattle.history_standing.specs.Arrivals.{call_of}
use Rattle.history_standing.specs.Stages.{stage, arrival_in}
use Rattle.history_standing.specs.Standings.{Standing, is_of, is_begun, is_mapped, has_servant}
use Rattle.history_standing.specs.Nodes.{stands_under, marked}
use Rattle.history_standing.specs.Walks.{walk, adapter_met, child_met}
use Rattle.history_standing.specs.Ends.{settled}
use Rattle.history_standing.specs.Keys.{key_in}
use Rattle.history_standing.specs.Logs.{command_done}
use Rattle.history_standing.specs.Opening.{with_node, with_activation, with_made, made_id, number_at, opening}
use Rattle.history_standing.specs.Commands.{is_implicit, live_at}

abbrev pub with_flight : Flight → Standing → Standing
with_flight f s = record s { flights = s.flights ++ f ∷ [] }

-- the request or trial of this arrival is in flight no longer
abbrev pub without_flight : Option ℕ → Standing → Standing
without_flight None s = s
without_flight (Some r) s = record s { flights = filter (λ f. not (f.arrival == r)) s.flights }

abbrev pub with_activations : (Activation → Activation) → Standing → Standing
with_activations f s = record s { activations = map f s.activations }

abbrev pub with_dying : List (List ℕ) → Standing → Standing
with_dying p s = record s { nodes = map (marked p) s.nodes }

-- a request is admitted to the adapter of its key
abbrev pub with_request : ℕ → Key → Option ℕ → Standing → Standing
with_request r key n s = with_flight (record { arrival = r; adapter = adapter_met (walk s.nodes key.path); activation = n; child = None }) s

-- an adapter activator is asked for the missing child
abbrev pub with_trial : ℕ → Key → Standing → Standing
with_trial r key s =
    with_flight
    (record {
      arrival = r;
      adapter = adapter_met (walk s.nodes key.path);
      activation = None;
      child = Some (child_met (walk s.nodes key.path) key.path);
    }) s

abbrev pub with_incarnation : ℕ → Key → Standing → Standing
with_incarnation r key s =
    with_activation (adapter_met (walk s.nodes key.path)) key.path key.oid Begun (with_request r key (Some (length s.activations)) s)

-- what the Admit of a request begins
abbrev pub with_admitted : ℕ → Option Key → Verdict → Standing → Standing
with_admitted r (Some key) (Serve n) s = with_request r key (Some n) s
with_admitted r (Some key) (Preset servant) s = with_request r key None s
with_admitted r (Some key) (Locator servant) s = with_request r key None s
with_admitted r (Some key) (Incarnate n) s = with_incarnation r key s
with_admitted r (Some key) Try s = with_trial r key s
with_admitted r key verdict s = s

-- the activation is ending; it stays quiet where a destroy that keeps servants was the first cause
abbrev pub ended_by_destroy : Bool → Activation → Activation
ended_by_destroy etherealize a =
    record a { ending = true; quiet = a.quiet || (not a.ending && not etherealize); cleanup = a.cleanup || (etherealize && not a.out) }

abbrev pub with_destroyed : List (List ℕ) → Bool → Standing → Standing
with_destroyed p etherealize s =
    with_dying p (with_activations (λ a. if stands_under s.nodes p a.adapter then ended_by_destroy etherealize a else a) s)

-- the activations of the manager's adapters that have a servant activator are ending
abbrev pub with_manager_off : Config → ℕ → Standing → Standing
with_manager_off c m s =
    with_activations (λ a. if has_activator c a.path && (manager_at c a.path == m) then ended_by_destroy true a else a) s

abbrev pub with_deactivated : ℕ → List ℕ → Standing → Standing
with_deactivated k oid s = with_activations (λ a. if is_of k oid a then record a { ending = true } else a) s

abbrev pub servant_of : Config → List ℕ → Phase
servant_of c name = elim (servant_number c name) [ Some k ↦ Complete (NamedServant k) | None ↦ Void ]

-- the servant is active under a new system-made id
abbrev pub with_made_activation : Config → ℕ → List (List ℕ) → List ℕ → Standing → Standing
with_made_activation c run p servant s = with_activation (number_at s p) p (made_id run (suc s.made)) (servant_of c servant) (with_made s)

abbrev pub with_reference : Config → ℕ → List (List ℕ) → List ℕ → Standing → Standing
with_reference c run p servant s =
    elim (live_at s p) [
      | Some n ↦ (elim (servant_number c servant)
          [ Some k ↦ (if is_implicit c s n k then with_made_activation c run p servant s else s) | None ↦ s ])
      | None ↦ s
    ]

-- what a command that is done changes
abbrev pub with_command : Config → ℕ → Option Command → Standing → Standing
with_command c run (Some (Manager name (DeactivateAll true wait))) s =
    elim (manager_number c name) [ Some m ↦ with_manager_off c m s | None ↦ s ]
with_command c run (Some (Create p)) s = with_node p s
with_command c run (Some (Destroy p etherealize wait)) s = with_destroyed p etherealize s
with_command c run (Some (Activate p servant)) s = with_made_activation c run p servant s
with_command c run (Some (ActivateId p oid servant)) s = with_activation (number_at s p) p oid (servant_of c servant) s
with_command c run (Some (Deactivate p oid)) s = with_deactivated (number_at s p) oid s
with_command c run (Some (Reference p servant)) s = with_reference c run p servant s
with_command c run (Some Shutdown) s = with_destroyed [] true s
with_command c run command s = s

-- the path of the missing child for which the arrival is tried
abbrev pub child_tried : List Flight → Option ℕ → Option (List (List ℕ))
child_tried fs None = None
child_tried fs (Some r) = option_and_then (λ f. f.child) (find (λ f. f.arrival == r) fs)

abbrev pub with_child : Option (List (List ℕ)) → Standing → Standing
with_child (Some p) s = with_node p s
with_child None s = s

-- the trial ends; where the activator said yes the child is created
abbrev pub with_tried : Option ℕ → Attempt → Standing → Standing
with_tried r (Yes number) s = with_child (child_tried s.flights r) (without_flight r s)
with_tried r answer s = without_flight r s

abbrev pub at_number : ℕ → (Activation → Activation) → Activation → Activation
at_number n f a = if a.number == n then f a else a

-- an activation that is being incarnated has come so far
abbrev pub come_to : Phase → Activation → Activation
come_to phase a = if is_begun a then record a { phase = phase } else a

-- the incarnation brings a servant, or leaves the activation void and ends the request
abbrev pub with_incarnated : Config → Stage → Incarnation → Standing → Standing
with_incarnated c (Incarnating r n) (Fresh m) s = with_activations (at_number n (come_to (Complete (FreshServant n)))) s
with_incarnated c (Incarnating r n) (Named name) s = with_activations (at_number n (come_to (servant_of c name))) s
with_incarnated c (Incarnating r n) answer s = without_flight (Some r) (with_activations (at_number n (come_to Void)) s)
with_incarnated c stage answer s = s

-- the same servant is in the map of the same adapter by another activation
abbrev pub is_elsewhere : List Activation → Activation → Bool
is_elsewhere activations a =
    list_any
    (λ b. not (b.number == a.number) &&
    ((b.adapter == a.adapter) && (is_mapped b && (elim a.phase [ Complete s ↦ has_servant s b | Begun ↦ false | Void ↦ false ]))))
    activations

abbrev pub with_takeout : ℕ → Standing → Standing
with_takeout n s = with_activations (at_number n (λ a. record a { out = true; remaining = is_elsewhere s.activations a })) s

abbrev pub with_etherealized : Stage → Standing → Standing
with_etherealized (Removing n) s = with_activations (at_number n (λ a. record a { etherealized = true })) s
with_etherealized stage s = s

-- what an entry changes, after the entries before it
abbrev pub changed : Config → ℕ → List Entry → Entry → Standing → Standing
changed c run past (Admit w r verdict) s =
    with_command c run (command_done past (Admit w r verdict)) (with_admitted r (key_in (call_of past r)) verdict s)
changed c run past (Tried w answer) s = with_tried (arrival_in (stage past w)) answer s
changed c run past (Incarnated w answer) s = with_incarnated c (stage past w) answer s
changed c run past (Done w) s = without_flight (arrival_in (stage past w)) s
changed c run past (TakeOut w n etherealize) s = with_takeout n s
changed c run past (Etherealized w cleanup remaining) s = with_etherealized (stage past w) s
changed c run past e s = s

-- what stands after a history
abbrev pub standing : Config → ℕ → List Entry → Standing
standing c run [] = opening c run
standing c run (e ∷ past) = settled c (changed c run past e (standing c run past))

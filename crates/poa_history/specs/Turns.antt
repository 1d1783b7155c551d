-- The next entry of a worker: what it has begun goes on, else a removal that is due, else the next arrival is admitted.
use Rattle.std.specs.Prelude.{ℕ, Bool, not, ◌&&◌, ◌==◌, nat_lt, if◌then◌else◌, List, find, Option, Some, None, option_map, is_some}
use Rattle.std.specs.Option.{option_or}
use Rattle.poa_base.specs.declared.limits.TheConstants.{ADAPTERS}
use Rattle.poa_base.specs.declared.Config.{Config}
use Rattle.poa_base.specs.declared.Children.{Children}
use Rattle.poa_base.specs.declared.Children.TheVariants.{Create, Refuse, Raise as RaiseInstead}
use Rattle.poa_base.specs.declared.Entry.{Entry}
use Rattle.poa_base.specs.declared.Entry.TheVariants.{Admit, Tried, Incarnated, Run, Done, TakeOut, Etherealized}
use Rattle.poa_base.specs.declared.Attempt.{Attempt}
use Rattle.poa_base.specs.declared.Attempt.TheVariants.{Yes, No, Raised, Dying}
use Rattle.history_standing.specs.declared.node.Node.{Node}
use Rattle.history_standing.specs.declared.flight.Flight.{Flight}
use Rattle.history_standing.specs.declared.activation.Activation.{Activation}
use Rattle.history_standing.specs.declared.stage.Stage.{Stage}
use Rattle.history_standing.specs.declared.stage.Stage.TheVariants.{Free, Trying, Incarnating, Serving, Ran, Removing}
use Rattle.history_standing.specs.Searches.{first_given}
use Rattle.history_standing.specs.Templates.{template, template_or_root, has_activator}
use Rattle.history_standing.specs.Arrivals.{arrivals}
use Rattle.history_standing.specs.Stages.{stage, is_unadmitted}
use Rattle.history_standing.specs.Standings.{Standing, is_complete, is_ending, is_used}
use Rattle.history_standing.specs.Rules.{brought}
use Rattle.history_standing.specs.Changes.{standing}
use Rattle.history_standing.specs.Situations.{is_changing}
use Rattle.poa_history.specs.Verdicts.{verdict}

abbrev pub flight_of : Standing → ℕ → Option Flight
flight_of s r = find (λ f. f.arrival == r) s.flights

abbrev pub node_of : Standing → ℕ → Option Node
node_of s k = find (λ n. n.number == k) s.nodes

abbrev pub activation_numbered : Standing → ℕ → Option Activation
activation_numbered s n = find (λ a. a.number == n) s.activations

-- what an adapter activator answers for a child, where its parent lives
abbrev pub attempt_by : Config → Standing → Option Children → List (List ℕ) → Attempt
attempt_by c s (Some RaiseInstead) child = Raised
attempt_by c s (Some Create) child = if is_some (template c child) && nat_lt s.count ADAPTERS then Yes s.count else No
attempt_by c s (Some Refuse) child = No
attempt_by c s None child = No

abbrev pub attempt_at : Config → Standing → Option Node → List (List ℕ) → Attempt
attempt_at c s None child = Dying
attempt_at c s (Some parent) child = if parent.dying then Dying else attempt_by c s (template_or_root c parent.path).children child

-- CORBA 3.3 Part 1, section 15.3.3: AdapterActivator, unknown_adapter
abbrev pub attempt : Config → Standing → ℕ → Attempt
attempt c s r =
    elim (flight_of s r) [
      | None ↦ No
      | Some f ↦ elim f.child [ None ↦ No | Some child ↦ attempt_at c s (node_of s f.adapter) child ]
    ]

-- the servant activator's answer for an activation that was begun
abbrev pub incarnation_entry : Config → Standing → ℕ → ℕ → Option Entry
incarnation_entry c s w n = option_map (λ a. Incarnated w (brought c s a)) (activation_numbered s n)

abbrev pub removal_entry : Standing → ℕ → ℕ → Option Entry
removal_entry s w n = option_map (λ a. Etherealized w a.cleanup a.remaining) (activation_numbered s n)

-- what a worker has begun goes on
abbrev pub going_on : Config → Standing → ℕ → Stage → Option Entry
going_on c s w (Trying r) = Some (Tried w (attempt c s r))
going_on c s w (Incarnating r n) = incarnation_entry c s w n
going_on c s w (Serving r) = Some (Run w)
going_on c s w (Ran r) = Some (Done w)
going_on c s w (Removing n) = removal_entry s w n
going_on c s w Free = None

-- ending, with nothing in flight in it and nothing changing in its adapter, where a servant activator is to be told
abbrev pub is_due : Config → Standing → Activation → Bool
is_due c s a =
    (is_complete a && (is_ending a && (has_activator c a.path && not a.out)))
    && (not (is_used s.flights a.number) && not (is_changing c s.activations a.adapter))

-- the least activation that is due is taken out
abbrev pub removal : Config → Standing → ℕ → Option Entry
removal c s w = option_map (λ a. TakeOut w a.number (not a.quiet)) (find (is_due c s) s.activations)

-- an arrival that is ready for the worker
abbrev pub admission_of : Config → ℕ → List Entry → ℕ → ℕ → Option Entry
admission_of c run past w r = if is_unadmitted past r then option_map (λ v. Admit w r v) (verdict c run past r w) else None

-- the least of them is admitted
abbrev pub admission : Config → ℕ → List Entry → ℕ → Option Entry
admission c run past w = first_given (admission_of c run past w) (arrivals past)

abbrev pub next_of : Config → ℕ → List Entry → ℕ → Stage → Option Entry
next_of c run past w Free = option_or (removal c (standing c run past) w) (admission c run past w)
next_of c run past w begun = going_on c (standing c run past) w begun

-- the entry that a worker makes next, or none
unfoldable pub turn : Config → ℕ → List Entry → ℕ → Option Entry
turn c run past w = next_of c run past w (stage past w)

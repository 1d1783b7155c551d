-- What is in flight was so before, or is begun by the Admit of its arrival.
use Rattle.std.specs.Prelude.{◌≡◌, ℕ, true, false, not, ◌==◌, if◌then◌else◌, List, [], ◌∷◌, ◌++◌, length, Option, Some, None, refl}
use Rattle.std.proofs.Common.{inl, inr, sym, subst, ap, ◌∙◌}
use Rattle.std.proofs.lemmas.Bool.{cond_both}
use Rattle.poa_base.specs.declared.Config.{Config}
use Rattle.poa_base.specs.declared.Key.{Key}
use Rattle.poa_base.specs.declared.Command.{Command}
use Rattle.poa_base.specs.declared.Command.TheVariants.{Manager, Create, Destroy, Activate, ActivateId, Deactivate, Reference, Preset as PresetLine, Forward as ForwardLine, Unforward, Shutdown, Bad}
use Rattle.poa_base.specs.declared.Order.TheVariants.{Activate as ActivateAll, Hold, Discard, Deactivate as DeactivateAll}
use Rattle.poa_base.specs.declared.Verdict.{Verdict}
use Rattle.poa_base.specs.declared.Verdict.TheVariants.{Serve, Preset, Locator, Incarnate, Try, Refuse, Forward, Addressing, Here, Unknown, Answer, Wait}
use Rattle.poa_base.specs.declared.Entry.{Entry}
use Rattle.poa_base.specs.declared.Entry.TheVariants.{Entered, Arrive, Filled, Left, Collect, Admit, Tried, Incarnated, Run, Done, TakeOut, Etherealized, Abandon}
use Rattle.poa_base.specs.declared.Attempt.{Attempt}
use Rattle.poa_base.specs.declared.Attempt.TheVariants.{Yes, No, Raised, Dying as ParentDying}
use Rattle.poa_base.specs.declared.Incarnation.{Incarnation}
use Rattle.poa_base.specs.declared.Incarnation.TheVariants.{Fresh, Named, Double, Forward as ForwardTo, Raise}
use Rattle.history_standing.specs.declared.flight.Flight.{Flight}
use Rattle.history_standing.specs.declared.stage.Stage.{Stage}
use Rattle.history_standing.specs.declared.stage.Stage.TheVariants.{Free, Trying, Incarnating, Serving, Ran, Removing}
use Rattle.history_standing.specs.Templates.{manager_number, servant_number}
use Rattle.history_standing.specs.Arrivals.{call_of}
use Rattle.history_standing.specs.Stages.{stage, arrival_in}
use Rattle.history_standing.specs.Standings.{Standing}
use Rattle.history_standing.specs.Walks.{walk, adapter_met, child_met}
use Rattle.history_standing.specs.Trees.{In}
use Rattle.history_standing.specs.Keys.{key_in}
use Rattle.history_standing.specs.Logs.{command_done}
use Rattle.history_standing.specs.Commands.{is_implicit, live_at}
use Rattle.history_standing.specs.Changes.{changed, with_admitted, with_made_activation, with_manager_off, with_command, child_tried, without_flight, with_tried, with_incarnated, with_etherealized}
use Rattle.history_standing.proofs.Members.{in_either, in_kept}
use Rattle.poa_history.proofs.Untouched.{flights_in, flights_child}

-- the flight that an Admit begins
abbrev pub flight_for : Standing → ℕ → Key → Verdict → Option Flight
flight_for s r key (Serve n) = Some (record { arrival = r; adapter = adapter_met (walk s.nodes key.path); activation = Some n; child = None })
flight_for s r key (Preset name) = Some (record { arrival = r; adapter = adapter_met (walk s.nodes key.path); activation = None; child = None })
flight_for s r key (Locator name) = Some (record { arrival = r; adapter = adapter_met (walk s.nodes key.path); activation = None; child = None })
flight_for s r key (Incarnate n) =
    Some (record { arrival = r; adapter = adapter_met (walk s.nodes key.path); activation = Some (length s.activations); child = None })
flight_for s r key Try =
    Some (record { arrival = r; adapter = adapter_met (walk s.nodes key.path); activation = None; child = Some (child_met (walk s.nodes key.path) key.path) })
flight_for s r key verdict = None

pub data FlightFrom (past : List Entry) (e : Entry) (s : Standing) (f : Flight) : Type 0 where
  flew : In f s.flights → FlightFrom past e s f
  begins : (w r : ℕ) (v : Verdict) (key : Key) → e ≡ Admit w r v → key_in (call_of past r) ≡ Some key → flight_for s r key v ≡ Some f → FlightFrom past e s f

-- commands leave what is in flight
pub flights_command : (c : Config) (run : ℕ) (command : Option Command) (s : Standing) → (with_command c run command s).flights ≡ s.flights
flights_command c run None s = refl
flights_command c run (Some (Manager name ActivateAll)) s = refl
flights_command c run (Some (Manager name (Hold wait))) s = refl
flights_command c run (Some (Manager name (Discard wait))) s = refl
flights_command c run (Some (Manager name (DeactivateAll true wait))) s =
    elim (manager_number c name) as (λ o. flights_in (elim o [ Some m ↦ with_manager_off c m s | None ↦ s ]) ≡ s.flights) [ Some m ↦ refl | None ↦ refl ]
flights_command c run (Some (Manager name (DeactivateAll false wait))) s = refl
flights_command c run (Some (Create p)) s = refl
flights_command c run (Some (Destroy p etherealize wait)) s = refl
flights_command c run (Some (Activate p servant)) s = refl
flights_command c run (Some (ActivateId p oid servant)) s = refl
flights_command c run (Some (Deactivate p oid)) s = refl
flights_command c run (Some (Reference p servant)) s =
    elim (live_at s p) as (λ o. flights_in
    (elim o [
      | Some n ↦
          (elim (servant_number c servant) [ Some k ↦ (if is_implicit c s n k then with_made_activation c run p servant s else s) | None ↦ s ])
      | None ↦ s
    ]) ≡ s.flights) [
      | Some n ↦ elim (servant_number c servant) as (λ o. flights_in (elim o [
        | Some k ↦
            (if is_implicit c s n k then with_made_activation c run p servant s else s)
        | None ↦ s
      ]) ≡ s.flights) [
        | Some k ↦ cond_both (is_implicit c s n k) (with_made_activation c run p servant s) s (λ t. t.flights ≡ s.flights) (λ _. refl) (λ _. refl)
        | None ↦ refl
      ]
      | None ↦ refl
    ]
flights_command c run (Some (PresetLine p servant)) s = refl
flights_command c run (Some (ForwardLine p endpoint)) s = refl
flights_command c run (Some (Unforward p)) s = refl
flights_command c run (Some Shutdown) s = refl
flights_command c run (Some (Bad word)) s = refl

module _ (past : List Entry) (s : Standing) where
  added : (e : Entry) (w r : ℕ) (v : Verdict) (key : Key) (f g : Flight) → e ≡ Admit w r v → key_in (call_of past r) ≡ Some key → flight_for s r key v ≡ Some g
      → In f (s.flights ++ g ∷ []) → FlightFrom past e s f
  added e w r v key f g is has for_ there =
      elim (in_either f g s.flights there) [ inl was ↦ flew was | inr new ↦ begins w r v key is has (for_ ∙ ap (λ x. Some x) (sym new)) ]

  from_admitted : (w r : ℕ) (v : Verdict) (key : Option Key) (f : Flight) → key_in (call_of past r) ≡ key → In f (with_admitted r key v s).flights
      → FlightFrom past (Admit w r v) s f
  from_admitted w r v None f has there = flew there
  from_admitted w r (Serve n) (Some key) f has there = added (Admit w r (Serve n)) w r (Serve n) key f _ refl has refl there
  from_admitted w r (Preset name) (Some key) f has there = added (Admit w r (Preset name)) w r (Preset name) key f _ refl has refl there
  from_admitted w r (Locator name) (Some key) f has there = added (Admit w r (Locator name)) w r (Locator name) key f _ refl has refl there
  from_admitted w r (Incarnate n) (Some key) f has there = added (Admit w r (Incarnate n)) w r (Incarnate n) key f _ refl has refl there
  from_admitted w r Try (Some key) f has there = added (Admit w r Try) w r Try key f _ refl has refl there
  from_admitted w r (Refuse x) (Some key) f has there = flew there
  from_admitted w r (Forward x) (Some key) f has there = flew there
  from_admitted w r Addressing (Some key) f has there = flew there
  from_admitted w r Here (Some key) f has there = flew there
  from_admitted w r Unknown (Some key) f has there = flew there
  from_admitted w r (Answer x) (Some key) f has there = flew there
  from_admitted w r Wait (Some key) f has there = flew there

  -- of fewer flights each was one
  pub was_flying : (r : Option ℕ) (f : Flight) → In f (without_flight r s).flights → In f s.flights
  was_flying None f there = there
  was_flying (Some r) f there = (in_kept (λ g. not (g.arrival == r)) f s.flights there).0

  from_tried : (r : Option ℕ) (answer : Attempt) (f : Flight) → In f (with_tried r answer s).flights → In f s.flights
  from_tried r (Yes n) f there = was_flying r f (subst (λ fs. In f fs) (flights_child (child_tried s.flights r) (without_flight r s)) there)
  from_tried r No f there = was_flying r f there
  from_tried r Raised f there = was_flying r f there
  from_tried r ParentDying f there = was_flying r f there

  from_incarnated : (c : Config) (begun : Stage) (answer : Incarnation) (f : Flight) → In f (with_incarnated c begun answer s).flights → In f s.flights
  from_incarnated c (Incarnating r n) (Fresh m) f there = there
  from_incarnated c (Incarnating r n) (Named name) f there = there
  from_incarnated c (Incarnating r n) Double f there = was_flying (Some r) f there
  from_incarnated c (Incarnating r n) (ForwardTo endpoint) f there = was_flying (Some r) f there
  from_incarnated c (Incarnating r n) (Raise exception) f there = was_flying (Some r) f there
  from_incarnated c Free answer f there = there
  from_incarnated c (Trying r) answer f there = there
  from_incarnated c (Serving r) answer f there = there
  from_incarnated c (Ran r) answer f there = there
  from_incarnated c (Removing n) answer f there = there

  flights_etherealized : (begun : Stage) → (with_etherealized begun s).flights ≡ s.flights
  flights_etherealized Free = refl
  flights_etherealized (Trying r) = refl
  flights_etherealized (Incarnating r n) = refl
  flights_etherealized (Serving r) = refl
  flights_etherealized (Ran r) = refl
  flights_etherealized (Removing n) = refl

  pub flight_from : (c : Config) (run : ℕ) (e : Entry) (f : Flight) → In f (changed c run past e s).flights → FlightFrom past e s f
  flight_from c run (Entered conn) f there = flew there
  flight_from c run (Arrive conn size call) f there = flew there
  flight_from c run (Filled conn size) f there = flew there
  flight_from c run (Left conn) f there = flew there
  flight_from c run (Collect conn a) f there = flew there
  flight_from c run (Admit w r v) f there =
      from_admitted w r v (key_in (call_of past r)) f refl
      (subst (λ fs. In f fs) (flights_command c run (command_done past (Admit w r v)) (with_admitted r (key_in (call_of past r)) v s)) there)
  flight_from c run (Tried w answer) f there = flew (from_tried (arrival_in (stage past w)) answer f there)
  flight_from c run (Incarnated w answer) f there = flew (from_incarnated c (stage past w) answer f there)
  flight_from c run (Run w) f there = flew there
  flight_from c run (Done w) f there = flew (was_flying (arrival_in (stage past w)) f there)
  flight_from c run (TakeOut w n etherealize) f there = flew there
  flight_from c run (Etherealized w cleanup remaining) f there = flew (subst (λ fs. In f fs) (flights_etherealized (stage past w)) there)
  flight_from c run (Abandon w) f there = flew there

-- What is in flight stays so, or the entry frees what it holds.
use Rattle.std.specs.Prelude.{◌≡◌, ℕ, Bool, true, false, ◌&&◌, ◌==◌, List, [], ◌∷◌, find, Option, Some, None, option_map, option_and_then, ◌⊎◌, refl}
use Rattle.std.proofs.Common.{inl, inr, sym, subst, ap, ◌∙◌}
use Rattle.std.proofs.lemmas.Bool.{true≢false, eqb-true, eq-eqb, cases_eq, and_parts, and_from}
use Rattle.poa_base.specs.declared.Config.{Config}
use Rattle.poa_base.specs.declared.Entry.{Entry}
use Rattle.poa_base.specs.declared.Entry.TheVariants.{Entered, Arrive, Filled, Left, Collect, Admit, Tried, Incarnated, Run, Done, TakeOut, Etherealized, Abandon}
use Rattle.history_standing.specs.declared.flight.Flight.{Flight}
use Rattle.history_standing.specs.declared.activation.Activation.{Activation}
use Rattle.history_standing.specs.declared.activation.Phase.{Phase}
use Rattle.history_standing.specs.declared.stage.Stage.TheVariants.{Incarnating, Ran, Removing}
use Rattle.poa_history.specs.Alone.{IsGivenAlone}
use Rattle.history_standing.specs.Arrivals.{call_of}
use Rattle.poa_history.specs.Bounds.{IsWithinLimits}
use Rattle.history_standing.specs.Changes.{standing, changed, with_admitted}
use Rattle.poa_history.specs.InFlight.{Holds, IsManned}
use Rattle.history_standing.specs.Keys.{key_in}
use Rattle.poa_history.specs.Legal.{MayFollow, IsLegal}
use Rattle.history_standing.specs.Logs.{command_done}
use Rattle.poa_history.specs.Sound.{IsGiven, IsSound}
use Rattle.history_standing.specs.Stages.{stage, arrival_in, is_at}
use Rattle.history_standing.specs.Standings.{Standing, is_running, is_tried}
use Rattle.poa_history.specs.Turns.{flight_of, activation_numbered}
use Rattle.history_standing.specs.Paths.{same_path}
use Rattle.history_standing.specs.Trees.{In}
use Rattle.history_standing.proofs.Finding.{find_in, find_none}
use Rattle.poa_history.proofs.ActivationsFrom.{Brings, Tells}
use Rattle.poa_history.proofs.FlightsFrom.{flights_command}
use Rattle.history_standing.proofs.Members.{some_in, any_in}
use Rattle.poa_history.proofs.LegalSound.{legal_sound}
use Rattle.poa_history.proofs.MannedKept.{all_manned}
use Rattle.poa_history.proofs.StagesFrom.{stays_admitted, stays_incarnated, stays_etherealized, stays_fewer}
use Rattle.poa_history.proofs.TurnTells.{done_is, incarnation_is}
use Rattle.held_queue.specs.Frees.{landing, incarnating, etherealizing, freed_by}

-- a number isn't freed that is given
pub freed_never : {A : Type 0} (n : ℕ) (o : Option ℕ) → is_at n o ≡ false → o ≡ Some n → A
freed_never n o other is = absurd (true≢false (sym (ap (is_at n) is ∙ eq-eqb n n refl) ∙ other))

module _ (c : Config) (run : ℕ) (past : List Entry) (manned : IsManned c run past) (sound : IsSound c run (standing c run past)) where
  abbrev s : Standing
  s = standing c run past

  flight_found : (f : Flight) (r : ℕ) → In f s.flights → f.arrival ≡ r → flight_of s r ≡ Some f
  flight_found f r there at =
      elim (find (λ g. g.arrival == r) s.flights) as (λ o. find (λ g. g.arrival == r) s.flights ≡ o → o ≡ Some f) [
        | Some g ↦
            λ found.
            (let is = find_in (λ x. x.arrival == r) g s.flights found in
            ap (λ x. Some x) (manned.flight_alone g f is.0 there (eqb-true g.arrival r is.1 ∙ sym at)))
        | None ↦ λ none. absurd (find_none (λ x. x.arrival == r) f s.flights none there (eq-eqb f.arrival r at))
      ] refl

  activation_found : (a : Activation) (n : ℕ) → In a s.activations → a.number ≡ n → activation_numbered s n ≡ Some a
  activation_found a n there at =
      elim (find (λ b. b.number == n) s.activations) as (λ o. find (λ b. b.number == n) s.activations ≡ o → o ≡ Some a) [
        | Some b ↦
            λ found.
            (let is = find_in (λ x. x.number == n) b s.activations found in
            ap (λ x. Some x) (sound.activation_alone b a is.0 there (eqb-true b.number n is.1 ∙ sym at)))
        | None ↦ λ none. absurd (find_none (λ x. x.number == n) a s.activations none there (eq-eqb a.number n at))
      ] refl

  landed_in : (f : Flight) (r : ℕ) → In f s.flights → f.arrival ≡ r → ((landing s (Some r)).landed ≡ Some f.adapter)
      × ((landing s (Some r)).moved ≡ f.activation)
  landed_in f r there at =
      let found = flight_found f r there at in
      (ap {A = Option Flight} (λ o. option_map (λ g. g.adapter) o) found, ap {A = Option Flight} (λ o. option_and_then (λ g. g.activation) o) found)

  -- the entry ends the flight, and frees what it holds
  abbrev pub IsLanded : Entry → Flight → Type 0
  IsLanded e f = ((freed_by c run past e).landed ≡ Some f.adapter) × ((freed_by c run past e).moved ≡ f.activation)

  module _ (limit : ℕ) where
    pub flies_on : (e : Entry) → MayFollow c run limit past e → (freed_by c run past e).all ≡ false → (f : Flight) → In f s.flights
        → In f (changed c run past e s).flights ⊎ IsLanded e f
    flies_on (Entered conn) may few f there = inl there
    flies_on (Arrive conn size call) may few f there = inl there
    flies_on (Filled conn size) may few f there = inl there
    flies_on (Left conn) may few f there = inl there
    flies_on (Collect conn a) may few f there = inl there
    flies_on (Admit w r v) may few f there =
        inl (subst (λ fs. In f fs) (sym (flights_command c run (command_done past (Admit w r v)) (with_admitted r (key_in (call_of past r)) v s)))
        (stays_admitted s r (key_in (call_of past r)) v f there))
    flies_on (Tried w a) may few f there = absurd (true≢false few)
    flies_on (Incarnated w a) may few f there =
        let it = incarnation_is c run past w a may in
        elim (cases_eq f.arrival it.arrival) [
          | inl same ↦
              inr (subst (λ b. ((incarnating s b).landed ≡ Some f.adapter) × ((incarnating s b).moved ≡ f.activation)) (sym it.begun)
              (landed_in f it.arrival there same))
          | inr other ↦
              inl (stays_incarnated c s (stage past w) a f there
              (λ x at is. (let e : Some x ≡ Some it.arrival = sym at ∙ ap arrival_in it.begun in let q : x ≡ it.arrival = cc in other (is ∙ q))))
        ]
    flies_on (Run w) may few f there = inl there
    flies_on (Done w) may few f there =
        let it = done_is c run past w may in
        elim (cases_eq f.arrival it.0) [
          | inl same ↦
              inr (subst (λ b. ((landing s (arrival_in b)).landed ≡ Some f.adapter) × ((landing s (arrival_in b)).moved ≡ f.activation)) (sym it.1)
              (landed_in f it.0 there same))
          | inr other ↦
              inl (stays_fewer s (arrival_in (stage past w)) f there
              (λ x at is. (let e : Some x ≡ Some it.0 = sym at ∙ ap arrival_in it.1 in let q : x ≡ it.0 = cc in other (is ∙ q))))
        ]
    flies_on (TakeOut w n x) may few f there = inl there
    flies_on (Etherealized w x y) may few f there = inl (stays_etherealized s (stage past w) f there)
    flies_on (Abandon w) may few f there = inl there

    module _ (e : Entry) (may : MayFollow c run limit past e) (few : (freed_by c run past e).all ≡ false) where
      -- what runs in an adapter runs on, unless something in flight there ends
      pub runs_on : (k : ℕ) → is_at k (freed_by c run past e).landed ≡ false → is_running s.flights k ≡ true
          → is_running (changed c run past e s).flights k ≡ true
      runs_on k other running =
          let found = some_in (λ f. (f.adapter == k) && (elim f.child as (λ _. Bool) [ None ↦ true | Some p ↦ false ])) s.flights running in
          let at : found.0.adapter ≡ k =
          eqb-true found.0.adapter k (and_parts (found.0.adapter == k) (elim found.0.child as (λ _. Bool) [ None ↦ true | Some p ↦ false ]) found.2).0 in
          elim (flies_on e may few found.0 found.1) [
            | inl flies ↦
                any_in (λ f. (f.adapter == k) && (elim f.child as (λ _. Bool) [ None ↦ true | Some p ↦ false ])) found.0
                (changed c run past e s).flights flies found.2
            | inr lands ↦ freed_never k (freed_by c run past e).landed other (lands.0 ∙ ap (λ x. Some x) at)
          ]

      -- what is tried is tried on, unless something in flight in its adapter ends
      pub tried_on : (p : List (List ℕ)) (k : ℕ)
          → ((f : Flight) → In f s.flights → (q : List (List ℕ)) → f.child ≡ Some q → same_path q p ≡ true → f.adapter ≡ k)
          → is_at k (freed_by c run past e).landed ≡ false → is_tried s.flights p ≡ true → is_tried (changed c run past e s).flights p ≡ true
      tried_on p k placed other tried =
          let found = some_in (λ f. elim f.child as (λ _. Bool) [ Some q ↦ same_path q p | None ↦ false ]) s.flights tried in
          let at : found.0.adapter ≡ k = by_child found.0 found.1 found.0.child refl found.2 in
          elim (flies_on e may few found.0 found.1) [
            | inl flies ↦
                any_in (λ f. elim f.child as (λ _. Bool) [ Some q ↦ same_path q p | None ↦ false ]) found.0 (changed c run past e s).flights flies found.2
            | inr lands ↦ freed_never k (freed_by c run past e).landed other (lands.0 ∙ ap (λ x. Some x) at)
          ]
        where
          by_child : (f : Flight) → In f s.flights → (o : Option (List (List ℕ))) → f.child ≡ o
              → (elim o as (λ _. Bool) [ Some q ↦ same_path q p | None ↦ false ]) ≡ true → f.adapter ≡ k
          by_child f there (Some q) is passes = placed f there q is passes
          by_child f there None is passes = absurd (let x : false ≡ true = passes in cc)

      -- an incarnation that ends frees its activation and its adapter
      pub brings_moves : (n : ℕ) (phase : Phase) → Brings c run past s e n phase → (freed_by c run past e).moved ≡ Some n
      brings_moves n phase brings =
          let holds = subst (Holds past s) brings.begun (manned.stages brings.worker) in
          let (f, there, at, of_it, request) = holds.1 in
          ap (λ x. (freed_by c run past x).moved) brings.same
          ∙ (ap (λ b. (incarnating s b).moved) brings.begun ∙ ((landed_in f brings.arrival there at).1 ∙ of_it))

      pub brings_changes : (a : Activation) (phase : Phase) → In a s.activations → Brings c run past s e a.number phase
          → (freed_by c run past e).changed ≡ Some a.adapter
      brings_changes a phase there_a brings =
          let holds = subst (Holds past s) brings.begun (manned.stages brings.worker) in
          let (f, there, at, of_it, request) = holds.1 in
          let home = manned.activations f a.number there of_it in
          let same : home.0 ≡ a = sound.activation_alone home.0 a home.1 there_a home.2 in
          ap (λ x. (freed_by c run past x).changed) brings.same
          ∙ (ap (λ b. (incarnating s b).changed) brings.begun
          ∙ ((landed_in f brings.arrival there at).0 ∙ ap (λ x. Some x) (sym home.3 ∙ ap (λ x. x.adapter) same)))

      -- an etherealization that ends frees its activation and its adapter
      pub tells_moves : (n : ℕ) → Tells c run past s e n → (freed_by c run past e).moved ≡ Some n
      tells_moves n tells = ap (λ x. (freed_by c run past x).moved) tells.3 ∙ ap (λ b. (etherealizing s b).moved) tells.4

      pub tells_changes : (a : Activation) → In a s.activations → Tells c run past s e a.number → (freed_by c run past e).changed ≡ Some a.adapter
      tells_changes a there tells =
          ap (λ x. (freed_by c run past x).changed) tells.3
          ∙ (ap (λ b. (etherealizing s b).changed) tells.4
          ∙ ap {A = Option Activation} (λ o. option_map (λ b. b.adapter) o) (activation_found a a.number there refl))

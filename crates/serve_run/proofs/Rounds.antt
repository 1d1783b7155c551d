-- The rounds of a door: each asks it once, and looks at the phase.
use Rattle.std.proofs.Common.{◌≡◌, ◌≢◌, ℕ, List, [], ◌∷◌, Option, Some, None, refl, sym, ap, ◌∙◌, subst, arith}
use Rattle.outside.specs.Accepting.{Standing}
use Rattle.outside.specs.Link.{Shown}
use Rattle.poa_base.specs.declared.Entry.{Entry}
use Rattle.poa_shared.specs.Events.{Event}
use Rattle.poa_history.specs.declared.givens.Givens.{Givens}
use Rattle.poa_history.specs.Phases.{phase_of}
use Rattle.poa_history.specs.declared.phase.Phase.{Phase}
use Rattle.poa_history.specs.declared.phase.Phase.TheVariants.{Running, Full, Shut, Abandoned}
use Rattle.poa_history.specs.declared.full.Full.{Full as FullNumbers}
use Rattle.seat_lock.specs.declared.view.View.{View}
use Rattle.session_laws.specs.declared.peer.Peer.{Peer}
use Rattle.serve_run.specs.Doors.{AsReceived, Attending, DoorServed, ending_of, stop_of}
use Rattle.serve_run.specs.Refusals.{earlier, least_refusal, noted, refusal_of}
use Rattle.serve_run.specs.Visits.{Visit}
use Rattle.serve_run.specs.declared.ran.PieceEnd.{PieceEnd}
use Rattle.serve_run.specs.declared.ran.PieceEnd.TheVariants.{DoorEnd, DoorFailed, NotRunning}
use Rattle.serve_run.specs.declared.received.Received.{Received}
use Rattle.serve_run.specs.declared.received.Received.TheVariants as received
use Rattle.serve_run.proofs.Looking.{attends_looked}
use Rattle.serve_run.proofs.Passing.{passes_none}
use Rattle.serve_run.proofs.Served.{attends_none}

-- a run that isn't running stops a door
stopped : (phase : Phase) (end : PieceEnd) → stop_of phase ≡ Some end → (NotRunning phase ≡ end) × (phase ≢ Running)
stopped Running end stops = absurd (let e : None ≡ Some end = stops in cc)
stopped Full end stops = ((let e : Some (NotRunning Full) ≡ Some end = stops in cc), λ (q : Full ≡ Running). cc)
stopped Shut end stops = ((let e : Some (NotRunning Shut) ≡ Some end = stops in cc), λ (q : Shut ≡ Running). cc)
stopped (Abandoned w) end stops = ((let e : Some (NotRunning (Abandoned w)) ≡ Some end = stops in cc), λ (q : Abandoned w ≡ Running). cc)

module _ {A L : Type 0} (g : Givens) (peer : Peer) (shown : L → Shown) (standing : A → Option (Standing L)) (faults ends : A → ℕ) (first : View Givens Entry)
    (closed : A) where
  abbrev AttendsTo : List (Visit L) → View Givens Entry → A → Type 0
  AttendsTo visits v door = Attending {A = A} {L = L} g peer shown standing faults ends first closed visits v door

  -- so far these links came and went, and this is the least refusal
  abbrev pub Rounds : View Givens Entry → A → Option FullNumbers → Type 0
  Rounds v door refused = (visits : List (Visit L)) × AttendsTo visits v door × (refused ≡ least_refusal visits)

  pub rounds_none : first.mine ≡ [] → Rounds first closed None
  rounds_none none = ([], record { attends = attends_none g peer shown first none; passes = passes_none (standing closed); steady = refl; later = omega arith }, refl)

  -- the door is asked once more, and goes on
  pub rounds_more : (v w : View Givens Entry) (before after : A) (refused refused' : Option FullNumbers) (r : Received) → Rounds v before refused
      → ((visits : List (Visit L)) → AttendsTo visits v before → AsReceived {A = A} {L = L} g peer shown standing faults ends first closed visits r w after)
      → refused' ≡ noted refused r → ending_of r ≡ None → Rounds w after refused'
  rounds_more v w before after refused refused' (received.Served session) so_far more is none =
      (let it = more so_far.0 so_far.1 in
      (it.0 ∷ so_far.0, it.2, is ∙ (ap (λ o. earlier o (refusal_of session)) so_far.2 ∙ ap (λ s. earlier (least_refusal so_far.0) (refusal_of s)) (sym it.1))))
  rounds_more v w before after refused refused' received.Nothing so_far more is none = (so_far.0, more so_far.0 so_far.1, is ∙ so_far.2)
  rounds_more v w before after refused refused' received.End so_far more is none = absurd (let e : Some DoorEnd ≡ None = none in cc)
  rounds_more v w before after refused refused' received.Failed so_far more is none = absurd (let e : Some DoorFailed ≡ None = none in cc)

  -- or it ends
  pub rounds_end : (v w : View Givens Entry) (before after : A) (refused refused' : Option FullNumbers) (r : Received) (end : PieceEnd)
      → Rounds v before refused
      → ((visits : List (Visit L)) → AttendsTo visits v before → AsReceived {A = A} {L = L} g peer shown standing faults ends first closed visits r w after)
      → refused' ≡ noted refused r → ending_of r ≡ Some end → DoorServed {A = A} {L = L} g peer shown standing faults ends first w closed after refused' end
  rounds_end v w before after refused refused' (received.Served session) end so_far more is at = absurd (let e : None ≡ Some end = at in cc)
  rounds_end v w before after refused refused' received.Nothing end so_far more is at = absurd (let e : None ≡ Some end = at in cc)
  rounds_end v w before after refused refused' received.End end so_far more is at =
      (let it = more so_far.0 so_far.1 in
      let same : DoorEnd ≡ end = (let e : Some DoorEnd ≡ Some end = at in cc) in
      subst (DoorServed {A = A} {L = L} g peer shown standing faults ends first w closed after refused') same
      (record { visits = so_far.0; attends = it.0.attends; passes = it.0.passes; refused_is = is ∙ so_far.2; cause = (it.1, it.0.steady) }))
  rounds_end v w before after refused refused' received.Failed end so_far more is at =
      (let it = more so_far.0 so_far.1 in
      let same : DoorFailed ≡ end = (let e : Some DoorFailed ≡ Some end = at in cc) in
      subst (DoorServed {A = A} {L = L} g peer shown standing faults ends first w closed after refused') same
      (record { visits = so_far.0; attends = it.0; passes = it.1; refused_is = is ∙ so_far.2; cause = it.2 }))

  -- a look at the phase
  module _ (v w : View Givens Entry) (door : A) (refused : Option FullNumbers) (so_far : Rounds v door refused) (given : first.givens ≡ Some g) (phase : Phase)
      (looked : Event (λ old new. (new ≡ old) × (phase ≡ phase_of old.history)) v w) where
    pub rounds_looked : Rounds w door refused
    rounds_looked =
        let event = looked g (so_far.1.attends.given ∙ given) in (
          so_far.0,
          record {
            attends = attends_looked g v w event.0 event.1 (ap (λ l. l.history) event.2.0) peer shown so_far.0 first so_far.1.attends;
            passes = so_far.1.passes;
            steady = so_far.1.steady;
            later = so_far.1.later;
          },
          so_far.2,
        )

    pub rounds_stop : (end : PieceEnd) → stop_of phase ≡ Some end → DoorServed {A = A} {L = L} g peer shown standing faults ends first w closed door refused end
    rounds_stop end stops =
        let event = looked g (so_far.1.attends.given ∙ given) in
        let now = rounds_looked in
        let by = stopped phase end stops in
        subst (DoorServed {A = A} {L = L} g peer shown standing faults ends first w closed door refused) by.0 (record {
          visits = now.0;
          attends = now.1.attends;
          passes = now.1.passes;
          refused_is = now.2;
          cause = (event.2.1 ∙ ap phase_of (sym (ap (λ l. l.history) event.2.0)), by.1, now.1.steady);
        })

-- What an entry does to the stages of workers, to what is admitted and to what is in flight.
use Rattle.std.specs.Prelude.{◌≡◌, ℕ, true, false, not, ◌==◌, if◌then◌else◌, List, ◌∷◌, map, length, Option, Some, None, is_none, ◌⊎◌, refl}
use Rattle.std.proofs.Common.{inl, inr, sym, subst, ap, ap₂, ◌∙◌}
use Rattle.std.proofs.lemmas.Bool.{cases_Bool, cond_both, true≢false, false_from_ne_true, eqb-true, eq-eqb}
use Rattle.poa_base.specs.declared.Config.{Config}
use Rattle.poa_base.specs.declared.Key.{Key}
use Rattle.poa_base.specs.declared.Verdict.{Verdict}
use Rattle.poa_base.specs.declared.Verdict.TheVariants.{Serve, Preset, Locator, Incarnate, Try, Refuse, Forward, Addressing, Here, Unknown, Answer, Wait}
use Rattle.poa_base.specs.declared.Entry.{Entry}
use Rattle.poa_base.specs.declared.Entry.TheVariants.{Entered, Arrive, Filled, Left, Collect, Admit, Tried, Incarnated, Run, Done, TakeOut, Etherealized, Abandon}
use Rattle.poa_base.specs.declared.Attempt.{Attempt}
use Rattle.poa_base.specs.declared.Attempt.TheVariants.{Yes, No, Raised, Dying as ParentDying}
use Rattle.poa_base.specs.declared.Incarnation.{Incarnation}
use Rattle.poa_base.specs.declared.Incarnation.TheVariants.{Fresh, Named, Double, Forward as ForwardTo, Raise}
use Rattle.history_standing.specs.declared.flight.Flight.{Flight}
use Rattle.history_standing.specs.declared.stage.Stage.{Stage}
use Rattle.history_standing.specs.declared.stage.Stage.TheVariants.{Free, Trying, Incarnating, Serving, Ran, Removing}
use Rattle.history_standing.specs.Arrivals.{call_of}
use Rattle.history_standing.specs.Stages.{brings, begun_by, incarnated, ran, stage, arrival_in, is_at, admitted}
use Rattle.history_standing.specs.Standings.{Standing}
use Rattle.history_standing.specs.Walks.{walk, adapter_met, child_met}
use Rattle.history_standing.specs.Trees.{In}
use Rattle.history_standing.specs.Keys.{key_in}
use Rattle.history_standing.specs.Logs.{command_done}
use Rattle.history_standing.specs.Changes.{standing, changed, with_admitted, without_flight, child_tried, with_tried, at_number, come_to, with_incarnated, with_etherealized}
use Rattle.poa_history.specs.Legal.{MayFollow}
use Rattle.poa_history.specs.InFlight.{Holds}
use Rattle.history_standing.proofs.Members.{in_front, in_back, in_kept, kept_in}
use Rattle.poa_history.proofs.TurnTells.{admission_is, trial_is, incarnation_is, run_is, takeout_is, removal_is}
use Rattle.poa_history.proofs.FlightsFrom.{flight_for, flights_command}
use Rattle.poa_history.proofs.ActivationsFrom.{phase_by}
use Rattle.poa_history.proofs.CommandAnswers.{is_begin}
use Rattle.poa_history.proofs.Untouched.{flights_child}

-- the worker that makes the entry
abbrev pub maker : Entry → Option ℕ
maker (Admit w r v) = Some w
maker (Tried w a) = Some w
maker (Incarnated w a) = Some w
maker (Run w) = Some w
maker (Done w) = Some w
maker (TakeOut w n x) = Some w
maker (Etherealized w x y) = Some w
maker e = None

-- the entry of another worker leaves the stage
pub stage_other : (e : Entry) (past : List Entry) (w : ℕ) → (maker e ≡ Some w → ⊥) → stage (e ∷ past) w ≡ stage past w
stage_other (Entered conn) past w other = refl
stage_other (Arrive conn size call) past w other = refl
stage_other (Filled conn size) past w other = refl
stage_other (Left conn) past w other = refl
stage_other (Collect conn a) past w other = refl
stage_other (Admit v r u) past w other =
    cond_both (v == w) (begun_by r u) (stage past w) (λ x. x ≡ stage past w) (λ same. absurd (other (ap (λ x. Some x) (eqb-true v w same)))) (λ _. refl)
stage_other (Tried v a) past w other =
    cond_both (v == w) Free (stage past w) (λ x. x ≡ stage past w) (λ same. absurd (other (ap (λ x. Some x) (eqb-true v w same)))) (λ _. refl)
stage_other (Incarnated v a) past w other =
    cond_both (v == w) (incarnated a (stage past w)) (stage past w) (λ x. x ≡ stage past w) (λ same. absurd (other (ap (λ x. Some x) (eqb-true v w same))))
    (λ _. refl)
stage_other (Run v) past w other =
    cond_both (v == w) (ran (stage past w)) (stage past w) (λ x. x ≡ stage past w) (λ same. absurd (other (ap (λ x. Some x) (eqb-true v w same)))) (λ _. refl)
stage_other (Done v) past w other =
    cond_both (v == w) Free (stage past w) (λ x. x ≡ stage past w) (λ same. absurd (other (ap (λ x. Some x) (eqb-true v w same)))) (λ _. refl)
stage_other (TakeOut v n true) past w other =
    cond_both (v == w) (Removing n) (stage past w) (λ x. x ≡ stage past w) (λ same. absurd (other (ap (λ x. Some x) (eqb-true v w same)))) (λ _. refl)
stage_other (TakeOut v n false) past w other =
    cond_both (v == w) Free (stage past w) (λ x. x ≡ stage past w) (λ same. absurd (other (ap (λ x. Some x) (eqb-true v w same)))) (λ _. refl)
stage_other (Etherealized v x y) past w other =
    cond_both (v == w) Free (stage past w) (λ x. x ≡ stage past w) (λ same. absurd (other (ap (λ x. Some x) (eqb-true v w same)))) (λ _. refl)
stage_other (Abandon v) past w other = refl

pub own : {A : Type 0} (w : ℕ) (x y : A) → (if w == w then x else y) ≡ x
own w x y = ap (λ b. if b then x else y) (eq-eqb w w refl)

-- an arrival that a worker is at is admitted
pub held_admitted : (h : List Entry) (s : Standing) (begun : Stage) (r : ℕ) → Holds h s begun → arrival_in begun ≡ Some r → (v : Verdict)
    × (admitted h r ≡ Some v)
held_admitted h s Free r holds at = absurd (let e : None ≡ Some r = at in cc)
held_admitted h s (Trying q) r holds at = (let e : Some q ≡ Some r = at in let same : q ≡ r = cc in (Try, ap (admitted h) (sym same) ∙ holds.0))
held_admitted h s (Incarnating q n) r holds at = (let e : Some q ≡ Some r = at in let same : q ≡ r = cc in (Incarnate n, ap (admitted h) (sym same) ∙ holds.0))
held_admitted h s (Serving q) r holds at = (let e : Some q ≡ Some r = at in let same : q ≡ r = cc in (holds.verdict, ap (admitted h) (sym same) ∙ holds.by))
held_admitted h s (Ran q) r holds at = (let e : Some q ≡ Some r = at in let same : q ≡ r = cc in (holds.verdict, ap (admitted h) (sym same) ∙ holds.by))
held_admitted h s (Removing n) r holds at = absurd (let e : None ≡ Some r = at in cc)

-- a flight that no entry ends stays
pub not_at : (q : ℕ) (f : Flight) → (f.arrival ≡ q → ⊥) → not (f.arrival == q) ≡ true
not_at q f other = ap not (false_from_ne_true (f.arrival == q) (λ same. other (eqb-true f.arrival q same)))

pub stays_fewer : (s : Standing) (q : Option ℕ) (f : Flight) → In f s.flights → ((x : ℕ) → q ≡ Some x → f.arrival ≡ x → ⊥) → In f (without_flight q s).flights
stays_fewer s None f there other = there
stays_fewer s (Some q) f there other = kept_in (λ g. not (g.arrival == q)) f s.flights there (not_at q f (other q refl))

pub gone_fewer : (s : Standing) (q : ℕ) (f : Flight) → In f (without_flight (Some q) s).flights → f.arrival ≡ q → ⊥
gone_fewer s q f there at = true≢false (sym (in_kept (λ g. not (g.arrival == q)) f s.flights there).1 ∙ ap not (eq-eqb f.arrival q at))

pub flights_tried : (s : Standing) (q : Option ℕ) (answer : Attempt) → (with_tried q answer s).flights ≡ (without_flight q s).flights
flights_tried s q (Yes n) = flights_child (child_tried s.flights q) (without_flight q s)
flights_tried s q No = refl
flights_tried s q Raised = refl
flights_tried s q ParentDying = refl

pub stays_incarnated : (c : Config) (s : Standing) (begun : Stage) (answer : Incarnation) (f : Flight) → In f s.flights
    → ((x : ℕ) → arrival_in begun ≡ Some x → f.arrival ≡ x → ⊥) → In f (with_incarnated c begun answer s).flights
stays_incarnated c s (Incarnating r n) (Fresh m) f there other = there
stays_incarnated c s (Incarnating r n) (Named name) f there other = there
stays_incarnated c s (Incarnating r n) Double f there other = kept_in (λ g. not (g.arrival == r)) f s.flights there (not_at r f (other r refl))
stays_incarnated c s (Incarnating r n) (ForwardTo x) f there other = kept_in (λ g. not (g.arrival == r)) f s.flights there (not_at r f (other r refl))
stays_incarnated c s (Incarnating r n) (Raise x) f there other = kept_in (λ g. not (g.arrival == r)) f s.flights there (not_at r f (other r refl))
stays_incarnated c s Free answer f there other = there
stays_incarnated c s (Trying r) answer f there other = there
stays_incarnated c s (Serving r) answer f there other = there
stays_incarnated c s (Ran r) answer f there other = there
stays_incarnated c s (Removing n) answer f there other = there

pub stays_etherealized : (s : Standing) (begun : Stage) (f : Flight) → In f s.flights → In f (with_etherealized begun s).flights
stays_etherealized s Free f there = there
stays_etherealized s (Trying r) f there = there
stays_etherealized s (Incarnating r n) f there = there
stays_etherealized s (Serving r) f there = there
stays_etherealized s (Ran r) f there = there
stays_etherealized s (Removing n) f there = there

pub stays_admitted : (s : Standing) (r : ℕ) (key : Option Key) (v : Verdict) (f : Flight) → In f s.flights → In f (with_admitted r key v s).flights
stays_admitted s r None v f there = there
stays_admitted s r (Some key) (Serve n) f there = in_front f _ s.flights there
stays_admitted s r (Some key) (Preset n) f there = in_front f _ s.flights there
stays_admitted s r (Some key) (Locator n) f there = in_front f _ s.flights there
stays_admitted s r (Some key) (Incarnate n) f there = in_front f _ s.flights there
stays_admitted s r (Some key) Try f there = in_front f _ s.flights there
stays_admitted s r (Some key) (Refuse x) f there = there
stays_admitted s r (Some key) (Forward x) f there = there
stays_admitted s r (Some key) Addressing f there = there
stays_admitted s r (Some key) Here f there = there
stays_admitted s r (Some key) Unknown f there = there
stays_admitted s r (Some key) (Answer x) f there = there
stays_admitted s r (Some key) Wait f there = there

pub begun_flight : (s : Standing) (r : ℕ) (key : Key) (v : Verdict) (f : Flight) → flight_for s r key v ≡ Some f → In f (with_admitted r (Some key) v s).flights
begun_flight s r key (Serve n) f is =
    (let e : Some (record { arrival = r; adapter = adapter_met (walk s.nodes key.path); activation = Some n; child = None }) ≡ Some f = is in
    let same : record { arrival = r; adapter = adapter_met (walk s.nodes key.path); activation = Some n; child = None } ≡ f = cc in
    subst (λ g. In g (with_admitted r (Some key) (Serve n) s).flights) same (in_back _ s.flights))
begun_flight s r key (Preset n) f is =
    (let e : Some (record { arrival = r; adapter = adapter_met (walk s.nodes key.path); activation = None; child = None }) ≡ Some f = is in
    let same : record { arrival = r; adapter = adapter_met (walk s.nodes key.path); activation = None; child = None } ≡ f = cc in
    subst (λ g. In g (with_admitted r (Some key) (Preset n) s).flights) same (in_back _ s.flights))
begun_flight s r key (Locator n) f is =
    (let e : Some (record { arrival = r; adapter = adapter_met (walk s.nodes key.path); activation = None; child = None }) ≡ Some f = is in
    let same : record { arrival = r; adapter = adapter_met (walk s.nodes key.path); activation = None; child = None } ≡ f = cc in
    subst (λ g. In g (with_admitted r (Some key) (Locator n) s).flights) same (in_back _ s.flights))
begun_flight s r key (Incarnate n) f is =
    (let e : Some (record { arrival = r; adapter = adapter_met (walk s.nodes key.path); activation = Some (length s.activations); child = None }) ≡ Some f =
    is in let same : record { arrival = r; adapter = adapter_met (walk s.nodes key.path); activation = Some (length s.activations); child = None } ≡ f = cc in
    subst (λ g. In g (with_admitted r (Some key) (Incarnate n) s).flights) same (in_back _ s.flights))
begun_flight s r key Try f is =
    (let e : Some
    (record { arrival = r; adapter = adapter_met (walk s.nodes key.path); activation = None; child = Some (child_met (walk s.nodes key.path) key.path) }) ≡ Some
    f = is in
    let same : record
    { arrival = r; adapter = adapter_met (walk s.nodes key.path); activation = None; child = Some (child_met (walk s.nodes key.path) key.path) } ≡ f = cc in
    subst (λ g. In g (with_admitted r (Some key) Try s).flights) same (in_back _ s.flights))
begun_flight s r key (Refuse x) f is = absurd (let e : None ≡ Some f = is in cc)
begun_flight s r key (Forward x) f is = absurd (let e : None ≡ Some f = is in cc)
begun_flight s r key Addressing f is = absurd (let e : None ≡ Some f = is in cc)
begun_flight s r key Here f is = absurd (let e : None ≡ Some f = is in cc)
begun_flight s r key Unknown f is = absurd (let e : None ≡ Some f = is in cc)
begun_flight s r key (Answer x) f is = absurd (let e : None ≡ Some f = is in cc)
begun_flight s r key Wait f is = absurd (let e : None ≡ Some f = is in cc)

-- what a flight that an Admit begins says
pub flight_says : (s : Standing) (r : ℕ) (key : Key) (v : Verdict) (f : Flight) → flight_for s r key v ≡ Some f → (f.arrival ≡ r) × (is_begin v ≡ true)
    × (arrival_in (begun_by r v) ≡ Some r)
flight_says s r key (Serve n) f is = (ap (λ o. elim o [ Some g ↦ g.arrival | None ↦ r ]) (sym is), refl, refl)
flight_says s r key (Preset n) f is = (ap (λ o. elim o [ Some g ↦ g.arrival | None ↦ r ]) (sym is), refl, refl)
flight_says s r key (Locator n) f is = (ap (λ o. elim o [ Some g ↦ g.arrival | None ↦ r ]) (sym is), refl, refl)
flight_says s r key (Incarnate n) f is = (ap (λ o. elim o [ Some g ↦ g.arrival | None ↦ r ]) (sym is), refl, refl)
flight_says s r key Try f is = (ap (λ o. elim o [ Some g ↦ g.arrival | None ↦ r ]) (sym is), refl, refl)
flight_says s r key (Refuse x) f is = absurd (let e : None ≡ Some f = is in cc)
flight_says s r key (Forward x) f is = absurd (let e : None ≡ Some f = is in cc)
flight_says s r key Addressing f is = absurd (let e : None ≡ Some f = is in cc)
flight_says s r key Here f is = absurd (let e : None ≡ Some f = is in cc)
flight_says s r key Unknown f is = absurd (let e : None ≡ Some f = is in cc)
flight_says s r key (Answer x) f is = absurd (let e : None ≡ Some f = is in cc)
flight_says s r key Wait f is = absurd (let e : None ≡ Some f = is in cc)

-- which verdict begins a stage at an arrival
pub begun_at : (r q : ℕ) (v : Verdict) → arrival_in (begun_by r v) ≡ Some q → (is_begin v ≡ true) × (r ≡ q)
begun_at r q (Serve n) at = (refl, (let e : Some r ≡ Some q = at in cc))
begun_at r q (Preset n) at = (refl, (let e : Some r ≡ Some q = at in cc))
begun_at r q (Locator n) at = (refl, (let e : Some r ≡ Some q = at in cc))
begun_at r q (Incarnate n) at = (refl, (let e : Some r ≡ Some q = at in cc))
begun_at r q Try at = (refl, (let e : Some r ≡ Some q = at in cc))
begun_at r q (Refuse x) at = absurd (let e : None ≡ Some q = at in cc)
begun_at r q (Forward x) at = absurd (let e : None ≡ Some q = at in cc)
begun_at r q Addressing at = absurd (let e : None ≡ Some q = at in cc)
begun_at r q Here at = absurd (let e : None ≡ Some q = at in cc)
begun_at r q Unknown at = absurd (let e : None ≡ Some q = at in cc)
begun_at r q (Answer x) at = absurd (let e : None ≡ Some q = at in cc)
begun_at r q Wait at = absurd (let e : None ≡ Some q = at in cc)

pub begun_never : (r n : ℕ) (v : Verdict) → begun_by r v ≡ Removing n → ⊥
begun_never r n (Serve m) at = (let e : Serving r ≡ Removing n = at in cc)
begun_never r n (Preset m) at = (let e : Serving r ≡ Removing n = at in cc)
begun_never r n (Locator m) at = (let e : Serving r ≡ Removing n = at in cc)
begun_never r n (Incarnate m) at = (let e : Incarnating r m ≡ Removing n = at in cc)
begun_never r n Try at = (let e : Trying r ≡ Removing n = at in cc)
begun_never r n (Refuse x) at = (let e : Free ≡ Removing n = at in cc)
begun_never r n (Forward x) at = (let e : Free ≡ Removing n = at in cc)
begun_never r n Addressing at = (let e : Free ≡ Removing n = at in cc)
begun_never r n Here at = (let e : Free ≡ Removing n = at in cc)
begun_never r n Unknown at = (let e : Free ≡ Removing n = at in cc)
begun_never r n (Answer x) at = (let e : Free ≡ Removing n = at in cc)
begun_never r n Wait at = (let e : Free ≡ Removing n = at in cc)

pub begun_only : (r q n : ℕ) (v : Verdict) → begun_by r v ≡ Incarnating q n → v ≡ Incarnate n
begun_only r q n (Serve m) at = absurd (let e : Serving r ≡ Incarnating q n = at in cc)
begun_only r q n (Preset m) at = absurd (let e : Serving r ≡ Incarnating q n = at in cc)
begun_only r q n (Locator m) at = absurd (let e : Serving r ≡ Incarnating q n = at in cc)
begun_only r q n (Incarnate m) at = (let e : Incarnating r m ≡ Incarnating q n = at in cc)
begun_only r q n Try at = absurd (let e : Trying r ≡ Incarnating q n = at in cc)
begun_only r q n (Refuse x) at = absurd (let e : Free ≡ Incarnating q n = at in cc)
begun_only r q n (Forward x) at = absurd (let e : Free ≡ Incarnating q n = at in cc)
begun_only r q n Addressing at = absurd (let e : Free ≡ Incarnating q n = at in cc)
begun_only r q n Here at = absurd (let e : Free ≡ Incarnating q n = at in cc)
begun_only r q n Unknown at = absurd (let e : Free ≡ Incarnating q n = at in cc)
begun_only r q n (Answer x) at = absurd (let e : Free ≡ Incarnating q n = at in cc)
begun_only r q n Wait at = absurd (let e : Free ≡ Incarnating q n = at in cc)

-- the stages behind an incarnation and a run
pub incarnated_at : (a : Incarnation) (b : Stage) (r : ℕ) → arrival_in (incarnated a b) ≡ Some r → arrival_in b ≡ Some r
incarnated_at a Free r at = at
incarnated_at a (Trying q) r at = absurd (let e : None ≡ Some r = at in cc)
incarnated_at a (Incarnating q n) r at =
    cond_both (brings a) (Serving q) Free (λ x. arrival_in x ≡ Some r → Some q ≡ Some r) (λ _ is. is) (λ _ is. absurd (let e : None ≡ Some r = is in cc)) at
incarnated_at a (Serving q) r at = absurd (let e : None ≡ Some r = at in cc)
incarnated_at a (Ran q) r at = absurd (let e : None ≡ Some r = at in cc)
incarnated_at a (Removing n) r at = at

pub incarnated_never : (a : Incarnation) (b : Stage) (x : Stage) → ((q : ℕ) → Serving q ≡ x → ⊥) → (Free ≡ x → ⊥) → incarnated a b ≡ x → ⊥
incarnated_never a Free x no_serving no_free at = no_free at
incarnated_never a (Trying q) x no_serving no_free at = no_free at
incarnated_never a (Incarnating q n) x no_serving no_free at = cond_both (brings a) (Serving q) Free (λ y. y ≡ x → ⊥) (λ _. no_serving q) (λ _. no_free) at
incarnated_never a (Serving q) x no_serving no_free at = no_free at
incarnated_never a (Ran q) x no_serving no_free at = no_free at
incarnated_never a (Removing n) x no_serving no_free at = no_free at

pub ran_at : (b : Stage) (r : ℕ) → arrival_in (ran b) ≡ Some r → arrival_in b ≡ Some r
ran_at (Serving q) r at = at
ran_at Free r at = at
ran_at (Trying q) r at = absurd (let e : None ≡ Some r = at in cc)
ran_at (Incarnating q n) r at = absurd (let e : None ≡ Some r = at in cc)
ran_at (Ran q) r at = absurd (let e : None ≡ Some r = at in cc)
ran_at (Removing n) r at = at

pub ran_never : (b : Stage) (x : Stage) → ((q : ℕ) → Ran q ≡ x → ⊥) → (Free ≡ x → ⊥) → ran b ≡ x → ⊥
ran_never (Serving q) x no_ran no_free at = no_ran q at
ran_never Free x no_ran no_free at = no_free at
ran_never (Trying q) x no_ran no_free at = no_free at
ran_never (Incarnating q n) x no_ran no_free at = no_free at
ran_never (Ran q) x no_ran no_free at = no_free at
ran_never (Removing n) x no_ran no_free at = no_free at

-- where a worker is at an arrival, or at a removal, after an entry, it was so or the entry begins it
pub arrival_before : (e : Entry) (past : List Entry) (w r : ℕ) → arrival_in (stage (e ∷ past) w) ≡ Some r → (arrival_in (stage past w) ≡ Some r)
    ⊎ ((v : Verdict) × (e ≡ Admit w r v) × (is_begin v ≡ true))
arrival_before (Entered conn) past w r at = inl at
arrival_before (Arrive conn size call) past w r at = inl at
arrival_before (Filled conn size) past w r at = inl at
arrival_before (Left conn) past w r at = inl at
arrival_before (Collect conn a) past w r at = inl at
arrival_before (Admit v q u) past w r at =
    cond_both (v == w) (begun_by q u) (stage past w)
    (λ x. arrival_in x ≡ Some r → (arrival_in (stage past w) ≡ Some r) ⊎ ((u' : Verdict) × (Admit v q u ≡ Admit w r u') × (is_begin u' ≡ true)))
    (λ same is. (let told = begun_at q r u is in inr (u, ap₂ (λ x y. Admit x y u) (eqb-true v w same) told.1, told.0))) (λ _ is. inl is) at
arrival_before (Tried v a) past w r at =
    cond_both (v == w) Free (stage past w)
    (λ x. arrival_in x ≡ Some r → (arrival_in (stage past w) ≡ Some r) ⊎ ((u : Verdict) × (Tried v a ≡ Admit w r u) × (is_begin u ≡ true)))
    (λ _ is. absurd (let f : None ≡ Some r = is in cc)) (λ _ is. inl is) at
arrival_before (Incarnated v a) past w r at =
    cond_both (v == w) (incarnated a (stage past w)) (stage past w)
    (λ x. arrival_in x ≡ Some r → (arrival_in (stage past w) ≡ Some r) ⊎ ((u : Verdict) × (Incarnated v a ≡ Admit w r u) × (is_begin u ≡ true)))
    (λ _ is. inl (incarnated_at a (stage past w) r is)) (λ _ is. inl is) at
arrival_before (Run v) past w r at =
    cond_both (v == w) (ran (stage past w)) (stage past w)
    (λ x. arrival_in x ≡ Some r → (arrival_in (stage past w) ≡ Some r) ⊎ ((u : Verdict) × (Run v ≡ Admit w r u) × (is_begin u ≡ true)))
    (λ _ is. inl (ran_at (stage past w) r is)) (λ _ is. inl is) at
arrival_before (Done v) past w r at =
    cond_both (v == w) Free (stage past w)
    (λ x. arrival_in x ≡ Some r → (arrival_in (stage past w) ≡ Some r) ⊎ ((u : Verdict) × (Done v ≡ Admit w r u) × (is_begin u ≡ true)))
    (λ _ is. absurd (let f : None ≡ Some r = is in cc)) (λ _ is. inl is) at
arrival_before (TakeOut v n true) past w r at =
    cond_both (v == w) (Removing n) (stage past w)
    (λ x. arrival_in x ≡ Some r → (arrival_in (stage past w) ≡ Some r) ⊎ ((u : Verdict) × (TakeOut v n true ≡ Admit w r u) × (is_begin u ≡ true)))
    (λ _ is. absurd (let f : None ≡ Some r = is in cc)) (λ _ is. inl is) at
arrival_before (TakeOut v n false) past w r at =
    cond_both (v == w) Free (stage past w)
    (λ x. arrival_in x ≡ Some r → (arrival_in (stage past w) ≡ Some r) ⊎ ((u : Verdict) × (TakeOut v n false ≡ Admit w r u) × (is_begin u ≡ true)))
    (λ _ is. absurd (let f : None ≡ Some r = is in cc)) (λ _ is. inl is) at
arrival_before (Etherealized v x y) past w r at =
    cond_both (v == w) Free (stage past w)
    (λ b. arrival_in b ≡ Some r → (arrival_in (stage past w) ≡ Some r) ⊎ ((u : Verdict) × (Etherealized v x y ≡ Admit w r u) × (is_begin u ≡ true)))
    (λ _ is. absurd (let f : None ≡ Some r = is in cc)) (λ _ is. inl is) at
arrival_before (Abandon v) past w r at = inl at

pub removal_before : (e : Entry) (past : List Entry) (w n : ℕ) → stage (e ∷ past) w ≡ Removing n → (stage past w ≡ Removing n) ⊎ (e ≡ TakeOut w n true)
removal_before (Entered conn) past w n at = inl at
removal_before (Arrive conn size call) past w n at = inl at
removal_before (Filled conn size) past w n at = inl at
removal_before (Left conn) past w n at = inl at
removal_before (Collect conn a) past w n at = inl at
removal_before (Admit v q u) past w n at =
    cond_both (v == w) (begun_by q u) (stage past w) (λ x. x ≡ Removing n → (stage past w ≡ Removing n) ⊎ (Admit v q u ≡ TakeOut w n true))
    (λ _ is. absurd (begun_never q n u is)) (λ _ is. inl is) at
removal_before (Tried v a) past w n at =
    cond_both (v == w) Free (stage past w) (λ x. x ≡ Removing n → (stage past w ≡ Removing n) ⊎ (Tried v a ≡ TakeOut w n true))
    (λ _ is. absurd (let f : Free ≡ Removing n = is in cc)) (λ _ is. inl is) at
removal_before (Incarnated v a) past w n at =
    cond_both (v == w) (incarnated a (stage past w)) (stage past w) (λ x. x ≡ Removing n → (stage past w ≡ Removing n) ⊎ (Incarnated v a ≡ TakeOut w n true))
    (λ _ is. absurd (incarnated_never a (stage past w) (Removing n) (λ q f. cc) (λ f. cc) is)) (λ _ is. inl is) at
removal_before (Run v) past w n at =
    cond_both (v == w) (ran (stage past w)) (stage past w) (λ x. x ≡ Removing n → (stage past w ≡ Removing n) ⊎ (Run v ≡ TakeOut w n true))
    (λ _ is. absurd (ran_never (stage past w) (Removing n) (λ q f. cc) (λ f. cc) is)) (λ _ is. inl is) at
removal_before (Done v) past w n at =
    cond_both (v == w) Free (stage past w) (λ x. x ≡ Removing n → (stage past w ≡ Removing n) ⊎ (Done v ≡ TakeOut w n true))
    (λ _ is. absurd (let f : Free ≡ Removing n = is in cc)) (λ _ is. inl is) at
removal_before (TakeOut v m true) past w n at =
    cond_both (v == w) (Removing m) (stage past w) (λ x. x ≡ Removing n → (stage past w ≡ Removing n) ⊎ (TakeOut v m true ≡ TakeOut w n true))
    (λ same is. inr (let f : Removing m ≡ Removing n = is in let g : m ≡ n = cc in ap₂ (λ x y. TakeOut x y true) (eqb-true v w same) g)) (λ _ is. inl is) at
removal_before (TakeOut v m false) past w n at =
    cond_both (v == w) Free (stage past w) (λ x. x ≡ Removing n → (stage past w ≡ Removing n) ⊎ (TakeOut v m false ≡ TakeOut w n true))
    (λ _ is. absurd (let f : Free ≡ Removing n = is in cc)) (λ _ is. inl is) at
removal_before (Etherealized v x y) past w n at =
    cond_both (v == w) Free (stage past w) (λ b. b ≡ Removing n → (stage past w ≡ Removing n) ⊎ (Etherealized v x y ≡ TakeOut w n true))
    (λ _ is. absurd (let f : Free ≡ Removing n = is in cc)) (λ _ is. inl is) at
removal_before (Abandon v) past w n at = inl at

pub begun_before : (e : Entry) (past : List Entry) (w r n : ℕ) → stage (e ∷ past) w ≡ Incarnating r n → (stage past w ≡ Incarnating r n)
    ⊎ ((q : ℕ) × (e ≡ Admit w q (Incarnate n)))
begun_before (Entered conn) past w r n at = inl at
begun_before (Arrive conn size call) past w r n at = inl at
begun_before (Filled conn size) past w r n at = inl at
begun_before (Left conn) past w r n at = inl at
begun_before (Collect conn a) past w r n at = inl at
begun_before (Admit v q u) past w r n at =
    cond_both (v == w) (begun_by q u) (stage past w)
    (λ x. x ≡ Incarnating r n → (stage past w ≡ Incarnating r n) ⊎ ((p : ℕ) × (Admit v q u ≡ Admit w p (Incarnate n))))
    (λ same is. inr (q, ap₂ (λ x y. Admit x q y) (eqb-true v w same) (begun_only q r n u is))) (λ _ is. inl is) at
begun_before (Tried v a) past w r n at =
    cond_both (v == w) Free (stage past w) (λ x. x ≡ Incarnating r n → (stage past w ≡ Incarnating r n) ⊎ ((p : ℕ) × (Tried v a ≡ Admit w p (Incarnate n))))
    (λ _ is. absurd (let f : Free ≡ Incarnating r n = is in cc)) (λ _ is. inl is) at
begun_before (Incarnated v a) past w r n at =
    cond_both (v == w) (incarnated a (stage past w)) (stage past w)
    (λ x. x ≡ Incarnating r n → (stage past w ≡ Incarnating r n) ⊎ ((p : ℕ) × (Incarnated v a ≡ Admit w p (Incarnate n))))
    (λ _ is. absurd (incarnated_never a (stage past w) (Incarnating r n) (λ q f. cc) (λ f. cc) is)) (λ _ is. inl is) at
begun_before (Run v) past w r n at =
    cond_both (v == w) (ran (stage past w)) (stage past w)
    (λ x. x ≡ Incarnating r n → (stage past w ≡ Incarnating r n) ⊎ ((p : ℕ) × (Run v ≡ Admit w p (Incarnate n))))
    (λ _ is. absurd (ran_never (stage past w) (Incarnating r n) (λ q f. cc) (λ f. cc) is)) (λ _ is. inl is) at
begun_before (Done v) past w r n at =
    cond_both (v == w) Free (stage past w) (λ x. x ≡ Incarnating r n → (stage past w ≡ Incarnating r n) ⊎ ((p : ℕ) × (Done v ≡ Admit w p (Incarnate n))))
    (λ _ is. absurd (let f : Free ≡ Incarnating r n = is in cc)) (λ _ is. inl is) at
begun_before (TakeOut v m true) past w r n at =
    cond_both (v == w) (Removing m) (stage past w)
    (λ x. x ≡ Incarnating r n → (stage past w ≡ Incarnating r n) ⊎ ((p : ℕ) × (TakeOut v m true ≡ Admit w p (Incarnate n))))
    (λ _ is. absurd (let f : Removing m ≡ Incarnating r n = is in cc)) (λ _ is. inl is) at
begun_before (TakeOut v m false) past w r n at =
    cond_both (v == w) Free (stage past w)
    (λ x. x ≡ Incarnating r n → (stage past w ≡ Incarnating r n) ⊎ ((p : ℕ) × (TakeOut v m false ≡ Admit w p (Incarnate n))))
    (λ _ is. absurd (let f : Free ≡ Incarnating r n = is in cc)) (λ _ is. inl is) at
begun_before (Etherealized v x y) past w r n at =
    cond_both (v == w) Free (stage past w)
    (λ b. b ≡ Incarnating r n → (stage past w ≡ Incarnating r n) ⊎ ((p : ℕ) × (Etherealized v x y ≡ Admit w p (Incarnate n))))
    (λ _ is. absurd (let f : Free ≡ Incarnating r n = is in cc)) (λ _ is. inl is) at
begun_before (Abandon v) past w r n at = inl at

-- an incarnation that brings a servant leaves what is in flight, and brings the activation to its servant
pub brings_flights : (c : Config) (s : Standing) (b : Stage) (a : Incarnation) → brings a ≡ true → (with_incarnated c b a s).flights ≡ s.flights
brings_flights c s (Incarnating q n) (Fresh m) brings_ = refl
brings_flights c s (Incarnating q n) (Named name) brings_ = refl
brings_flights c s (Incarnating q n) Double brings_ = absurd (let f : false ≡ true = brings_ in cc)
brings_flights c s (Incarnating q n) (ForwardTo x) brings_ = absurd (let f : false ≡ true = brings_ in cc)
brings_flights c s (Incarnating q n) (Raise x) brings_ = absurd (let f : false ≡ true = brings_ in cc)
brings_flights c s Free a brings_ = refl
brings_flights c s (Trying r) a brings_ = refl
brings_flights c s (Serving r) a brings_ = refl
brings_flights c s (Ran r) a brings_ = refl
brings_flights c s (Removing n) a brings_ = refl

pub brings_activations : (c : Config) (s : Standing) (q n : ℕ) (a : Incarnation) → brings a ≡ true
    → (with_incarnated c (Incarnating q n) a s).activations ≡ map (at_number n (come_to (phase_by c n a))) s.activations
brings_activations c s q n (Fresh m) brings_ = refl
brings_activations c s q n (Named name) brings_ = refl
brings_activations c s q n Double brings_ = absurd (let f : false ≡ true = brings_ in cc)
brings_activations c s q n (ForwardTo x) brings_ = absurd (let f : false ≡ true = brings_ in cc)
brings_activations c s q n (Raise x) brings_ = absurd (let f : false ≡ true = brings_ in cc)

pub gone_incarnated : (c : Config) (s : Standing) (q n : ℕ) (a : Incarnation) (f : Flight) → brings a ≡ false
    → In f (with_incarnated c (Incarnating q n) a s).flights → f.arrival ≡ q → ⊥
gone_incarnated c s q n (Fresh m) f none there at = absurd (let x : true ≡ false = none in cc)
gone_incarnated c s q n (Named name) f none there at = absurd (let x : true ≡ false = none in cc)
gone_incarnated c s q n Double f none there at = true≢false (sym (in_kept (λ g. not (g.arrival == q)) f s.flights there).1 ∙ ap not (eq-eqb f.arrival q at))
gone_incarnated c s q n (ForwardTo x) f none there at =
    true≢false (sym (in_kept (λ g. not (g.arrival == q)) f s.flights there).1 ∙ ap not (eq-eqb f.arrival q at))
gone_incarnated c s q n (Raise x) f none there at = true≢false (sym (in_kept (λ g. not (g.arrival == q)) f s.flights there).1 ∙ ap not (eq-eqb f.arrival q at))

-- a flight stays whose worker doesn't make the entry
pub flight_kept : (c : Config) (run : ℕ) (past : List Entry) (s : Standing) (e : Entry) (f : Flight) → In f s.flights
    → ((v q : ℕ) → maker e ≡ Some v → arrival_in (stage past v) ≡ Some q → f.arrival ≡ q → ⊥) → In f (changed c run past e s).flights
flight_kept c run past s (Entered conn) f there other = there
flight_kept c run past s (Arrive conn size call) f there other = there
flight_kept c run past s (Filled conn size) f there other = there
flight_kept c run past s (Left conn) f there other = there
flight_kept c run past s (Collect conn a) f there other = there
flight_kept c run past s (Admit v r u) f there other =
    subst (λ fs. In f fs) (sym (flights_command c run (command_done past (Admit v r u)) (with_admitted r (key_in (call_of past r)) u s)))
    (stays_admitted s r (key_in (call_of past r)) u f there)
flight_kept c run past s (Tried v a) f there other =
    subst (λ fs. In f fs) (sym (flights_tried s (arrival_in (stage past v)) a)) (stays_fewer s (arrival_in (stage past v)) f there (λ x. other v x refl))
flight_kept c run past s (Incarnated v a) f there other = stays_incarnated c s (stage past v) a f there (λ x. other v x refl)
flight_kept c run past s (Run v) f there other = there
flight_kept c run past s (Done v) f there other = stays_fewer s (arrival_in (stage past v)) f there (λ x. other v x refl)
flight_kept c run past s (TakeOut v n x) f there other = there
flight_kept c run past s (Etherealized v x y) f there other = stays_etherealized s (stage past v) f there
flight_kept c run past s (Abandon v) f there other = there

module _ (c : Config) (run limit : ℕ) (past : List Entry) where
  free_nothing : {A : Type 0} (v w r : ℕ) → stage past v ≡ Free → v ≡ w → arrival_in (stage past w) ≡ Some r → A
  free_nothing v w r free same at = absurd (let f : None ≡ Some r = sym (ap arrival_in free) ∙ (ap (λ x. arrival_in (stage past x)) same ∙ at) in cc)

  abbrev Ended : Entry → ℕ → Type 0
  Ended e r = (f : Flight) → In f (changed c run past e (standing c run past)).flights → f.arrival ≡ r → ⊥

  -- a worker stays at its arrival, or the arrival isn't in flight any more
  pub arrival_after : (e : Entry) → MayFollow c run limit past e → (w r : ℕ) → arrival_in (stage past w) ≡ Some r → (arrival_in (stage (e ∷ past) w) ≡ Some r)
      ⊎ Ended e r
  arrival_after (Entered conn) may w r at = inl at
  arrival_after (Arrive conn size call) may w r at = inl at
  arrival_after (Filled conn size) may w r at = inl at
  arrival_after (Left conn) may w r at = inl at
  arrival_after (Collect conn a) may w r at = inl at
  arrival_after (Admit v q u) may w r at =
      cond_both (v == w) (begun_by q u) (stage past w) (λ x. (arrival_in x ≡ Some r) ⊎ Ended (Admit v q u) r)
      (λ same. free_nothing v w r (admission_is c run past v q u may).free (eqb-true v w same) at) (λ _. inl at)
  arrival_after (Tried v a) may w r at =
      cond_both (v == w) Free (stage past w) (λ x. (arrival_in x ≡ Some r) ⊎ Ended (Tried v a) r)
      (λ same. inr (λ f there. gone_fewer (standing c run past) r f
      (subst (λ o. In f (without_flight o (standing c run past)).flights) (ap (λ x. arrival_in (stage past x)) (eqb-true v w same) ∙ at)
      (subst (λ fs. In f fs) (flights_tried (standing c run past) (arrival_in (stage past v)) a) there))))
      (λ _. inl at)
  arrival_after (Incarnated v a) may w r at =
      cond_both (v == w) (incarnated a (stage past w)) (stage past w) (λ x. (arrival_in x ≡ Some r) ⊎ Ended (Incarnated v a) r)
      (λ same. (let it = incarnation_is c run past v a may in
      let mine : stage past w ≡ Incarnating it.arrival it.number = ap (stage past) (sym (eqb-true v w same)) ∙ it.begun in
      let rs : Some it.arrival ≡ Some r = sym (ap arrival_in mine) ∙ at in
      let qr : it.arrival ≡ r = cc in
      elim (cases_Bool (brings a)) [
        | inl yes_ ↦ inl (ap (λ b. arrival_in (incarnated a b)) mine ∙ (ap (λ b. arrival_in (if b then Serving it.arrival else Free)) yes_ ∙ rs))
        | inr none ↦
            inr (λ f there is. gone_incarnated c (standing c run past) it.arrival it.number a f none
            (subst (λ b. In f (with_incarnated c b a (standing c run past)).flights) it.begun there) (is ∙ sym qr))
      ]))
      (λ _. inl at)
  arrival_after (Run v) may w r at =
      cond_both (v == w) (ran (stage past w)) (stage past w) (λ x. (arrival_in x ≡ Some r) ⊎ Ended (Run v) r)
      (λ same. (let it = run_is c run past v may in
      let mine : stage past w ≡ Serving it.0 = ap (stage past) (sym (eqb-true v w same)) ∙ it.1 in
      inl (ap (λ b. arrival_in (ran b)) mine ∙ (sym (ap arrival_in mine) ∙ at))))
      (λ _. inl at)
  arrival_after (Done v) may w r at =
      cond_both (v == w) Free (stage past w) (λ x. (arrival_in x ≡ Some r) ⊎ Ended (Done v) r)
      (λ same. inr
      (λ f there. gone_fewer (standing c run past) r f
      (subst (λ o. In f (without_flight o (standing c run past)).flights) (ap (λ x. arrival_in (stage past x)) (eqb-true v w same) ∙ at) there)))
      (λ _. inl at)
  arrival_after (TakeOut v n true) may w r at =
      cond_both (v == w) (Removing n) (stage past w) (λ x. (arrival_in x ≡ Some r) ⊎ Ended (TakeOut v n true) r)
      (λ same. free_nothing v w r (takeout_is c run past v n true may).free (eqb-true v w same) at) (λ _. inl at)
  arrival_after (TakeOut v n false) may w r at =
      cond_both (v == w) Free (stage past w) (λ x. (arrival_in x ≡ Some r) ⊎ Ended (TakeOut v n false) r)
      (λ same. free_nothing v w r (takeout_is c run past v n false may).free (eqb-true v w same) at) (λ _. inl at)
  arrival_after (Etherealized v x y) may w r at =
      cond_both (v == w) Free (stage past w) (λ b. (arrival_in b ≡ Some r) ⊎ Ended (Etherealized v x y) r)
      (λ same. absurd
      (let f : None ≡ Some r = sym (ap arrival_in (removal_is c run past v x y may).begun)
      ∙ (ap (λ z. arrival_in (stage past z)) (eqb-true v w same) ∙ at) in cc)) (λ _. inl at)
  arrival_after (Abandon v) may w r at = inl at

  -- an arrival that another worker is at stays admitted as it was
  pub admitted_other : (e : Entry) → MayFollow c run limit past e → (w r : ℕ) → (maker e ≡ Some w → ⊥) → (u : Verdict) → admitted past r ≡ Some u
      → ((v : ℕ) → arrival_in (stage past v) ≡ Some r → v ≡ w) → admitted (e ∷ past) r ≡ admitted past r
  admitted_other (Entered conn) may w r other u is alone = refl
  admitted_other (Arrive conn size call) may w r other u is alone = refl
  admitted_other (Filled conn size) may w r other u is alone = refl
  admitted_other (Left conn) may w r other u is alone = refl
  admitted_other (Collect conn a) may w r other u is alone = refl
  admitted_other (Admit v q x) may w r other u is alone =
      cond_both (q == r) (Some x) (admitted past r) (λ o. o ≡ admitted past r)
      (λ same. absurd
      (let f : false ≡ true = ap is_none (sym (ap (admitted past) (eqb-true q r same) ∙ is)) ∙ (admission_is c run past v q x may).unadmitted in cc))
      (λ _. refl)
  admitted_other (Tried v (Yes k)) may w r other u is alone =
      (let it = trial_is c run past v (Yes k) may in
      cond_both (is_at r (arrival_in (stage past v))) None (admitted past r) (λ o. o ≡ admitted past r)
      (λ same. absurd
      (other (ap (λ x. Some x)
      (alone v (ap arrival_in it.begun ∙ ap (λ x. Some x) (eqb-true it.arrival r (sym (ap (λ b. is_at r (arrival_in b)) it.begun) ∙ same))))))) (λ _. refl))
  admitted_other (Tried v No) may w r other u is alone = refl
  admitted_other (Tried v Raised) may w r other u is alone = refl
  admitted_other (Tried v ParentDying) may w r other u is alone = refl
  admitted_other (Incarnated v a) may w r other u is alone = refl
  admitted_other (Run v) may w r other u is alone = refl
  admitted_other (Done v) may w r other u is alone = refl
  admitted_other (TakeOut v n x) may w r other u is alone = refl
  admitted_other (Etherealized v x y) may w r other u is alone = refl
  admitted_other (Abandon v) may w r other u is alone = refl

-- What a worker has begun, and what is in flight, stay together.
use Rattle.std.specs.Prelude.{◌≡◌, ℕ, Bool, true, false, not, ◌&&◌, ◌==◌, if◌then◌else◌, List, [], ◌∷◌, map, length, Option, Some, None, is_none, ◌⊎◌, refl}
use Rattle.std.proofs.Common.{inl, inr, sym, subst, ap, ap₂, ◌∙◌, arith}
use Rattle.std.proofs.lemmas.Bool.{cases_Bool, cond_both, and_parts, true≢false, false_from_ne_true, eqb-true, eq-eqb}
use Rattle.poa_base.specs.declared.Config.{Config}
use Rattle.poa_base.specs.declared.Key.{Key}
use Rattle.poa_base.specs.declared.Sid.{Sid}
use Rattle.poa_base.specs.declared.Sid.TheVariants.{Named as NamedServant, Fresh as FreshServant}
use Rattle.poa_base.specs.declared.Verdict.{Verdict}
use Rattle.poa_base.specs.declared.Verdict.TheVariants.{Serve, Preset, Locator, Incarnate, Try, Refuse, Forward, Addressing, Here, Unknown, Answer, Wait}
use Rattle.poa_base.specs.declared.Entry.{Entry}
use Rattle.poa_base.specs.declared.Entry.TheVariants.{Entered, Arrive, Filled, Left, Collect, Admit, Tried, Incarnated, Run, Done, TakeOut, Etherealized, Abandon}
use Rattle.poa_base.specs.declared.Incarnation.{Incarnation}
use Rattle.poa_base.specs.declared.Incarnation.TheVariants.{Fresh, Named, Double, Forward as ForwardTo, Raise}
use Rattle.history_standing.specs.declared.flight.Flight.{Flight}
use Rattle.history_standing.specs.declared.activation.Activation.{Activation}
use Rattle.history_standing.specs.declared.activation.Phase.{Phase}
use Rattle.history_standing.specs.declared.activation.Phase.TheVariants.{Begun, Complete, Void}
use Rattle.history_standing.specs.declared.stage.Stage.{Stage}
use Rattle.history_standing.specs.declared.stage.Stage.TheVariants.{Free, Trying, Incarnating, Serving, Ran, Removing}
use Rattle.history_standing.specs.Templates.{has_activator}
use Rattle.history_standing.specs.Arrivals.{call_of}
use Rattle.history_standing.specs.Stages.{brings, begun_by, incarnated, ran, stage, arrival_in, admitted}
use Rattle.history_standing.specs.Standings.{Standing, is_complete, is_active, is_ending, is_void, is_used}
use Rattle.history_standing.specs.Walks.{walk, adapter_met}
use Rattle.history_standing.specs.Trees.{In}
use Rattle.history_standing.specs.Ends.{is_left, let_out}
use Rattle.history_standing.specs.Keys.{key_in}
use Rattle.history_standing.specs.Logs.{is_accepted, command_in}
use Rattle.history_standing.specs.Situations.{is_changing}
use Rattle.history_standing.specs.Changes.{standing, changed, with_command, with_admitted, at_number, come_to, with_incarnated, is_elsewhere}
use Rattle.poa_history.specs.Legal.{MayFollow, IsLegal}
use Rattle.poa_history.specs.Sound.{IsGiven, IsSound}
use Rattle.poa_history.specs.Bounds.{IsWithinLimits}
use Rattle.poa_history.specs.Alone.{IsGivenAlone}
use Rattle.poa_history.specs.Later.{IsLater}
use Rattle.poa_history.specs.InFlight.{named, IsFlying, IsRunning, Holds, IsManned}
use Rattle.history_standing.proofs.Members.{in_back, image_in, any_in, some_in}
use Rattle.poa_history.proofs.ActivationsLater.{step_later, later_let_out}
use Rattle.poa_history.proofs.TurnTells.{IsIncarnation, admission_is, incarnation_is, run_is, takeout_is}
use Rattle.poa_history.proofs.Served.{served_by, active, preset, located, incarnated as begun_served}
use Rattle.poa_history.proofs.FlightsFrom.{flight_for, flew, begins, flight_from}
use Rattle.poa_history.proofs.ActivationsFrom.{phase_by, TakesOut, stood as activation_stood, begun as activation_begun, activation_from}
use Rattle.poa_history.proofs.IdsFew.{messages}
use Rattle.poa_history.proofs.AloneKept.{brought_named, all_open}
use Rattle.poa_history.proofs.CommandAnswers.{is_begin, begin_keyed}
use Rattle.poa_history.proofs.LegalSound.{legal_sound}
use Rattle.poa_history.proofs.StagesFrom.{maker, stage_other, own, held_admitted, begun_flight, flight_says, brings_flights, brings_activations, arrival_before, removal_before, begun_before, flight_kept, arrival_after, admitted_other}
use Rattle.history_standing.proofs.Tests.{not_true}

-- what runs goes on, where its arrival stays admitted and in flight, and activations go on
running_kept : (c : Config) (h g : List Entry) (s t : Standing) (r : ℕ) → admitted g r ≡ admitted h r
    → ((activation : Option ℕ) (trial : Bool) → IsFlying s r activation trial → IsFlying t r activation trial)
    → ((a : Activation) → In a s.activations → (b : Activation) × In b t.activations × IsLater c a b) → IsRunning h s r → IsRunning g t r
running_kept c h g s t r same flies later it = record {
  verdict = it.verdict;
  by = same ∙ it.by;
  run = it.run;
  flying = flies (named (Some it.verdict)) false it.flying;
  served = λ n names. (let a = it.served n names in let b = later a.0 a.1 in (b.0, b.1, b.2.number ∙ a.2, (a.3.0, b.2.served a.3.0 a.3.1)));
}

module _ (c : Config) (run limit : ℕ) (past : List Entry) (e : Entry) (may : MayFollow c run limit past e) (sound : IsSound c run (standing c run past))
    (after : IsSound c run (standing c run (e ∷ past))) (given : IsGivenAlone c run) (held_ : IsManned c run past) where
  abbrev s : Standing
  s = standing c run past

  abbrev s1 : Standing
  s1 = changed c run past e s

  abbrev t : Standing
  t = standing c run (e ∷ past)

  abbrev May : Entry → Type 0
  May x = MayFollow c run limit past x

  as_this : (x : Entry) → e ≡ x → May x
  as_this x is = subst (λ y. May y) is may

  later : (a : Activation) → In a s.activations → (b : Activation) × In b t.activations × IsLater c a b
  later = step_later c run past e

  -- what an activation is when what has ended went
  settle_in : (a : Activation) → In a s1.activations → (b : Activation) × In b t.activations × (b.number ≡ a.number) × (b.adapter ≡ a.adapter)
      × (b.phase ≡ a.phase) × (b.quiet ≡ a.quiet) × (b.etherealized ≡ a.etherealized) × (a.out ≡ true → b.out ≡ true)
  settle_in a there = (
    let_out c s1 a,
    image_in (let_out c s1) a s1.activations there,
    kept (λ x. x.number) refl,
    kept (λ x. x.adapter) refl,
    kept (λ x. x.phase) refl,
    kept (λ x. x.quiet) refl,
    kept (λ x. x.etherealized) refl,
    (later_let_out c s1 a).out,
  )
    where
      kept : {B : Type 0} (f : Activation → B) → f (record a { out = true }) ≡ f a → f (let_out c s1 a) ≡ f a
      kept f same = cond_both (is_left c s1 a) (record a { out = true }) a (λ b. f b ≡ f a) (λ _. same) (λ _. refl)

  at_alone : (w v r : ℕ) → arrival_in (stage past w) ≡ Some r → arrival_in (stage past v) ≡ Some r → v ≡ w
  at_alone w v r at at' = held_.arrival_alone v w r at' at

  admitted_at : (w r : ℕ) → arrival_in (stage past w) ≡ Some r → (v : Verdict) × (admitted past r ≡ Some v)
  admitted_at w r at = held_admitted past s (stage past w) r (held_.stages w) at

  -- the entry of another worker
  module _ (w : ℕ) (other : maker e ≡ Some w → ⊥) where
    same_admitted : (r : ℕ) → arrival_in (stage past w) ≡ Some r → admitted (e ∷ past) r ≡ admitted past r
    same_admitted r at = (let u = admitted_at w r at in admitted_other c run limit past e may w r other u.0 u.1 (λ v at'. at_alone w v r at at'))

    still_flying : (r : ℕ) → arrival_in (stage past w) ≡ Some r → (activation : Option ℕ) (trial : Bool) → IsFlying s r activation trial
        → IsFlying t r activation trial
    still_flying r at activation trial flying =
        let (f, there, at_r, of_it, tried) = flying in (
          f,
          flight_kept c run past s e f there (λ v q makes at' is. other (makes
              ∙ ap (λ x. Some x) (at_alone w v r at (at' ∙ ap (λ x. Some x) (sym is ∙ at_r))))),
          at_r,
          of_it,
          tried,
        )

    still_running : (r : ℕ) → arrival_in (stage past w) ≡ Some r → IsRunning past s r → IsRunning (e ∷ past) t r
    still_running r at it = running_kept c past (e ∷ past) s t r (same_admitted r at) (still_flying r at) later it

    other_holds : (b : Stage) → stage past w ≡ b → Holds past s b → Holds (e ∷ past) t b
    other_holds Free is holds = tt
    other_holds (Trying r) is holds = (same_admitted r (ap arrival_in is) ∙ holds.0, still_flying r (ap arrival_in is) None true holds.1)
    other_holds (Incarnating r n) is holds =
        (same_admitted r (ap arrival_in is) ∙ holds.0, still_flying r (ap arrival_in is) (Some n) false holds.1, still_begun holds.2)
      where
        still_begun : ((a : Activation) × In a s.activations × (a.number ≡ n) × (a.phase ≡ Begun)) → (b : Activation) × In b t.activations × (b.number ≡ n)
            × (b.phase ≡ Begun)
        still_begun (a, there, at_n, begins_) =
            let (b, there', goes) = later a there in (
              b,
              there',
              goes.number ∙ at_n,
              elim (activation_from c run past e b there') [
                | activation_begun fresh ↦
                    absurd (let low = sound.counted a there in let f : b.number ≡ a.number = goes.number in
                    let g : b.number ≡ length s.activations = fresh.number in omega (arith, low, f, g))
                | activation_stood a' was step ↦ (let same : a' ≡ a = sound.activation_alone a' a was there (sym step.later.number ∙ goes.number) in
                    elim step.came [
                      | inl kept ↦ kept ∙ (ap (λ x. x.phase) same ∙ begins_)
                      | inr came ↦
                          absurd (other
                          (ap maker came.1.same ∙ ap (λ x. Some x)
                          (held_.begun_alone came.1.worker w came.1.arrival r n
                          (came.1.begun ∙ ap (λ m. Incarnating came.1.arrival m) (ap (λ x. x.number) same ∙ at_n)) is)))
                    ])
              ],
            )
    other_holds (Serving r) is holds = still_running r (ap arrival_in is) holds
    other_holds (Ran r) is holds = still_running r (ap arrival_in is) holds
    other_holds (Removing n) is holds = still_removed holds
      where
        still_removed : ((a : Activation) × In a s.activations × (a.number ≡ n) × (a.out ≡ true) × (a.quiet ≡ false) × (a.etherealized ≡ false))
            → (b : Activation) × In b t.activations × (b.number ≡ n) × (b.out ≡ true) × (b.quiet ≡ false) × (b.etherealized ≡ false)
        still_removed (a, there, at_n, out, loud, untold) =
            let (b, there', goes) = later a there in
            elim (activation_from c run past e b there') [
              | activation_begun fresh ↦
                  absurd (let low = sound.counted a there in let f : b.number ≡ a.number = goes.number in
                  let g : b.number ≡ length s.activations = fresh.number in omega (arith, low, f, g))
              | activation_stood a' was step ↦ (let same : a' ≡ a = sound.activation_alone a' a was there (sym step.later.number ∙ goes.number) in (
                b,
                there',
                goes.number ∙ at_n,
                goes.out out,
                false_from_ne_true b.quiet (λ quiet. elim (step.quiet_back quiet) [
                  | inl before ↦ true≢false (sym before ∙ (ap (λ x. x.quiet) same ∙ loud))
                  | inr first ↦ true≢false (sym (held_.out_ending a there out) ∙ (ap (λ x. x.ending) (sym same) ∙ first))
                ]),
                false_from_ne_true b.etherealized (λ told. elim (step.told_back told) [
                  | inl before ↦ true≢false (sym before ∙ (ap (λ x. x.etherealized) same ∙ untold))
                  | inr tells ↦
                      other (ap maker tells.3 ∙ ap (λ x. Some x)
                      (held_.removal_alone tells.0 w n (tells.4 ∙ ap (λ m. Removing m) (ap (λ x. x.number) same ∙ at_n)) is))
                ]),
              ))
            ]

  -- the worker's own entry
  module _ (w : ℕ) where
    -- a flight of the arrival, by the Admit of this entry
    begun_flying : (r : ℕ) (u : Verdict) (key : Key) (f : Flight) → e ≡ Admit w r u → is_accepted u ≡ false → key_in (call_of past r) ≡ Some key
        → flight_for s r key u ≡ Some f → In f t.flights
    begun_flying r u key f is none has for_ =
        subst (λ y. In f (changed c run past y s).flights) (sym is)
        (subst (λ d. In f (with_command c run d (with_admitted r (key_in (call_of past r)) u s)).flights)
        (ap (λ b. if b then command_in (call_of past r) else None) (sym none))
        (subst (λ k. In f (with_admitted r k u s).flights) (sym has) (begun_flight s r key u f for_)))

    admitted_now : (r : ℕ) (u : Verdict) → e ≡ Admit w r u → admitted (e ∷ past) r ≡ Some u
    admitted_now r u is = ap (λ y. admitted (y ∷ past) r) is ∙ own r (Some u) (admitted past r)

    keyed : (r : ℕ) (u : Verdict) → e ≡ Admit w r u → is_begin u ≡ true → (key : Key) × (key_in (call_of past r) ≡ Some key)
    keyed r u is begins_ = begin_keyed c run past w r u begins_ (admission_is c run past w r u (as_this (Admit w r u) is)).told

    complete_phase : (a : Activation) → is_active a ≡ true → (v : Sid) × (a.phase ≡ Complete v)
    complete_phase a is = by_phase a.phase refl (and_parts (is_complete a) (not a.ending) is).0
      where
        by_phase : (p : Phase) → a.phase ≡ p → (elim p [ Complete v ↦ true | Begun ↦ false | Void ↦ false ]) ≡ true → (v : Sid) × (a.phase ≡ Complete v)
        by_phase (Complete v) at yes_ = (v, at)
        by_phase Begun at no_ = absurd (let f : false ≡ true = no_ in cc)
        by_phase Void at no_ = absurd (let f : false ≡ true = no_ in cc)

    holds_serve : (r n : ℕ) → e ≡ Admit w r (Serve n) → IsRunning (e ∷ past) t r
    holds_serve r n is =
        let key = keyed r (Serve n) is refl in
        let told = served_by c run past sound w r (Serve n) key.0 refl (admission_is c run past w r (Serve n) (as_this (Admit w r (Serve n)) is)).told key.1 in
        record {
          verdict = Serve n;
          by = admitted_now r (Serve n) is;
          run = refl;
          flying = (
            record { arrival = r; adapter = adapter_met (walk s.nodes key.0.path); activation = Some n; child = None },
            begun_flying r (Serve n) key.0 _ is refl key.1 refl,
            refl,
            refl,
            refl,
          );
          served = λ m names. elim told.how [
            | active a there at of_id is_active' same ↦ (let f : Serve a.number ≡ Serve n = same in let g : a.number ≡ n = cc in
                let nm : Some n ≡ Some m = names in let nm' : n ≡ m = cc in
                let (b, there', goes) = later a there in let phase = complete_phase a is_active' in
                (b, there', goes.number ∙ (g ∙ nm'), (phase.0, goes.served phase.0 phase.1)))
            | preset name same ↦ absurd (let f : Preset name ≡ Serve n = same in cc)
            | located name same ↦ absurd (let f : Locator name ≡ Serve n = same in cc)
            | begun_served activator idle same ↦ absurd (let f : Incarnate (length s.activations) ≡ Serve n = same in cc)
          ];
        }

    holds_other : (r : ℕ) (u : Verdict) (name : List ℕ) → (u ≡ Preset name) ⊎ (u ≡ Locator name) → e ≡ Admit w r u → IsRunning (e ∷ past) t r
    holds_other r u name (inl which) is =
        let is' : e ≡ Admit w r (Preset name) = is ∙ ap (λ x. Admit w r x) which in
        let key = keyed r (Preset name) is' refl in
        record {
          verdict = Preset name;
          by = admitted_now r (Preset name) is';
          run = refl;
          flying = (
            record { arrival = r; adapter = adapter_met (walk s.nodes key.0.path); activation = None; child = None },
            begun_flying r (Preset name) key.0 _ is' refl key.1 refl,
            refl,
            refl,
            refl,
          );
          served = λ m names. absurd (let f : None ≡ Some m = names in cc);
        }
    holds_other r u name (inr which) is =
        let is' : e ≡ Admit w r (Locator name) = is ∙ ap (λ x. Admit w r x) which in
        let key = keyed r (Locator name) is' refl in
        record {
          verdict = Locator name;
          by = admitted_now r (Locator name) is';
          run = refl;
          flying = (
            record { arrival = r; adapter = adapter_met (walk s.nodes key.0.path); activation = None; child = None },
            begun_flying r (Locator name) key.0 _ is' refl key.1 refl,
            refl,
            refl,
            refl,
          );
          served = λ m names. absurd (let f : None ≡ Some m = names in cc);
        }

    next_begun : (r n : ℕ) → e ≡ Admit w r (Incarnate n) → n ≡ length s.activations
    next_begun r n is =
        let key = keyed r (Incarnate n) is refl in
        let told =
        served_by c run past sound w r (Incarnate n) key.0 refl (admission_is c run past w r (Incarnate n) (as_this (Admit w r (Incarnate n)) is)).told key.1 in
        elim told.how [
          | active a there at of_id is_active' same ↦ absurd (let f : Serve a.number ≡ Incarnate n = same in cc)
          | preset name same ↦ absurd (let f : Preset name ≡ Incarnate n = same in cc)
          | located name same ↦ absurd (let f : Locator name ≡ Incarnate n = same in cc)
          | begun_served activator idle same ↦ (let f : Incarnate (length s.activations) ≡ Incarnate n = same in cc)
        ]

    -- the activation that the Admit begins
    begun_activation : (r n : ℕ) (key : Key) → e ≡ Admit w r (Incarnate n) → key_in (call_of past r) ≡ Some key → (b : Activation) × In b t.activations
        × (b.number ≡ length s.activations) × (b.phase ≡ Begun) × (b.adapter ≡ adapter_met (walk s.nodes key.path))
    begun_activation r n key is has =
        let a : Activation =
        record {
          number = length s.activations;
          adapter = adapter_met (walk s.nodes key.path);
          path = key.path;
          oid = key.oid;
          phase = Begun;
          ending = false;
          quiet = false;
          out = false;
          cleanup = false;
          remaining = false;
          etherealized = false;
        } in
        let there : In a s1.activations =
        subst (λ y. In a (changed c run past y s).activations) (sym is)
        (subst (λ k. In a (with_admitted r k (Incarnate n) s).activations) (sym has) (in_back a s.activations)) in
        let b = settle_in a there in
        (b.0, b.1, b.2, b.4, b.3)

    holds_incarnate : (r n : ℕ) → e ≡ Admit w r (Incarnate n) → Holds (e ∷ past) t (Incarnating r n)
    holds_incarnate r n is =
        let key = keyed r (Incarnate n) is refl in
        let next = next_begun r n is in
        let b = begun_activation r n key.0 is key.1 in (
          admitted_now r (Incarnate n) is,
          (
            record { arrival = r; adapter = adapter_met (walk s.nodes key.0.path); activation = Some (length s.activations); child = None },
            begun_flying r
                (Incarnate n) key.0 _ is refl key.1 refl,
            refl,
            ap (λ x. Some x) (sym next),
            refl,
          ),
          (b.0, b.1, b.2 ∙ sym next, b.3),
        )

    holds_try : (r : ℕ) → e ≡ Admit w r Try → Holds (e ∷ past) t (Trying r)
    holds_try r is =
        let key = keyed r Try is refl in
        (admitted_now r Try is, (_, begun_flying r Try key.0 _ is refl key.1 refl, refl, refl, refl))

    holds_admit : (r : ℕ) (u : Verdict) → e ≡ Admit w r u → Holds (e ∷ past) t (begun_by r u)
    holds_admit r (Serve n) is = holds_serve r n is
    holds_admit r (Preset name) is = holds_other r (Preset name) name (inl refl) is
    holds_admit r (Locator name) is = holds_other r (Locator name) name (inr refl) is
    holds_admit r (Incarnate n) is = holds_incarnate r n is
    holds_admit r Try is = holds_try r is
    holds_admit r (Refuse x) is = tt
    holds_admit r (Forward x) is = tt
    holds_admit r Addressing is = tt
    holds_admit r Here is = tt
    holds_admit r Unknown is = tt
    holds_admit r (Answer x) is = tt
    holds_admit r Wait is = tt

    comes_complete : (a : Incarnation) (it : IsIncarnation c run past w a) → brings a ≡ true → (v : Sid) × (phase_by c it.number a ≡ Complete v)
    comes_complete (Fresh m) it yes_ = (FreshServant it.number, refl)
    comes_complete (Named name) it yes_ =
        (let (k, single, called) = brought_named c s it.it name it.told in
        (NamedServant k, ap (λ o. elim o as (λ _. Phase) [ Some j ↦ Complete (NamedServant j) | None ↦ Void ]) (given.named k name called)))
    comes_complete Double it none = absurd (let f : false ≡ true = none in cc)
    comes_complete (ForwardTo x) it none = absurd (let f : false ≡ true = none in cc)
    comes_complete (Raise x) it none = absurd (let f : false ≡ true = none in cc)

    holds_incarnated : (a : Incarnation) → e ≡ Incarnated w a → Holds (e ∷ past) t (incarnated a (stage past w))
    holds_incarnated a is =
        let it = incarnation_is c run past w a (as_this (Incarnated w a) is) in
        let holds : Holds past s (Incarnating it.arrival it.number) = subst (λ b. Holds past s b) it.begun (held_.stages w) in
        subst (λ b. Holds (e ∷ past) t (incarnated a b)) (sym it.begun)
        (cond_both (brings a) (Serving it.arrival) Free (λ b. Holds (e ∷ past) t b) (λ yes_. running it holds yes_) (λ _. tt))
      where
        running : (it : IsIncarnation c run past w a) → Holds past s (Incarnating it.arrival it.number) → brings a ≡ true → IsRunning (e ∷ past) t it.arrival
        running it (by, (f, flying, at, of_it, tried), (x, there, numbered, begins_)) yes_ =
            let phase = comes_complete a it yes_ in
            let y : Activation = at_number it.number (come_to (phase_by c it.number a)) x in
            let activations : s1.activations ≡ map (at_number it.number (come_to (phase_by c it.number a))) s.activations =
            ap (λ z. (changed c run past z s).activations) is
            ∙ (ap (λ b. (with_incarnated c b a s).activations) it.begun ∙ brings_activations c s it.arrival it.number a yes_) in
            let in_y : In y s1.activations =
            subst (λ as'. In y as') (sym activations) (image_in (at_number it.number (come_to (phase_by c it.number a))) x s.activations there) in
            let y_is : y ≡ record x { phase = phase_by c it.number a } =
            ap (λ b. if b then come_to (phase_by c it.number a) x else x) (eq-eqb x.number it.number numbered)
            ∙ ap (λ p. if (elim p as (λ _. Bool) [ Begun ↦ true | Complete u ↦ false | Void ↦ false ]) then record x { phase = phase_by c it.number a } else x)
            begins_ in
            let b = settle_in y in_y in
            record {
              verdict = Incarnate it.number;
              by = ap (λ z. admitted (z ∷ past) it.arrival) is ∙ by;
              run = refl;
              flying = (
                f,
                subst (λ fs. In f fs) (sym (ap (λ z. (changed c run past z s).flights) is ∙ brings_flights c s (stage past w) a yes_)) flying,
                at,
                of_it,
                tried,
              );
              served = λ m names. (let f : Some it.number ≡ Some m = names in let g : it.number ≡ m = cc in
                  (b.0, b.1, b.2 ∙ (ap (λ z. z.number) y_is ∙ (numbered ∙ g)), (phase.0, b.4 ∙ (ap (λ z. z.phase) y_is ∙ phase.1))));
            }

    holds_run : e ≡ Run w → Holds (e ∷ past) t (ran (stage past w))
    holds_run is =
        let it = run_is c run past w (as_this (Run w) is) in
        subst (λ b. Holds (e ∷ past) t (ran b)) (sym it.1)
        (running_kept c past (e ∷ past) s t it.0 (ap (λ z. admitted (z ∷ past) it.0) is)
        (λ activation trial flying. (
          flying.0,
          subst (λ fs. In flying.0 fs) (sym (ap (λ z. (changed c run past z s).flights) is)) flying.1,
          flying.2,
          flying.3,
          flying.4,
        )) later
        (subst (λ b. Holds past s b) it.1 (held_.stages w)))

    holds_takeout : (n : ℕ) → e ≡ TakeOut w n true → Holds (e ∷ past) t (Removing n)
    holds_takeout n is =
        let it = takeout_is c run past w n true (as_this (TakeOut w n true) is) in
        let due =
        and_parts (is_complete it.it && (is_ending it.it && (has_activator c it.it.path && not it.it.out)))
        (not (is_used s.flights it.it.number) && not (is_changing c s.activations it.it.adapter)) it.due in
        let in_ : it.it.out ≡ false =
        not_true it.it.out
        (and_parts (has_activator c it.it.path) (not it.it.out)
        (and_parts (is_ending it.it) (has_activator c it.it.path && not it.it.out)
        (and_parts (is_complete it.it) (is_ending it.it && (has_activator c it.it.path && not it.it.out)) due.0).1).1).1 in
        let y : Activation = at_number n (λ a. record a { out = true; remaining = is_elsewhere s.activations a }) it.it in
        let in_y : In y s1.activations =
        subst (λ z. In y (changed c run past z s).activations) (sym is)
        (image_in (at_number n (λ a. record a { out = true; remaining = is_elsewhere s.activations a })) it.it s.activations it.there) in
        let y_is : y ≡ record it.it { out = true; remaining = is_elsewhere s.activations it.it } =
        ap (λ b. if b then record it.it { out = true; remaining = is_elsewhere s.activations it.it } else it.it) (eq-eqb it.it.number n it.numbered) in
        let b = settle_in y in_y in (
          b.0,
          b.1,
          b.2 ∙ (ap (λ z. z.number) y_is ∙ it.numbered),
          b.7 (ap (λ z. z.out) y_is),
          b.5 ∙ (ap (λ z. z.quiet) y_is ∙ not_true it.it.quiet it.told),
          b.6 ∙ (ap (λ z. z.etherealized) y_is ∙ false_from_ne_true it.it.etherealized (λ told. true≢false (sym (held_.told_out it.it it.there told) ∙ in_))),
        )

    own_holds : (x : Entry) → e ≡ x → maker x ≡ Some w → Holds (e ∷ past) t (stage (e ∷ past) w)
    own_holds (Admit v r u) is makes =
        (let vs : Some v ≡ Some w = makes in let same : v ≡ w = cc in let is' : e ≡ Admit w r u = is ∙ ap (λ y. Admit y r u) same in
        subst (λ b. Holds (e ∷ past) t b) (sym (ap (λ z. stage (z ∷ past) w) is' ∙ own w (begun_by r u) (stage past w))) (holds_admit r u is'))
    own_holds (Tried v a) is makes =
        (let vs : Some v ≡ Some w = makes in let same : v ≡ w = cc in
        subst (λ b. Holds (e ∷ past) t b) (sym (ap (λ z. stage (z ∷ past) w) (is ∙ ap (λ y. Tried y a) same) ∙ own w Free (stage past w))) tt)
    own_holds (Incarnated v a) is makes =
        (let vs : Some v ≡ Some w = makes in let same : v ≡ w = cc in let is' : e ≡ Incarnated w a = is ∙ ap (λ y. Incarnated y a) same in
        subst (λ b. Holds (e ∷ past) t b) (sym (ap (λ z. stage (z ∷ past) w) is' ∙ own w (incarnated a (stage past w)) (stage past w)))
        (holds_incarnated a is'))
    own_holds (Run v) is makes =
        (let vs : Some v ≡ Some w = makes in let same : v ≡ w = cc in let is' : e ≡ Run w = is ∙ ap (λ y. Run y) same in
        subst (λ b. Holds (e ∷ past) t b) (sym (ap (λ z. stage (z ∷ past) w) is' ∙ own w (ran (stage past w)) (stage past w))) (holds_run is'))
    own_holds (Done v) is makes =
        (let vs : Some v ≡ Some w = makes in let same : v ≡ w = cc in
        subst (λ b. Holds (e ∷ past) t b) (sym (ap (λ z. stage (z ∷ past) w) (is ∙ ap (λ y. Done y) same) ∙ own w Free (stage past w))) tt)
    own_holds (TakeOut v n true) is makes =
        (let vs : Some v ≡ Some w = makes in let same : v ≡ w = cc in let is' : e ≡ TakeOut w n true = is ∙ ap (λ y. TakeOut y n true) same in
        subst (λ b. Holds (e ∷ past) t b) (sym (ap (λ z. stage (z ∷ past) w) is' ∙ own w (Removing n) (stage past w))) (holds_takeout n is'))
    own_holds (TakeOut v n false) is makes =
        (let vs : Some v ≡ Some w = makes in let same : v ≡ w = cc in
        subst (λ b. Holds (e ∷ past) t b) (sym (ap (λ z. stage (z ∷ past) w) (is ∙ ap (λ y. TakeOut y n false) same) ∙ own w Free (stage past w))) tt)
    own_holds (Etherealized v x y) is makes =
        (let vs : Some v ≡ Some w = makes in let same : v ≡ w = cc in
        subst (λ b. Holds (e ∷ past) t b) (sym (ap (λ z. stage (z ∷ past) w) (is ∙ ap (λ q. Etherealized q x y) same) ∙ own w Free (stage past w))) tt)
    own_holds (Entered conn) is makes = absurd (let f : None ≡ Some w = makes in cc)
    own_holds (Arrive conn size call) is makes = absurd (let f : None ≡ Some w = makes in cc)
    own_holds (Filled conn size) is makes = absurd (let f : None ≡ Some w = makes in cc)
    own_holds (Left conn) is makes = absurd (let f : None ≡ Some w = makes in cc)
    own_holds (Collect conn a) is makes = absurd (let f : None ≡ Some w = makes in cc)
    own_holds (Abandon v) is makes = absurd (let f : None ≡ Some w = makes in cc)

    stage_holds : Holds (e ∷ past) t (stage (e ∷ past) w)
    stage_holds =
        elim (maker e) as (λ o. maker e ≡ o → Holds (e ∷ past) t (stage (e ∷ past) w)) [
          | None ↦ λ none. by_other (λ makes. let f : None ≡ Some w = sym none ∙ makes in cc)
          | Some v ↦ λ makes. elim (cases_Bool (v == w)) [
            | inl same ↦ own_holds e refl (makes ∙ ap (λ x. Some x) (eqb-true v w same))
            | inr differs ↦ by_other (λ makes'. let f : Some v ≡ Some w = sym makes ∙ makes' in let g : v ≡ w = cc in true≢false (sym (eq-eqb v w g) ∙ differs))
          ]
        ] refl
      where
        by_other : (maker e ≡ Some w → ⊥) → Holds (e ∷ past) t (stage (e ∷ past) w)
        by_other other = subst (λ b. Holds (e ∷ past) t b) (sym (stage_other e past w other)) (other_holds w other (stage past w) refl (held_.stages w))

  -- an arrival that is admitted wasn't with any worker
  unadmitted : (w r : ℕ) (u : Verdict) → e ≡ Admit w r u → (v : ℕ) → arrival_in (stage past v) ≡ Some r → ⊥
  unadmitted w r u is v at =
      let free = (admission_is c run past w r u (as_this (Admit w r u) is)).unadmitted in
      let was = admitted_at v r at in
      let f : false ≡ true = ap is_none (sym was.1) ∙ free in cc

  arrivals_alone : (w v r : ℕ) → arrival_in (stage (e ∷ past) w) ≡ Some r → arrival_in (stage (e ∷ past) v) ≡ Some r → w ≡ v
  arrivals_alone w v r at at' =
      elim (arrival_before e past w r at) [
        | inl was ↦ elim (arrival_before e past v r at') [
          | inl was' ↦ held_.arrival_alone w v r was was'
          | inr new' ↦ absurd (unadmitted v r new'.0 new'.1 w was)
        ]
        | inr new ↦ elim (arrival_before e past v r at') [
          | inl was' ↦ absurd (unadmitted w r new.0 new.1 v was')
          | inr new' ↦ (let f : Admit w r new.0 ≡ Admit v r new'.0 = sym new.1 ∙ new'.1 in cc)
        ]
      ]

  -- what is taken out was in the map
  taken_in : (w n : ℕ) (etherealize : Bool) → e ≡ TakeOut w n etherealize → (a : Activation) → In a s.activations → a.number ≡ n → (a.out ≡ false)
      × (a.ending ≡ true) × (is_used s.flights n ≡ false)
  taken_in w n etherealize is a there at =
      let it = takeout_is c run past w n etherealize (as_this (TakeOut w n etherealize) is) in
      let same : it.it ≡ a = sound.activation_alone it.it a it.there there (it.numbered ∙ sym at) in
      let due =
      and_parts (is_complete it.it && (is_ending it.it && (has_activator c it.it.path && not it.it.out)))
      (not (is_used s.flights it.it.number) && not (is_changing c s.activations it.it.adapter)) it.due in
      let ends =
      and_parts (is_ending it.it) (has_activator c it.it.path && not it.it.out)
      (and_parts (is_complete it.it) (is_ending it.it && (has_activator c it.it.path && not it.it.out)) due.0).1 in (
        ap (λ x. x.out) (sym same) ∙ not_true it.it.out (and_parts (has_activator c it.it.path) (not it.it.out) ends.1).1,
        ap (λ x. x.ending) (sym same) ∙ (and_parts it.it.ending (not (is_void it.it)) ends.0).0,
        ap (is_used s.flights) (sym it.numbered)
            ∙ not_true (is_used s.flights it.it.number)
            (and_parts (not (is_used s.flights it.it.number)) (not (is_changing c s.activations it.it.adapter)) due.1).0,
      )

  removals_alone : (w v n : ℕ) → stage (e ∷ past) w ≡ Removing n → stage (e ∷ past) v ≡ Removing n → w ≡ v
  removals_alone w v n at at' =
      elim (removal_before e past w n at) [
        | inl was ↦ elim (removal_before e past v n at') [
          | inl was' ↦ held_.removal_alone w v n was was'
          | inr new' ↦ absurd (removed_in w was v new')
        ]
        | inr new ↦ elim (removal_before e past v n at') [
          | inl was' ↦ absurd (removed_in v was' w new)
          | inr new' ↦ (let f : TakeOut w n true ≡ TakeOut v n true = sym new ∙ new' in cc)
        ]
      ]
    where
      removed_in : (x : ℕ) → stage past x ≡ Removing n → (y : ℕ) → e ≡ TakeOut y n true → ⊥
      removed_in x was y is =
          let holds : Holds past s (Removing n) = subst (λ b. Holds past s b) was (held_.stages x) in
          true≢false (sym holds.3 ∙ (taken_in y n true is holds.0 holds.1 holds.2).0)

  begun_alones : (w v r q n : ℕ) → stage (e ∷ past) w ≡ Incarnating r n → stage (e ∷ past) v ≡ Incarnating q n → w ≡ v
  begun_alones w v r q n at at' =
      elim (begun_before e past w r n at) [
        | inl was ↦ elim (begun_before e past v q n at') [
          | inl was' ↦ held_.begun_alone w v r q n was was'
          | inr new' ↦ absurd (earlier w r was v new'.0 new'.1)
        ]
        | inr new ↦ elim (begun_before e past v q n at') [
          | inl was' ↦ absurd (earlier v q was' w new.0 new.1)
          | inr new' ↦ (let f : Admit w new.0 (Incarnate n) ≡ Admit v new'.0 (Incarnate n) = sym new.1 ∙ new'.1 in cc)
        ]
      ]
    where
      earlier : (x p : ℕ) → stage past x ≡ Incarnating p n → (y o : ℕ) → e ≡ Admit y o (Incarnate n) → ⊥
      earlier x p was y o is =
          let holds : Holds past s (Incarnating p n) = subst (λ b. Holds past s b) was (held_.stages x) in
          let a = holds.2 in
          let low = sound.counted a.0 a.1 in
          let next = next_begun y o n is in
          let at_n = a.2 in
          omega (arith, low, next, at_n)

  -- what is in flight
  manned_after : (f : Flight) → In f t.flights → (w : ℕ) × (arrival_in (stage (e ∷ past) w) ≡ Some f.arrival)
  manned_after f there =
      elim (flight_from past s c run e f there) [
        | flew was ↦ (let w = held_.manned f was in
            elim (arrival_after c run limit past e may w.0 f.arrival w.1) [ inl still ↦ (w.0, still) | inr ended ↦ absurd (ended f there refl) ])
        | begins w r v key is has for_ ↦ (let says = flight_says s r key v f for_ in (
          w,
          ap (λ z. arrival_in (stage (z ∷ past) w)) is ∙ (ap arrival_in (own w (begun_by r v) (stage past w)) ∙ (says.2 ∙ ap (λ x. Some x) (sym says.0))),
        ))
      ]

  flights_alone : (f g : Flight) → In f t.flights → In g t.flights → f.arrival ≡ g.arrival → f ≡ g
  flights_alone f g f_in g_in same =
      elim (flight_from past s c run e f f_in) [
        | flew f_was ↦ elim (flight_from past s c run e g g_in) [
          | flew g_was ↦ held_.flight_alone f g f_was g_was same
          | begins w r v key is has for_ ↦
              absurd (let m = held_.manned f f_was in unadmitted w r v is m.0 (m.1 ∙ ap (λ x. Some x) (same ∙ (flight_says s r key v g for_).0)))
        ]
        | begins w r v key is has for_ ↦ elim (flight_from past s c run e g g_in) [
          | flew g_was ↦ absurd (let m = held_.manned g g_was in unadmitted w r v is m.0 (m.1 ∙ ap (λ x. Some x) (sym same ∙ (flight_says s r key v f for_).0)))
          | begins w' r' v' key' is' has' for' ↦ (let both : Admit w r v ≡ Admit w' r' v' = sym is ∙ is' in
              let rs : r ≡ r' = cc in let vs : v ≡ v' = cc in
              let keys : Some key ≡ Some key' = sym has ∙ (ap (λ x. key_in (call_of past x)) rs ∙ has') in
              let ks : key ≡ key' = cc in
              let flights : Some f ≡ Some g = sym for_ ∙ (ap₂ (λ x y. flight_for s x y v) rs ks ∙ (ap (λ y. flight_for s r' key' y) vs ∙ for')) in cc)
        ]
      ]

  used_by : (fs : List Flight) (f : Flight) (n : ℕ) → In f fs → f.activation ≡ Some n → is_used fs n ≡ true
  used_by fs f n there at =
      any_in (λ g. elim g.activation [ Some m ↦ m == n | None ↦ false ]) f fs there (ap (λ o. elim o [ Some m ↦ m == n | None ↦ false ]) at ∙ eq-eqb n n refl)

  -- an activation in which something is in flight stays in the map
  still_mapped : (f : Flight) (n : ℕ) (a : Activation) → In f t.flights → f.activation ≡ Some n → In a s.activations → a.number ≡ n → a.out ≡ false
      → (TakesOut c run past s e n → ⊥) → (b : Activation) × In b t.activations × (b.number ≡ n) × (b.adapter ≡ a.adapter) × (b.out ≡ false)
  still_mapped f n a flying of_it there at mapped untaken =
      let (b, there', goes) = later a there in (
        b,
        there',
        goes.number ∙ at,
        goes.adapter,
        false_from_ne_true b.out (λ out. elim (activation_from c run past e b there') [
          | activation_begun fresh ↦ true≢false (sym out ∙ fresh.out)
          | activation_stood a' was step ↦ (let same : a' ≡ a = sound.activation_alone a' a was there (sym step.later.number ∙ goes.number) in
              elim (step.out_back out) [
                | inl before ↦ true≢false (sym before ∙ (ap (λ x. x.out) same ∙ mapped))
                | inr other ↦ elim other [
                  | inl leaves ↦ true≢false (sym (used_by t.flights f n flying of_it) ∙ (ap (is_used t.flights) (sym (goes.number ∙ at)) ∙ leaves.2))
                  | inr takes ↦ untaken (subst (λ m. TakesOut c run past s e m) (ap (λ x. x.number) same ∙ at) takes)
                ]
              ])
        ]),
      )

  activations_after : (f : Flight) (n : ℕ) → In f t.flights → f.activation ≡ Some n → (b : Activation) × In b t.activations × (b.number ≡ n)
      × (b.adapter ≡ f.adapter) × (b.out ≡ false)
  activations_after f n flying of_it =
      elim (flight_from past s c run e f flying) [
        | flew was ↦ (let (a, there, at, adapter, mapped) = held_.activations f n was of_it in
            let b = still_mapped f n a flying of_it there at mapped
            (λ takes. true≢false (sym (used_by s.flights f n was of_it) ∙ (taken_in takes.0 n takes.1 takes.2 a there at).2)) in
            (b.0, b.1, b.2, b.3 ∙ adapter, b.4))
        | begins w r v key is has for_ ↦ by_verdict w r v key is has for_
      ]
    where
      by_verdict : (w r : ℕ) (v : Verdict) (key : Key) → e ≡ Admit w r v → key_in (call_of past r) ≡ Some key → flight_for s r key v ≡ Some f → (b : Activation)
          × In b t.activations × (b.number ≡ n) × (b.adapter ≡ f.adapter) × (b.out ≡ false)
      by_verdict w r (Serve m) key is has for_ =
          (let told = served_by c run past sound w r (Serve m) key refl (admission_is c run past w r (Serve m) (as_this (Admit w r (Serve m)) is)).told has in
          let mn : Some m ≡ Some n = ap (λ o. elim o [ Some g ↦ g.activation | None ↦ None ]) for_ ∙ of_it in
          let met : adapter_met (walk s.nodes key.path) ≡ f.adapter = ap (λ o. elim o [ Some g ↦ g.adapter | None ↦ f.adapter ]) for_ in
          elim told.how [
            | active a there at of_id is_active' same ↦ (let g : Serve a.number ≡ Serve m = same in let number : a.number ≡ n = cc in
                let lives : a.ending ≡ false = not_true a.ending (and_parts (is_complete a) (not a.ending) is_active').1 in
                let b = still_mapped f n a flying of_it there number (false_from_ne_true a.out (λ out. true≢false (sym (held_.out_ending a there out) ∙ lives)))
                (λ takes. let x : Admit w r (Serve m) ≡ TakeOut takes.0 n takes.1 = sym is ∙ takes.2 in cc) in
                (b.0, b.1, b.2, b.3 ∙ (at ∙ met), b.4))
            | preset name same ↦ absurd (let g : Preset name ≡ Serve m = same in cc)
            | located name same ↦ absurd (let g : Locator name ≡ Serve m = same in cc)
            | begun_served activator idle same ↦ absurd (let g : Incarnate (length s.activations) ≡ Serve m = same in cc)
          ])
      by_verdict w r (Incarnate m) key is has for_ =
          (let b = begun_activation w r m key is has in
          let ln : Some (length s.activations) ≡ Some n = ap (λ o. elim o [ Some g ↦ g.activation | None ↦ None ]) for_ ∙ of_it in
          let number : length s.activations ≡ n = cc in
          let met : adapter_met (walk s.nodes key.path) ≡ f.adapter = ap (λ o. elim o [ Some g ↦ g.adapter | None ↦ f.adapter ]) for_ in (
            b.0,
            b.1,
            b.2 ∙ number,
            b.4 ∙ met,
            elim (activation_from c run past e b.0 b.1) [
              | activation_begun fresh ↦ fresh.out
              | activation_stood a was step ↦
                  absurd (let low = sound.counted a was in let x : b.0.number ≡ a.number = step.later.number in
                  let y : b.0.number ≡ length s.activations = b.2 in omega (arith, low, x, y))
            ],
          ))
      by_verdict w r (Preset m) key is has for_ = absurd (let g : None ≡ Some n = ap (λ o. elim o [ Some g ↦ g.activation | None ↦ None ]) for_ ∙ of_it in cc)
      by_verdict w r (Locator m) key is has for_ = absurd (let g : None ≡ Some n = ap (λ o. elim o [ Some g ↦ g.activation | None ↦ None ]) for_ ∙ of_it in cc)
      by_verdict w r Try key is has for_ = absurd (let g : None ≡ Some n = ap (λ o. elim o [ Some g ↦ g.activation | None ↦ None ]) for_ ∙ of_it in cc)
      by_verdict w r (Refuse x) key is has for_ = absurd (let g : None ≡ Some f = for_ in cc)
      by_verdict w r (Forward x) key is has for_ = absurd (let g : None ≡ Some f = for_ in cc)
      by_verdict w r Addressing key is has for_ = absurd (let g : None ≡ Some f = for_ in cc)
      by_verdict w r Here key is has for_ = absurd (let g : None ≡ Some f = for_ in cc)
      by_verdict w r Unknown key is has for_ = absurd (let g : None ≡ Some f = for_ in cc)
      by_verdict w r (Answer x) key is has for_ = absurd (let g : None ≡ Some f = for_ in cc)
      by_verdict w r Wait key is has for_ = absurd (let g : None ≡ Some f = for_ in cc)

  out_ending_after : (b : Activation) → In b t.activations → b.out ≡ true → b.ending ≡ true
  out_ending_after b there out =
      elim (activation_from c run past e b there) [
        | activation_begun fresh ↦ absurd (true≢false (sym out ∙ fresh.out))
        | activation_stood a was step ↦ elim (step.out_back out) [
          | inl before ↦ step.later.ending (held_.out_ending a was before)
          | inr other ↦ elim other [ inl leaves ↦ leaves.1 | inr takes ↦ step.later.ending (taken_in takes.0 a.number takes.1 takes.2 a was refl).1 ]
        ]
      ]

  told_out_after : (b : Activation) → In b t.activations → b.etherealized ≡ true → b.out ≡ true
  told_out_after b there told =
      elim (activation_from c run past e b there) [
        | activation_begun fresh ↦ absurd (true≢false (sym told ∙ fresh.etherealized))
        | activation_stood a was step ↦ step.later.out (elim (step.told_back told) [
          | inl before ↦ held_.told_out a was before
          | inr tells ↦ (let holds : Holds past s (Removing a.number) = subst (λ x. Holds past s x) tells.4 (held_.stages tells.0) in
              ap (λ x. x.out) (sound.activation_alone a holds.0 was holds.1 (sym holds.2)) ∙ holds.3)
        ])
      ]

  pub manned_step : IsManned c run (e ∷ past)
  manned_step = record {
    stages = stage_holds;
    arrival_alone = arrivals_alone;
    removal_alone = removals_alone;
    begun_alone = begun_alones;
    manned = manned_after;
    flight_alone = flights_alone;
    activations = activations_after;
    out_ending = out_ending_after;
    told_out = told_out_after;
  }

module _ (c : Config) (run limit : ℕ) where
  opens_manned : IsManned c run []
  opens_manned = record {
    stages = λ w. tt;
    arrival_alone = λ w v r at at'. absurd (let f : None ≡ Some r = at in cc);
    removal_alone = λ w v n at at'. absurd (let f : Free ≡ Removing n = at in cc);
    begun_alone = λ w v r q n at at'. absurd (let f : Free ≡ Incarnating r n = at in cc);
    manned = λ f there. absurd (no_flights f there);
    flight_alone = λ f g there there' same. absurd (no_flights f there);
    activations = λ f n there of_it. absurd (no_flights f there);
    out_ending = λ a there out. absurd (true≢false (sym out ∙ (all_open c run a there).0));
    told_out = λ a there told. absurd (true≢false (sym told ∙ (all_open c run a there).2));
  }
    where
      no_flights : (f : Flight) → In f (standing c run []).flights → ⊥
      no_flights f there = (let none = (messages c run 0 [] tt f there).arrived in omega (arith, none))

  pub all_manned : (h : List Entry) → IsGiven c run → IsGivenAlone c run → IsWithinLimits c limit → IsLegal c run limit h → IsManned c run h
  all_manned [] given alone within legal = opens_manned
  all_manned (e ∷ past) given alone within legal =
      manned_step c run limit past e legal.0 (legal_sound c run limit past given within legal.1) (legal_sound c run limit (e ∷ past) given within legal) alone
      (all_manned past given alone within legal.1)

-- in what is out nothing is in flight
pub out_unused : (c : Config) (run : ℕ) (h : List Entry) → IsManned c run h → IsSound c run (standing c run h) → (a : Activation)
    → In a (standing c run h).activations → a.out ≡ true → is_used (standing c run h).flights a.number ≡ false
out_unused c run h held_ sound a there out =
    false_from_ne_true (is_used (standing c run h).flights a.number) (λ used.
    let f = some_in (λ g. elim g.activation [ Some m ↦ m == a.number | None ↦ false ]) (standing c run h).flights used in
    let b = held_.activations f.0 a.number f.1 (activation_is f.0.activation f.2) in
    true≢false (sym out ∙ (ap (λ x. x.out) (sound.activation_alone a b.0 there b.1 (sym b.2)) ∙ b.4)))
  where
    activation_is : (o : Option ℕ) → (elim o [ Some m ↦ m == a.number | None ↦ false ]) ≡ true → o ≡ Some a.number
    activation_is (Some m) is = ap (λ x. Some x) (eqb-true m a.number is)
    activation_is None is = absurd (let e : false ≡ true = is in cc)

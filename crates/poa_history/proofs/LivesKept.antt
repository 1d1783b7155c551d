-- Every legal history keeps the lifetime of its activations.
use Rattle.std.specs.Prelude.{◌≡◌, ℕ, zero, suc, Bool, true, false, not, ◌&&◌, ◌||◌, ◌==◌, if◌then◌else◌, List, [], ◌∷◌, ◌++◌, map, length, find, All, Option, Some, None, slice_get, refl}
use Rattle.std.proofs.Common.{inl, inr, sym, subst, ap, ap₂, ◌∙◌, arith}
use Rattle.std.proofs.lemmas.Bool.{cond_both, and_parts, true≢false, false_from_ne_true, eqb-true, eq-eqb}
use Rattle.std.proofs.lemmas.List.{length-map}
use Rattle.std.proofs.lemmas.List.Elements.{All-nil, All-cons}
use Rattle.std.proofs.lemmas.Option.{slice_get_within}
use Rattle.poa_base.specs.declared.Config.{Config}
use Rattle.poa_base.specs.declared.Key.{Key}
use Rattle.poa_base.specs.declared.Command.{Command}
use Rattle.poa_base.specs.declared.Command.TheVariants.{Manager, Create, Destroy, Activate, ActivateId, Deactivate, Reference, Preset as PresetLine, Forward as ForwardLine, Unforward, Shutdown, Bad}
use Rattle.poa_base.specs.declared.Order.TheVariants.{Activate as ActivateAll, Hold, Discard, Deactivate as DeactivateAll}
use Rattle.poa_base.specs.declared.Call.{Call}
use Rattle.poa_base.specs.declared.Call.TheVariants.{Request, Locate, Line}
use Rattle.poa_base.specs.declared.Sid.{Sid}
use Rattle.poa_base.specs.declared.Verdict.{Verdict}
use Rattle.poa_base.specs.declared.Verdict.TheVariants.{Serve, Preset, Locator, Incarnate, Try, Refuse, Forward, Addressing, Here, Unknown, Answer, Wait}
use Rattle.poa_base.specs.declared.Entry.{Entry}
use Rattle.poa_base.specs.declared.Entry.TheVariants.{Entered, Arrive, Filled, Left, Collect, Admit, Tried, Incarnated, Run, Done, TakeOut, Etherealized, Abandon}
use Rattle.poa_base.specs.declared.Attempt.{Attempt}
use Rattle.poa_base.specs.declared.Attempt.TheVariants.{Yes, No, Raised, Dying as ParentDying}
use Rattle.poa_base.specs.declared.Incarnation.{Incarnation}
use Rattle.poa_base.specs.declared.Incarnation.TheVariants.{Fresh, Named, Double, Forward as ForwardTo, Raise}
use Rattle.history_standing.specs.declared.activation.Activation.{Activation}
use Rattle.history_standing.specs.declared.activation.Phase.TheVariants.{Begun, Complete, Void}
use Rattle.history_standing.specs.declared.stage.Stage.{Stage}
use Rattle.history_standing.specs.declared.stage.Stage.TheVariants.{Free, Trying, Incarnating, Serving, Ran, Removing}
use Rattle.history_standing.specs.Paths.{same_bytes}
use Rattle.history_standing.specs.Trees.{In}
use Rattle.history_standing.specs.Templates.{has_activator, manager_number, servant_number}
use Rattle.history_standing.specs.Arrivals.{call_of}
use Rattle.history_standing.specs.Stages.{stage, arrival_in, admitted}
use Rattle.history_standing.specs.Standings.{Standing, is_complete, is_ending, is_of, is_used}
use Rattle.history_standing.specs.Ends.{is_over, let_out}
use Rattle.history_standing.specs.Keys.{key_in}
use Rattle.history_standing.specs.Logs.{is_accepted, command_in, command_done}
use Rattle.history_standing.specs.Commands.{is_implicit, live_at}
use Rattle.history_standing.specs.Changes.{standing, changed, with_admitted, with_made_activation, with_manager_off, with_reference, with_command, without_flight, with_tried, with_incarnated, with_etherealized}
use Rattle.history_standing.specs.Situations.{is_changing}
use Rattle.poa_history.specs.Turns.{activation_numbered}
use Rattle.poa_history.specs.Legal.{MayFollow, IsLegal}
use Rattle.history_standing.specs.Opening.{opening}
use Rattle.poa_history.specs.Sound.{IsGiven, IsSound}
use Rattle.poa_history.specs.Bounds.{IsWithinLimits}
use Rattle.poa_history.specs.Alone.{IsGivenAlone}
use Rattle.poa_history.specs.InFlight.{named, IsRunning, Holds, IsManned}
use Rattle.poa_history.specs.Lifetime.{IsServable, IsRemovable, IsEtherealizable, KeepsLives, BeginsFreely, OpensFreely, HasLifetime}
use Rattle.history_standing.proofs.Finding.{find_in, find_none}
use Rattle.history_standing.proofs.Leading.{bytes_same}
use Rattle.poa_history.proofs.ActivationsLater.{later_let_out}
use Rattle.poa_history.proofs.ChangeSound.{MayMove}
use Rattle.poa_history.proofs.StepMoves.{may_move}
use Rattle.poa_history.proofs.TurnTells.{IsAdmission, admission_is, takeout_is, removal_is}
use Rattle.poa_history.proofs.Served.{served_by, active, preset, located, incarnated}
use Rattle.poa_history.proofs.ActivationsFrom.{IsBegun, incarnating, activating, activating_id, referring, stood, begun, activation_from}
use Rattle.poa_history.proofs.CommandAnswers.{begin_keyed}
use Rattle.poa_history.proofs.IdsFew.{has_ordinal}
use Rattle.poa_history.proofs.LegalSound.{legal_sound}
use Rattle.poa_history.proofs.AloneKept.{all_open}
use Rattle.poa_history.proofs.MannedKept.{out_unused, all_manned}
use Rattle.poa_history.proofs.Untouched.{activations_in, activations_tried}
use Rattle.history_standing.proofs.Tests.{not_true}

-- an element that a list gives is one of it
got_in : {A : Type 0} (xs : List A) (i : ℕ) (x : A) → slice_get xs i ≡ Some x → In x xs
got_in [] i x got = absurd (let e : None ≡ Some x = got in cc)
got_in (y ∷ xs) zero x got = inl (let e : Some y ≡ Some x = got in cc)
got_in (y ∷ xs) (suc i) x got = inr (got_in xs i x got)

got_last : {A : Type 0} (xs : List A) (y x : A) → slice_get (xs ++ y ∷ []) (length xs) ≡ Some x → x ≡ y
got_last [] y x got = (let e : Some y ≡ Some x = got in cc)
got_last (z ∷ xs) y x got = got_last xs y x got

got_image : {A B : Type 0} (f : A → B) (xs : List A) (i : ℕ) (y : B) → slice_get (map f xs) i ≡ Some y → (x : A) × (slice_get xs i ≡ Some x) × (y ≡ f x)
got_image f [] i y got = absurd (let e : None ≡ Some y = got in cc)
got_image f (x ∷ xs) zero y got = (x, refl, (let e : Some (f x) ≡ Some y = got in cc))
got_image f (x ∷ xs) (suc i) y got = got_image f xs i y got

all_by : {A : Type 0} (P : A → Type 0) (xs : List A) → ((x : A) → In x xs → P x) → All P xs
all_by P [] each = All-nil P
all_by P (x ∷ xs) each = All-cons P x xs (each x (inl refl)) (all_by P xs (λ y there. each y (inr there)))

-- an entry begins one activation at most, with the next number
pub data Shape (before after : List Activation) : Type 0 where
  as_many : length after ≡ length before → Shape before after
  one_more : (b : Activation) → b.number ≡ length before → after ≡ before ++ b ∷ [] → Shape before after

module _ (c : Config) (run : ℕ) where
  mapped_shape : (s : Standing) (f : Activation → Activation) → Shape s.activations (map f s.activations)
  mapped_shape s f = as_many (length-map s.activations f)

  off_shape : (s : Standing) (name : List ℕ)
      → Shape s.activations (activations_in (elim (manager_number c name) [ Some m ↦ with_manager_off c m s | None ↦ s ]))
  off_shape s name =
      elim (manager_number c name) as (λ o. Shape s.activations (activations_in (elim o [ Some m ↦ with_manager_off c m s | None ↦ s ])))
      [ Some m ↦ mapped_shape s _ | None ↦ as_many refl ]

  reference_shape : (s : Standing) (p : List (List ℕ)) (servant : List ℕ) → Shape s.activations (with_reference c run p servant s).activations
  reference_shape s p servant =
      elim (live_at s p) as (λ o. Shape s.activations
      (activations_in
      (elim o [
        | Some n ↦
            (elim (servant_number c servant) [ Some k ↦ (if is_implicit c s n k then with_made_activation c run p servant s else s) | None ↦ s ])
        | None ↦ s
      ]))) [
        | Some n ↦ elim (servant_number c servant) as (λ o. Shape s.activations (activations_in (elim o [
          | Some k ↦
              (if is_implicit c s n k then with_made_activation c run p servant s else s)
          | None ↦ s
        ]))) [
          | Some k ↦
              cond_both (is_implicit c s n k) (with_made_activation c run p servant s) s (λ t. Shape s.activations t.activations) (λ _. one_more _ refl refl)
              (λ _. as_many refl)
          | None ↦ as_many refl
        ]
        | None ↦ as_many refl
      ]

  command_shape : (s : Standing) (command : Option Command) → Shape s.activations (with_command c run command s).activations
  command_shape s None = as_many refl
  command_shape s (Some (Manager name ActivateAll)) = as_many refl
  command_shape s (Some (Manager name (Hold wait))) = as_many refl
  command_shape s (Some (Manager name (Discard wait))) = as_many refl
  command_shape s (Some (Manager name (DeactivateAll true wait))) = off_shape s name
  command_shape s (Some (Manager name (DeactivateAll false wait))) = as_many refl
  command_shape s (Some (Create p)) = as_many refl
  command_shape s (Some (Destroy p etherealize wait)) = mapped_shape s _
  command_shape s (Some (Activate p servant)) = one_more _ refl refl
  command_shape s (Some (ActivateId p oid servant)) = one_more _ refl refl
  command_shape s (Some (Deactivate p oid)) = mapped_shape s _
  command_shape s (Some (Reference p servant)) = reference_shape s p servant
  command_shape s (Some (PresetLine p servant)) = as_many refl
  command_shape s (Some (ForwardLine p endpoint)) = as_many refl
  command_shape s (Some (Unforward p)) = as_many refl
  command_shape s (Some Shutdown) = mapped_shape s _
  command_shape s (Some (Bad word)) = as_many refl

  admitted_shape : (s : Standing) (r : ℕ) (key : Option Key) (v : Verdict) → Shape s.activations (with_admitted r key v s).activations
  admitted_shape s r None v = as_many refl
  admitted_shape s r (Some key) (Serve n) = as_many refl
  admitted_shape s r (Some key) (Preset n) = as_many refl
  admitted_shape s r (Some key) (Locator n) = as_many refl
  admitted_shape s r (Some key) (Incarnate n) = one_more _ refl refl
  admitted_shape s r (Some key) Try = as_many refl
  admitted_shape s r (Some key) (Refuse x) = as_many refl
  admitted_shape s r (Some key) (Forward x) = as_many refl
  admitted_shape s r (Some key) Addressing = as_many refl
  admitted_shape s r (Some key) Here = as_many refl
  admitted_shape s r (Some key) Unknown = as_many refl
  admitted_shape s r (Some key) (Answer x) = as_many refl
  admitted_shape s r (Some key) Wait = as_many refl

  fewer_shape : (s : Standing) (r : Option ℕ) → Shape s.activations (without_flight r s).activations
  fewer_shape s None = as_many refl
  fewer_shape s (Some r) = as_many refl

  tried_shape : (s : Standing) (r : Option ℕ) (answer : Attempt) → Shape s.activations (with_tried r answer s).activations
  tried_shape s r (Yes n) = as_many (ap length (activations_tried s r (Yes n)))
  tried_shape s r No = fewer_shape s r
  tried_shape s r Raised = fewer_shape s r
  tried_shape s r ParentDying = fewer_shape s r

  incarnated_shape : (s : Standing) (b : Stage) (answer : Incarnation) → Shape s.activations (with_incarnated c b answer s).activations
  incarnated_shape s (Incarnating r n) (Fresh m) = mapped_shape s _
  incarnated_shape s (Incarnating r n) (Named name) = mapped_shape s _
  incarnated_shape s (Incarnating r n) Double = mapped_shape s _
  incarnated_shape s (Incarnating r n) (ForwardTo x) = mapped_shape s _
  incarnated_shape s (Incarnating r n) (Raise x) = mapped_shape s _
  incarnated_shape s Free answer = as_many refl
  incarnated_shape s (Trying r) answer = as_many refl
  incarnated_shape s (Serving r) answer = as_many refl
  incarnated_shape s (Ran r) answer = as_many refl
  incarnated_shape s (Removing n) answer = as_many refl

  etherealized_shape : (s : Standing) (b : Stage) → Shape s.activations (with_etherealized b s).activations
  etherealized_shape s Free = as_many refl
  etherealized_shape s (Trying r) = as_many refl
  etherealized_shape s (Incarnating r n) = as_many refl
  etherealized_shape s (Serving r) = as_many refl
  etherealized_shape s (Ran r) = as_many refl
  etherealized_shape s (Removing n) = mapped_shape s _

  admit_shape : (past : List Entry) (s : Standing) (w r : ℕ) (v : Verdict) (call : Option Call) → call_of past r ≡ call
      → Shape s.activations (changed c run past (Admit w r v) s).activations
  admit_shape past s w r v None at =
      subst (λ d. Shape s.activations (with_command c run d (with_admitted r (key_in (call_of past r)) v s)).activations)
      (sym (cond_both (is_accepted v) (command_in (call_of past r)) None (λ o. o ≡ None) (λ _. ap command_in at) (λ _. refl)))
      (admitted_shape s r (key_in (call_of past r)) v)
  admit_shape past s w r v (Some (Request head target operation body)) at =
      subst (λ d. Shape s.activations (with_command c run d (with_admitted r (key_in (call_of past r)) v s)).activations)
      (sym (cond_both (is_accepted v) (command_in (call_of past r)) None (λ o. o ≡ None) (λ _. ap command_in at) (λ _. refl)))
      (admitted_shape s r (key_in (call_of past r)) v)
  admit_shape past s w r v (Some (Locate head target)) at =
      subst (λ d. Shape s.activations (with_command c run d (with_admitted r (key_in (call_of past r)) v s)).activations)
      (sym (cond_both (is_accepted v) (command_in (call_of past r)) None (λ o. o ≡ None) (λ _. ap command_in at) (λ _. refl)))
      (admitted_shape s r (key_in (call_of past r)) v)
  admit_shape past s w r v (Some (Line number command)) at =
      subst (λ k. Shape s.activations (with_command c run (command_done past (Admit w r v)) (with_admitted r k v s)).activations) (sym (ap key_in at))
      (command_shape s (command_done past (Admit w r v)))

  pub changed_shape : (past : List Entry) (s : Standing) (e : Entry) → Shape s.activations (changed c run past e s).activations
  changed_shape past s (Entered conn) = as_many refl
  changed_shape past s (Arrive conn size call) = as_many refl
  changed_shape past s (Filled conn size) = as_many refl
  changed_shape past s (Left conn) = as_many refl
  changed_shape past s (Collect conn a) = as_many refl
  changed_shape past s (Admit w r v) = admit_shape past s w r v (call_of past r) refl
  changed_shape past s (Tried w a) = tried_shape s (arrival_in (stage past w)) a
  changed_shape past s (Incarnated w a) = incarnated_shape s (stage past w) a
  changed_shape past s (Run w) = as_many refl
  changed_shape past s (Done w) = fewer_shape s (arrival_in (stage past w))
  changed_shape past s (TakeOut w n x) = mapped_shape s _
  changed_shape past s (Etherealized w x y) = etherealized_shape s (stage past w)
  changed_shape past s (Abandon w) = as_many refl

  -- what stands at the next place is new, and has the next number
  next_is : (past : List Entry) (e : Entry) (a : Activation)
      → slice_get (standing c run (e ∷ past)).activations (length (standing c run past).activations) ≡ Some a
      → a.number ≡ length (standing c run past).activations
  next_is past e a got =
      let s = standing c run past in
      let t = changed c run past e s in
      let found = got_image (let_out c t) t.activations (length s.activations) a got in
      elim (changed_shape past s e) [
        | as_many same ↦ absurd (let low = slice_get_within t.activations (length s.activations) found.0 found.1 in omega (arith, low, same))
        | one_more b number grown ↦ ap (λ x. x.number) found.2
            ∙ ((later_let_out c t found.0).number
            ∙ (ap (λ x. x.number) (got_last s.activations b found.0 (subst (λ xs. slice_get xs (length s.activations) ≡ Some found.0) grown found.1)) ∙ number))
      ]

module _ (c : Config) (run limit : ℕ) (past : List Entry) (e : Entry) (may : MayFollow c run limit past e) (sound : IsSound c run (standing c run past))
    (moves : MayMove c run past (standing c run past) sound e) (held_ : IsManned c run past) where
  abbrev s : Standing
  s = standing c run past

  activation_found : (a : Activation) → In a s.activations → activation_numbered s a.number ≡ Some a
  activation_found a there =
      elim (find (λ b. b.number == a.number) s.activations) as (λ o. find (λ b. b.number == a.number) s.activations ≡ o → o ≡ Some a) [
        | None ↦ λ none. absurd (find_none (λ b. b.number == a.number) a s.activations none there (eq-eqb a.number a.number refl))
        | Some b ↦
            λ found.
            (let is = find_in (λ x. x.number == a.number) b s.activations found in
            ap (λ x. Some x) (sound.activation_alone b a is.0 there (eqb-true b.number a.number is.1)))
      ] refl

  numbered_found : (n : ℕ) (a : Activation) → In a s.activations → a.number ≡ n → activation_numbered s n ≡ Some a
  numbered_found n a there at = subst (λ m. activation_numbered s m ≡ Some a) at (activation_found a there)

  complete_by : (a : Activation) (v : Sid) → a.phase ≡ Complete v → is_complete a ≡ true
  complete_by a v at = ap (λ p. elim p [ Complete u ↦ true | Begun ↦ false | Void ↦ false ]) at

  -- an activation that is named has its servant, and is in the map
  lives_admit : (w r : ℕ) (v : Verdict) → e ≡ Admit w r v → ((n : ℕ) → v ≡ Serve n → IsServable s n) × ((n : ℕ) → v ≡ Incarnate n → n ≡ length s.activations)
  lives_admit w r v is = (serves, begins_)
    where
      admission : IsAdmission c run past w r v
      admission = admission_is c run past w r v (subst (λ x. MayFollow c run limit past x) is may)

      serves : (n : ℕ) → v ≡ Serve n → IsServable s n
      serves n which =
          let told' = subst (λ x. IsAdmission c run past w r x) which admission in
          let key = begin_keyed c run past w r (Serve n) refl told'.told in
          let it = served_by c run past sound w r (Serve n) key.0 refl told'.told key.1 in
          elim it.how [
            | active a there at of_id is_active' same ↦ (let f : Serve a.number ≡ Serve n = same in let number : a.number ≡ n = cc in
                let parts = and_parts (is_complete a) (not a.ending) is_active' in
                record {
                  it = a;
                  begun = numbered_found n a there number;
                  complete = parts.0;
                  mapped = false_from_ne_true a.out (λ out. true≢false (sym (held_.out_ending a there out) ∙ not_true a.ending parts.1));
                })
            | preset name same ↦ absurd (let f : Preset name ≡ Serve n = same in cc)
            | located name same ↦ absurd (let f : Locator name ≡ Serve n = same in cc)
            | incarnated activator idle same ↦ absurd (let f : Incarnate (length s.activations) ≡ Serve n = same in cc)
          ]

      begins_ : (n : ℕ) → v ≡ Incarnate n → n ≡ length s.activations
      begins_ n which =
          let told' = subst (λ x. IsAdmission c run past w r x) which admission in
          let key = begin_keyed c run past w r (Incarnate n) refl told'.told in
          let it = served_by c run past sound w r (Incarnate n) key.0 refl told'.told key.1 in
          elim it.how [
            | active a there at of_id is_active' same ↦ absurd (let f : Serve a.number ≡ Incarnate n = same in cc)
            | preset name same ↦ absurd (let f : Preset name ≡ Incarnate n = same in cc)
            | located name same ↦ absurd (let f : Locator name ≡ Incarnate n = same in cc)
            | incarnated activator idle same ↦ (let f : Incarnate (length s.activations) ≡ Incarnate n = same in cc)
          ]

  lives_run : (w r n : ℕ) → stage past w ≡ Serving r → named (admitted past r) ≡ Some n → IsServable s n
  lives_run w r n at names =
      let running : IsRunning past s r = subst (λ b. Holds past s b) at (held_.stages w) in
      let names' : named (Some running.verdict) ≡ Some n = ap named (sym running.by) ∙ names in
      let a = running.served n names' in
      let f = running.flying in
      let b = held_.activations f.0 n f.1 (f.3 ∙ names') in
      let same : b.0 ≡ a.0 = sound.activation_alone b.0 a.0 b.1 a.1 (b.2 ∙ sym a.2) in
      record { it = a.0; begun = numbered_found n a.0 a.1 a.2; complete = complete_by a.0 a.3.0 a.3.1; mapped = ap (λ x. x.out) (sym same) ∙ b.4 }

  lives_takeout : (w n : ℕ) (etherealize : Bool) → e ≡ TakeOut w n etherealize → IsRemovable s n etherealize
  lives_takeout w n etherealize is =
      let it = takeout_is c run past w n etherealize (subst (λ x. MayFollow c run limit past x) is may) in
      let due =
      and_parts (is_complete it.it && (is_ending it.it && (has_activator c it.it.path && not it.it.out)))
      (not (is_used s.flights it.it.number) && not (is_changing c s.activations it.it.adapter)) it.due in
      let complete = and_parts (is_complete it.it) (is_ending it.it && (has_activator c it.it.path && not it.it.out)) due.0 in
      let ends = and_parts (is_ending it.it) (has_activator c it.it.path && not it.it.out) complete.1 in
      record {
        it = it.it;
        begun = numbered_found n it.it it.there it.numbered;
        complete = complete.0;
        ending = ends.0;
        mapped = not_true it.it.out (and_parts (has_activator c it.it.path) (not it.it.out) ends.1).1;
        unused = ap (is_used s.flights) (sym it.numbered)
            ∙ not_true (is_used s.flights it.it.number)
            (and_parts (not (is_used s.flights it.it.number)) (not (is_changing c s.activations it.it.adapter)) due.1).0;
        told = sym it.told;
      }

  lives_removal : (w : ℕ) (cleanup remaining : Bool) → e ≡ Etherealized w cleanup remaining → IsEtherealizable s (stage past w) cleanup remaining
  lives_removal w cleanup remaining is =
      let it = removal_is c run past w cleanup remaining (subst (λ x. MayFollow c run limit past x) is may) in
      let there = find_in (λ b. b.number == it.number) it.it s.activations it.found in
      let holds : Holds past s (Removing it.number) = subst (λ b. Holds past s b) it.begun (held_.stages w) in
      let same : holds.0 ≡ it.it = sound.activation_alone holds.0 it.it holds.1 there.0 (holds.2 ∙ sym (eqb-true it.it.number it.number there.1)) in
      record {
        number = it.number;
        it = it.it;
        begun = it.begun;
        found = it.found;
        out = ap (λ x. x.out) (sym same) ∙ holds.3;
        loud = ap (λ x. x.quiet) (sym same) ∙ holds.4;
        first = ap (λ x. x.etherealized) (sym same) ∙ holds.5;
        unused = ap (is_used s.flights) (sym (eqb-true it.it.number it.number there.1))
            ∙ out_unused c run past held_ sound it.it there.0 (ap (λ x. x.out) (sym same) ∙ holds.3);
        cleanup_is = sym it.cleanup_is;
        remaining_is = sym it.remaining_is;
      }

  keeps : (x : Entry) → e ≡ x → KeepsLives c run past x
  keeps (Run w) is = λ r n at names. lives_run w r n at names
  keeps (Admit w r v) is = lives_admit w r v is
  keeps (TakeOut w n etherealize) is = lives_takeout w n etherealize is
  keeps (Etherealized w cleanup remaining) is = lives_removal w cleanup remaining is
  keeps (Entered conn) is = tt
  keeps (Arrive conn size call) is = tt
  keeps (Filled conn size) is = tt
  keeps (Left conn) is = tt
  keeps (Collect conn a) is = tt
  keeps (Tried w a) is = tt
  keeps (Incarnated w a) is = tt
  keeps (Done w) is = tt
  keeps (Abandon w) is = tt

  -- every earlier activation of the id is over
  over_before : (a : Activation) → IsBegun c run past s e a → (b : Activation) → In b s.activations → b.adapter ≡ a.adapter → b.oid ≡ a.oid → is_over c b ≡ true
  over_before a fresh b there at of_id =
      elim fresh.how [
        | incarnating w r n key same has adapter path oid phase ↦
            ((moves.admits w r (Incarnate n) key same has).begins n refl).over b there (at ∙ adapter) (of_id ∙ oid)
        | activating p servant done adapter path oid phase ↦ (moves.does (Activate p servant) done).over b there (at ∙ adapter) (of_id ∙ oid)
        | activating_id p oid' servant done adapter path oid phase ↦ (moves.does (ActivateId p oid' servant) done).over b there (at ∙ adapter) (of_id ∙ oid)
        | referring p servant n k done lives known implicit adapter path oid phase ↦
            (moves.does (Reference p servant) done n k lives known implicit).over b there (at ∙ adapter) (of_id ∙ oid)
      ]

  freely : BeginsFreely c run past e
  freely a got =
      let number = next_is c run past e a got in
      elim (activation_from c run past e a (got_in (standing c run (e ∷ past)).activations (length s.activations) a got)) [
        | stood b was step ↦ absurd (let low = sound.counted b was in let same : a.number ≡ b.number = step.later.number in omega (arith, low, same, number))
        | begun fresh ↦ record {
          number = number;
          free = all_by (λ b. is_of a.adapter a.oid b ≡ true → is_over c b ≡ true) s.activations
              (λ b there of_it.
              (let parts = and_parts (b.adapter == a.adapter) (same_bytes b.oid a.oid) of_it in
              over_before a fresh b there (eqb-true b.adapter a.adapter parts.0) (bytes_same b.oid a.oid parts.1)));
        }
      ]

  pub lives_step : KeepsLives c run past e × BeginsFreely c run past e
  lives_step = (keeps e refl, freely)

-- a configured object has its servant from the start, and isn't over then
opened_not_over : (c : Config) (run : ℕ) (a : Activation) → In a (opening c run).activations → is_over c a ≡ false
opened_not_over c run a there =
    let opens = all_open c run a there in
    ap₂ (λ phase out. (elim phase [ Void ↦ true | Begun ↦ false | Complete t ↦ false ]) ||
    (out && (a.quiet || (not (has_activator c a.path) || a.etherealized)))) opens.1.1 opens.0

opens_freely : (c : Config) (run : ℕ) → IsGiven c run → OpensFreely c run
opens_freely c run given a b a_in b_in at of_id =
    given.opens.life_alone a b a_in b_in at of_id (opened_not_over c run a a_in) (opened_not_over c run b b_in)

module _ (c : Config) (run limit : ℕ) where
  pub has_lifetime : (h : List Entry) → IsGiven c run → IsGivenAlone c run → IsWithinLimits c limit → IsLegal c run limit h → HasLifetime c run h
  has_lifetime [] given alone within legal = record { opened = opens_freely c run given; kept = tt; freely = tt }
  has_lifetime (e ∷ past) given alone within legal =
      let before = has_lifetime past given alone within legal.1 in
      let sound = legal_sound c run limit past given within legal.1 in
      let moves = may_move c run past sound given.numbered (has_ordinal c run limit within past legal.1) given.implicit limit e legal.0 in
      let step = lives_step c run limit past e legal.0 sound moves (all_manned c run limit past given alone within legal.1) in
      record { opened = before.opened; kept = (step.0, before.kept); freely = (step.1, before.freely) }

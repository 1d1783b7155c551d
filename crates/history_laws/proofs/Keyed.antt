-- A request that was admitted to a servant runs in an activation of its key's path and id, where the adapter keeps its objects
-- and has a servant manager.
use Rattle.history_laws.proofs.Begun.{let_same, next_number}
use Rattle.history_laws.specs.Keyed.{Reaches, Fits, IsKeyed}
use Rattle.history_laws.proofs.RunRows.{is_loose, ties}
use Rattle.poa_base.specs.Policies.{is_retain, is_servant_manager}
use Rattle.poa_base.specs.declared.Attempt.TheVariants.{Dying as ParentDying, No as NoChild, Raised, Yes}
use Rattle.poa_base.specs.declared.Call.{Call}
use Rattle.poa_base.specs.declared.Call.TheVariants.{Line, Locate, Request}
use Rattle.poa_base.specs.declared.Config.{Config}
use Rattle.poa_base.specs.declared.Entry.{Entry}
use Rattle.poa_base.specs.declared.Entry.TheVariants.{Abandon, Admit, Arrive, Collect, Done, Entered, Etherealized, Filled, Incarnated, Left, Run, TakeOut, Tried}
use Rattle.poa_base.specs.declared.Key.{Key}
use Rattle.poa_base.specs.declared.Sid.{Sid}
use Rattle.poa_base.specs.declared.Verdict.{Verdict}
use Rattle.poa_base.specs.declared.Verdict.TheVariants.{Addressing, Answer as AnswerNow, Forward, Here, Incarnate, Locator, Preset, Refuse, Serve, Try, Unknown, Wait}
use Rattle.poa_choose.specs.Laws.{runs}
use Rattle.poa_choose.specs.Table.{first_row}
use Rattle.poa_choose.specs.declared.Choice.TheVariants.{Go}
use Rattle.poa_history.proofs.ActivationsLater.{step_later}
use Rattle.poa_history.proofs.CommandAnswers.{begin_keyed, is_begin}
use Rattle.poa_history.proofs.LegalSound.{legal_sound}
use Rattle.poa_history.proofs.MannedKept.{all_manned}
use Rattle.poa_history.proofs.Served.{IsServed, active as active_served, incarnated as incarnated_served, located as located_served, preset as preset_served, served_by}
use Rattle.poa_history.proofs.StepMoves.{chosen_go}
use Rattle.poa_history.proofs.TableRuns.{is_run}
use Rattle.poa_history.proofs.TurnTells.{IsAdmission, admission_is}
use Rattle.poa_history.specs.Alone.{IsGivenAlone}
use Rattle.history_standing.specs.Arrivals.{arrivals, call_of}
use Rattle.poa_history.specs.Bounds.{IsWithinLimits}
use Rattle.history_standing.specs.Changes.{changed, standing, with_admitted}
use Rattle.history_standing.specs.Ends.{let_out}
use Rattle.history_standing.specs.Keys.{key_in}
use Rattle.poa_history.specs.Legal.{IsLegal, MayFollow}
use Rattle.history_standing.specs.Situations.{facts_of, key_or_none}
use Rattle.poa_history.specs.Sound.{IsGiven, IsSound}
use Rattle.history_standing.specs.Stages.{admitted, arrival_in, is_at, stage}
use Rattle.history_standing.specs.Standings.{Standing, is_active, is_complete, is_void}
use Rattle.history_standing.specs.Templates.{has_activator, policies_at, retains, uses_servant_manager}
use Rattle.poa_history.specs.Turns.{admission}
use Rattle.poa_history.specs.Verdicts.{chosen, verdict_on}
use Rattle.history_standing.specs.declared.activation.Activation.{Activation}
use Rattle.history_standing.specs.declared.activation.Phase.{Phase}
use Rattle.history_standing.specs.declared.activation.Phase.TheVariants.{Begun, Complete, Void}
use Rattle.history_standing.proofs.Members.{image_in, in_back}
use Rattle.history_standing.specs.Trees.{In}
use Rattle.history_standing.specs.Walks.{adapter_met, walk}
use Rattle.std.proofs.Common.{◌∙◌, ap, ap₂, arith, inl, inr, subst, sym}
use Rattle.std.proofs.lemmas.Bool.{and_parts, cond_both, eqb-true, false_from_ne_true, true≢false}
use Rattle.std.specs.Prelude.{◌&&◌, ◌<◌, ◌==◌, ◌||◌, ◌∷◌, ◌≡◌, ◌⊎◌, Bool, List, None, Option, Some, [], false, length, not, refl, true, ℕ}
use Rattle.history_standing.proofs.CallsKept.{arrivals_kept, call_kept}
use Rattle.history_standing.proofs.Tests.{not_true}

-- an arrival that is admitted was so before the entry, or the entry admits it
pub admitted_before : (e : Entry) (past : List Entry) (r : ℕ) (v : Verdict) → admitted (e ∷ past) r ≡ Some v → (admitted past r ≡ Some v)
    ⊎ ((w : ℕ) × (e ≡ Admit w r v))
admitted_before (Entered conn) past r v is = inl is
admitted_before (Arrive conn size call) past r v is = inl is
admitted_before (Filled conn size) past r v is = inl is
admitted_before (Left conn) past r v is = inl is
admitted_before (Collect conn a) past r v is = inl is
admitted_before (Admit w a u) past r v is =
    cond_both (a == r) (Some u) (admitted past r) (λ o. o ≡ Some v → (admitted past r ≡ Some v) ⊎ ((x : ℕ) × (Admit w a u ≡ Admit x r v)))
    (λ same now. inr (w, (let at = eqb-true a r same in let e : Some u ≡ Some v = now in let f : u ≡ v = cc in ap₂ (λ x y. Admit w x y) at f)))
    (λ _ was. inl was) is
admitted_before (Tried w (Yes n)) past r v is =
    cond_both (is_at r (arrival_in (stage past w))) None (admitted past r)
    (λ o. o ≡ Some v → (admitted past r ≡ Some v) ⊎ ((x : ℕ) × (Tried w (Yes n) ≡ Admit x r v)))
    (λ _ none. absurd (let e : None ≡ Some v = none in cc)) (λ _ was. inl was) is
admitted_before (Tried w NoChild) past r v is = inl is
admitted_before (Tried w Raised) past r v is = inl is
admitted_before (Tried w ParentDying) past r v is = inl is
admitted_before (Incarnated w a) past r v is = inl is
admitted_before (Run w) past r v is = inl is
admitted_before (Done w) past r v is = inl is
admitted_before (TakeOut w n x) past r v is = inl is
admitted_before (Etherealized w x y) past r v is = inl is
admitted_before (Abandon w) past r v is = inl is

begins_run : (v : Verdict) → is_run v ≡ true → is_begin v ≡ true
begins_run (Serve n) is = refl
begins_run (Preset n) is = refl
begins_run (Locator n) is = refl
begins_run (Incarnate n) is = refl
begins_run Try is = refl
begins_run (Refuse x) is = is
begins_run (Forward x) is = is
begins_run Addressing is = is
begins_run Here is = is
begins_run Unknown is = is
begins_run (AnswerNow x) is = is
begins_run Wait is = is

module _ (c : Config) (run limit : ℕ) (given : IsGiven c run) (alone : IsGivenAlone c run) (within : IsWithinLimits c limit) where
  stands_later : (past : List Entry) (e : Entry) (n : ℕ) (key : Key) → Reaches (standing c run past) n key → Reaches (standing c run (e ∷ past)) n key
  stands_later past e n key it =
      let (b, there, later) = step_later c run past e it.it it.there in
      record { it = b; there = there; number = later.number ∙ it.number; path = later.path ∙ it.path; oid = later.oid ∙ it.oid }

  fits_later : (past : List Entry) (e : Entry) (key : Key) (v : Verdict) → is_run v ≡ true → Fits c (standing c run past) key v
      → Fits c (standing c run (e ∷ past)) key v
  fits_later past e key (Serve n) runs_ it = stands_later past e n key it
  fits_later past e key (Incarnate n) runs_ it = stands_later past e n key it
  fits_later past e key (Preset name) runs_ it = it
  fits_later past e key (Locator name) runs_ it = it
  fits_later past e key v runs_ it = absurd (let f : false ≡ true = runs_ in cc)

  module _ (past : List Entry) (e : Entry) (legal : IsLegal c run limit (e ∷ past)) (w r : ℕ) where
    abbrev s : Standing
    s = standing c run past

    sound : IsSound c run s
    sound = legal_sound c run limit past given within legal.1

    -- an activation that serves is of the adapter that the walk found
    placed_at : (key : Key) (v : Verdict) → IsServed c run past sound w r v key → (a : Activation) → In a s.activations
        → a.adapter ≡ adapter_met (walk s.nodes key.path) → is_active a ≡ true → a.path ≡ key.path
    placed_at key v served a there at active =
        let active_parts = and_parts (is_complete a) (not a.ending) active in
        let unended = not_true a.ending active_parts.1 in
        let phase = complete_of a active_parts.0 in
        let manned_ = all_manned c run limit past given alone within legal.1 in
        let unvoid : is_void a ≡ false = ap (λ p. elim p as (λ _. Bool) [ Void ↦ true | Begun ↦ false | Complete t ↦ false ]) phase.1 in
        let unout : a.out ≡ false = false_from_ne_true a.out (λ out. true≢false (sym (manned_.out_ending a there out) ∙ unended)) in
        let home = sound.owners a there (ap₂ (λ x o. x || (o && (a.quiet || (not (has_activator c a.path) || a.etherealized)))) unvoid unout) in
        let same = sound.tree.number_alone home.node served.node home.stands served.stands (home.numbered ∙ (at ∙ sym served.numbered)) in
        sym home.placed ∙ (ap (λ n. n.path) same ∙ served.placed)
      where
        complete_of : (x : Activation) → is_complete x ≡ true → (t : Sid) × (x.phase ≡ Complete t)
        complete_of x is = by_phase x.phase refl is
          where
            by_phase : (p : Phase) → x.phase ≡ p → (elim p [ Complete t ↦ true | Begun ↦ false | Void ↦ false ]) ≡ true → (t : Sid) × (x.phase ≡ Complete t)
            by_phase (Complete t) at' yes_ = (t, at')
            by_phase Begun at' no_ = absurd (let f : false ≡ true = no_ in cc)
            by_phase Void at' no_ = absurd (let f : false ≡ true = no_ in cc)

    -- the activation that an incarnation begins
    pub begun_for : (n : ℕ) (key : Key) → e ≡ Admit w r (Incarnate n) → key_in (call_of past r) ≡ Some key → Reaches (standing c run (e ∷ past)) n key
    begun_for n key is has =
        let s1 = changed c run past e s in
        let a : Activation =
        record {
          number = length s.activations;
          adapter = adapter_met (walk s.nodes key.path);
          path = key.path;
          oid = key.oid;
          phase = Begun;
          ending = false;
          quiet = false;
          out = false;
          cleanup = false;
          remaining = false;
          etherealized = false;
        } in
        let there : In a s1.activations =
        subst (λ y. In a (changed c run past y s).activations) (sym is)
        (subst (λ k. In a (with_admitted r k (Incarnate n) s).activations) (sym has) (in_back a s.activations)) in
        record {
          it = let_out c s1 a;
          there = image_in (let_out c s1) a s1.activations there;
          number = let_same c s1 a (λ x. x.number) refl ∙ sym (next_number c run limit given alone within past e legal w r n is);
          path = let_same c s1 a (λ x. x.path) refl;
          oid = let_same c s1 a (λ x. x.oid) refl;
        }

    -- no loose servant by the table
    never_loose : (v : Verdict) (key : Key) → is_loose (Go v) ≡ true → verdict_on c run past r w (call_of past r) ≡ Some v → key_in (call_of past r) ≡ Some key
        → retains (policies_at c key.path) ≡ true → uses_servant_manager (policies_at c key.path) ≡ true → ⊥
    never_loose v key loose told has retains_ manages = by_call (call_of past r) refl told has
      where
        by_row : (call : Option Call) → call_of past r ≡ call → key_in call ≡ Some key → chosen (first_row (facts_of c run past r) w) ≡ Some v → ⊥
        by_row call at has' row =
            let same : (facts_of c run past r).policies ≡ policies_at c key.path = ap (λ k. policies_at c (key_or_none k).path) (ap key_in at ∙ has') in
            true≢false (sym (ap is_loose (chosen_go (first_row (facts_of c run past r) w) v row) ∙ loose)
            ∙ ties (facts_of c run past r) (ap (λ p. is_retain p.retention) same ∙ retains_) (ap (λ p. is_servant_manager p.processing) same ∙ manages) w)

        by_call : (call : Option Call) → call_of past r ≡ call → verdict_on c run past r w call ≡ Some v → key_in call ≡ Some key → ⊥
        by_call None at told' has' = (let f : None ≡ Some key = has' in cc)
        by_call (Some (Line number command)) at told' has' = (let f : None ≡ Some key = has' in cc)
        by_call (Some (Request head target operation body)) at told' has' = by_row (Some (Request head target operation body)) at has' told'
        by_call (Some (Locate head target)) at told' has' = by_row (Some (Locate head target)) at has' told'

    fits_now : (v : Verdict) → is_run v ≡ true → e ≡ Admit w r v → (key : Key) → key_in (call_of past r) ≡ Some key → IsAdmission c run past w r v
        → Fits c (standing c run (e ∷ past)) key v
    fits_now (Serve n) runs_ is key has admission =
        (let served = served_by c run past sound w r (Serve n) key refl admission.told has in
        elim served.how [
          | active_served a there at of_id active same ↦ (let f : Serve a.number ≡ Serve n = same in let number : a.number ≡ n = cc in
              stands_later past e n key
              (record { it = a; there = there; number = number; path = placed_at key (Serve n) served a there at active; oid = of_id }))
          | preset_served name same ↦ absurd (let f : Preset name ≡ Serve n = same in cc)
          | located_served name same ↦ absurd (let f : Locator name ≡ Serve n = same in cc)
          | incarnated_served activator idle same ↦ absurd (let f : Incarnate (length s.activations) ≡ Serve n = same in cc)
        ])
    fits_now (Incarnate n) runs_ is key has admission = begun_for n key is has
    fits_now (Preset name) runs_ is key has admission = never_loose (Preset name) key refl admission.told has
    fits_now (Locator name) runs_ is key has admission = never_loose (Locator name) key refl admission.told has
    fits_now v runs_ is key has admission = absurd (let f : false ≡ true = runs_ in cc)

  pub keyed : (h : List Entry) → IsLegal c run limit h → (r : ℕ) (v : Verdict) → admitted h r ≡ Some v → is_run v ≡ true → IsKeyed c run h r v
  keyed [] legal r v is runs_ = absurd (let f : None ≡ Some v = is in cc)
  keyed (e ∷ past) legal r v is runs_ =
      elim (admitted_before e past r v is) [
        | inl was ↦ (let before = keyed past legal.1 r v was runs_ in record {
          arrived = (let low = before.arrived in let more = arrivals_kept e past in omega (arith, low, more));
          key = before.key;
          has = ap key_in (call_kept e past r before.arrived) ∙ before.has;
          fits = fits_later past e before.key v runs_ before.fits;
        })
        | inr now ↦ (let admission = admission_is c run past now.0 r v (subst (λ x. MayFollow c run limit past x) now.1 legal.0) in
            let key = begin_keyed c run past now.0 r v (begins_run v runs_) admission.told in record {
              arrived = (let low = admission.arrived in let more = arrivals_kept e past in omega (arith, low, more));
              key = key.0;
              has = ap key_in (call_kept e past r admission.arrived) ∙ key.1;
              fits = fits_now past e legal now.0 r v runs_ now.1 key.0 key.1 admission;
            })
      ]

-- what goes to a servant runs
goes_run : (v : Verdict) → runs (Go v) ≡ true → is_run v ≡ true
goes_run (Serve n) goes = refl
goes_run (Preset name) goes = refl
goes_run (Locator name) goes = refl
goes_run (Incarnate n) goes = refl
goes_run v goes = absurd (let f : false ≡ true = goes in cc)

pub keyed_all : (c : Config) (run limit : ℕ) (h : List Entry) → IsGiven c run → IsGivenAlone c run → IsWithinLimits c limit → IsLegal c run limit h
    → (r : ℕ) (v : Verdict) → admitted h r ≡ Some v → runs (Go v) ≡ true → IsKeyed c run h r v
keyed_all c run limit h given alone within legal r v is goes = keyed c run limit given alone within h legal r v is (goes_run v goes)

-- At most one of its kind in an adapter stays so.
use Rattle.std.specs.Prelude.{◌≡◌, ℕ, suc, Bool, true, false, not, ◌&&◌, ◌||◌, ◌==◌, if◌then◌else◌, List, [], ◌∷◌, length, Option, Some, None, ◌⊎◌, refl}
use Rattle.std.proofs.Common.{inl, inr, sym, subst, ap, ap₂, ◌∙◌, arith}
use Rattle.std.proofs.lemmas.Bool.{cond_both, and_parts, or_cases, true≢false, false_from_ne_true, eqb-true, eq-eqb}
use Rattle.poa_base.specs.Policies.{is_single_thread}
use Rattle.poa_base.specs.declared.Config.{Config}
use Rattle.poa_base.specs.declared.Key.{Key}
use Rattle.poa_base.specs.declared.AdapterConf.{AdapterConf}
use Rattle.poa_base.specs.declared.ObjectConf.{ObjectConf}
use Rattle.poa_base.specs.declared.RuleConf.{RuleConf}
use Rattle.poa_base.specs.declared.Gives.{Gives}
use Rattle.poa_base.specs.declared.Gives.TheVariants.{Fresh as FreshKind, Servant, Forward as ForwardRule, Raise as RaiseRule}
use Rattle.poa_base.specs.declared.Command.{Command}
use Rattle.poa_base.specs.declared.Command.TheVariants.{Activate, ActivateId, Reference}
use Rattle.poa_base.specs.declared.Sid.{Sid}
use Rattle.poa_base.specs.declared.Sid.TheVariants.{Named as NamedServant, Fresh as FreshServant}
use Rattle.poa_base.specs.declared.Verdict.{Verdict}
use Rattle.poa_base.specs.declared.Verdict.TheVariants.{Serve, Preset, Locator, Incarnate, Try, Refuse, Forward, Addressing, Here, Unknown, Answer, Wait}
use Rattle.poa_base.specs.declared.Entry.{Entry}
use Rattle.poa_base.specs.declared.Entry.TheVariants.{Admit, Incarnated, TakeOut}
use Rattle.poa_base.specs.declared.Incarnation.{Incarnation}
use Rattle.poa_base.specs.declared.Incarnation.TheVariants.{Fresh, Named, Double, Forward as ForwardTo, Raise}
use Rattle.history_standing.specs.declared.node.Node.{Node}
use Rattle.history_standing.specs.declared.flight.Flight.{Flight}
use Rattle.history_standing.specs.declared.activation.Activation.{Activation}
use Rattle.history_standing.specs.declared.activation.Phase.{Phase}
use Rattle.history_standing.specs.declared.activation.Phase.TheVariants.{Begun, Complete, Void}
use Rattle.history_standing.specs.declared.stage.Stage.TheVariants.{Incarnating}
use Rattle.history_standing.specs.Templates.{has_activator, policies_at, rules_at, is_unique, servant_number, servant_name}
use Rattle.history_standing.specs.Arrivals.{call_of}
use Rattle.history_standing.specs.Stages.{stage}
use Rattle.history_standing.specs.Standings.{Standing, is_complete, is_begun, is_ending, is_mapped, has_servant, same_servant, is_in_map, is_used}
use Rattle.history_standing.specs.Walks.{walk, adapter_met}
use Rattle.history_standing.specs.Trees.{In}
use Rattle.history_standing.specs.Paths.{is_root}
use Rattle.history_standing.specs.Ends.{is_finished}
use Rattle.history_standing.specs.Keys.{key_in}
use Rattle.history_standing.specs.Logs.{command_done}
use Rattle.history_standing.specs.Opening.{number_at, with_node, with_activation, with_made, made_id, with_boots, with_object, with_objects, root_alone}
use Rattle.history_standing.specs.Changes.{standing, servant_of}
use Rattle.history_standing.specs.Rules.{rule_for, named_or_double, brought_by, brought, not_active}
use Rattle.history_standing.specs.Situations.{is_unfinished, is_changing}
use Rattle.poa_history.specs.Legal.{MayFollow, IsLegal}
use Rattle.poa_history.specs.Sound.{IsGiven, IsHome, IsSound}
use Rattle.poa_history.specs.Bounds.{IsWithinLimits}
use Rattle.poa_history.specs.Alone.{RunsAlone, ChangesAlone, IsMappedAlone, OwnsFresh, StandsAlone, IsGivenAlone}
use Rattle.history_standing.proofs.Members.{in_either, any_in}
use Rattle.history_standing.proofs.Finding.{find_in}
use Rattle.poa_history.proofs.SettledKept.{or_first, or_second}
use Rattle.poa_history.proofs.CommandMoves.{live_tells, number_live}
use Rattle.poa_history.proofs.TurnTells.{IsAdmission, admission_is, takeout_is, incarnation_is}
use Rattle.poa_history.proofs.TableRuns.{is_run}
use Rattle.poa_history.proofs.Served.{served_by, active, preset, located, incarnated}
use Rattle.poa_history.proofs.FlightsFrom.{flight_for, flew, begins, flight_from}
use Rattle.poa_history.proofs.NodesFrom.{stood, new, node_before}
use Rattle.poa_history.proofs.ActivationsFrom.{phase_by, TakesOut, IsStep, Brings, IsBegun, incarnating, activating, activating_id, referring, stood as activation_stood, begun as activation_begun, activation_from}
use Rattle.poa_history.proofs.CommandTells.{IsUntaken, untaken_activate, untaken_activate_id, in_map_by, untaken_reference}
use Rattle.poa_history.proofs.IdsFew.{messages}
use Rattle.poa_history.proofs.LegalSound.{legal_sound}
use Rattle.history_standing.proofs.Tests.{not_true}

-- a flight without a child is that of a request, in the adapter that the walk met
child_runs : (s : Standing) (r : ℕ) (key : Key) (v : Verdict) (f : Flight) → flight_for s r key v ≡ Some f → f.child ≡ None → (is_run v ≡ true)
    × (f.adapter ≡ adapter_met (walk s.nodes key.path))
child_runs s r key (Serve n) f is none = (refl, ap (λ o. elim o [ Some g ↦ g.adapter | None ↦ f.adapter ]) (sym is))
child_runs s r key (Preset n) f is none = (refl, ap (λ o. elim o [ Some g ↦ g.adapter | None ↦ f.adapter ]) (sym is))
child_runs s r key (Locator n) f is none = (refl, ap (λ o. elim o [ Some g ↦ g.adapter | None ↦ f.adapter ]) (sym is))
child_runs s r key (Incarnate n) f is none = (refl, ap (λ o. elim o [ Some g ↦ g.adapter | None ↦ f.adapter ]) (sym is))
child_runs s r key Try f is none = absurd (let e : Some _ ≡ None = ap (λ o. elim o [ Some g ↦ g.child | None ↦ None ]) is ∙ none in cc)
child_runs s r key (Refuse x) f is none = absurd (let e : None ≡ Some f = is in cc)
child_runs s r key (Forward x) f is none = absurd (let e : None ≡ Some f = is in cc)
child_runs s r key Addressing f is none = absurd (let e : None ≡ Some f = is in cc)
child_runs s r key Here f is none = absurd (let e : None ≡ Some f = is in cc)
child_runs s r key Unknown f is none = absurd (let e : None ≡ Some f = is in cc)
child_runs s r key (Answer x) f is none = absurd (let e : None ≡ Some f = is in cc)
child_runs s r key Wait f is none = absurd (let e : None ≡ Some f = is in cc)

same_servant_self : (t : Sid) → same_servant t t ≡ true
same_servant_self (NamedServant k) = eq-eqb k k refl
same_servant_self (FreshServant n) = eq-eqb n n refl

has_by : (a : Activation) (t : Sid) → a.phase ≡ Complete t → has_servant t a ≡ true
has_by a t at = ap (λ p. elim p [ Complete u ↦ same_servant u t | Begun ↦ false | Void ↦ false ]) at ∙ same_servant_self t

mapped_by : (a : Activation) (t : Sid) → a.phase ≡ Complete t → a.out ≡ false → is_mapped a ≡ true
mapped_by a t at stays = ap₂ (λ p o. (elim p [ Complete u ↦ true | Begun ↦ false | Void ↦ false ]) && not o) at stays

in_map : (a : Activation) → is_mapped a ≡ true → a.out ≡ false
in_map a mapped =
    false_from_ne_true a.out (λ out. let parts = and_parts (is_complete a) (not a.out) mapped in let e : false ≡ true = ap not (sym out) ∙ parts.1 in cc)

-- a servant that a command activates is a configured one
pub of_servant : (c : Config) (name : List ℕ) (t : Sid) → servant_of c name ≡ Complete t → (k : ℕ) × (servant_number c name ≡ Some k) × (t ≡ NamedServant k)
of_servant c name t is =
    elim (servant_number c name) as (λ o. (elim o [ Some k ↦ Complete (NamedServant k) | None ↦ Void ]) ≡ Complete t → (k : ℕ) × (o ≡ Some k)
    × (t ≡ NamedServant k))
    [ Some k ↦ λ e. (k, refl, (let f : Complete (NamedServant k) ≡ Complete t = e in cc)) | None ↦ λ e. absurd (let f : Void ≡ Complete t = e in cc) ] is

not_begun : (c : Config) (name : List ℕ) → servant_of c name ≡ Begun → ⊥
not_begun c name is =
    elim (servant_number c name) as (λ o. (elim o [ Some k ↦ Complete (NamedServant k) | None ↦ Void ]) ≡ Begun → ⊥)
    [ Some k ↦ λ e. (let f : Complete (NamedServant k) ≡ Begun = e in cc) | None ↦ λ e. (let f : Void ≡ Begun = e in cc) ] is

-- a named servant is brought where it isn't in the map already
pub brought_named : (c : Config) (s : Standing) (a : Activation) (name : List ℕ) → brought c s a ≡ Named name → (k : ℕ)
    × ((is_unique (policies_at c a.path) && is_in_map s.activations a.adapter (NamedServant k)) ≡ false) × (servant_name c k ≡ Some name)
brought_named c s a name is = by_rule (rule_for (rules_at c a.path) a.oid) is
  where
    by_name : (k : ℕ) → (is_unique (policies_at c a.path) && is_in_map s.activations a.adapter (NamedServant k)) ≡ false → (o : Option (List ℕ))
        → servant_name c k ≡ o → (elim o [ Some x ↦ Named x | None ↦ Raise not_active ]) ≡ Named name → (j : ℕ)
        × ((is_unique (policies_at c a.path) && is_in_map s.activations a.adapter (NamedServant j)) ≡ false) × (servant_name c j ≡ Some name)
    by_name k single (Some x) at same = (k, single, at ∙ (let e : Named x ≡ Named name = same in ap (λ y. Some y) cc))
    by_name k single None at same = absurd (let e : Raise not_active ≡ Named name = same in cc)

    by_double : (k : ℕ) (b : Bool) → (is_unique (policies_at c a.path) && is_in_map s.activations a.adapter (NamedServant k)) ≡ b
        → (elim b [ true ↦ Double | false ↦ elim (servant_name c k) [ Some x ↦ Named x | None ↦ Raise not_active ] ]) ≡ Named name → (j : ℕ)
        × ((is_unique (policies_at c a.path) && is_in_map s.activations a.adapter (NamedServant j)) ≡ false) × (servant_name c j ≡ Some name)
    by_double k true at same = absurd (let e : Double ≡ Named name = same in cc)
    by_double k false at same = by_name k at (servant_name c k) refl same

    by_gives : (g : Gives)
        → (elim g [
          | FreshKind kind ↦ Fresh a.number
          | Servant k ↦ named_or_double c s a k
          | ForwardRule endpoint ↦ ForwardTo endpoint
          | RaiseRule exception ↦ Raise exception
        ]) ≡ Named name → (j : ℕ) × ((is_unique (policies_at c a.path) && is_in_map s.activations a.adapter (NamedServant j)) ≡ false) × (servant_name c
        j ≡ Some name)
    by_gives (FreshKind kind) same = absurd (let e : Fresh a.number ≡ Named name = same in cc)
    by_gives (Servant k) same = by_double k (is_unique (policies_at c a.path) && is_in_map s.activations a.adapter (NamedServant k)) refl same
    by_gives (ForwardRule endpoint) same = absurd (let e : ForwardTo endpoint ≡ Named name = same in cc)
    by_gives (RaiseRule exception) same = absurd (let e : Raise exception ≡ Named name = same in cc)

    by_rule : (rule : Option RuleConf) → brought_by c s a rule ≡ Named name → (j : ℕ)
        × ((is_unique (policies_at c a.path) && is_in_map s.activations a.adapter (NamedServant j)) ≡ false) × (servant_name c j ≡ Some name)
    by_rule None same = absurd (let e : Raise not_active ≡ Named name = same in cc)
    by_rule (Some rule) same = by_gives rule.gives same

module _ (c : Config) (run limit : ℕ) (past : List Entry) (e : Entry) (may : MayFollow c run limit past e) (sound : IsSound c run (standing c run past))
    (after : IsSound c run (standing c run (e ∷ past))) where
  abbrev s : Standing
  s = standing c run past

  abbrev t : Standing
  t = standing c run (e ∷ past)

  admission : (w r : ℕ) (v : Verdict) → e ≡ Admit w r v → IsAdmission c run past w r v
  admission w r v same = admission_is c run past w r v (subst (λ x. MayFollow c run limit past x) same may)

  -- under SINGLE_THREAD_MODEL
  clash : (w r : ℕ) (v : Verdict) (key : Key) (f g : Flight) (n : Node) → e ≡ Admit w r v → key_in (call_of past r) ≡ Some key → flight_for s r key v ≡ Some f
      → In g s.flights → In n t.nodes → f.child ≡ None → g.child ≡ None → f.adapter ≡ n.number → g.adapter ≡ n.number
      → is_single_thread (policies_at c n.path).thread ≡ true → ⊥
  clash w r v key f g n same has for_ there stands fc gc fa ga single =
      let run_ = child_runs s r key v f for_ fc in
      let told = served_by c run past sound w r v key run_.0 (admission w r v same).told has in
      elim (node_before c run past e n stands) [
        | new number living ↦
            (let low = sound.tree.numbered told.node told.stands in let at : told.node.number ≡ n.number = told.numbered ∙ (sym run_.1 ∙ fa) in
            omega (arith, low, at, number))
        | stood m was number path dying ↦ (let at : m.number ≡ told.node.number = sym number ∙ (sym fa ∙ (run_.1 ∙ sym told.numbered)) in
            let node : m ≡ told.node = sound.tree.number_alone m told.node was told.stands at in
            let placed : n.path ≡ key.path = path ∙ (ap (λ x. x.path) node ∙ told.placed) in
            true≢false
            (sym (any_in (λ x. (x.adapter == adapter_met (walk s.nodes key.path)) && (elim x.child [ None ↦ true | Some p ↦ false ])) g s.flights there
            (ap₂ (λ x y. x && y) (eq-eqb g.adapter (adapter_met (walk s.nodes key.path)) (ga ∙ (sym fa ∙ run_.1)))
            (ap (λ o. elim o [ None ↦ true | Some p ↦ false ]) gc)))
            ∙ told.alone (subst (λ p. is_single_thread (policies_at c p).thread ≡ true) placed single)))
      ]

  runs_alone : RunsAlone c s → RunsAlone c t
  runs_alone alone f g n f_in g_in stands fc gc fa ga single =
      elim (flight_from past s c run e f f_in) [
        | flew f_was ↦ elim (flight_from past s c run e g g_in) [
          | flew g_was ↦ elim (node_before c run past e n stands) [
            | stood m was number path dying ↦
                alone f g m f_was g_was was fc gc (fa ∙ number) (ga ∙ number) (subst (λ p. is_single_thread (policies_at c p).thread ≡ true) path single)
            | new number living ↦
                absurd (let home = sound.homes f f_was in let low = sound.tree.numbered home.0 home.1 in let at : home.0.number ≡ n.number = home.2 ∙ fa in
                omega (arith, low, at, number))
          ]
          | begins w r v key same has for_ ↦ absurd (clash w r v key g f n same has for_ f_was stands gc fc ga fa single)
        ]
        | begins w r v key same has for_ ↦ elim (flight_from past s c run e g g_in) [
          | flew g_was ↦ absurd (clash w r v key f g n same has for_ g_was stands fc gc fa ga single)
          | begins w' r' v' key' same' has' for' ↦ (let both : Admit w r v ≡ Admit w' r' v' = sym same ∙ same' in
              let rs : r ≡ r' = cc in let vs : v ≡ v' = cc in
              let keys : Some key ≡ Some key' = sym has ∙ (ap (λ x. key_in (call_of past x)) rs ∙ has') in
              let ks : key ≡ key' = cc in
              let flights : Some f ≡ Some g = sym for_ ∙ (ap₂ (λ x y. flight_for s x y v) rs ks ∙ (ap (λ y. flight_for s r' key' y) vs ∙ for')) in cc)
        ]
      ]

  -- an activation that is changing was so, or is taken out
  unfinished_before : (a b : Activation) → IsStep c run past s e a b → is_unfinished c b ≡ true → (is_unfinished c a ≡ true) ⊎ TakesOut c run past s e a.number
  unfinished_before a b step changing =
      elim (or_cases (is_begun b) (b.out && not (is_finished c b)) changing) [
        | inl beginning ↦ inl (or_first (is_begun a) (a.out && not (is_finished c a)) (by_phase a.phase refl (begun_of b.phase beginning)))
        | inr leaving ↦ (let parts = and_parts b.out (not (is_finished c b)) leaving in
            elim (step.out_back parts.0) [
              | inl out ↦ inl (or_second (is_begun a) (a.out && not (is_finished c a)) (ap₂ (λ x y. x && y) out (unfinished a b step parts.1)))
              | inr other ↦ elim other [
                | inl none ↦
                    absurd (let f : is_finished c b ≡ true =
                    ap₂ (λ x y. x && y) parts.0
                    (or_second b.quiet (not (has_activator c b.path) || b.etherealized)
                    (or_first (not (has_activator c b.path)) b.etherealized (ap not none.0))) in
                    let g : false ≡ true = ap not (sym f) ∙ parts.1 in cc)
                | inr takes ↦ inr takes
              ]
            ])
      ]
    where
      begun_of : (p : Phase) → (elim p [ Begun ↦ true | Complete u ↦ false | Void ↦ false ]) ≡ true → p ≡ Begun
      begun_of Begun is = refl
      begun_of (Complete u) is = absurd (let f : false ≡ true = is in cc)
      begun_of Void is = absurd (let f : false ≡ true = is in cc)

      by_phase : (p : Phase) → a.phase ≡ p → b.phase ≡ Begun → is_begun a ≡ true
      by_phase Begun at is = ap (λ q. elim q [ Begun ↦ true | Complete u ↦ false | Void ↦ false ]) at
      by_phase (Complete u) at is = absurd (let f : Complete u ≡ Begun = sym (step.later.served u at) ∙ is in cc)
      by_phase Void at is = absurd (let f : Void ≡ Begun = sym (step.later.void at) ∙ is in cc)

      unfinished : (x y : Activation) → IsStep c run past s e x y → not (is_finished c y) ≡ true → not (is_finished c x) ≡ true
      unfinished x y st is = ap not (false_from_ne_true (is_finished c x) (λ fin. let g : false ≡ true = ap not (sym (st.later.finished fin)) ∙ is in cc))

  -- what is taken out is so where nothing else is changing in the adapter
  taken_alone : (a b : Activation) → In a s.activations → In b s.activations → a.adapter ≡ b.adapter → TakesOut c run past s e a.number
      → is_unfinished c b ≡ true → ⊥
  taken_alone a b is is' at takes changing =
      let (w, etherealize, same) = takes in
      let it = takeout_is c run past w a.number etherealize (subst (λ x. MayFollow c run limit past x) same may) in
      let whose : it.it ≡ a = sound.activation_alone it.it a it.there is it.numbered in
      let still : is_changing c s.activations it.it.adapter ≡ false =
      not_true (is_changing c s.activations it.it.adapter)
      (and_parts (not (is_used s.flights it.it.number)) (not (is_changing c s.activations it.it.adapter))
      (and_parts (is_complete it.it && (is_ending it.it && (has_activator c it.it.path && not it.it.out)))
      (not (is_used s.flights it.it.number) && not (is_changing c s.activations it.it.adapter)) it.due).1).1 in
      true≢false (sym (changing_by b it.it.adapter is' (sym at ∙ ap (λ x. x.adapter) (sym whose)) changing) ∙ still)
    where
      changing_by : (x : Activation) (k : ℕ) → In x s.activations → x.adapter ≡ k → is_unfinished c x ≡ true → is_changing c s.activations k ≡ true
      changing_by x k there same changing' =
          any_in (λ y. (y.adapter == k) && is_unfinished c y) x s.activations there (ap₂ (λ y z. y && z) (eq-eqb x.adapter k same) changing')

  -- what is begun and changing is being incarnated, and nothing else was changing in the adapter
  begun_alone : (b d : Activation) → IsBegun c run past s e b → is_unfinished c b ≡ true → In d s.activations → d.adapter ≡ b.adapter
      → (is_unfinished c d ≡ true) ⊎ TakesOut c run past s e d.number → ⊥
  begun_alone b d fresh changing there at other =
      elim fresh.how [
        | incarnating w r n key same has adapter path oid phase ↦
            (let told = served_by c run past sound w r (Incarnate n) key refl (admission w r (Incarnate n) same).told has in
            elim told.how [
              | active a is at' of_id is_active' names ↦ (let f : Serve a.number ≡ Incarnate n = names in cc)
              | preset name names ↦ (let f : Preset name ≡ Incarnate n = names in cc)
              | located name names ↦ (let f : Locator name ≡ Incarnate n = names in cc)
              | incarnated activator idle names ↦ elim other [
                | inl changing' ↦
                    true≢false
                    (sym (any_in (λ y. (y.adapter == adapter_met (walk s.nodes key.path)) && is_unfinished c y) d s.activations there
                    (ap₂ (λ y z. y && z) (eq-eqb d.adapter (adapter_met (walk s.nodes key.path)) (at ∙ adapter)) changing')) ∙ idle)
                | inr takes ↦
                    (let (w', etherealize, same') = takes in let f : Admit w r (Incarnate n) ≡ TakeOut w' d.number etherealize = sym same ∙ same' in cc)
              ]
            ])
        | activating p servant done adapter path oid phase ↦ complete servant phase
        | activating_id p oid' servant done adapter path oid phase ↦ complete servant phase
        | referring p servant n k done lives known implicit adapter path oid phase ↦ complete servant phase
      ]
    where
      complete : (servant : List ℕ) → b.phase ≡ servant_of c servant → ⊥
      complete servant phase =
          elim (or_cases (is_begun b) (b.out && not (is_finished c b)) changing) [
            | inl beginning ↦
                by_servant (servant_number c servant) (ap (λ q. elim q [ Begun ↦ true | Complete u ↦ false | Void ↦ false ]) (sym phase) ∙ beginning)
            | inr leaving ↦ (let f : true ≡ false = sym (and_parts b.out (not (is_finished c b)) leaving).0 ∙ fresh.out in cc)
          ]
        where
          by_servant : (o : Option ℕ)
              → (elim (elim o as (λ _. Phase) [ Some k ↦ Complete (NamedServant k) | None ↦ Void ]) [ Begun ↦ true | Complete u ↦ false | Void ↦ false ]) ≡ true
              → ⊥
          by_servant (Some k) is = (let f : false ≡ true = is in cc)
          by_servant None is = (let f : false ≡ true = is in cc)

  changes_alone : ChangesAlone c s → ChangesAlone c t
  changes_alone alone a b a_in b_in at a_changes b_changes =
      elim (activation_from c run past e a a_in) [
        | activation_stood a0 is step ↦ elim (activation_from c run past e b b_in) [
          | activation_stood b0 is' step' ↦ after.activation_alone a b a_in b_in
              (step.later.number
              ∙ (same_before a0 b0 is is' (sym step.later.adapter ∙ (at ∙ step'.later.adapter)) (unfinished_before a0 a step a_changes)
              (unfinished_before b0 b step' b_changes) ∙ sym step'.later.number))
          | activation_begun fresh ↦ absurd (begun_alone b a0 fresh b_changes is (sym step.later.adapter ∙ at) (unfinished_before a0 a step a_changes))
        ]
        | activation_begun fresh ↦ elim (activation_from c run past e b b_in) [
          | activation_stood b0 is' step' ↦
              absurd (begun_alone a b0 fresh a_changes is' (sym step'.later.adapter ∙ sym at) (unfinished_before b0 b step' b_changes))
          | activation_begun fresh' ↦ after.activation_alone a b a_in b_in (fresh.number ∙ sym fresh'.number)
        ]
      ]
    where
      same_before : (x y : Activation) → In x s.activations → In y s.activations → x.adapter ≡ y.adapter → (is_unfinished c x ≡ true)
          ⊎ TakesOut c run past s e x.number → (is_unfinished c y ≡ true) ⊎ TakesOut c run past s e y.number → x.number ≡ y.number
      same_before x y is is' same (inl one) (inl two) = ap (λ z. z.number) (alone x y is is' same one two)
      same_before x y is is' same (inl one) (inr two) = absurd (taken_alone y x is' is (sym same) two one)
      same_before x y is is' same (inr one) (inl two) = absurd (taken_alone x y is is' same one two)
      same_before x y is is' same (inr one) (inr two) = (let f : TakeOut one.0 x.number one.1 ≡ TakeOut two.0 y.number two.1 = sym one.2 ∙ two.2 in cc)

  -- a fresh servant is brought by the incarnation of its activation
  fresh_by : (n m : ℕ) (answer : Incarnation) → phase_by c n answer ≡ Complete (FreshServant m) → m ≡ n
  fresh_by n m (Fresh k) is = (let f : Complete (FreshServant n) ≡ Complete (FreshServant m) = is in cc)
  fresh_by n m (Named name) is = absurd (let (k, number, same) = of_servant c name (FreshServant m) is in let f : FreshServant m ≡ NamedServant k = same in cc)
  fresh_by n m Double is = absurd (let f : Void ≡ Complete (FreshServant m) = is in cc)
  fresh_by n m (ForwardTo endpoint) is = absurd (let f : Void ≡ Complete (FreshServant m) = is in cc)
  fresh_by n m (Raise exception) is = absurd (let f : Void ≡ Complete (FreshServant m) = is in cc)

  no_fresh : (servant : List ℕ) (m : ℕ) (p : Phase) → p ≡ servant_of c servant → p ≡ Complete (FreshServant m) → ⊥
  no_fresh servant m p is at =
      (let (k, number, same) = of_servant c servant (FreshServant m) (sym is ∙ at) in let f : FreshServant m ≡ NamedServant k = same in cc)

  owns_fresh : OwnsFresh s → OwnsFresh t
  owns_fresh own a m a_in at =
      elim (activation_from c run past e a a_in) [
        | activation_stood a0 is step ↦ elim step.came [
          | inl same ↦ own a0 m is (sym same ∙ at) ∙ sym step.later.number
          | inr came ↦ fresh_by a0.number m came.1.answer (came.1.phase_is ∙ at) ∙ sym step.later.number
        ]
        | activation_begun fresh ↦ absurd (elim fresh.how [
          | incarnating w r n key same has adapter path oid phase ↦ (let f : Begun ≡ Complete (FreshServant m) = sym phase ∙ at in cc)
          | activating p servant done adapter path oid phase ↦ no_fresh servant m a.phase phase at
          | activating_id p oid' servant done adapter path oid phase ↦ no_fresh servant m a.phase phase at
          | referring p servant n k done lives known implicit adapter path oid phase ↦ no_fresh servant m a.phase phase at
        ])
      ]

  -- a servant that an activation has after the entry it had, or the entry brings it
  has_before : (a0 a : Activation) (u : Sid) → IsStep c run past s e a0 a → a.phase ≡ Complete u → (a0.phase ≡ Complete u)
      ⊎ ((a0.phase ≡ Begun) × Brings c run past s e a0.number (Complete u))
  has_before a0 a u step at =
      elim step.came [ inl same ↦ inl (sym same ∙ at) | inr came ↦ inr (came.0, subst (λ p. Brings c run past s e a0.number p) at came.1) ]

  stays_in : (a0 a : Activation) → IsStep c run past s e a0 a → is_mapped a ≡ true → a0.out ≡ false
  stays_in a0 a step mapped = false_from_ne_true a0.out (λ out. true≢false (sym (step.later.out out) ∙ in_map a mapped))

  module _ (given : IsGivenAlone c run) (own : OwnsFresh s) where
    -- it isn't brought where another has it
    brought_alone : (a b : Activation) (u : Sid) → In a s.activations → In b s.activations → a.adapter ≡ b.adapter → is_unique (policies_at c a.path) ≡ true
        → Brings c run past s e a.number (Complete u) → b.phase ≡ Complete u → b.out ≡ false → a.number ≡ b.number
    brought_alone a b u is is' at unique brings has stays = by_answer brings.answer refl brings.phase_is
      where
        by_answer : (answer : Incarnation) → brings.answer ≡ answer → phase_by c a.number answer ≡ Complete u → a.number ≡ b.number
        by_answer (Fresh m) which comes =
            (let f : Complete (FreshServant a.number) ≡ Complete u = comes in let same : u ≡ FreshServant a.number = cc in
            own b a.number is' (has ∙ ap (λ x. Complete x) same))
        by_answer (Named name) which comes =
            absurd (let turn' = incarnation_is c run past brings.worker brings.answer (subst (λ x. MayFollow c run limit past x) brings.same may) in
            let stages : Incarnating turn'.arrival turn'.number ≡ Incarnating brings.arrival a.number = sym turn'.begun ∙ brings.begun in
            let numbers : turn'.number ≡ a.number = cc in
            let there = find_in (λ x. x.number == turn'.number) turn'.it s.activations turn'.found in
            let it : turn'.it ≡ a = sound.activation_alone turn'.it a there.0 is (eqb-true turn'.it.number turn'.number there.1 ∙ numbers) in
            let (k, single, called) = brought_named c s turn'.it name (turn'.told ∙ which) in
            let (j, number, same) = of_servant c name u comes in
            let ks : Some j ≡ Some k = sym number ∙ given.named k name called in
            let kj : k ≡ j = cc in
            true≢false (sym (ap₂ (λ x y. x && y) (ap (λ x. is_unique (policies_at c x.path)) it ∙ unique)
            (in_map_by s b turn'.it.adapter (NamedServant k) is' (sym at ∙ ap (λ x. x.adapter) (sym it)) (mapped_by b u has stays)
            (has_by b (NamedServant k) (has ∙ ap (λ x. Complete x) (same ∙ ap (λ x. NamedServant x) (sym kj)))))) ∙ single))
        by_answer Double which comes = absurd (let f : Void ≡ Complete u = comes in cc)
        by_answer (ForwardTo endpoint) which comes = absurd (let f : Void ≡ Complete u = comes in cc)
        by_answer (Raise exception) which comes = absurd (let f : Void ≡ Complete u = comes in cc)

    -- it isn't activated by a command where another has it
    untaken_alone : (p : List (List ℕ)) (servant : List ℕ) (b d : Activation) (u : Sid) → IsUntaken c s p servant → b.adapter ≡ number_at s p → b.path ≡ p
        → b.phase ≡ servant_of c servant → b.phase ≡ Complete u → is_unique (policies_at c b.path) ≡ true → In d s.activations → d.adapter ≡ b.adapter
        → d.phase ≡ Complete u → d.out ≡ false → ⊥
    untaken_alone p servant b d u free adapter path phase at unique there same has stays =
        let (stands, placed, living, found) = live_tells s p free.node free.lives in
        let (k, number, sid) = of_servant c servant u (sym phase ∙ at) in
        let ks : Some free.number ≡ Some k = sym free.known ∙ number in
        let kk : free.number ≡ k = cc in
        true≢false (sym (ap₂ (λ x y. x && y) (subst (λ q. is_unique (policies_at c q) ≡ true) (path ∙ sym placed) unique)
        (in_map_by s d free.node.number (NamedServant free.number) there (same ∙ (adapter ∙ sym (number_live s p free.node found))) (mapped_by d u has stays)
        (has_by d (NamedServant free.number) (has ∙ ap (λ x. Complete x) (sid ∙ ap (λ x. NamedServant x) (sym kk)))))) ∙ free.untaken)

    begun_mapped : (b d0 d : Activation) (u : Sid) → IsBegun c run past s e b → b.phase ≡ Complete u → is_unique (policies_at c b.path) ≡ true
        → In d0 s.activations → IsStep c run past s e d0 d → d0.adapter ≡ b.adapter → d.phase ≡ Complete u → is_mapped d ≡ true → ⊥
    begun_mapped b d0 d u fresh at unique there step same has mapped =
        elim (has_before d0 d u step has) [
          | inl was ↦ elim fresh.how [
            | incarnating w r n key same' has' adapter path oid phase ↦ (let f : Begun ≡ Complete u = sym phase ∙ at in cc)
            | activating p servant done adapter path oid phase ↦
                untaken_alone p servant b d0 u (untaken_activate c run past limit e p servant may done) adapter path phase at unique there same was
                (stays_in d0 d step mapped)
            | activating_id p oid' servant done adapter path oid phase ↦
                untaken_alone p servant b d0 u (untaken_activate_id c run past limit e p oid' servant may done) adapter path phase at unique there same was
                (stays_in d0 d step mapped)
            | referring p servant n k done lives known implicit adapter path oid phase ↦
                untaken_alone p servant b d0 u (record { node = n; lives = lives; number = k; known = known; untaken = untaken_reference c s n k implicit })
                adapter path phase at unique there same was (stays_in d0 d step mapped)
          ]
          | inr came ↦ elim fresh.how [
            | incarnating w r n key same' has' adapter path oid phase ↦
                (let f : Admit w r (Incarnate n) ≡ Incarnated came.1.worker came.1.answer = sym same' ∙ came.1.same in cc)
            | activating p servant done adapter path oid phase ↦ no_done came.1.worker came.1.answer (Activate p servant) came.1.same done
            | activating_id p oid' servant done adapter path oid phase ↦ no_done came.1.worker came.1.answer (ActivateId p oid' servant) came.1.same done
            | referring p servant n k done lives known implicit adapter path oid phase ↦
                no_done came.1.worker came.1.answer (Reference p servant) came.1.same done
          ]
        ]
      where
        no_done : (w : ℕ) (answer : Incarnation) (command : Command) → e ≡ Incarnated w answer → command_done past e ≡ Some command → ⊥
        no_done w answer command is done = (let f : None ≡ Some command = ap (command_done past) (sym is) ∙ done in cc)

    -- what is in the map isn't over, so its adapter stands at its path
    home_of : (a : Activation) → In a t.activations → is_mapped a ≡ true → IsHome t.nodes a
    home_of a there mapped =
        let parts = and_parts (is_complete a) (not a.out) mapped in
        after.owners a there
        (ap₂ (λ x y. x || y) (unvoid a.phase parts.0) (ap (λ o. o && (a.quiet || (not (has_activator c a.path) || a.etherealized))) (in_map a mapped)))
      where
        unvoid : (p : Phase) → (elim p [ Complete u ↦ true | Begun ↦ false | Void ↦ false ]) ≡ true
            → (elim p [ Void ↦ true | Begun ↦ false | Complete u ↦ false ]) ≡ false
        unvoid (Complete u) is = refl
        unvoid Begun is = refl
        unvoid Void is = absurd (let f : false ≡ true = is in cc)

    paths_same : (a b : Activation) → In a t.activations → In b t.activations → a.adapter ≡ b.adapter → is_mapped a ≡ true → is_mapped b ≡ true
        → a.path ≡ b.path
    paths_same a b is is' at a_mapped b_mapped =
        let one = home_of a is a_mapped in
        let two = home_of b is' b_mapped in
        sym one.placed
        ∙ (ap (λ n. n.path) (after.tree.number_alone one.node two.node one.stands two.stands (one.numbered ∙ (at ∙ sym two.numbered))) ∙ two.placed)

    mapped_alone : IsMappedAlone c s → IsMappedAlone c t
    mapped_alone alone a b u a_in b_in at unique a_mapped b_mapped a_has b_has =
        elim (activation_from c run past e a a_in) [
          | activation_stood a0 is step ↦ elim (activation_from c run past e b b_in) [
            | activation_stood b0 is' step' ↦
                after.activation_alone a b a_in b_in
                (step.later.number
                ∙ (numbers a0 b0 is is' (sym step.later.adapter ∙ (at ∙ step'.later.adapter))
                (subst (λ q. is_unique (policies_at c q) ≡ true) step.later.path unique)
                (subst (λ q. is_unique (policies_at c q) ≡ true) step'.later.path unique') (stays_in a0 a step a_mapped) (stays_in b0 b step' b_mapped)
                (has_before a0 a u step a_has) (has_before b0 b u step' b_has)
                ∙ sym step'.later.number))
            | activation_begun fresh ↦ absurd (begun_mapped b a0 a u fresh b_has unique' is step (sym step.later.adapter ∙ at) a_has a_mapped)
          ]
          | activation_begun fresh ↦ elim (activation_from c run past e b b_in) [
            | activation_stood b0 is' step' ↦ absurd (begun_mapped a b0 b u fresh a_has unique is' step' (sym step'.later.adapter ∙ sym at) b_has b_mapped)
            | activation_begun fresh' ↦ after.activation_alone a b a_in b_in (fresh.number ∙ sym fresh'.number)
          ]
        ]
      where
        unique' : is_unique (policies_at c b.path) ≡ true
        unique' = subst (λ q. is_unique (policies_at c q) ≡ true) (paths_same a b a_in b_in at a_mapped b_mapped) unique

        numbers : (x y : Activation) → In x s.activations → In y s.activations → x.adapter ≡ y.adapter → is_unique (policies_at c x.path) ≡ true
            → is_unique (policies_at c y.path) ≡ true → x.out ≡ false → y.out ≡ false → (x.phase ≡ Complete u)
            ⊎ ((x.phase ≡ Begun) × Brings c run past s e x.number (Complete u)) → (y.phase ≡ Complete u)
            ⊎ ((y.phase ≡ Begun) × Brings c run past s e y.number (Complete u)) → x.number ≡ y.number
        numbers x y is is' same one_way other_way x_stays y_stays (inl one) (inl two) =
            ap (λ z. z.number) (alone x y u is is' same one_way (mapped_by x u one x_stays) (mapped_by y u two y_stays) one two)
        numbers x y is is' same one_way other_way x_stays y_stays (inl one) (inr two) = sym (brought_alone y x u is' is (sym same) other_way two.1 one x_stays)
        numbers x y is is' same one_way other_way x_stays y_stays (inr one) (inl two) = brought_alone x y u is is' same one_way one.1 two y_stays
        numbers x y is is' same one_way other_way x_stays y_stays (inr one) (inr two) =
            (let es : Incarnated one.1.worker one.1.answer ≡ Incarnated two.1.worker two.1.answer = sym one.1.same ∙ two.1.same in
            let ws : one.1.worker ≡ two.1.worker = cc in
            let stages : Incarnating one.1.arrival x.number ≡ Incarnating two.1.arrival y.number = sym one.1.begun ∙ (ap (stage past) ws ∙ two.1.begun) in cc)

-- at opening
module _ (c : Config) (run : ℕ) where
  abbrev Opens : Activation → Type 0
  Opens a = (a.out ≡ false) × ((k : ℕ) × (a.phase ≡ Complete (NamedServant k))) × (a.etherealized ≡ false) × (a.ending ≡ false) × (a.quiet ≡ false)

  abbrev AllOpen : Standing → Type 0
  AllOpen s = (a : Activation) → In a s.activations → Opens a

  activation_opens : (k : ℕ) (p : List (List ℕ)) (oid : List ℕ) (j : ℕ) (s : Standing) → AllOpen s
      → AllOpen (with_activation k p oid (Complete (NamedServant j)) s)
  activation_opens k p oid j s all a there =
      elim (in_either a
      (record {
        number = length s.activations;
        adapter = k;
        path = p;
        oid = oid;
        phase = Complete (NamedServant j);
        ending = false;
        quiet = false;
        out = false;
        cleanup = false;
        remaining = false;
        etherealized = false;
      }) s.activations there) [
        | inl was ↦ all a was
        | inr made ↦ (ap (λ x. x.out) made, (j, ap (λ x. x.phase) made), ap (λ x. x.etherealized) made, ap (λ x. x.ending) made, ap (λ x. x.quiet) made)
      ]

  object_opens : (o : ObjectConf) (s : Standing) → AllOpen s → AllOpen (with_object run o s)
  object_opens o s all =
      elim o.oid as (λ oid. AllOpen
      (elim oid [
        | Some i ↦ with_activation (number_at s o.adapter) o.adapter i (Complete (NamedServant o.servant)) s
        | None ↦ with_activation (number_at s o.adapter) o.adapter (made_id run (suc s.made)) (Complete (NamedServant o.servant)) (with_made s)
      ])) [
        | Some i ↦ activation_opens (number_at s o.adapter) o.adapter i o.servant s all
        | None ↦ activation_opens (number_at s o.adapter) o.adapter (made_id run (suc s.made)) o.servant (with_made s) all
      ]

  objects_open : (os : List ObjectConf) (s : Standing) → AllOpen s → AllOpen (with_objects run os s)
  objects_open [] s all = all
  objects_open (o ∷ os) s all = objects_open os (with_object run o s) (object_opens o s all)

  boots_activations : (as' : List AdapterConf) (s : Standing) → (with_boots as' s).activations ≡ s.activations
  boots_activations [] s = refl
  boots_activations (a ∷ as') s =
      boots_activations as' (if a.boot && not (is_root a.path) then with_node a.path s else s)
      ∙ cond_both (a.boot && not (is_root a.path)) (with_node a.path s) s (λ t. t.activations ≡ s.activations) (λ _. refl) (λ _. refl)

  pub all_open : AllOpen (standing c run [])
  all_open =
      objects_open c.objects (with_boots c.adapters root_alone) (λ a there. absurd (subst (λ as'. In a as') (boots_activations c.adapters root_alone) there))

  finished_no : (a : Activation) → Opens a → is_unfinished c a ≡ false
  finished_no a opens =
      ap₂ (λ p o. (elim p [ Begun ↦ true | Complete u ↦ false | Void ↦ false ]) || (o && not (is_finished c a))) opens.1.1 opens.0

  opens_alone : IsGivenAlone c run → StandsAlone c (standing c run [])
  opens_alone given = record {
    running = λ f g n f_in g_in stands fc gc fa ga single. absurd (let none = (messages c run 0 [] tt f f_in).arrived in omega (arith, none));
    changing = λ a b a_in b_in at a_changes b_changes. absurd (true≢false (sym a_changes ∙ finished_no a (all_open a a_in)));
    mapped = given.mapped;
    fresh = λ a m a_in at. absurd
        (let k = (all_open a a_in).1 in let f : Complete (FreshServant m) ≡ Complete (NamedServant k.0) = sym at ∙ k.1 in
        let g : FreshServant m ≡ NamedServant k.0 = cc in cc);
  }

pub stands_alone : (c : Config) (run limit : ℕ) (h : List Entry) → IsGiven c run → IsGivenAlone c run → IsWithinLimits c limit → IsLegal c run limit h
    → StandsAlone c (standing c run h)
stands_alone c run limit [] given alone within legal = opens_alone c run alone
stands_alone c run limit (e ∷ past) given alone within legal =
    let before = stands_alone c run limit past given alone within legal.1 in
    let sound = legal_sound c run limit past given within legal.1 in
    let after = legal_sound c run limit (e ∷ past) given within legal in
    record {
      running = runs_alone c run limit past e legal.0 sound after before.running;
      changing = changes_alone c run limit past e legal.0 sound after before.changing;
      mapped = mapped_alone c run limit past e legal.0 sound after alone before.fresh before.mapped;
      fresh = owns_fresh c run limit past e legal.0 sound after before.fresh;
    }

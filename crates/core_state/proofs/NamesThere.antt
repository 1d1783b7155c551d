-- A servant that a verdict names, or that a command set, is one that is configured.
use Rattle.std.specs.Prelude.{◌≡◌, ℕ, Bool, true, false, not, ◌==◌, if◌then◌else◌, List, [], ◌∷◌, Option, Some, None, option_and_then, refl}
use Rattle.std.proofs.Common.{sym, subst, ap, ◌∙◌}
use Rattle.std.proofs.lemmas.Bool.{cond_both, true≢false}
use Rattle.poa_base.specs.declared.Answer.TheVariants.{No}
use Rattle.poa_base.specs.declared.Attempt.TheVariants.{Yes, No as NoChild, Raised, Dying}
use Rattle.poa_base.specs.declared.Call.{Call}
use Rattle.poa_base.specs.declared.Call.TheVariants.{Request, Locate, Line}
use Rattle.poa_base.specs.declared.Command.{Command}
use Rattle.poa_base.specs.declared.Command.TheVariants.{Manager, Create, Destroy, Activate, ActivateId, Deactivate, Reference, Preset as PresetLine, Forward as ForwardLine, Unforward, Shutdown, Bad}
use Rattle.poa_base.specs.declared.Config.{Config}
use Rattle.poa_base.specs.declared.Entry.{Entry}
use Rattle.poa_base.specs.declared.Entry.TheVariants.{Entered, Arrive, Filled, Left, Collect, Admit, Tried, Incarnated, Run, Done, TakeOut, Etherealized, Abandon}
use Rattle.poa_base.specs.declared.Gives.TheVariants.{Fresh as FreshKind, Servant as ServantGiven, Forward as ForwardTo, Raise as RaiseThis}
use Rattle.poa_base.specs.declared.Reason.TheVariants.{AdapterNonExistent, NoServant, WrongPolicy}
use Rattle.poa_base.specs.declared.RuleConf.{RuleConf}
use Rattle.poa_base.specs.declared.Verdict.{Verdict}
use Rattle.poa_base.specs.declared.Verdict.TheVariants.{Serve, Preset, Locator, Incarnate, Try, Refuse, Forward, Addressing, Here, Unknown, Answer as AnswerWith, Wait}
use Rattle.poa_choose.specs.declared.Choice.TheVariants.{Go}
use Rattle.poa_choose.specs.declared.Located.{Located}
use Rattle.poa_choose.specs.declared.Located.TheVariants.{Servant, Forward as ByForward, Raise as ByRaise, NoRule}
use Rattle.poa_choose.specs.Table.{first_row}
use Rattle.history_standing.specs.Paths.{same_path}
use Rattle.history_standing.specs.declared.node.Node.{Node}
use Rattle.poa_history.specs.Alone.{IsGivenAlone}
use Rattle.history_standing.specs.Arrivals.{call_of}
use Rattle.history_standing.specs.Changes.{standing}
use Rattle.history_standing.specs.Commands.{command_verdict, live_at, with_servant, preset_row, refusal, good}
use Rattle.poa_history.specs.Legal.{IsLegal, MayFollow}
use Rattle.history_standing.specs.Logs.{command_done, command_in, is_accepted, preset_by, preset_of}
use Rattle.history_standing.specs.Rules.{located, located_by, rule_for}
use Rattle.history_standing.specs.Situations.{facts_of, key_or_none}
use Rattle.history_standing.specs.Keys.{key_in}
use Rattle.history_standing.specs.Stages.{admitted, arrival_in, is_at, stage}
use Rattle.history_standing.specs.Standings.{Standing}
use Rattle.history_standing.specs.Templates.{policies_at, rules_at, servant_name, servant_number, template_or_root, uses_default_servant}
use Rattle.poa_history.specs.Verdicts.{verdict_on}
use Rattle.poa_history.proofs.CommandAnswers.{is_begin, begin_keyed}
use Rattle.poa_history.proofs.StepMoves.{admitted_for, chosen_go}
use Rattle.core_state.proofs.NamesTold.{IsTold, names_told}

-- a servant has the name
abbrev pub IsThere : Config → List ℕ → Type 0
IsThere c name = (k : ℕ) × (servant_number c name ≡ Some k)

-- the verdict names none that isn't there
abbrev pub NamesThere : Config → Option Verdict → Type 0
NamesThere c (Some (Preset name)) = IsThere c name
NamesThere c (Some (Locator name)) = IsThere c name
NamesThere c verdict = Unit {0}

-- an answer by which a command was done
abbrev IsDoneBy : Option Verdict → Type 0 → Type 0
IsDoneBy o A = (v : Verdict) → o ≡ Some v → is_accepted v ≡ true → A

-- `default` is done only with a servant that is there
preset_done : (c : Config) (s : Standing) (p : List (List ℕ)) (servant : List ℕ) → IsDoneBy (preset_row c s p servant) (IsThere c servant)
preset_done c s p servant = by_live (live_at s p)
  where
    by_refusal : {A : Type 0} (u : Verdict) → is_accepted u ≡ false → IsDoneBy (Some u) A
    by_refusal u not_done v is done =
        absurd (let e : Some u ≡ Some v = is in let same : u ≡ v = cc in true≢false (sym done ∙ ap is_accepted (sym same) ∙ not_done))

    by_servant : (o : Option ℕ) → servant_number c servant ≡ o → IsDoneBy (elim o [ Some k ↦ good | None ↦ refusal NoServant ]) (IsThere c servant)
    by_servant (Some k) at = λ v is done. (k, at)
    by_servant None at = by_refusal (AnswerWith (No NoServant)) refl

    by_policy : IsDoneBy (if not (uses_default_servant (policies_at c p)) then refusal WrongPolicy else with_servant c servant (λ k. good)) (IsThere c servant)
    by_policy =
        cond_both (not (uses_default_servant (policies_at c p))) _ _ (λ o. IsDoneBy o (IsThere c servant)) (λ _. by_refusal (AnswerWith (No WrongPolicy)) refl)
        (λ _. by_servant (servant_number c servant) refl)

    by_live : (o : Option Node)
        → IsDoneBy
        (elim o [
          | Some n ↦ (if not (uses_default_servant (policies_at c p)) then refusal WrongPolicy else with_servant c servant (λ k. good))
          | None ↦
              refusal AdapterNonExistent
        ]) (IsThere c servant)
    by_live (Some n) = by_policy
    by_live None = by_refusal (AnswerWith (No AdapterNonExistent)) refl

module _ (c : Config) (run limit : ℕ) (alone : IsGivenAlone c run) where
  by_name : (k : ℕ) (name : List ℕ) → servant_name c k ≡ Some name → IsThere c name
  by_name k name is = (k, alone.named k name is)

  configured_there : (o : Option ℕ) (name : List ℕ) → option_and_then (λ k. servant_name c k) o ≡ Some name → IsThere c name
  configured_there (Some k) name is = by_name k name is
  configured_there None name is = absurd (let e : None ≡ Some name = is in cc)

  -- what an entry sets
  set_there : (past : List Entry) (e : Entry) → MayFollow c run limit past e → (p : List (List ℕ)) (name : List ℕ)
      → preset_by p (command_done past e) ≡ Some name → IsThere c name
  unfolding command_verdict
  set_there past (Admit w r v) may p name is = by_done (is_accepted v) refl (call_of past r) refl is
    where
      none_set : {A : Type 0} → None ≡ Some name → A
      none_set is = absurd (let e : None ≡ Some name = is in cc)

      told : verdict_on c run past r w (call_of past r) ≡ Some v
      told = admitted_for c run past w r v may

      by_line : (number : ℕ) (command : Command) → is_accepted v ≡ true → command_verdict c run past (standing c run past) command ≡ Some v
          → preset_by p (Some command) ≡ Some name → IsThere c name
      by_line number (PresetLine q servant) done says = cond_both (same_path q p) (Some servant) None (λ o. o ≡ Some name → IsThere c name)
          (λ _ is.
          (let e : Some servant ≡ Some name = is in let same : servant ≡ name = cc in
          subst (IsThere c) same (preset_done c (standing c run past) q servant v says done)))
          (λ _. none_set)
      by_line number (Manager m order) done says = none_set
      by_line number (Create q) done says = none_set
      by_line number (Destroy q etherealize wait) done says = none_set
      by_line number (Activate q servant) done says = none_set
      by_line number (ActivateId q oid servant) done says = none_set
      by_line number (Deactivate q oid) done says = none_set
      by_line number (Reference q servant) done says = none_set
      by_line number (ForwardLine q endpoint) done says = none_set
      by_line number (Unforward q) done says = none_set
      by_line number Shutdown done says = none_set
      by_line number (Bad word) done says = none_set

      by_call : (call : Option Call) → call_of past r ≡ call → is_accepted v ≡ true → preset_by p (command_in call) ≡ Some name → IsThere c name
      by_call (Some (Line number command)) at done = by_line number command done (ap (verdict_on c run past r w) (sym at) ∙ told)
      by_call (Some (Request head target operation body)) at done = none_set
      by_call (Some (Locate head target)) at done = none_set
      by_call None at done = none_set

      by_done : (done : Bool) → is_accepted v ≡ done → (call : Option Call) → call_of past r ≡ call
          → preset_by p (if done then command_in call else None) ≡ Some name → IsThere c name
      by_done true is call at = by_call call at is
      by_done false is call at = none_set
  set_there past (Entered conn) may p name is = absurd (let x : None ≡ Some name = is in cc)
  set_there past (Arrive conn size call) may p name is = absurd (let x : None ≡ Some name = is in cc)
  set_there past (Filled conn size) may p name is = absurd (let x : None ≡ Some name = is in cc)
  set_there past (Left conn) may p name is = absurd (let x : None ≡ Some name = is in cc)
  set_there past (Collect conn a) may p name is = absurd (let x : None ≡ Some name = is in cc)
  set_there past (Tried w a) may p name is = absurd (let x : None ≡ Some name = is in cc)
  set_there past (Incarnated w a) may p name is = absurd (let x : None ≡ Some name = is in cc)
  set_there past (Run w) may p name is = absurd (let x : None ≡ Some name = is in cc)
  set_there past (Done w) may p name is = absurd (let x : None ≡ Some name = is in cc)
  set_there past (TakeOut w n x) may p name is = absurd (let y : None ≡ Some name = is in cc)
  set_there past (Etherealized w x y) may p name is = absurd (let z : None ≡ Some name = is in cc)
  set_there past (Abandon w) may p name is = absurd (let x : None ≡ Some name = is in cc)

  -- the default servant of a path is there
  pub preset_there : (h : List Entry) → IsLegal c run limit h → (p : List (List ℕ)) (name : List ℕ) → preset_of c h p ≡ Some name → IsThere c name
  preset_there [] legal p name is = configured_there (template_or_root c p).preset name is
  preset_there (e ∷ past) legal p name is = by_set (preset_there past legal.1 p name) (preset_by p (command_done past e)) refl is
    where
      by_set : (preset_of c past p ≡ Some name → IsThere c name) → (o : Option (List ℕ)) → preset_by p (command_done past e) ≡ o
          → (elim o [ Some servant ↦ Some servant | None ↦ preset_of c past p ]) ≡ Some name → IsThere c name
      by_set before (Some servant) at was = set_there past e legal.0 p name (at ∙ was)
      by_set before None at was = before was

  -- a servant that a locator gives is there
  located_there : (p : List (List ℕ)) (oid name : List ℕ) → located c p oid ≡ Servant name → IsThere c name
  located_there p oid name = by_rule (rule_for (rules_at c p) oid)
    where
      no_rule : NoRule ≡ Servant name → IsThere c name
      no_rule is = absurd (let e : NoRule ≡ Servant name = is in cc)

      by_number : (k : ℕ) (o : Option (List ℕ)) → servant_name c k ≡ o → (elim o [ Some x ↦ Servant x | None ↦ NoRule ]) ≡ Servant name → IsThere c name
      by_number k (Some x) at is = by_name k name (at ∙ (let e : Servant x ≡ Servant name = is in ap (λ y. Some y) cc))
      by_number k None at is = no_rule is

      by_rule : (o : Option RuleConf) → located_by c o ≡ Servant name → IsThere c name
      by_rule None = no_rule
      by_rule (Some rule) =
          elim rule.gives as (λ g.
          (elim g as (λ _. Located) [
            | FreshKind kind ↦ NoRule
            | ServantGiven k ↦ elim (servant_name c k) [ Some x ↦ Servant x | None ↦ NoRule ]
            | ForwardTo endpoint ↦ ByForward endpoint
            | RaiseThis exception ↦ ByRaise exception
          ]) ≡ Servant name → IsThere c name) [
            | FreshKind kind ↦ no_rule
            | ServantGiven k ↦ by_number k (servant_name c k) refl
            | ForwardTo endpoint ↦ λ is. absurd (let e : ByForward endpoint ≡ Servant name = is in cc)
            | RaiseThis exception ↦ λ is. absurd (let e : ByRaise exception ≡ Servant name = is in cc)
          ]

  -- what an Admit names is there
  verdict_there : (past : List Entry) (w r : ℕ) (v : Verdict) → IsLegal c run limit past → verdict_on c run past r w (call_of past r) ≡ Some v
      → NamesThere c (Some v)
  verdict_there past w r v legal told = by_verdict v told
    where
      told_by : (u : Verdict) → is_begin u ≡ true → (call : Option Call) → call_of past r ≡ call → verdict_on c run past r w call ≡ Some u
          → verdict_on c run past r w (call_of past r) ≡ Some u → IsTold (facts_of c run past r) (Go u)
      told_by u begins None at says _ = absurd (let e : None ≡ Some u = says in cc)
      told_by u begins (Some (Line number command)) at says whole =
          absurd (let found = begin_keyed c run past w r u begins whole in let e : None ≡ Some found.0 = ap key_in (sym at) ∙ found.1 in cc)
      told_by u begins (Some (Request head target operation body)) at says _ =
          subst (IsTold (facts_of c run past r)) (chosen_go (first_row (facts_of c run past r) w) u says) (names_told (facts_of c run past r) w)
      told_by u begins (Some (Locate head target)) at says _ =
          subst (IsTold (facts_of c run past r)) (chosen_go (first_row (facts_of c run past r) w) u says) (names_told (facts_of c run past r) w)

      by_verdict : (u : Verdict) → verdict_on c run past r w (call_of past r) ≡ Some u → NamesThere c (Some u)
      by_verdict (Preset name) is =
          preset_there past legal (key_or_none (key_in (call_of past r))).path name (told_by (Preset name) refl (call_of past r) refl is is)
      by_verdict (Locator name) is =
          located_there (key_or_none (key_in (call_of past r))).path (key_or_none (key_in (call_of past r))).oid name
          (told_by (Locator name) refl (call_of past r) refl is is)
      by_verdict (Serve n) is = tt
      by_verdict (Incarnate n) is = tt
      by_verdict Try is = tt
      by_verdict (Refuse x) is = tt
      by_verdict (Forward x) is = tt
      by_verdict Addressing is = tt
      by_verdict Here is = tt
      by_verdict Unknown is = tt
      by_verdict (AnswerWith x) is = tt
      by_verdict Wait is = tt

  -- so is what stands admitted
  pub admitted_there : (h : List Entry) → IsLegal c run limit h → (r : ℕ) → NamesThere c (admitted h r)
  admitted_there [] legal r = tt
  admitted_there (Admit w a v ∷ past) legal r =
      cond_both (a == r) _ _ (NamesThere c) (λ _. verdict_there past w a v legal.1 (admitted_for c run past w a v legal.0)) (λ _. admitted_there past legal.1 r)
  admitted_there (Tried w (Yes n) ∷ past) legal r =
      cond_both (is_at r (arrival_in (stage past w))) _ _ (NamesThere c) (λ _. tt) (λ _. admitted_there past legal.1 r)
  admitted_there (Tried w NoChild ∷ past) legal r = admitted_there past legal.1 r
  admitted_there (Tried w Raised ∷ past) legal r = admitted_there past legal.1 r
  admitted_there (Tried w Dying ∷ past) legal r = admitted_there past legal.1 r
  admitted_there (Entered conn ∷ past) legal r = admitted_there past legal.1 r
  admitted_there (Arrive conn size call ∷ past) legal r = admitted_there past legal.1 r
  admitted_there (Filled conn size ∷ past) legal r = admitted_there past legal.1 r
  admitted_there (Left conn ∷ past) legal r = admitted_there past legal.1 r
  admitted_there (Collect conn a ∷ past) legal r = admitted_there past legal.1 r
  admitted_there (Incarnated w a ∷ past) legal r = admitted_there past legal.1 r
  admitted_there (Run w ∷ past) legal r = admitted_there past legal.1 r
  admitted_there (Done w ∷ past) legal r = admitted_there past legal.1 r
  admitted_there (TakeOut w n x ∷ past) legal r = admitted_there past legal.1 r
  admitted_there (Etherealized w x y ∷ past) legal r = admitted_there past legal.1 r
  admitted_there (Abandon w ∷ past) legal r = admitted_there past legal.1 r

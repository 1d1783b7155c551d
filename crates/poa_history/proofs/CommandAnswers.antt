-- A command, and a call without a key, begins nothing.
use Rattle.std.specs.Prelude.{◌≡◌, ℕ, suc, Bool, true, false, not, ◌&&◌, ◌==◌, nat_le, if◌then◌else◌, List, [], ◌∷◌, Option, Some, None, option_and_then, is_some, is_none, refl}
use Rattle.std.specs.List.{list_any}
use Rattle.std.proofs.Common.{sym, ap, ◌∙◌}
use Rattle.std.proofs.lemmas.Bool.{cond_both, true≢false}
use Rattle.poa_base.specs.declared.Config.{Config}
use Rattle.poa_base.specs.declared.Key.{Key}
use Rattle.poa_base.specs.declared.Call.{Call}
use Rattle.poa_base.specs.declared.Call.TheVariants.{Request, Locate, Line}
use Rattle.poa_base.specs.declared.Order.{Order}
use Rattle.poa_base.specs.declared.Command.{Command}
use Rattle.poa_base.specs.declared.Command.TheVariants.{Manager, Create, Destroy, Activate, ActivateId, Deactivate, Reference, Preset as PresetLine, Forward as ForwardLine, Unforward, Shutdown, Bad}
use Rattle.poa_base.specs.declared.Answer.TheVariants.{Good, GoodId, GoodIor, No}
use Rattle.poa_base.specs.declared.Reason.{Reason}
use Rattle.poa_base.specs.declared.Reason.TheVariants.{NoManager, AdapterInactive, AdapterNonExistent, NoTemplate, AdapterAlreadyExists, TooMany, WrongPolicy, NoServant, ServantAlreadyActive, BadId, ObjectAlreadyActive, ObjectNotActive, ServantNotActive, NoForward, BadWord}
use Rattle.poa_base.specs.declared.Verdict.{Verdict}
use Rattle.poa_base.specs.declared.Verdict.TheVariants.{Serve, Preset, Locator, Incarnate, Try, Refuse, Addressing, Unknown, Answer, Wait}
use Rattle.poa_base.specs.declared.Entry.{Entry}
use Rattle.poa_choose.specs.declared.Choice.{Choice}
use Rattle.poa_choose.specs.declared.Choice.TheVariants.{Go}
use Rattle.poa_choose.specs.declared.Facts.{Facts}
use Rattle.poa_choose.specs.declared.KeyFact.{KeyFact}
use Rattle.poa_choose.specs.declared.KeyFact.TheVariants.{Absent, Bad as BadKey, OtherRun, Transient, Persistent}
use Rattle.poa_choose.specs.Table.{key_rows, first_row}
use Rattle.history_standing.specs.declared.node.Node.{Node}
use Rattle.history_standing.specs.Paths.{parent_path}
use Rattle.history_standing.specs.Nodes.{node_at}
use Rattle.history_standing.specs.Templates.{template, policies_at, retains, makes_ids, uses_default_servant, manager_number, servant_number}
use Rattle.history_standing.specs.Arrivals.{call_of, target_of}
use Rattle.history_standing.specs.Standings.{Standing, is_active, is_of, is_tried}
use Rattle.history_standing.specs.Ends.{is_over}
use Rattle.history_standing.specs.Logs.{manager_state, endpoint_of}
use Rattle.history_standing.specs.Keys.{key_of, key_in}
use Rattle.history_standing.specs.Opening.{made_id}
use Rattle.history_standing.specs.References.{reference_text}
use Rattle.history_standing.specs.Commands.{refusal, good, good_or_wait, live_at, with_live, with_servant, is_taken, is_bad_id, waits, is_inactive, manager_row, create_row, activate_row, activate_id_row, deactivate_row, referred, is_implicit, reference_row, preset_row, command_verdict}
use Rattle.history_standing.specs.Changes.{standing}
use Rattle.history_standing.specs.Situations.{key_fact, facts_of}
use Rattle.poa_history.specs.Verdicts.{verdict_on}
use Rattle.poa_history.proofs.StepMoves.{chosen_go}

-- something is in flight by it
abbrev pub is_begin : Verdict → Bool
is_begin (Serve n) = true
is_begin (Preset name) = true
is_begin (Locator name) = true
is_begin (Incarnate n) = true
is_begin Try = true
is_begin v = false

-- an answer that begins nothing
abbrev BeginsNone : Option Verdict → Type 0
BeginsNone o = (v : Verdict) → o ≡ Some v → is_begin v ≡ false

by_verdict : (u : Verdict) → is_begin u ≡ false → BeginsNone (Some u)
by_verdict u none v is = (let e : Some u ≡ Some v = is in let same : u ≡ v = cc in ap is_begin (sym same) ∙ none)

refuses : (reason : Reason) → BeginsNone (refusal reason)
refuses reason = by_verdict (Answer (No reason)) refl

holds : BeginsNone None
holds v is = absurd (let e : None ≡ Some v = is in cc)

does : BeginsNone good
does = by_verdict (Answer Good) refl

does_or_waits : (wait : Bool) → BeginsNone (good_or_wait wait)
does_or_waits wait = cond_both wait Wait (Answer Good) (λ u. BeginsNone (Some u)) (λ _. by_verdict Wait refl) (λ _. by_verdict (Answer Good) refl)

if_test : (b : Bool) (x y : Option Verdict) → BeginsNone x → BeginsNone y → BeginsNone (if b then x else y)
if_test b x y one other = cond_both b x y BeginsNone (λ _. one) (λ _. other)

where_live : (s : Standing) (p : List (List ℕ)) (then_ : Node → Option Verdict) → ((n : Node) → BeginsNone (then_ n)) → BeginsNone (with_live s p then_)
where_live s p then_ each =
    elim (live_at s p) as (λ o. BeginsNone (elim o [ Some n ↦ then_ n | None ↦ refusal AdapterNonExistent ]))
    [ Some n ↦ each n | None ↦ refuses AdapterNonExistent ]

where_servant : (c : Config) (name : List ℕ) (then_ : ℕ → Option Verdict) → ((k : ℕ) → BeginsNone (then_ k)) → BeginsNone (with_servant c name then_)
where_servant c name then_ each =
    elim (servant_number c name) as (λ o. BeginsNone (elim o [ Some k ↦ then_ k | None ↦ refusal NoServant ])) [ Some k ↦ each k | None ↦ refuses NoServant ]

module _ (c : Config) (run : ℕ) (past : List Entry) (s : Standing) where
  manager_none : (name : List ℕ) (order : Order) → BeginsNone (manager_row c past name order)
  manager_none name order =
      elim (manager_number c name) as (λ o. BeginsNone
      (elim o [ None ↦ refusal NoManager | Some m ↦ (if is_inactive (manager_state c past m) then refusal AdapterInactive else good_or_wait (waits order)) ])) [
        | None ↦ refuses NoManager
        | Some m ↦ if_test (is_inactive (manager_state c past m)) _ _ (refuses AdapterInactive) (does_or_waits (waits order))
      ]

  create_none : (p : List (List ℕ)) → BeginsNone (create_row c s p)
  create_none [] = refuses AdapterAlreadyExists
  create_none (x ∷ p) =
      where_live s (parent_path (x ∷ p)) _ (λ n. if_test (is_none (template c (x ∷ p))) _ _ (refuses NoTemplate)
      (if_test (is_tried s.flights (x ∷ p)) _ _ holds
      (elim (node_at s.nodes (x ∷ p)) as (λ o. BeginsNone
      (elim o [
        | Some old ↦ (if old.dying then None else refusal AdapterAlreadyExists)
        | None ↦
            (if nat_le 65536 s.count then refusal (TooMany s.count) else good)
      ])) [
        | Some old ↦ if_test old.dying _ _ holds (refuses AdapterAlreadyExists)
        | None ↦ if_test (nat_le 65536 s.count) _ _ (refuses (TooMany s.count)) does
      ])))

  activate_none : (p : List (List ℕ)) (servant : List ℕ) → BeginsNone (activate_row c run s p servant)
  activate_none p servant =
      where_live s p _ (λ n. if_test (not (retains (policies_at c p) && makes_ids (policies_at c p))) _ _ (refuses WrongPolicy)
      (where_servant c servant _
      (λ k. if_test (is_taken c s n k) _ _ (refuses ServantAlreadyActive) (by_verdict (Answer (GoodId (made_id run (suc s.made)))) refl))))

  activate_id_none : (p : List (List ℕ)) (oid servant : List ℕ) → BeginsNone (activate_id_row c run s p oid servant)
  activate_id_none p oid servant =
      where_live s p _ (λ n. if_test (not (retains (policies_at c p))) _ _ (refuses WrongPolicy)
      (where_servant c servant _ (λ k. if_test (is_bad_id c run s.made p oid) _ _ (refuses BadId)
      (if_test (list_any (λ a. is_of n.number oid a && is_active a) s.activations) _ _ (refuses ObjectAlreadyActive)
      (if_test (list_any (λ a. is_of n.number oid a && not (is_over c a)) s.activations) _ _ holds
      (if_test (is_taken c s n k) _ _ (refuses ServantAlreadyActive) does))))))

  deactivate_none : (p : List (List ℕ)) (oid : List ℕ) → BeginsNone (deactivate_row c s p oid)
  deactivate_none p oid =
      where_live s p _ (λ n. if_test (not (retains (policies_at c p))) _ _ (refuses WrongPolicy)
      (if_test (list_any (λ a. is_of n.number oid a && is_active a) s.activations) _ _ does (refuses ObjectNotActive)))

  reference_none : (p : List (List ℕ)) (servant : List ℕ) → BeginsNone (reference_row c run s p servant)
  reference_none p servant =
      where_live s p _ (λ n. where_servant c servant _ (λ k.
      elim (referred c s n k) as (λ o. BeginsNone
      (elim o [
        | Some a ↦ Some (Answer (GoodIor (reference_text c run n.number p a.oid k)))
        | None ↦
            (if is_implicit c s n k then Some (Answer (GoodIor (reference_text c run n.number p (made_id run (suc s.made)) k))) else refusal ServantNotActive)
      ])) [
        | Some a ↦ by_verdict (Answer (GoodIor (reference_text c run n.number p a.oid k))) refl
        | None ↦
            if_test (is_implicit c s n k) _ _ (by_verdict (Answer (GoodIor (reference_text c run n.number p (made_id run (suc s.made)) k))) refl)
            (refuses ServantNotActive)
      ]))

  preset_none : (p : List (List ℕ)) (servant : List ℕ) → BeginsNone (preset_row c s p servant)
  preset_none p servant =
      where_live s p _ (λ n. if_test (not (uses_default_servant (policies_at c p))) _ _ (refuses WrongPolicy) (where_servant c servant _ (λ k. does)))

  command_none : (command : Command) → BeginsNone (command_verdict c run past s command)
  unfolding command_verdict
  command_none (Manager name order) = manager_none name order
  command_none (Create p) = create_none p
  command_none (Destroy p etherealize wait) = where_live s p _ (λ n. does_or_waits wait)
  command_none (Activate p servant) = activate_none p servant
  command_none (ActivateId p oid servant) = activate_id_none p oid servant
  command_none (Deactivate p oid) = deactivate_none p oid
  command_none (Reference p servant) = reference_none p servant
  command_none (PresetLine p servant) = preset_none p servant
  command_none (ForwardLine p endpoint) = does
  command_none (Unforward p) = if_test (is_some (endpoint_of c past p)) _ _ does (refuses NoForward)
  command_none Shutdown = where_live s [] _ (λ n. does)
  command_none (Bad word) = refuses (BadWord word)

-- the target has a key of this server
abbrev is_keyed : KeyFact → Bool
is_keyed Absent = false
is_keyed BadKey = false
is_keyed OtherRun = false
is_keyed Transient = true
is_keyed Persistent = true

module _ (f : Facts) (worker : ℕ) (v : Verdict) where
  pub by_choice : (u : Verdict) → is_begin u ≡ false → Go u ≡ Go v → is_begin v ≡ false
  by_choice u none is = (let e : Go u ≡ Go v = is in let same : u ≡ v = cc in ap is_begin (sym same) ∙ none)

  pub refused_none : (choice : Choice) (exception : Verdict) → is_begin exception ≡ false → choice ≡ Go (if f.locate then Unknown else exception)
      → choice ≡ Go v → is_begin v ≡ false
  refused_none choice exception none is same =
      cond_both f.locate Unknown exception (λ u. Go u ≡ Go v → is_begin v ≡ false) (λ _. by_choice Unknown refl) (λ _. by_choice exception none) (sym is ∙ same)

  by_key : (key : KeyFact) → is_keyed key ≡ false → key_rows f worker key ≡ Go v → is_begin v ≡ false
  by_key Absent none = by_choice Addressing refl
  by_key BadKey none = refused_none _ (Refuse _) refl refl
  by_key OtherRun none = refused_none _ (Refuse _) refl refl
  by_key Transient none = absurd (let e : true ≡ false = none in cc)
  by_key Persistent none = absurd (let e : true ≡ false = none in cc)

  unkeyed_none : is_keyed f.key ≡ false → first_row f worker ≡ Go v → is_begin v ≡ false
  unfolding first_row
  unkeyed_none none = cond_both f.crowded _ _ (λ c. c ≡ Go v → is_begin v ≡ false) (λ _. refused_none _ (Refuse _) refl refl) (λ _. by_key f.key none)

module _ (c : Config) (run : ℕ) (past : List Entry) (w r : ℕ) (v : Verdict) where
  -- without a key
  keyless : (target : Option (List ℕ)) → option_and_then key_of target ≡ None → is_keyed (key_fact run target) ≡ false
  keyless None none = refl
  keyless (Some bytes) none =
      elim (key_of bytes) as (λ o. key_of bytes ≡ o → o ≡ None
      → is_keyed
      (elim o as (λ _. KeyFact)
      [ None ↦ BadKey | Some key ↦ elim key.stamp as (λ _. KeyFact) [ None ↦ Persistent | Some stamp ↦ (if stamp.run == run then Transient else OtherRun) ] ]) ≡
      false)
      [ None ↦ λ _ _. refl | Some key ↦ λ _ some_. absurd (let e : Some key ≡ None = some_ in cc) ] refl none

  unkeyed : (call : Option Call) → call_of past r ≡ call → key_in call ≡ None → verdict_on c run past r w call ≡ Some v → is_begin v ≡ false
  unkeyed None at none told = absurd (let e : None ≡ Some v = told in cc)
  unkeyed (Some (Line number command)) at none told = command_none c run past (standing c run past) command v told
  unkeyed (Some (Request head target operation body)) at none told =
      unkeyed_none (facts_of c run past r) w v (ap (λ q. is_keyed (key_fact run (target_of q))) at ∙ keyless target none)
      (chosen_go (first_row (facts_of c run past r) w) v told)
  unkeyed (Some (Locate head target)) at none told =
      unkeyed_none (facts_of c run past r) w v (ap (λ q. is_keyed (key_fact run (target_of q))) at ∙ keyless target none)
      (chosen_go (first_row (facts_of c run past r) w) v told)

  -- what begins has a key
  pub begin_keyed : is_begin v ≡ true → verdict_on c run past r w (call_of past r) ≡ Some v → (key : Key) × (key_in (call_of past r) ≡ Some key)
  begin_keyed begins told =
      elim (key_in (call_of past r)) as (λ o. key_in (call_of past r) ≡ o → (key : Key) × (key_in (call_of past r) ≡ Some key)) [
        | Some key ↦ λ has. (key, has)
        | None ↦ λ none. absurd (true≢false (sym begins ∙ unkeyed (call_of past r) refl none told))
      ] refl

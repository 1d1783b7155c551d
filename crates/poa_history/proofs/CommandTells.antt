-- What a command that an entry does tells of the servant that it activates: under UNIQUE_ID it isn't in the map.
use Rattle.std.specs.Prelude.{◌≡◌, ℕ, suc, true, false, not, ◌&&◌, ◌==◌, if◌then◌else◌, List, find, Option, Some, None, is_none, refl}
use Rattle.std.specs.List.{list_any}
use Rattle.std.proofs.Common.{inl, inr, sym, subst, ap, ap₂, ◌∙◌}
use Rattle.std.proofs.lemmas.Bool.{cases_Bool, cond_both, and_parts, false_from_ne_true, eq-eqb}
use Rattle.poa_base.specs.declared.Config.{Config}
use Rattle.poa_base.specs.declared.Reason.TheVariants.{WrongPolicy, ServantAlreadyActive, BadId, ObjectAlreadyActive}
use Rattle.poa_base.specs.declared.Answer.TheVariants.{Good, GoodId}
use Rattle.poa_base.specs.declared.Call.{Call}
use Rattle.poa_base.specs.declared.Call.TheVariants.{Request, Locate, Line}
use Rattle.poa_base.specs.declared.Command.{Command}
use Rattle.poa_base.specs.declared.Command.TheVariants.{Activate, ActivateId}
use Rattle.poa_base.specs.declared.Sid.{Sid}
use Rattle.poa_base.specs.declared.Sid.TheVariants.{Named as NamedServant}
use Rattle.poa_base.specs.declared.Verdict.{Verdict}
use Rattle.poa_base.specs.declared.Verdict.TheVariants.{Answer}
use Rattle.poa_base.specs.declared.Entry.{Entry}
use Rattle.poa_base.specs.declared.Entry.TheVariants.{Entered, Arrive, Filled, Left, Collect, Admit, Tried, Incarnated, Run, Done, TakeOut, Etherealized, Abandon}
use Rattle.history_standing.specs.declared.node.Node.{Node}
use Rattle.history_standing.specs.declared.activation.Activation.{Activation}
use Rattle.history_standing.specs.Templates.{policies_at, retains, is_unique, makes_ids, activates_implicitly, servant_number}
use Rattle.history_standing.specs.Arrivals.{call_of}
use Rattle.history_standing.specs.Standings.{Standing, is_active, is_mapped, has_servant, is_of, is_in_map}
use Rattle.history_standing.specs.Ends.{is_over}
use Rattle.history_standing.specs.Logs.{is_accepted, command_in, command_done}
use Rattle.history_standing.specs.Opening.{made_id}
use Rattle.history_standing.specs.Commands.{refusal, live_at, with_servant, is_taken, is_bad_id, activate_row, activate_id_row, command_verdict, referred, is_implicit}
use Rattle.history_standing.specs.Changes.{standing}
use Rattle.poa_history.specs.Verdicts.{verdict_on}
use Rattle.poa_history.specs.Legal.{MayFollow}
use Rattle.history_standing.specs.Trees.{In}
use Rattle.history_standing.proofs.Finding.{find_none}
use Rattle.poa_history.proofs.CommandMoves.{refused, held, lived, known}
use Rattle.history_standing.proofs.Members.{some_in, any_in}
use Rattle.poa_history.proofs.StepMoves.{admitted_for}

-- the servant isn't in the map of the adapter at the path, where a servant is to be there once
pub record IsUntaken (c : Config) (s : Standing) (p : List (List ℕ)) (servant : List ℕ) : Type 0 where
  pub node : Node
  pub lives : live_at s p ≡ Some node
  pub number : ℕ
  pub known : servant_number c servant ≡ Some number
  pub untaken : is_taken c s node number ≡ false

module _ (c : Config) (run : ℕ) (past : List Entry) where
  abbrev s : Standing
  s = standing c run past

  by_line : (w r : ℕ) (v : Verdict) (call : Option Call) (d : Command) → verdict_on c run past r w call ≡ Some v → command_in call ≡ Some d
      → command_verdict c run past s d ≡ Some v
  by_line w r v None d told is = absurd (let e : None ≡ Some d = is in cc)
  by_line w r v (Some (Request head target operation body)) d told is = absurd (let e : None ≡ Some d = is in cc)
  by_line w r v (Some (Locate head target)) d told is = absurd (let e : None ≡ Some d = is in cc)
  by_line w r v (Some (Line number command)) d told is =
      (let e : Some command ≡ Some d = is in let same : command ≡ d = cc in subst (λ x. command_verdict c run past s x ≡ Some v) same told)

  -- a command that is done was answered
  pub done_verdict : (limit : ℕ) (e : Entry) (d : Command) → MayFollow c run limit past e → command_done past e ≡ Some d → (v : Verdict)
      × (command_verdict c run past s d ≡ Some v) × (is_accepted v ≡ true)
  done_verdict limit (Admit w r v) d may done =
      elim (cases_Bool (is_accepted v)) [
        | inl accepted ↦ (
          v,
          by_line w r v (call_of past r) d (admitted_for c run past w r v may) (ap (λ b. if b then command_in (call_of past r) else None) (sym accepted)
              ∙ done),
          accepted,
        )
        | inr no_ ↦ absurd (let e : None ≡ Some d = ap (λ b. if b then command_in (call_of past r) else None) (sym no_) ∙ done in cc)
      ]
  done_verdict limit (Entered conn) d may done = absurd (let e : None ≡ Some d = done in cc)
  done_verdict limit (Arrive conn size call) d may done = absurd (let e : None ≡ Some d = done in cc)
  done_verdict limit (Filled conn size) d may done = absurd (let e : None ≡ Some d = done in cc)
  done_verdict limit (Left conn) d may done = absurd (let e : None ≡ Some d = done in cc)
  done_verdict limit (Collect conn a) d may done = absurd (let e : None ≡ Some d = done in cc)
  done_verdict limit (Tried w a) d may done = absurd (let e : None ≡ Some d = done in cc)
  done_verdict limit (Incarnated w a) d may done = absurd (let e : None ≡ Some d = done in cc)
  done_verdict limit (Run w) d may done = absurd (let e : None ≡ Some d = done in cc)
  done_verdict limit (Done w) d may done = absurd (let e : None ≡ Some d = done in cc)
  done_verdict limit (TakeOut w n x) d may done = absurd (let e : None ≡ Some d = done in cc)
  done_verdict limit (Etherealized w x y) d may done = absurd (let e : None ≡ Some d = done in cc)
  done_verdict limit (Abandon w) d may done = absurd (let e : None ≡ Some d = done in cc)

  by_activate : (p : List (List ℕ)) (servant : List ℕ) (v : Verdict) → activate_row c run s p servant ≡ Some v → is_accepted v ≡ true → IsUntaken c s p servant
  by_activate p servant v is accepted =
      let (n, lives, done) =
      lived s p (λ n. if not (retains (policies_at c p) && makes_ids (policies_at c p)) then refusal WrongPolicy else with_servant c servant (after n)) v is
      accepted in
      cond_both (not (retains (policies_at c p) && makes_ids (policies_at c p))) _ _ (λ o. o ≡ Some v → IsUntaken c s p servant)
      (λ _ no_. refused WrongPolicy v no_ accepted)
      (λ _ more. (let (k, number, row) = known c servant (after n) v more accepted in
      cond_both (is_taken c s n k) _ _ (λ o. o ≡ Some v → IsUntaken c s p servant)
      (λ _ no_. refused ServantAlreadyActive v no_ accepted)
      (λ free _. record { node = n; lives = lives; number = k; known = number; untaken = free }) row)) done
    where
      after : Node → ℕ → Option Verdict
      after n k = if is_taken c s n k then refusal ServantAlreadyActive else Some (Answer (GoodId (made_id run (suc s.made))))

  by_activate_id : (p : List (List ℕ)) (oid servant : List ℕ) (v : Verdict) → activate_id_row c run s p oid servant ≡ Some v → is_accepted v ≡ true
      → IsUntaken c s p servant
  by_activate_id p oid servant v is accepted =
      let (n, lives, done) = lived s p (λ n. if not (retains (policies_at c p)) then refusal WrongPolicy else with_servant c servant (after n)) v is accepted in
      cond_both (not (retains (policies_at c p))) _ _ (λ o. o ≡ Some v → IsUntaken c s p servant)
      (λ _ no_. refused WrongPolicy v no_ accepted)
      (λ _ more. (let (k, number, row) = known c servant (after n) v more accepted in
      cond_both (is_bad_id c run s.made p oid) _ _ (λ o. o ≡ Some v → IsUntaken c s p servant)
      (λ _ no_. refused BadId v no_ accepted)
      (λ _. cond_both (list_any (λ a. is_of n.number oid a && is_active a) s.activations) _ _ (λ o. o ≡ Some v → IsUntaken c s p servant)
      (λ _ no_. refused ObjectAlreadyActive v no_ accepted)
      (λ _. cond_both (list_any (λ a. is_of n.number oid a && not (is_over c a)) s.activations) _ _ (λ o. o ≡ Some v → IsUntaken c s p servant)
      (λ _ none. held v none)
      (λ _. cond_both (is_taken c s n k) _ _ (λ o. o ≡ Some v → IsUntaken c s p servant)
      (λ _ no_. refused ServantAlreadyActive v no_ accepted)
      (λ free _. record { node = n; lives = lives; number = k; known = number; untaken = free })))) row)) done
    where
      after : Node → ℕ → Option Verdict
      after n k =
          if is_bad_id c run s.made p oid then refusal BadId
          else if list_any (λ a. is_of n.number oid a && is_active a) s.activations then refusal ObjectAlreadyActive
          else if list_any (λ a. is_of n.number oid a && not (is_over c a)) s.activations then None
          else if is_taken c s n k then refusal ServantAlreadyActive
          else Some (Answer Good)

  pub untaken_activate : (limit : ℕ) (e : Entry) (p : List (List ℕ)) (servant : List ℕ) → MayFollow c run limit past e
      → command_done past e ≡ Some (Activate p servant) → IsUntaken c s p servant
  unfolding command_verdict
  untaken_activate limit e p servant may done =
      (let (v, row, accepted) = done_verdict limit e (Activate p servant) may done in by_activate p servant v row accepted)

  pub untaken_activate_id : (limit : ℕ) (e : Entry) (p : List (List ℕ)) (oid servant : List ℕ) → MayFollow c run limit past e
      → command_done past e ≡ Some (ActivateId p oid servant) → IsUntaken c s p servant
  unfolding command_verdict
  untaken_activate_id limit e p oid servant may done =
      (let (v, row, accepted) = done_verdict limit e (ActivateId p oid servant) may done in by_activate_id p oid servant v row accepted)

-- an activation by which a servant is in the map takes it
pub in_map_by : (s : Standing) (a : Activation) (k : ℕ) (t : Sid) → In a s.activations → a.adapter ≡ k → is_mapped a ≡ true → has_servant t a ≡ true
    → is_in_map s.activations k t ≡ true
in_map_by s a k t there at mapped has =
    any_in (λ b. (b.adapter == k) && (is_mapped b && has_servant t b)) a s.activations there
    (ap₂ (λ x y. x && y) (eq-eqb a.adapter k at) (ap₂ (λ x y. x && y) mapped has))

-- where it is referred to implicitly it isn't in the map
pub untaken_reference : (c : Config) (s : Standing) (n : Node) (k : ℕ) → is_implicit c s n k ≡ true → is_taken c s n k ≡ false
untaken_reference c s n k implicit =
    false_from_ne_true (is_taken c s n k) (λ taken.
    let outer = and_parts (is_none (referred c s n k)) (retains (policies_at c n.path) && activates_implicitly (policies_at c n.path)) implicit in
    let policies = and_parts (retains (policies_at c n.path)) (activates_implicitly (policies_at c n.path)) outer.1 in
    let both = and_parts (is_unique (policies_at c n.path)) (is_in_map s.activations n.number (NamedServant k)) taken in
    let found = some_in (λ a. (a.adapter == n.number) && (is_mapped a && has_servant (NamedServant k) a)) s.activations both.1 in
    none_here found.0 found.1 found.2
    (ap (λ b. is_none (if b then find (λ a. (a.adapter == n.number) && (is_mapped a && has_servant (NamedServant k) a)) s.activations else None))
    (sym (ap₂ (λ x y. x && y) policies.0 both.0)) ∙ outer.0))
  where
    none_here : (a : Activation) → In a s.activations → ((a.adapter == n.number) && (is_mapped a && has_servant (NamedServant k) a)) ≡ true
        → is_none (find (λ b. (b.adapter == n.number) && (is_mapped b && has_servant (NamedServant k) b)) s.activations) ≡ true → ⊥
    none_here a there passes none =
        elim (find (λ b. (b.adapter == n.number) && (is_mapped b && has_servant (NamedServant k) b)) s.activations) as (λ o. find
        (λ b. (b.adapter == n.number) && (is_mapped b && has_servant (NamedServant k) b)) s.activations ≡ o → is_none o ≡ true → ⊥) [
          | None ↦ λ is _. find_none (λ b. (b.adapter == n.number) && (is_mapped b && has_servant (NamedServant k) b)) a s.activations is there passes
          | Some x ↦ λ _ no_. (let e : false ≡ true = no_ in cc)
        ] refl none

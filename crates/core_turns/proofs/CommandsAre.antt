-- The verdict on a command, by what answers as what stands after the history.
use Rattle.std.proofs.Common.{◌≡◌, ℕ, not, ◌&&◌, if◌then◌else◌, List, [], ◌∷◌, Option, Some, None, refl, ap, ◌∙◌}
use Rattle.std.specs.Prelude.{is_none, suc}
use Rattle.std.specs.List.{list_any}
use Rattle.poa_base.specs.declared.Config.{Config}
use Rattle.poa_base.specs.declared.Command.{Command}
use Rattle.poa_base.specs.declared.Command.TheVariants.{Manager, Create, Destroy, Activate, ActivateId, Deactivate, Reference, Preset, Forward, Unforward, Shutdown, Bad}
use Rattle.poa_base.specs.declared.Entry.{Entry}
use Rattle.poa_base.specs.declared.Verdict.TheVariants.{Answer}
use Rattle.poa_base.specs.declared.Answer.TheVariants.{GoodId, GoodIor}
use Rattle.poa_base.specs.declared.Reason.TheVariants.{AdapterNonExistent, WrongPolicy, NoServant, ServantAlreadyActive, BadId, ObjectAlreadyActive, ObjectNotActive, ServantNotActive}
use Rattle.poa_base.specs.declared.Sid.TheVariants.{Named}
use Rattle.history_standing.specs.declared.node.Node.{Node}
use Rattle.history_standing.specs.Changes.{standing}
use Rattle.history_standing.specs.Commands.{refusal, good, live_at, is_taken, is_bad_id, activate_row, activate_id_row, deactivate_row, referred, is_implicit, reference_row, command_verdict}
use Rattle.history_standing.specs.Ends.{is_over}
use Rattle.history_standing.specs.Opening.{made_id}
use Rattle.history_standing.specs.References.{reference_text}
use Rattle.history_standing.specs.Standings.{Standing, is_active, is_of}
use Rattle.history_standing.specs.Templates.{policies_at, retains, is_unique, makes_ids, activates_implicitly, servant_number}
use Rattle.core_standing.specs.Answers.{AnswersAs}

-- what is done with what is found is the same
found_same : {A B : Type 0} (f g : A → B) (none : B) (o : Option A) → ((x : A) → f x ≡ g x)
    → ◌≡◌ {A = B} (elim o [ Some x ↦ f x | None ↦ none ]) (elim o [ Some x ↦ g x | None ↦ none ])
found_same f g none (Some x) same = same x
found_same f g none None same = refl

module _ (c : Config) (run : ℕ) (past : List Entry) (t : Standing) (answers : AnswersAs c run past t) where
  abbrev s : Standing
  s = standing c run past

  -- what stands, with the activations that are kept
  abbrev on : Standing
  on = record s { activations = t.activations }

  taken_same : (n : Node) (k : ℕ) → is_taken c on n k ≡ is_taken c s n k
  taken_same n k = ap (λ b. is_unique (policies_at c n.path) && b) (answers.in_map n.number (Named k))

  referred_same : (n : Node) (k : ℕ) → referred c on n k ≡ referred c s n k
  referred_same n k = ap (λ o. if retains (policies_at c n.path) && is_unique (policies_at c n.path) then o else None) (answers.mapped n.number (Named k))

  implicit_same : (n : Node) (k : ℕ) → is_implicit c on n k ≡ is_implicit c s n k
  implicit_same n k = ap (λ o. is_none o && (retains (policies_at c n.path) && activates_implicitly (policies_at c n.path))) (referred_same n k)

  activates : (p : List (List ℕ)) (servant : List ℕ) → activate_row c run on p servant ≡ activate_row c run s p servant
  activates p servant =
      found_same _ _ (refusal AdapterNonExistent) (live_at s p)
      (λ n. ap (λ v. if not (retains (policies_at c p) && makes_ids (policies_at c p)) then refusal WrongPolicy else v)
      (found_same _ _ (refusal NoServant) (servant_number c servant)
      (λ k. ap (λ b. if b then refusal ServantAlreadyActive else Some (Answer (GoodId (made_id run (suc s.made))))) (taken_same n k))))

  activates_id : (p : List (List ℕ)) (oid servant : List ℕ) → activate_id_row c run on p oid servant ≡ activate_id_row c run s p oid servant
  activates_id p oid servant =
      found_same _ _ (refusal AdapterNonExistent) (live_at s p)
      (λ n. ap (λ v. if not (retains (policies_at c p)) then refusal WrongPolicy else v)
      (found_same _ _ (refusal NoServant) (servant_number c servant) (λ k. ap (λ v. if is_bad_id c run s.made p oid then refusal BadId else v) (row n k))))
    where
      row : (n : Node) (k : ℕ)
          → (if list_any (λ a. is_of n.number oid a && is_active a) t.activations then refusal ObjectAlreadyActive else if list_any
          (λ a. is_of n.number oid a && not (is_over c a)) t.activations then None else if is_taken c on n k then refusal ServantAlreadyActive else good)
          ≡ (if list_any (λ a. is_of n.number oid a && is_active a) s.activations then refusal ObjectAlreadyActive else if list_any
          (λ a. is_of n.number oid a && not (is_over c a)) s.activations then None else if is_taken c s n k then refusal ServantAlreadyActive else good)
      row n k =
          ap (λ b. if b then refusal ObjectAlreadyActive else if list_any
          (λ a. is_of n.number oid a && not (is_over c a)) t.activations then None else if is_taken c on n k then refusal ServantAlreadyActive else good)
          (answers.active n.number oid)
          ∙ ap (λ b. if list_any (λ a. is_of n.number oid a && is_active a) s.activations then refusal ObjectAlreadyActive else if b then None else if is_taken
          c on n k then refusal ServantAlreadyActive else good) (answers.held n.number oid)
          ∙ ap (λ b. if list_any (λ a. is_of n.number oid a && is_active a) s.activations then refusal ObjectAlreadyActive else if list_any
          (λ a. is_of n.number oid a && not (is_over c a)) s.activations then None else if b then refusal ServantAlreadyActive else good) (taken_same n k)

  deactivates : (p : List (List ℕ)) (oid : List ℕ) → deactivate_row c on p oid ≡ deactivate_row c s p oid
  deactivates p oid =
      found_same _ _ (refusal AdapterNonExistent) (live_at s p)
      (λ n. ap (λ b. if not (retains (policies_at c p)) then refusal WrongPolicy else if b then good else refusal ObjectNotActive)
      (answers.active n.number oid))

  refers : (p : List (List ℕ)) (servant : List ℕ) → reference_row c run on p servant ≡ reference_row c run s p servant
  refers p servant =
      found_same _ _ (refusal AdapterNonExistent) (live_at s p)
      (λ n. found_same _ _ (refusal NoServant) (servant_number c servant) (λ k.
      ap (λ b. elim (referred c on n k) [
        | Some a ↦ Some (Answer (GoodIor (reference_text c run n.number p a.oid k)))
        | None ↦ (if b then Some (Answer (GoodIor (reference_text c run n.number p (made_id run (suc s.made)) k))) else refusal ServantNotActive)
      ]) (implicit_same n k)
      ∙ ap (λ o. elim o [
        | Some a ↦ Some (Answer (GoodIor (reference_text c run n.number p a.oid k)))
        | None ↦ (if is_implicit c s n k then Some (Answer (GoodIor (reference_text c run n.number p (made_id run (suc s.made)) k))) else refusal
            ServantNotActive)
      ]) (referred_same n k)))

  kept_same : (command : Command) → command_verdict c run past on command ≡ command_verdict c run past s command
  unfolding command_verdict
  kept_same (Manager name order) = refl
  kept_same (Create p) = created p
    where
      created : (p : List (List ℕ)) → command_verdict c run past on (Create p) ≡ command_verdict c run past s (Create p)
      created [] = refl
      created (x ∷ p) = refl
  kept_same (Destroy p etherealize wait) = refl
  kept_same (Activate p servant) = activates p servant
  kept_same (ActivateId p oid servant) = activates_id p oid servant
  kept_same (Deactivate p oid) = deactivates p oid
  kept_same (Reference p servant) = refers p servant
  kept_same (Preset p servant) = refl
  kept_same (Forward p endpoint) = refl
  kept_same (Unforward p) = refl
  kept_same Shutdown = refl
  kept_same (Bad word) = refl

  pub command_same : (command : Command) → command_verdict c run past t command ≡ command_verdict c run past s command
  command_same command = ap (λ u. command_verdict c run past u command) answers.same ∙ kept_same command

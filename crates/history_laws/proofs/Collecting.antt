-- That a reply is collected changes no worker's next entry.
use Rattle.poa_base.specs.declared.Call.{Call}
use Rattle.poa_base.specs.declared.Call.TheVariants.{Line, Locate, Request}
use Rattle.poa_base.specs.declared.Command.{Command}
use Rattle.poa_base.specs.declared.Command.TheVariants.{Activate, ActivateId, Bad as BadLine, Create, Deactivate, Destroy, Forward as ForwardLine, Manager, Preset as PresetLine, Reference, Shutdown, Unforward}
use Rattle.poa_base.specs.declared.Config.{Config}
use Rattle.poa_base.specs.declared.Entry.{Entry}
use Rattle.poa_base.specs.declared.Entry.TheVariants.{Admit, Collect}
use Rattle.poa_choose.specs.Table.{first_row}
use Rattle.poa_history.proofs.GoneIs.{gone_done, stands_ungone}
use Rattle.poa_history.proofs.LegalSound.{legal_sound}
use Rattle.poa_history.proofs.OutIs.{out_run_out}
use Rattle.poa_history.proofs.SettledKept.{or_first, or_second}
use Rattle.poa_history.specs.Alone.{IsGivenAlone}
use Rattle.history_standing.specs.Arrivals.{arrivals, call_of, is_locate, target_of}
use Rattle.poa_history.specs.Bounds.{IsWithinLimits}
use Rattle.history_standing.specs.Changes.{standing}
use Rattle.history_standing.specs.Commands.{command_verdict}
use Rattle.history_standing.specs.Ends.{is_done_with, is_left, let_out, settled, without_ended}
use Rattle.history_standing.specs.Keys.{key_in}
use Rattle.poa_history.specs.Legal.{IsLegal}
use Rattle.poa_history.specs.Out.{has_run_out}
use Rattle.history_standing.specs.Searches.{first_given}
use Rattle.history_standing.specs.Situations.{facts_met, facts_of, is_crowded, key_fact, key_or_none}
use Rattle.poa_history.specs.Sound.{IsGiven}
use Rattle.history_standing.specs.Stages.{is_unadmitted, stage}
use Rattle.history_standing.specs.Standings.{Standing}
use Rattle.history_standing.specs.Templates.{has_activator}
use Rattle.poa_history.specs.Turns.{admission_of, going_on, next_of, removal, turn}
use Rattle.poa_history.specs.Verdicts.{chosen, verdict, verdict_on}
use Rattle.history_standing.specs.declared.activation.Activation.{Activation}
use Rattle.history_standing.specs.declared.stage.Stage.{Stage}
use Rattle.history_standing.specs.declared.stage.Stage.TheVariants.{Free, Incarnating, Ran, Removing, Serving, Trying}
use Rattle.history_standing.specs.Paths.{is_root}
use Rattle.history_standing.specs.Trees.{In}
use Rattle.history_standing.specs.Walks.{walk}
use Rattle.std.proofs.Common.{◌∙◌, ap, ap₂, inl, inr, sym}
use Rattle.std.proofs.lemmas.Bool.{and_parts, cases_Bool, cond_both}
use Rattle.std.specs.Option.{option_or}
use Rattle.std.specs.Prelude.{◌||◌, ◌∷◌, ◌≡◌, Bool, List, None, Option, Some, [], filter, if◌then◌else◌, map, not, option_map, refl, suc, true, zero, ℕ}
use Rattle.history_standing.proofs.Tests.{not_false, not_true}

kept_all : {A : Type 0} (test : A → Bool) (xs : List A) → ((x : A) → In x xs → test x ≡ true) → filter test xs ≡ xs
kept_all test [] each = refl
kept_all test (x ∷ xs) each = ap (λ b. if b then x ∷ filter test xs else filter test xs) (each x (inl refl))
    ∙ ap (λ ys. x ∷ ys) (kept_all test xs (λ y there. each y (inr there)))

mapped_all : {A : Type 0} (f : A → A) (xs : List A) → ((x : A) → In x xs → f x ≡ x) → map f xs ≡ xs
mapped_all f [] each = refl
mapped_all f (x ∷ xs) each = ap₂ (λ y ys. y ∷ ys) (each x (inl refl)) (mapped_all f xs (λ y there. each y (inr there)))

given_same : {A : Type 0} (give other : ℕ → Option A) (k : ℕ) → ((r : ℕ) → give r ≡ other r) → first_given give k ≡ first_given other k
given_same give other zero same = refl
given_same give other (suc k) same = ap₂ (λ x y. option_or x y) (given_same give other k same) (same k)

module _ (c : Config) (run limit : ℕ) (given : IsGiven c run) (alone : IsGivenAlone c run) (within : IsWithinLimits c limit) (h : List Entry)
    (legal : IsLegal c run limit h) where
  abbrev s : Standing
  s = standing c run h

  -- what has ended has gone already
  let_out_same : (a : Activation) → In a s.activations → let_out c s a ≡ a
  let_out_same a there =
      cond_both (is_left c s a) (record a { out = true }) a (λ b. b ≡ a)
      (λ left. (let parts = and_parts (not (has_activator c a.path)) (has_run_out s a) left in
      let out : a.out ≡ true = out_run_out c run limit given alone within h legal a there (not_true (has_activator c a.path) parts.0) ∙ parts.1 in
      ap (λ o. record a { out = o }) (sym out)))
      (λ _. refl)

  settled_same : settled c s ≡ s
  settled_same =
      let out : map (let_out c s) s.activations ≡ s.activations = mapped_all (let_out c s) s.activations let_out_same in
      ap (λ xs. without_ended c (record s { activations = xs })) out
      ∙ ap (λ ns. record s { nodes = ns }) (kept_all (λ n. is_root n.path || not (is_done_with c s n)) s.nodes (λ n there.
      elim (cases_Bool (is_root n.path)) [
        | inl root ↦ or_first (is_root n.path) (not (is_done_with c s n)) root
        | inr below ↦
            or_second (is_root n.path) (not (is_done_with c s n))
            (not_false (is_done_with c s n)
            (sym (gone_done c run s (legal_sound c run limit h given within legal) n there) ∙ stands_ungone c run limit h given within legal n there below))
      ]))

  module _ (conn a : ℕ) where
    abbrev after : List Entry
    after = Collect conn a ∷ h

    command_same : (d : Command) → command_verdict c run after s d ≡ command_verdict c run h s d
    unfolding command_verdict
    command_same (Manager name order) = refl
    command_same (Create p) = refl
    command_same (Destroy p etherealize wait) = refl
    command_same (Activate p servant) = refl
    command_same (ActivateId p oid servant) = refl
    command_same (Deactivate p oid) = refl
    command_same (Reference p servant) = refl
    command_same (PresetLine p servant) = refl
    command_same (ForwardLine p endpoint) = refl
    command_same (Unforward p) = refl
    command_same Shutdown = refl
    command_same (BadLine word) = refl

    facts_same : (r : ℕ) → facts_of c run after r ≡ facts_of c run h r
    facts_same r =
        let key = key_or_none (key_in (call_of h r)) in
        ap (λ t. facts_met c run after t (is_locate (call_of h r)) (is_crowded h r) (key_fact run (target_of (call_of h r))) key (walk t.nodes key.path))
        settled_same

    verdict_same : (r w : ℕ) → verdict c run after r w ≡ verdict c run h r w
    unfolding verdict
    verdict_same r w = by_call (call_of h r)
      where
        by_call : (call : Option Call) → verdict_on c run after r w call ≡ verdict_on c run h r w call
        by_call None = refl
        by_call (Some (Line number command)) = ap (λ t. command_verdict c run after t command) settled_same ∙ command_same command
        by_call (Some (Request head target operation body)) = ap (λ f. chosen (first_row f w)) (facts_same r)
        by_call (Some (Locate head target)) = ap (λ f. chosen (first_row f w)) (facts_same r)

    admission_same : (w r : ℕ) → admission_of c run after w r ≡ admission_of c run h w r
    admission_same w r = ap (λ o. if is_unadmitted h r then option_map (λ v. Admit w r v) o else None) (verdict_same r w)

    pub turn_same : (w : ℕ) → turn c run after w ≡ turn c run h w
    unfolding turn
    turn_same w = by_stage (stage h w)
      where
        by_stage : (b : Stage) → next_of c run after w b ≡ next_of c run h w b
        by_stage Free =
            ap₂ (λ x y. option_or x y) (ap (λ t. removal c t w) settled_same)
            (given_same (admission_of c run after w) (admission_of c run h w) (arrivals h) (admission_same w))
        by_stage (Trying r) = ap (λ t. going_on c t w (Trying r)) settled_same
        by_stage (Incarnating r n) = ap (λ t. going_on c t w (Incarnating r n)) settled_same
        by_stage (Serving r) = refl
        by_stage (Ran r) = refl
        by_stage (Removing n) = ap (λ t. going_on c t w (Removing n)) settled_same

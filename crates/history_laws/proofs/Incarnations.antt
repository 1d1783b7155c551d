-- The activations of an id that a servant activator alone begins, and brings fresh servants of a kind.
use Rattle.history_laws.proofs.Begun.{next_number}
use Rattle.history_laws.proofs.Keyed.{begun_for}
use Rattle.history_laws.specs.OneLine.{AreIncarnated, BringsFresh, was_incarnated}
use Rattle.poa_base.specs.declared.Command.{Command}
use Rattle.poa_base.specs.declared.Command.TheVariants.{Activate, ActivateId, Reference}
use Rattle.poa_base.specs.declared.Config.{Config}
use Rattle.poa_base.specs.declared.Entry.{Entry}
use Rattle.poa_base.specs.declared.Entry.TheVariants.{Abandon, Admit, Arrive, Collect, Done, Entered, Etherealized, Filled, Incarnated, Left, Run, TakeOut, Tried}
use Rattle.poa_base.specs.declared.Gives.TheVariants.{Forward as GivesForward, Fresh as FreshKind, Raise as GivesRaise, Servant}
use Rattle.poa_base.specs.declared.Incarnation.{Incarnation}
use Rattle.poa_base.specs.declared.Incarnation.TheVariants.{Forward as ForwardTo, Fresh, Raise}
use Rattle.poa_base.specs.declared.Kind.{Kind}
use Rattle.poa_base.specs.declared.Kind.TheVariants.{Fault as FaultKind}
use Rattle.poa_base.specs.declared.RuleConf.{RuleConf}
use Rattle.poa_base.specs.declared.Sid.TheVariants.{Fresh as FreshServant}
use Rattle.poa_base.specs.declared.Verdict.TheVariants.{Addressing, Answer as AnswerNow, Forward, Here, Incarnate, Locator, Preset, Refuse, Serve, Try, Unknown, Wait}
use Rattle.poa_history.proofs.ActivationsFrom.{activating, activating_id, activation_from, begun as activation_begun, incarnating, phase_by, referring, stood as activation_stood}
use Rattle.poa_history.proofs.ActivationsLater.{step_later}
use Rattle.poa_history.proofs.CommandAnswers.{begin_keyed}
use Rattle.poa_history.proofs.EndingsAre.{more_activations}
use Rattle.poa_history.proofs.LegalSound.{legal_sound}
use Rattle.poa_history.proofs.TurnTells.{admission_is, incarnation_is}
use Rattle.poa_history.specs.Alone.{IsGivenAlone}
use Rattle.poa_history.specs.Bounds.{IsWithinLimits}
use Rattle.history_standing.specs.Changes.{standing}
use Rattle.history_standing.specs.Ends.{is_finished, is_over}
use Rattle.poa_history.specs.Legal.{IsLegal, MayFollow}
use Rattle.history_standing.specs.Logs.{command_done}
use Rattle.history_standing.specs.Rules.{brought, brought_by, named_or_double, rule_for}
use Rattle.poa_history.specs.Sound.{IsGiven, IsSound}
use Rattle.history_standing.specs.Standings.{Standing, is_void}
use Rattle.poa_history.specs.States.{kind_brought}
use Rattle.history_standing.specs.Templates.{has_activator, rules_at}
use Rattle.history_standing.specs.declared.activation.Activation.{Activation}
use Rattle.history_standing.specs.declared.activation.Phase.TheVariants.{Begun, Complete, Void}
use Rattle.history_standing.specs.declared.stage.Stage.TheVariants.{Incarnating}
use Rattle.history_standing.proofs.Finding.{find_in}
use Rattle.history_standing.specs.Trees.{In}
use Rattle.std.proofs.Common.{◌∙◌, ap, ap₂, arith, inl, inr, subst, sym}
use Rattle.std.proofs.lemmas.Bool.{and_parts, eqb-true, false_from_ne_true, or_cases, true≢false}
use Rattle.std.specs.Prelude.{◌&&◌, ◌<◌, ◌==◌, ◌||◌, ◌∷◌, ◌≡◌, ◌⊎◌, Bool, List, None, Some, [], false, length, not, refl, true, ℕ}

-- what was begun by an incarnation was so before the entry, or the entry begins it
incarnated_before : (e : Entry) (past : List Entry) (n : ℕ) → was_incarnated (e ∷ past) n ≡ true → (was_incarnated past n ≡ true)
    ⊎ ((w : ℕ) × (r : ℕ) × (e ≡ Admit w r (Incarnate n)))
incarnated_before (Entered conn) past n is = inl is
incarnated_before (Arrive conn size call) past n is = inl is
incarnated_before (Filled conn size) past n is = inl is
incarnated_before (Left conn) past n is = inl is
incarnated_before (Collect conn a) past n is = inl is
incarnated_before (Admit w r (Incarnate m)) past n is =
    elim (or_cases (m == n) (was_incarnated past n) is) [ inl now ↦ inr (w, r, ap (λ k. Admit w r (Incarnate k)) (eqb-true m n now)) | inr was ↦ inl was ]
incarnated_before (Admit w r (Serve m)) past n is = inl is
incarnated_before (Admit w r (Preset m)) past n is = inl is
incarnated_before (Admit w r (Locator m)) past n is = inl is
incarnated_before (Admit w r Try) past n is = inl is
incarnated_before (Admit w r (Refuse x)) past n is = inl is
incarnated_before (Admit w r (Forward x)) past n is = inl is
incarnated_before (Admit w r Addressing) past n is = inl is
incarnated_before (Admit w r Here) past n is = inl is
incarnated_before (Admit w r Unknown) past n is = inl is
incarnated_before (Admit w r (AnswerNow x)) past n is = inl is
incarnated_before (Admit w r Wait) past n is = inl is
incarnated_before (Tried w a) past n is = inl is
incarnated_before (Incarnated w a) past n is = inl is
incarnated_before (Run w) past n is = inl is
incarnated_before (Done w) past n is = inl is
incarnated_before (TakeOut w m x) past n is = inl is
incarnated_before (Etherealized w x y) past n is = inl is
incarnated_before (Abandon w) past n is = inl is

module _ (c : Config) (p : List (List ℕ)) (oid : List ℕ) (kind : Kind) (brings_ : BringsFresh c p oid kind) where
  -- the rule of an activation of the id
  rule_of : (a : Activation) → a.path ≡ p → a.oid ≡ oid → rule_for (rules_at c a.path) a.oid ≡ Some brings_.rule
  rule_of a on_path on_oid = ap₂ (λ q i. rule_for (rules_at c q) i) on_path on_oid ∙ brings_.first

  pub brought_fresh : (s : Standing) (a : Activation) → a.path ≡ p → a.oid ≡ oid → brought c s a ≡ Fresh a.number
  brought_fresh s a on_path on_oid =
      ap (brought_by c s a) (rule_of a on_path on_oid)
      ∙ ap (λ g. elim g as (λ _. Incarnation) [
        | FreshKind k ↦ Fresh a.number
        | Servant k ↦ named_or_double c s a k
        | GivesForward endpoint ↦ ForwardTo endpoint
        | GivesRaise exception ↦ Raise exception
      ]) brings_.fresh

  pub kind_is : (a : Activation) → a.path ≡ p → a.oid ≡ oid → kind_brought c a ≡ kind
  kind_is a on_path on_oid =
      ap (λ o. elim o as (λ _. Kind) [
        | None ↦ FaultKind
        | Some rule ↦ elim rule.gives [ FreshKind k ↦ k | Servant k ↦ FaultKind | GivesForward e ↦ FaultKind | GivesRaise e ↦ FaultKind ]
      ]) (rule_of a on_path on_oid)
      ∙ ap (λ g. elim g as (λ _. Kind) [ FreshKind k ↦ k | Servant k ↦ FaultKind | GivesForward e ↦ FaultKind | GivesRaise e ↦ FaultKind ]) brings_.fresh

  -- the path has a servant activator
  pub activator_at : has_activator c p ≡ true
  activator_at = ap₂ (λ x y. x && y) (ap₂ (λ x y. x && y) brings_.kept brings_.managed) (ruled (rules_at c p) brings_.first)
    where
      ruled : (rules : List RuleConf) → rule_for rules oid ≡ Some brings_.rule → (elim rules [ [] ↦ false | _ ∷ _ ↦ true ]) ≡ true
      ruled [] found = absurd (let e : None ≡ Some brings_.rule = found in cc)
      ruled (r ∷ rules) found = refl

  module _ (run limit : ℕ) (given : IsGiven c run) (alone : IsGivenAlone c run) (within : IsWithinLimits c limit) where
    incarnated_begun : (h : List Entry) → IsLegal c run limit h → (n : ℕ) → was_incarnated h n ≡ true → n < length (standing c run h).activations
    incarnated_begun [] legal n is = absurd (let e : false ≡ true = is in cc)
    incarnated_begun (e ∷ past) legal n is =
        elim (incarnated_before e past n is) [
          | inl was ↦ (let low = incarnated_begun past legal.1 n was in let more = more_activations c run past e in omega (arith, low, more))
          | inr now ↦ (let admission = admission_is c run past now.0 now.1 (Incarnate n) (subst (λ x. MayFollow c run limit past x) now.2 legal.0) in
              let key = begin_keyed c run past now.0 now.1 (Incarnate n) refl admission.told in
              let it = begun_for c run limit given alone within past e legal now.0 now.1 n key.0 now.2 key.1 in
              let low = (legal_sound c run limit (e ∷ past) given within legal).counted it.it it.there in
              let at = it.number in omega (arith, low, at))
        ]

    -- it was so before each entry
    pub incarnated_past : (past : List Entry) (e : Entry) → IsLegal c run limit (e ∷ past) → AreIncarnated c run (e ∷ past) p oid
        → AreIncarnated c run past p oid
    incarnated_past past e legal are a there on_path on_oid =
        let (b, in_b, later) = step_later c run past e a there in
        let is = are b in_b (later.path ∙ on_path) (later.oid ∙ on_oid) in (
          elim (incarnated_before e past b.number is.0) [
            | inl was ↦ ap (was_incarnated past) (sym later.number) ∙ was
            | inr now ↦ absurd (let next = next_number c run limit given alone within past e legal now.0 now.1 b.number now.2 in
                let low = (legal_sound c run limit past given within legal.1).counted a there in
                let at = later.number in omega (arith, next, low, at))
          ],
          false_from_ne_true a.quiet (λ quiet. true≢false (sym (later.quiet quiet) ∙ is.1)),
        )

    -- each is on its way in, or has its fresh servant
    pub all_fresh : (h : List Entry) → IsLegal c run limit h → AreIncarnated c run h p oid → (a : Activation) → In a (standing c run h).activations → a.path ≡ p
        → a.oid ≡ oid → (a.phase ≡ Begun) ⊎ (a.phase ≡ Complete (FreshServant a.number))
    all_fresh [] legal are a there on_path on_oid = absurd (let e : false ≡ true = (are a there on_path on_oid).0 in cc)
    all_fresh (e ∷ past) legal are b there on_path on_oid =
        elim (activation_from c run past e b there) [
          | activation_begun fresh ↦ elim fresh.how [
            | incarnating w r n key is has adapter path of_id at ↦ inl at
            | activating q servant done adapter path of_id at ↦ absurd (no_command fresh.number (Activate q servant) done)
            | activating_id q i servant done adapter path of_id at ↦ absurd (no_command fresh.number (ActivateId q i servant) done)
            | referring q servant n k done lives known implicit adapter path of_id at ↦ absurd (no_command fresh.number (Reference q servant) done)
          ]
          | activation_stood a was step ↦ elim step.came [
            | inl kept ↦ elim (all_fresh past legal.1 (incarnated_past past e legal are) a was (sym step.later.path ∙ on_path) (sym step.later.oid ∙ on_oid)) [
              | inl begun ↦ inl (kept ∙ begun)
              | inr complete ↦ inr (kept ∙ (complete ∙ ap (λ n. Complete (FreshServant n)) (sym step.later.number)))
            ]
            | inr came ↦ inr (let it = incarnation_is c run past came.1.worker came.1.answer (subst (λ x. MayFollow c run limit past x) came.1.same legal.0) in
                let found = find_in (λ x. x.number == it.number) it.it (standing c run past).activations it.found in
                let stages : Incarnating it.arrival it.number ≡ Incarnating came.1.arrival a.number = sym it.begun ∙ came.1.begun in
                let number : it.number ≡ a.number = cc in
                let same : it.it ≡ a = sound.activation_alone it.it a found.0 was (eqb-true it.it.number it.number found.1 ∙ number) in
                let answer : came.1.answer ≡ Fresh a.number = sym it.told
                ∙ (ap (brought c (standing c run past)) same
                ∙ brought_fresh (standing c run past) a (sym step.later.path ∙ on_path) (sym step.later.oid ∙ on_oid)) in
                sym came.1.phase_is ∙ (ap (phase_by c a.number) answer ∙ ap (λ n. Complete (FreshServant n)) (sym step.later.number)))
          ]
        ]
      where
        sound : IsSound c run (standing c run past)
        sound = legal_sound c run limit past given within legal.1

        -- what a command begins wasn't begun by an incarnation
        no_command : b.number ≡ length (standing c run past).activations → (d : Command) → command_done past e ≡ Some d → ⊥
        no_command number d done = elim (incarnated_before e past b.number (are b there on_path on_oid).0) [
          | inr now ↦ (let f : None ≡ Some d = ap (command_done past) (sym now.2) ∙ done in cc)
          | inl was ↦ (let low = incarnated_begun past legal.1 b.number was in omega (arith, low, number))
        ]

    module _ (h : List Entry) (legal : IsLegal c run limit h) (are : AreIncarnated c run h p oid) where
      abbrev s : Standing
      s = standing c run h

      sound : IsSound c run s
      sound = legal_sound c run limit h given within legal

      -- one that is over is etherealized
      pub over_told : (a : Activation) → In a s.activations → a.path ≡ p → a.oid ≡ oid → is_over c a ≡ true → a.etherealized ≡ true
      over_told a there on_path on_oid over =
          let unvoid : is_void a ≡ false = elim (all_fresh h legal are a there on_path on_oid) [
            | inl begun ↦ ap (λ q. elim q as (λ _. Bool) [ Void ↦ true | Begun ↦ false | Complete t ↦ false ]) begun
            | inr complete ↦ ap (λ q. elim q as (λ _. Bool) [ Void ↦ true | Begun ↦ false | Complete t ↦ false ]) complete
          ] in
          elim (or_cases (is_void a) (is_finished c a) over) [
            | inl void ↦ absurd (true≢false (sym void ∙ unvoid))
            | inr finished ↦
                told_by a.quiet (has_activator c a.path) a.etherealized (are a there on_path on_oid).1 (ap (has_activator c) on_path ∙ activator_at)
                (and_parts a.out (a.quiet || (not (has_activator c a.path) || a.etherealized)) finished).1
          ]
        where
          told_by : (q k t : Bool) → q ≡ false → k ≡ true → (q || (not k || t)) ≡ true → t ≡ true
          told_by true k t no_ yes_ is = absurd (let e : true ≡ false = no_ in cc)
          told_by false false t no_ yes_ is = absurd (let e : false ≡ true = yes_ in cc)
          told_by false true t no_ yes_ is = is

      -- and of those that aren't there is one, in whichever adapter of the path
      pub one_alone : (a b : Activation) → In a s.activations → In b s.activations → a.path ≡ p → a.oid ≡ oid → b.path ≡ p → b.oid ≡ oid
          → a.etherealized ≡ false → b.etherealized ≡ false → a ≡ b
      one_alone a b a_in b_in a_path a_oid b_path b_oid a_untold b_untold =
          let a_lives = lives a a_in a_path a_oid a_untold in
          let b_lives = lives b b_in b_path b_oid b_untold in
          let a_home = sound.owners a a_in a_lives in
          let b_home = sound.owners b b_in b_lives in
          let same = sound.tree.path_alone a_home.node b_home.node a_home.stands b_home.stands (a_home.placed ∙ (a_path ∙ sym (b_home.placed ∙ b_path))) in
          sound.life_alone a b a_in b_in (sym a_home.numbered ∙ (ap (λ n. n.number) same ∙ b_home.numbered)) (a_oid ∙ sym b_oid) a_lives b_lives
        where
          lives : (x : Activation) → In x s.activations → x.path ≡ p → x.oid ≡ oid → x.etherealized ≡ false → is_over c x ≡ false
          lives x there on_path on_oid untold = false_from_ne_true (is_over c x) (λ over. true≢false (sym (over_told x there on_path on_oid over) ∙ untold))

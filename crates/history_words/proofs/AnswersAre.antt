-- A command that makes an id is answered by the next one.
use Rattle.std.specs.Prelude.{◌≡◌, ℕ, suc, ◌≤◌, true, not, ◌&&◌, if◌then◌else◌, List, ◌∷◌, [], Option, Some, None, length, is_none, refl}
use Rattle.std.proofs.Common.{inl, inr, sym, subst, ap, ◌∙◌, arith}
use Rattle.std.proofs.lemmas.Bool.{cond_both, cases_Bool, and_parts, true≢false, ltb-true}
use Rattle.poa_base.specs.declared.Config.{Config}
use Rattle.poa_base.specs.declared.Call.{Call}
use Rattle.poa_base.specs.declared.Call.TheVariants.{Request, Locate, Line}
use Rattle.poa_base.specs.declared.Command.{Command}
use Rattle.poa_base.specs.declared.Command.TheVariants.{Activate, ActivateId, Reference}
use Rattle.poa_base.specs.declared.Reason.TheVariants.{WrongPolicy, ServantAlreadyActive, ServantNotActive}
use Rattle.poa_base.specs.declared.Answer.TheVariants.{GoodId, GoodIor}
use Rattle.poa_base.specs.declared.Verdict.{Verdict}
use Rattle.poa_base.specs.declared.Verdict.TheVariants.{Answer}
use Rattle.poa_base.specs.declared.Entry.{Entry}
use Rattle.poa_base.specs.declared.Entry.TheVariants.{Entered, Arrive, Filled, Left, Collect, Admit, Tried, Incarnated}
use Rattle.poa_base.specs.declared.Entry.TheVariants.{Run, Done, TakeOut, Etherealized, Abandon}
use Rattle.history_standing.specs.declared.node.Node.{Node}
use Rattle.history_standing.specs.Trees.{In}
use Rattle.history_standing.proofs.Members.{in_back, image_in}
use Rattle.history_standing.specs.declared.activation.Activation.{Activation}
use Rattle.history_standing.specs.Arrivals.{call_of}
use Rattle.poa_history.specs.Bounds.{IsWithinLimits}
use Rattle.history_standing.specs.Changes.{standing, changed}
use Rattle.history_standing.specs.Commands.{refusal, live_at, with_servant, is_taken, referred, is_implicit, activate_row, reference_row, command_verdict}
use Rattle.history_standing.specs.Ends.{let_out}
use Rattle.poa_history.specs.Legal.{MayFollow, EachEntry, IsLegal}
use Rattle.history_standing.specs.Logs.{is_accepted, command_in, command_done}
use Rattle.history_standing.specs.Opening.{made_id}
use Rattle.history_standing.specs.References.{reference_text}
use Rattle.poa_history.specs.Sound.{IsGiven, IsSound}
use Rattle.history_standing.specs.Standings.{Standing}
use Rattle.history_standing.specs.Templates.{policies_at, retains, makes_ids, activates_implicitly, servant_number}
use Rattle.poa_history.specs.Verdicts.{verdict_on}
use Rattle.poa_history.proofs.ActivationsFrom.{activation_from, begun as activation_begun, stood as activation_stood}
use Rattle.poa_history.proofs.ActivationsFrom.{incarnating, activating, activating_id, referring}
use Rattle.poa_history.proofs.ActivationsLater.{later_let_out}
use Rattle.poa_history.proofs.CommandMoves.{refused, lived, known}
use Rattle.poa_history.proofs.IdsFew.{has_ordinal}
use Rattle.poa_history.proofs.LegalSound.{legal_sound}
use Rattle.poa_history.proofs.LivesKept.{as_many, one_more, changed_shape}
use Rattle.poa_history.proofs.StepMoves.{admitted_for}
use Rattle.history_words.specs.Ordinals.{names_no_id, begins_one, makes_id, ids_made, next_id, AnswersById}
use Rattle.history_words.specs.Ordinals.{AnswersNext, IsAnswered, WasAnswered, AnswersOnce}
use Rattle.history_words.proofs.Made.{made_is, made_alone, ids_step, settles_same, activate_makes}

module _ (c : Config) (run : ℕ) (past : List Entry) where
  abbrev s : Standing
  s = standing c run past

  -- the verdict on a command that is done
  row_of : (w r : ℕ) (v : Verdict) (call : Option Call) (d : Command) → verdict_on c run past r w call ≡ Some v → command_in call ≡ Some d
      → command_verdict c run past s d ≡ Some v
  row_of w r v None d told is = absurd (let e : None ≡ Some d = is in cc)
  row_of w r v (Some (Request head target operation body)) d told is = absurd (let e : None ≡ Some d = is in cc)
  row_of w r v (Some (Locate head target)) d told is = absurd (let e : None ≡ Some d = is in cc)
  row_of w r v (Some (Line number command)) d told is =
      (let e : Some command ≡ Some d = is in let same : command ≡ d = cc in subst (λ x. command_verdict c run past s x ≡ Some v) same told)

  done_row : (limit w r : ℕ) (v : Verdict) (d : Command) → MayFollow c run limit past (Admit w r v) → command_done past (Admit w r v) ≡ Some d
      → (command_verdict c run past s d ≡ Some v) × (is_accepted v ≡ true)
  done_row limit w r v d may done =
      elim (cases_Bool (is_accepted v)) [
        | inl accepted ↦ (
          row_of w r v (call_of past r) d (admitted_for c run past w r v may)
              (ap (λ b. if b then command_in (call_of past r) else None) (sym accepted) ∙ done),
          accepted,
        )
        | inr no_ ↦ absurd (let e : None ≡ Some d = ap (λ b. if b then command_in (call_of past r) else None) (sym no_) ∙ done in cc)
      ]

  activate_answer : (p : List (List ℕ)) (servant : List ℕ) (v : Verdict) → activate_row c run s p servant ≡ Some v → is_accepted v ≡ true
      → v ≡ Answer (GoodId (made_id run (suc s.made)))
  activate_answer p servant v is accepted =
      let (n, lives, done) =
      lived s p
      (λ n. if not (retains (policies_at c p) && makes_ids (policies_at c p)) then refusal WrongPolicy else with_servant c servant
      (after n)) v is accepted in
      cond_both (not (retains (policies_at c p) && makes_ids (policies_at c p))) _ _ (λ o. o ≡ Some v → v ≡ Answer (GoodId (made_id run (suc s.made))))
      (λ _ no_. refused WrongPolicy v no_ accepted)
      (λ _ more. (let (k, number, row) = known c servant (after n) v more accepted in
      cond_both (is_taken c s n k) _ _ (λ o. o ≡ Some v → v ≡ Answer (GoodId (made_id run (suc s.made))))
      (λ _ no_. refused ServantAlreadyActive v no_ accepted)
      (λ _ same.
      (let e : Some (Answer (GoodId (made_id run (suc s.made)))) ≡ Some v = same in
      let f : Answer (GoodId (made_id run (suc s.made))) ≡ v = cc in sym f)) row)) done
    where
      after : Node → ℕ → Option Verdict
      after n k = if is_taken c s n k then refusal ServantAlreadyActive else Some (Answer (GoodId (made_id run (suc s.made))))

  -- the answer of a reference, by the activation that it refers to
  abbrev answer_for : List (List ℕ) → Node → ℕ → Option Activation → Option Verdict
  answer_for p n k o =
      elim o as (λ _. Option Verdict) [
        | Some a ↦ Some (Answer (GoodIor (reference_text c run n.number p a.oid k)))
        | None ↦ (if is_implicit c s n k then Some
            (Answer (GoodIor (reference_text c run n.number p (made_id run (suc s.made)) k))) else refusal ServantNotActive)
      ]

  reference_answer : (p : List (List ℕ)) (servant : List ℕ) (v : Verdict) (m : Node) (j : ℕ) → reference_row c run s p servant ≡ Some v
      → is_accepted v ≡ true → live_at s p ≡ Some m → servant_number c servant ≡ Some j → is_implicit c s m j ≡ true
      → v ≡ Answer (GoodIor (reference_text c run m.number p (made_id run (suc s.made)) j))
  reference_answer p servant v m j is accepted lives_ known_ implicit =
      let (n, lives, done) = lived s p (λ n. with_servant c servant (λ k. answer_for p n k (referred c s n k))) v is accepted in
      let (k, number, row) = known c servant (λ k. answer_for p n k (referred c s n k)) v done accepted in
      let nodes : Some n ≡ Some m = sym lives ∙ lives_ in let nm : n ≡ m = cc in
      let numbers : Some k ≡ Some j = sym number ∙ known_ in let kj : k ≡ j = cc in
      by_referred (referred c s m j) refl
      (subst (λ x. answer_for p m x (referred c s m x) ≡ Some v) kj (subst (λ x. answer_for p x k (referred c s x k) ≡ Some v) nm row))
    where
      by_referred : (o : Option Activation) → referred c s m j ≡ o → answer_for p m j o ≡ Some v
          → v ≡ Answer (GoodIor (reference_text c run m.number p (made_id run (suc s.made)) j))
      by_referred (Some a) found same =
          absurd (true≢false
          (sym (and_parts (is_none (referred c s m j)) (retains (policies_at c m.path) && activates_implicitly (policies_at c m.path)) implicit).0
          ∙ ap is_none found))
      by_referred None found same =
          (let e : Some (Answer (GoodIor (reference_text c run m.number p (made_id run (suc s.made)) j))) ≡ Some v =
          ap (λ b. if b then Some (Answer (GoodIor (reference_text c run m.number p (made_id run (suc s.made)) j))) else refusal ServantNotActive)
          (sym implicit) ∙ same in
          let f : Answer (GoodIor (reference_text c run m.number p (made_id run (suc s.made)) j)) ≡ v = cc in sym f)

  -- a reference that begins an activation refers to its servant implicitly
  pub record IsImplicit (p : List (List ℕ)) (servant : List ℕ) : Type 0 where
    pub node : Node
    pub number : ℕ
    pub lives : live_at s p ≡ Some node
    pub known : servant_number c servant ≡ Some number
    pub implicit : is_implicit c s node number ≡ true

  begins_implicitly : (limit : ℕ) (e : Entry) (p : List (List ℕ)) (servant : List ℕ) → IsSound c run s → command_done past e ≡ Some (Reference p servant)
      → begins_one c run past e ≡ true → IsImplicit p servant
  begins_implicitly limit e p servant sound done begins =
      elim (changed_shape c run past s e) [
        | as_many equal ↦ absurd (let same = settles_same c run past e in let less = ltb-true _ _ begins in omega (arith, same, less, equal))
        | one_more b number grown ↦ by_new b number
            (image_in (let_out c (changed c run past e s)) b (changed c run past e s).activations
            (subst (λ as'. In b as') (sym grown) (in_back b s.activations)))
      ]
    where
      by_new : (b : Activation) → b.number ≡ length s.activations → In (let_out c (changed c run past e s) b) (standing c run (e ∷ past)).activations
          → IsImplicit p servant
      by_new b number there =
          elim (activation_from c run past e (let_out c (changed c run past e s) b) there) [
            | activation_stood a was step ↦ absurd
                (let low = sound.counted a was in let same = step.later.number in let kept = later_let_out c (changed c run past e s) b in
                let at = kept.number in omega (arith, low, same, at, number))
            | activation_begun fresh ↦ elim fresh.how [
              | incarnating w r n key is has adapter path oid phase ↦ absurd
                  (let f : None ≡ Some (Reference p servant) = ap (command_done past) (sym is) ∙ done in cc)
              | activating q name done' adapter path oid phase ↦ absurd
                  (let f : Some (Activate q name) ≡ Some (Reference p servant) = sym done' ∙ done in cc)
              | activating_id q oid' name done' adapter path oid phase ↦ absurd
                  (let f : Some (ActivateId q oid' name) ≡ Some (Reference p servant) = sym done' ∙ done in cc)
              | referring q name n k done' lives known_ implicit adapter path oid phase ↦
                  (let f : Some (Reference q name) ≡ Some (Reference p servant) = sym done' ∙ done in
                  let paths : q ≡ p = cc in let names : name ≡ servant = cc in
                  record {
                    node = n;
                    number = k;
                    lives = subst (λ x. live_at s x ≡ Some n) paths lives;
                    known = subst (λ x. servant_number c x ≡ Some k) names known_;
                    implicit = implicit;
                  })
            ]
          ]

module _ (c : Config) (run limit : ℕ) (given : IsGiven c run) (within : IsWithinLimits c limit) where
  answers_admit : (past : List Entry) (w r : ℕ) (v : Verdict) → IsLegal c run limit (Admit w r v ∷ past) → AnswersById c run past (Admit w r v) v
  unfolding command_verdict
  answers_admit past w r v legal = record {
    activated = λ p servant done. (let (row, accepted) = done_row c run past limit w r v (Activate p servant) legal.0 done in (
      activate_makes c run past (Admit w r v) p servant done,
      activate_answer c run past p servant v row accepted
          ∙ ap (λ n. Answer (GoodId (made_id run (suc n)))) (made_is c run past),
    ));
    referred = λ p servant done makes_. (let (row, accepted) = done_row c run past limit w r v (Reference p servant) legal.0 done in
        let begins = (and_parts (names_no_id (command_done past (Admit w r v))) (begins_one c run past (Admit w r v)) makes_).1 in
        let it = begins_implicitly c run past limit (Admit w r v) p servant (legal_sound c run limit past given within legal.1) done begins in (
          it.node.number,
          it.number,
          reference_answer c run past p servant v it.node it.number row accepted it.lives it.known it.implicit
              ∙ ap (λ n. Answer (GoodIor (reference_text c run it.node.number p (made_id run (suc n)) it.number))) (made_is c run past),
        ));
  }

  answers : (past : List Entry) (e : Entry) → IsLegal c run limit (e ∷ past) → AnswersNext c run past e
  answers past (Admit w r v) legal = answers_admit past w r v legal
  answers past (Entered conn) legal = tt
  answers past (Arrive conn size call) legal = tt
  answers past (Filled conn size) legal = tt
  answers past (Left conn) legal = tt
  answers past (Collect conn a) legal = tt
  answers past (Tried w a) legal = tt
  answers past (Incarnated w a) legal = tt
  answers past (Run w) legal = tt
  answers past (Done w) legal = tt
  answers past (TakeOut w n x) legal = tt
  answers past (Etherealized w x y) legal = tt
  answers past (Abandon w) legal = tt

  pub all_answered : (h : List Entry) → IsLegal c run limit h → EachEntry (AnswersNext c run) h
  all_answered [] legal = tt
  all_answered (e ∷ past) legal = (answers past e legal, all_answered past legal.1)

  -- an `activate` makes the id that answers it
  answered_next : (past : List Entry) (e : Entry) (oid : List ℕ) → IsLegal c run limit (e ∷ past) → IsAnswered past e oid
      → (makes_id c run past e ≡ true) × (oid ≡ next_id c run past)
  answered_next past e oid legal it =
      let e' = Admit it.worker it.arrival (Answer (GoodId oid)) in
      let legal' : IsLegal c run limit (e' ∷ past) = subst (λ x. IsLegal c run limit (x ∷ past)) it.is legal in
      let told =
      (answers_admit past it.worker it.arrival (Answer (GoodId oid)) legal').activated it.path it.servant
      (ap (command_done past) (sym it.is) ∙ it.done) in
      let same : Answer (GoodId oid) ≡ Answer (GoodId (next_id c run past)) = told.1 in
      (ap (makes_id c run past) it.is ∙ told.0, cc)

  -- an id that was answered has an ordinal that was given
  record HasOrdinal (h : List Entry) (oid : List ℕ) : Type 0 where
    ordinal : ℕ
    low : ordinal ≤ ids_made c run h
    same : oid ≡ made_id run ordinal

  was_ordinal : (h : List Entry) (oid : List ℕ) → IsLegal c run limit h → WasAnswered h oid → HasOrdinal h oid
  was_ordinal [] oid legal none_ = absurd none_
  was_ordinal (e ∷ past) oid legal (inl now) =
      (let told = answered_next past e oid legal now in
      let more : ids_made c run (e ∷ past) ≡ suc (ids_made c run past) = ap (λ b. if b then suc (ids_made c run past) else ids_made c run past) told.0 in
      record { ordinal = suc (ids_made c run past); low = omega (arith, more); same = told.1 })
  was_ordinal (e ∷ past) oid legal (inr before) =
      (let it = was_ordinal past oid legal.1 before in
      let low = it.low in
      let more = ids_step c run past e in record { ordinal = it.ordinal; low = omega (arith, low, more); same = it.same })

  once : (past : List Entry) (e : Entry) → IsLegal c run limit (e ∷ past) → AnswersOnce past e
  once past e legal oid now before =
      let told = answered_next past e oid legal now in
      let it = was_ordinal past oid legal.1 before in
      let few = has_ordinal c run limit within past legal.1 in
      let made = made_is c run past in
      let low = it.low in
      let same : suc (ids_made c run past) ≡ it.ordinal =
      made_alone run (suc (ids_made c run past)) it.ordinal (omega (arith, few, made)) (omega (arith, few, made, low)) (sym told.1 ∙ it.same) in
      omega (arith, same, low)

  pub all_once : (h : List Entry) → IsLegal c run limit h → EachEntry AnswersOnce h
  all_once [] legal = tt
  all_once (e ∷ past) legal = (once past e legal, all_once past legal.1)

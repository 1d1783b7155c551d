-- A run acts on the one line.
use Rattle.history_laws.proofs.Incarnations.{all_fresh, one_alone}
use Rattle.history_laws.specs.Keyed.{Fits, IsKeyed, Reaches}
use Rattle.history_laws.proofs.Keyed.{keyed}
use Rattle.history_laws.proofs.Line.{Carries, IsLine, carried_after, carried_before, still, told_then}
use Rattle.history_laws.specs.OneLine.{AreIncarnated, BringsFresh, calls_on, is_call_on, line_opening, line_state, replies_by, replies_on, runs_on, state_after}
use Rattle.poa_base.specs.declared.Call.{Call}
use Rattle.poa_base.specs.declared.Config.{Config}
use Rattle.poa_base.specs.declared.Entry.{Entry}
use Rattle.poa_base.specs.declared.Entry.TheVariants.{Etherealized, Incarnated, Run}
use Rattle.poa_base.specs.declared.Kind.{Kind}
use Rattle.poa_base.specs.declared.Reply.TheVariants.{Outcome as Ended}
use Rattle.poa_base.specs.declared.Sid.{Sid}
use Rattle.poa_base.specs.declared.Sid.TheVariants.{Fresh as FreshServant, Named as NamedServant}
use Rattle.poa_base.specs.declared.State.{State}
use Rattle.poa_base.specs.declared.Verdict.{Verdict}
use Rattle.poa_base.specs.declared.Verdict.TheVariants.{Incarnate, Locator, Preset, Serve}
use Rattle.poa_choose.specs.Laws.{runs}
use Rattle.poa_choose.specs.declared.Choice.TheVariants.{Go}
use Rattle.poa_history.proofs.AloneKept.{stands_alone}
use Rattle.poa_history.proofs.LegalSound.{legal_sound}
use Rattle.poa_history.proofs.MannedKept.{all_manned}
use Rattle.poa_history.proofs.TableRuns.{is_run}
use Rattle.poa_history.proofs.TurnTells.{run_is}
use Rattle.poa_history.specs.Alone.{IsGivenAlone}
use Rattle.poa_history.specs.Bounds.{IsWithinLimits}
use Rattle.history_standing.specs.Changes.{standing}
use Rattle.poa_history.specs.InFlight.{Holds, IsManned, IsRunning, named}
use Rattle.poa_history.specs.Legal.{IsLegal}
use Rattle.poa_history.specs.Replies.{reply_run}
use Rattle.poa_history.specs.Sound.{IsGiven, IsSound}
use Rattle.history_standing.specs.Stages.{stage}
use Rattle.history_standing.specs.Standings.{Standing, same_servant}
use Rattle.poa_history.specs.States.{Stored, acted, call_run, is_servant, servant_by, servant_named, servant_of_activation, servant_run, state_of}
use Rattle.history_standing.specs.Templates.{policies_at, retains, servant_number, uses_servant_manager}
use Rattle.poa_history.specs.Turns.{activation_numbered}
use Rattle.history_standing.specs.declared.activation.Activation.{Activation}
use Rattle.history_standing.specs.declared.activation.Phase.TheVariants.{Begun, Complete, Void}
use Rattle.history_standing.specs.declared.stage.Stage.TheVariants.{Serving}
use Rattle.history_standing.proofs.Finding.{find_in, find_none, path_same, same_path_self}
use Rattle.history_standing.proofs.Leading.{bytes_same, same_self}
use Rattle.history_standing.specs.Paths.{same_bytes, same_path}
use Rattle.history_standing.specs.Trees.{In}
use Rattle.std.proofs.Common.{◌∙◌, ap, ap₂, inl, inr, subst, sym}
use Rattle.std.proofs.lemmas.Bool.{and_parts, cases_Bool, eq-eqb, eqb-true, false_from_ne_true, true≢false}
use Rattle.std.specs.Prelude.{◌&&◌, ◌==◌, ◌∷◌, ◌≡◌, Bool, List, None, Option, Some, false, find, if◌then◌else◌, refl, true, ℕ}

module _ (c : Config) (run limit : ℕ) (given : IsGiven c run) (alone : IsGivenAlone c run) (within : IsWithinLimits c limit) (opened : Stored) (kind : Kind)
    (p : List (List ℕ)) (oid : List ℕ) (brings_ : BringsFresh c p oid kind) (past : List Entry) (w : ℕ) (legal : IsLegal c run limit (Run w ∷ past))
    (are : AreIncarnated c run past p oid) (is : IsLine c run opened kind p oid past) where
  abbrev s : Standing
  s = standing c run past

  sound : IsSound c run s
  sound = legal_sound c run limit past given within legal.1

  manned_ : IsManned c run past
  manned_ = all_manned c run limit past given alone within legal.1

  numbered_found : (a : Activation) → In a s.activations → activation_numbered s a.number ≡ Some a
  numbered_found a there =
      elim (find (λ b. b.number == a.number) s.activations) as (λ o. find (λ b. b.number == a.number) s.activations ≡ o → o ≡ Some a) [
        | None ↦ λ none. absurd (find_none (λ b. b.number == a.number) a s.activations none there (eq-eqb a.number a.number refl))
        | Some b ↦
            λ found.
            (let at = find_in (λ x. x.number == a.number) b s.activations found in
            ap (λ x. Some x) (sound.activation_alone b a at.0 there (eqb-true b.number a.number at.1)))
      ] refl

  -- the request that runs, its verdict and its key
  abbrev r : ℕ
  r = (run_is c run past w legal.0).0

  at_run : stage past w ≡ Serving r
  at_run = (run_is c run past w legal.0).1

  running : IsRunning past s r
  running = subst (λ b. Holds past s b) at_run (manned_.stages w)

  runs_then : is_run running.verdict ≡ true
  runs_then = by_verdict running.verdict running.run
    where
      by_verdict : (v : Verdict) → runs (Go v) ≡ true → is_run v ≡ true
      by_verdict (Serve n) yes_ = refl
      by_verdict (Preset n) yes_ = refl
      by_verdict (Locator n) yes_ = refl
      by_verdict (Incarnate n) yes_ = refl
      by_verdict v yes_ = absurd (let f : false ≡ true = yes_ in cc)

  key : IsKeyed c run past r running.verdict
  key = keyed c run limit given alone within past legal.1 r running.verdict running.by runs_then

  -- the servant that an activation gives, where it has one
  served_as : (n : ℕ) → (a : Activation) → In a s.activations → a.number ≡ n → (t : Sid) → a.phase ≡ Complete t
      → servant_of_activation (activation_numbered s n) ≡ Some t
  served_as n a there at t phase =
      ap (λ m. servant_of_activation (activation_numbered s m)) (sym at)
      ∙ (ap servant_of_activation (numbered_found a there) ∙ ap (λ q. elim q as (λ _. Option Sid) [ Complete u ↦ Some u | Begun ↦ None | Void ↦ None ]) phase)

  abbrev the_servant : Option Sid
  the_servant = servant_run c run past (stage past w)

  servant_is : the_servant ≡ servant_by c s (Some running.verdict)
  servant_is = ap (servant_run c run past) at_run ∙ ap (servant_by c s) running.by

  abbrev on_pair : Bool
  on_pair = runs_on past (stage past w) p oid

  on_pair_is : on_pair ≡ (same_path key.key.path p && same_bytes key.key.oid oid)
  on_pair_is = ap (λ b. runs_on past b p oid) at_run ∙ ap (λ k. is_call_on k p oid) key.has

  -- where the call is on the id, its servant is that of the activation that carries
  serves_it : on_pair ≡ true → (a : Activation) × Carries s p oid a × (the_servant ≡ Some (FreshServant a.number))
  serves_it on = by_verdict running.verdict refl
    where
      parts : (same_path key.key.path p ≡ true) × (same_bytes key.key.oid oid ≡ true)
      parts = and_parts (same_path key.key.path p) (same_bytes key.key.oid oid) (sym on_pair_is ∙ on)

      at_path : key.key.path ≡ p
      at_path = path_same key.key.path p parts.0

      at_oid : key.key.oid ≡ oid
      at_oid = bytes_same key.key.oid oid parts.1

      by_number : (n : ℕ) → Reaches s n key.key → named (Some running.verdict) ≡ Some n
          → servant_by c s (Some running.verdict) ≡ servant_of_activation (activation_numbered s n) → (a : Activation) × Carries s p oid a
          × (the_servant ≡ Some (FreshServant a.number))
      by_number n it names gives_ =
          let served = running.served n names in
          let same : served.0 ≡ it.it = sound.activation_alone served.0 it.it served.1 it.there (served.2 ∙ sym it.number) in
          let phase : it.it.phase ≡ Complete served.3.0 = ap (λ x. x.phase) (sym same) ∙ served.3.1 in
          let complete : it.it.phase ≡ Complete (FreshServant it.it.number) =
          elim (all_fresh c p oid kind brings_ run limit given alone within past legal.1 are it.it it.there (it.path ∙ at_path) (it.oid ∙ at_oid)) [
            | inl begun ↦ absurd (let f : Begun ≡ Complete served.3.0 = sym begun ∙ phase in cc)
            | inr fresh ↦ fresh
          ] in
          let flying = running.flying in
          let b = manned_.activations flying.0 n flying.1 (flying.3 ∙ names) in
          let out : it.it.out ≡ false = ap (λ x. x.out) (sym (sound.activation_alone b.0 it.it b.1 it.there (b.2 ∙ sym it.number))) ∙ b.4 in (
            it.it,
            record {
              there = it.there;
              on_path = it.path ∙ at_path;
              on_oid = it.oid ∙ at_oid;
              complete = complete;
              untold = false_from_ne_true it.it.etherealized (λ told. true≢false (sym (manned_.told_out it.it it.there told) ∙ out));
            },
            servant_is ∙ (gives_ ∙ served_as n it.it it.there it.number (FreshServant it.it.number) complete),
          )

      never : Fits c s key.key running.verdict ≡ (retains (policies_at c key.key.path) ≡ true → uses_servant_manager (policies_at c key.key.path) ≡ true → ⊥)
          → (a : Activation) × Carries s p oid a × (the_servant ≡ Some (FreshServant a.number))
      never same =
          absurd (let no = subst (λ x. x) same key.fits in
          no (ap (λ q. retains (policies_at c q)) at_path ∙ brings_.kept) (ap (λ q. uses_servant_manager (policies_at c q)) at_path ∙ brings_.managed))

      by_verdict : (v : Verdict) → running.verdict ≡ v → (a : Activation) × Carries s p oid a × (the_servant ≡ Some (FreshServant a.number))
      by_verdict (Serve n) which =
          by_number n (subst (Fits c s key.key) which key.fits) (ap (λ v. named (Some v)) which) (ap (λ v. servant_by c s (Some v)) which)
      by_verdict (Incarnate n) which =
          by_number n (subst (Fits c s key.key) which key.fits) (ap (λ v. named (Some v)) which) (ap (λ v. servant_by c s (Some v)) which)
      by_verdict (Preset name) which = never (ap (Fits c s key.key) which)
      by_verdict (Locator name) which = never (ap (Fits c s key.key) which)
      by_verdict v which = absurd (let f : is_run v ≡ true = ap is_run (sym which) ∙ runs_then in let g : false ≡ true = f in cc)

  same_sid : (t u : Sid) → same_servant t u ≡ true → t ≡ u
  same_sid (NamedServant j) (NamedServant k) same = ap (λ x. NamedServant x) (eqb-true j k same)
  same_sid (FreshServant m) (FreshServant n) same = ap (λ x. FreshServant x) (eqb-true m n same)
  same_sid (NamedServant j) (FreshServant n) same = absurd (let f : false ≡ true = same in cc)
  same_sid (FreshServant m) (NamedServant k) same = absurd (let f : false ≡ true = same in cc)

  servant_same : (t : Sid) (o : Option Sid) → is_servant t o ≡ true → o ≡ Some t
  servant_same t None same = absurd (let f : false ≡ true = same in cc)
  servant_same t (Some u) same = ap (λ x. Some x) (sym (same_sid t u same))

  -- and where that servant runs, the call is on the id
  runs_its_own : (a : Activation) → Carries s p oid a → is_servant (FreshServant a.number) the_servant ≡ true → on_pair ≡ true
  runs_its_own a carries runs_it = by_verdict running.verdict refl
    where
      gives_it : servant_by c s (Some running.verdict) ≡ Some (FreshServant a.number)
      gives_it = sym servant_is ∙ servant_same (FreshServant a.number) the_servant runs_it

      by_number : (n : ℕ) → Reaches s n key.key → named (Some running.verdict) ≡ Some n
          → servant_by c s (Some running.verdict) ≡ servant_of_activation (activation_numbered s n) → on_pair ≡ true
      by_number n it names gives_ =
          let served = running.served n names in
          let sid : Some served.3.0 ≡ Some (FreshServant a.number) = sym (served_as n served.0 served.1 served.2 served.3.0 served.3.1)
          ∙ (sym gives_ ∙ gives_it) in
          let sid' : served.3.0 ≡ FreshServant a.number = cc in
          let number : a.number ≡ served.0.number =
          (stands_alone c run limit past given alone within legal.1).fresh served.0 a.number served.1 (served.3.1 ∙ ap (λ t. Complete t) sid') in
          let same : it.it ≡ a = sound.activation_alone it.it a it.there carries.there (it.number ∙ (sym served.2 ∙ sym number)) in
          on_pair_is ∙ ap₂ (λ x y. x && y)
          (ap (λ q. same_path q p) (sym it.path ∙ (ap (λ x. x.path) same ∙ carries.on_path)) ∙ same_path_self p)
          (ap (λ i. same_bytes i oid) (sym it.oid ∙ (ap (λ x. x.oid) same ∙ carries.on_oid)) ∙ same_self oid)

      never_named : (name : List ℕ) → servant_named c name ≡ Some (FreshServant a.number) → ⊥
      never_named name = elim (servant_number c name) as (λ o. (elim o as (λ _. Option Sid) [
        | Some k ↦ Some (NamedServant k)
        | None ↦
            None
      ]) ≡ Some (FreshServant a.number) → ⊥) [
        | Some k ↦ λ same. (let f : Some (NamedServant k) ≡ Some (FreshServant a.number) = same in let g : NamedServant k ≡ FreshServant a.number = cc in cc)
        | None ↦ λ none. (let f : None ≡ Some (FreshServant a.number) = none in cc)
      ]

      by_verdict : (v : Verdict) → running.verdict ≡ v → on_pair ≡ true
      by_verdict (Serve n) which =
          by_number n (subst (Fits c s key.key) which key.fits) (ap (λ v. named (Some v)) which) (ap (λ v. servant_by c s (Some v)) which)
      by_verdict (Incarnate n) which =
          by_number n (subst (Fits c s key.key) which key.fits) (ap (λ v. named (Some v)) which) (ap (λ v. servant_by c s (Some v)) which)
      by_verdict (Preset name) which = absurd (never_named name (ap (λ v. servant_by c s (Some v)) (sym which) ∙ gives_it))
      by_verdict (Locator name) which = absurd (never_named name (ap (λ v. servant_by c s (Some v)) (sym which) ∙ gives_it))
      by_verdict v which = absurd (let f : is_run v ≡ true = ap is_run (sym which) ∙ runs_then in let g : false ≡ true = f in cc)

  abbrev the_call : Option Call
  the_call = call_run past (stage past w)

  abbrev L : State
  L = line_state opened kind past p oid

  -- a run of another id leaves the line
  run_off : on_pair ≡ false → IsLine c run opened kind p oid (Run w ∷ past)
  run_off off =
      still c run limit opened kind p oid past (Run w) sound is
      (λ a there on_path on_oid phase b. (let f : Run w ≡ Incarnated b.worker b.answer = b.same in cc))
      (λ a there on_path on_oid tells. (let f : Run w ≡ Etherealized tells.0 tells.1 tells.2 = tells.3 in cc))
      (λ a carries.
      (let other : is_servant (FreshServant a.number) the_servant ≡ false =
      false_from_ne_true (is_servant (FreshServant a.number) the_servant) (λ its. true≢false (sym (runs_its_own a carries its) ∙ off)) in
      ap (λ b. if b then (acted (state_of c run opened past (FreshServant a.number)) the_call).0 else state_of c run opened past (FreshServant a.number))
      other))
      refl
      (ap (λ b. if b then the_call ∷ calls_on past p oid else calls_on past p oid) off)
      (ap (λ b. if b then reply_run c run opened past the_servant the_call ∷ replies_on c run opened past p oid else replies_on c run opened past p oid) off)

  -- a run of the id is one more act of the one servant
  run_on : on_pair ≡ true → IsLine c run opened kind p oid (Run w ∷ past)
  run_on on =
      let it = serves_it on in
      let a = it.0 in
      let calls : calls_on (Run w ∷ past) p oid ≡ the_call ∷ calls_on past p oid =
      ap (λ b. if b then the_call ∷ calls_on past p oid else calls_on past p oid) on in
      let next : line_state opened kind (Run w ∷ past) p oid ≡ (acted L the_call).0 = ap (state_after (line_opening opened kind p oid)) calls in
      let mine : is_servant (FreshServant a.number) the_servant ≡ true = ap (is_servant (FreshServant a.number)) it.2 ∙ eq-eqb a.number a.number refl in
      record {
        carried = λ b carries. (let before = carried_before c run limit opened kind p oid past (Run w) b carries in
            elim before.3 [
              | inr came ↦ absurd (let f : Run w ≡ Incarnated came.1.worker came.1.answer = came.1.same in cc)
              | inl was ↦
                  (let same : before.0 ≡ a =
                  one_alone c p oid kind brings_ run limit given alone within past legal.1 are before.0 a was.there it.1.there was.on_path was.on_oid
                  it.1.on_path it.1.on_oid was.untold it.1.untold in
                  ap (λ n. state_of c run opened (Run w ∷ past) (FreshServant n)) (before.2.later.number ∙ ap (λ x. x.number) same)
                  ∙ (ap (λ b'. if b' then (acted (state_of c run opened past (FreshServant a.number)) the_call).0 else state_of c run opened past
                  (FreshServant a.number)) mine
                  ∙ (ap (λ x. (acted x the_call).0) (is.carried a it.1) ∙ sym next)))
            ]);
        kept = λ none. absurd
            (let after =
            carried_after c run limit opened kind p oid past (Run w) sound a it.1
            (λ tells. (let f : Run w ≡ Etherealized tells.0 tells.1 tells.2 = tells.3 in cc)) in none after.0 after.1);
        told = λ b there on_path on_oid told. (let before = told_then c run limit opened kind p oid past (Run w) b there on_path on_oid told in
            elim before.4 [
              | inl was ↦ is.told before.0 before.1 before.2 before.3 was
              | inr tells ↦ absurd (let f : Run w ≡ Etherealized tells.0 tells.1 tells.2 = tells.3 in cc)
            ]);
        line = ap (λ b. if b then reply_run c run opened past the_servant the_call ∷ replies_on c run opened past p oid else replies_on c run opened past p oid)
            on
            ∙ (ap₂ (λ x y. x ∷ y) (ap (λ o. reply_run c run opened past o the_call) it.2 ∙ ap (λ x. Some (Ended (acted x the_call).1)) (is.carried a it.1))
            is.line
            ∙ ap (replies_by (line_opening opened kind p oid)) (sym calls));
      }

  pub line_run : IsLine c run opened kind p oid (Run w ∷ past)
  line_run = elim (cases_Bool on_pair) [ inl on ↦ run_on on | inr off ↦ run_off off ]

-- An arrival that is admitted is decided, or waits as a command, or a worker is at what decides it.
use Rattle.history_laws.proofs.Keyed.{admitted_before}
use Rattle.history_laws.proofs.Workers.{goes_with, is_turn, own_or_other}
use Rattle.poa_base.specs.declared.Attempt.{Attempt}
use Rattle.poa_base.specs.declared.Attempt.TheVariants.{Dying as ParentDying, No as NoChild, Raised, Yes}
use Rattle.poa_base.specs.declared.Config.{Config}
use Rattle.poa_base.specs.declared.Entry.{Entry}
use Rattle.poa_base.specs.declared.Entry.TheVariants.{Admit, Incarnated, Run, Tried}
use Rattle.poa_base.specs.declared.Incarnation.{Incarnation}
use Rattle.poa_base.specs.declared.Verdict.{Verdict}
use Rattle.poa_base.specs.declared.Verdict.TheVariants.{Addressing, Answer as AnswerNow, Forward, Here, Incarnate, Locator, Preset, Refuse, Serve, Try, Unknown, Wait}
use Rattle.poa_history.proofs.SettledKept.{or_first, or_second}
use Rattle.poa_history.proofs.StagesFrom.{own, stage_other}
use Rattle.poa_history.proofs.TurnIs.{mapped_by}
use Rattle.history_standing.specs.Changes.{standing}
use Rattle.poa_history.specs.Legal.{IsLegal}
use Rattle.poa_history.specs.Replies.{decided, is_decided_by, is_waiting}
use Rattle.history_standing.specs.Rules.{brought}
use Rattle.poa_history.specs.Settling.{settles}
use Rattle.history_standing.specs.Stages.{admitted, arrival_in, brings, incarnated, is_at, stage}
use Rattle.history_standing.specs.Standings.{Standing}
use Rattle.poa_history.specs.Turns.{activation_numbered, attempt, turn}
use Rattle.history_standing.specs.declared.stage.Stage.{Stage}
use Rattle.history_standing.specs.declared.stage.Stage.TheVariants.{Free, Incarnating, Ran, Removing, Serving, Trying}
use Rattle.std.proofs.Common.{◌∙◌, ap, ap₂, inl, inr, subst, sym}
use Rattle.std.proofs.lemmas.Bool.{cases_Bool, eq-eqb, eqb-true}
use Rattle.std.specs.Prelude.{◌&&◌, ◌==◌, ◌||◌, ◌∷◌, ◌≡◌, ◌⊎◌, Bool, List, None, Some, [], false, if◌then◌else◌, not, refl, true, ℕ}

-- the worker's next entry decides the arrival, or brings it its servant
abbrev pub is_deciding : ℕ → Stage → Bool
is_deciding r (Trying q) = q == r
is_deciding r (Incarnating q n) = q == r
is_deciding r (Serving q) = q == r
is_deciding r begun = false

module _ (c : Config) (run limit : ℕ) where
  abbrev Being : List Entry → ℕ → Verdict → Type 0
  Being h r v = (decided c run h r ≡ true) ⊎ ((v ≡ Wait) ⊎ ((w : ℕ) × (is_deciding r (stage h w) ≡ true)))

  decided_now : (past : List Entry) (e : Entry) (r : ℕ) → is_decided_by past e r ≡ true → decided c run (e ∷ past) r ≡ true
  decided_now past e r now = or_first (is_decided_by past e r) (decided c run past r || (is_waiting (admitted (e ∷ past) r) && settles c run (e ∷ past) r)) now

  pub decided_still : (past : List Entry) (e : Entry) (r : ℕ) → decided c run past r ≡ true → decided c run (e ∷ past) r ≡ true
  decided_still past e r was =
      or_second (is_decided_by past e r) (decided c run past r || (is_waiting (admitted (e ∷ past) r) && settles c run (e ∷ past) r))
      (or_first (decided c run past r) (is_waiting (admitted (e ∷ past) r) && settles c run (e ∷ past) r) was)

  -- what the Admit itself does
  by_admit : (past : List Entry) (w r : ℕ) (v : Verdict) → Being (Admit w r v ∷ past) r v
  by_admit past w r (Serve n) = inr (inr (w, ap (is_deciding r) (own w (Serving r) (stage past w)) ∙ eq-eqb r r refl))
  by_admit past w r (Preset n) = inr (inr (w, ap (is_deciding r) (own w (Serving r) (stage past w)) ∙ eq-eqb r r refl))
  by_admit past w r (Locator n) = inr (inr (w, ap (is_deciding r) (own w (Serving r) (stage past w)) ∙ eq-eqb r r refl))
  by_admit past w r (Incarnate n) = inr (inr (w, ap (is_deciding r) (own w (Incarnating r n) (stage past w)) ∙ eq-eqb r r refl))
  by_admit past w r Try = inr (inr (w, ap (is_deciding r) (own w (Trying r) (stage past w)) ∙ eq-eqb r r refl))
  by_admit past w r Wait = inr (inl refl)
  by_admit past w r (Refuse x) = inl (decided_now past (Admit w r (Refuse x)) r (ap (λ b. b && true) (eq-eqb r r refl)))
  by_admit past w r (Forward x) = inl (decided_now past (Admit w r (Forward x)) r (ap (λ b. b && true) (eq-eqb r r refl)))
  by_admit past w r Addressing = inl (decided_now past (Admit w r Addressing) r (ap (λ b. b && true) (eq-eqb r r refl)))
  by_admit past w r Here = inl (decided_now past (Admit w r Here) r (ap (λ b. b && true) (eq-eqb r r refl)))
  by_admit past w r Unknown = inl (decided_now past (Admit w r Unknown) r (ap (λ b. b && true) (eq-eqb r r refl)))
  by_admit past w r (AnswerNow x) = inl (decided_now past (Admit w r (AnswerNow x)) r (ap (λ b. b && true) (eq-eqb r r refl)))

  -- the entry of a worker that is at it
  by_own : (past : List Entry) (e : Entry) (w r : ℕ) (v : Verdict) → turn c run past w ≡ Some e → is_deciding r (stage past w) ≡ true
      → admitted (e ∷ past) r ≡ Some v → Being (e ∷ past) r v
  by_own past e w r v next deciding is = by_stage (stage past w) refl (deciding)
    where
      s : Standing
      s = standing c run past

      at : (b : Stage) → stage past w ≡ b → arrival_in b ≡ Some r → is_at r (arrival_in (stage past w)) ≡ true
      at b was has = ap (λ x. is_at r (arrival_in x)) was ∙ (ap (is_at r) has ∙ eq-eqb r r refl)

      tried_by : (q : ℕ) (a : Attempt) → stage past w ≡ Trying q → q ≡ r → Tried w a ≡ e → Being (e ∷ past) r v
      tried_by q (Yes n) was same which =
          absurd (let f : None ≡ Some v = sym (ap (λ b. if b then None else admitted past r) (at (Trying q) was (ap (λ x. Some x) same)))
          ∙ (ap (λ y. admitted (y ∷ past) r) which ∙ is) in cc)
      tried_by q NoChild was same which = inl (decided_now past e r (ap (λ y. is_decided_by past y r) (sym which) ∙ at (Trying q) was (ap (λ x. Some x) same)))
      tried_by q Raised was same which = inl (decided_now past e r (ap (λ y. is_decided_by past y r) (sym which) ∙ at (Trying q) was (ap (λ x. Some x) same)))
      tried_by q ParentDying was same which =
          inl (decided_now past e r (ap (λ y. is_decided_by past y r) (sym which) ∙ at (Trying q) was (ap (λ x. Some x) same)))

      incarnated_by : (q n : ℕ) (a : Incarnation) → stage past w ≡ Incarnating q n → q ≡ r → Incarnated w a ≡ e → Being (e ∷ past) r v
      incarnated_by q n a was same which =
          elim (cases_Bool (brings a)) [
            | inl brings_ ↦ inr (inr (
              w,
              ap (λ y. is_deciding r (stage (y ∷ past) w)) (sym which)
                  ∙ (ap (is_deciding r)
                  (own w (incarnated a (stage past w)) (stage past w) ∙ (ap (incarnated a) was ∙ ap (λ b. if b then Serving q else Free) brings_))
                  ∙ eq-eqb q r same),
            ))
            | inr none ↦
                inl (decided_now past e r
                (ap (λ y. is_decided_by past y r) (sym which) ∙ ap₂ (λ x y. not x && y) none (at (Incarnating q n) was (ap (λ x. Some x) same))))
          ]

      by_stage : (b : Stage) → stage past w ≡ b → is_deciding r (stage past w) ≡ true → Being (e ∷ past) r v
      by_stage (Trying q) was is_ =
          (let goes : Some (Tried w (attempt c s q)) ≡ Some e = goes_with c run limit past w (Some e) (Trying q) next was (λ f. cc) in
          tried_by q (attempt c s q) was (eqb-true q r (sym (ap (is_deciding r) was) ∙ is_)) cc)
      by_stage (Incarnating q n) was is_ =
          (let goes = goes_with c run limit past w (Some e) (Incarnating q n) next was (λ f. cc) in
          let found = mapped_by (λ a. Incarnated w (brought c s a)) (activation_numbered s n) e goes in
          incarnated_by q n (brought c s found.0) was (eqb-true q r (sym (ap (is_deciding r) was) ∙ is_)) found.2)
      by_stage (Serving q) was is_ =
          (let goes : Some (Run w) ≡ Some e = goes_with c run limit past w (Some e) (Serving q) next was (λ f. cc) in
          let which : Run w ≡ e = cc in
          inl (decided_now past e r
          (ap (λ y. is_decided_by past y r) (sym which) ∙ at (Serving q) was (ap (λ x. Some x) (eqb-true q r (sym (ap (is_deciding r) was) ∙ is_))))))
      by_stage (Ran q) was is_ = absurd (let f : false ≡ true = sym (ap (is_deciding r) was) ∙ is_ in cc)
      by_stage (Removing n) was is_ = absurd (let f : false ≡ true = sym (ap (is_deciding r) was) ∙ is_ in cc)
      by_stage Free was is_ = absurd (let f : false ≡ true = sym (ap (is_deciding r) was) ∙ is_ in cc)

  pub being_decided : (h : List Entry) → IsLegal c run limit h → (r : ℕ) (v : Verdict) → admitted h r ≡ Some v → Being h r v
  being_decided [] legal r v is = absurd (let f : None ≡ Some v = is in cc)
  being_decided (e ∷ past) legal r v is =
      elim (admitted_before e past r v is) [
        | inr now ↦ subst (λ y. Being (y ∷ past) r v) (sym now.1) (by_admit past now.0 r v)
        | inl was ↦ elim (being_decided past legal.1 r v was) [
          | inl done ↦ inl (decided_still past e r done)
          | inr open_ ↦ elim open_ [
            | inl waits_ ↦ inr (inl waits_)
            | inr at ↦ elim (own_or_other e at.0) [
              | inr other ↦ inr (inr (at.0, ap (is_deciding r) (stage_other e past at.0 other) ∙ at.1))
              | inl makes ↦ by_own past e at.0 r v (is_turn c run limit past e at.0 legal.0 makes).next at.1 is
            ]
          ]
        ]
      ]

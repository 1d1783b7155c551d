-- A request that is being served stands admitted by the newest Admit of its arrival.
use Rattle.std.proofs.Common.{◌≡◌, ℕ, ◌+◌, ◌==◌, true, false, if◌then◌else◌, List, [], ◌∷◌, ◌++◌, Option, Some, None, ◌⊎◌, inl, inr, take, reverse, refl, sym, ap, ◌∙◌, eq-eqb, eqb-true}
use Rattle.std.proofs.lemmas.List.{reverse-append}
use Rattle.std.specs.List.{slice_get}
use Rattle.poa_base.specs.declared.Config.{Config}
use Rattle.poa_base.specs.declared.Entry.{Entry}
use Rattle.poa_base.specs.declared.Entry.TheVariants.{Entered, Arrive, Filled, Left, Collect, Admit, Tried, Incarnated, Run, Done, TakeOut, Etherealized, Abandon}
use Rattle.poa_base.specs.declared.Attempt.TheVariants.{Yes, No, Raised, Dying}
use Rattle.poa_base.specs.declared.Verdict.{Verdict}
use Rattle.history_standing.specs.declared.stage.Stage.TheVariants.{Free}
use Rattle.history_standing.specs.Stages.{admitted, arrival_in, is_at, stage}
use Rattle.poa_history.proofs.StagesFrom.{arrival_before}
use Rattle.poa_history.specs.Runs.{IsRun}
use Rattle.core_state.proofs.Stated.{earlier}
use Rattle.journal_entries.proofs.Rowing.{taken_more}
use Rattle.core_run.specs.Turning.{admits, last_verdict, verdict_in}
use Rattle.core_run.proofs.Turned.{manned_before}

-- no Admit of the arrival comes with it, so the worker was at it before
only : {P : Type 0} {Q R : Verdict → Type 0} → P ⊎ ((v : Verdict) × Q v × R v) → ((v : Verdict) → Q v → ⊥) → P
only (inl before) never = before
only (inr (v, q, rest)) never = absurd (never v q)

at_so : (r : ℕ) (o : Option ℕ) → is_at r o ≡ true → o ≡ Some r
at_so r (Some x) is = ap (λ n. Some n) (eqb-true x r is)
at_so r None is = absurd (let e : false ≡ true = is in cc)

-- a worker that tried is free
tried_free : (v n : ℕ) (past : List Entry) (w r : ℕ) → arrival_in (stage (Tried v (Yes n) ∷ past) w) ≡ Some r → v ≡ w → ⊥
tried_free v n past w r at same =
    (let free : stage (Tried v (Yes n) ∷ past) w ≡ Free = ap (λ b. if b then Free else stage past w) (eq-eqb v w same) in
    let never : None ≡ Some r = sym (ap arrival_in free) ∙ at in let e : None ≡ Some r = never in cc)

module _ (c : Config) (run limit : ℕ) where
  pub still_admitted : (h : List Entry) (w r : ℕ) → IsRun c run limit h → arrival_in (stage h w) ≡ Some r → last_verdict h r ≡ admitted h r
  still_admitted [] w r runs at = refl
  still_admitted (Admit v q u ∷ past) w r runs at =
      elim (arrival_before (Admit v q u) past w r at) [
        | inl before ↦ ap (λ x. if q == r then Some u else x) (still_admitted past w r (earlier c run limit past (Admit v q u) runs) before)
        | inr new ↦ (let same : (q == r) ≡ true = eq-eqb q r (let e : Admit v q u ≡ Admit w r new.0 = new.1 in cc) in
            ap (λ b. if b then Some u else last_verdict past r) same ∙ sym (ap (λ b. if b then Some u else admitted past r) same))
      ]
  still_admitted (Tried v (Yes n) ∷ past) w r runs at =
      (let before = only (arrival_before (Tried v (Yes n)) past w r at) (λ u is. let e : Tried v (Yes n) ≡ Admit w r u = is in cc) in
      let manned = manned_before c run limit past (Tried v (Yes n)) runs in
      elim (is_at r (arrival_in (stage past v))) as (λ b. is_at r (arrival_in (stage past v)) ≡ b
      → last_verdict past r ≡ (if b then None else admitted past r)) [
        | true ↦ (λ there. absurd (tried_free v n past w r at (manned.arrival_alone v w r (at_so r (arrival_in (stage past v)) there) before)))
        | false ↦ (λ _. still_admitted past w r (earlier c run limit past (Tried v (Yes n)) runs) before)
      ] refl)
  still_admitted (Tried v No ∷ past) w r runs at =
      still_admitted past w r (earlier c run limit past (Tried v No) runs)
      (only (arrival_before (Tried v No) past w r at) (λ u is. let e : Tried v No ≡ Admit w r u = is in cc))
  still_admitted (Tried v Raised ∷ past) w r runs at =
      still_admitted past w r (earlier c run limit past (Tried v Raised) runs)
      (only (arrival_before (Tried v Raised) past w r at) (λ u is. let e : Tried v Raised ≡ Admit w r u = is in cc))
  still_admitted (Tried v Dying ∷ past) w r runs at =
      still_admitted past w r (earlier c run limit past (Tried v Dying) runs)
      (only (arrival_before (Tried v Dying) past w r at) (λ u is. let e : Tried v Dying ≡ Admit w r u = is in cc))
  still_admitted (Incarnated v a ∷ past) w r runs at =
      still_admitted past w r (earlier c run limit past (Incarnated v a) runs)
      (only (arrival_before (Incarnated v a) past w r at) (λ u is. let e : Incarnated v a ≡ Admit w r u = is in cc))
  still_admitted (Run v ∷ past) w r runs at =
      still_admitted past w r (earlier c run limit past (Run v) runs)
      (only (arrival_before (Run v) past w r at) (λ u is. let e : Run v ≡ Admit w r u = is in cc))
  still_admitted (Done v ∷ past) w r runs at =
      still_admitted past w r (earlier c run limit past (Done v) runs)
      (only (arrival_before (Done v) past w r at) (λ u is. let e : Done v ≡ Admit w r u = is in cc))
  still_admitted (TakeOut v n x ∷ past) w r runs at =
      still_admitted past w r (earlier c run limit past (TakeOut v n x) runs)
      (only (arrival_before (TakeOut v n x) past w r at) (λ u is. let e : TakeOut v n x ≡ Admit w r u = is in cc))
  still_admitted (Etherealized v x y ∷ past) w r runs at =
      still_admitted past w r (earlier c run limit past (Etherealized v x y) runs)
      (only (arrival_before (Etherealized v x y) past w r at) (λ u is. let e : Etherealized v x y ≡ Admit w r u = is in cc))
  still_admitted (Entered conn ∷ past) w r runs at =
      still_admitted past w r (earlier c run limit past (Entered conn) runs)
      (only (arrival_before (Entered conn) past w r at) (λ u is. let e : Entered conn ≡ Admit w r u = is in cc))
  still_admitted (Arrive conn size call ∷ past) w r runs at =
      still_admitted past w r (earlier c run limit past (Arrive conn size call) runs)
      (only (arrival_before (Arrive conn size call) past w r at) (λ u is. let e : Arrive conn size call ≡ Admit w r u = is in cc))
  still_admitted (Filled conn size ∷ past) w r runs at =
      still_admitted past w r (earlier c run limit past (Filled conn size) runs)
      (only (arrival_before (Filled conn size) past w r at) (λ u is. let e : Filled conn size ≡ Admit w r u = is in cc))
  still_admitted (Left conn ∷ past) w r runs at =
      still_admitted past w r (earlier c run limit past (Left conn) runs)
      (only (arrival_before (Left conn) past w r at) (λ u is. let e : Left conn ≡ Admit w r u = is in cc))
  still_admitted (Collect conn a ∷ past) w r runs at =
      still_admitted past w r (earlier c run limit past (Collect conn a) runs)
      (only (arrival_before (Collect conn a) past w r at) (λ u is. let e : Collect conn a ≡ Admit w r u = is in cc))
  still_admitted (Abandon v ∷ past) w r runs at =
      still_admitted past w r (earlier c run limit past (Abandon v) runs)
      (only (arrival_before (Abandon v) past w r at) (λ u is. let e : Abandon v ≡ Admit w r u = is in cc))

-- what the newest Admit before a place says, and one entry more
taken_first : (es : List Entry) (i : ℕ) (e : Entry) → Some e ≡ slice_get es i → reverse (take (i + 1) es) ≡ e ∷ reverse (take i es)
taken_first es i e is = ap reverse (sym (taken_more es (take i es) (take i es ++ e ∷ []) i e refl refl is)) ∙ reverse-append (take i es) (e ∷ [])

pub passed : (es : List Entry) (i : ℕ) (e : Entry) (r : ℕ) → Some e ≡ slice_get es i → admits e r ≡ false
    → last_verdict (reverse (take i es)) r ≡ last_verdict (reverse (take (i + 1) es)) r
passed es i e r is fails = other e fails ∙ sym (ap (λ h. last_verdict h r) (taken_first es i e is))
  where
    past : List Entry
    past = reverse (take i es)

    other : (x : Entry) → admits x r ≡ false → last_verdict past r ≡ last_verdict (x ∷ past) r
    other (Admit w a v) is = sym (ap (λ b. if b then Some v else last_verdict past r) is)
    other (Entered conn) is = refl
    other (Arrive conn size call) is = refl
    other (Filled conn size) is = refl
    other (Left conn) is = refl
    other (Collect conn a) is = refl
    other (Tried w a) is = refl
    other (Incarnated w a) is = refl
    other (Run w) is = refl
    other (Done w) is = refl
    other (TakeOut w n x) is = refl
    other (Etherealized w x y) is = refl
    other (Abandon w) is = refl

pub found : (es : List Entry) (i : ℕ) (e : Entry) (r : ℕ) → Some e ≡ slice_get es i → admits e r ≡ true
    → verdict_in (Some e) ≡ last_verdict (reverse (take (i + 1) es)) r
found es i e r is passes = here e passes ∙ sym (ap (λ h. last_verdict h r) (taken_first es i e is))
  where
    past : List Entry
    past = reverse (take i es)

    here : (x : Entry) → admits x r ≡ true → verdict_in (Some x) ≡ last_verdict (x ∷ past) r
    here (Admit w a v) is = sym (ap (λ b. if b then Some v else last_verdict past r) is)
    here (Entered conn) is = absurd (let e : false ≡ true = is in cc)
    here (Arrive conn size call) is = absurd (let e : false ≡ true = is in cc)
    here (Filled conn size) is = absurd (let e : false ≡ true = is in cc)
    here (Left conn) is = absurd (let e : false ≡ true = is in cc)
    here (Collect conn a) is = absurd (let e : false ≡ true = is in cc)
    here (Tried w a) is = absurd (let e : false ≡ true = is in cc)
    here (Incarnated w a) is = absurd (let e : false ≡ true = is in cc)
    here (Run w) is = absurd (let e : false ≡ true = is in cc)
    here (Done w) is = absurd (let e : false ≡ true = is in cc)
    here (TakeOut w n x) is = absurd (let e : false ≡ true = is in cc)
    here (Etherealized w x y) is = absurd (let e : false ≡ true = is in cc)
    here (Abandon w) is = absurd (let e : false ≡ true = is in cc)

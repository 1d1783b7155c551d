-- What is admitted, begun, decided or collected arrived before.
use Rattle.std.proofs.Common.{◌≡◌, ℕ, ◌<◌, ◌≤◌, Bool, true, false, not, ◌&&◌, ◌||◌, ◌==◌, List, [], ◌∷◌, ◌++◌, filter, find, Option, Some, None, refl, sym, ap, subst, ◌∙◌, inl, inr, ◌⊎◌, arith}
use Rattle.std.proofs.lemmas.Bool.{cond_both, eqb-true}
use Rattle.poa_base.specs.declared.Config.{Config}
use Rattle.poa_base.specs.declared.Verdict.{Verdict}
use Rattle.poa_base.specs.declared.Entry.{Entry}
use Rattle.poa_base.specs.declared.Entry.TheVariants.{Entered, Arrive, Filled, Left, Collect, Admit, Tried, Incarnated, Run, Done, TakeOut, Etherealized, Abandon}
use Rattle.poa_base.specs.declared.Attempt.TheVariants.{Yes, No, Raised, Dying}
use Rattle.history_standing.specs.Arrivals.{arrivals}
use Rattle.poa_history.specs.Legal.{IsLegal, MayFollow}
use Rattle.poa_history.specs.Replies.{asks, decided, is_collected, is_decided_by, is_final, is_waiting, next_reply}
use Rattle.history_standing.specs.Arrivals.{call_of, conn_of}
use Rattle.poa_history.specs.Settling.{settles}
use Rattle.history_standing.specs.Stages.{stage, arrival_in, is_at, admitted, brings}
use Rattle.poa_history.proofs.StagesFrom.{arrival_before}
use Rattle.poa_history.proofs.TurnTells.{admission_is}
use Rattle.history_standing.specs.Trees.{In}
use Rattle.history_standing.proofs.Members.{in_kept}
use Rattle.poa_history.specs.Numbers.{below}
use Rattle.core_outboxes.specs.Decided.{is_answered_by, answered}
use Rattle.core_outboxes.proofs.Deciding.{stays_decided}
use Rattle.core_outboxes.proofs.Given.{within_is}
use Rattle.history_standing.proofs.CallsKept.{arrivals_kept}

pub at_is : (r : ℕ) (o : Option ℕ) → is_at r o ≡ true → o ≡ Some r
at_is r None is = absurd (let e : false ≡ true = is in cc)
at_is r (Some x) is = ap (λ y. Some y) (eqb-true x r is)

module _ (c : Config) (run limit : ℕ) where
  more : (e : Entry) (past : List Entry) (r : ℕ) → r < arrivals past → r < arrivals (e ∷ past)
  more e past r less = (let kept : arrivals past ≤ arrivals (e ∷ past) = arrivals_kept e past in omega (arith, less, kept))

  -- an arrival that a worker is at
  pub stage_arrived : (h : List Entry) (w r : ℕ) → IsLegal c run limit h → arrival_in (stage h w) ≡ Some r → r < arrivals h
  stage_arrived [] w r legal at = absurd (let e : None ≡ Some r = at in cc)
  stage_arrived (e ∷ past) w r legal at =
      elim (arrival_before e past w r at) [
        | inl before ↦ more e past r (stage_arrived past w r legal.1 before)
        | inr began ↦ more e past r (admission_is c run past w r began.0 (subst (MayFollow c run limit past) began.1 legal.0)).arrived
      ]

  pub admitted_arrived : (h : List Entry) (r : ℕ) (v : Verdict) → IsLegal c run limit h → admitted h r ≡ Some v → r < arrivals h
  admitted_arrived [] r v legal is = absurd (let e : None ≡ Some v = is in cc)
  admitted_arrived (Admit w a u ∷ past) r v legal is =
      cond_both (a == r) (Some u) (admitted past r) (λ o. o ≡ Some v → r < arrivals past)
      (λ same _. subst (λ x. x < arrivals past) (eqb-true a r same) (admission_is c run past w a u legal.0).arrived)
      (λ _ is. admitted_arrived past r v legal.1 is) is
  admitted_arrived (Tried w (Yes n) ∷ past) r v legal is =
      cond_both (is_at r (arrival_in (stage past w))) None (admitted past r) (λ o. o ≡ Some v → r < arrivals past)
      (λ _ none. absurd (let e : None ≡ Some v = none in cc)) (λ _ is. admitted_arrived past r v legal.1 is) is
  admitted_arrived (Tried w No ∷ past) r v legal is = admitted_arrived past r v legal.1 is
  admitted_arrived (Tried w Raised ∷ past) r v legal is = admitted_arrived past r v legal.1 is
  admitted_arrived (Tried w Dying ∷ past) r v legal is = admitted_arrived past r v legal.1 is
  admitted_arrived (Entered conn ∷ past) r v legal is = admitted_arrived past r v legal.1 is
  admitted_arrived (Arrive conn size call ∷ past) r v legal is = more (Arrive conn size call) past r (admitted_arrived past r v legal.1 is)
  admitted_arrived (Filled conn size ∷ past) r v legal is = admitted_arrived past r v legal.1 is
  admitted_arrived (Left conn ∷ past) r v legal is = admitted_arrived past r v legal.1 is
  admitted_arrived (Collect conn a ∷ past) r v legal is = admitted_arrived past r v legal.1 is
  admitted_arrived (Incarnated w x ∷ past) r v legal is = admitted_arrived past r v legal.1 is
  admitted_arrived (Run w ∷ past) r v legal is = admitted_arrived past r v legal.1 is
  admitted_arrived (Done w ∷ past) r v legal is = admitted_arrived past r v legal.1 is
  admitted_arrived (TakeOut w n x ∷ past) r v legal is = admitted_arrived past r v legal.1 is
  admitted_arrived (Etherealized w x y ∷ past) r v legal is = admitted_arrived past r v legal.1 is
  admitted_arrived (Abandon w ∷ past) r v legal is = admitted_arrived past r v legal.1 is

  at_arrived : (past : List Entry) (w r : ℕ) → IsLegal c run limit past → is_at r (arrival_in (stage past w)) ≡ true → r < arrivals past
  at_arrived past w r legal is = stage_arrived past w r legal (at_is r (arrival_in (stage past w)) is)

  by_arrived : (e : Entry) (past : List Entry) (r : ℕ) → IsLegal c run limit (e ∷ past) → is_decided_by past e r ≡ true → r < arrivals past
  by_arrived (Admit w a v) past r legal is =
      subst (λ x. x < arrivals past) (eqb-true a r (first (a == r) (is_final v) is)) (admission_is c run past w a v legal.0).arrived
    where
      first : (x y : Bool) → (x && y) ≡ true → x ≡ true
      first true y is = refl
      first false y is = is
  by_arrived (Tried w (Yes n)) past r legal is = absurd (let e : false ≡ true = is in cc)
  by_arrived (Tried w No) past r legal is = at_arrived past w r legal.1 is
  by_arrived (Tried w Raised) past r legal is = at_arrived past w r legal.1 is
  by_arrived (Tried w Dying) past r legal is = at_arrived past w r legal.1 is
  by_arrived (Incarnated w x) past r legal is = at_arrived past w r legal.1 (second (not (brings x)) (is_at r (arrival_in (stage past w))) is)
    where
      second : (x y : Bool) → (x && y) ≡ true → y ≡ true
      second true y is = is
      second false y is = absurd (let e : false ≡ true = is in cc)
  by_arrived (Run w) past r legal is = at_arrived past w r legal.1 is
  by_arrived (Entered conn) past r legal is = absurd (let e : false ≡ true = is in cc)
  by_arrived (Arrive conn size call) past r legal is = absurd (let e : false ≡ true = is in cc)
  by_arrived (Filled conn size) past r legal is = absurd (let e : false ≡ true = is in cc)
  by_arrived (Left conn) past r legal is = absurd (let e : false ≡ true = is in cc)
  by_arrived (Collect conn a) past r legal is = absurd (let e : false ≡ true = is in cc)
  by_arrived (Done w) past r legal is = absurd (let e : false ≡ true = is in cc)
  by_arrived (TakeOut w n x) past r legal is = absurd (let e : false ≡ true = is in cc)
  by_arrived (Etherealized w x y) past r legal is = absurd (let e : false ≡ true = is in cc)
  by_arrived (Abandon w) past r legal is = absurd (let e : false ≡ true = is in cc)

  waiting_arrived : (h : List Entry) (r : ℕ) (v : Option Verdict) → admitted h r ≡ v → IsLegal c run limit h → is_waiting v ≡ true → r < arrivals h
  waiting_arrived h r None same legal is = absurd (let e : false ≡ true = is in cc)
  waiting_arrived h r (Some v) same legal is = admitted_arrived h r v legal same

  pub decided_arrived : (h : List Entry) (r : ℕ) → IsLegal c run limit h → decided c run h r ≡ true → r < arrivals h
  decided_arrived [] r legal is = absurd (let e : false ≡ true = is in cc)
  decided_arrived (e ∷ past) r legal is =
      by_cases (is_decided_by past e r) (decided c run past r) (is_waiting (admitted (e ∷ past) r)) (settles c run (e ∷ past) r)
      (λ by. more e past r (by_arrived e past r legal by)) (λ was. more e past r (decided_arrived past r legal.1 was))
      (λ waits. waiting_arrived (e ∷ past) r (admitted (e ∷ past) r) refl legal waits) is
    where
      by_cases : (x y z t : Bool) {A : Type 0} → (x ≡ true → A) → (y ≡ true → A) → (z ≡ true → A) → (x || (y || (z && t))) ≡ true → A
      by_cases true y z t a b d is = a refl
      by_cases false true z t a b d is = b refl
      by_cases false false true t a b d is = d refl
      by_cases false false false t a b d is = absurd (let e : false ≡ true = is in cc)

-- what was answered was decided
pub answered_decided : (c : Config) (run : ℕ) (h : List Entry) (r : ℕ) → In r (answered c run h) → decided c run h r ≡ true
answered_decided c run [] r there = absurd there
answered_decided c run (e ∷ past) r there =
    elim (in_both r (answered c run past) (filter (is_answered_by c run e past) (below (arrivals past))) there) [
      | inl old ↦ stays_decided c run past e r (answered_decided c run past r old)
      | inr new ↦
          (let its = in_kept (is_answered_by c run e past) r (below (arrivals past)) new in
          middle (asks (call_of past r)) (decided c run (e ∷ past) r) (not (decided c run past r)) its.1)
    ]
  where
    in_both : (x : ℕ) (xs ys : List ℕ) → In x (xs ++ ys) → In x xs ⊎ In x ys
    in_both x [] ys there = inr there
    in_both x (z ∷ xs) ys (inl same) = inl (inl same)
    in_both x (z ∷ xs) ys (inr further) = elim (in_both x xs ys further) [ inl a ↦ inl (inr a) | inr b ↦ inr b ]

    middle : (a b d : Bool) → (a && (b && d)) ≡ true → b ≡ true
    middle true true d is = refl
    middle true false d is = absurd (let e : false ≡ true = is in cc)
    middle false b d is = absurd (let e : false ≡ true = is in cc)

found_in : (p : ℕ → Bool) (x : ℕ) (xs : List ℕ) → find p xs ≡ Some x → In x xs
found_in p x [] is = absurd (let e : None ≡ Some x = is in cc)
found_in p x (y ∷ ys) is =
    cond_both (p y) (Some y) (find p ys) (λ o. o ≡ Some x → In x (y ∷ ys))
    (λ _ same. inl (let e : Some y ≡ Some x = same in cc)) (λ _ further. inr (found_in p x ys further)) is

-- what is given next was decided
pub next_decided : (c : Config) (run : ℕ) (h : List Entry) (conn r : ℕ) → next_reply c run h conn ≡ Some r → decided c run h r ≡ true
next_decided c run h conn r is =
    answered_decided c run h r
    (found_in (λ x. is_at conn (conn_of h x) && not (is_collected h x)) r (answered c run h) (sym (within_is c run h conn h (λ _ _. refl)) ∙ is))

pub collected_decided : (c : Config) (run limit : ℕ) (h : List Entry) (r : ℕ) → IsLegal c run limit h → is_collected h r ≡ true → decided c run h r ≡ true
collected_decided c run limit [] r legal is = absurd (let e : false ≡ true = is in cc)
collected_decided c run limit (Collect conn a ∷ past) r legal is =
    stays_decided c run past (Collect conn a) r
    (elim (a == r) as (λ b. (a == r) ≡ b → (b || is_collected past r) ≡ true → decided c run past r ≡ true) [
      | true ↦ (λ same _. next_decided c run past conn r (legal.0 ∙ ap (λ x. Some x) (eqb-true a r same)))
      | false ↦ (λ _ is. collected_decided c run limit past r legal.1 is)
    ] refl is)
collected_decided c run limit (Entered conn ∷ past) r legal is = stays_decided c run past (Entered conn) r (collected_decided c run limit past r legal.1 is)
collected_decided c run limit (Arrive conn size call ∷ past) r legal is =
    stays_decided c run past (Arrive conn size call) r (collected_decided c run limit past r legal.1 is)
collected_decided c run limit (Filled conn size ∷ past) r legal is =
    stays_decided c run past (Filled conn size) r (collected_decided c run limit past r legal.1 is)
collected_decided c run limit (Left conn ∷ past) r legal is = stays_decided c run past (Left conn) r (collected_decided c run limit past r legal.1 is)
collected_decided c run limit (Admit w a v ∷ past) r legal is = stays_decided c run past (Admit w a v) r (collected_decided c run limit past r legal.1 is)
collected_decided c run limit (Tried w a ∷ past) r legal is = stays_decided c run past (Tried w a) r (collected_decided c run limit past r legal.1 is)
collected_decided c run limit (Incarnated w a ∷ past) r legal is = stays_decided c run past (Incarnated w a) r (collected_decided c run limit past r legal.1 is)
collected_decided c run limit (Run w ∷ past) r legal is = stays_decided c run past (Run w) r (collected_decided c run limit past r legal.1 is)
collected_decided c run limit (Done w ∷ past) r legal is = stays_decided c run past (Done w) r (collected_decided c run limit past r legal.1 is)
collected_decided c run limit (TakeOut w n x ∷ past) r legal is = stays_decided c run past (TakeOut w n x) r (collected_decided c run limit past r legal.1 is)
collected_decided c run limit (Etherealized w x y ∷ past) r legal is =
    stays_decided c run past (Etherealized w x y) r (collected_decided c run limit past r legal.1 is)
collected_decided c run limit (Abandon w ∷ past) r legal is = stays_decided c run past (Abandon w) r (collected_decided c run limit past r legal.1 is)

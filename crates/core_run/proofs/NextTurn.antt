-- The next entry of a worker is its turn, and may follow.
use Rattle.std.proofs.Common.{◌≡◌, ℕ, ◌<◌, true, false, List, Some, None, refl, sym, ap, subst, ◌∙◌}
use Rattle.poa_base.specs.declared.Config.{Config}
use Rattle.poa_base.specs.declared.Entry.{Entry}
use Rattle.poa_base.specs.declared.Entry.TheVariants.{Entered, Arrive, Filled, Left, Collect, Admit, Tried, Incarnated, Run, Done, TakeOut, Etherealized, Abandon}
use Rattle.history_standing.specs.declared.activation.Activation.{Activation}
use Rattle.history_standing.specs.declared.stage.Stage.{Stage}
use Rattle.history_standing.specs.declared.stage.Stage.TheVariants.{Free, Trying, Incarnating, Serving, Ran, Removing}
use Rattle.history_standing.specs.Standings.{Standing}
use Rattle.history_standing.specs.Changes.{standing}
use Rattle.history_standing.specs.Rules.{brought}
use Rattle.history_standing.specs.Stages.{stage, is_abandoned}
use Rattle.poa_history.specs.Turns.{attempt, going_on, next_of, activation_numbered, turn}
use Rattle.poa_history.specs.Legal.{IsTurn, MayFollow}
use Rattle.poa_history.proofs.TurnIs.{mapped_by, goes_on, takes, admits, turned}
use Rattle.core_arrivals.specs.Begun.{worker_of, only_ends}
use Rattle.poa_history.specs.Entries.{is_turn}
use Rattle.core_run.specs.ToCome.{is_ending}

pub record IsMade (w : ℕ) (e : Entry) : Type 0 where
  pub turn_is : is_turn e ≡ true
  pub by : worker_of e ≡ Some w

going_made : (c : Config) (s : Standing) (w : ℕ) (begun : Stage) (e : Entry) → going_on c s w begun ≡ Some e → IsMade w e
going_made c s w Free e is = absurd (let f : None ≡ Some e = is in cc)
going_made c s w (Trying r) e is =
    subst (IsMade w) (let f : Some (Tried w (attempt c s r)) ≡ Some e = is in let g : Tried w (attempt c s r) ≡ e = cc in g)
    (record { turn_is = refl; by = refl })
going_made c s w (Incarnating r n) e is =
    subst (IsMade w) (mapped_by (λ a. Incarnated w (brought c s a)) (activation_numbered s n) e is).2 (record { turn_is = refl; by = refl })
going_made c s w (Serving r) e is = subst (IsMade w) (let f : Some (Run w) ≡ Some e = is in let g : Run w ≡ e = cc in g) (record { turn_is = refl; by = refl })
going_made c s w (Ran r) e is = subst (IsMade w) (let f : Some (Done w) ≡ Some e = is in let g : Done w ≡ e = cc in g) (record { turn_is = refl; by = refl })
going_made c s w (Removing n) e is =
    subst (IsMade w) (mapped_by (λ (a : Activation). Etherealized w a.cleanup a.remaining) (activation_numbered s n) e is).2
    (record { turn_is = refl; by = refl })

module _ (c : Config) (run limit : ℕ) (past : List Entry) (w : ℕ) (e : Entry) (next : turn c run past w ≡ Some e) where
  pub made : IsMade w e
  made =
      elim (turned c run past w e next) [
        | goes_on on ↦ going_made c (standing c run past) w (stage past w) e on
        | takes a free there due same ↦ subst (IsMade w) same (record { turn_is = refl; by = refl })
        | admits r v free less unadmitted told same ↦ subst (IsMade w) same (record { turn_is = refl; by = refl })
      ]

  module _ (below : w < 16) (going : is_abandoned past w ≡ false) where
    its : IsTurn c run past w e
    its = record { worker = below; going = going; next = next }

    pub may_follow_next : MayFollow c run limit past e
    may_follow_next = may_follow e made.by its
      where
        may_follow : (e : Entry) → worker_of e ≡ Some w → IsTurn c run past w e → MayFollow c run limit past e
        may_follow (Admit v r x) by is = subst (λ y. IsTurn c run past y (Admit v r x)) (let f : Some v ≡ Some w = by in let g : w ≡ v = cc in g) is
        may_follow (Tried v x) by is = subst (λ y. IsTurn c run past y (Tried v x)) (let f : Some v ≡ Some w = by in let g : w ≡ v = cc in g) is
        may_follow (Incarnated v x) by is = subst (λ y. IsTurn c run past y (Incarnated v x)) (let f : Some v ≡ Some w = by in let g : w ≡ v = cc in g) is
        may_follow (Run v) by is = subst (λ y. IsTurn c run past y (Run v)) (let f : Some v ≡ Some w = by in let g : w ≡ v = cc in g) is
        may_follow (Done v) by is = subst (λ y. IsTurn c run past y (Done v)) (let f : Some v ≡ Some w = by in let g : w ≡ v = cc in g) is
        may_follow (TakeOut v n x) by is = subst (λ y. IsTurn c run past y (TakeOut v n x)) (let f : Some v ≡ Some w = by in let g : w ≡ v = cc in g) is
        may_follow (Etherealized v x y) by is =
            subst (λ z. IsTurn c run past z (Etherealized v x y)) (let f : Some v ≡ Some w = by in let g : w ≡ v = cc in g) is
        may_follow (Entered conn) by is = absurd (let f : None ≡ Some w = by in cc)
        may_follow (Arrive conn size call) by is = absurd (let f : None ≡ Some w = by in cc)
        may_follow (Filled conn size) by is = absurd (let f : None ≡ Some w = by in cc)
        may_follow (Left conn) by is = absurd (let f : None ≡ Some w = by in cc)
        may_follow (Collect conn r) by is = absurd (let f : None ≡ Some w = by in cc)
        may_follow (Abandon v) by is = absurd (let f : None ≡ Some w = by in cc)

    -- what was begun and has only to be ended is ended next
    pub ends_next : only_ends (stage past w) ≡ true → is_ending e ≡ true
    ends_next only =
        elim (turned c run past w e next) [
          | goes_on on ↦ going_ends (stage past w) on only
          | takes a free there due same ↦ absurd (let x : false ≡ true = sym (ap only_ends free) ∙ only in cc)
          | admits r v free less unadmitted told same ↦ absurd (let x : false ≡ true = sym (ap only_ends free) ∙ only in cc)
        ]
      where
        going_ends : (begun : Stage) → going_on c (standing c run past) w begun ≡ Some e → only_ends begun ≡ true → is_ending e ≡ true
        going_ends (Ran r) is only = (let f : Some (Done w) ≡ Some e = is in let g : Done w ≡ e = cc in sym (ap is_ending g))
        going_ends (Removing n) is only =
            subst (λ x. is_ending x ≡ true)
            (mapped_by (λ (a : Activation). Etherealized w a.cleanup a.remaining) (activation_numbered (standing c run past) n) e is).2 refl
        going_ends Free is only = absurd (let x : false ≡ true = only in cc)
        going_ends (Trying r) is only = absurd (let x : false ≡ true = only in cc)
        going_ends (Incarnating r n) is only = absurd (let x : false ≡ true = only in cc)
        going_ends (Serving r) is only = absurd (let x : false ≡ true = only in cc)

-- the turn of a worker that serves a request
pub run_next : (c : Config) (run : ℕ) (h : List Entry) (w r : ℕ) → Serving r ≡ stage h w → Some (Run w) ≡ turn c run h w
unfolding turn
run_next c run h w r is = ap (next_of c run h w) is

pub done_next : (c : Config) (run : ℕ) (h : List Entry) (w r : ℕ) → Ran r ≡ stage h w → Some (Done w) ≡ turn c run h w
unfolding turn
done_next c run h w r is = ap (next_of c run h w) is

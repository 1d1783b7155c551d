-- A worker's entry lets no connection enter or leave and no call arrive, and fills no run.
use Rattle.std.proofs.Common.{◌≡◌, ℕ, List, ◌∷◌, Some, None, refl, subst}
use Rattle.poa_base.specs.declared.Config.{Config}
use Rattle.poa_base.specs.declared.Entry.{Entry}
use Rattle.poa_base.specs.declared.Entry.TheVariants.{Tried, Incarnated, Run, Done, Etherealized}
use Rattle.history_standing.specs.declared.activation.Activation.{Activation}
use Rattle.history_standing.specs.declared.stage.Stage.{Stage}
use Rattle.history_standing.specs.declared.stage.Stage.TheVariants.{Free, Trying, Incarnating, Serving, Ran, Removing}
use Rattle.history_standing.specs.Arrivals.{call_of, connections}
use Rattle.history_standing.specs.Changes.{standing}
use Rattle.poa_history.specs.Legal.{has_left}
use Rattle.history_standing.specs.Rules.{brought}
use Rattle.history_standing.specs.Stages.{stage, is_abandoned}
use Rattle.history_standing.specs.Standings.{Standing}
use Rattle.poa_history.specs.Turns.{attempt, going_on, activation_numbered, turn}
use Rattle.poa_history.proofs.TurnIs.{turned, mapped_by, goes_on, takes, admits}
use Rattle.poa_core.specs.Answers.{filled_at}

pub record IsApart (e : Entry) : Type 0 where
  pub entered : (past : List Entry) → connections (e ∷ past) ≡ connections past
  pub left : (past : List Entry) (n : ℕ) → has_left (e ∷ past) n ≡ has_left past n
  pub filled : (past : List Entry) → filled_at (e ∷ past) ≡ filled_at past
  pub going : (past : List Entry) (w : ℕ) → is_abandoned (e ∷ past) w ≡ is_abandoned past w
  pub calls : (past : List Entry) (r : ℕ) → call_of (e ∷ past) r ≡ call_of past r

by_going : (c : Config) (s : Standing) (w : ℕ) (begun : Stage) (e : Entry) → going_on c s w begun ≡ Some e → IsApart e
by_going c s w Free e is = absurd (let f : None ≡ Some e = is in cc)
by_going c s w (Trying r) e is =
    (let same : Tried w (attempt c s r) ≡ e = (let f : Some (Tried w (attempt c s r)) ≡ Some e = is in cc) in
    subst (λ (x : Entry). IsApart x) same (record { entered = λ _. refl; left = λ _ _. refl; filled = λ _. refl; going = λ _ _. refl; calls = λ _ _. refl }))
by_going c s w (Incarnating r n) e is = (let found = mapped_by (λ a. Incarnated w (brought c s a)) (activation_numbered s n) e is in
    subst (λ (x : Entry). IsApart x) found.2 (record { entered = λ _. refl; left = λ _ _. refl; filled = λ _. refl; going = λ _ _. refl; calls = λ _ _. refl }))
by_going c s w (Serving r) e is =
    (let same : Run w ≡ e = (let f : Some (Run w) ≡ Some e = is in cc) in
    subst (λ (x : Entry). IsApart x) same (record { entered = λ _. refl; left = λ _ _. refl; filled = λ _. refl; going = λ _ _. refl; calls = λ _ _. refl }))
by_going c s w (Ran r) e is =
    (let same : Done w ≡ e = (let f : Some (Done w) ≡ Some e = is in cc) in
    subst (λ (x : Entry). IsApart x) same (record { entered = λ _. refl; left = λ _ _. refl; filled = λ _. refl; going = λ _ _. refl; calls = λ _ _. refl }))
by_going c s w (Removing n) e is = (let found = mapped_by (λ a. Etherealized w a.cleanup a.remaining) (activation_numbered s n) e is in
    subst (λ (x : Entry). IsApart x) found.2 (record { entered = λ _. refl; left = λ _ _. refl; filled = λ _. refl; going = λ _ _. refl; calls = λ _ _. refl }))

pub turn_apart : (c : Config) (run : ℕ) (past : List Entry) (w : ℕ) (e : Entry) → turn c run past w ≡ Some e → IsApart e
turn_apart c run past w e is =
    elim (turned c run past w e is) [
      | goes_on goes ↦ by_going c (standing c run past) w (stage past w) e goes
      | takes a free there due same ↦
          subst (λ (x : Entry). IsApart x) same
          (record { entered = λ _. refl; left = λ _ _. refl; filled = λ _. refl; going = λ _ _. refl; calls = λ _ _. refl })
      | admits r v free less unadmitted told same ↦
          subst (λ (x : Entry). IsApart x) same
          (record { entered = λ _. refl; left = λ _ _. refl; filled = λ _. refl; going = λ _ _. refl; calls = λ _ _. refl })
    ]

-- How many calls arrived, and bytes of them: only what arrives counts.
use Rattle.std.proofs.Common.{◌≡◌, ℕ, List, ◌∷◌, Some, None, refl, ◌∙◌, subst}
use Rattle.poa_base.specs.declared.Config.{Config}
use Rattle.poa_base.specs.declared.Entry.{Entry}
use Rattle.poa_base.specs.declared.Entry.TheVariants.{Collect, Done, Etherealized, Incarnated, Run, Tried}
use Rattle.poa_base.specs.declared.Head.{Head}
use Rattle.poa_base.specs.declared.Reply.{Reply}
use Rattle.history_standing.specs.Arrivals.{arrived_bytes, arrivals}
use Rattle.history_standing.specs.Rules.{brought}
use Rattle.history_standing.specs.Stages.{stage}
use Rattle.history_standing.specs.Standings.{Standing}
use Rattle.history_standing.specs.declared.stage.Stage.{Stage}
use Rattle.history_standing.specs.declared.stage.Stage.TheVariants.{Free, Incarnating, Ran, Removing, Serving, Trying}
use Rattle.history_standing.specs.Changes.{standing}
use Rattle.poa_history.specs.Legal.{is_filled}
use Rattle.poa_history.specs.Life.{Life, with_entry}
use Rattle.poa_history.specs.Turns.{activation_numbered, attempt, going_on, turn}
use Rattle.poa_history.proofs.TurnIs.{admits, goes_on, mapped_by, takes, turned}
use Rattle.poad_answer.specs.Serving.{Works, works_on, works_out}
use Rattle.replay_run.specs.Collecting.{CollectsAll, collects_on, none_left}

-- an entry that lets no call arrive, and fills no run
record IsUncounted (e : Entry) : Type 0 where
  calls : (past : List Entry) → arrivals (e ∷ past) ≡ arrivals past
  bytes : (past : List Entry) → arrived_bytes (e ∷ past) ≡ arrived_bytes past
  filled : (past : List Entry) → is_filled (e ∷ past) ≡ is_filled past

by_going : (c : Config) (s : Standing) (w : ℕ) (begun : Stage) (e : Entry) → going_on c s w begun ≡ Some e → IsUncounted e
by_going c s w Free e is = absurd (let f : None ≡ Some e = is in cc)
by_going c s w (Trying r) e is =
    (let same : Tried w (attempt c s r) ≡ e = (let f : Some (Tried w (attempt c s r)) ≡ Some e = is in cc) in
    subst IsUncounted same (record { calls = λ _. refl; bytes = λ _. refl; filled = λ _. refl }))
by_going c s w (Incarnating r n) e is =
    (let found = mapped_by (λ a. Incarnated w (brought c s a)) (activation_numbered s n) e is in
    subst IsUncounted found.2 (record { calls = λ _. refl; bytes = λ _. refl; filled = λ _. refl }))
by_going c s w (Serving r) e is =
    (let same : Run w ≡ e = (let f : Some (Run w) ≡ Some e = is in cc) in
    subst IsUncounted same (record { calls = λ _. refl; bytes = λ _. refl; filled = λ _. refl }))
by_going c s w (Ran r) e is =
    (let same : Done w ≡ e = (let f : Some (Done w) ≡ Some e = is in cc) in
    subst IsUncounted same (record { calls = λ _. refl; bytes = λ _. refl; filled = λ _. refl }))
by_going c s w (Removing n) e is =
    (let found = mapped_by (λ a. Etherealized w a.cleanup a.remaining) (activation_numbered s n) e is in
    subst IsUncounted found.2 (record { calls = λ _. refl; bytes = λ _. refl; filled = λ _. refl }))

uncounted_turn : (c : Config) (run : ℕ) (past : List Entry) (w : ℕ) (e : Entry) → turn c run past w ≡ Some e → IsUncounted e
uncounted_turn c run past w e is =
    elim (turned c run past w e is) [
      | goes_on goes ↦ by_going c (standing c run past) w (stage past w) e goes
      | takes a free there due same ↦ subst IsUncounted same (record { calls = λ _. refl; bytes = λ _. refl; filled = λ _. refl })
      | admits r v free less unadmitted told same ↦
          subst IsUncounted same (record { calls = λ _. refl; bytes = λ _. refl; filled = λ _. refl })
    ]

-- the same limit, and the same counts
pub record SameCounts (old new : Life) : Type 0 where
  pub limit : new.limit ≡ old.limit
  pub calls : arrivals new.history ≡ arrivals old.history
  pub bytes : arrived_bytes new.history ≡ arrived_bytes old.history
  pub filled : is_filled new.history ≡ is_filled old.history

same_counts : (life : Life) → SameCounts life life
same_counts life = record { limit = refl; calls = refl; bytes = refl; filled = refl }

pub counts_then : (a b c : Life) → SameCounts a b → SameCounts b c → SameCounts a c
counts_then a b c p q = record {
  limit = q.limit ∙ p.limit;
  calls = q.calls ∙ p.calls;
  bytes = q.bytes ∙ p.bytes;
  filled = q.filled ∙ p.filled;
}

pub works_counts : (a b : Life) → Works a b → SameCounts a b
works_counts a b (works_out l idle) = same_counts l
works_counts a b (works_on l last e makes more) =
    (let u : IsUncounted e = uncounted_turn l.config l.run l.history 0 e makes.next in
    counts_then l (with_entry e l) last
    (record { limit = refl; calls = u.calls l.history; bytes = u.bytes l.history; filled = u.filled l.history })
    (works_counts (with_entry e l) last more))

pub collects_counts : (say : Head → Reply → List ℕ) (conn : ℕ) (a : Life) (text : List ℕ) (b : Life) → CollectsAll say conn a text b
    → SameCounts a b
collects_counts say conn a text b (none_left l none) = same_counts l
collects_counts say conn a text b (collects_on l last r reply rest next is more) =
    counts_then l (with_entry (Collect conn r) l) last (record { limit = refl; calls = refl; bytes = refl; filled = refl })
    (collects_counts say conn (with_entry (Collect conn r) l) rest last more)

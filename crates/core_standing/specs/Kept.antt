-- What is kept of what stands: some of the activations that are over may be forgotten.
use Rattle.std.specs.Prelude.{◌≡◌, ℕ, ◌≤◌, true, List, ◌∷◌, length, Option, Result, OnOk, ◌⊎◌}
use Rattle.poa_base.specs.declared.Call.{Call}
use Rattle.poa_base.specs.declared.Config.{Config}
use Rattle.poa_base.specs.declared.Entry.{Entry}
use Rattle.history_standing.specs.declared.activation.Activation.{Activation}
use Rattle.history_standing.specs.Changes.{standing}
use Rattle.history_standing.specs.Ends.{is_over}
use Rattle.history_standing.specs.Standings.{Standing}
use Rattle.history_standing.specs.Trees.{In}
use Rattle.history_standing.specs.declared.stage.Stage.{Stage}
use Rattle.history_standing.specs.Stages.{arrival_in, stage}
use Rattle.poa_history.specs.Entries.{call_admitted, stage_at}
use Rattle.active_map.specs.Live.{live}
use Rattle.core_standing.specs.Seen.{forgotten}

-- the second list is the first, where some of those that are over are forgotten
pub record Forgets (c : Config) (all some : List Activation) : Type 0 where
  -- as many were begun
  pub begun : length some ≡ length all
  -- all that aren't over are kept, in their order
  pub lives : live c some ≡ live c all
  -- nothing was made up
  pub known : (a : Activation) → In a some → (a ≡ forgotten) ⊎ In a all

-- the second is the first, where some of the activations that are over are forgotten
pub record StandsFor (c : Config) (s t : Standing) : Type 0 where
  pub same : t ≡ record s { activations = t.activations }
  pub forgets : Forgets c s.activations t.activations

-- those of the activations that are over are all forgotten
abbrev pub KeepsNoneOver : Config → Standing → Type 0
KeepsNoneOver c t = (a : Activation) → In a t.activations → is_over c a ≡ true → a ≡ forgotten

-- what is kept after a history: no more activations were begun than 32 bits number
pub record StandingAgrees (c : Config) (run : ℕ) (h : List Entry) (t : Standing) : Type 0 where
  pub stands : StandsFor c (standing c run h) t
  pub few : length t.activations ≤ 4294967296

-- what holds of each history that the entry comes after, with what its worker had begun and the call that it admits
abbrev pub WhereItComes : Entry → Stage → Option Call → (List Entry → Type 0) → Type 0
WhereItComes e begun call says = (past : List Entry) → begun ≡ stage_at past e → call ≡ call_admitted past e → says past

-- where it succeeds, what stood after a history stands after it with the entry
abbrev pub StandingFollows : {T E : Type 0} → Config → ℕ → Entry → Stage → Option Call → Standing → Result T E → Standing → Type 0
StandingFollows c run e begun call old result new = (past : List Entry) → old ≡ standing c run past → begun ≡ stage_at past e
    → call ≡ call_admitted past e → OnOk result (new ≡ standing c run (e ∷ past))

-- the same of what is kept
abbrev pub KeptFollows : {T E : Type 0} → Config → ℕ → Entry → Stage → Option Call → Standing → Result T E → Standing → Type 0
KeptFollows c run e begun call old result new = (past : List Entry) → StandingAgrees c run past old → begun ≡ stage_at past e
    → call ≡ call_admitted past e → OnOk result (StandingAgrees c run (e ∷ past) new)

-- what holds of each history after which this is kept, and in which a worker is at this arrival
abbrev pub WhereItIsAt : Config → Option ℕ → Standing → (ℕ → List Entry → ℕ → Type 0) → Type 0
WhereItIsAt c r kept says = (run : ℕ) (past : List Entry) (w : ℕ) → StandingAgrees c run past kept → r ≡ arrival_in (stage past w) → says run past w

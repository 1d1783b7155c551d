-- What a servant activator is told when it etherealizes (CORBA 3.3 Part 1, section 15.3.6: etherealize, with
-- cleanup_in_progress and remaining_activations).
use Rattle.std.specs.Prelude.{◌≡◌, ℕ, Bool, true, false, not, ◌&&◌, ◌||◌, List, [], ◌∷◌, Option, Some, ◌⊎◌}
use Rattle.poa_base.specs.declared.Config.{Config}
use Rattle.poa_base.specs.declared.Command.{Command}
use Rattle.poa_base.specs.declared.Command.TheVariants.{Manager, Destroy, Shutdown}
use Rattle.poa_base.specs.declared.Order.TheVariants.{Deactivate as DeactivateAll}
use Rattle.poa_base.specs.declared.Entry.{Entry}
use Rattle.poa_base.specs.declared.Entry.TheVariants.{TakeOut, Etherealized}
use Rattle.poa_base.specs.declared.Sid.{Sid}
use Rattle.history_standing.specs.declared.activation.Activation.{Activation}
use Rattle.history_standing.specs.declared.activation.Phase.TheVariants.{Complete}
use Rattle.history_standing.specs.declared.stage.Stage.TheVariants.{Removing}
use Rattle.history_standing.specs.Changes.{standing}
use Rattle.poa_history.specs.Endings.{is_ended_by}
use Rattle.history_standing.specs.Logs.{command_done}
use Rattle.poa_history.specs.Out.{was_taken}
use Rattle.history_standing.specs.Stages.{stage}
use Rattle.history_standing.specs.Standings.{Standing}
use Rattle.history_standing.specs.Trees.{In}

-- the command destroys adapters, or deactivates a manager, and etherealizes
abbrev pub etherealizes : Option Command → Bool
etherealizes (Some (Destroy p etherealize wait)) = etherealize
etherealizes (Some Shutdown) = true
etherealizes (Some (Manager name (DeactivateAll etherealize wait))) = etherealize
etherealizes command = false

-- since its begin, and before it was taken out, such a command ended the activation
abbrev pub was_cleaned : Config → ℕ → List Entry → Activation → Bool
was_cleaned c run [] a = false
was_cleaned c run (e ∷ past) a =
    (not (was_taken past a.number) && (is_ended_by c run past e a && etherealizes (command_done past e))) || was_cleaned c run past a

-- the servant of the activation is in the map of its adapter by another one too
pub record IsShared (s : Standing) (n : ℕ) : Type 0 where
  pub it : Activation
  pub other : Activation
  pub servant : Sid
  pub there : In it s.activations
  pub numbered : it.number ≡ n
  pub has : it.phase ≡ Complete servant
  pub beside : In other s.activations
  pub another : other.number ≡ n → ⊥
  pub placed : other.adapter ≡ it.adapter
  pub same : other.phase ≡ Complete servant
  pub mapped : other.out ≡ false

-- so it was when an entry took the activation out
abbrev pub WasShared : Config → ℕ → List Entry → ℕ → Type 0
WasShared c run [] n = ⊥
WasShared c run (TakeOut w m etherealize ∷ past) n = ((m ≡ n) × IsShared (standing c run past) n) ⊎ WasShared c run past n
WasShared c run (e ∷ past) n = WasShared c run past n

-- the flag is true exactly where the servant was shared
abbrev pub TellsShared : Config → ℕ → List Entry → ℕ → Bool → Type 0
TellsShared c run h n flag = (flag ≡ true → WasShared c run h n) × (WasShared c run h n → flag ≡ true)

-- the activator is told both
abbrev pub TellsTruly : Config → ℕ → List Entry → Entry → Type 0
TellsTruly c run past (Etherealized w cleanup remaining) =
    (a : Activation) → In a (standing c run past).activations → stage past w ≡ Removing a.number
    → (cleanup ≡ was_cleaned c run past a) × TellsShared c run past a.number remaining
TellsTruly c run past e = Unit {0}

-- How a run's own seat begins.
use Rattle.std.specs.Prelude.{◌≡◌, ℕ, [], ◌∷◌, Ok, Some, None}
use mathlib.Core.Option.{some}
use lib.ListN.{get_elem?}
use Rattle.poa_base.specs.declared.Entry.{Entry}
use Rattle.poa_core.specs.Answers.{Enters}
use Rattle.poa_shared.specs.Events.{Event}
use Rattle.poa_shared.specs.Seen.{HasGivens}
use Rattle.poa_history.specs.declared.givens.Givens.{Givens}
use Rattle.poa_history.specs.Owners.{owner_of}
use Rattle.seat_lock.specs.declared.view.View.{View}
use Rattle.seat_lock.specs.Histories.{In}
use Rattle.seat_lock.specs.Views.{first_view}
use Rattle.serve_run.specs.Holding.{HasTurnsOf, IsOwn}
use Rattle.serve_run.specs.Ledgers.{Ledger}

-- it is the first seat of a run with these givens that hadn't begun, and a connection entered by it
pub record IsOpened (g : Givens) (v : View Givens Entry) : Type 0 where
  pub conn : ℕ
  pub entered : Event (λ old new. Enters old (Ok conn) new) (first_view g []) v

-- it knows what the run was given, its own connection entered by it, and it made nothing else
pub record HasBegun (v : View Givens Entry) : Type 0 where
  pub given : HasGivens v
  pub ledger : Ledger (0 ∷ []) (0 ∷ []) v
  pub turns_are : HasTurnsOf [] v
  pub own_is : (place : ℕ) (e : Entry) → In place v.mine → get_elem? v.seen place ≡ some e → owner_of e ≡ Some 0 → IsOwn None place e

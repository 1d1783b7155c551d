-- A run's own seat that has begun holds its own connection.
use Rattle.std.proofs.Common.{◌≡◌, ℕ, [], Option, Some, None, ◌∙◌}
use Rattle.outside.specs.Accepting.{Standing}
use Rattle.outside.specs.Link.{Shown}
use Rattle.poa_base.specs.declared.Entry.{Entry}
use Rattle.poa_history.specs.declared.givens.Givens.{Givens}
use Rattle.poa_shared.specs.Seen.{HoldsConnection}
use Rattle.seat_lock.specs.declared.view.View.{View}
use Rattle.serve_run.specs.Holding.{Holds}
use Rattle.serve_run.specs.Opened.{HasBegun, IsOpened}
use Rattle.serve_run.specs.Starting.{IsKept}
use Rattle.serve_run.proofs.Opened.{opened_given, opened_holds}
use Rattle.serve_run.proofs.Opening.{connection_held}
use Rattle.serve_run.proofs.Touring.{holds_kept}

module _ {A L : Type 0} (shown : L → Shown) (standing : A → Option (Standing L)) (faults ends : A → ℕ) where
  pub begun_holds : (g : Givens) (v : View Givens Entry) → HasBegun v → Holds {A = A} {L = L} g shown standing faults ends None [] [] v
  begun_holds g v begun = record {
    ledger = begun.ledger;
    turns_are = begun.turns_are;
    tours_are = tt;
    shifts_are = tt;
    own_is = begun.own_is;
  }

  holds_begun : (g : Givens) (v : View Givens Entry) → v.givens ≡ Some g → Holds {A = A} {L = L} g shown standing faults ends None [] [] v → HasBegun v
  holds_begun g v given holds = record {
    given = (g, given);
    ledger = holds.ledger;
    turns_are = holds.turns_are;
    own_is = holds.own_is;
  }

  pub opened_begun : (g : Givens) (v : View Givens Entry) → IsOpened g v → HasBegun v
  opened_begun g v opened = holds_begun g v (opened_given g v opened) (opened_holds g v opened shown standing faults ends)

  pub begun_kept : (v w : View Givens Entry) → IsKept v w → HasBegun v → HasBegun w
  begun_kept v w kept begun =
      let g = begun.given.0 in
      holds_begun g w (kept.given ∙ begun.given.1) (holds_kept g shown standing faults ends None [] [] v w kept (begun_holds g v begun))

  pub begun_held : (v : View Givens Entry) → HasBegun v → HoldsConnection v 0
  begun_held v begun = connection_held begun.given.0 shown standing faults ends [] [] v (begun_holds begun.given.0 v begun)

-- The run's own seat as it begins.
use Rattle.std.proofs.Common.{◌≡◌, ℕ, List, [], reverse, Option, Some, None, Result, Ok, refl, ap, ◌∙◌, subst}
use Rattle.outside.specs.Accepting.{Standing}
use Rattle.outside.specs.Link.{Shown}
use Rattle.poa_base.specs.declared.Entry.{Entry}
use Rattle.poa_core.specs.Answers.{Enters}
use Rattle.poa_core.specs.declared.enter_fault.EnterFault.{EnterFault}
use Rattle.poa_shared.specs.Events.{Event}
use Rattle.poa_shared.specs.Seen.{Turns}
use Rattle.poa_history.specs.declared.givens.Givens.{Givens}
use Rattle.seat_lock.specs.declared.view.View.{View}
use Rattle.seat_lock.specs.Views.{first_view}
use Rattle.serve_run.specs.Holding.{Holds}
use Rattle.serve_run.specs.Opened.{IsOpened}
use Rattle.serve_run.proofs.Opening.{holds_first}

pub opened : (g : Givens) (conn : ℕ) (h : List Entry) (none : h ≡ []) (r : Result ℕ EnterFault) (is : r ≡ Ok conn) (v w : View Givens Entry)
    (begins : v ≡ first_view g (reverse h)) → Event (λ old new. Enters old r new) v w → IsOpened g w
opened g conn h none r is v w begins event =
    let at : v ≡ first_view g [] = begins ∙ ap (λ l. first_view g (reverse l)) none in
    let one : Event (λ old new. Enters old (Ok conn) new) v w = subst (λ x. Event (λ old new. Enters old x new) v w) is event in
    record { conn = conn; entered = subst (λ x. Event (λ old new. Enters old (Ok conn) new) x w) at one }

module _ (g : Givens) (v : View Givens Entry) (o : IsOpened g v) where
  event : (h : List Entry) × Turns g (first_view g []) h v
      × Enters (record { config = g.config; run = g.run; limit = g.limit; opening = g.opening; history = h }) (Ok o.conn)
      (record { config = g.config; run = g.run; limit = g.limit; opening = g.opening; history = reverse v.seen })
  event = o.entered g refl

  pub opened_given : v.givens ≡ Some g
  opened_given = event.1.given

  pub opened_room : v.room ≡ 1024
  opened_room = event.1.room

  pub opened_base : v.base ≡ 0
  opened_base = event.1.base

  pub opened_holds : {A L : Type 0} (shown : L → Shown) (standing : A → Option (Standing L)) (faults ends : A → ℕ)
      → Holds {A = A} {L = L} g shown standing faults ends None [] [] v
  opened_holds shown standing faults ends =
      holds_first g shown standing faults ends (first_view g []) v event.0 o.conn refl refl refl event.1 event.2.0 (ap (λ l. l.history) event.2.2)

-- What a command waits for, and whether it has come, by what answers as what stands after the history.
use Rattle.std.proofs.Common.{◌≡◌, ℕ, false, not, ◌&&◌, ◌||◌, List, Option, Some, None, refl, ap, ap₂}
use Rattle.poa_base.specs.declared.Config.{Config}
use Rattle.poa_base.specs.declared.Command.{Command}
use Rattle.poa_base.specs.declared.Command.TheVariants.{Manager, Create, Destroy, Activate as ActivateLine, ActivateId, Deactivate as DeactivateLine, Reference, Preset, Forward, Unforward, Shutdown, Bad}
use Rattle.poa_base.specs.declared.Order.{Order}
use Rattle.poa_base.specs.declared.Order.TheVariants.{Activate, Hold, Discard, Deactivate}
use Rattle.poa_base.specs.declared.Entry.{Entry}
use Rattle.history_standing.specs.Changes.{standing}
use Rattle.poa_history.specs.Settling.{is_quiet}
use Rattle.history_standing.specs.Stages.{is_at}
use Rattle.history_standing.specs.Standings.{Standing}
use Rattle.history_standing.specs.Templates.{manager_number}
use Rattle.core_standing.specs.Answers.{AnswersAs}
use Rattle.core_outboxes.specs.declared.owing.Owing.{Owing}
use Rattle.core_outboxes.specs.declared.wait.Ordered.{Ordered}
use Rattle.core_outboxes.specs.declared.wait.Wait.{Wait}
use Rattle.core_outboxes.specs.declared.wait.Wait.TheVariants.{Nothing, Quiet, Off, Gone}
use Rattle.core_outboxes.specs.Desk.{is_decided}
use Rattle.core_outboxes.specs.Waits.{wait_for, wait_of, has_come, is_overtaking}

module _ (c : Config) (run : ℕ) (h : List Entry) (t : Standing) (answers : AnswersAs c run h t) where
  come_same : (ordered : Option Ordered) (r : ℕ) (wait : Wait) → has_come c t ordered r wait ≡ has_come c (standing c run h) ordered r wait
  come_same ordered r Nothing = refl
  come_same ordered r (Quiet m) = ap (λ u. is_quiet c u m || is_overtaking ordered r m) answers.same
  come_same ordered r (Off m etherealize begun) = ap₂ (λ x y. x && (not etherealize || y)) (ap (λ u. is_quiet c u m) answers.same) (answers.ended m begun)
  come_same ordered r (Gone k) = answers.gone k

  pub decided_same : (target : Option ℕ) (ordered : Option Ordered) (o : Owing)
      → is_decided c t target ordered o ≡ is_decided c (standing c run h) target ordered o
  decided_same target ordered o =
      elim o.wait as (λ x. (is_at o.arrival target || (elim x [ Some wait ↦ has_come c t ordered o.arrival wait | None ↦ false ])) ≡
      (is_at o.arrival target || (elim x [ Some wait ↦ has_come c (standing c run h) ordered o.arrival wait | None ↦ false ])))
      [ Some wait ↦ ap (λ b. is_at o.arrival target || b) (come_same ordered o.arrival wait) | None ↦ refl ]

  for_same : (m : ℕ) (order : Order) → wait_for m t order ≡ wait_for m (standing c run h) order
  for_same m Activate = refl
  for_same m (Hold wait) = refl
  for_same m (Discard wait) = refl
  for_same m (Deactivate etherealize wait) = ap (Off m etherealize) answers.begun

  pub wait_same : (command : Option Command) → wait_of c t command ≡ wait_of c (standing c run h) command
  wait_same (Some (Manager name order)) =
      elim (manager_number c name) as (λ o. (elim o [ Some m ↦ Some (wait_for m t order) | None ↦ None ]) ≡
      (elim o [ Some m ↦ Some (wait_for m (standing c run h) order) | None ↦ None ]))
      [ Some m ↦ ap (λ w. Some w) (for_same m order) | None ↦ refl ]
  wait_same (Some (Destroy p etherealize wait)) = ap (λ u. wait_of c u (Some (Destroy p etherealize wait))) answers.same
  wait_same (Some (Create p)) = refl
  wait_same (Some (ActivateLine p servant)) = refl
  wait_same (Some (ActivateId p oid servant)) = refl
  wait_same (Some (DeactivateLine p oid)) = refl
  wait_same (Some (Reference p servant)) = refl
  wait_same (Some (Preset p servant)) = refl
  wait_same (Some (Forward p endpoint)) = refl
  wait_same (Some (Unforward p)) = refl
  wait_same (Some Shutdown) = refl
  wait_same (Some (Bad word)) = refl
  wait_same None = refl

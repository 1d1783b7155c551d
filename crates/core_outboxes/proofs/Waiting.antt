-- What a command that waits is waiting for, as entries follow.
use Rattle.std.proofs.Common.{◌≡◌, ℕ, Bool, true, false, not, ◌&&◌, ◌||◌, ◌==◌, List, ◌∷◌, Option, Some, None, refl, ap, ap₂, ◌∙◌, if◌then◌else◌, is_some}
use Rattle.std.proofs.lemmas.Bool.{cond_both}
use Rattle.poa_base.specs.declared.Config.{Config}
use Rattle.poa_base.specs.declared.Command.{Command}
use Rattle.poa_base.specs.declared.Command.TheVariants.{Manager, Create, Destroy, Activate as ActivateServant, ActivateId, Deactivate as DeactivateId, Reference, Preset, Forward, Unforward, Shutdown, Bad}
use Rattle.poa_base.specs.declared.Order.{Order}
use Rattle.poa_base.specs.declared.Order.TheVariants.{Activate, Hold, Discard, Deactivate}
use Rattle.poa_base.specs.declared.Entry.{Entry}
use Rattle.poa_base.specs.declared.Entry.TheVariants.{Entered, Arrive, Filled, Left, Collect, Admit, Tried, Incarnated, Run, Done, TakeOut, Etherealized, Abandon}
use Rattle.history_standing.specs.Templates.{manager_number}
use Rattle.history_standing.specs.Arrivals.{call_of}
use Rattle.history_standing.specs.Changes.{standing}
use Rattle.history_standing.specs.Logs.{command_in, command_done, order_for}
use Rattle.poa_history.specs.Replies.{is_waiting}
use Rattle.poa_history.specs.Settling.{before_admit, is_quiet, is_overtaken, order_holds, settles_by, settles}
use Rattle.history_standing.specs.Stages.{admitted}
use Rattle.history_standing.specs.Standings.{Standing}
use Rattle.core_outboxes.specs.declared.wait.Wait.{Wait}
use Rattle.core_outboxes.specs.declared.wait.Wait.TheVariants.{Quiet}
use Rattle.core_outboxes.specs.declared.wait.Ordered.{Ordered}
use Rattle.core_outboxes.specs.Waits.{wait_for, wait_of, wait_in, is_overtaking, has_come, manager_ordered, ordered_by}

-- what is waited for has come, or nothing is waited for
abbrev pub comes : Config → Standing → Option Ordered → ℕ → Option Wait → Bool
comes c s ordered r None = false
comes c s ordered r (Some wait) = has_come c s ordered r wait

-- what follows the Admit was ordered by another
abbrev pub IsOvertaken : Config → List Entry → Option Ordered → ℕ → Option Wait → Type 0
IsOvertaken c h ordered r (Some (Quiet m)) = is_overtaken c m h r ≡ is_overtaking ordered r m
IsOvertaken c h ordered r wait = Unit {0}

order_comes : (c : Config) (run : ℕ) (h : List Entry) (ordered : Option Ordered) (r m : ℕ) (order : Order)
    → IsOvertaken c h ordered r (Some (wait_for m (standing c run (before_admit h r)) order))
    → order_holds c run h r m order ≡ has_come c (standing c run h) ordered r (wait_for m (standing c run (before_admit h r)) order)
order_comes c run h ordered r m Activate over = refl
order_comes c run h ordered r m (Hold wait) over = ap (λ b. is_quiet c (standing c run h) m || b) over
order_comes c run h ordered r m (Discard wait) over = ap (λ b. is_quiet c (standing c run h) m || b) over
order_comes c run h ordered r m (Deactivate etherealize wait) over = refl

command_comes : (c : Config) (run : ℕ) (h : List Entry) (ordered : Option Ordered) (r : ℕ) (command : Option Command)
    → IsOvertaken c h ordered r (wait_of c (standing c run (before_admit h r)) command)
    → settles_by c run h r command ≡ comes c (standing c run h) ordered r (wait_of c (standing c run (before_admit h r)) command)
command_comes c run h ordered r None over = refl
command_comes c run h ordered r (Some (Manager name order)) over =
    elim (manager_number c name) as (λ found. IsOvertaken c h ordered r
    (elim found [ Some m ↦ Some (wait_for m (standing c run (before_admit h r)) order) | None ↦ None ])
    → (elim found [ Some m ↦ order_holds c run h r m order | None ↦ false ]) ≡ comes c (standing c run h) ordered r
    (elim found [ Some m ↦ Some (wait_for m (standing c run (before_admit h r)) order) | None ↦ None ]))
    [ Some m ↦ (λ over. order_comes c run h ordered r m order over) | None ↦ (λ _. refl) ] over
command_comes c run h ordered r (Some (Destroy p etherealize wait)) over = refl
command_comes c run h ordered r (Some (Create p)) over = refl
command_comes c run h ordered r (Some (ActivateServant p s)) over = refl
command_comes c run h ordered r (Some (ActivateId p oid s)) over = refl
command_comes c run h ordered r (Some (DeactivateId p oid)) over = refl
command_comes c run h ordered r (Some (Reference p s)) over = refl
command_comes c run h ordered r (Some (Preset p s)) over = refl
command_comes c run h ordered r (Some (Forward p e)) over = refl
command_comes c run h ordered r (Some (Unforward p)) over = refl
command_comes c run h ordered r (Some Shutdown) over = refl
command_comes c run h ordered r (Some (Bad word)) over = refl

-- a command that waits settles where what it waits for has come
pub settles_is : (c : Config) (run : ℕ) (h : List Entry) (ordered : Option Ordered) (r : ℕ) → IsOvertaken c h ordered r (wait_in c run h r)
    → (is_waiting (admitted h r) && settles c run h r) ≡ comes c (standing c run h) ordered r (wait_in c run h r)
settles_is c run h ordered r over =
    elim (is_waiting (admitted h r)) as (λ b. IsOvertaken c h ordered r
    (if b then wait_of c (standing c run (before_admit h r)) (command_in (call_of h r)) else None)
    → (b && settles c run h r) ≡ comes c (standing c run h) ordered r
    (if b then wait_of c (standing c run (before_admit h r)) (command_in (call_of h r)) else None))
    [ true ↦ (λ over. command_comes c run h ordered r (command_in (call_of h r)) over) | false ↦ (λ _. refl) ] over

-- an order to the manager, and one to any manager
ordered_is : (c : Config) (m : ℕ) (command : Option Command)
    → is_some (order_for c m command) ≡ (elim (manager_ordered c command) [ Some k ↦ k == m | None ↦ false ])
ordered_is c m None = refl
ordered_is c m (Some (Manager name order)) =
    elim (manager_number c name) as (λ found. is_some (elim found [ Some k ↦ (if k == m then Some order else None) | None ↦ None ]) ≡
    (elim found [ Some k ↦ k == m | None ↦ false ]))
    [ Some k ↦ (elim (k == m) as (λ b. is_some (if b then Some order else None) ≡ b) [ true ↦ refl | false ↦ refl ]) | None ↦ refl ]
ordered_is c m (Some (Create p)) = refl
ordered_is c m (Some (Destroy p etherealize wait)) = refl
ordered_is c m (Some (ActivateServant p s)) = refl
ordered_is c m (Some (ActivateId p oid s)) = refl
ordered_is c m (Some (DeactivateId p oid)) = refl
ordered_is c m (Some (Reference p s)) = refl
ordered_is c m (Some (Preset p s)) = refl
ordered_is c m (Some (Forward p e)) = refl
ordered_is c m (Some (Unforward p)) = refl
ordered_is c m (Some Shutdown) = refl
ordered_is c m (Some (Bad word)) = refl

-- what wasn't overtaken before is overtaken by what the entry orders
pub overtaken_now : (c : Config) (past : List Entry) (e : Entry) (r m : ℕ) → is_overtaken c m past r ≡ false
    → is_overtaken c m (e ∷ past) r ≡ is_overtaking (ordered_by c past e) r m
overtaken_now c past (Admit w a verdict) r m before =
    let command = command_done past (Admit w a verdict) in
    elim (manager_ordered c command) as (λ found. is_some (order_for c m command) ≡ (elim found [ Some k ↦ k == m | None ↦ false ])
    → (if a == r then false else (is_some (order_for c m command) || is_overtaken c m past r)) ≡ is_overtaking
    (elim found [ Some k ↦ Some (record { arrival = a; manager = k }) | None ↦ None ]) r m) [
      | Some k ↦ (λ is. ap₂ (λ x y. if a == r then false else (x || y)) is before ∙ by_test (a == r) (k == m))
      | None ↦
          (λ is. ap₂ (λ x y. if a == r then false else (x || y)) is before ∙ cond_both (a == r) false (false || false) (λ x. x ≡ false) (λ _. refl) (λ _. refl))
    ] (ordered_is c m command)
  where
    by_test : (a b : Bool) → (if a then false else (b || false)) ≡ (not a && b)
    by_test true b = refl
    by_test false true = refl
    by_test false false = refl
overtaken_now c past (Entered conn) r m before = before
overtaken_now c past (Arrive conn size call) r m before = before
overtaken_now c past (Filled conn size) r m before = before
overtaken_now c past (Left conn) r m before = before
overtaken_now c past (Collect conn x) r m before = before
overtaken_now c past (Tried w x) r m before = before
overtaken_now c past (Incarnated w x) r m before = before
overtaken_now c past (Run w) r m before = before
overtaken_now c past (Done w) r m before = before
overtaken_now c past (TakeOut w n x) r m before = before
overtaken_now c past (Etherealized w x y) r m before = before
overtaken_now c past (Abandon w) r m before = before

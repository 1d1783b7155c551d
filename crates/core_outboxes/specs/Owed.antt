-- The calls that are owed a reply: each asks one, and no entry has decided it.
use Rattle.std.specs.Prelude.{◌≡◌, ℕ, Bool, false, not, ◌&&◌, List, map, filter, Option, Some, is_some}
use Rattle.poa_base.specs.declared.Config.{Config}
use Rattle.poa_base.specs.declared.Entry.{Entry}
use Rattle.history_standing.specs.Arrivals.{arrivals, call_of, conn_of}
use Rattle.poa_history.specs.Replies.{asks, decided, number_of}
use Rattle.poa_history.specs.Settling.{is_overtaken}
use Rattle.history_standing.specs.Trees.{In}
use Rattle.poa_history.specs.Heads.{head_of}
use Rattle.core_outboxes.specs.declared.owing.Owing.{Owing}
use Rattle.core_outboxes.specs.declared.wait.Wait.{Wait}
use Rattle.core_outboxes.specs.declared.wait.Wait.TheVariants.{Quiet}
use Rattle.poa_history.specs.Numbers.{below}
use Rattle.core_outboxes.specs.Waits.{wait_in}

abbrev pub is_owed : Config → ℕ → List Entry → ℕ → Bool
is_owed c run h r = asks (call_of h r) && not (decided c run h r)

-- no later command has overtaken what waits for a quiet manager
abbrev pub IsCurrent : Config → List Entry → ℕ → Option Wait → Type 0
IsCurrent c h r (Some (Quiet m)) = is_overtaken c m h r ≡ false
IsCurrent c h r wait = Unit {0}

-- what is kept of a call that is owed a reply
pub record Owes (c : Config) (run : ℕ) (h : List Entry) (o : Owing) : Type 0 where
  pub conn : conn_of h o.arrival ≡ Some o.conn
  pub number : number_of (call_of h o.arrival) ≡ o.number
  pub head : head_of (call_of h o.arrival) ≡ o.head
  pub wait : wait_in c run h o.arrival ≡ o.wait
  pub current : IsCurrent c h o.arrival o.wait

-- all of them, in the order of their arriving
pub record AreOwed (c : Config) (run : ℕ) (h : List Entry) (os : List Owing) : Type 0 where
  pub which : map (λ o. o.arrival) os ≡ filter (is_owed c run h) (below (arrivals h))
  pub each : (o : Owing) → In o os → Owes c run h o

-- the calls of the rows
abbrev pub arrivals_of : List Owing → List ℕ
arrivals_of os = map (λ o. o.arrival) os

-- it waits for something
abbrev pub has_wait : Owing → Bool
has_wait o = is_some o.wait

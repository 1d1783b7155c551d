-- The long laws of one history together.
use Rattle.std.specs.Prelude.{◌<◌, ◌≡◌, ◌⊎◌, List, true, ℕ}
use Rattle.poa_base.specs.declared.Config.{Config}
use Rattle.poa_base.specs.declared.Entry.{Entry}
use Rattle.poa_base.specs.declared.Kind.{Kind}
use Rattle.history_standing.specs.Arrivals.{arrivals}
use Rattle.poa_history.specs.Replies.{decided}
use Rattle.poa_history.specs.States.{Stored}
use Rattle.history_laws.specs.OneLine.{AreIncarnated, BringsFresh, HasLineState, IsOneLine, KeepsLineState}
use Rattle.history_laws.specs.Undone.{AreIdle, IsAllDone, IsAllOver, IsHeldBack, IsInHand, was_shut}

-- what was begun is in one worker's hands; and where none has a next entry, all is done but what a manager holds back
pub record LeavesNothing (c : Config) (run : ℕ) (h : List Entry) : Type 0 where
  pub in_hand : IsInHand c run h
  pub done : AreIdle c run h → IsAllDone c run h
  pub answered : AreIdle c run h → (r : ℕ) → r < arrivals h → (decided c run h r ≡ true) ⊎ IsHeldBack c run h r
  pub shut : AreIdle c run h → was_shut h ≡ true → IsAllOver c run h

-- the updates of an object to which a servant activator alone brings servants are those of one servant
pub record KeepsUpdates (c : Config) (run : ℕ) (opened : Stored) (h : List Entry) : Type 0 where
  pub line : (kind : Kind) (p : List (List ℕ)) (oid : List ℕ) → BringsFresh c p oid kind → AreIncarnated c run h p oid
      → IsOneLine c run opened kind h p oid
  pub state : (kind : Kind) (p : List (List ℕ)) (oid : List ℕ) → BringsFresh c p oid kind → AreIncarnated c run h p oid
      → HasLineState c run opened kind h p oid
  pub kept : (kind : Kind) (p : List (List ℕ)) (oid : List ℕ) → BringsFresh c p oid kind → AreIncarnated c run h p oid
      → KeepsLineState c run opened kind h p oid

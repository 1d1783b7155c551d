-- What a seat knows of the one history, and which connections are its own. What is seen, and positions, are in the journal's order.
use Rattle.std.specs.Prelude.{◌≡◌, ℕ, List, [], ◌∷◌, ◌++◌, length, reverse, Some}
use mathlib.Core.Option.{some}
use lib.ListN.{get_elem?}
use Rattle.poa_base.specs.declared.Entry.{Entry}
use Rattle.poa_base.specs.declared.Entry.TheVariants.{Entered, Left}
use Rattle.seat_lock.specs.Histories.{In}
use Rattle.seat_lock.specs.Steps.{Knows}
use Rattle.seat_lock.specs.declared.view.View.{View}
use Rattle.poa_history.specs.declared.givens.Givens.{Givens}
use Rattle.poa_history.specs.Owners.{owner_of, HasNone}
use Rattle.poa_history.specs.GivenRuns.{IsHistory}

-- the history as the seat saw it last, the newest entry first
abbrev pub past : View Givens Entry → List Entry
past v = reverse v.seen

-- the seat knows what the run was given
abbrev pub HasGivens : View Givens Entry → Type 0
HasGivens v = (g : Givens) × (v.givens ≡ Some g)

-- the connection entered by the seat
pub record Owns (v : View Givens Entry) (c : ℕ) : Type 0 where
  pub place : ℕ
  pub made : In place v.mine
  pub entered : get_elem? v.seen place ≡ some (Entered c)

-- and didn't leave by it
pub record HoldsConnection (v : View Givens Entry) (c : ℕ) : Type 0 where
  pub owns : Owns v c
  pub staying : (x : ℕ) → In x v.mine → get_elem? v.seen x ≡ some (Left c) → ⊥

-- the history went on to h since the seat saw it, and nobody else made entries of the connections that entered by the seat
pub record GoesOn (v : View Givens Entry) (h : List Entry) : Type 0 where
  pub more : List Entry
  pub is : h ≡ more ++ past v
  pub alone : (c : ℕ) → Owns v c → HasNone c more

-- the seat saw the history h, and then the one that it sees now, which has at most one entry more, made by it
pub record Turns (g : Givens) (v : View Givens Entry) (h : List Entry) (w : View Givens Entry) : Type 0 where
  pub goes_on : GoesOn v h
  pub runs : IsHistory g (past w)
  pub none_made : past w ≡ h → w.mine ≡ v.mine
  pub one_made : (e : Entry) → past w ≡ e ∷ h → w.mine ≡ v.mine ++ length h ∷ []
  pub knows : Knows owner_of w w.seen
  pub given : w.givens ≡ v.givens
  pub base : w.base ≡ v.base
  pub room : w.room ≡ v.room
  pub owned : (c : ℕ) → Owns v c → Owns w c
  pub kept : (c : ℕ) → HoldsConnection v c → (past w ≡ Left c ∷ h → ⊥) → HoldsConnection w c

-- The lifetime of an activation: it runs requests only between incarnation and removal, and is etherealized at most
-- once, after its last request ended (CORBA 3.3 Part 1, sections 15.2.4 and 15.3.6).
use Rattle.std.specs.Prelude.{◌≡◌, ℕ, Bool, true, false, not, List, ◌∷◌, length, Some, slice_get, All}
use Rattle.poa_base.specs.declared.Config.{Config}
use Rattle.poa_base.specs.declared.Entry.{Entry}
use Rattle.poa_base.specs.declared.Entry.TheVariants.{Admit, Run, TakeOut, Etherealized}
use Rattle.poa_base.specs.declared.Verdict.TheVariants.{Serve, Incarnate}
use Rattle.history_standing.specs.declared.activation.Activation.{Activation}
use Rattle.history_standing.specs.declared.stage.Stage.{Stage}
use Rattle.history_standing.specs.declared.stage.Stage.TheVariants.{Serving, Removing}
use Rattle.history_standing.specs.Stages.{stage, admitted}
use Rattle.history_standing.specs.Standings.{Standing, is_complete, is_ending, is_of, is_used}
use Rattle.history_standing.specs.Ends.{is_over}
use Rattle.history_standing.specs.Changes.{standing}
use Rattle.poa_history.specs.Turns.{activation_numbered}
use Rattle.poa_history.specs.InFlight.{named}
use Rattle.poa_history.specs.Legal.{EachEntry}
use Rattle.history_standing.specs.Opening.{opening}
use Rattle.history_standing.specs.Trees.{In}

-- it has a servant, and isn't out of the map
pub record IsServable (s : Standing) (n : ℕ) : Type 0 where
  pub it : Activation
  pub begun : activation_numbered s n ≡ Some it
  pub complete : is_complete it ≡ true
  pub mapped : it.out ≡ false

-- it is ending, not out yet, and nothing is in flight in it
pub record IsRemovable (s : Standing) (n : ℕ) (etherealize : Bool) : Type 0 where
  pub it : Activation
  pub begun : activation_numbered s n ≡ Some it
  pub complete : is_complete it ≡ true
  pub ending : is_ending it ≡ true
  pub mapped : it.out ≡ false
  pub unused : is_used s.flights n ≡ false
  pub told : etherealize ≡ not it.quiet

-- it was taken out by this worker, and is etherealized for the first time, with the flags that stood at its removal
pub record IsEtherealizable (s : Standing) (begun_ : Stage) (cleanup remaining : Bool) : Type 0 where
  pub number : ℕ
  pub it : Activation
  pub begun : begun_ ≡ Removing number
  pub found : activation_numbered s number ≡ Some it
  pub out : it.out ≡ true
  pub loud : it.quiet ≡ false
  pub first : it.etherealized ≡ false
  pub unused : is_used s.flights number ≡ false
  pub cleanup_is : cleanup ≡ it.cleanup
  pub remaining_is : remaining ≡ it.remaining

-- an activation that begins gets the next number, and every earlier one of its adapter and id is over
pub record BeginsFree (c : Config) (before : List Activation) (a : Activation) : Type 0 where
  pub number : a.number ≡ length before
  pub free : All (λ b. is_of a.adapter a.oid b ≡ true → is_over c b ≡ true) before

-- a run, or an admission, names an activation that has its servant still; an incarnation names the next one
abbrev pub KeepsLives : Config → ℕ → List Entry → Entry → Type 0
KeepsLives c run past (Run w) =
    (r n : ℕ) → stage past w ≡ Serving r → named (admitted past r) ≡ Some n → IsServable (standing c run past) n
KeepsLives c run past (Admit w r verdict) =
    ((n : ℕ) → verdict ≡ Serve n → IsServable (standing c run past) n)
    × ((n : ℕ) → verdict ≡ Incarnate n → n ≡ length (standing c run past).activations)
KeepsLives c run past (TakeOut w n etherealize) = IsRemovable (standing c run past) n etherealize
KeepsLives c run past (Etherealized w cleanup remaining) = IsEtherealizable (standing c run past) (stage past w) cleanup remaining
KeepsLives c run past e = Unit {0}

-- each activation that an entry begins, begins with its id free
abbrev pub BeginsFreely : Config → ℕ → List Entry → Entry → Type 0
BeginsFreely c run past e =
    (a : Activation) → slice_get (standing c run (e ∷ past)).activations (length (standing c run past).activations) ≡ Some a
    → BeginsFree c (standing c run past).activations a

-- no two configured objects of one adapter have one id
abbrev pub OpensFreely : Config → ℕ → Type 0
OpensFreely c run =
    (a b : Activation) → In a (opening c run).activations → In b (opening c run).activations → a.adapter ≡ b.adapter → a.oid ≡ b.oid → a ≡ b

pub record HasLifetime (c : Config) (run : ℕ) (h : List Entry) : Type 0 where
  pub opened : OpensFreely c run
  pub kept : EachEntry (KeepsLives c run) h
  pub freely : EachEntry (BeginsFreely c run) h

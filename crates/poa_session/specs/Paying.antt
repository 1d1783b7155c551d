-- What giving replies and writing them does.
use Rattle.std.specs.Prelude.{◌≡◌, ℕ, List, [], true, Result, Ok, Err}
use Rattle.std.specs.declared.alloc.AllocError.{AllocError}
use Rattle.poa_base.specs.declared.Entry.{Entry}
use Rattle.poa_base.specs.declared.SessionEnd.{SessionEnd}
use Rattle.poa_base.specs.declared.SessionEnd.TheVariants.{WriteFault, Abandoned, WantMemory}
use Rattle.history_standing.specs.Stages.{is_abandoned}
use Rattle.seat_lock.specs.Histories.{IsPrefix}
use Rattle.seat_lock.specs.declared.view.View.{View}
use Rattle.outside.specs.Link.{Shown, Moves}
use Rattle.poa_history.specs.declared.Givens.{Givens}
use Rattle.poa_shared.specs.Seen.{past}
use Rattle.session_laws.specs.Records.{filling_by, IsPaidBy}
use Rattle.poa_session.specs.Growing.{Adds}

-- the replies that were given are `due`, of which these bytes were written, where that ends the session
abbrev pub BreaksOff : List Entry → SessionEnd → List ℕ → List ℕ → Type 0
BreaksOff h WriteFault due done = IsPrefix done due
BreaksOff h WantMemory due done = IsPrefix done due
BreaksOff h (Abandoned worker) due done = (done ≡ due) × (is_abandoned h worker ≡ true)
BreaksOff h end due done = ⊥

-- all of them were written, and so many calls are owed a reply still; or the session breaks off
abbrev pub AsPaid : List Entry → ℕ → Result ℕ SessionEnd → List ℕ → List ℕ → Type 0
AsPaid h c (Ok owed) due done = (done ≡ due) × (owed ≡ 0 → IsPaidBy h c)
AsPaid h c (Err end) due done = BreaksOff h end due done

-- the replies that are decided were given, and these bytes tell them
abbrev pub AsGathered : List Entry → ℕ → List ℕ → List ℕ → Result ℕ AllocError → Type 0
AsGathered h c due bytes (Ok owed) = (bytes ≡ due) × (owed ≡ 0 → IsPaidBy h c)
AsGathered h c due bytes (Err fault) = Unit {0}

pub record Gathers (g : Givens) (c : ℕ) (v w : View Givens Entry) (bytes : List ℕ) (result : Result ℕ AllocError) : Type 0 where
  pub due : List ℕ
  pub adds : Adds g c v w [] due
  pub same : filling_by (past w) c ≡ filling_by (past v) c
  pub gathered : AsGathered (past w) c due bytes result

pub record Pays (g : Givens) (c : ℕ) (v : View Givens Entry) (a : Shown) (w : View Givens Entry) (b : Shown)
    (result : Result ℕ SessionEnd) : Type 0 where
  pub due : List ℕ
  pub done : List ℕ
  pub adds : Adds g c v w [] due
  pub moved : Moves a b [] done
  pub same : filling_by (past w) c ≡ filling_by (past v) c
  pub paid : AsPaid (past w) c result due done

-- all that was owed is written; or the session breaks off
abbrev pub AsPaidAll : List Entry → ℕ → Result (Unit {0}) SessionEnd → List ℕ → List ℕ → Type 0
AsPaidAll h c (Ok done') due done = (done ≡ due) × IsPaidBy h c
AsPaidAll h c (Err end) due done = BreaksOff h end due done

pub record PaysAll (g : Givens) (c : ℕ) (v : View Givens Entry) (a : Shown) (w : View Givens Entry) (b : Shown)
    (result : Result (Unit {0}) SessionEnd) : Type 0 where
  pub due : List ℕ
  pub done : List ℕ
  pub adds : Adds g c v w [] due
  pub moved : Moves a b [] done
  pub same : filling_by (past w) c ≡ filling_by (past v) c
  pub paid : AsPaidAll (past w) c result due done

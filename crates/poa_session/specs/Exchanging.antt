-- What a round does on the shared core.
use Rattle.std.specs.Prelude.{◌≡◌, ℕ, ◌⊎◌, List, Some, None, Result, Ok, Err}
use Rattle.std.specs.declared.alloc.AllocError.{AllocError}
use Rattle.poa_base.specs.declared.Entry.{Entry}
use Rattle.poa_base.specs.declared.SessionEnd.{SessionEnd}
use Rattle.poa_base.specs.declared.SessionEnd.TheVariants.{WantMemory}
use Rattle.seat_lock.specs.declared.view.View.{View}
use Rattle.poa_history.specs.declared.Givens.{Givens}
use Rattle.poa_core.specs.declared.Collected.{Collected}
use Rattle.session_laws.specs.declared.Peer.{Peer}
use Rattle.session_laws.specs.HearingPieces.{Intake}
use Rattle.poa_session.specs.Giving.{Gives}
use Rattle.poa_session.specs.Listening.{Listens}
use Rattle.poa_session.specs.Paying.{Gathers}
use Rattle.poa_session.specs.Stopping.{Looks}
use Rattle.poa_session.specs.declared.exchanged.Exchanged.{Exchanged}
use Rattle.poa_session.specs.declared.flow.Flow.{Flow}
use Rattle.poa_session.specs.declared.flow.Flow.TheVariants.{On, Ends, Broke}

module _ (g : Givens) (peer : Peer) (c : ℕ) (v : View Givens Entry) (i : Intake) (w : View Givens Entry) (j : Intake) where
  -- a look ended the session
  pub record IsStopped (end : SessionEnd) : Type 0 where
    pub looked : Looks g v w (Some end)

  -- what was heard ended it
  pub record IsHeard (end : SessionEnd) : Type 0 where
    pub between : View Givens Entry
    pub looked : Looks g v between None
    pub listened : Listens g peer c between i w j (Err end)

  -- calls arrived, and replies were given, which stand behind those that stood before
  pub record IsHeld (old new : List Collected) (have : ℕ) (result : Result ℕ AllocError) : Type 0 where
    pub between : View Givens Entry
    pub looked : Looks g v between None
    pub arrived : View Givens Entry
    pub listened : Listens g peer c between i arrived j (Ok have)
    pub given : Gives g c arrived w old new result

  -- the session goes on, or ends so, where the replies aren't told yet
  abbrev pub Holds : List Collected → List Collected → Result Exchanged Flow → Type 0
  Holds old new (Ok x) = IsHeld old new x.have (Ok x.owed)
  Holds old new (Err (Ends end)) = IsStopped end ⊎ IsHeard end
  Holds old new (Err (Broke end)) = (end ≡ WantMemory) × ((have : ℕ) × (fault : AllocError) × IsHeld old new have (Err fault))
  Holds old new (Err On) = ⊥

  -- calls arrived, and replies were given, which these bytes tell
  pub record IsExchanged (bytes : List ℕ) (have : ℕ) (result : Result ℕ AllocError) : Type 0 where
    pub between : View Givens Entry
    pub looked : Looks g v between None
    pub arrived : View Givens Entry
    pub listened : Listens g peer c between i arrived j (Ok have)
    pub gathered : Gathers g c arrived w bytes result

  -- the session goes on, or ends so
  abbrev pub Exchanges : List ℕ → Result Exchanged Flow → Type 0
  Exchanges bytes (Ok x) = IsExchanged bytes x.have (Ok x.owed)
  Exchanges bytes (Err (Ends end)) = IsStopped end ⊎ IsHeard end
  Exchanges bytes (Err (Broke end)) = (end ≡ WantMemory) × ((have : ℕ) × (fault : AllocError) × IsExchanged bytes have (Err fault))
  Exchanges bytes (Err On) = ⊥

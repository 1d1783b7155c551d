-- What `serve` does by its words.
use Rattle.std.specs.Prelude.{◌≡◌, ◌≢◌, ◌⊎◌, ℕ, List, reverse, Option, Some, None, option_map, Result}
use Rattle.std.specs.declared.alloc.AllocError.{AllocError}
use Rattle.command_words.specs.Serving.{Serve}
use Rattle.outside.specs.Accepting.{Standing}
use Rattle.outside.specs.Keeping.{Contents}
use Rattle.outside.specs.Link.{Shown}
use Rattle.outside.specs.Told.{IfTold}
use Rattle.outside.specs.declared.keeping.Put.{Put}
use Rattle.poa_base.specs.declared.Entry.{Entry}
use Rattle.poad_files.specs.Taking.{HoldsStill}
use Rattle.poad_files.specs.declared.status.Status.{Status}
use Rattle.poad_files.specs.declared.status.Status.TheVariants.{Ok as Fine, WantMemory, NoThread, ListenFault, Limit}
use Rattle.poad_cmd.specs.Beginning.{IsBegun, IsRefused}
use Rattle.poad_cmd.specs.Ending.{AnyRose, EachSteady, IsLimit, status_of}
use Rattle.poad_cmd.specs.Putting.{PutsFiles}
use Rattle.poa_history.specs.Life.{Life, givens_of}
use Rattle.poa_history.specs.declared.givens.Givens.{Givens}
use Rattle.poa_history.specs.Limits.{filled_at}
use Rattle.poa_history.specs.declared.full.Full.{Full}
use Rattle.serve_run.specs.Outcomes.{least_in}
use Rattle.serve_run.specs.Running.{IsKeptRun, IsServedRun, IsWholeRun}
use Rattle.serve_run.specs.Tours.{Tour}
use Rattle.serve_run.specs.declared.doors.Doors.{Doors}
use Rattle.serve_run.specs.declared.outcome.Outcome.{Outcome}

module _ {A L : Type 0} (shown : L → Shown) (standing : A → Option (Standing L)) (faults ends : A → ℕ) where
  -- What a status tells of a run with so many workers and these doors served, of which this came last on its own connection
  pub record Tells (g : Givens) (workers : ℕ) (tours : List (Tour A L)) (last : Option (ℕ × Entry)) (status : Status) (life : Life)
      : Type 0 where
    -- unless memory was wanting, nobody gave the run up, each connection but the first came by one link, and each link has
    -- its session by the whole journal
    pub sessions : status ≢ WantMemory → IsKeptRun g shown workers tours last (reverse life.history)
    -- unless a thread was, too, the run came to its end: every activation is over, every call of a client is decided, and
    -- each door ended for a cause
    pub end : status ≢ WantMemory → status ≢ NoThread → IsWholeRun g standing faults ends tours last (reverse life.history)
    pub listen_fault : status ≡ ListenFault → AnyRose faults tours
    pub limit : (calls bytes : ℕ) → status ≡ Limit calls bytes → IsLimit (filled_at life.history) (least_in tours) calls bytes
    pub fine : status ≡ Fine → (filled_at life.history ≡ None) × (least_in tours ≡ None) × EachSteady faults tours

  -- a run that was begun so was served over these doors, its store and its journal were put, and it ended with this status
  pub record HasServed (serve : Serve) (begun : Life) (status : Status) (old new : Doors A) (life : Life)
      (files_old files_new : Option Contents) : Type 0 where
    pub outcome : Outcome
    pub ran : IsServedRun (givens_of begun) shown standing faults ends serve.workers old new outcome life
    pub put : Result Put AllocError
    pub puts : PutsFiles serve life put files_old files_new
    pub filled : Option Full
    pub filled_is : option_map (λ f. (f.arrivals, f.bytes)) filled ≡ filled_at life.history
    pub status_is : status ≡ status_of outcome put filled
    pub tells : Tells (givens_of begun) serve.workers ran.tours ran.last status life

  -- the same; without a core memory was wanting before the first piece was started
  abbrev pub ServesOn : Serve → Life → Status → Doors A → Doors A → Option Life → Option Contents → Option Contents → Type 0
  ServesOn serve begun status old new None files_old files_new = (new ≡ old) × (status ≡ WantMemory) × (files_new ≡ files_old)
  ServesOn serve begun status old new (Some life) files_old files_new = HasServed serve begun status old new life files_old files_new

  -- a run by these words was begun and served
  pub record Serves (serve : Serve) (status : Status) (old new : Doors A) (life : Life)
      (files_old files_new : Option Contents) : Type 0 where
    pub begun : Life
    pub between : Option Contents
    -- reading the configuration and the state changed no file
    pub still : IfTold files_old between HoldsStill
    pub begins : IsBegun serve begun files_old between
    pub served : HasServed serve begun status old new life between files_new

  -- a core is given back where a run was served; else no run could begin, the doors are as they were, and no file changed
  abbrev pub Ends : Option Serve → Status → Doors A → Doors A → Option Life → Option Contents → Option Contents → Type 0
  Ends asked status old new None files_old files_new =
      (new ≡ old) × IfTold files_old files_new HoldsStill × (IsRefused asked status files_old files_new ⊎ (status ≡ WantMemory))
  Ends asked status old new (Some life) files_old files_new = (serve : Serve) × (asked ≡ Some serve)
      × Serves serve status old new life files_old files_new

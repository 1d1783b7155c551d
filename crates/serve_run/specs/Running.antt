-- What a run of the server promises.
use Rattle.std.specs.Prelude.{◌≡◌, ℕ, false, List, reverse, Option, None}
use Rattle.outside.specs.Accepting.{Standing}
use Rattle.outside.specs.Link.{Shown}
use Rattle.poa_base.specs.declared.Entry.{Entry}
use Rattle.poa_history.specs.Life.{Life, givens_of}
use Rattle.poa_history.specs.Lifetime.{HasLifetime}
use Rattle.poa_history.specs.declared.givens.Givens.{Givens}
use Rattle.poa_history.specs.GivenRuns.{IsHistory}
use Rattle.serve_run.specs.Attending.{Attended}
use Rattle.serve_run.specs.Holding.{FillsBehind}
use Rattle.serve_run.specs.Outcomes.{any_failed, least_in}
use Rattle.serve_run.specs.Served.{AreConnections, EachDoor, EachEnded, IsFirst, NoneGaveUp, IsLastWord, IsRunOver, WorkedBelow}
use Rattle.serve_run.specs.Tours.{Tour, conns_in, EachPassed}
use Rattle.serve_run.specs.declared.doors.Doors.{Doors}
use Rattle.serve_run.specs.declared.outcome.Outcome.{Outcome}

module _ {A L : Type 0} (g : Givens) (shown : L → Shown) where
  -- nobody gave the run up, and these links were served over these doors, by so many workers at most
  pub record IsKeptRun (workers : ℕ) (tours : List (Tour A L)) (last : Option (ℕ × Entry)) (log : List Entry) : Type 0 where
    pub going : NoneGaveUp log
    pub worked : WorkedBelow workers log
    pub first : IsFirst last log
    pub connections : AreConnections (conns_in tours) log
    pub sessions : EachDoor g shown log tours

module _ {A L : Type 0} (g : Givens) (standing : A → Option (Standing L)) (faults ends : A → ℕ) where
  -- every piece was started: all came to the end of the run
  pub record IsWholeRun (tours : List (Tour A L)) (last : Option (ℕ × Entry)) (log : List Entry) : Type 0 where
    pub last_word : IsLastWord last log
    pub behind : FillsBehind last log
    pub over : IsRunOver g log
    pub ended : EachEnded standing faults ends log tours

module _ {A L : Type 0} (g : Givens) (shown : L → Shown) (standing : A → Option (Standing L)) (faults ends : A → ℕ) where
  -- a run of these givens was served over these doors, of which each gave its links in their order; it came off so, and this
  -- core came back
  pub record IsServedRun (workers : ℕ) (old new : Doors A) (outcome : Outcome) (life : Life) : Type 0 where
    pub given : givens_of life ≡ g
    pub legal : IsHistory g life.history
    pub lifetime : HasLifetime g.config g.run life.history
    pub tours : List (Tour A L)
    pub attended : Attended tours outcome.short old new
    pub passed : EachPassed standing faults tours
    pub failed_is : outcome.failed ≡ any_failed tours
    pub refused_is : outcome.refused ≡ least_in tours
    pub last : Option (ℕ × Entry)
    pub kept : outcome.lost ≡ false → IsKeptRun g shown workers tours last (reverse life.history)
    pub calm : outcome.short ≡ None → outcome.lost ≡ false → IsWholeRun g standing faults ends tours last (reverse life.history)

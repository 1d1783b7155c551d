-- How the doors of a run were served.
use Rattle.std.specs.Prelude.{◌≡◌, ℕ, false, List, [], ◌∷◌, ◌++◌, Option, Some, None}
use Rattle.outside.specs.Accepting.{Standing}
use Rattle.outside.specs.Link.{Shown}
use Rattle.poa_base.specs.declared.Entry.{Entry}
use Rattle.poa_history.specs.declared.givens.Givens.{Givens}
use Rattle.seat_lock.specs.declared.view.View.{View}
use Rattle.session_laws.specs.declared.peer.Peer.{Peer}
use Rattle.session_laws.specs.declared.peer.Peer.TheVariants.{Client}
use Rattle.serve_run.specs.declared.outcome.Outcome.{Outcome}
use Rattle.serve_run.specs.Holding.{Holds, IsWord}
use Rattle.serve_run.specs.Outcomes.{any_failed, least_in}
use Rattle.serve_run.specs.Starting.{IsSameSeat}
use Rattle.serve_run.specs.Tours.{Tour, EachPassed}

-- the doors of these tours as they were handed in, behind those that weren't served; of tours the first is that of the last door
abbrev pub closed_doors : {A L : Type 0} → List A → List (Tour A L) → List A
closed_doors rest [] = rest
closed_doors rest (t ∷ more) = closed_doors rest more ++ t.closed ∷ []

-- and as they came back
abbrev pub served_doors : {A L : Type 0} → List A → List (Tour A L) → List A
served_doors rest [] = rest
served_doors rest (t ∷ more) = served_doors rest more ++ t.served ∷ []

abbrev pub AreOf : {A L : Type 0} → Peer → List (Tour A L) → Type 0
AreOf peer [] = Unit {0}
AreOf peer (t ∷ more) = (t.peer ≡ peer) × AreOf peer more

module _ {A L : Type 0} (g : Givens) (shown : L → Shown) (standing : A → Option (Standing L)) (faults ends : A → ℕ) where
  -- these doors were served, as the outcome tells. Where a piece wasn't started, the run's end was called for at once
  pub record AreServed (tours : List (Tour A L)) (outcome : Outcome) (old new : View Givens Entry) : Type 0 where
    pub same : IsSameSeat old new
    pub failed_is : outcome.failed ≡ any_failed tours
    pub refused_is : outcome.refused ≡ least_in tours
    pub passed : EachPassed standing faults tours
    pub own : Option (ℕ × Entry)
    pub word : IsWord own
    pub holds : outcome.lost ≡ false → Holds g shown standing faults ends own tours [] new
    pub calm : outcome.short ≡ None → (own ≡ None) × (outcome.lost ≡ false)

  -- these are lanes, and those in front of them weren't served
  pub record LanesServed (lanes lanes' : List A) (outcome : Outcome) (old new : View Givens Entry) : Type 0 where
    pub tours : List (Tour A L)
    pub rest : List A
    pub before : lanes ≡ closed_doors rest tours
    pub after : lanes' ≡ served_doors rest tours
    pub all : outcome.short ≡ None → rest ≡ []
    pub clients : AreOf Client tours
    pub served : AreServed tours outcome old new

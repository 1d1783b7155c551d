-- What is in flight is what a worker has begun and not ended.
use Rattle.std.specs.Prelude.{◌≡◌, ℕ, Bool, true, false, List, Option, Some, None, is_some}
use Rattle.poa_base.specs.declared.Config.{Config}
use Rattle.poa_base.specs.declared.Entry.{Entry}
use Rattle.poa_base.specs.declared.Sid.{Sid}
use Rattle.poa_base.specs.declared.Verdict.{Verdict}
use Rattle.poa_base.specs.declared.Verdict.TheVariants.{Serve, Incarnate, Try}
use Rattle.poa_choose.specs.Laws.{runs}
use Rattle.poa_choose.specs.declared.Choice.TheVariants.{Go}
use Rattle.history_standing.specs.declared.flight.Flight.{Flight}
use Rattle.history_standing.specs.declared.activation.Activation.{Activation}
use Rattle.history_standing.specs.declared.activation.Phase.TheVariants.{Begun, Complete}
use Rattle.history_standing.specs.declared.stage.Stage.{Stage}
use Rattle.history_standing.specs.declared.stage.Stage.TheVariants.{Free, Trying, Incarnating, Serving, Ran, Removing}
use Rattle.history_standing.specs.Trees.{In}
use Rattle.history_standing.specs.Stages.{stage, arrival_in, admitted}
use Rattle.history_standing.specs.Standings.{Standing}
use Rattle.history_standing.specs.Changes.{standing}

-- the activation that a verdict names
abbrev pub named : Option Verdict → Option ℕ
named (Some (Serve n)) = Some n
named (Some (Incarnate n)) = Some n
named verdict = None

-- the arrival is in flight, as a trial or as a request, in that activation if in one
abbrev pub IsFlying : Standing → ℕ → Option ℕ → Bool → Type 0
IsFlying s r activation trial = (f : Flight) × In f s.flights × (f.arrival ≡ r) × (f.activation ≡ activation) × (is_some f.child ≡ trial)

-- a request that was admitted to a servant, or brought one, is in flight; the activation that it named has its servant
pub record IsRunning (h : List Entry) (s : Standing) (r : ℕ) : Type 0 where
  pub verdict : Verdict
  pub by : admitted h r ≡ Some verdict
  pub run : runs (Go verdict) ≡ true
  pub flying : IsFlying s r (named (Some verdict)) false
  pub served : (n : ℕ) → named (Some verdict) ≡ Some n → (a : Activation) × In a s.activations × (a.number ≡ n)
      × ((t : Sid) × (a.phase ≡ Complete t))

-- what holds of what a worker has begun
abbrev pub Holds : List Entry → Standing → Stage → Type 0
Holds h s Free = Unit {0}
Holds h s (Trying r) = (admitted h r ≡ Some Try) × IsFlying s r None true
Holds h s (Incarnating r n) = (admitted h r ≡ Some (Incarnate n)) × IsFlying s r (Some n) false
    × ((a : Activation) × In a s.activations × (a.number ≡ n) × (a.phase ≡ Begun))
Holds h s (Serving r) = IsRunning h s r
Holds h s (Ran r) = IsRunning h s r
Holds h s (Removing n) = (a : Activation) × In a s.activations × (a.number ≡ n) × (a.out ≡ true) × (a.quiet ≡ false)
    × (a.etherealized ≡ false)

pub record IsManned (c : Config) (run : ℕ) (h : List Entry) : Type 0 where
  pub stages : (w : ℕ) → Holds h (standing c run h) (stage h w)
  -- of one arrival, of one removal and of one incarnation there is one worker
  pub arrival_alone : (w v r : ℕ) → arrival_in (stage h w) ≡ Some r → arrival_in (stage h v) ≡ Some r → w ≡ v
  pub removal_alone : (w v n : ℕ) → stage h w ≡ Removing n → stage h v ≡ Removing n → w ≡ v
  pub begun_alone : (w v r q n : ℕ) → stage h w ≡ Incarnating r n → stage h v ≡ Incarnating q n → w ≡ v
  -- what is in flight is in flight once, and a worker is at it
  pub manned : (f : Flight) → In f (standing c run h).flights → (w : ℕ) × (arrival_in (stage h w) ≡ Some f.arrival)
  pub flight_alone : (f g : Flight) → In f (standing c run h).flights → In g (standing c run h).flights → f.arrival ≡ g.arrival → f ≡ g
  -- what is in flight in an activation is so in its adapter, and it isn't out
  pub activations : (f : Flight) (n : ℕ) → In f (standing c run h).flights → f.activation ≡ Some n → (a : Activation)
      × In a (standing c run h).activations × (a.number ≡ n) × (a.adapter ≡ f.adapter) × (a.out ≡ false)
  -- what is out was ending, and what was etherealized is out
  pub out_ending : (a : Activation) → In a (standing c run h).activations → a.out ≡ true → a.ending ≡ true
  pub told_out : (a : Activation) → In a (standing c run h).activations → a.etherealized ≡ true → a.out ≡ true

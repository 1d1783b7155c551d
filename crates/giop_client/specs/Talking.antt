-- What the parts of a call do: the words of the contracts inside the crate.
use Rattle.std.specs.Prelude.{◌≡◌, ℕ, List, [], ◌++◌, ◌∷◌, Bool, true, Option, Some, None, IfNone, ◌⊎◌}
use Rattle.poa_base.specs.declared.Datum.{Datum}
use Rattle.poa_base.specs.declared.Endpoint.{Endpoint}
use Rattle.poa_base.specs.declared.Ior.{Ior}
use Rattle.outside.specs.Connecting.{Calls}
use Rattle.outside.specs.Link.{Shown, Moves, Writes, IsDry}
use Rattle.giop_frame.specs.Framing.{Framing}
use Rattle.giop_frame.specs.Framer.{HasGiven}
use Rattle.giop_msg.specs.Ask.{request_bytes}
use Rattle.giop_client.specs.declared.call_end.CallEnd.TheVariants as end
use Rattle.giop_client.specs.declared.hop.Hop.{Hop}
use Rattle.poa_base.specs.declared.limits.TheConstants.{MESSAGE_LIMIT}
use Rattle.giop_client.specs.declared.step.Step.{Step}
use Rattle.giop_client.specs.declared.step.Step.TheVariants.{On, End}
use Rattle.giop_client.specs.declared.target.Target.{Target}
use Rattle.giop_client.specs.Ending.{Brings}
use Rattle.giop_client.specs.Hop.{IsHop}
use Rattle.giop_client.specs.Journey.{EndsUnasked, Leg}
use Rattle.giop_client.specs.Request.{ask_of}
use Rattle.giop_client.specs.Target.{IsTarget}
use Rattle.giop_client.specs.Visit.{Visit, Makes, Begins}

-- the bytes say so; and where they say nothing yet, no message of theirs was given
pub record Hears (id : ℕ) (text : List ℕ) (said : Option Hop) (framer : Framing) : Type 0 where
  pub hop : IsHop id text said
  pub given : IfNone said (HasGiven MESSAGE_LIMIT text [] framer)

-- so much of a link was read that brought the step
pub record Listens (id : ℕ) (a b : Shown) (step : Step) : Type 0 where
  pub gave : List ℕ
  pub moved : Moves a b gave []
  pub brings : Brings (IsHop id gave) (IsDry b) step

-- what came of a request to a link that took and gave so much
abbrev pub Comes : List ℕ → ℕ → List ℕ → List ℕ → Type 0 → Step → Type 0
Comes request id took gave Dry step =
    ((took ≡ request) × Brings (IsHop id gave) Dry step)
    ⊎ (Begins took request × (gave ≡ []) × (step ≡ End end.WriteFault))

pub record Talks (request : List ℕ) (id : ℕ) (a b : Shown) (step : Step) : Type 0 where
  pub gave : List ℕ
  pub took : List ℕ
  pub moved : Moves a b gave took
  pub came : Comes request id took gave (IsDry b) step

-- one link was opened and closed again
pub record Uses (endpoint : Endpoint) (request : List ℕ) (id : ℕ) (step : Step) (old new : Calls) : Type 0 where
  pub visit : Visit
  pub made : Makes (visit ∷ []) old new
  pub endpoint_is : visit.endpoint ≡ endpoint
  pub came : Comes request id visit.took visit.gave (visit.rest ≡ []) step

-- or none could be opened
abbrev pub Visited : Endpoint → List ℕ → ℕ → Step → Calls → Calls → Type 0
Visited endpoint request id step old new =
    Uses endpoint request id step old new ⊎ ((new ≡ old) × (step ≡ End end.ConnectFault))

-- the call ended before a link was opened
abbrev pub StopsUnasked : Ior → Step → Type 0
StopsUnasked reference (On next) = ⊥
StopsUnasked reference (End ended) = EndsUnasked reference ended

-- a reference was asked by the request of this number
pub record IsAsked (operation : List ℕ) (argument : Option Datum) (number : ℕ) (reference : Ior) (step : Step) (old new : Calls) : Type 0 where
  pub target : Target
  pub is_target : IsTarget reference (Some target)
  pub uses : Uses target.endpoint (request_bytes (ask_of target operation argument number)) number step old new

abbrev pub Asks : List ℕ → Option Datum → ℕ → Ior → Step → Calls → Calls → Type 0
Asks operation argument number reference step old new =
    IsAsked operation argument number reference step old new ⊎ ((new ≡ old) × StopsUnasked reference step)

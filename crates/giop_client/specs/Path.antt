-- The path of a reference: the links that a call may open, and what it asks by each.
use Rattle.std.specs.Prelude.{◌≡◌, ℕ, ◌+◌, List, [], ◌∷◌, Option, Some, None, ◌⊎◌, ⊤}
use Rattle.poa_base.specs.declared.Datum.{Datum}
use Rattle.poa_base.specs.declared.Endpoint.{Endpoint}
use Rattle.poa_base.specs.declared.Ior.{Ior}
use Rattle.giop_msg.specs.Ask.{request_bytes}
use Rattle.giop_client.specs.declared.hop.Hop.TheVariants.{Forward}
use Rattle.giop_client.specs.declared.target.Target.{Target}
use Rattle.giop_client.specs.Hop.{IsHop}
use Rattle.giop_client.specs.Target.{IsTarget}
use Rattle.giop_client.specs.Request.{ask_of}
use Rattle.giop_client.specs.Visit.{Visit, Begins}

-- an endpoint, and the bytes of the request that is asked there
pub record Station : Type 0 where
  pub endpoint : Endpoint
  pub asked : List ℕ

-- the station of a reference: its target's endpoint, and the request of this number to it
pub record IsStation (operation : List ℕ) (argument : Option Datum) (number : ℕ) (reference : Ior) (station : Station) : Type 0 where
  pub target : Target
  pub is_target : IsTarget reference (Some target)
  pub endpoint : station.endpoint ≡ target.endpoint
  pub asked : station.asked ≡ request_bytes (ask_of target operation argument number)

-- the stations from the reference of this number on, where the links to them give these bytes: a forward goes on, and at
-- anything else, or where no link is left, the path ends. Of a reference without a target there is none
abbrev pub IsPath : List ℕ → Option Datum → ℕ → Ior → List (List ℕ) → List Station → Type 0
IsPath operation argument number reference gaves [] = IsTarget reference None
IsPath operation argument number reference [] (station ∷ stations) =
    IsStation operation argument number reference station × (stations ≡ [])
IsPath operation argument number reference (gave ∷ gaves) (station ∷ stations) =
    IsStation operation argument number reference station
    × (((next : Ior) × IsHop number gave (Some (Forward next)) × IsPath operation argument (number + 1) next gaves stations)
    ⊎ (((next : Ior) → IsHop number gave (Some (Forward next)) → ⊥) × (stations ≡ [])))

-- the links are the first ones of the path, each once and in order, and each took a front of its request
abbrev pub Along : List Visit → List Station → Type 0
Along [] stations = ⊤
Along (visit ∷ visits) [] = ⊥
Along (visit ∷ visits) (station ∷ stations) =
    (visit.endpoint ≡ station.endpoint) × Begins visit.took station.asked × Along visits stations

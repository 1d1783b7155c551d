-- Laws of what links give, and of the path of a reference.
use Rattle.std.specs.Prelude.{◌≡◌, ℕ, List, Option, map}
use Rattle.poa_base.specs.declared.Datum.{Datum}
use Rattle.poa_base.specs.declared.Ior.{Ior}
use Rattle.giop_client.specs.declared.followed.Followed.{Followed}
use Rattle.giop_client.specs.declared.hop.Hop.{Hop}
use Rattle.giop_client.specs.Hop.{IsHop}
use Rattle.giop_client.specs.Journey.{Journey}
use Rattle.giop_client.specs.Path.{Station, IsPath, Along}
use Rattle.giop_client.specs.Visit.{Visit}

-- bytes say one thing
abbrev pub OneHop : Type 0
OneHop = (id : ℕ) (bytes : List ℕ) (a b : Option Hop) → IsHop id bytes a → IsHop id bytes b → a ≡ b

-- the links of a call are a front of the path, each once and in order
abbrev pub LinksAreAFront : Type 0
LinksAreAFront = (operation : List ℕ) (argument : Option Datum) (hops number : ℕ) (reference : Ior) (visits : List Visit)
    (answer : Followed) (stations : List Station) → Journey operation argument hops number reference visits answer
    → IsPath operation argument number reference (map (λ visit. visit.gave) visits) stations → Along visits stations

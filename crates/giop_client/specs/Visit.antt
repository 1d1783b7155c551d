-- A link that was opened, used for one request and closed.
use Rattle.std.specs.Prelude.{◌≡◌, ℕ, List, ◌++◌, Option, Some, map}
use Rattle.poa_base.specs.declared.Endpoint.{Endpoint}
use Rattle.outside.specs.Connecting.{Dialed, Hung, Calls}
use Rattle.giop_client.specs.declared.call_end.CallEnd.{CallEnd}
use Rattle.giop_client.specs.declared.call_end.CallEnd.TheVariants.{WriteFault}
use Rattle.giop_client.specs.declared.hop.Hop.{Hop}
use Rattle.giop_client.specs.declared.hop.Hop.TheVariants.{Forward}

-- where it was opened to, the bytes that were read of it, those that were left to be read, and those that it took
pub record Visit : Type 0 where
  pub endpoint : Endpoint
  pub gave : List ℕ
  pub rest : List ℕ
  pub took : List ℕ

-- as the connector tells its opening, and its closing
abbrev pub dialed : Visit → Dialed
dialed visit = record { endpoint = visit.endpoint; text = visit.gave ++ visit.rest }

abbrev pub hung : Visit → Hung
hung visit = record { left = Some visit.rest; took = Some visit.took }

-- these links were opened and closed, in this order, and no other was
pub record Makes (visits : List Visit) (old new : Calls) : Type 0 where
  pub opened : new.opened ≡ old.opened ++ map dialed visits
  pub closed : new.closed ≡ old.closed ++ map hung visits
  pub out : new.out ≡ old.out

-- the one text begins with the other
pub record Begins (front text : List ℕ) : Type 0 where
  pub back : List ℕ
  pub cut : text ≡ front ++ back

-- What a connector opened and closed, and what it counts.
use Rattle.std.specs.Prelude.{◌≡◌, ℕ, ◌+◌, ◌-◌, ◌^◌, ◌≤◌, min, List, [], ◌∷◌, ◌++◌, Option, Some}
use Rattle.poa_base.specs.declared.Endpoint.{Endpoint}
use Rattle.outside.specs.declared.connecting.Opened.{Opened}
use Rattle.outside.specs.declared.connecting.Opened.TheVariants as dialed
use Rattle.outside.specs.Link.{Shown}

-- a link that was opened: to where, and all that it had to give then
pub record Dialed : Type 0 where
  pub endpoint : Endpoint
  pub text : List ℕ

-- a link that was closed: what it had left to give then, and all that it took
pub record Hung : Type 0 where
  pub left : Option (List ℕ)
  pub took : Option (List ℕ)

-- the links that were opened and those that were closed, each in their order, and how many are open
pub record Calls : Type 0 where
  pub opened : List Dialed
  pub closed : List Hung
  pub out : ℕ

-- how many dials failed; and of the links that were closed how many reads failed, how many writes, and how many reads
-- found nothing there for now
pub record Tally : Type 0 where
  pub dial_faults : ℕ
  pub read_faults : ℕ
  pub write_faults : ℕ
  pub quiets : ℕ

-- a fresh link to the endpoint, which took nothing yet, is open now
pub record Opens (endpoint : Endpoint) (fresh : Shown) (old new : Calls) : Type 0 where
  pub text : List ℕ
  pub left : fresh.left ≡ Some text
  pub took : fresh.held ≡ Some []
  pub is_open : new ≡ record old { opened = old.opened ++ record { endpoint = endpoint; text = text } ∷ []; out = old.out + 1 }

-- a dial opens a link, or changes nothing
abbrev pub Dials : {L : Type 0} → Endpoint → (L → Shown) → Opened L → Calls → Calls → Type 0
Dials endpoint shown (dialed.Link link) old new = Opens endpoint (shown link) old new
Dials endpoint shown dialed.Failed old new = new ≡ old

-- a link that was open is closed
abbrev pub HangsUp : Shown → Calls → Calls → Type 0
HangsUp link old new =
    new ≡ record old { closed = old.closed ++ record { left = link.left; took = link.held } ∷ []; out = old.out - 1 }

-- a count was raised by so many, up to the end of its type
pub record IsRaised (more before now : ℕ) : Type 0 where
  pub later : before ≤ now
  pub sum : now ≡ min (before + more) (2 ^ 64 - 1)

-- A call that follows forwards, link by link.
use Rattle.std.specs.Prelude.{◌≡◌, ℕ, ◌+◌, ◌≤◌, List, [], ◌∷◌, Option, Some, None, ◌⊎◌}
use Rattle.poa_base.specs.declared.Datum.{Datum}
use Rattle.poa_base.specs.declared.Ior.{Ior}
use Rattle.outside.specs.Connecting.{Calls}
use Rattle.giop_msg.specs.Ask.{request_bytes}
use Rattle.giop_client.specs.declared.call_end.CallEnd.{CallEnd}
use Rattle.giop_client.specs.declared.call_end.CallEnd.TheVariants as end
use Rattle.giop_client.specs.declared.followed.Followed.{Followed}
use Rattle.giop_client.specs.declared.hop.Hop.{Hop}
use Rattle.giop_client.specs.declared.hop.Hop.TheVariants.{Forward}
use Rattle.giop_client.specs.declared.target.Target.{Target}
use Rattle.giop_client.specs.Hop.{IsHop}
use Rattle.giop_client.specs.Target.{IsTarget}
use Rattle.giop_client.specs.Request.{ask_of}
use Rattle.giop_client.specs.Visit.{Visit, Makes, Begins}
use Rattle.giop_client.specs.Ending.{EndsBy}

-- the call ended before a link was opened to the reference: it has no target, or no memory was left, or no link could be opened
abbrev pub EndsUnasked : Ior → CallEnd → Type 0
EndsUnasked reference ended =
    (IsTarget reference None × (ended ≡ end.NoProfile))
    ⊎ (ended ≡ end.WantMemory)
    ⊎ (((target : Target) × IsTarget reference (Some target)) × (ended ≡ end.ConnectFault))

-- the link took the whole request, and the forward that it gave goes on so
pub record GoesOn (asked : List ℕ) (number : ℕ) (visit : Visit) (Further : Ior → Type 0) : Type 0 where
  pub next : Ior
  pub took : visit.took ≡ asked
  pub said : IsHop number visit.gave (Some (Forward next))
  pub further : Further next

-- the call ended with this link: it took the whole request, and what it gave brought the end; or a write failed before that,
-- and nothing was read
pub record EndsWhole (asked : List ℕ) (number : ℕ) (visit : Visit) (ended : CallEnd) : Type 0 where
  pub took : visit.took ≡ asked
  pub ends : EndsBy (IsHop number visit.gave) (visit.rest ≡ []) ended

pub record EndsBroken (asked : List ℕ) (visit : Visit) (ended : CallEnd) : Type 0 where
  pub took : Begins visit.took asked
  pub gave : visit.gave ≡ []
  pub is : ended ≡ end.WriteFault

abbrev pub EndsHere : List ℕ → ℕ → Visit → CallEnd → Type 0
EndsHere asked number visit ended = EndsWhole asked number visit ended ⊎ EndsBroken asked visit ended

-- the reference has a target, the link was opened to its endpoint, and this came of its request
pub record Leg (operation : List ℕ) (argument : Option Datum) (number : ℕ) (reference : Ior) (visit : Visit)
    (Came : List ℕ → Type 0) : Type 0 where
  pub target : Target
  pub is_target : IsTarget reference (Some target)
  pub endpoint : visit.endpoint ≡ target.endpoint
  pub came : Came (request_bytes (ask_of target operation argument number))

-- from the reference of this number on, the first being 1, these links were used and the answer came of it. The
-- reference that the forward number `hops` + 1 brought isn't asked, whatever it is
abbrev pub Journey : List ℕ → Option Datum → ℕ → ℕ → Ior → List Visit → Followed → Type 0
Journey operation argument hops number reference [] answer =
    ((number ≡ hops + 2) × (answer ≡ record { hops = hops; end = end.TooManyHops hops }))
    ⊎ ((number ≤ hops + 1) × (answer.hops + 1 ≡ number) × EndsUnasked reference answer.end)
Journey operation argument hops number reference (visit ∷ visits) answer =
    (number ≤ hops + 1)
    × Leg operation argument number reference visit (λ asked.
    GoesOn asked number visit (λ next. Journey operation argument hops (number + 1) next visits answer)
    ⊎ ((visits ≡ []) × (answer.hops + 1 ≡ number) × EndsHere asked number visit answer.end))

-- the links that were opened and closed are those of a journey from the reference
pub record Follows (operation : List ℕ) (argument : Option Datum) (hops : ℕ) (reference : Ior) (answer : Followed) (old new : Calls) : Type 0 where
  pub visits : List Visit
  pub made : Makes visits old new
  pub journey : Journey operation argument hops 1 reference visits answer

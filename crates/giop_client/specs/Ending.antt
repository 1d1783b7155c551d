-- How what a link gave ends a call, or takes it on.
use Rattle.std.specs.Prelude.{◌≡◌, ℕ, ◌<◌, Option, Some, None, ◌⊎◌, ⊤}
use Rattle.outside.specs.Link.{Shown}
use Rattle.outside.specs.Connecting.{Tally}
use Rattle.giop_client.specs.declared.call_end.CallEnd.{CallEnd}
use Rattle.giop_client.specs.declared.call_end.CallEnd.TheVariants as end
use Rattle.giop_client.specs.declared.hop.Hop.{Hop}
use Rattle.giop_client.specs.declared.hop.Hop.TheVariants as hop
use Rattle.giop_client.specs.declared.step.Step.{Step}
use Rattle.giop_client.specs.declared.step.Step.TheVariants.{On, End}
use Rattle.giop_client.specs.declared.listening.TheConstants.{MOST_QUIETS}
use Rattle.giop_client.specs.Counting.{Blames}

-- the end that a link brought of which this is said, and of which nothing was left where `Dry` holds: a whole answer, the
-- server's closing, the end of the link before any answer, or so many reads that found nothing; or a read failed, or no
-- memory was left. The other ends come without a whole request
abbrev pub EndsBy : (Option Hop → Type 0) → Type 0 → CallEnd → Type 0
EndsBy Said Dry (end.Result body) = Said (Some (hop.Result body))
EndsBy Said Dry (end.User id) = Said (Some (hop.User id))
EndsBy Said Dry (end.System id minor done) = Said (Some (hop.System id minor done))
EndsBy Said Dry end.BadReply = Said (Some hop.BadReply)
EndsBy Said Dry end.Closed = Said (Some hop.Closed) ⊎ (Said None × Dry)
EndsBy Said Dry (end.NoAnswer quiets) = Said None × (quiets ≡ MOST_QUIETS)
EndsBy Said Dry end.ReadFault = Said None
EndsBy Said Dry end.WantMemory = ⊤
EndsBy Said Dry end.WriteFault = ⊥
EndsBy Said Dry end.ConnectFault = ⊥
EndsBy Said Dry end.NoProfile = ⊥
EndsBy Said Dry (end.TooManyHops hops) = ⊥

-- the same of a step: a call goes on by a forward alone
abbrev pub Brings : (Option Hop → Type 0) → Type 0 → Step → Type 0
Brings Said Dry (On reference) = Said (Some (hop.Forward reference))
Brings Said Dry (End ended) = EndsBy Said Dry ended

-- the step that follows from what a server says
abbrev pub step_of : Hop → Step
step_of (hop.Forward reference) = On reference
step_of (hop.Result body) = End (end.Result body)
step_of (hop.User id) = End (end.User id)
step_of (hop.System id minor done) = End (end.System id minor done)
step_of hop.Closed = End end.Closed
step_of hop.BadReply = End end.BadReply

-- a fault of a link was counted by it
abbrev pub SuffersEnd : CallEnd → Shown → Type 0
SuffersEnd end.ReadFault link = 0 < link.read_faults
SuffersEnd end.WriteFault link = 0 < link.write_faults
SuffersEnd (end.NoAnswer quiets) link = 0 < link.quiets
SuffersEnd end.ConnectFault link = ⊥
SuffersEnd other link = ⊤

abbrev pub Suffers : Step → Shown → Type 0
Suffers (On reference) link = ⊤
Suffers (End ended) link = SuffersEnd ended link

-- a fault was counted by the connector
abbrev pub BlamesStep : Step → Tally → Tally → Type 0
BlamesStep (On reference) old new = ⊤
BlamesStep (End ended) old new = Blames ended old new

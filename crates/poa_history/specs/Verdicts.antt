-- The verdict on an arrival: of the table for a request or a locate, of its row for a command.
use Rattle.std.specs.Prelude.{ℕ, List, Option, Some, None}
use Rattle.poa_base.specs.declared.Config.{Config}
use Rattle.poa_base.specs.declared.Call.{Call}
use Rattle.poa_base.specs.declared.Call.TheVariants.{Line}
use Rattle.poa_base.specs.declared.Entry.{Entry}
use Rattle.poa_base.specs.declared.Verdict.{Verdict}
use Rattle.poa_choose.specs.declared.Choice.{Choice}
use Rattle.poa_choose.specs.declared.Choice.TheVariants.{Go, Held}
use Rattle.poa_choose.specs.Table.{first_row}
use Rattle.history_standing.specs.Arrivals.{call_of}
use Rattle.history_standing.specs.Commands.{command_verdict}
use Rattle.history_standing.specs.Changes.{standing}
use Rattle.history_standing.specs.Situations.{facts_of}

abbrev pub chosen : Choice → Option Verdict
chosen (Go verdict) = Some verdict
chosen (Held cause) = None

abbrev pub verdict_on : Config → ℕ → List Entry → ℕ → ℕ → Option Call → Option Verdict
verdict_on c run past r w (Some (Line number command)) = command_verdict c run past (standing c run past) command
verdict_on c run past r w (Some call) = chosen (first_row (facts_of c run past r) w)
verdict_on c run past r w None = None

-- the verdict on an arrival for a worker; none where it is held
unfoldable pub verdict : Config → ℕ → List Entry → ℕ → ℕ → Option Verdict
verdict c run past r w = verdict_on c run past r w (call_of past r)

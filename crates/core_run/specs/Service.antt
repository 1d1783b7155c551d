-- A request that is served: it is admitted, runs, and ends.
use Rattle.std.specs.Prelude.{Bool, true, false, Option, Some, None}
use Rattle.poa_base.specs.declared.Entry.{Entry}
use Rattle.poa_base.specs.declared.Entry.TheVariants.{Admit, Run, Done}
use Rattle.poa_base.specs.declared.Outcome.{Outcome}
use Rattle.poa_base.specs.declared.Reply.TheVariants.{Outcome as Ended}
use Rattle.poa_base.specs.declared.Verdict.TheVariants.{Serve, Preset, Locator}
use Rattle.history_standing.specs.declared.stage.Stage.{Stage}
use Rattle.history_standing.specs.declared.stage.Stage.TheVariants.{Serving}
use Rattle.held_queue.specs.declared.freed.Freed.{Freed}
use Rattle.held_queue.specs.Frees as frees
use Rattle.core_outboxes.specs.declared.decision.Decision.{Decision}
use Rattle.core_run.specs.declared.brought.Brought.{Brought}

-- with the entry a request that is served runs, or ends
abbrev pub is_service : Entry → Bool
is_service (Run w) = true
is_service (Done w) = true
is_service e = false

-- what a servant that ran decides
abbrev pub decided_by : Stage → Option Outcome → Option Decision
decided_by (Serving r) (Some outcome) = Some (record { arrival = r; reply = Ended outcome })
decided_by begun outcome = None

-- what such an entry brings, with which no command comes
abbrev pub brings : Option Decision → Freed → Brought
brings decision freed = record { decision = decision; wait = None; ordered = None; freed = freed }

-- with the entry a request is admitted to an activation, to a default servant, or to one that is located
abbrev pub begins : Entry → Bool
begins (Admit w r (Serve n)) = true
begins (Admit w r (Preset name)) = true
begins (Admit w r (Locator name)) = true
begins e = false

-- nothing is brought
abbrev pub nothing : Brought
nothing = brings None frees.nothing

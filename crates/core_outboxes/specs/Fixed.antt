-- Which arrival an entry decides, and which reply it fixes.
use Rattle.std.specs.Prelude.{ℕ, Bool, true, false, not, List, Option, Some, None, option_map}
use Rattle.poa_base.specs.declared.Attempt.TheVariants.{Yes}
use Rattle.poa_base.specs.declared.Call.{Call}
use Rattle.poa_base.specs.declared.Config.{Config}
use Rattle.poa_base.specs.declared.Entry.{Entry}
use Rattle.poa_base.specs.declared.Entry.TheVariants.{Admit, Tried, Incarnated, Run}
use Rattle.poa_base.specs.declared.Outcome.{Outcome}
use Rattle.poa_base.specs.declared.Reply.{Reply}
use Rattle.poa_base.specs.declared.Reply.TheVariants.{Outcome as Ended}
use Rattle.poa_history.specs.Replies.{is_final, reply_admitted, reply_incarnated, reply_tried}
use Rattle.history_standing.specs.Stages.{arrival_in, brings}
use Rattle.history_standing.specs.declared.stage.Stage.{Stage}

-- the entry is the end of a call: but the arrivals of commands that wait, it may decide the one that it speaks of
abbrev pub may_decide : Entry → Bool
may_decide (Admit w r verdict) = is_final verdict
may_decide (Tried w (Yes n)) = false
may_decide (Tried w answer) = true
may_decide (Incarnated w answer) = not (brings answer)
may_decide (Run w) = true
may_decide e = false

-- memory may be wanted for its reply; for an outcome none is
abbrev pub may_want : Entry → Bool
may_want (Run w) = false
may_want e = may_decide e

-- the arrival that it decides, given what its worker had begun
abbrev pub target_in : Stage → Entry → Option ℕ
target_in begun (Admit w r verdict) = Some r
target_in begun e = arrival_in begun

-- the reply that it fixes
abbrev pub reply_in : Config → List Entry → Option Call → Option Outcome → Entry → Option Reply
reply_in c past call outcome (Admit w r verdict) = reply_admitted call verdict
reply_in c past call outcome (Tried w answer) = Some (reply_tried c past call answer)
reply_in c past call outcome (Incarnated w answer) = reply_incarnated call answer
reply_in c past call outcome (Run w) = option_map Ended outcome
reply_in c past call outcome e = None

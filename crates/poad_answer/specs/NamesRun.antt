-- What a run of `names` did, and how it ended.
use Rattle.std.specs.Prelude.{◌≡◌, ℕ, List, [], ◌++◌, Option}
use Rattle.outside.specs.Told.{IfTold}
use Rattle.session_laws.specs.Hearing.{Heard}
use Rattle.naming_context.specs.Standing.{Change}
use Rattle.poad_files.specs.Delivery.{Hands}
use Rattle.poad_files.specs.declared.status.Status.{Status}
use Rattle.poad_files.specs.declared.status.Status.TheVariants as status
use Rattle.poad_answer.specs.declared.end.End.{End}
use Rattle.poad_answer.specs.declared.end.End.TheVariants as end
use Rattle.poad_answer.specs.declared.names_end.NamesEnd.{NamesEnd}
use Rattle.poad_answer.specs.declared.names_end.NamesEnd.TheVariants.{Ended, Malformed, ReadFault, WriteFault, Truncated, WantMemory, InputLimit}
use Rattle.poad_answer.specs.declared.stop.Stop.{Stop}
use Rattle.poad_answer.specs.Calls.{Serves}
use Rattle.poad_answer.specs.NamesServing.{GivesNoted, RefusesNone}
use Rattle.poad_answer.specs.Source.{SourceEnds, is_written}
use Rattle.poad_answer.specs.Stop.{ClosesIn, StopsAt, last_words}

-- the end of the source in such a run
abbrev pub end_of : NamesEnd → End
end_of Ended = end.Read
end_of ReadFault = end.ReadFault
end_of WriteFault = end.WriteFault
end_of (Malformed at) = end.Malformed at
end_of (Truncated have) = end.Truncated have
end_of (InputLimit taken) = end.InputLimit taken
end_of WantMemory = end.WantMemory

-- `names` took bytes of the source, served the messages of their stream in order, up to one that it doesn't serve, each by
-- what those before it changed, and gave the sink their replies, and behind them MessageError where the next message is
-- bad, in the version of the first message
pub record RunNames (ending : NamesEnd) (left_old left_new held_old held_new : Option (List ℕ)) : Type 0 where
  pub got : List ℕ
  pub took : IfTold left_old left_new (λ old new. old ≡ got ++ new)
  pub calls : List Heard
  pub replies : List ℕ
  pub changes : List Change
  pub served : Serves GivesNoted [] calls replies changes
  pub why : Stop
  pub stops : StopsAt RefusesNone why got calls
  pub minor : ℕ
  pub closes : ClosesIn why got minor
  pub gave : IfTold held_old held_new (Hands (is_written (end_of ending)) (replies ++ last_words minor why))
  pub ends : SourceEnds (end_of ending) why got left_new

-- the status that a command gives of it
abbrev pub status_of : NamesEnd → Status
status_of Ended = status.Ok
status_of ReadFault = status.ReadFault
status_of WriteFault = status.WriteFault
status_of (Malformed at) = status.Malformed at
status_of (Truncated have) = status.Truncated have
status_of (InputLimit taken) = status.InputLimit taken
status_of WantMemory = status.WantMemory

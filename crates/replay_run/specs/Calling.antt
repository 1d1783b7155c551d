-- What comes of a call over a connection.
use Rattle.std.specs.Prelude.{ℕ, List, [], if◌then◌else◌}
use Rattle.poa_base.specs.declared.Call.{Call}
use Rattle.poa_base.specs.declared.Entry.TheVariants.{Arrive}
use Rattle.poa_history.specs.Life.{Life, with_entry}
use Rattle.poa_core.specs.Answers.{is_taken, filled_by}
use Rattle.replay_run.specs.Lines.{limit_line}

-- a call of this size comes: it arrives, or the run is full
abbrev pub after_call : ℕ → Call → ℕ → Life → Life
after_call conn call size life =
    if is_taken life.limit life.history size call then with_entry (Arrive conn size call) life else filled_by conn size life

-- a call that doesn't arrive is told
abbrev pub call_text : List ℕ → Call → ℕ → Life → List ℕ
call_text name call size life = if is_taken life.limit life.history size call then [] else limit_line name

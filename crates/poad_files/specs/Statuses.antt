-- The number with which the program ends.
use Rattle.std.specs.Prelude.{ℕ}
use Rattle.poad_files.specs.declared.status.Status.{Status}
use Rattle.poad_files.specs.declared.status.Status.TheVariants.{Ok, BadWords, ConfigRefused, ScriptRefused, TextRefused, ReadFault, WriteFault, FileFault, Malformed, Truncated, Held, Limit, ListenFault, NoThread, WantMemory, NoFile, FileTooLong, StateRefused, InputLimit, NoProfile, TooManyHops, ConnectFault, Closed, BadReply, NoAnswer, LocRefused, NoLoc, Illegal, NoMatch, JournalRefused}

-- no two have the same
abbrev pub status_number : Status → ℕ
status_number Ok = 0
status_number BadWords = 2
status_number (ConfigRefused fault) = 3
status_number (ScriptRefused line) = 4
status_number (TextRefused fault) = 5
status_number ReadFault = 6
status_number WriteFault = 7
status_number FileFault = 8
status_number (Malformed at) = 9
status_number (Truncated have) = 10
status_number (Held count) = 11
status_number (Limit arrivals bytes) = 12
status_number ListenFault = 13
status_number NoThread = 14
status_number WantMemory = 15
status_number NoFile = 16
status_number FileTooLong = 17
status_number (StateRefused line) = 18
status_number (InputLimit taken) = 19
status_number (Illegal entry line due) = 21
status_number (NoMatch conn) = 22
status_number (JournalRefused line) = 23
status_number NoProfile = 24
status_number (TooManyHops hops) = 25
status_number ConnectFault = 26
status_number Closed = 27
status_number BadReply = 28
status_number (NoAnswer quiets) = 29
status_number (LocRefused fault) = 30
status_number NoLoc = 31

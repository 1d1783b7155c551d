-- What is known of an alarm.
use Rattle.std.specs.Prelude.{Bool, is_none}
use Rattle.outside.specs.declared.alarm.Alarm.{Alarm}

-- nobody hears it
abbrev pub is_silent : Alarm → Bool
is_silent a = is_none a.waker

-- The call that the words of a command line ask for, with its argument read.
use Rattle.std.specs.Prelude.{ℕ, List, Option, Some, None, option_map, String}
use Rattle.std.specs.declared.alloc.Global.{Global}
use Rattle.poa_base.specs.declared.Datum.{Datum}
use Rattle.command_words.specs.Calling.{Call, call_in, seen_call}
use Rattle.command_words.specs.Settings.{◌>>=◌}
use Rattle.replay_script.specs.Reading.{datum_of}
use Rattle.poad_call.specs.declared.asked.Asked.{Asked as AskedAsRead}

pub record Asked : Type 0 where
  pub call : Call
  pub argument : Option Datum

-- the argument that a word is, or none without a word
abbrev pub argument_of : Option (List ℕ) → Option (Option Datum)
argument_of None = Some None
argument_of (Some word) = option_map Some (datum_of word)

abbrev pub asked_by : Call → Option Asked
asked_by call = option_map (λ argument. record { call = call; argument = argument }) (argument_of call.argument)

-- the call that the words ask for, if they ask for one
abbrev pub asked_in : List (String Global) → Option Asked
asked_in words = call_in words >>= asked_by

-- the same, as the program has it
abbrev pub seen_asked : AskedAsRead → Asked
seen_asked asked = record { call = seen_call asked.words; argument = asked.argument }

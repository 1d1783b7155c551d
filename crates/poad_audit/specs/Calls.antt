-- What is printed of what came as a call.
use Rattle.std.specs.Prelude.{ℕ, List, ◌++◌, codes, decimal, Option, Some, None}
use Rattle.poa_base.specs.declared.Call.{Call}
use Rattle.poa_base.specs.declared.Call.TheVariants.{Request, Locate, Line}
use Rattle.poa_base.specs.declared.Command.{Command}
use Rattle.poa_base.specs.declared.Key.{Key}
use Rattle.text_words.specs.Token.{spelled}
use Rattle.admin_line.specs.Command.{command_tokens}
use Rattle.history_standing.specs.Keys.{key_of}
use Rattle.poad_files.specs.KeyLine.{hexed_key, key_line}
use Rattle.poad_files.specs.Printed.{printed}

-- a key by its parts, and octets that spell none in hexadecimal
abbrev pub key_by : Option Key → List ℕ → List ℕ
key_by (Some key) octets = key_line key
key_by None octets = hexed_key octets

abbrev pub key_text : List ℕ → List ℕ
key_text octets = key_by (key_of octets) octets

abbrev pub target_text : Option (List ℕ) → List ℕ
target_text (Some octets) = key_text octets
target_text None = codes "its target gives no key\n"

abbrev pub request_text : List ℕ → Option (List ℕ) → List ℕ
request_text operation target = codes "asks " ++ (printed operation ++ (codes "\n" ++ target_text target))

abbrev pub locate_text : Option (List ℕ) → List ℕ
locate_text target = codes "asks where its object is\n" ++ target_text target

abbrev pub command_text : ℕ → Command → List ℕ
command_text number command = codes "line " ++ (decimal number ++ (codes ": " ++ (spelled (command_tokens command) ++ codes "\n")))

-- what a call asks, and of which object
abbrev pub call_text : Call → List ℕ
call_text (Request head target operation body) = request_text operation target
call_text (Locate head target) = locate_text target
call_text (Line number command) = command_text number command

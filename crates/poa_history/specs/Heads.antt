-- What the reply to a call needs of the message that it answers.
use Rattle.std.specs.Prelude.{false, Option, Some, None}
use Rattle.poa_base.specs.declared.Call.{Call}
use Rattle.poa_base.specs.declared.Call.TheVariants.{Request, Locate, Line}
use Rattle.poa_base.specs.declared.Head.{Head}

-- a line of an administrator has none
abbrev pub no_head : Head
no_head = record { id = 0; minor = 0; little = false; flags = 0; locate = false }

-- what the reply needs of the message that it answers
abbrev pub head_of : Option Call → Head
head_of (Some (Request head target operation body)) = head
head_of (Some (Locate head target)) = head
head_of (Some (Line number command)) = no_head
head_of None = no_head

-- The words of each command: `activate-id PATH OID SERVANT` and the like.
use Rattle.std.specs.Prelude.{◌^◌, List, [], ◌∷◌}
use Rattle.poa_base.specs.declared.Command.{Command}
use Rattle.poa_base.specs.declared.Command.TheVariants.{Manager, Create, Destroy, Activate, ActivateId, Deactivate, Reference, Preset, Forward, Unforward, Shutdown, Bad}
use Rattle.poa_base.specs.declared.Order.{Order}
use Rattle.poa_base.specs.declared.Order.TheVariants as order
use Rattle.text_words.specs.Token.{Token, keyword, number, named, path, identity}
use Rattle.text_words.specs.Parts.{endpoint_tokens}
use Rattle.admin_line.specs.Fixed.{verb_word, shift_word, pace_word, pace, end_word, ending}
use Rattle.admin_line.specs.declared.fixed.Verb.TheVariants as verb
use Rattle.admin_line.specs.declared.fixed.Shift.TheVariants as shift

-- `activate`, `hold now`, `discard wait`, `deactivate keep now` and the like
abbrev pub order_tokens : Order → List Token
order_tokens order.Activate = keyword (shift_word shift.Activate) ∷ []
order_tokens (order.Hold wait) = keyword (shift_word shift.Hold) ∷ keyword (pace_word (pace wait)) ∷ []
order_tokens (order.Discard wait) = keyword (shift_word shift.Discard) ∷ keyword (pace_word (pace wait)) ∷ []
order_tokens (order.Deactivate etherealize wait) =
    keyword (shift_word shift.Deactivate) ∷ keyword (end_word (ending etherealize)) ∷ keyword (pace_word (pace wait)) ∷ []

-- the words of a command; a line that was none is `bad K` in a journal, K its first wrong word
abbrev pub command_tokens : Command → List Token
command_tokens (Manager manager order) = keyword (verb_word verb.Manager) ∷ named manager ∷ order_tokens order
command_tokens (Create adapter) = keyword (verb_word verb.Create) ∷ path adapter ∷ []
command_tokens (Destroy adapter etherealize wait) =
    keyword (verb_word verb.Destroy) ∷ path adapter ∷ keyword (end_word (ending etherealize)) ∷ keyword (pace_word (pace wait)) ∷ []
command_tokens (Activate adapter servant) = keyword (verb_word verb.Activate) ∷ path adapter ∷ named servant ∷ []
command_tokens (ActivateId adapter id servant) = keyword (verb_word verb.ActivateId) ∷ path adapter ∷ identity id ∷ named servant ∷ []
command_tokens (Deactivate adapter id) = keyword (verb_word verb.Deactivate) ∷ path adapter ∷ identity id ∷ []
command_tokens (Reference adapter servant) = keyword (verb_word verb.Reference) ∷ path adapter ∷ named servant ∷ []
command_tokens (Preset adapter servant) = keyword (verb_word verb.Preset) ∷ path adapter ∷ named servant ∷ []
command_tokens (Forward adapter endpoint) = keyword (verb_word verb.Forward) ∷ path adapter ∷ endpoint_tokens endpoint
command_tokens (Unforward adapter) = keyword (verb_word verb.Unforward) ∷ path adapter ∷ []
command_tokens Shutdown = keyword (verb_word verb.Shutdown) ∷ []
command_tokens (Bad word) = keyword (verb_word verb.Bad) ∷ number (2 ^ 32) word ∷ []

-- a command, and not the place of a wrong word
abbrev pub IsCommand : Command → Type 0
IsCommand (Bad word) = ⊥
IsCommand command = Unit {0}

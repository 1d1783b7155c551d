-- The line of a command reads back.
use Rattle.std.proofs.Common.{◌≡◌, ℕ, ◌^◌, List, Bool, true, false, Some, Ok, refl, ap, ◌∙◌, arith}
use Rattle.poa_base.specs.declared.Command.{Command}
use Rattle.poa_base.specs.declared.Command.TheVariants.{Manager, Create, Destroy, Activate, ActivateId, Deactivate, Reference, Preset, Forward, Unforward, Shutdown, Bad}
use Rattle.poa_base.specs.declared.Order.TheVariants as order
use Rattle.text_words.specs.Token.{Fits, spell, identity, AllFit, texts, spelled}
use Rattle.text_words.proofs.ReadBack.{name_back, path_back, host_back, port_back, id_back, printed_id_back}
use Rattle.text_words.proofs.Numbers.{number_back}
use Rattle.text_words.proofs.Lines.{loose_spelled}
use Rattle.admin_line.specs.declared.reading.Source.{Source}
use Rattle.admin_line.specs.declared.reading.Source.TheVariants.{Link, Journal}
use Rattle.admin_line.specs.Fixed.{verb_word, shift_word, pace_word, pace, end_word, ending}
use Rattle.admin_line.specs.Command.{IsCommand, command_tokens}
use Rattle.admin_line.specs.Reading.{command_of, command_of_line, command_or_bad, spelled_id_of, pace_of, end_of}

pace_back : (wait : Bool) → pace_of (pace_word (pace wait)) ≡ Some (pace wait)
unfolding pace_word
pace_back true = refl
pace_back false = refl

end_back : (etherealize : Bool) → end_of (end_word (ending etherealize)) ≡ Some (ending etherealize)
unfolding end_word
end_back true = refl
end_back false = refl

spelled_id_back : (source : Source) (bytes : List ℕ) → Fits (identity bytes) → spelled_id_of source (spell (identity bytes)) ≡ Some bytes
spelled_id_back Link bytes h = id_back bytes h.0 h.1
spelled_id_back Journal bytes h = printed_id_back bytes h.0 h.1

-- the commands that a source has words for
abbrev pub HasWords : Source → Command → Type 0
HasWords Link c = IsCommand c
HasWords Journal c = Unit {0}

-- the words of a command give the command
pub command_back : (source : Source) (c : Command) → HasWords source c → AllFit (command_tokens c) → command_of source (texts (command_tokens c)) ≡ Ok c
unfolding verb_word shift_word pace_word end_word
command_back source (Manager m order.Activate) ok h = rw (name_back m h.1.0) refl
command_back source (Manager m (order.Hold true)) ok h = rw (name_back m h.1.0) refl
command_back source (Manager m (order.Hold false)) ok h = rw (name_back m h.1.0) refl
command_back source (Manager m (order.Discard true)) ok h = rw (name_back m h.1.0) refl
command_back source (Manager m (order.Discard false)) ok h = rw (name_back m h.1.0) refl
command_back source (Manager m (order.Deactivate true true)) ok h = rw (name_back m h.1.0) refl
command_back source (Manager m (order.Deactivate true false)) ok h = rw (name_back m h.1.0) refl
command_back source (Manager m (order.Deactivate false true)) ok h = rw (name_back m h.1.0) refl
command_back source (Manager m (order.Deactivate false false)) ok h = rw (name_back m h.1.0) refl
command_back source (Create a) ok h = rw (path_back a h.1.0.0 h.1.0.1) refl
command_back source (Destroy a true true) ok h = rw (path_back a h.1.0.0 h.1.0.1) refl
command_back source (Destroy a true false) ok h = rw (path_back a h.1.0.0 h.1.0.1) refl
command_back source (Destroy a false true) ok h = rw (path_back a h.1.0.0 h.1.0.1) refl
command_back source (Destroy a false false) ok h = rw (path_back a h.1.0.0 h.1.0.1) refl
command_back source (Activate a s) ok h = rw (path_back a h.1.0.0 h.1.0.1, name_back s h.1.1.0) refl
command_back source (ActivateId a i s) ok h = rw (path_back a h.1.0.0 h.1.0.1, spelled_id_back source i h.1.1.0, name_back s h.1.1.1.0) refl
command_back source (Deactivate a i) ok h = rw (path_back a h.1.0.0 h.1.0.1, spelled_id_back source i h.1.1.0) refl
command_back source (Reference a s) ok h = rw (path_back a h.1.0.0 h.1.0.1, name_back s h.1.1.0) refl
command_back source (Preset a s) ok h = rw (path_back a h.1.0.0 h.1.0.1, name_back s h.1.1.0) refl
command_back source (Forward a e) ok h = rw (path_back a h.1.0.0 h.1.0.1, host_back e.host h.1.1.0, port_back e.port h.1.1.1.0.0 h.1.1.1.0.1) refl
command_back source (Unforward a) ok h = rw (path_back a h.1.0.0 h.1.0.1) refl
command_back source Shutdown ok h = refl
command_back Link (Bad k) ok h = absurd ok
command_back Journal (Bad k) ok h = rw (number_back (2 ^ 32) k h.1.0.0 (omega arith)) refl

-- the line of a command gives the command
pub line_back : (c : Command) → IsCommand c → AllFit (command_tokens c) → command_of_line (spelled (command_tokens c)) ≡ c
line_back c ok h = ap (λ ws. command_or_bad (command_of Link ws)) (loose_spelled (command_tokens c) h) ∙ ap command_or_bad (command_back Link c ok h)

-- The header of a message: CORBA 3.3 Part 2, 9.4.1.
use Rattle.std.specs.Prelude.{ℕ, List, slice_index, ◌≡◌, ◌⊎◌}
use Rattle.giop_answer.specs.declared.kind.TheConstants.{REPLY, LOCATE_REPLY, MESSAGE_ERROR}

-- the type of a message
abbrev pub message_type : List ℕ → ℕ
message_type bytes = slice_index bytes 7

-- types that a client gets, and a server doesn't
abbrev pub IsForClient : ℕ → Type 0
IsForClient kind = (kind ≡ REPLY) ⊎ (kind ≡ LOCATE_REPLY) ⊎ (kind ≡ MESSAGE_ERROR)

-- A LocateRequest: CORBA 3.3 Part 2, 9.4.5. What stands behind its target is ignored.
use Rattle.std.specs.Prelude.{◌≡◌, ◌≤◌, ℕ, Bool, true, List, Option}
use Rattle.cdr_core.specs.Field.{ulong}
use Rattle.cdr_core.specs.Cursor.{Cursor, Reads}
use Rattle.poa_base.specs.declared.Head.{Head}
use Rattle.giop_frame.specs.Part.{is_little, minor_of}
use Rattle.giop_answer.specs.declared.kind.TheConstants.{MINOR}
use Rattle.giop_msg.specs.Fields.{fields_start}
use Rattle.giop_msg.specs.Target.{IsAddressed}

-- what a reply needs of a locate, which has no response flags
abbrev pub locate_head : ℕ → ℕ → Bool → Head
locate_head minor id little = record { id = id; minor = minor; little = little; flags = 0; locate = true }

-- the fields of a LocateRequest are spelled in the message, and this is what they say
pub record IsLocate (bytes : List ℕ) (head : Head) (target : Option (List ℕ)) : Type 0 where
  pub behind_id : Cursor
  pub behind : Cursor
  pub known : minor_of bytes ≤ MINOR
  pub id : Reads (ulong head.id) (fields_start bytes) behind_id
  pub addressed : IsAddressed (minor_of bytes) target behind_id behind
  pub is_head : head ≡ locate_head (minor_of bytes) head.id (is_little bytes)

-- A Request: CORBA 3.3 Part 2, 9.4.2.
use Rattle.std.specs.Prelude.{◌≡◌, ℕ, ◌+◌, ◌≤◌, Bool, false, if◌then◌else◌, List, [], ◌∷◌, Option, length, drop, min}
use Rattle.cdr_core.specs.Field.{Field, ulong, text, octets}
use Rattle.cdr_core.specs.Spelling.{gap}
use Rattle.cdr_core.specs.Cursor.{Cursor}
use Rattle.poa_base.specs.declared.Head.{Head}
use Rattle.poa_base.specs.declared.Body.{Body}
use Rattle.giop_frame.specs.Part.{is_little, minor_of}
use Rattle.giop_answer.specs.declared.kind.TheConstants.{MINOR}
use Rattle.giop_msg.specs.Version.{ByVersion, is_newest}
use Rattle.giop_msg.specs.Fields.{ReadsAll, fields_start}
use Rattle.giop_msg.specs.Contexts.{Context, context_fields}
use Rattle.giop_msg.specs.Opening.{IsOpening}
use Rattle.giop_msg.specs.Target.{IsAddressed}

-- the fields behind the target in version 1.2: the operation, and the contexts with their count
abbrev pub closing_fields : List ℕ → List Context → List Field
closing_fields operation contexts = text operation ∷ ulong (length contexts) ∷ context_fields contexts

-- any contexts will do
pub record IsNewestClosing (operation : List ℕ) (before after : Cursor) : Type 0 where
  pub contexts : List Context
  pub read : ReadsAll (closing_fields operation contexts) before after

-- in the versions before it: the operation, and the principal, which is ignored
abbrev pub principal_fields : List ℕ → List ℕ → List Field
principal_fields operation principal = text operation ∷ octets principal ∷ []

pub record IsEarlierClosing (operation : List ℕ) (before after : Cursor) : Type 0 where
  pub principal : List ℕ
  pub read : ReadsAll (principal_fields operation principal) before after

-- by the version
abbrev pub IsClosing : ℕ → List ℕ → Cursor → Cursor → Type 0
IsClosing minor operation before after =
    ByVersion (is_newest minor) (IsNewestClosing operation before after) (IsEarlierClosing operation before after)

-- the body begins at a multiple of 8 in version 1.2, and at any place in the versions before it
abbrev pub body_unit : ℕ → ℕ
body_unit minor = if is_newest minor then 8 else 1

-- what stands behind these fields at this cursor is the body: it begins at the next multiple of its unit, and where the
-- message ends before that, it is empty and has the message's end as its place
abbrev pub body_from : ℕ → Cursor → Body
body_from unit c = record {
  bytes = drop (gap unit c.place) c.rest;
  little = c.little;
  base = c.place + min (gap unit c.place) (length c.rest);
}

abbrev pub body_at : ℕ → Cursor → Body
body_at minor c = body_from (body_unit minor) c

-- what a reply needs of a request
abbrev pub request_head : ℕ → ℕ → ℕ → Bool → Head
request_head minor id flags little = record { id = id; minor = minor; little = little; flags = flags; locate = false }

-- the fields of a Request are spelled in the message, and this is what they say
pub record IsRequest (bytes : List ℕ) (head : Head) (target : Option (List ℕ)) (operation : List ℕ) (body : Body) : Type 0 where
  pub behind_opening : Cursor
  pub behind_target : Cursor
  pub behind : Cursor
  pub known : minor_of bytes ≤ MINOR
  pub opening : IsOpening (minor_of bytes) head.id head.flags (fields_start bytes) behind_opening
  pub addressed : IsAddressed (minor_of bytes) target behind_opening behind_target
  pub closing : IsClosing (minor_of bytes) operation behind_target behind
  pub is_head : head ≡ request_head (minor_of bytes) head.id head.flags (is_little bytes)
  pub is_body : body ≡ body_at (minor_of bytes) behind

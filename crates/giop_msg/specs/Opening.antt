-- The fields of a Request in front of its target: CORBA 3.3 Part 2, 9.4.2.
use Rattle.std.specs.Prelude.{◌≡◌, ◌⊎◌, ℕ, zero, suc, List, [], ◌∷◌}
use Rattle.cdr_core.specs.Field.{Field, octet, ulong}
use Rattle.cdr_core.specs.Cursor.{Cursor}
use Rattle.giop_msg.specs.declared.opening.TheConstants.{REPLY_ASKED}
use Rattle.giop_msg.specs.Version.{ByVersion, is_newest}
use Rattle.giop_msg.specs.Fields.{ReadsAll}
use Rattle.giop_msg.specs.Contexts.{IsContexts}

-- in version 1.2: the id, the response flags, and three octets that are reserved
abbrev pub opening_fields : ℕ → ℕ → ℕ → ℕ → ℕ → List Field
opening_fields id flags a b c = ulong id ∷ octet flags ∷ octet a ∷ octet b ∷ octet c ∷ []

pub record IsNewestOpening (id flags : ℕ) (before after : Cursor) : Type 0 where
  pub a : ℕ
  pub b : ℕ
  pub c : ℕ
  pub read : ReadsAll (opening_fields id flags a b c) before after

-- the response flags that stand for the octet of the versions before it, which says whether a reply is asked: a boolean
abbrev pub HasFlags : ℕ → ℕ → Type 0
HasFlags asked flags = ((asked ≡ 0) × (flags ≡ 0)) ⊎ ((asked ≡ 1) × (flags ≡ REPLY_ASKED))

-- the id and that octet
abbrev pub asked_fields : ℕ → ℕ → List Field
asked_fields id asked = ulong id ∷ octet asked ∷ []

pub record IsAsked (id flags : ℕ) (before after : Cursor) : Type 0 where
  pub asked : ℕ
  pub read : ReadsAll (asked_fields id asked) before after
  pub has_flags : HasFlags asked flags

abbrev pub reserved_fields : ℕ → ℕ → ℕ → List Field
reserved_fields a b c = octet a ∷ octet b ∷ octet c ∷ []

-- the octets that are reserved behind it: none in version 1.0, three in 1.1
abbrev pub IsReserved : ℕ → Cursor → Cursor → Type 0
IsReserved zero before after = after ≡ before
IsReserved (suc minor) before after = (a b c : ℕ) × ReadsAll (reserved_fields a b c) before after

-- in these versions: the service contexts, the id, whether a reply is asked, and what is reserved
pub record IsEarlierOpening (minor id flags : ℕ) (before after : Cursor) : Type 0 where
  pub behind_contexts : Cursor
  pub behind_asked : Cursor
  pub contexts : IsContexts before behind_contexts
  pub asked : IsAsked id flags behind_contexts behind_asked
  pub reserved : IsReserved minor behind_asked after

-- by the version
abbrev pub IsOpening : ℕ → ℕ → ℕ → Cursor → Cursor → Type 0
IsOpening minor id flags before after =
    ByVersion (is_newest minor) (IsNewestOpening id flags before after) (IsEarlierOpening minor id flags before after)

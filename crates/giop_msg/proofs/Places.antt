-- What is left of a message behind the fields that were read.
use Rattle.std.proofs.Common.{◌≡◌, ℕ, zero, suc, ◌≤◌, true, false, List, [], ◌∷◌, Option, length, drop, refl, sym, ap, ◌∙◌, subst}
use Rattle.cdr_core.specs.Field.{Field, ushort, ulong, text, octets}
use Rattle.cdr_core.specs.Cursor.{Cursor, Reads}
use Rattle.cdr_core.proofs.OneReading.{same_cursor}
use Rattle.cdr_core.specs.Part.{StandsIn}
use Rattle.cdr_core.proofs.Slices.{stands_behind}
use Rattle.poa_base.specs.declared.Profile.{Profile}
use Rattle.giop_frame.specs.Part.{is_little}
use Rattle.ior_text.specs.Tagged.{ReadsProfile, ReadsProfiles}
use Rattle.giop_answer.specs.declared.kind.TheConstants.{HEADER}
use Rattle.giop_msg.specs.Fields.{ReadsAll, fields_start}
use Rattle.giop_msg.specs.Version.{is_newest, ByVersion}
use Rattle.giop_msg.specs.Contexts.{counted_contexts}
use Rattle.giop_msg.specs.Opening.{opening_fields, asked_fields, reserved_fields, IsReserved, IsNewestOpening, IsEarlierOpening, IsOpening}
use Rattle.giop_msg.specs.Request.{closing_fields, principal_fields, IsNewestClosing, IsEarlierClosing, IsClosing}
use Rattle.giop_msg.specs.Target.{Target, by_key, by_profile, by_reference, ReadsAddress, IsTarget, IsKey, IsAddressed}

-- the cursor stands in the message, in its byte order
pub record IsWithin (bytes : List ℕ) (c : Cursor) : Type 0 where
  pub order : c.little ≡ is_little bytes
  pub stands : StandsIn bytes c

pub start_within : (bytes : List ℕ) → HEADER ≤ length bytes → IsWithin bytes (fields_start bytes)
start_within bytes whole = record { order = refl; stands = record { place = whole; rest = refl } }

pub field_within : (bytes : List ℕ) (f : Field) (a b : Cursor) → IsWithin bytes a → Reads f a b → IsWithin bytes b
field_within bytes f a b within read = record {
  order = read.passed.order ∙ within.order;
  stands = stands_behind bytes f a b within.stands read;
}

pub fields_within : (bytes : List ℕ) (fs : List Field) (a b : Cursor) → IsWithin bytes a → ReadsAll fs a b → IsWithin bytes b
fields_within bytes [] a b within read = subst (IsWithin bytes) (sym read) within
fields_within bytes (f ∷ fs) a b within read =
    fields_within bytes fs read.0 b (field_within bytes f a read.0 within read.1.0) read.1.1

pub profile_within : (bytes : List ℕ) (p : Profile) (a b : Cursor) → IsWithin bytes a → ReadsProfile p a b → IsWithin bytes b
profile_within bytes p a b within read =
    field_within bytes (octets p.bytes) read.tagged b (field_within bytes (ulong p.tag) a read.tagged within read.tag) read.bytes

pub profiles_within : (bytes : List ℕ) (ps : List Profile) (a b : Cursor) → IsWithin bytes a → ReadsProfiles ps a b → IsWithin bytes b
profiles_within bytes [] a b within read = subst (IsWithin bytes) (sym read) within
profiles_within bytes (p ∷ ps) a b within read =
    profiles_within bytes ps read.0 b (profile_within bytes p a read.0 within read.1) read.2

address_within : (bytes : List ℕ) (object : Target) (a b : Cursor) → IsWithin bytes a → ReadsAddress object a b → IsWithin bytes b
address_within bytes (by_key key) a b within read = field_within bytes (octets key) a b within read
address_within bytes (by_profile profile) a b within read = profile_within bytes profile a b within read
address_within bytes (by_reference index ior) a b within read =
    profiles_within bytes ior.profiles read.1.1.counted b
    (field_within bytes (ulong (length ior.profiles)) read.1.1.named read.1.1.counted
    (field_within bytes (text ior.type_id) read.0 read.1.1.named
    (field_within bytes (ulong index) a read.0 within read.1.0) read.1.1.type_id) read.1.1.count) read.1.1.profiles

pub target_within : (bytes : List ℕ) (t : Option (List ℕ)) (a b : Cursor) → IsWithin bytes a → IsTarget t a b → IsWithin bytes b
target_within bytes t a b within is =
    address_within bytes is.address.object is.behind b (field_within bytes (ushort is.disposition) a is.behind within is.told) is.address.read

-- by the version: the target, and the fields in front of it and behind it
pub addressed_within : (bytes : List ℕ) (minor : ℕ) (t : Option (List ℕ)) (a b : Cursor) → IsWithin bytes a → IsAddressed minor t a b → IsWithin bytes b
addressed_within bytes minor t a b within =
    elim (is_newest minor) as (λ v. ByVersion v (IsTarget t a b) (IsKey t a b) → IsWithin bytes b) [
      | true ↦ target_within bytes t a b within
      | false ↦ (λ is. field_within bytes (octets is.key) a b within is.read)
    ]

reserved_within : (bytes : List ℕ) (minor : ℕ) (a b : Cursor) → IsWithin bytes a → IsReserved minor a b → IsWithin bytes b
reserved_within bytes zero a b within is = subst (IsWithin bytes) (sym is) within
reserved_within bytes (suc minor) a b within is = fields_within bytes (reserved_fields is.0 is.1 is.2) a b within is.3

earlier_within : (bytes : List ℕ) (minor i f : ℕ) (a b : Cursor) → IsWithin bytes a → IsEarlierOpening minor i f a b → IsWithin bytes b
earlier_within bytes minor i f a b within is =
    let contexts = fields_within bytes (counted_contexts is.contexts.contexts) a is.behind_contexts within is.contexts.read in
    let asked = fields_within bytes (asked_fields i is.asked.asked) is.behind_contexts is.behind_asked contexts is.asked.read in
    reserved_within bytes minor is.behind_asked b asked is.reserved

pub opening_within : (bytes : List ℕ) (minor i f : ℕ) (a b : Cursor) → IsWithin bytes a → IsOpening minor i f a b → IsWithin bytes b
opening_within bytes minor i f a b within =
    elim (is_newest minor) as (λ v. ByVersion v (IsNewestOpening i f a b) (IsEarlierOpening minor i f a b) → IsWithin bytes b) [
      | true ↦ (λ is. fields_within bytes (opening_fields i f is.a is.b is.c) a b within is.read)
      | false ↦ earlier_within bytes minor i f a b within
    ]

pub closing_within : (bytes : List ℕ) (minor : ℕ) (o : List ℕ) (a b : Cursor) → IsWithin bytes a → IsClosing minor o a b → IsWithin bytes b
closing_within bytes minor o a b within =
    elim (is_newest minor) as (λ v. ByVersion v (IsNewestClosing o a b) (IsEarlierClosing o a b) → IsWithin bytes b) [
      | true ↦ (λ is. fields_within bytes (closing_fields o is.contexts) a b within is.read)
      | false ↦ (λ is. fields_within bytes (principal_fields o is.principal) a b within is.read)
    ]

-- a cursor of the message is told by its place
pub by_place :
    (bytes : List ℕ) (c : Cursor) (place : ℕ) → IsWithin bytes c → place ≡ c.place →
    record { little = is_little bytes; place = place; rest = drop place bytes } ≡ c
by_place bytes c place within same =
    same_cursor (record { little = is_little bytes; place = place; rest = drop place bytes }) c (sym within.order) same
    (ap (λ (n : ℕ). drop n bytes) same ∙ sym within.stands.rest)

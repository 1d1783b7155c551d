-- Where the parts of a call lie: each is the slice of the message at the place that the spelling gives it.
use Rattle.std.specs.Prelude.{◌≡◌, ℕ, ◌+◌, Bool, true, false, List, Option, Some, IfSome, slice_get, take, ⊤}
use Rattle.cdr_core.specs.Field.{ulong}
use Rattle.cdr_core.specs.Cursor.{Cursor, Reads}
use Rattle.cdr_core.specs.Part.{IsSlice, counted_at}
use Rattle.poa_base.specs.declared.Ior.{Ior}
use Rattle.poa_base.specs.declared.Profile.{Profile}
use Rattle.poa_base.specs.declared.Body.{Body}
use Rattle.poa_base.specs.declared.Call.TheVariants as call
use Rattle.poa_base.specs.declared.Head.{Head}
use Rattle.ior_text.specs.Tagged.{ReadsProfile, ReadsProfiles}
use Rattle.ior_text.specs.ReferenceFields.{ReadsIor}
use Rattle.ior_text.specs.Seen.{KeyLies}
use Rattle.giop_msg.specs.declared.incoming.Incoming.{Incoming}
use Rattle.giop_msg.specs.declared.incoming.Incoming.TheVariants as incoming
use Rattle.giop_frame.specs.Part.{minor_of}
use Rattle.giop_msg.specs.Version.{ByVersion, is_newest}
use Rattle.giop_msg.specs.Target.{Target, by_key, by_profile, by_reference, IsKey, IsTarget, IsAddressed}
use Rattle.giop_msg.specs.Request.{IsRequest}
use Rattle.giop_msg.specs.Locate.{IsLocate}

-- in the data of the profile that stands at the cursor
pub record LiesInProfile (bytes key : List ℕ) (profile : Profile) (c : Cursor) : Type 0 where
  pub behind : Cursor
  pub read : ReadsProfile profile c behind
  pub inside : KeyLies profile key
  pub slice : IsSlice (counted_at read.tagged.place + counted_at inside.tells.has.encloses.read.behind_port.place) key bytes

-- in the profile at an index of the reference behind that index
pub record LiesInReference (bytes key : List ℕ) (index : ℕ) (ior : Ior) (c : Cursor) : Type 0 where
  pub behind : Cursor
  pub after : Cursor
  pub begins : Cursor
  pub profile : Profile
  pub told : Reads (ulong index) c behind
  pub read : ReadsIor ior behind after
  pub stands : slice_get ior.profiles index ≡ Some profile
  pub before : ReadsProfiles (take index ior.profiles) read.counted begins
  pub lies : LiesInProfile bytes key profile begins

-- the key that a target gives, whose address begins at the cursor
abbrev pub KeyLiesIn : List ℕ → Target → Cursor → List ℕ → Type 0
KeyLiesIn bytes (by_key k) c key = IsSlice (counted_at c.place) key bytes
KeyLiesIn bytes (by_profile profile) c key = LiesInProfile bytes key profile c
KeyLiesIn bytes (by_reference index ior) c key = LiesInReference bytes key index ior c

-- the key behind the disposition, where there is one
abbrev pub TargetLies : (bytes : List ℕ) (given : Option (List ℕ)) (before after : Cursor) → IsTarget given before after → Type 0
TargetLies bytes given before after is = IfSome given (KeyLiesIn bytes is.address.object is.behind)

-- by the version: in those before 1.2 the key is the target
abbrev pub LiesBy : (newest : Bool) (bytes : List ℕ) (given : Option (List ℕ)) (before after : Cursor)
    → ByVersion newest (IsTarget given before after) (IsKey given before after) → Type 0
LiesBy true bytes given before after is = TargetLies bytes given before after is
LiesBy false bytes given before after is = IsSlice (counted_at before.place) is.key bytes

abbrev pub AddressedLies : (bytes : List ℕ) (given : Option (List ℕ)) (before after : Cursor) → IsAddressed (minor_of bytes) given before after
    → Type 0
AddressedLies bytes given before after is = LiesBy (is_newest (minor_of bytes)) bytes given before after is

-- the operation lies behind its length, and the body at its base
pub record LendsRequest (bytes : List ℕ) (head : Head) (target : Option (List ℕ)) (operation : List ℕ) (body : Body) : Type 0 where
  pub is : IsRequest bytes head target operation body
  pub key : AddressedLies bytes target is.behind_opening is.behind_target is.addressed
  pub operation_lies : IsSlice (counted_at is.behind_target.place) operation bytes
  pub body_lies : IsSlice body.base body.bytes bytes

pub record LendsLocate (bytes : List ℕ) (head : Head) (target : Option (List ℕ)) : Type 0 where
  pub is : IsLocate bytes head target
  pub key : AddressedLies bytes target is.behind_id is.behind is.addressed

-- a call's parts; a cancel and a closing have none
abbrev pub LendsParts : List ℕ → Incoming → Type 0
LendsParts bytes (incoming.Call (call.Request head target operation body)) = LendsRequest bytes head target operation body
LendsParts bytes (incoming.Call (call.Locate head target)) = LendsLocate bytes head target
LendsParts bytes (incoming.Call (call.Line number command)) = ⊤
LendsParts bytes (incoming.Cancel id) = ⊤
LendsParts bytes incoming.Closing = ⊤

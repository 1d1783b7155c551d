-- The parts of a call lie in its message where its spelling puts them.
use Rattle.std.proofs.Common.{◌≡◌, ℕ, ◌+◌, ◌≤◌, ◌<◌, List, [], ◌∷◌, Option, Some, None, length, take, drop, min, zero, suc, true, false, refl, sym, ap, ◌∙◌, subst, arith, ◌⊎◌, inl, inr}
use Rattle.std.specs.Prelude.{IfSome, slice_get}
use Rattle.std.proofs.lemmas.List.{length-drop, drop-drop, take_all}
use Rattle.std.proofs.Math.ListN.{drop_of_length-le}
use Rattle.cdr_core.specs.Field.{ushort, ulong, text}
use Rattle.cdr_core.specs.Spelling.{gap}
use Rattle.cdr_core.specs.Cursor.{Cursor}
use Rattle.cdr_core.specs.Part.{IsSlice, StandsIn, counted_at}
use Rattle.cdr_core.proofs.Slices.{stands_behind, lies_in_message, slice_of_slice}
use Rattle.cdr_core.proofs.Lying.{octets_lie, text_lies}
use Rattle.poa_base.specs.declared.Ior.{Ior}
use Rattle.poa_base.specs.declared.Profile.{Profile}
use Rattle.poa_base.specs.declared.Body.{Body}
use Rattle.poa_base.specs.declared.Call.TheVariants.{Request, Locate, Line}
use Rattle.poa_base.specs.declared.Head.{Head}
use Rattle.ior_text.specs.Tagged.{ReadsProfile, ReadsProfiles}
use Rattle.ior_text.specs.Key.{TellsKey, HasKey}
use Rattle.ior_text.proofs.Lying.{key_lies}
use Rattle.giop_msg.specs.declared.incoming.Incoming.{Incoming}
use Rattle.giop_msg.specs.declared.incoming.Incoming.TheVariants as incoming
use Rattle.giop_answer.specs.declared.kind.TheConstants.{HEADER}
use Rattle.giop_msg.specs.Fields.{fields_start}
use Rattle.giop_msg.specs.Target.{Target, by_key, by_profile, by_reference, ReadsAddress, GivesKey, IsTarget, IsKey, IsAddressed}
use Rattle.giop_frame.specs.Part.{minor_of}
use Rattle.giop_msg.specs.Version.{is_newest, ByVersion}
use Rattle.giop_msg.specs.Request.{body_unit, IsNewestClosing, IsEarlierClosing, IsClosing, IsRequest}
use Rattle.giop_msg.specs.Locate.{IsLocate}
use Rattle.giop_msg.specs.Call.{Asks}
use Rattle.giop_msg.specs.Lent.{LiesInProfile, LiesInReference, KeyLiesIn, TargetLies, LiesBy, AddressedLies, LendsRequest, LendsLocate, LendsParts}
use Rattle.giop_msg.proofs.Places.{IsWithin, start_within, field_within, profiles_within, opening_within, addressed_within}
use Rattle.giop_msg.proofs.Requests.{within}

-- a profile that stands in the message
profile_lies :
    (bytes key : List ℕ) (p : Profile) (c after : Cursor) → StandsIn bytes c → ReadsProfile p c after →
    TellsKey p key → LiesInProfile bytes key p c
profile_lies bytes key p c after stands read tells =
    let stands_data = stands_behind bytes (ulong p.tag) c read.tagged stands read.tag in
    let place = counted_at read.tagged.place in
    let lies = lies_in_message bytes p.bytes place read.tagged stands_data (octets_lie p.bytes read.tagged after read.bytes) in
    let inside = key_lies p key tells in
    record {
      behind = after;
      read = read;
      inside = inside;
      slice = slice_of_slice bytes p.bytes key place (counted_at inside.tells.has.encloses.read.behind_port.place) lies
          inside.slice;
    }

-- the profile at an index stands behind the ones before it
profile_at :
    (ps : List Profile) (i : ℕ) (p : Profile) (c after : Cursor) → ReadsProfiles ps c after → slice_get ps i ≡ Some p →
    (begins : Cursor) × (ReadsProfiles (take i ps) c begins × ((behind : Cursor) × ReadsProfile p begins behind))
profile_at [] zero p c after read stands = absurd (cc)
profile_at [] (suc i) p c after read stands = absurd (cc)
profile_at (q ∷ ps) zero p c after read stands =
    let same : q ≡ p = cc in
    (c, (refl, (read.0, subst (λ (x : Profile). ReadsProfile x c read.0) same read.1)))
profile_at (q ∷ ps) (suc i) p c after read stands =
    let later = profile_at ps i p read.0 after read.2 stands in
    (later.0, ((read.0, read.1, later.1.0), later.1.1))

reference_lies :
    (bytes key : List ℕ) (n : ℕ) (ior : Ior) (c after : Cursor) → IsWithin bytes c →
    ReadsAddress (by_reference n ior) c after → HasKey ior n key → LiesInReference bytes key n ior c
reference_lies bytes key n ior c after within read has =
    let ior_read = read.1.1 in
    let at = profile_at ior.profiles n has.profile ior_read.counted after ior_read.profiles has.stands in
    let within_index = field_within bytes (ulong n) c read.0 within read.1.0 in
    let within_name = field_within bytes (text ior.type_id) read.0 ior_read.named within_index ior_read.type_id in
    let within_count = field_within bytes (ulong (length ior.profiles)) ior_read.named ior_read.counted within_name ior_read.count in
    let within_profile = profiles_within bytes (take n ior.profiles) ior_read.counted at.0 within_count at.1.0 in
    record {
      behind = read.0;
      after = after;
      begins = at.0;
      profile = has.profile;
      told = read.1.0;
      read = ior_read;
      stands = has.stands;
      before = at.1.0;
      lies = profile_lies bytes key has.profile at.0 at.1.1.0 within_profile.stands at.1.1.1 has.tells;
    }

-- the key that an address gives
key_lies_in :
    (bytes : List ℕ) (object : Target) (given : Option (List ℕ)) (a b : Cursor) → IsWithin bytes a →
    ReadsAddress object a b → GivesKey object given → IfSome given (KeyLiesIn bytes object a)
key_lies_in bytes object None a b within read gives = tt
key_lies_in bytes (by_key k) (Some key) a b within read gives =
    let same : k ≡ key = cc in
    subst (λ (x : List ℕ). IsSlice (counted_at a.place) x bytes) same
    (lies_in_message bytes k (counted_at a.place) a within.stands (octets_lie k a b read))
key_lies_in bytes (by_profile p) (Some key) a b within read gives = profile_lies bytes key p a b within.stands read gives
key_lies_in bytes (by_reference n ior) (Some key) a b within read gives = reference_lies bytes key n ior a b within read gives

target_lies : (bytes : List ℕ) (t : Option (List ℕ)) (a b : Cursor) → IsWithin bytes a → (is : IsTarget t a b) → TargetLies bytes t a b is
target_lies bytes t a b within is =
    let within_address = field_within bytes (ushort is.disposition) a is.behind within is.told in
    key_lies_in bytes is.address.object t is.behind b within_address is.address.read is.address.gives

-- by the version
addressed_lies :
    (bytes : List ℕ) (t : Option (List ℕ)) (a b : Cursor) → IsWithin bytes a → (is : IsAddressed (minor_of bytes) t a b) → AddressedLies bytes t a b is
addressed_lies bytes t a b within =
    elim (is_newest (minor_of bytes)) as (λ v. (is : ByVersion v (IsTarget t a b) (IsKey t a b)) → LiesBy v bytes t a b is) [
      | true ↦ target_lies bytes t a b within
      | false ↦ (λ is. lies_in_message bytes is.key (counted_at a.place) a within.stands (octets_lie is.key a b is.read))
    ]

-- the operation comes first of what stands behind the target
name_lies : (bytes : List ℕ) (minor : ℕ) (o : List ℕ) (a b : Cursor) → IsWithin bytes a → IsClosing minor o a b → IsSlice (counted_at a.place) o bytes
name_lies bytes minor o a b within =
    elim (is_newest minor) as (λ v. ByVersion v (IsNewestClosing o a b) (IsEarlierClosing o a b) → IsSlice (counted_at a.place) o bytes) [
      | true ↦ (λ is. lies_in_message bytes o (counted_at a.place) a within.stands (text_lies o a is.read.0 is.read.1.0))
      | false ↦ (λ is. lies_in_message bytes o (counted_at a.place) a within.stands (text_lies o a is.read.0 is.read.1.0))
    ]

-- of two numbers one is no more than the other
at_most : (a b : ℕ) → (a ≤ b) ⊎ (b < a)
at_most zero b = inl (omega arith)
at_most (suc a) zero = inr (omega arith)
at_most (suc a) (suc b) = by (at_most a b)
  where
    by : (a ≤ b) ⊎ (b < a) → (suc a ≤ suc b) ⊎ (suc b < suc a)
    by (inl h) = inl (omega arith)
    by (inr h) = inr (omega arith)

-- what is left of a message
tail_lies : (bytes : List ℕ) (n : ℕ) → n ≤ length bytes → IsSlice n (drop n bytes) bytes
tail_lies bytes n whole = record {
  ends = omega (arith, length-drop n bytes, whole);
  slice = sym (take_all (length (drop n bytes)) (drop n bytes) (omega arith));
}

body_lies :
    (bytes rest : List ℕ) (place gap : ℕ) → place ≤ length bytes → rest ≡ drop place bytes →
    (gap ≤ length rest) ⊎ (length rest < gap) → IsSlice (place + min gap (length rest)) (drop gap rest) bytes
body_lies bytes rest place gap whole is (inl enough) =
    let base : place + min gap (length rest) ≡ place + gap = omega (arith, enough) in
    let tail : drop (place + gap) bytes ≡ drop gap rest = sym (ap (λ (l : List ℕ). drop gap l) is ∙ drop-drop gap place bytes) in
    subst (λ (n : ℕ). IsSlice n (drop gap rest) bytes) (sym base)
    (subst (λ (l : List ℕ). IsSlice (place + gap) l bytes) tail
    (tail_lies bytes (place + gap) (omega (arith, enough, whole, ap (λ (l : List ℕ). length l) is, length-drop place bytes))))
body_lies bytes rest place gap whole is (inr fewer) =
    let base : place + min gap (length rest) ≡ length bytes =
    omega (arith, fewer, whole, ap (λ (l : List ℕ). length l) is, length-drop place bytes) in
    let tail : drop (length bytes) bytes ≡ drop gap rest =
    drop_of_length-le bytes (omega arith) ∙ sym (drop_of_length-le rest (omega (arith, fewer))) in
    subst (λ (n : ℕ). IsSlice n (drop gap rest) bytes) (sym base)
    (subst (λ (l : List ℕ). IsSlice (length bytes) l bytes) tail (tail_lies bytes (length bytes) (omega arith)))

-- a call's parts
request_lends :
    (bytes : List ℕ) (h : Head) (t : Option (List ℕ)) (o : List ℕ) (body : Body) → HEADER ≤ length bytes →
    IsRequest bytes h t o body → LendsRequest bytes h t o body
request_lends bytes h t o body whole is =
    let minor = minor_of bytes in
    let within_opening = opening_within bytes minor h.id h.flags (fields_start bytes) is.behind_opening (start_within bytes whole) is.opening in
    let within_target = addressed_within bytes minor t is.behind_opening is.behind_target within_opening is.addressed in
    let end = is.behind in
    let unit = body_unit minor in
    let within_end = within bytes h.id h.flags t o is.behind_opening is.behind_target end whole is.opening is.addressed is.closing in
    record {
      is = is;
      key = addressed_lies bytes t is.behind_opening is.behind_target within_opening is.addressed;
      operation_lies = name_lies bytes minor o is.behind_target end within_target is.closing;
      body_lies = subst (λ (x : Body). IsSlice x.base x.bytes bytes) (sym is.is_body)
          (body_lies bytes end.rest end.place (gap unit end.place) within_end.stands.place within_end.stands.rest
          (at_most (gap unit end.place) (length end.rest)));
    }

locate_lends : (bytes : List ℕ) (h : Head) (t : Option (List ℕ)) → HEADER ≤ length bytes → IsLocate bytes h t → LendsLocate bytes h t
locate_lends bytes h t whole is =
    let within_id = field_within bytes (ulong h.id) (fields_start bytes) is.behind_id (start_within bytes whole) is.id in
    record { is = is; key = addressed_lies bytes t is.behind_id is.behind within_id is.addressed }

pub lends_parts : (bytes : List ℕ) (asked : Incoming) → HEADER ≤ length bytes → Asks bytes asked → LendsParts bytes asked
lends_parts bytes (incoming.Call (Request h t o body)) whole asks = request_lends bytes h t o body whole asks.1
lends_parts bytes (incoming.Call (Locate h t)) whole asks = locate_lends bytes h t whole asks.1
lends_parts bytes (incoming.Call (Line number command)) whole asks = tt
lends_parts bytes (incoming.Cancel id) whole asks = tt
lends_parts bytes incoming.Closing whole asks = tt

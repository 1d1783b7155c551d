-- Profiles that are written anew, or stay.
use Rattle.std.proofs.Common.{◌≡◌, ℕ, ◌+◌, ◌≤◌, ◌<◌, Bool, true, false, List, [], ◌∷◌, ◌++◌, length, take, get_or, Option, Some, None, Result, Ok, Err, refl, sym, ◌∙◌, ap, subst, inl, inr}
use Rattle.std.specs.Prelude.{IfOk, OnOk, MatchOption, MatchBool, ⊤}
use Rattle.std.proofs.lemmas.List.{take_more}
use Rattle.poa_base.specs.declared.Config.{Config}
use Rattle.poa_base.specs.declared.Key.{Key}
use Rattle.poa_base.specs.declared.Profile.{Profile}
use Rattle.object_key.specs.Spelling.{key_spelling, IsKey}
use Rattle.object_key.proofs.Keys.{one_key}
use Rattle.ior_text.specs.declared.ProfileBody.{ProfileBody}
use Rattle.ior_text.specs.declared.ProfileParts.{ProfileParts}
use Rattle.ior_text.specs.Components.{ReadsComponents}
use Rattle.ior_text.specs.Body.{has_components, HasBody}
use Rattle.ior_text.specs.Parts.{HasParts, AreParts, profile_with, with_key}
use Rattle.ior_text.proofs.Bodies.{body_in}
use Rattle.ior_text.proofs.OneBody.{one_body}
use Rattle.poad_files.specs.Migration.{new_tag, Moves, MovesTo, TagsTo, moved_parts, ProfileMigrated, AreMigrated}

-- one profile more
migrated_push : (c : Config) (ps qs : List Profile) (p q : Profile) → AreMigrated c ps qs → ProfileMigrated c p q
    → AreMigrated c (ps ++ p ∷ []) (qs ++ q ∷ [])
migrated_push c [] [] p q are one = (one, refl)
migrated_push c [] (x ∷ qs) p q are one = absurd (let e : x ∷ qs ≡ [] = are in cc)
migrated_push c (x ∷ ps) [] p q are one = absurd are
migrated_push c (x ∷ ps) (y ∷ qs) p q are one = (are.0, migrated_push c ps qs p q are.1 one)

pub migrated_more : (c : Config) (ps qs longer : List Profile) (i : ℕ) (p q : Profile) → i < length ps → p ≡ get_or ps i p
    → AreMigrated c (take i ps) qs → ProfileMigrated c p q → longer ≡ qs ++ q ∷ [] → AreMigrated c (take (i + 1) ps) longer
migrated_more c ps qs longer i p q below is are one pushed =
    let more = migrated_push c (take i ps) qs p q are one in
    subst (λ (l : List Profile). AreMigrated c l longer) (sym (take_more ps i p below ∙ ap (λ (x : Profile). take i ps ++ x ∷ []) (sym is)))
    (subst (λ (l : List Profile). AreMigrated c (take i ps ++ p ∷ []) l) (sym pushed) more)

-- a profile that isn't written anew stays
pub stays : {E : Type 0} (c : Config) (profile : Profile) (r : Result Profile E)
    → ((body : ProfileBody) (key : Key) (tag : ℕ) → HasBody profile body → Moves c body key tag → ⊥) → IfOk r (λ new. new ≡ profile)
    → IfOk r (ProfileMigrated c profile)
stays c profile (Ok new) none same = inr (record { none = none; same = same })
stays c profile (Err e) none same = tt

-- as one does whose key gets no tag
pub not_moved : (c : Config) (profile : Profile) (parts : ProfileParts) → HasParts profile parts
    → ((key : Key) (tag : ℕ) → Moves c parts.body key tag → ⊥) → (body : ProfileBody) (key : Key) (tag : ℕ) → HasBody profile body
    → Moves c body key tag → ⊥
not_moved c profile parts has none body key tag other moves =
    none key tag (subst (λ (b : ProfileBody). Moves c b key tag) (one_body profile body parts.body other (body_in profile parts has)) moves)

-- parts that a profile says may be written
said : (has : Bool) (There : Type 0) (components : List Profile) → MatchBool has There (components ≡ []) → MatchBool has ⊤ (components ≡ [])
said true There components there = tt
said false There components none = none

are_parts : (profile : Profile) (parts : ProfileParts) → HasParts profile parts → AreParts parts
are_parts profile parts has =
    said (has_components parts.body.major parts.body.minor) (ReadsComponents parts.components has.read.fields.behind_key) parts.components
    has.read.components

-- a profile whose key gets a tag is written anew
pub anew : {E : Type 0} (c : Config) (profile : Profile) (parts new_parts : ProfileParts) (octets : List ℕ) (r : Result Profile E) → HasParts profile parts
    → MovesTo c parts.body octets → new_parts ≡ with_key octets parts → IfOk r (λ new. new ≡ profile_with new_parts)
    → (AreParts new_parts → OnOk r (HasParts (profile_with new_parts) new_parts)) → IfOk r (ProfileMigrated c profile)
anew c profile parts new_parts octets (Err e) has to same is back = tt
anew c profile parts new_parts octets (Ok new) has to same is back =
    let moved : ProfileParts = moved_parts to.key to.tag parts in
    let same_parts : new_parts ≡ moved = same ∙ ap (λ (o : List ℕ). with_key o parts) to.is in
    let is_new : new ≡ profile_with moved = is ∙ ap profile_with same_parts in
    let are : AreParts new_parts = subst AreParts (sym same_parts) (are_parts profile parts has) in
    let says : HasParts (profile_with moved) moved = subst (λ (p : ProfileParts). HasParts (profile_with p) p) same_parts (back are) in
    inl (record {
      parts = parts;
      key = to.key;
      tag = to.tag;
      has = has;
      moves = to.moves;
      is = is_new;
      says = subst (λ (p : Profile). HasParts p moved) (sym is_new) says;
    })

-- the key that the octets of a body spell is the one that gets a tag, or gets none
pub key_moved : {E : Type 0} (c : Config) (body : ProfileBody) (key : Key) (r : Result (Option (List ℕ)) E) → body.major ≡ 1 → body.minor ≤ 2 → IsKey key
    → key_spelling key ≡ body.key → IfOk r (λ found. MatchOption found (new_tag c key ≡ None) (λ octets. TagsTo c key octets))
    → IfOk r (λ found. MatchOption found ((other : Key) (tag : ℕ) → Moves c body other tag → ⊥) (λ octets. MovesTo c body octets))
key_moved c body key (Err e) major minor fits spelled found = tt
key_moved c body key (Ok None) major minor fits spelled none = λ other tag moves.
    (let same : other ≡ key = one_key other key moves.is_key fits (moves.spelled ∙ sym spelled) in
    let e : Some tag ≡ None = sym moves.tagged ∙ (ap (new_tag c) same ∙ none) in cc)
key_moved c body key (Ok (Some octets)) major minor fits spelled to = record {
  key = key;
  tag = to.tag;
  moves = record { major = major; minor = minor; is_key = fits; spelled = spelled; tagged = to.tagged };
  is = to.is;
}

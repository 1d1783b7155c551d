-- A profile or a reference tells one key, or none.
use Rattle.std.proofs.Common.{◌≡◌, ℕ, List, Option, Some, None, refl, sym, ◌∙◌, ap, subst}
use Rattle.std.specs.Prelude.{slice_get}
use Rattle.cdr_core.specs.Cursor.{Cursor}
use Rattle.cdr_core.proofs.OneReading.{one_octets_read}
use Rattle.poa_base.specs.declared.Ior.{Ior}
use Rattle.poa_base.specs.declared.Profile.{Profile}
use Rattle.ior_text.specs.declared.body.ProfileBody.{ProfileBody}
use Rattle.ior_text.specs.Body.{ReadsBody, HasBody}
use Rattle.ior_text.specs.Key.{TellsKey, HasKey, IsKeyOr}
use Rattle.ior_text.proofs.Bodies.{Versioned, key_at}

one_body_key : (a b : ProfileBody) (c : Cursor) → ReadsBody a c → ReadsBody b c → a.key ≡ b.key
one_body_key a b c r s =
    let version : Versioned c b.major b.minor s.behind_minor = record { behind_major = s.behind_major; major_read = s.major; minor_read = s.minor } in
    (one_octets_read a.key b.key s.behind_port r.behind_key s.behind_key
    (key_at a c s.behind_minor s.behind_host s.behind_port b.major b.minor b.host b.port r version s.host s.port) s.key).0

pub one_told_key : (profile : Profile) (k l : List ℕ) → TellsKey profile k → TellsKey profile l → k ≡ l
one_told_key profile k l r s =
    let start : r.has.encloses.start ≡ s.has.encloses.start = cc (r.has.encloses.opened, s.has.encloses.opened) in
    sym r.is_key
    ∙ (one_body_key r.body s.body s.has.encloses.start (subst (λ (x : Cursor). ReadsBody r.body x) start r.has.encloses.read) s.has.encloses.read
    ∙ s.is_key)

pub one_key : (ior : Ior) (index : ℕ) (k l : List ℕ) → HasKey ior index k → HasKey ior index l → k ≡ l
one_key ior index k l r s =
    let same : r.profile ≡ s.profile = cc (r.stands, s.stands) in
    one_told_key s.profile k l (subst (λ (p : Profile). TellsKey p k) same r.tells) s.tells

pub one_found : (Tells : List ℕ → Type 0) → ((k l : List ℕ) → Tells k → Tells l → k ≡ l) → (a b : Option (List ℕ)) → IsKeyOr Tells a → IsKeyOr Tells b → a ≡ b
one_found Tells one None None r s = refl
one_found Tells one None (Some l) r s = absurd (r l s)
one_found Tells one (Some k) None r s = absurd (s k r)
one_found Tells one (Some k) (Some l) r s = ap (λ (x : List ℕ). Some x) (one k l r s)

-- the key of a body that a profile has
pub told_by : (profile : Profile) (body : ProfileBody) → HasBody profile body → TellsKey profile body.key
told_by profile body has = record { body = body; has = has; is_key = refl }

pub none_told : (profile : Profile) → ((body : ProfileBody) → HasBody profile body → ⊥) → (key : List ℕ) → TellsKey profile key → ⊥
none_told profile none key tells = none tells.body tells.has

-- the key that the profile at the index tells is the reference's
pub found_at : (ior : Ior) (index : ℕ) (profile : Profile) → slice_get ior.profiles index ≡ Some profile → (found : Option (List ℕ))
    → IsKeyOr (TellsKey profile) found → IsKeyOr (HasKey ior index) found
found_at ior index profile stands None none =
    λ key has.
    let same : has.profile ≡ profile = cc (has.stands, stands) in
    none key (subst (λ (p : Profile). TellsKey p key) same has.tells)
found_at ior index profile stands (Some key) tells = record { profile = profile; stands = stands; tells = tells }

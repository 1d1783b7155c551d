-- One more profile behind the others.
use Rattle.std.proofs.Common.{◌≡◌, ℕ, ◌+◌, ◌<◌, List, [], ◌∷◌, ◌++◌, length, take, get_or, refl, sym, ◌∙◌, ap}
use Rattle.std.proofs.lemmas.List.{take_more}
use Rattle.cdr_core.specs.Field.{ulong, octets}
use Rattle.cdr_core.specs.Draft.{Draft, with_field}
use Rattle.poa_base.specs.declared.Profile.{Profile}
use Rattle.ior_text.specs.Written.{with_profile, with_profiles}

pub with_profiles-push : (ps : List Profile) (p : Profile) (d : Draft) → with_profiles (ps ++ p ∷ []) d ≡ with_profile p (with_profiles ps d)
with_profiles-push [] p d = refl
with_profiles-push (q ∷ qs) p d = with_profiles-push qs p (with_profile q d)

pub with_profiles-more : (ps : List Profile) (i : ℕ) (p : Profile) (d : Draft) → i < length ps → p ≡ get_or ps i p
    → with_profiles (take (i + 1) ps) d ≡ with_profile p (with_profiles (take i ps) d)
with_profiles-more ps i p d below is =
    ap (λ l. with_profiles l d) (take_more ps i p below) ∙ with_profiles-push (take i ps) (get_or ps i p) d
    ∙ ap (λ q. with_profile q (with_profiles (take i ps) d)) (sym is)

-- the tag and the data, written one behind the other, are the profile
pub profile_written : (p : Profile) (bytes : List ℕ) (d tagged after : Draft) → tagged ≡ with_field (ulong p.tag) d → bytes ≡ p.bytes
    → after ≡ with_field (octets bytes) tagged → after ≡ with_profile p d
profile_written p bytes d tagged after tag is octets_put = octets_put ∙ ap (λ b. with_field (octets b) tagged) is ∙ ap (λ t. with_field (octets p.bytes) t) tag

-- The first profile of a reference that tells a target.
use Rattle.std.proofs.Common.{◌≡◌, ◌≢◌, ℕ, ◌+◌, ◌<◌, List, [], ◌∷◌, length, get_or, drop, Option, Some, None, refl, sym, ap, ◌∙◌, subst, arith, ◌⊎◌, inl, inr}
use Rattle.std.proofs.lemmas.List.{drop_more, drop_all}
use Rattle.poa_base.specs.declared.Profile.{Profile}
use Rattle.ior_text.specs.declared.body.ProfileBody.{ProfileBody}
use Rattle.ior_text.specs.Body.{HasBody}
use Rattle.ior_text.proofs.OneBody.{one_body}
use Rattle.giop_client.specs.declared.target.Target.{Target}
use Rattle.giop_client.specs.Target.{target_of_body, Reaches, MayReach, IsAmong}

-- a profile of another version tells none, nor one without a body
pub no_version : (profile : Profile) (body : ProfileBody) → HasBody profile body → (body.major ≡ 1 → ⊥) → (target : Target) → Reaches profile target → ⊥
no_version profile body has other target reaches = other (ap (λ (b : ProfileBody). b.major) (one_body profile body reaches.body has reaches.has) ∙ reaches.major)

pub no_body_told : (profile : Profile) → ((body : ProfileBody) → HasBody profile body → ⊥) → (target : Target) → Reaches profile target → ⊥
no_body_told profile none target reaches = none reaches.body reaches.has

pub reached : (profile : Profile) (body : ProfileBody) (target : Target) → HasBody profile body → body.major ≡ 1 → target ≡ target_of_body body
    → Reaches profile target
reached profile body target has major is = record { body = body; has = has; major = major; is = is }

-- so far none of the profiles told one: what is among the others is among all
abbrev pub Passed : List Profile → ℕ → Type 0
Passed profiles at = (found : Option Target) → IsAmong (drop at profiles) found → IsAmong profiles found

pub passed_more : (profiles : List Profile) (at : ℕ) (d : Profile) → at < length profiles → Passed profiles at
    → MayReach (get_or profiles at d) None → Passed profiles (at + 1)
passed_more profiles at d within passed none found among =
    passed found (subst (λ (ps : List Profile). IsAmong ps found) (sym (drop_more profiles at d within)) (inr (none, among)))

pub found_here : (profiles : List Profile) (at : ℕ) (d : Profile) (target : Target) → at < length profiles → Passed profiles at
    → Reaches (get_or profiles at d) target → IsAmong profiles (Some target)
found_here profiles at d target within passed reaches =
    passed (Some target)
    (subst (λ (ps : List Profile). IsAmong ps (Some target)) (sym (drop_more profiles at d within)) (inl (target, refl, reaches)))

pub found_none : (profiles : List Profile) (at : ℕ) → at ≡ length profiles → Passed profiles at → IsAmong profiles None
found_none profiles at all passed =
    passed None (subst (λ (ps : List Profile). IsAmong ps None) (sym (drop_all at profiles (omega (arith, all)))) refl)

-- the same of the items that are gone over
pub passed_on : (profiles items : List Profile) (at : ℕ) (p : Profile) → items ≡ profiles → at < length items → p ≡ get_or items at p
    → Passed profiles at → MayReach p None → Passed profiles (at + 1)
passed_on profiles items at p same within here passed none =
    let inside : at < length profiles = subst (λ (l : List Profile). at < length l) same within in
    let there : p ≡ get_or profiles at p = here ∙ ap (λ (l : List Profile). get_or l at p) same in
    passed_more profiles at p inside passed (subst (λ (q : Profile). MayReach q None) there none)

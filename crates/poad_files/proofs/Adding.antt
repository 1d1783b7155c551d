-- Texts that are added one behind the other.
use Rattle.std.proofs.Common.{◌≡◌, ℕ, ◌+◌, ◌<◌, List, [], ◌∷◌, ◌++◌, length, take, get_or, refl, sym, ◌∙◌, ap, subst, arith, append_assoc, append-nil, length-take-le, inl}
use Rattle.std.proofs.lemmas.List.{take_more}
use Rattle.poa_base.specs.declared.Profile.{Profile}
use Rattle.ior_text.specs.declared.ProfileBody.{ProfileBody}
use Rattle.ior_text.specs.Body.{HasBody}
use Rattle.poad_files.specs.KeyLine.{KeyShown}
use Rattle.poad_files.specs.Shown.{Adds, body_line, ProfileShown, ProfilesShown}

-- the address and then the key
pub body_added : (index : ℕ) (profile : Profile) (body : ProfileBody) (before between after : List ℕ) → HasBody profile body
    → between ≡ before ++ body_line index body → Adds (KeyShown body.key) between after → Adds (ProfileShown index profile) before after
body_added index profile body before between after has first adds = record {
  text = body_line index body ++ adds.text;
  is_text = inl (record { body = body; has = has; line = adds.text; key = adds.is_text; is_text = refl });
  added = adds.added ∙ ap (λ b. b ++ adds.text) first ∙ append_assoc before (body_line index body) adds.text;
}

-- one profile more
pub shown_push : (k : ℕ) (ps : List Profile) (p : Profile) (text more : List ℕ) → ProfilesShown k ps text → ProfileShown (k + length ps) p more
    → ProfilesShown k (ps ++ p ∷ []) (text ++ more)
shown_push k [] p text more shown one =
    let here : k + length {A = Profile} [] ≡ k = omega arith in
    (more, [], subst (λ i. ProfileShown i p more) here one, refl, ap (λ t. t ++ more) shown ∙ sym (append-nil more))
shown_push k (q ∷ qs) p text more shown one =
    let same : k + length (q ∷ qs) ≡ k + 1 + length qs = omega arith in (
      shown.0,
      shown.1 ++ more,
      shown.2,
      shown_push (k + 1) qs p shown.1 more shown.3 (subst (λ i. ProfileShown i p more) same one),
      ap (λ t. t ++ more) shown.4 ∙ append_assoc shown.0 shown.1 more,
    )

-- one profile more is added behind the first ones
pub profiles_more : (ps : List Profile) (i : ℕ) (p : Profile) (before between after : List ℕ) → i < length ps → p ≡ get_or ps i p
    → Adds (ProfilesShown 0 (take i ps)) before between → Adds (ProfileShown i p) between after → Adds (ProfilesShown 0 (take (i + 1) ps)) before after
profiles_more ps i p before between after below is so_far one =
    let at : i ≡ 0 + length (take i ps) = omega (arith, length-take-le i ps (omega arith)) in
    record {
      text = so_far.text ++ one.text;
      is_text =
          subst (λ (l : List Profile). ProfilesShown 0 l (so_far.text ++ one.text))
          (sym (take_more ps i p below ∙ ap (λ (x : Profile). take i ps ++ x ∷ []) (sym is)))
          (shown_push 0 (take i ps) p so_far.text one.text so_far.is_text (subst (λ n. ProfileShown n p one.text) at one.is_text));
      added = one.added ∙ ap (λ b. b ++ one.text) so_far.added ∙ append_assoc before so_far.text one.text;
    }

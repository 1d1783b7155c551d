-- A history with an entry that may not follow the ones before it isn't legal.
use Rattle.std.proofs.Common.{◌≡◌, ℕ, ◌+◌, ◌<◌, zero, suc, List, [], ◌∷◌, ◌++◌, length, take, drop, reverse, get_or, Some, refl, sym, ◌∙◌, ap, subst, arith}
use Rattle.std.specs.Prelude.{slice_get}
use Rattle.std.proofs.lemmas.List.{take-append-drop, reverse-append}
use Rattle.poa_base.specs.declared.Config.{Config}
use Rattle.poa_base.specs.declared.Entry.{Entry}
use Rattle.poa_history.specs.Legal.{IsLegal}
use Rattle.core_standing.proofs.Onward.{reversed_more}
use Rattle.poa_model.specs.Illegal.{IsFirstIllegal}

-- an entry stands below the length
entry_at : (h : List Entry) (place : ℕ) → place < length h → (e : Entry) × (slice_get h place ≡ Some e) × (e ≡ get_or h place e)
entry_at [] place below = absurd (omega arith)
entry_at (x ∷ h) zero below = (x, refl, refl)
entry_at (x ∷ h) (suc place) below = entry_at h place (omega arith)

-- what goes on legally was legal before
legal_before : (c : Config) (run limit : ℕ) (more past : List Entry) → IsLegal c run limit (more ++ past) → IsLegal c run limit past
legal_before c run limit [] past legal = legal
legal_before c run limit (e ∷ more) past legal = legal_before c run limit more past legal.1

pub spoiled : (c : Config) (run limit : ℕ) (h : List Entry) (place : ℕ) → IsFirstIllegal c run limit h place → IsLegal c run limit (reverse h) → ⊥
spoiled c run limit h place first legal =
    let it = entry_at h place first.stands in
    let parts : reverse h ≡ reverse (drop (place + 1) h) ++ (it.0 ∷ reverse (take place h)) =
    ap reverse (sym (take-append-drop (place + 1) h)) ∙ reverse-append (take (place + 1) h) (drop (place + 1) h)
    ∙ ap (λ x. reverse (drop (place + 1) h) ++ x) (reversed_more h place it.0 first.stands it.2) in
    let after : IsLegal c run limit (it.0 ∷ reverse (take place h)) =
    legal_before c run limit (reverse (drop (place + 1) h)) (it.0 ∷ reverse (take place h)) (subst (λ g. IsLegal c run limit g) parts legal) in
    first.refused it.0 it.1 after.0

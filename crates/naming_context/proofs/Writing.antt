-- Fields and profiles that are written one behind the other.
use Rattle.std.proofs.Common.{◌≡◌, ℕ, ◌+◌, ◌<◌, List, [], ◌∷◌, ◌++◌, length, take, get_or, refl, sym, ap, ◌∙◌}
use Rattle.std.proofs.lemmas.List.{take_more}
use Rattle.cdr_core.specs.Field.{Field, text}
use Rattle.cdr_core.specs.Draft.{Draft, with_field}
use Rattle.cdr_core.specs.Fields.{with_fields}
use Rattle.naming_context.specs.declared.component.Component.{Component}
use Rattle.naming_context.specs.Names.{component_fields, components_fields}
use Rattle.naming_context.proofs.NameReading.{components_fields-append}

pub with_fields-append : (xs ys : List Field) (d : Draft) → with_fields (xs ++ ys) d ≡ with_fields ys (with_fields xs d)
with_fields-append [] ys d = refl
with_fields-append (x ∷ xs) ys d = with_fields-append xs ys (with_field x d)

-- one more component
pub components-more : (name : List Component) (i : ℕ) (x : Component) (old mid one two : Draft) → i < length name → x ≡ get_or name i x
    → mid ≡ with_fields (components_fields (take i name)) old → one ≡ with_field (text x.id) mid → two ≡ with_field (text x.kind) one
    → two ≡ with_fields (components_fields (take (i + 1) name)) old
components-more name i x old mid one two below is so_far id kind =
    kind
    ∙ ap (with_field (text x.kind)) id
    ∙ ap (with_fields (component_fields x)) so_far
    ∙ sym (
    ap (λ (l : List Component). with_fields (components_fields l) old) (take_more name i x below ∙ ap (λ (y : Component). take i name ++ y ∷ []) (sym is))
    ∙ ap (λ (fs : List Field). with_fields fs old) (components_fields-append (take i name) (x ∷ []))
    ∙ with_fields-append (components_fields (take i name)) (component_fields x) old
    )

-- Bindings that are asked and changed.
use Rattle.std.specs.Prelude.{◌≡◌, ℕ, cond, ◌&&◌, Option, Some, bytes_eq, List}
use Rattle.std.proofs.Common.{refl, sym, ap, ◌∙◌}
use Rattle.std.specs.BTreeMap.{get, is_at}
use Rattle.std.specs.Ordering.{nat_cmp, ordering_then, is_eq}
use Rattle.std.specs.declared.cmp.Ordering.{Ordering}
use Rattle.std.specs.declared.cmp.Ordering.TheVariants.{Less, Equal, Greater}
use Rattle.std.specs.Cmp.Lexicographic.{slice_cmp, texts_ties}
use Rattle.naming_context.specs.declared.component.Component.{Component}
use Rattle.naming_context.specs.declared.target.Target.{Target}
use Rattle.naming_context.specs.Standing.{is_same}
use Rattle.naming_context.specs.Kept.{component_cmp, Bindings, HasTarget}

then_ties : (a b : Ordering) → is_eq (ordering_then a b) ≡ is_eq a && is_eq b
then_ties Less b = refl
then_ties Equal b = refl
then_ties Greater b = refl

text_ties : (a b : List ℕ) → is_eq (slice_cmp nat_cmp a b) ≡ bytes_eq a b
text_ties a b = sym (texts_ties a b)

-- a component is found by its id and its kind
pub finds : (x y : Component) → is_at (component_cmp x) y ≡ is_same x y
finds x y =
    then_ties (slice_cmp nat_cmp x.id y.id) (slice_cmp nat_cmp x.kind y.kind)
    ∙ (ap (λ b. b && is_eq (slice_cmp nat_cmp x.kind y.kind)) (text_ties x.id y.id) ∙ ap (λ b. bytes_eq x.id y.id && b) (text_ties x.kind y.kind))

pub has_target : (x : Component) (target : Option Target) (old new : Bindings)
    → ((y : Component) → get component_cmp new y ≡ cond (is_at (component_cmp x) y) target (get component_cmp old y)) → HasTarget x target (Some old) new
has_target x target old new updates y = updates y ∙ ap (λ b. cond b target (get component_cmp old y)) (finds x y)

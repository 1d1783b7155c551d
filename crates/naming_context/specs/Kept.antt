-- What stands, as it is kept.
use Rattle.std.specs.Prelude.{◌≡◌, ℕ, Option, Some, None, if◌then◌else◌}
use Rattle.std.specs.BTreeMap.{BTreeMap, get}
use Rattle.std.specs.Ordering.{nat_cmp, ordering_then}
use Rattle.std.specs.declared.cmp.Ordering.{Ordering}
use Rattle.std.specs.Cmp.Lexicographic.{slice_cmp}
use Rattle.naming_context.specs.declared.component.Component.{Component}
use Rattle.naming_context.specs.declared.contexts.Contexts.{Contexts}
use Rattle.naming_context.specs.declared.target.Target.{Target}
use Rattle.naming_context.specs.Standing.{Standing, is_same, is_there}

-- by the id, and then by the kind
abbrev pub component_cmp : Component → Component → Ordering
component_cmp x y = ordering_then (slice_cmp nat_cmp x.id y.id) (slice_cmp nat_cmp x.kind y.kind)

abbrev pub Bindings : Type 0
Bindings = BTreeMap Component Target

-- the target of a component in the bindings of a context, where there are any
abbrev pub target_in : Option Bindings → Component → Option Target
target_in None x = None
target_in (Some bindings) x = get component_cmp bindings x

-- the target of a component in a context
abbrev pub target_at : BTreeMap ℕ Bindings → ℕ → Component → Option Target
target_at bindings n x = target_in (get nat_cmp bindings n) x

abbrev pub standing_of : Contexts → Standing
standing_of contexts = record {
  find = λ n x. target_at contexts.bindings n x;
  bound = contexts.bound;
  made = contexts.made;
}

-- the component is bound to this in the bindings of a context, and each other one to what it was
abbrev pub HasTarget : Component → Option Target → Option Bindings → Bindings → Type 0
HasTarget x target old new =
    (y : Component) → target_in (Some new) y ≡ (if is_same x y then target else target_in old y)

-- the same of all contexts
abbrev pub HasTargetAt : ℕ → Component → Option Target → BTreeMap ℕ Bindings → BTreeMap ℕ Bindings → Type 0
HasTargetAt n x target old new =
    (m : ℕ) (y : Component) → target_at new m y ≡ (if is_there n x m y then target else target_at old m y)

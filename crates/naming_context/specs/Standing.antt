-- What stands in the contexts, by what the operations changed.
use Rattle.std.specs.Prelude.{ℕ, ◌+◌, ◌-◌, ◌==◌, ◌&&◌, Bool, List, [], ◌∷◌, bytes_eq, Option, Some, None, is_some, if◌then◌else◌}
use Rattle.naming_context.specs.declared.component.Component.{Component}
use Rattle.naming_context.specs.declared.target.Target.{Target}
use Rattle.naming_context.specs.declared.target.Target.TheVariants.{Reference, Context}

-- what an operation that had a result changed: the context and the component on which it ended, and what it bound there
pub data Change : Type 0 where
  Bound : ℕ → Component → Target → Change
  Unbound : ℕ → Component → Change

-- what each component is bound to in each context; how many are bound, in all contexts together; and how many contexts
-- were made behind context 0
pub record Standing : Type 0 where
  pub find : ℕ → Component → Option Target
  pub bound : ℕ
  pub made : ℕ

-- one component is the other
abbrev pub is_same : Component → Component → Bool
is_same x y = bytes_eq x.id y.id && bytes_eq x.kind y.kind

-- a component in a context is this one in this context
abbrev pub is_there : ℕ → Component → ℕ → Component → Bool
is_there n x m y = m == n && is_same x y

-- one more where nothing was bound there before
abbrev pub one_more : Option Target → ℕ → ℕ
one_more was bound = if is_some was then bound else bound + 1

-- one less where something was
abbrev pub one_less : Option Target → ℕ → ℕ
one_less was bound = if is_some was then bound - 1 else bound

-- a context that is bound was made for that
abbrev pub made_with : Target → ℕ → ℕ
made_with (Reference object) made = made
made_with (Context n) made = made + 1

abbrev pub with_target : ℕ → Component → Target → Standing → Standing
with_target n x target s = record {
  find = λ m y. if is_there n x m y then Some target else s.find m y;
  bound = one_more (s.find n x) s.bound;
  made = made_with target s.made;
}

abbrev pub without_target : ℕ → Component → Standing → Standing
without_target n x s = record {
  find = λ m y. if is_there n x m y then None else s.find m y;
  bound = one_less (s.find n x) s.bound;
  made = s.made;
}

-- nothing is bound
abbrev pub nothing_bound : Standing
nothing_bound = record { find = λ n x. None; bound = 0; made = 0 }

abbrev pub changed : Change → Standing → Standing
changed (Bound n x target) s = with_target n x target s
changed (Unbound n x) s = without_target n x s

-- what stands after these changes, of which the latest is the first: a component is bound to the target of the latest Bound
-- of it in that context which no Unbound of it follows
abbrev pub standing : List Change → Standing
standing [] = nothing_bound
standing (change ∷ changes) = changed change (standing changes)

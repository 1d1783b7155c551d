-- What a context does: what changes, and what is answered.
use Rattle.std.specs.Prelude.{◌≡◌, ℕ, ◌+◌, nat_le, false, [], ◌∷◌, Option, Some, None, if◌then◌else◌}
use Rattle.poa_base.specs.declared.Ior.{Ior}
use Rattle.naming_context.specs.declared.answer.Answer.{Answer}
use Rattle.naming_context.specs.declared.answer.Answer.TheVariants as answer
use Rattle.naming_context.specs.declared.asked.Asked.{Asked}
use Rattle.naming_context.specs.declared.asked.Asked.TheVariants as asked
use Rattle.naming_context.specs.declared.component.Component.{Component}
use Rattle.naming_context.specs.declared.contexts.TheConstants.{BINDINGS, CONTEXTS}
use Rattle.naming_context.specs.declared.reason.Reason.TheVariants.{MissingNode, NotObject}
use Rattle.naming_context.specs.declared.target.Target.{Target}
use Rattle.naming_context.specs.declared.target.Target.TheVariants.{Reference, Context}
use Rattle.naming_context.specs.Keys.{context_reference}
use Rattle.naming_context.specs.Leading.{Lead, ends, stops, no_name, lead}
use Rattle.naming_context.specs.Outcomes.{nothing, truth, is_a, invalid_name, already_bound, names_full}
use Rattle.naming_context.specs.Standing.{Change, Bound, Unbound, Standing, changed}

-- what was done
pub record Done : Type 0 where
  pub change : Option Change
  pub answer : Answer

-- what is answered, and nothing changes
abbrev pub answering : Answer → Done
answering told = record { change = None; answer = told }

abbrev pub missing : Component → Done
missing x = answering (answer.NotFound MissingNode (x ∷ []))

-- a component that isn't bound is, where there is room for one more
abbrev pub bound_first : Standing → ℕ → Component → Target → Answer → Done
bound_first s n x target told =
    if nat_le BINDINGS s.bound then answering (answer.Outcome names_full) else record { change = Some (Bound n x target); answer = told }

-- one that is bound to a reference is bound to another one
abbrev pub bound_again : ℕ → Component → Ior → Done
bound_again n x object = record { change = Some (Bound n x (Reference object)); answer = answer.Outcome nothing }

-- each operation on the component of a context on which its name ends, by what it is bound to
abbrev pub bind_over : Option Target → Standing → ℕ → Component → Ior → Done
bind_over (Some target) s n x object = answering (answer.Outcome already_bound)
bind_over None s n x object = bound_first s n x (Reference object) (answer.Outcome nothing)

abbrev pub rebind_over : Option Target → Standing → ℕ → Component → Ior → Done
rebind_over (Some (Context m)) s n x object = answering (answer.NotFound NotObject (x ∷ []))
rebind_over (Some (Reference other)) s n x object = bound_again n x object
rebind_over None s n x object = bound_first s n x (Reference object) (answer.Outcome nothing)

abbrev pub reference_to : Target → Ior
reference_to (Reference object) = object
reference_to (Context n) = context_reference n

abbrev pub resolve_over : Option Target → Component → Done
resolve_over (Some target) x = answering (answer.Reference (reference_to target))
resolve_over None x = missing x

abbrev pub unbind_over : Option Target → ℕ → Component → Done
unbind_over (Some target) n x = record { change = Some (Unbound n x); answer = answer.Outcome nothing }
unbind_over None n x = missing x

-- the new context is the next one
abbrev pub new_context_over : Option Target → Standing → ℕ → Component → Done
new_context_over (Some target) s n x = answering (answer.Outcome already_bound)
new_context_over None s n x =
    if nat_le CONTEXTS s.made then answering (answer.Outcome names_full)
    else bound_first s n x (Context (s.made + 1)) (answer.Reference (context_reference (s.made + 1)))

-- an operation where its name leads
abbrev pub where_it_ends : Lead → (ℕ → Component → Done) → Done
where_it_ends (ends n x) act = act n x
where_it_ends (stops why rest) act = answering (answer.NotFound why rest)
where_it_ends no_name act = answering (answer.Outcome invalid_name)

-- what a context does that is asked this
abbrev pub done : Standing → ℕ → Asked → Done
done s n (asked.Bind name object) = where_it_ends (lead s n name) (λ m x. bind_over (s.find m x) s m x object)
done s n (asked.Rebind name object) = where_it_ends (lead s n name) (λ m x. rebind_over (s.find m x) s m x object)
done s n (asked.Resolve name) = where_it_ends (lead s n name) (λ m x. resolve_over (s.find m x) x)
done s n (asked.Unbind name) = where_it_ends (lead s n name) (λ m x. unbind_over (s.find m x) m x)
done s n (asked.BindNewContext name) = where_it_ends (lead s n name) (λ m x. new_context_over (s.find m x) s m x)
done s n (asked.IsA type_id) = answering (answer.Outcome (is_a type_id))
done s n asked.NonExistent = answering (answer.Outcome (truth false))

-- what stands after a change, or none
abbrev pub left : Option Change → Standing → Standing
left None s = s
left (Some change) s = changed change s

-- this was done: the answer is given, and the change made
pub record IsDone (what : Done) (old : Standing) (told : Answer) (new : Standing) : Type 0 where
  pub answered : told ≡ what.answer
  pub stands : new ≡ left what.change old

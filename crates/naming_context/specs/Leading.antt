-- Where a name leads: all components but the last are followed through contexts of this server.
use Rattle.std.specs.Prelude.{ℕ, List, [], ◌∷◌, Option, Some, None, if◌then◌else◌}
use Rattle.naming_context.specs.declared.component.Component.{Component}
use Rattle.naming_context.specs.declared.lead.Lead.{Lead as LeadData}
use Rattle.naming_context.specs.declared.lead.Lead.TheVariants as told
use Rattle.naming_context.specs.declared.reason.Reason.{Reason}
use Rattle.naming_context.specs.declared.reason.Reason.TheVariants.{MissingNode, NotContext}
use Rattle.naming_context.specs.declared.target.Target.{Target}
use Rattle.naming_context.specs.declared.target.Target.TheVariants.{Reference, Context}
use Rattle.naming_context.specs.Names.{is_name}
use Rattle.naming_context.specs.Standing.{Standing}

pub data Lead : Type 0 where
  -- it ends on this component of this context
  ends : ℕ → Component → Lead
  -- the first component of this rest can't be followed
  stops : Reason → List Component → Lead
  -- it is no name
  no_name : Lead

-- one component followed, which isn't the last: `rest` begins with it
abbrev pub through : Option Target → List Component → (ℕ → Lead) → Lead
through None rest next = stops MissingNode rest
through (Some (Reference object)) rest next = stops NotContext rest
through (Some (Context n)) rest next = next n

-- from a context on
abbrev pub lead_from : Standing → ℕ → List Component → Lead
lead_from s n [] = no_name
lead_from s n (x ∷ []) = ends n x
lead_from s n (x ∷ y ∷ rest) = through (s.find n x) (x ∷ y ∷ rest) (λ m. lead_from s m (y ∷ rest))

abbrev pub lead : Standing → ℕ → List Component → Lead
lead s n name = if is_name name then lead_from s n name else no_name

-- what is lent of it
abbrev pub seen_lead : LeadData → Lead
seen_lead (told.Ends context component) = ends context component.now
seen_lead (told.Stops why rest) = stops why rest.now
seen_lead told.NoName = no_name

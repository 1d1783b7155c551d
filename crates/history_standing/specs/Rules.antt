-- What the rules of a servant manager give (CORBA 3.3 Part 1, sections 15.3.6 and 15.3.7).
use Rattle.std.specs.Prelude.{ℕ, Bool, true, false, ◌&&◌, List, find, Option, Some, None}
use Rattle.poa_base.specs.declared.Config.{Config}
use Rattle.poa_base.specs.declared.RuleConf.{RuleConf}
use Rattle.poa_base.specs.declared.Gives.TheVariants.{Fresh as FreshKind, Servant, Forward as ForwardTo, Raise as RaiseThis}
use Rattle.poa_base.specs.declared.SysExc.{SysExc}
use Rattle.poa_base.specs.declared.ExcName.TheVariants.{ObjectNotExist}
use Rattle.poa_base.specs.declared.Completion.TheVariants.{No as NotCompleted}
use Rattle.poa_base.specs.declared.minors.TheConstants.{NOT_ACTIVE}
use Rattle.poa_base.specs.declared.Sid.TheVariants.{Named as NamedServant}
use Rattle.poa_base.specs.declared.Incarnation.{Incarnation}
use Rattle.poa_base.specs.declared.Incarnation.TheVariants.{Fresh, Named, Double, Forward, Raise}
use Rattle.poa_choose.specs.declared.Located.{Located}
use Rattle.poa_choose.specs.declared.Located.TheVariants.{Servant as ByServant, Forward as ByForward, Raise as ByRaise, NoRule}
use Rattle.history_standing.specs.declared.activation.Activation.{Activation}
use Rattle.history_standing.specs.Paths.{same_bytes}
use Rattle.history_standing.specs.Templates.{rules_at, policies_at, is_unique, servant_name}
use Rattle.history_standing.specs.Standings.{Standing, is_in_map}

-- a rule without an id matches every id
abbrev pub matches : List ℕ → RuleConf → Bool
matches oid rule = elim rule.oid [ None ↦ true | Some wanted ↦ same_bytes wanted oid ]

-- the first rule that matches
abbrev pub rule_for : List RuleConf → List ℕ → Option RuleConf
rule_for rules oid = find (matches oid) rules

-- the id isn't active
abbrev pub not_active : SysExc
not_active = record { name = ObjectNotExist; minor = NOT_ACTIVE; done = NotCompleted }

-- a configured servant is brought, unless ids are unique and it is in the map of the adapter already
abbrev pub named_or_double : Config → Standing → Activation → ℕ → Incarnation
named_or_double c s a k =
    elim (is_unique (policies_at c a.path) && is_in_map s.activations a.adapter (NamedServant k)) [
      | true ↦ Double
      | false ↦ elim (servant_name c k) [ Some name ↦ Named name | None ↦ Raise not_active ]
    ]

-- what the servant activator brings for an activation that was begun
abbrev pub brought_by : Config → Standing → Activation → Option RuleConf → Incarnation
brought_by c s a None = Raise not_active
brought_by c s a (Some rule) =
    elim rule.gives [
      | FreshKind kind ↦ Fresh a.number
      | Servant k ↦ named_or_double c s a k
      | ForwardTo endpoint ↦ Forward endpoint
      | RaiseThis exception ↦ Raise exception
    ]

abbrev pub brought : Config → Standing → Activation → Incarnation
brought c s a = brought_by c s a (rule_for (rules_at c a.path) a.oid)

-- what the servant locator gives for an id
abbrev pub located_by : Config → Option RuleConf → Located
located_by c None = NoRule
located_by c (Some rule) =
    elim rule.gives [
      | FreshKind kind ↦ NoRule
      | Servant k ↦ elim (servant_name c k) [ Some name ↦ ByServant name | None ↦ NoRule ]
      | ForwardTo endpoint ↦ ByForward endpoint
      | RaiseThis exception ↦ ByRaise exception
    ]

abbrev pub located : Config → List (List ℕ) → List ℕ → Located
located c p oid = located_by c (rule_for (rules_at c p) oid)

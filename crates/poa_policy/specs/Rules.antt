-- The three rules that the policies of an adapter keep: CORBA 3.3 Part 1, chapter 15, "POA Policy Objects".
use Rattle.std.specs.Prelude.{Bool, true, false, not, ◌&&◌, ◌||◌, if◌then◌else◌, Option, Some, None}
use Rattle.poa_base.specs.declared.policy.Policy.{Policy}
use Rattle.poa_base.specs.declared.policy.Policy.TheVariants.{OrbCtrl, Transient, UniqueId, MultipleId, SystemId, NoImplicit, Retain, MapOnly, ServantManager}
use Rattle.poa_base.specs.declared.policy.PolicySet.{PolicySet}
use Rattle.poa_base.specs.Policies.{is_multiple_id, is_system_id, is_implicit, is_retain, is_map_only, is_default_servant}
use Rattle.poa_policy.specs.declared.kind.PolicyKind.{PolicyKind}
use Rattle.poa_policy.specs.declared.kind.PolicyKind.TheVariants as kind
use Rattle.poa_policy.specs.declared.rule.Rule.{Rule}
use Rattle.poa_policy.specs.declared.rule.Rule.TheVariants.{MapOnlyRetains, DefaultServantIsShared, ImplicitMakesIds}

-- a policy that passes the first test needs one that passes the second
abbrev pub needs : (Policy → Bool) → (Policy → Bool) → Policy → Policy → Bool
needs this that p q = not (this p) || that q

-- USE_ACTIVE_OBJECT_MAP_ONLY needs RETAIN, USE_DEFAULT_SERVANT needs MULTIPLE_ID, and IMPLICIT_ACTIVATION needs SYSTEM_ID and RETAIN
abbrev pub keeps : Rule → PolicySet → Bool
keeps MapOnlyRetains set = needs is_map_only is_retain set.processing set.retention
keeps DefaultServantIsShared set = needs is_default_servant is_multiple_id set.processing set.uniqueness
keeps ImplicitMakesIds set =
    needs is_implicit is_system_id set.implicit set.assignment && needs is_implicit is_retain set.implicit set.retention

-- the kinds that a rule names
abbrev pub names : Rule → PolicyKind → Bool
names MapOnlyRetains kind.Processing = true
names MapOnlyRetains kind.Retention = true
names DefaultServantIsShared kind.Processing = true
names DefaultServantIsShared kind.Uniqueness = true
names ImplicitMakesIds kind.Implicit = true
names ImplicitMakesIds kind.Assignment = true
names ImplicitMakesIds kind.Retention = true
names _ _ = false

-- the first rule that the set breaks
abbrev pub first_broken : PolicySet → Option Rule
first_broken set =
    if not (keeps MapOnlyRetains set) then Some MapOnlyRetains else
    (if not (keeps DefaultServantIsShared set) then Some DefaultServantIsShared else
    (if not (keeps ImplicitMakesIds set) then Some ImplicitMakesIds else None))

-- the default of each kind
abbrev pub defaults : PolicySet
defaults =
    record {
      thread = OrbCtrl;
      lifespan = Transient;
      uniqueness = UniqueId;
      assignment = SystemId;
      implicit = NoImplicit;
      retention = Retain;
      processing = MapOnly;
    }

-- one policy of each kind by which no rule can be broken
abbrev pub harmless : PolicySet
harmless =
    record {
      thread = OrbCtrl;
      lifespan = Transient;
      uniqueness = MultipleId;
      assignment = SystemId;
      implicit = NoImplicit;
      retention = Retain;
      processing = ServantManager;
    }

-- The kinds of policy: CORBA 3.3 Part 1, chapter 15, "POA Policy Objects".
use Rattle.std.specs.Prelude.{◌≡◌, ℕ, Bool, ◌==◌}
use Rattle.poa_base.specs.declared.policy.Policy.{Policy}
use Rattle.poa_base.specs.declared.policy.Policy.TheVariants.{OrbCtrl, SingleThread, MainThread, Transient, Persistent, UniqueId, MultipleId, SystemId, UserId, NoImplicit, Implicit, Retain, NonRetain, MapOnly, DefaultServant, ServantManager}
use Rattle.poa_base.specs.declared.policy.PolicySet.{PolicySet}
use Rattle.poa_policy.specs.declared.kind.PolicyKind.{PolicyKind}
use Rattle.poa_policy.specs.declared.kind.PolicyKind.TheVariants as kind

-- the kind that a policy is of
abbrev pub kind_of : Policy → PolicyKind
kind_of OrbCtrl = kind.Thread
kind_of SingleThread = kind.Thread
kind_of MainThread = kind.Thread
kind_of Transient = kind.Lifespan
kind_of Persistent = kind.Lifespan
kind_of UniqueId = kind.Uniqueness
kind_of MultipleId = kind.Uniqueness
kind_of SystemId = kind.Assignment
kind_of UserId = kind.Assignment
kind_of NoImplicit = kind.Implicit
kind_of Implicit = kind.Implicit
kind_of Retain = kind.Retention
kind_of NonRetain = kind.Retention
kind_of MapOnly = kind.Processing
kind_of DefaultServant = kind.Processing
kind_of ServantManager = kind.Processing

-- the policy of a kind in a set
abbrev pub of_kind : PolicyKind → PolicySet → Policy
of_kind kind.Thread set = set.thread
of_kind kind.Lifespan set = set.lifespan
of_kind kind.Uniqueness set = set.uniqueness
of_kind kind.Assignment set = set.assignment
of_kind kind.Implicit set = set.implicit
of_kind kind.Retention set = set.retention
of_kind kind.Processing set = set.processing

-- a number for each kind, by which kinds are compared
abbrev pub number_of : PolicyKind → ℕ
number_of kind.Thread = 0
number_of kind.Lifespan = 1
number_of kind.Uniqueness = 2
number_of kind.Assignment = 3
number_of kind.Implicit = 4
number_of kind.Retention = 5
number_of kind.Processing = 6

-- the policy is of this kind
abbrev pub is_of : PolicyKind → Policy → Bool
is_of k p = number_of k == number_of (kind_of p)

-- the two policies are of one kind
abbrev pub same_kind : Policy → Policy → Bool
same_kind p q = is_of (kind_of p) q

-- each policy of the set is of its own kind
abbrev pub IsSet : PolicySet → Type 0
IsSet set = (k : PolicyKind) → kind_of (of_kind k set) ≡ k

-- the set's policy of that kind is this one
abbrev pub Has : PolicySet → Policy → Type 0
Has set p = of_kind (kind_of p) set ≡ p

-- the set with this policy in place of its policy of that kind
abbrev pub put_of : PolicyKind → PolicySet → Policy → PolicySet
put_of kind.Thread set p = record set { thread = p }
put_of kind.Lifespan set p = record set { lifespan = p }
put_of kind.Uniqueness set p = record set { uniqueness = p }
put_of kind.Assignment set p = record set { assignment = p }
put_of kind.Implicit set p = record set { implicit = p }
put_of kind.Retention set p = record set { retention = p }
put_of kind.Processing set p = record set { processing = p }

abbrev pub put : PolicySet → Policy → PolicySet
put set p = put_of (kind_of p) set p

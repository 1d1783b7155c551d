-- What is printed of the adapter at the path of a call's key.
use Rattle.std.specs.Prelude.{ℕ, List, [], ◌++◌, codes, decimal, Option, Some, None}
use Rattle.poa_base.specs.declared.Policy.{Policy}
use Rattle.poa_base.specs.declared.Policy.TheVariants as policy
use Rattle.poa_base.specs.declared.PolicySet.{PolicySet}
use Rattle.journal_explain.specs.declared.Adapter.{Adapter}

-- a policy by its value's name (CORBA 3.3 Part 1, section 15.3.8), as the configuration has it
abbrev pub policy_word : Policy → List ℕ
policy_word policy.OrbCtrl = codes " ORB_CTRL_MODEL"
policy_word policy.SingleThread = codes " SINGLE_THREAD_MODEL"
policy_word policy.MainThread = codes " MAIN_THREAD_MODEL"
policy_word policy.Transient = codes " TRANSIENT"
policy_word policy.Persistent = codes " PERSISTENT"
policy_word policy.UniqueId = codes " UNIQUE_ID"
policy_word policy.MultipleId = codes " MULTIPLE_ID"
policy_word policy.SystemId = codes " SYSTEM_ID"
policy_word policy.UserId = codes " USER_ID"
policy_word policy.NoImplicit = codes " NO_IMPLICIT_ACTIVATION"
policy_word policy.Implicit = codes " IMPLICIT_ACTIVATION"
policy_word policy.Retain = codes " RETAIN"
policy_word policy.NonRetain = codes " NON_RETAIN"
policy_word policy.MapOnly = codes " USE_ACTIVE_OBJECT_MAP_ONLY"
policy_word policy.DefaultServant = codes " USE_DEFAULT_SERVANT"
policy_word policy.ServantManager = codes " USE_SERVANT_MANAGER"

-- those of servants, and all of them
abbrev pub serving_text : PolicySet → List ℕ
serving_text p = policy_word p.implicit ++ (policy_word p.retention ++ policy_word p.processing)

abbrev pub policies_text : PolicySet → List ℕ
policies_text p =
    policy_word p.thread ++ (policy_word p.lifespan ++ (policy_word p.uniqueness ++ (policy_word p.assignment ++ serving_text p)))

-- `root` has no name in the configuration
abbrev pub name_text : Option (List ℕ) → List ℕ
name_text None = codes "root"
name_text (Some name) = name

abbrev pub manager_text : ℕ → ℕ → Option (List ℕ) → List ℕ
manager_text k m name = codes "adapter " ++ (decimal k ++ (codes ", manager " ++ (decimal m ++ (codes " " ++ name_text name))))

abbrev pub adapter_line : Adapter → List ℕ
adapter_line a = manager_text a.number a.manager a.name ++ (codes ":" ++ (policies_text a.policies ++ codes "\n"))

-- where one stands there
abbrev pub adapter_text : Option Adapter → List ℕ
adapter_text None = []
adapter_text (Some a) = adapter_line a

-- The fixed words of a configuration.
use Rattle.std.specs.Prelude.{ℕ, List, codes, Option, Some, None, if◌then◌else◌}
use Rattle.std.specs.Str.{bytes_eq}
use Rattle.poa_base.specs.declared.ManagerState.{ManagerState}
use Rattle.poa_base.specs.declared.ManagerState.TheVariants.{Holding, Active, Discarding, Inactive}
use Rattle.poa_base.specs.declared.Kind.{Kind}
use Rattle.poa_base.specs.declared.Kind.TheVariants.{Register, Log, Echo, Fault}
use Rattle.poa_base.specs.declared.Children.{Children}
use Rattle.poa_base.specs.declared.Children.TheVariants.{Create, Refuse, Raise}
use Rattle.poa_base.specs.declared.ExcName.{ExcName}
use Rattle.poa_base.specs.declared.ExcName.TheVariants as exc
use Rattle.poa_base.specs.declared.Policy.{Policy}
use Rattle.poa_base.specs.declared.Policy.TheVariants as policy

-- the state in which a manager starts
unfoldable pub state_of : List ℕ → Option ManagerState
state_of w =
    if bytes_eq w (codes "holding") then Some Holding else (
    if bytes_eq w (codes "active") then Some Active else (
    if bytes_eq w (codes "discarding") then Some Discarding else (
    if bytes_eq w (codes "inactive") then Some Inactive else None)))

-- the kind of a servant
unfoldable pub kind_of : List ℕ → Option Kind
kind_of w =
    if bytes_eq w (codes "register") then Some Register else (
    if bytes_eq w (codes "log") then Some Log else (
    if bytes_eq w (codes "echo") then Some Echo else (
    if bytes_eq w (codes "fault") then Some Fault else None)))

-- what an adapter activator does about a missing child
unfoldable pub children_of : List ℕ → Option Children
children_of w =
    if bytes_eq w (codes "create") then Some Create else (
    if bytes_eq w (codes "refuse") then Some Refuse else (
    if bytes_eq w (codes "raise") then Some Raise else None))

-- a system exception by its CORBA name
unfoldable pub exception_of : List ℕ → Option ExcName
exception_of w =
    if bytes_eq w (codes "OBJECT_NOT_EXIST") then Some exc.ObjectNotExist else (
    if bytes_eq w (codes "TRANSIENT") then Some exc.Transient else (
    if bytes_eq w (codes "OBJ_ADAPTER") then Some exc.ObjAdapter else (
    if bytes_eq w (codes "BAD_OPERATION") then Some exc.BadOperation else (
    if bytes_eq w (codes "MARSHAL") then Some exc.Marshal else (
    if bytes_eq w (codes "UNKNOWN") then Some exc.Unknown else None)))))

-- a policy by its CORBA name
unfoldable pub policy_of : List ℕ → Option Policy
policy_of w =
    if bytes_eq w (codes "ORB_CTRL_MODEL") then Some policy.OrbCtrl else (
    if bytes_eq w (codes "SINGLE_THREAD_MODEL") then Some policy.SingleThread else (
    if bytes_eq w (codes "MAIN_THREAD_MODEL") then Some policy.MainThread else (
    if bytes_eq w (codes "TRANSIENT") then Some policy.Transient else (
    if bytes_eq w (codes "PERSISTENT") then Some policy.Persistent else (
    if bytes_eq w (codes "UNIQUE_ID") then Some policy.UniqueId else (
    if bytes_eq w (codes "MULTIPLE_ID") then Some policy.MultipleId else (
    if bytes_eq w (codes "SYSTEM_ID") then Some policy.SystemId else (
    if bytes_eq w (codes "USER_ID") then Some policy.UserId else (
    if bytes_eq w (codes "NO_IMPLICIT_ACTIVATION") then Some policy.NoImplicit else (
    if bytes_eq w (codes "IMPLICIT_ACTIVATION") then Some policy.Implicit else (
    if bytes_eq w (codes "RETAIN") then Some policy.Retain else (
    if bytes_eq w (codes "NON_RETAIN") then Some policy.NonRetain else (
    if bytes_eq w (codes "USE_ACTIVE_OBJECT_MAP_ONLY") then Some policy.MapOnly else (
    if bytes_eq w (codes "USE_DEFAULT_SERVANT") then Some policy.DefaultServant else (
    if bytes_eq w (codes "USE_SERVANT_MANAGER") then Some policy.ServantManager else None)))))))))))))))

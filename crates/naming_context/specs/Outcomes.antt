-- The outcomes that have no members, and the ids of user exceptions (CosNaming).
use Rattle.std.specs.Prelude.{ℕ, List, codes, Bool, None, Some, ◌||◌}
use Rattle.std.specs.Str.{bytes_eq}
use Rattle.poa_base.specs.declared.Outcome.{Outcome}
use Rattle.poa_base.specs.declared.Outcome.TheVariants.{Value, User, System}
use Rattle.poa_base.specs.declared.Datum.TheVariants.{Flag}
use Rattle.poa_base.specs.declared.ExcName.TheVariants.{BadOperation, Marshal, ObjectNotExist, Transient}
use Rattle.poa_base.specs.declared.Completion.TheVariants.{No}
use Rattle.poa_base.specs.declared.minors.TheConstants.{BAD_ARGUMENTS, BAD_KEY, NOT_ACTIVE, UNKNOWN_OPERATION}
use Rattle.naming_context.specs.declared.outcomes.TheConstants.{NAMES_FULL}
use Rattle.naming_context.specs.declared.reason.Reason.{Reason}
use Rattle.naming_context.specs.declared.reason.Reason.TheVariants.{MissingNode, NotContext, NotObject}

-- the type id of a context
abbrev pub context_type : List ℕ
context_type = codes "IDL:omg.org/CosNaming/NamingContext:1.0"

-- a result without a value
abbrev pub nothing : Outcome
nothing = Value None

abbrev pub truth : Bool → Outcome
truth b = Value (Some (Flag b))

-- whether a context is of the type that is asked for: its own, or that of every object
abbrev pub is_a : List ℕ → Outcome
is_a asked = truth (bytes_eq asked context_type || bytes_eq asked (codes "IDL:omg.org/CORBA/Object:1.0"))

abbrev pub not_found_id : List ℕ
not_found_id = codes "IDL:omg.org/CosNaming/NamingContext/NotFound:1.0"

-- the number of a reason, in the order of NotFoundReason
abbrev pub reason_number : Reason → ℕ
reason_number MissingNode = 0
reason_number NotContext = 1
reason_number NotObject = 2

abbrev pub invalid_name : Outcome
invalid_name = User (codes "IDL:omg.org/CosNaming/NamingContext/InvalidName:1.0")

abbrev pub already_bound : Outcome
already_bound = User (codes "IDL:omg.org/CosNaming/NamingContext/AlreadyBound:1.0")

-- no more components can be bound, or no more contexts made
abbrev pub names_full : Outcome
names_full = System (record { name = Transient; minor = NAMES_FULL; done = No })

-- a context has no such operation
abbrev pub unknown_operation : Outcome
unknown_operation = System (record { name = BadOperation; minor = UNKNOWN_OPERATION; done = No })

-- the arguments can't be read
abbrev pub bad_arguments : Outcome
bad_arguments = System (record { name = Marshal; minor = BAD_ARGUMENTS; done = No })

-- the target is no spelling of a key, and the key is none of a context
abbrev pub no_key : Outcome
no_key = System (record { name = ObjectNotExist; minor = BAD_KEY; done = No })

abbrev pub no_context : Outcome
no_context = System (record { name = ObjectNotExist; minor = NOT_ACTIVE; done = No })

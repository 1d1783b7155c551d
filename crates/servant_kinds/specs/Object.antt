-- The type ids, and the operations that every object has.
use Rattle.std.specs.Prelude.{ℕ, false, ◌||◌, if◌then◌else◌, List, codes, Option, Some, None}
use Rattle.std.specs.Str.{bytes_eq}
use Rattle.poa_base.specs.declared.Body.{Body}
use Rattle.poa_base.specs.declared.State.{State}
use Rattle.poa_base.specs.declared.State.TheVariants.{Register, Book, Echo, Fault}
use Rattle.poa_base.specs.declared.Outcome.{Outcome}
use Rattle.poa_base.specs.declared.Outcome.TheVariants.{Value}
use Rattle.poa_base.specs.declared.Datum.TheVariants.{Flag}
use Rattle.servant_kinds.specs.Arguments.{text_of}
use Rattle.servant_kinds.specs.Exceptions.{unknown_operation, bad_arguments}

-- the repository id of each kind's interface
abbrev pub type_id_of : State → List ℕ
type_id_of (Register _) = codes "IDL:poad/Register:1.0"
type_id_of (Book _) = codes "IDL:poad/Log:1.0"
type_id_of Echo = codes "IDL:poad/Echo:1.0"
type_id_of Fault = codes "IDL:poad/Fault:1.0"

-- whether an object of this type id is one of the type that is asked for: its own, or that of every object
abbrev pub is_a : List ℕ → Option (List ℕ) → Outcome
is_a type_id None = bad_arguments
is_a type_id (Some asked) = Value (Some (Flag (bytes_eq asked type_id || bytes_eq asked (codes "IDL:omg.org/CORBA/Object:1.0"))))

-- the operations that every object has (CORBA 3.3 Part 1, 8.3); no other is known
abbrev pub object_outcome : List ℕ → List ℕ → Body → Outcome
object_outcome type_id operation body =
    if bytes_eq operation (codes "_is_a") then is_a type_id (text_of body)
    else if bytes_eq operation (codes "_non_existent") then Value (Some (Flag false))
    else unknown_operation

-- What each kind of servant does: the state after an operation, and its outcome.
use Rattle.std.specs.Prelude.{ℕ, if◌then◌else◌, List, codes, Option, Some, None}
use Rattle.std.specs.Str.{bytes_eq}
use Rattle.poa_base.specs.declared.Body.{Body}
use Rattle.poa_base.specs.declared.State.{State}
use Rattle.poa_base.specs.declared.State.TheVariants.{Register, Book, Echo, Fault}
use Rattle.poa_base.specs.declared.Outcome.{Outcome}
use Rattle.poa_base.specs.declared.Outcome.TheVariants.{Value}
use Rattle.poa_base.specs.declared.Datum.TheVariants.{Octets}
use Rattle.servant_kinds.specs.Arguments.{octets_of}
use Rattle.servant_kinds.specs.Exceptions.{bad_arguments, fault_outcome}
use Rattle.servant_kinds.specs.Object.{type_id_of, object_outcome}
use Rattle.servant_kinds.specs.Register.{register_act}
use Rattle.servant_kinds.specs.Log.{log_act}

-- the octets are given back
abbrev pub echo_argument : Option (List ℕ) → Outcome
echo_argument None = bad_arguments
echo_argument (Some octets) = Value (Some (Octets octets))

-- an echo: echo and ping
abbrev pub echo_act : List ℕ → Body → Outcome
echo_act operation body =
    if bytes_eq operation (codes "echo") then echo_argument (octets_of body)
    else if bytes_eq operation (codes "ping") then Value None
    else object_outcome (type_id_of Echo) operation body

-- what a servant does
abbrev pub act_of : State → List ℕ → Body → State × Outcome
act_of (Register v) operation body = let done = register_act v operation body in (Register done.0, done.1)
act_of (Book entries) operation body = let done = log_act entries operation body in (Book done.0, done.1)
act_of Echo operation body = (Echo, echo_act operation body)
act_of Fault operation body = (Fault, fault_outcome)

-- What a register does: `get`, `set` and `add`.
use Rattle.std.specs.Prelude.{ℕ, ◌^◌, ℤ, pos, negsuc, ◌+ℤ◌, nat_lt, Bool, if◌then◌else◌, List, codes, Option, Some, None}
use Rattle.std.specs.Str.{bytes_eq}
use Rattle.poa_base.specs.declared.Body.{Body}
use Rattle.poa_base.specs.declared.State.TheVariants.{Register}
use Rattle.poa_base.specs.declared.Outcome.{Outcome}
use Rattle.poa_base.specs.declared.Outcome.TheVariants.{Value}
use Rattle.poa_base.specs.declared.Datum.TheVariants.{Long}
use Rattle.servant_kinds.specs.Arguments.{longlong_of}
use Rattle.servant_kinds.specs.Exceptions.{bad_arguments, overflow}
use Rattle.servant_kinds.specs.Object.{type_id_of, object_outcome}

-- whether a number is a long long
abbrev pub is_longlong : ℤ → Bool
is_longlong (pos n) = nat_lt n (2 ^ 63)
is_longlong (negsuc n) = nat_lt n (2 ^ 63)

-- the number takes the place of the value
abbrev pub set_register : ℤ → Option ℤ → ℤ × Outcome
set_register v None = (v, bad_arguments)
set_register v (Some n) = (n, Value None)

-- the sum takes the place of the value, where it is a long long
abbrev pub add_register : ℤ → Option ℤ → ℤ × Outcome
add_register v None = (v, bad_arguments)
add_register v (Some n) = if is_longlong (v +ℤ n) then (v +ℤ n, Value (Some (Long (v +ℤ n)))) else (v, overflow)

-- the value after an operation, and its outcome
abbrev pub register_act : ℤ → List ℕ → Body → ℤ × Outcome
register_act v operation body =
    if bytes_eq operation (codes "get") then (v, Value (Some (Long v)))
    else if bytes_eq operation (codes "set") then set_register v (longlong_of body)
    else if bytes_eq operation (codes "add") then add_register v (longlong_of body)
    else (v, object_outcome (type_id_of (Register v)) operation body)

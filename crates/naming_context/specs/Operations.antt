-- The operations that a context has: those of CosNaming's `NamingContext` that are served, and of those that every object
-- has (CORBA 3.3 Part 1, 8.3) two.
use Rattle.std.specs.Prelude.{ℕ, List, codes, Option, Some, None, if◌then◌else◌}
use Rattle.std.specs.Str.{bytes_eq}
use Rattle.naming_context.specs.declared.operation.Operation.{Operation}
use Rattle.naming_context.specs.declared.operation.Operation.TheVariants.{Bind, Rebind, Resolve, Unbind, BindNewContext, IsA, NonExistent}

abbrev pub rarer_of : List ℕ → Option Operation
rarer_of word =
    if bytes_eq word (codes "bind_new_context") then Some BindNewContext
    else if bytes_eq word (codes "_is_a") then Some IsA
    else if bytes_eq word (codes "_non_existent") then Some NonExistent
    else None

-- the operation of a name
abbrev pub operation_of : List ℕ → Option Operation
operation_of word =
    if bytes_eq word (codes "bind") then Some Bind
    else if bytes_eq word (codes "rebind") then Some Rebind
    else if bytes_eq word (codes "resolve") then Some Resolve
    else if bytes_eq word (codes "unbind") then Some Unbind
    else rarer_of word

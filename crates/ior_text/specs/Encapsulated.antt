-- An encapsulation: CORBA 3.3 Part 2, 9.3.3.
use Rattle.std.specs.Prelude.{ℕ, nat_lt, ◌==◌, if◌then◌else◌, List, [], ◌∷◌, Option, Some, None}
use Rattle.cdr_core.specs.Cursor.{Cursor}

-- behind the octet of its byte order, which is a boolean: 0 for big-endian, 1 for little-endian
abbrev pub inside : List ℕ → Option Cursor
inside [] = None
inside (order ∷ rest) = if nat_lt 1 order then None else Some (record { little = order == 1; place = 1; rest = rest })

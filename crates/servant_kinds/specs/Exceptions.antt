-- The exceptions that servants raise (CORBA 3.3 Part 1, 8.12). No completion but that of a fault servant is MAYBE.
use Rattle.std.specs.Prelude.{codes}
use Rattle.poa_base.specs.declared.Outcome.{Outcome}
use Rattle.poa_base.specs.declared.Outcome.TheVariants.{User, System}
use Rattle.poa_base.specs.declared.ExcName.TheVariants.{BadOperation, Marshal, Unknown}
use Rattle.poa_base.specs.declared.Completion.TheVariants.{No, Maybe}
use Rattle.poa_base.specs.declared.minors.TheConstants.{UNKNOWN_OPERATION, BAD_ARGUMENTS, FAULT_SERVANT}

-- the servant has no operation of this name
abbrev pub unknown_operation : Outcome
unknown_operation = System (record { name = BadOperation; minor = UNKNOWN_OPERATION; done = No })

-- the arguments can't be read
abbrev pub bad_arguments : Outcome
bad_arguments = System (record { name = Marshal; minor = BAD_ARGUMENTS; done = No })

-- what a fault servant answers
abbrev pub fault_outcome : Outcome
fault_outcome = System (record { name = Unknown; minor = FAULT_SERVANT; done = Maybe })

-- the sum is no long long
abbrev pub overflow : Outcome
overflow = User (codes "IDL:poad/Overflow:1.0")

-- the log has no room for the entry
abbrev pub full : Outcome
full = User (codes "IDL:poad/Full:1.0")

-- the log has no entry of this number
abbrev pub out_of_range : Outcome
out_of_range = User (codes "IDL:poad/Range:1.0")

-- Why a view refuses is why a reader does.
use Rattle.cdr_core.specs.declared.fault.CdrFault.{CdrFault}
use Rattle.cdr_core.specs.declared.fault.CdrFault.TheVariants as reader
use Rattle.cdr_core.specs.declared.part_fault.PartFault.{PartFault}
use Rattle.cdr_core.specs.declared.part_fault.PartFault.TheVariants.{Short, BadBool, NoNul}

abbrev pub refusal : PartFault → CdrFault
refusal (Short need have) = reader.Short need have
refusal (BadBool value) = reader.BadBool value
refusal NoNul = reader.NoNul

-- What a minor code tells: CORBA 3.3 Part 1, A.5.
use Rattle.std.specs.Prelude.{ℕ, ◌==◌, if◌then◌else◌}
use Rattle.poa_base.specs.declared.exception.Completion.{Completion}
use Rattle.poa_base.specs.declared.exception.Completion.TheVariants.{Maybe, No}
use Rattle.poa_base.specs.declared.minors.TheConstants.{FAULT_SERVANT}

-- whether the operation had ended, by the minor code alone: it may have where a servant failed
abbrev pub completion_of : ℕ → Completion
completion_of minor = if minor == FAULT_SERVANT then Maybe else No

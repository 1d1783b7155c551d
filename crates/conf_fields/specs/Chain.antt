-- One step of reading after another: `do` over an answer that may be a fault.
use Rattle.std.specs.Prelude.{Result, Ok, Err}
use Rattle.conf_fields.specs.declared.fault.ConfFault.{ConfFault}

infixl 10 ◌>>=◌
abbrev pub ◌>>=◌ : {A B : Type 0} → Result A ConfFault → (A → Result B ConfFault) → Result B ConfFault
Ok x >>= f = f x
Err fault >>= f = Err fault

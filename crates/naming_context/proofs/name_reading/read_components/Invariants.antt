use Rattle.naming_context.proofs.NameReading.{HasRead}
use Rattle.naming_context.proofs.name_reading.read_components.Given as goal

-- so many components were read
abbrev pub invariant-loop : goal.invariant-loop
invariant-loop l = HasRead l.counter l.name l.fn.reader l.reader

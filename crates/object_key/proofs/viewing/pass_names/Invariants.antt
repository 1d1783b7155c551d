use Rattle.object_key.specs.Reading.{KeyReads, AreNames, names_bytes, names_of}
use Rattle.object_key.proofs.viewing.pass_names.Given as goal

-- the names so far stand at the front
abbrev pub invariant-loop : goal.invariant-loop
invariant-loop l = KeyReads names_bytes (AreNames l.counter) (names_of l.counter l.fn.unread) l.fn.unread l.unread

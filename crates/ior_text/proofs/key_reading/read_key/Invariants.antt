use Rattle.std.proofs.Common.{length}
use Rattle.ior_text.proofs.KeyStrings.{ReadSome}
use Rattle.ior_text.proofs.key_reading.read_key.Given as goal

abbrev pub invariant-loop-rest : goal.invariant-loop-rest
invariant-loop-rest l = ReadSome (length l.text) l.key_string l.rest l.key.items

abbrev pub decreases-loop-rest : goal.decreases-loop-rest
decreases-loop-rest l = length l.rest

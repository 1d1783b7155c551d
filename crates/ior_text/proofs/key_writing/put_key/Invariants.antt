use Rattle.std.proofs.Common.{◌≡◌, ◌++◌, drop}
use Rattle.ior_text.specs.KeyString.{key_text}
use Rattle.ior_text.proofs.key_writing.put_key.Given as goal

abbrev pub invariant-loop-byte : goal.invariant-loop-byte
invariant-loop-byte l = l.text.items ++ key_text (drop l.byte-index l.key) ≡ l.initial.text.items ++ key_text l.key

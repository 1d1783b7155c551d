use Rattle.std.proofs.Common.{◌≡◌, drop}
use Rattle.std.specs.Prelude.{fold}
use Rattle.poa_base.specs.Templates.{with_byte}
use Rattle.poa_base.proofs.templates.with_bytes.Given as goal

abbrev pub invariant-loop-byte : goal.invariant-loop-byte
invariant-loop-byte l = fold with_byte l.sum (drop l.byte-index l.bytes) ≡ fold with_byte l.digest l.bytes

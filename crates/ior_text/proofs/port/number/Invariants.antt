use Rattle.std.proofs.Common.{◌≡◌, ◌<◌, ◌^◌, drop}
use Rattle.ior_text.specs.Endpoint.{read_on}
use Rattle.ior_text.proofs.port.number.Given as goal

abbrev pub invariant-loop-byte : goal.invariant-loop-byte
invariant-loop-byte l = (read_on l.n (drop l.byte-index l.word) ≡ read_on 0 l.word) × (l.n < 2 ^ 16)

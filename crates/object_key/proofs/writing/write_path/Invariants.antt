use Rattle.std.proofs.Common.{◌≡◌, ◌++◌, ◌∷◌, take, length}
use Rattle.std.specs.Prelude.{All}
use Rattle.poa_base.specs.Limits.{IsName}
use Rattle.object_key.specs.Reading.{names_bytes}
use Rattle.object_key.proofs.writing.write_path.Given as goal

-- the names so far are written, and within their limits
abbrev pub invariant-loop-name : goal.invariant-loop-name
invariant-loop-name l = record {
  bytes : l.out.items ≡ l.fn.out.items ++ (length l.names ∷ names_bytes (take l.name-index l.names));
  names : All IsName (take l.name-index l.names);
}

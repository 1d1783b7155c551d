use Rattle.std.proofs.Common.{◌≡◌, [], Some, drop}
use Rattle.poad_audit.specs.PictureLanes.{numbers_by}
use Rattle.poad_audit.proofs.picture.numbers.connections_in.Given as goal

abbrev pub invariant-loop-name : goal.invariant-loop-name
invariant-loop-name l =
    numbers_by (λ name. Some name.conn) l.known.items (drop l.name-index l.names) ≡ numbers_by (λ name. Some name.conn) [] l.names

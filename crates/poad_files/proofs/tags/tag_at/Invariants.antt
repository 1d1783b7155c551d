use Rattle.std.proofs.Common.{◌≡◌, drop}
use Rattle.poad_files.specs.Tags as spec
use Rattle.poad_files.proofs.tags.tag_at.Given as goal

-- the entries so far have other paths
abbrev pub invariant-loop-adapter : goal.invariant-loop-adapter
invariant-loop-adapter l = spec.tag_at (drop l.adapter-index l.adapters) l.path ≡ spec.tag_at l.adapters l.path

use Rattle.std.proofs.Common.{◌≡◌, take}
use Rattle.cdr_core.specs.Fields.{with_fields}
use Rattle.naming_context.specs.Names.{components_fields}
use Rattle.naming_context.proofs.replying.put_components.Given as goal

-- the components so far are written
abbrev pub invariant-loop-component : goal.invariant-loop-component
invariant-loop-component l = l.writer ≡ with_fields (components_fields (take l.component-index l.name)) l.fn.writer

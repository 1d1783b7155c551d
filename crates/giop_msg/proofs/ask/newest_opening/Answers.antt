-- The fields follow one another.
use Rattle.std.proofs.Common.{ap, ◌∙◌}
use Rattle.cdr_core.specs.Field.{octet, ulong}
use Rattle.cdr_core.specs.Draft.{with_field}
use Rattle.giop_msg.proofs.ask.newest_opening.Goals as goal

pub returns-clause-fields : goal.returns-clause-fields
returns-clause-fields c =
    c.in_ok-octet-4.ensures.ok
    ∙ ap (with_field (octet 0)) (c.in_ok-octet-3.ensures.ok
    ∙ ap (with_field (octet 0)) (c.in_ok-octet-2.ensures.ok
    ∙ ap (with_field (octet 0)) (c.in_ok-octet.ensures.ok
    ∙ ap (with_field (octet c.args.flags)) (c.in_ok-ulong.ensures.ok
    ∙ ap (with_field (ulong c.args.id)) c.new-writer.ensures))))

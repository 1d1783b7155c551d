use Rattle.std.proofs.Common.{◌∙◌}
use Rattle.naming_context.proofs.Served.{not_found_framed, not_found_written}
use Rattle.naming_context.proofs.replying.not_found_message.Goals as goal

pub returns : goal.returns
returns c =
    not_found_framed c.framed.result c.args.head.now c.args.why c.args.rest.now c.put_name.new.writer c.deref.result.now c.requires
    (not_found_written c.args.head.now c.args.why c.args.rest.now c.new-writer.result c.put_opening.new.writer c.put_text.new.self c.ulong.new.self c.put_name.new.writer c.number.result
    c.new-writer.ensures c.in_ok-put_opening.ensures c.in_ok-put_text.ensures.ok c.number.ensures c.in_ok-ulong.ensures.ok c.in_ok-put_name.ensures)
    (c.deref.ensures.value ∙ c.into_bytes.ensures) c.framed.ensures

use Rattle.core_outboxes.proofs.Put.{awaited_less, filed_at, is_there}
use Rattle.core_outboxes.proofs.outboxes.file_in.Goals as goal

pub returns-clause-replies : goal.returns-clause-replies
returns-clause-replies c =
    filed_at c.args.boxes.now.items c.args.filed.conn c.index_mut.result.now c.file.new.self c.args.filed
    (is_there c.args.boxes.now.items c.args.filed.conn c.requires) c.index_mut.ensures.value c.file.ensures.replies

pub returns-clause-awaited : goal.returns-clause-awaited
returns-clause-awaited c =
    awaited_less c.args.boxes.now.items c.args.filed.conn c.index_mut.result.now c.file.new.self
    (is_there c.args.boxes.now.items c.args.filed.conn c.requires) c.index_mut.ensures.value c.file.ensures.awaited

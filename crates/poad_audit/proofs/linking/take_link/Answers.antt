use Rattle.command_words.specs.Auditing.{seen_link}
use Rattle.poad_audit.proofs.Audited.{second_untaken}
use Rattle.poad_audit.proofs.linking.take_link.Goals as goal

pub returns-in-Err-take-clause-taken : goal.returns-in-Err-take-clause-taken
returns-in-Err-take-clause-taken g c =
    second_untaken (seen_link c.args.names) c.in-Err-take.status c.in-Ok.input (g.F.Files.contents c.args.files.now) (g.F.Files.contents c.take.new.files)
    (g.F.Files.contents c.take-2.new.files) c.in-Ok.ensures.taken c.take.ensures.contents c.take-2.ensures.contents c.in-Err-take.ensures.taken

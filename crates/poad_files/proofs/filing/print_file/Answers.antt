use Rattle.poad_files.proofs.Files.{filed_read}
use Rattle.poad_files.proofs.filing.print_file.Goals as goal

pub returns-in-Ok-clause-filed : goal.returns-in-Ok-clause-filed
returns-in-Ok-clause-filed g c =
    filed_read c.args.asked c.args.name.now c.in-Ok.content _ c.print_content.result _ _ _ _ c.as_slice.ensures c.in-Ok.ensures.taken
    c.print_content.ensures.printed

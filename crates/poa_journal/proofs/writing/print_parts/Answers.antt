use Rattle.std.proofs.Common.{◌∙◌, ◌∷◌, map}
use Rattle.poa_base.specs.Store.{states}
use Rattle.poa_journal.specs.Entry.{entry_tokens}
use Rattle.poa_journal.specs.Row.{row_tokens}
use Rattle.poa_journal.specs.Journal.{head_tokens}
use Rattle.poa_journal.proofs.Printed.{printed}
use Rattle.poa_journal.proofs.writing.print_parts.Goals as goal

pub returns : goal.returns
returns c =
    c.from_vec.ensures
    ∙ printed (head_tokens c.args.run ∷ map row_tokens (states c.args.opening.now))
    (map entry_tokens c.args.entries.now.items) _ _ c.in_ok-out.ensures c.in_ok-put_kept.ensures

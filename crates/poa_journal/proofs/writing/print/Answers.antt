use Rattle.std.proofs.Common.{◌∙◌, ◌∷◌, ◌++◌, ap, map}
use Rattle.poa_base.specs.Store.{states}
use Rattle.poa_journal.specs.Entry.{entry_tokens}
use Rattle.poa_journal.specs.Row.{row_tokens}
use Rattle.poa_journal.specs.Journal.{head_tokens, text_of}
use Rattle.poa_journal.proofs.Printed.{printed}
use Rattle.poa_journal.proofs.writing.print.Goals as goal

pub returns : goal.returns
returns c =
    c.from_vec.ensures
    ∙ printed (head_tokens c.args.journal.now.run ∷ map row_tokens (states c.args.journal.now.opening))
    (map entry_tokens c.args.journal.now.entries) _ _ c.in_ok-out.ensures
    (c.in_ok-put_entries.ensures ∙ ap (λ es. c.in_ok-out.out.items ++ text_of (map entry_tokens es)) c.as_slice.ensures)

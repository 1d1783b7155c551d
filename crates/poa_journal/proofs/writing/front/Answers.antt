use Rattle.std.proofs.Common.{◌∙◌, ◌∷◌, [], ◌++◌, ap, map}
use Rattle.poa_base.specs.Rows.{row_seen}
use Rattle.poa_base.specs.Store.{states}
use Rattle.poa_journal.specs.Row.{row_tokens}
use Rattle.poa_journal.specs.Journal.{head_tokens, text_of}
use Rattle.poa_journal.proofs.Printed.{printed}
use Rattle.poa_journal.proofs.writing.front.Goals as goal

pub returns : goal.returns
returns c =
    printed (head_tokens c.args.run ∷ []) (map row_tokens (states c.args.opening.now)) _ _ c.in_ok-out.ensures
    (c.in_ok-put_rows.ensures ∙ ap (λ rows. c.in_ok-out.out.items ++ text_of (map row_tokens rows))
    (ap (map row_seen) c.as_slice.ensures.value ∙ c.in_ok-rows.ensures))

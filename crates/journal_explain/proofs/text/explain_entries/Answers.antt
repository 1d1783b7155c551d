use Rattle.journal_explain.proofs.Told.{explained}
use Rattle.journal_explain.proofs.text.explain_entries.Goals as goal

pub returns : goal.returns
returns c =
    let first = c.in_ok-explainer.explainer in
    let last = c.hear_lines-heard.new.explainer in
    let found = c.found_by-found in
    explained c.args.config c.args.limit c.args.asked c.args.run c.args.opening first last c.in_ok-explainer.ensures.run c.in_ok-heard.field-0
    c.in_ok-heard.ensures c.in_ok-explainer.ensures.asked c.requires.room found.result found.ensures.line found.ensures.refusal
    found.ensures.watch

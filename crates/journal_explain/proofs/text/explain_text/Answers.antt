use Rattle.text_words.specs.Cuts.{lines_of}
use Rattle.journal_explain.proofs.text.explain_text.Goals as goal

pub returns : goal.returns
returns c = c.explain_entries.ensures c.args.text.now (record {
  head = c.in-Some.head.now;
  rows = lines_of c.in-Some.rest.now;
  lines = c.in-Some.ensures.lines;
  run_is = c.in_ok-run.ensures.value;
  opening_is = c.in_ok-opening.ensures.value;
})

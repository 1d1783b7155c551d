use Rattle.std.proofs.Common.{sym, ◌∙◌}
use Rattle.command_words.specs.Serving.{seen_serve}
use Rattle.poad_cmd.proofs.Kept.{kept}
use Rattle.poad_cmd.proofs.putting.put_files.Goals as goal

pub returns-clause-kept : goal.returns-clause-kept
returns-clause-kept g c done = kept (seen_serve c.args.words.now) c.args.core.now c.put_state-state.result c.put_journal-journal.result _ _ _ c.requires
    c.put_state-state.ensures.puts c.put_journal-journal.ensures.puts (sym c.both.ensures ∙ done)

use Rattle.std.proofs.Common.{reverse, ◌∷◌, sym, ◌∙◌}
use Rattle.std.proofs.lemmas.List.{length-reverse}
use Rattle.poa_history.proofs.MannedKept.{all_manned}
use Rattle.history_laws.proofs.Opened.{given, alone, within}
use Rattle.core_run.proofs.tables.Tables.advance.Goals as goal

pub returns : goal.returns
returns c = λ conf run limit follows begun freed known.
    let past = reverse c.args.entries.now.items in
    let given_ = given conf run limit (c.args.entry.now ∷ past) follows in
    let alone_ = alone conf run limit (c.args.entry.now ∷ past) follows in
    let within_ = within conf run limit (c.args.entry.now ∷ past) follows in
    record {
      calls = c.advance-5.ensures past (c.len.ensures ∙ sym (length-reverse c.args.entries.now.items)) known.calls;
      queue = c.advance-2.ensures conf run limit past follows.legal.0 (all_manned conf run limit past given_ alone_ within_ follows.legal.1)
          known.tally.calls begun (c.call_tried-tried.ensures known.calls begun) known.queue;
      held = c.advance-3.ensures.held conf run limit past given_ alone_ within_ follows.legal known.tally.calls begun freed known.held;
      workers = c.advance-4.ensures past known.workers;
      tally = c.advance.ensures conf run limit past follows.legal follows.limited (c.call_admitted-admitted.ensures known.calls) known.tally;
    }

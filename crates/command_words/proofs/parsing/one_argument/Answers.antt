use Rattle.std.proofs.Common.{Some, ap, ◌∙◌, rules, sym}
use Rattle.command_words.proofs.One.{one_refused_by, one_taken_by}
use Rattle.command_words.proofs.parsing.one_argument.Goals as goal

pub returns-in_err-matches-clause-bad : goal.returns-in_err-matches-clause-bad
returns-in_err-matches-clause-bad c e = one_refused_by _ c.args.name.now c.args.is_required _ c.in-Ok.ensures (c.in_err-matches.ensures.bad (search rules))

pub returns-clause-ok : goal.returns-clause-ok
returns-clause-ok c = one_taken_by _ c.args.name.now c.args.is_required _ _ c.in-Ok.ensures c.in_ok-matches.ensures.ok ∙ ap Some (sym c.get_str.ensures)

use Rattle.std.proofs.Common.{◌≡◌, ◌∙◌, None, Some, ap, option_map, rules, sym}
use Rattle.std.specs.Borrow.{Bor}
use Rattle.clap.specs.Words.{Text}
use Rattle.command_words.proofs.Two.{both_there, two_refused_by, two_taken_by}
use Rattle.command_words.proofs.parsing.two_arguments.Goals as goal

pub returns-in_err-matches-clause-bad : goal.returns-in_err-matches-clause-bad
returns-in_err-matches-clause-bad c e = two_refused_by _ c.args.name.now _ c.in-Ok.ensures (c.in_err-matches.ensures.bad (search rules))

pub returns-in_err-first-clause-bad : goal.returns-in_err-first-clause-bad
returns-in_err-first-clause-bad c e =
    let none : c.get_str.result ≡ None = search rules in
    absurd ((both_there _ c.args.name.now _ _ c.in-Ok.ensures c.in_ok-matches.ensures.ok).0
    (sym c.get_str.ensures ∙ ap (option_map (λ (s : Bor Text). s.now)) none))

pub returns-in_err-second-clause-bad : goal.returns-in_err-second-clause-bad
returns-in_err-second-clause-bad c e =
    let none : c.get_str-2.result ≡ None = search rules in
    absurd ((both_there _ c.args.name.now _ _ c.in-Ok.ensures c.in_ok-matches.ensures.ok).1
    (sym c.get_str-2.ensures ∙ ap (option_map (λ (s : Bor Text). s.now)) none))

pub returns-clause-ok : goal.returns-clause-ok
returns-clause-ok c =
    let first : c.get_str.result ≡ Some c.in_ok-first.first = search rules in
    let second : c.get_str-2.result ≡ Some c.in_ok-second.second = search rules in
    two_taken_by _ c.args.name.now _ _ c.in_ok-first.first.now c.in_ok-second.second.now c.in-Ok.ensures c.in_ok-matches.ensures.ok
    (sym c.get_str.ensures ∙ ap (option_map (λ (s : Bor Text). s.now)) first)
    (sym c.get_str-2.ensures ∙ ap (option_map (λ (s : Bor Text). s.now)) second)

use Rattle.std.proofs.Common.{◌≡◌, subst, arith}
use Rattle.std.proofs.lemmas.List.{length-map}
use Rattle.conf_fields.specs.Numbers.{find_in, noted}
use Rattle.conf_fields.proofs.Finds.{noted_next}
use Rattle.conf_toml.specs.Servants.{servant_names}
use Rattle.conf_toml.proofs.Counting.{servant_names_more}
use Rattle.conf_toml.proofs.KeptRows.{servant_keeps}
use Rattle.conf_toml.proofs.servant.ServantRowsReader.next.Goals as goal

pub returns-clause-rule : goal.returns-clause-rule
returns-clause-rule c =
    let servant = c.in_ok-servant.ensures in
    servant_keeps c.args._done.now c.in_ok-servant.servant (find_in c.args.numbers.now) c.requires.noted servant.fresh servant.named

pub returns-clause-noted : goal.returns-clause-noted
returns-clause-noted c =
    let done = c.args._done.now in
    let servant = c.in_ok-servant.servant in
    let old = find_in c.args.numbers.now in
    let new = find_in c.note.new.numbers in
    rw (servant_names_more done servant)
    (noted_next old new (servant_names done) servant.name c.args.i (omega (arith, length-map done (λ x. x.name), c.requires.index)) c.requires.noted
    c.in_ok-servant.ensures.fresh (subst (λ name. new ≡ noted name c.args.i old) c.in_ok-servant.ensures.name c.in_ok-note.ensures.noted))

use Rattle.std.proofs.Common.{◌≡◌, ◌+◌, subst, arith}
use Rattle.std.proofs.lemmas.List.{length-map}
use Rattle.conf_fields.specs.Numbers.{find_in, noted}
use Rattle.conf_fields.proofs.Finds.{noted_next}
use Rattle.conf_toml.specs.Managers.{manager_names}
use Rattle.conf_toml.proofs.Counting.{manager_names_more}
use Rattle.conf_toml.proofs.KeptRows.{manager_keeps}
use Rattle.conf_toml.proofs.manager.ManagerRowsReader.next.Goals as goal

pub returns-clause-rule : goal.returns-clause-rule
returns-clause-rule c =
    let manager = c.in_ok-manager.ensures in
    manager_keeps c.args._done.now c.in_ok-manager.manager (find_in c.args.numbers.now) c.requires.noted manager.fresh manager.named

pub returns-clause-noted : goal.returns-clause-noted
returns-clause-noted c =
    let done = c.args._done.now in
    let manager = c.in_ok-manager.manager in
    let old = find_in c.args.numbers.now in
    let new = find_in c.note.new.numbers in
    rw (manager_names_more done manager)
    (noted_next old new (manager_names done) manager.name (c.args.i + 1) (omega (arith, length-map done (λ x. x.name), c.requires.index)) c.requires.noted
    c.in_ok-manager.ensures.fresh (subst (λ name. new ≡ noted name (c.args.i + 1) old) c.in_ok-manager.ensures.name c.in_ok-note.ensures.noted))

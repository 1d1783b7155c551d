use Rattle.std.proofs.Common.{ap, sym, ◌∙◌, subst}
use Rattle.object_key.specs.Reading.{KeyReads, AreNames, names_bytes}
use Rattle.object_key.proofs.Names.{passed_names}
use Rattle.object_key.proofs.viewing.view_names.Goals as goal

pub returns-clause-some : goal.returns-clause-some
returns-clause-some c =
    let read = c.in_ok-pass_names.ensures.some in
    subst (λ ns. KeyReads names_bytes (AreNames c.args.count) ns c.args.unread.now c.pass_names.new.unread)
    (sym (passed_names _ _ _ _ read (c.passed.ensures _ (c.rest-text.ensures ∙ read.begins)))) read

pub returns-clause-whole : goal.returns-clause-whole
returns-clause-whole c =
    let read = c.in_ok-pass_names.ensures.some in
    let is = c.passed.ensures _ (c.rest-text.ensures ∙ read.begins) in
    ap names_bytes (passed_names _ _ _ _ read is) ∙ sym is

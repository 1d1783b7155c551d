use Rattle.std.proofs.Common.{◌≡◌, sym, subst}
use Rattle.std.specs.Prelude.{IfOk}
use Rattle.object_key.specs.Spelling.{TagsPersistent}
use Rattle.history_standing.specs.Reference.{reference_text as reference_at}
use Rattle.history_standing.specs.References as references
use Rattle.core_turns.proofs.Referred.{tags_persistent}
use Rattle.core_turns.proofs.references.reference_text.Goals as goal

pub write_reference-requires : goal.write_reference-requires
write_reference-requires c =
    subst TagsPersistent (sym c.in_ok-key.ensures)
    (tags_persistent c.args.config.now c.args.run c.args.number c.args.path.now c.args.oid.now)

pub returns : goal.returns
returns c =
    subst (λ k. IfOk c.write_reference.result
    (λ text. text ≡ reference_at (record { host = c.args.config.now.host; port = c.args.config.now.port })
    (references.type_of c.args.config.now c.args.servant) k)) c.in_ok-key.ensures
    (subst (λ t. IfOk c.write_reference.result
    (λ text. text ≡ reference_at (record { host = c.args.config.now.host; port = c.args.config.now.port }) t c.in_ok-key.key)) c.type_of.ensures
    (subst (λ e. IfOk c.write_reference.result (λ text. text ≡ reference_at e c.type_of.result.now c.in_ok-key.key)) c.in_ok-endpoint.ensures
    c.write_reference.ensures))

-- The reference is that of the forward.
use Rattle.std.proofs.Common.{◌≡◌, ℕ, List, subst}
use Rattle.std.specs.Prelude.{OnOk}
use Rattle.cdr_core.specs.Fields.{with_fields}
use Rattle.ior_text.specs.Profile.{profile_of}
use Rattle.giop_answer.specs.Reply.{reference_fields}
use Rattle.giop_answer.proofs.reply.put_body.Goals as goal

pub returns-in-Forward-clause-ok : goal.returns-in-Forward-clause-ok
returns-in-Forward-clause-ok c =
    rw c.in-Forward.is
    (subst (λ (key : List ℕ). OnOk c.put_reference.result
    (c.put_reference.new.writer ≡ with_fields (reference_fields (profile_of c.in-Forward.endpoint key)) c.args.writer.now)) c.as_slice.ensures
    c.put_reference.ensures.ok)

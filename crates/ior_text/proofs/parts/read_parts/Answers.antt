use Rattle.std.proofs.Common.{sym, ◌∙◌, ap}
use Rattle.ior_text.specs.declared.body.ProfileBody.{ProfileBody}
use Rattle.ior_text.specs.Encapsulated.{inside}
use Rattle.ior_text.specs.Body.{HasBody}
use Rattle.ior_text.specs.Parts.{HasParts}
use Rattle.ior_text.proofs.Bodies.{no_body, unread}
use Rattle.ior_text.proofs.parts.read_parts.Goals as goal

pub returns-in-Err : goal.returns-in-Err
returns-in-Err c =
    no_body ((body : ProfileBody) → HasBody c.args.profile.now body → ⊥)
    (HasParts c.args.profile.now) c.in-Err.fault _ c.unreadable.ensures.none c.unreadable.ensures.other
    (λ other. unread _ _ (sym (c.in-Some.ensures ∙ ap inside c.as_slice.ensures)) (c.in-Err.ensures.bad other))

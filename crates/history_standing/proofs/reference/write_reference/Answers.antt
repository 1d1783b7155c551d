use Rattle.std.proofs.Common.{◌≡◌, IfOk, subst}
use Rattle.poa_base.specs.declared.Ior.{Ior}
use Rattle.ior_text.specs.Written.{ior_text}
use Rattle.history_standing.proofs.reference.write_reference.Goals as goal

pub returns : goal.returns
returns c = subst (λ (ior : Ior). IfOk c.write_ior.result (λ text. text ≡ ior_text ior)) c.in_ok-reference.ensures c.write_ior.ensures.text

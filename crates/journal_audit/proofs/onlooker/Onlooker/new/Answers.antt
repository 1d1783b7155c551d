use Rattle.std.proofs.Common.{[], List, ℕ, refl, subst}
use Rattle.session_laws.specs.declared.peer.Peer.TheVariants.{Client, Administrator}
use Rattle.journal_audit.specs.Listening.{Listens, Writes}
use Rattle.journal_audit.proofs.Looked.{looks_none}
use Rattle.journal_audit.proofs.onlooker.Onlooker.new.Goals as goal

pub returns-clause-looks : goal.returns-clause-looks
returns-clause-looks c = λ life none.
    looks_none life _ none
    (subst (λ (text : List ℕ). Listens Client text [] c.new-client.result) c.input.ensures c.new-client.ensures)
    (subst (λ (text : List ℕ). Listens Administrator text [] c.new-administrator.result) c.input-2.ensures c.new-administrator.ensures)
    refl refl (subst (λ (text : List ℕ). Writes text [] c.new-written.result) c.output.ensures c.new-written.ensures)

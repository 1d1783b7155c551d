use Rattle.std.proofs.Common.{◌≡◌, ap, sym, subst, ◌∙◌}
use Rattle.poa_base.specs.declared.Entry.{Entry as EntryOf}
use Rattle.held_queue.specs.Frees as frees
use Rattle.poa_history.specs.Entries.{stage_at}
use Rattle.core_standing.specs.Seen.{seen}
use Rattle.core_run.proofs.FreesAs.{etherealizing_kept}
use Rattle.core_run.proofs.freeing.freed_by.Goals as goal

pub returns-in-Etherealized : goal.returns-in-Etherealized
returns-in-Etherealized c = λ conf run past answers begun.
    subst (λ (e : EntryOf). c.args.begun ≡ stage_at past e → c.etherealizing.result ≡ frees.freed_by conf run past e) (sym c.in-Etherealized.is)
    (λ at. c.etherealizing.ensures
    ∙ (ap (λ b. frees.etherealizing (seen c.args.standing.now) b) at
    ∙ etherealizing_kept conf run past (seen c.args.standing.now) answers c.in-Etherealized.worker)) begun

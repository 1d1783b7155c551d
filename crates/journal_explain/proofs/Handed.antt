-- The reply that is collected with an entry is the one that is told.
use Rattle.std.proofs.Common.{◌≡◌, ℕ, ◌==◌, if◌then◌else◌, Option, Some, None, sym, ◌∙◌, ap, subst}
use Rattle.poa_base.specs.declared.Entry.{Entry}
use Rattle.poa_base.specs.declared.Entry.TheVariants.{Collect}
use Rattle.poa_base.specs.declared.Reply.{Reply}
use Rattle.poa_history.specs.Life.{Life, opened}
use Rattle.poa_history.specs.Replies.{reply_of}
use Rattle.core_outboxes.specs.declared.filed.Filed.{Filed}
use Rattle.journal_audit.specs.declared.Refusal.{Refusal}
use Rattle.journal_audit.specs.Judging.{GivesBack, GivesBackIt}
use Rattle.journal_explain.specs.declared.event.Event.{Event}
use Rattle.journal_explain.specs.Stories.{collected, collected_by}
use Rattle.journal_explain.specs.Watching.{handed_to, is_collect}

abbrev nothing : Option Event
nothing = None

handed_one : (life : Life) (conn a : ℕ) (given : Option Filed) → GivesBackIt life conn a None given → (r : ℕ)
    → handed_to given r ≡ (if a == r then collected (reply_of life.config life.run (opened life) life.history a) else None)
handed_one life conn a None gives r = absurd gives
handed_one life conn a (Some f) gives r =
    let reply_to = reply_of life.config life.run (opened life) life.history in
    ap (λ (k : ℕ). if k == r then collected (Some f.reply) else nothing) gives.named
    ∙ ap (λ (o : Option Reply). if a == r then collected o else nothing) (sym gives.filed.reply ∙ ap reply_to gives.named)

pub handed : (life : Life) (e : Entry) (refusal : Option Refusal) (followed given : Option Filed) → refusal ≡ None
    → GivesBack e life refusal followed → given ≡ (if is_collect e then followed else None) → (r : ℕ)
    → handed_to given r ≡ collected_by life.config life.run (opened life) life.history e r
handed life (Collect conn a) refusal followed given none gives is r =
    ap (λ (o : Option Filed). handed_to o r) is
    ∙ handed_one life conn a followed (subst (λ (x : Option Refusal). GivesBackIt life conn a x followed) none gives) r
handed life e refusal followed given none gives is r = ap (λ (o : Option Filed). handed_to o r) is

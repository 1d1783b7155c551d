-- An entry is taken into a run where it may follow, and else refused; and the reply that is collected with one.
use Rattle.std.specs.Prelude.{◌≡◌, ℕ, ⊤, Bool, true, false, Option, Some, None}
use Rattle.poa_base.specs.declared.Entry.{Entry}
use Rattle.poa_base.specs.declared.Entry.TheVariants.{Arrive, Collect}
use Rattle.history_standing.specs.Arrivals.{call_of}
use Rattle.poa_history.specs.Fits.{FitsCall}
use Rattle.poa_history.specs.Legal.{MayFollow}
use Rattle.poa_history.specs.Life.{Life, with_entry, givens_of, opened}
use Rattle.poa_history.specs.Replies.{next_reply}
use Rattle.core_outboxes.specs.Decided.{IsFiled}
use Rattle.core_outboxes.specs.declared.filed.Filed.{Filed}
use Rattle.journal_audit.specs.declared.breach.Breach.{Breach}
use Rattle.journal_audit.specs.declared.judged.Judged.{Judged}
use Rattle.journal_audit.specs.declared.judged.Judged.TheVariants.{Taken, Refused}
use Rattle.journal_audit.specs.declared.refusal.Refusal.{Refusal}
use Rattle.journal_audit.specs.Rules.{rule_of, due_of}

-- the entry may follow what happened in the run
abbrev pub Follows : Life → Entry → Type 0
Follows life e = MayFollow life.config life.run life.limit life.history e

-- it may not: the rule that it breaks, and what would have been allowed
pub record IsBreach (life : Life) (e : Entry) (b : Breach) : Type 0 where
  pub refused : Follows life e → ⊥
  pub broken : b.rule ≡ rule_of life.history e
  pub allowed : b.due ≡ due_of life.config life.run life.history e

-- the refusal of an entry at this place
abbrev pub placed : ℕ → Breach → Refusal
placed place b = record { entry = place; rule = b.rule; due = b.due }

-- the entry was taken into the run, or it may not follow, and what the run was given is the same
abbrev pub Judges : Entry → Life → Option Breach → Life → Type 0
Judges e old None new = Follows old e × (new ≡ with_entry e old)
Judges e old (Some b) new = IsBreach old e b × (givens_of new ≡ givens_of old)

-- neither does a call arrive with it, nor does it give a reply
abbrev pub is_brief : Entry → Bool
is_brief (Arrive conn size call) = false
is_brief (Collect conn a) = false
is_brief e = true

-- the connection's next reply, to this arrival
pub record IsReply (life : Life) (conn a : ℕ) (f : Filed) : Type 0 where
  pub due : next_reply life.config life.run life.history conn ≡ Some a
  pub named : f.arrival ≡ a
  pub filed : IsFiled life.config life.run (opened life) life.history f
  pub fits : FitsCall (call_of life.history a) f.reply

-- why it may not follow
abbrev pub breach_of : Judged → Option Breach
breach_of (Taken given) = None
breach_of (Refused b) = Some b

-- where an entry is taken that collects a reply, this is it
abbrev pub GivesIt : Life → ℕ → ℕ → Judged → Type 0
GivesIt life conn a (Taken (Some f)) = IsReply life conn a f
GivesIt life conn a (Taken None) = ⊥
GivesIt life conn a (Refused b) = ⊤

abbrev pub Gives : Entry → Life → Judged → Type 0
Gives (Collect conn a) life judged = GivesIt life conn a judged
Gives e life judged = ⊤

abbrev pub IsJudged : Entry → Life → Judged → Life → Type 0
IsJudged e old judged new = Judges e old (breach_of judged) new × Gives e old judged

-- the same, where it was noted why it may not follow
abbrev pub GivesBackIt : Life → ℕ → ℕ → Option Refusal → Option Filed → Type 0
GivesBackIt life conn a None (Some f) = IsReply life conn a f
GivesBackIt life conn a None None = ⊥
GivesBackIt life conn a (Some r) given = given ≡ None

abbrev pub GivesBack : Entry → Life → Option Refusal → Option Filed → Type 0
GivesBack (Collect conn a) life refusal given = GivesBackIt life conn a refusal given
GivesBack e life refusal given = ⊤

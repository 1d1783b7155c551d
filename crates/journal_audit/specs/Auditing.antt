-- What an audit finds of the entries of a journal, the oldest first.
use Rattle.std.specs.Prelude.{◌≡◌, ℕ, List, length, reverse, Option, Some, None}
use Rattle.poa_base.specs.declared.Config.{Config}
use Rattle.poa_base.specs.declared.Entry.{Entry}
use Rattle.poa_history.specs.Legal.{IsLegal}
use Rattle.poa_history.specs.Life.{Life, givens_of, with_entry}
use Rattle.poa_history.specs.Lifetime.{HasLifetime}
use Rattle.poa_history.specs.States.{Stored}
use Rattle.history_laws.specs.Lasting.{KeepsUpdates, LeavesNothing}
use Rattle.journal_audit.specs.declared.finding.Audit.{Audit}
use Rattle.journal_audit.specs.declared.finding.Audit.TheVariants.{Legal, Illegal}
use Rattle.journal_audit.specs.declared.auditor.Auditor.{Auditor}
use Rattle.journal_audit.specs.declared.refusal.Refusal.{Refusal}
use Rattle.journal_audit.specs.Rules.{rule_of, due_of}
use Rattle.journal_audit.specs.FirstBad.{IsFirstBad}
use Rattle.journal_audit.specs.Judging.{Follows}

-- a legal history keeps the lifetime of every activation, leaves nothing undone, and keeps the updates of each object that
-- a servant activator brings
pub record IsSound (c : Config) (run limit : ℕ) (opened : Stored) (h : List Entry) : Type 0 where
  pub legal : IsLegal c run limit h
  pub lifetime : HasLifetime c run h
  pub undone : LeavesNothing c run h
  pub updates : KeepsUpdates c run opened h

-- what an audit says: all entries are legal, or this is the first that isn't
abbrev pub AuditSays : Config → ℕ → ℕ → Stored → List Entry → Audit → Type 0
AuditSays c run limit opened entries Legal = IsSound c run limit opened (reverse entries)
AuditSays c run limit opened entries (Illegal place rule) = IsFirstBad c run limit entries place rule

-- the first entry that isn't legal, with what would have been allowed in its place
pub record IsRefused (c : Config) (run limit : ℕ) (entries : List Entry) (r : Refusal) : Type 0 where
  pub first : IsFirstBad c run limit entries r.entry r.rule
  pub allowed : r.due ≡ due_of c run first.past first.bad

-- the run has these entries, and is legal; or one of them isn't legal
abbrev pub Finds : List Entry → Life → Option Refusal → Type 0
Finds entries run None = (run.history ≡ reverse entries) × IsLegal run.config run.run run.limit run.history
Finds entries run (Some r) = IsRefused run.config run.run run.limit entries r

-- an auditor who was given these entries, one behind the other
pub record HasTaken (entries : List Entry) (a : Auditor) : Type 0 where
  pub limited : a.limit ≡ a.run.limit
  pub found : Finds entries a.run a.refusal

-- an entry that comes: it is taken; or it may not follow, and is told; or one before it was told
abbrev pub Meets : Entry → Auditor → Auditor → Option Refusal → Option Refusal → Type 0
Meets e old new (Some r) told = told ≡ Some r
Meets e old new None None = Follows old.run e × (new.run ≡ with_entry e old.run)
Meets e old new None (Some r) =
    (Follows old.run e → ⊥) × (r.entry ≡ length old.run.history) × (r.rule ≡ rule_of old.run.history e)
    × (r.due ≡ due_of old.run.config old.run.run old.run.history e)

pub record Takes (e : Entry) (old new : Auditor) : Type 0 where
  pub given : givens_of new.run ≡ givens_of old.run
  pub limited : new.limit ≡ old.limit
  pub meets : Meets e old new old.refusal new.refusal

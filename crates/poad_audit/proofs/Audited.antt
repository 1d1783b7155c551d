-- A journal in one file, audited by the configuration in another, with the link of two files: what is read of each.
use Rattle.std.proofs.Common.{◌≡◌, ℕ, ◌<◌, List, length, Option, Some, None, Ok, Err, inl, inr, sym, ◌∙◌, subst}
use Rattle.std.specs.Option.{IsSomeAnd}
use Rattle.outside.specs.Keeping.{Contents}
use Rattle.outside.specs.Told.{IfTold}
use Rattle.command_words.specs.Auditing.{Audit, LinkNames}
use Rattle.poa_base.specs.declared.Config.{Config}
use Rattle.poa_journal.specs.Whole.{Contents as JournalContents, contents_of}
use Rattle.poa_journal.specs.declared.fault.JournalFault.{JournalFault}
use Rattle.poa_journal.specs.declared.fault.JournalFault.TheVariants as fault
use Rattle.journal_audit.specs.Matching.{LinkBytes}
use Rattle.journal_audit.specs.declared.report.Report.{Report}
use Rattle.journal_audit.specs.Texts.{Audits, AuditsText}
use Rattle.poad_files.specs.declared.status.Status.{Status}
use Rattle.poad_files.specs.declared.status.Status.TheVariants as status
use Rattle.poad_files.specs.Taking.{HoldsStill, IsHeld, Refused, TakesConfig}
use Rattle.poad_files.proofs.Told.{told_then}
use Rattle.poad_files.proofs.Files.{config_on, same_held}
use Rattle.poad_audit.specs.Auditing.{journal_limit, link_limit, no_config, no_input, no_journal, no_link, no_output, not_taken, AuditsBytes, AuditsFiles, AuditsJournal, AuditsTaken, LinkRefused, NoLink, RefusesLink, TakesLink, Tells}
use Rattle.poad_audit.specs.Linking.{RefusesText, TakesBytes, Untaken, refusal_of}

-- what holds of a take holds also of one that left all before it
pub refused_before : (name : List ℕ) (limit : ℕ) (s : Status) (a b c : Option Contents) → IfTold a b HoldsStill → Refused name limit s b c
    → Refused name limit s a c
refused_before name limit status.NoFile a b c still t = told_then a b c _ _ _ (λ x y z p q. sym (p name) ∙ q) still t
refused_before name limit status.FileTooLong a b c still t =
    told_then a b c _ _ _ (λ x y z p q. subst (λ (o : Option (List ℕ)). IsSomeAnd o (λ content. limit < length content)) (p name) q) still t
refused_before name limit status.FileFault a b c still t = tt
refused_before name limit status.WantMemory a b c still t = tt
refused_before name limit _ a b c still t = absurd t

pub held_later : (name : List ℕ) (limit : ℕ) (content : List ℕ) (a b c : Option Contents) → IfTold a b HoldsStill → IsHeld name limit content b c
    → IsHeld name limit content a c
held_later name limit content a b c still held =
    record { within = held.within; held = told_then a b c _ _ _ (λ x y z p q. sym (p name) ∙ q) still held.held }

-- and of one that leaves all behind it
pub held_on : (name : List ℕ) (limit : ℕ) (content : List ℕ) (a b c : Option Contents) → IsHeld name limit content a b → IfTold b c HoldsStill
    → IsHeld name limit content a c
held_on name limit content a b c held still = record { within = held.within; held = told_then a b c _ _ _ (λ x y z p q. p) held.held still }

pub still_both : (a b c : Option Contents) → IfTold a b HoldsStill → IfTold b c HoldsStill → IfTold a c HoldsStill
still_both a b c first second = told_then a b c _ _ _ (λ x y z p q name. q name ∙ p name) first second

-- the bytes of a link are taken
pub both_taken : (names : LinkNames) (input output : List ℕ) (a b c : Option Contents) → IsHeld names.input link_limit input a b
    → IfTold a b HoldsStill → IsHeld names.output link_limit output b c → IfTold b c HoldsStill → TakesBytes names (Ok (input, output)) a c
both_taken names input output a b c first still second more =
    (held_on names.input link_limit input a b c first more, held_later names.output link_limit output a b c still second)

pub second_untaken : (names : LinkNames) (s : Status) (input : List ℕ) (a b c : Option Contents) → IsHeld names.input link_limit input a b
    → IfTold a b HoldsStill → IfTold b c HoldsStill → Refused names.output link_limit s b c → LinkRefused names s a c
second_untaken names s input a b c first still more refused =
    no_output input (held_on names.input link_limit input a b c first more) (refused_before names.output link_limit s a b c still refused)

-- what was found of a journal was told
pub audits_told : (c : Config) (limit : ℕ) (text : List ℕ) (link : Option LinkBytes) (report : Report) (s : Status) (h k : Option (List ℕ))
    → Audits c limit text link report → Tells report s h k → AuditsBytes c limit text link s h k
audits_told c limit text link report (status.JournalRefused line) h k found told = absurd told.0
audits_told c limit text link report status.WantMemory h k found told = told
audits_told c limit text link report s h k found told = record { report = report; audits = found; tells = told }

-- a text that isn't read as a journal
pub unread : (c : Config) (limit : ℕ) (text : List ℕ) (link : Option LinkBytes) (f : JournalFault) (h : Option (List ℕ)) → AuditsText c limit text link (Err f)
    → AuditsBytes c limit text link (refusal_of f) h h
unread c limit text link (fault.BadLine line) h is = (is, same_held h)
unread c limit text link fault.WantMemory h is = same_held h

pub refuses : (c : Config) (limit : ℕ) (text : List ℕ) (link : Option LinkBytes) (f : JournalFault) → AuditsText c limit text link (Err f)
    → RefusesText text (refusal_of f)
refuses c limit text link (fault.BadLine line) is = is
refuses c limit text link fault.WantMemory is = tt

-- the journal of a text, by the files before and behind those of the link
module _ (c : Config) (limit : ℕ) (text : List ℕ) (a b : Option Contents) where
  pub linked : (names : Option LinkNames) (link : Option LinkBytes) (s : Status) (h k : Option (List ℕ)) → TakesLink names link a b
      → AuditsBytes c limit text link s h k → AuditsJournal c limit text names s a b h k
  linked names link (status.JournalRefused line) h k taken p = p
  linked names link status.NoFile h k taken p = absurd p.tells.0
  linked names link status.FileTooLong h k taken p = absurd p.tells.0
  linked names link status.FileFault h k taken p = absurd p.tells.0
  linked names link status.WantMemory h k taken p = p
  linked names link s h k taken p = record { link = link; takes_link = taken; audits = p }

  -- a file of the link isn't taken
  unlinked_by : (names : LinkNames) (s : Status) (h : Option (List ℕ)) (journal : JournalContents) → contents_of text ≡ Ok journal
      → LinkRefused names s a b → AuditsJournal c limit text (Some names) s a b h h
  unlinked_by names status.NoFile h journal reads refused = (record { journal = journal; reads = reads; refused = refused }, same_held h)
  unlinked_by names status.FileTooLong h journal reads refused = (record { journal = journal; reads = reads; refused = refused }, same_held h)
  unlinked_by names status.FileFault h journal reads refused = same_held h
  unlinked_by names status.WantMemory h journal reads refused = same_held h
  unlinked_by names _ h journal reads (no_input refused) = absurd refused
  unlinked_by names _ h journal reads (no_output input held refused) = absurd refused

  refused_by : (names : Option LinkNames) (s : Status) (h : Option (List ℕ)) → RefusesText text s → AuditsJournal c limit text names s a b h h
  refused_by names (status.JournalRefused line) h is = (is, same_held h)
  refused_by names status.WantMemory h is = same_held h
  refused_by names _ h is = absurd is

  pub unlinked : (names : LinkNames) (s result : Status) (h : Option (List ℕ)) → LinkRefused names s a b → Untaken text s result
      → AuditsJournal c limit text (Some names) result a b h h
  unlinked names s result h refused (inl it) =
      subst (λ (r : Status). AuditsJournal c limit text (Some names) r a b h h) (sym it.0) (unlinked_by names s h it.1 it.2 refused)
  unlinked names s result h refused (inr it) = refused_by (Some names) result h it

-- no other status is told than that of the file, or that of the text
pub untaken_as : (text : List ℕ) (s result t : Status) → Untaken text s result → result ≡ t → (RefusesText text t → ⊥) → s ≡ t
untaken_as text s result t (inl it) same never = sym it.0 ∙ same
untaken_as text s result t (inr it) same never = absurd (never (subst (λ (x : Status). RefusesText text x) same it))

pub link_unwritten : (names : LinkNames) (a b : Option Contents) → LinkRefused names status.WriteFault a b → ⊥
link_unwritten names a b (no_input refused) = refused
link_unwritten names a b (no_output input held refused) = refused

-- what is audited ends with no status of a file
pub never_status : (c : Config) (limit : ℕ) (text : List ℕ) (link : Option LinkBytes) (s t : Status) (h k : Option (List ℕ))
    → (AuditsBytes c limit text link t h k → ⊥) → AuditsBytes c limit text link s h k → s ≡ t → ⊥
never_status c limit text link s t h k never p same = never (subst (λ (x : Status). AuditsBytes c limit text link x h k) same p)

-- the same by the files before all others
module _ (c : Config) (limit : ℕ) (text : List ℕ) (a b d : Option Contents) (still : IfTold a b HoldsStill) where
  link_later : (names : Option LinkNames) (link : Option LinkBytes) → TakesLink names link b d → TakesLink names link a d
  link_later None None taken = tt
  link_later (Some names) (Some link) taken = record {
    conn = taken.conn;
    input = held_later names.input link_limit link.input a b d still taken.input;
    output = held_later names.output link_limit link.output a b d still taken.output;
  }
  link_later None (Some link) taken = taken
  link_later (Some names) None taken = taken

  refused_later : (names : Option LinkNames) (s : Status) → RefusesLink names s b d → RefusesLink names s a d
  refused_later None s refused = refused
  refused_later (Some names) s (no_input refused) = no_input (refused_before names.input link_limit s a b d still refused)
  refused_later (Some names) s (no_output input held refused) =
      no_output input (held_later names.input link_limit input a b d still held) (refused_before names.output link_limit s a b d still refused)

  no_link_later : (names : Option LinkNames) (s : Status) → NoLink text names s b d → NoLink text names s a d
  no_link_later names s it = record { journal = it.journal; reads = it.reads; refused = refused_later names s it.refused }

  pub journal_later : (names : Option LinkNames) (s : Status) (h k : Option (List ℕ)) → AuditsJournal c limit text names s b d h k
      → AuditsJournal c limit text names s a d h k
  journal_later names (status.JournalRefused line) h k p = p
  journal_later names status.NoFile h k p = (no_link_later names status.NoFile p.0, p.1)
  journal_later names status.FileTooLong h k p = (no_link_later names status.FileTooLong p.0, p.1)
  journal_later names status.FileFault h k p = p
  journal_later names status.WantMemory h k p = p
  journal_later names s h k p = record { link = p.link; takes_link = link_later names p.link p.takes_link; audits = p.audits }

-- the configuration isn't taken
pub audits_no_config : (asked : Audit) (s : Status) (a b : Option Contents) (h : Option (List ℕ)) → TakesConfig asked.config (Err s) a b
    → AuditsFiles asked s a b h h
audits_no_config asked (status.ConfigRefused fault) a b h t = (t, same_held h)
audits_no_config asked status.NoFile a b h t = not_taken (no_config t) (same_held h)
audits_no_config asked status.FileTooLong a b h t = not_taken (no_config t) (same_held h)
audits_no_config asked status.FileFault a b h t = same_held h
audits_no_config asked status.WantMemory a b h t = same_held h
audits_no_config asked _ a b h t = absurd t

module _ (asked : Audit) (config : Config) (a b c : Option Contents) (t : TakesConfig asked.config (Ok config) a b)
    (still : IfTold a b HoldsStill) (more : IfTold b c HoldsStill) where
  -- the journal isn't
  pub audits_no_journal : (s : Status) (h : Option (List ℕ)) → Refused asked.journal journal_limit s b c → AuditsFiles asked s a c h h
  audits_no_journal status.NoFile h u = not_taken
      (no_journal (record {
        config = config;
        takes_config = config_on asked.config config a b c t more;
        refused = refused_before asked.journal journal_limit status.NoFile a b c still u;
      }))
      (same_held h)
  audits_no_journal status.FileTooLong h u = not_taken
      (no_journal (record {
        config = config;
        takes_config = config_on asked.config config a b c t more;
        refused = refused_before asked.journal journal_limit status.FileTooLong a b c still u;
      }))
      (same_held h)
  audits_no_journal status.FileFault h u = same_held h
  audits_no_journal status.WantMemory h u = same_held h
  audits_no_journal _ h u = absurd u

  -- both are
  module _ (d : Option Contents) (last : IfTold c d HoldsStill) (text : List ℕ) (h k : Option (List ℕ))
      (u : IsHeld asked.journal journal_limit text b c) where
    taken : (s : Status) → AuditsJournal config asked.limit text asked.link s c d h k → AuditsTaken asked s a d h k
    taken s p = record {
      config = config;
      text = text;
      takes_config = config_on asked.config config a b d t (still_both b c d more last);
      holds_journal = held_on asked.journal journal_limit text a c d (held_later asked.journal journal_limit text a b c still u) last;
      audits = journal_later config asked.limit text a c d (still_both a b c still more) asked.link s h k p;
    }

    both : (s : Status) → AuditsJournal config asked.limit text asked.link s c d h k → AuditsFiles asked s a d h k
    both (status.ConfigRefused fault) p = absurd p.audits.tells.0
    both status.NoFile p = no_link (taken status.NoFile p)
    both status.FileTooLong p = no_link (taken status.FileTooLong p)
    both status.FileFault p = p
    both status.WantMemory p = p
    both s p = taken s p

    pub audits_read : (s : Status) (bytes : List ℕ) → bytes ≡ text → AuditsJournal config asked.limit bytes asked.link s c d h k
        → AuditsFiles asked s a d h k
    audits_read s bytes same p = both s (subst (λ (x : List ℕ). AuditsJournal config asked.limit x asked.link s c d h k) same p)

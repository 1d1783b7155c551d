-- What is printed of an audit, and how it ends.
use Rattle.std.specs.Prelude.{◌≡◌, ℕ, ◌+◌, ◌^◌, ◌<◌, true, false, if◌then◌else◌, List, [], ◌++◌, codes, decimal, Option, Some, None, IfSome}
use Rattle.std.specs.Option.{IsSomeAnd}
use Rattle.poa_base.specs.declared.Entry.{Entry}
use Rattle.text_words.specs.Token.{spelled}
use Rattle.poa_journal.specs.Entry.{entry_tokens}
use Rattle.journal_audit.specs.declared.matched.Matched.{Matched}
use Rattle.journal_audit.specs.declared.refusal.Refusal.{Refusal}
use Rattle.journal_audit.specs.declared.report.Report.{Report}
use Rattle.journal_audit.specs.declared.rule.Rule.{Rule}
use Rattle.journal_audit.specs.declared.rule.Rule.TheVariants.{Connection, Collecting, Turn, Worker}
use Rattle.poad_files.specs.declared.status.Status.{Status}
use Rattle.poad_files.specs.declared.status.Status.TheVariants.{Ok, Illegal, NoMatch}

abbrev pub rule_word : Rule → List ℕ
rule_word Connection = codes "Connection"
rule_word Collecting = codes "Collecting"
rule_word Turn = codes "Turn"
rule_word Worker = codes "Worker"

-- whether the bytes of the link are a session, where one is asked for
abbrev pub session_line : Option Matched → List ℕ
session_line None = []
session_line (Some m) = if m.is_session then codes "session yes\n" else codes "session no\n"

abbrev pub legal_line : ℕ → Option Matched → List ℕ
legal_line entries matched = codes "legal " ++ (decimal entries ++ (codes "\n" ++ session_line matched))

abbrev pub illegal_line : ℕ → Rule → List ℕ
illegal_line entry rule = codes "illegal " ++ (decimal entry ++ (codes " " ++ (rule_word rule ++ codes "\n")))

-- how many entries there are where all are legal, with what is found of the link; else the first that isn't, with its rule
abbrev pub found_line : ℕ → Option Refusal → Option Matched → List ℕ
found_line entries None matched = legal_line entries matched
found_line entries (Some r) matched = illegal_line r.entry r.rule

abbrev pub report_line : Report → List ℕ
report_line report = found_line report.entries report.refusal report.matched

-- the line of the entry that would have been allowed
abbrev pub due_line : Option Entry → List ℕ
due_line None = []
due_line (Some e) = spelled (entry_tokens e)

-- the line of that entry has a number
abbrev pub IsNumbered : Report → Type 0
IsNumbered report = IfSome report.refusal (λ r. report.first_line + r.entry < 2 ^ 64)

-- `Ok` where no link is asked for, or its bytes are a session; else the connection of which they aren't one
abbrev pub EndsLink : Status → Option Matched → Type 0
EndsLink Ok matched = IfSome matched (λ m. m.is_session ≡ true)
EndsLink (NoMatch conn) matched = IsSomeAnd matched (λ m. (m.conn ≡ conn) × (m.is_session ≡ false))
EndsLink status matched = ⊥

-- so where all entries are legal; else the first that isn't, with the number of its line
abbrev pub EndsAudit : Status → Report → Type 0
EndsAudit Ok report = (report.refusal ≡ None) × EndsLink Ok report.matched
EndsAudit (NoMatch conn) report = (report.refusal ≡ None) × EndsLink (NoMatch conn) report.matched
EndsAudit (Illegal entry line due) report =
    IsSomeAnd report.refusal (λ r. (entry ≡ r.entry) × (line ≡ report.first_line + r.entry) × (due ≡ due_line r.due))
EndsAudit status report = ⊥

-- The words behind `audit`: the file of a configuration, that of a journal, and options in any place.
use Rattle.std.specs.Prelude.{ℕ, List, [], Option, Some, None, option_map, codes}
use Rattle.command_words.specs.Arguments.{exactly_two}
use Rattle.command_words.specs.Numbers.{number_in}
use Rattle.command_words.specs.Serving.{limit_of}
use Rattle.command_words.specs.Settings.{◌>>=◌, Setting, among, perhaps, settings_of, values_of}
use Rattle.command_words.specs.declared.audit_words.AuditWords.{AuditWords}
use Rattle.command_words.specs.declared.link_words.LinkWords.{LinkWords}
use Rattle.command_words.specs.declared.optioned.Optioned.TheVariants as optioned

-- the bytes of a connection that words ask for
pub record LinkNames : Type 0 where
  pub conn : ℕ  -- the number of the connection
  pub input : List ℕ  -- the name of the file with what was read of its peer
  pub output : List ℕ  -- the name of the file with what was written to it

abbrev pub link_with : List ℕ → List ℕ → ℕ → LinkNames
link_with input output conn = record { conn = conn; input = input; output = output }

-- the audit of a journal that words ask for
pub record Audit : Type 0 where
  pub config : List ℕ  -- the name of the file with the configuration of its run
  pub journal : List ℕ  -- the name of the journal's file
  pub limit : ℕ  -- how many calls the run takes
  pub link : Option LinkNames  -- the link of it

abbrev pub audit_with : List ℕ → List ℕ → ℕ → Option LinkNames → Audit
audit_with config journal limit link = record { config = config; journal = journal; limit = limit; link = link }

-- a link is asked for by all three of its options, or by none
abbrev pub link_of : Option (List ℕ) → Option (List ℕ) → Option (List ℕ) → Option (Option LinkNames)
link_of None None None = Some None
link_of (Some conn) (Some input) (Some output) = option_map (λ n. Some (link_with input output n)) (number_in 0 4294967295 conn)
link_of conn input output = None

-- two files, and each option at most once
abbrev pub audit_of : List Setting → Option Audit
audit_of settings =
    exactly_two (Some (values_of [] settings)) >>= (λ files.
    (perhaps (codes "--limit") settings >>= limit_of) >>= (λ limit.
    perhaps (codes "--conn") settings >>= (λ conn.
    perhaps (codes "--in") settings >>= (λ input.
    perhaps (codes "--out") settings >>= (λ output.
    link_of conn input output >>= (λ link.
    Some (audit_with files.0 files.1 limit link)))))))

-- of the words behind `audit`
abbrev pub audit_behind : List (List ℕ) → Option Audit
audit_behind ws = settings_of optioned.Audit among ws >>= audit_of

-- the same, as the program has it
abbrev pub seen_link : LinkWords → LinkNames
seen_link l = link_with l.input.now l.output.now l.conn

abbrev pub seen_audit : AuditWords → Audit
seen_audit a = audit_with a.config.now a.journal.now a.limit (option_map seen_link a.link)

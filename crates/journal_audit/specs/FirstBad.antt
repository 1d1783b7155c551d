-- The first entry that isn't legal, of the entries of a journal, the oldest first.
use Rattle.std.specs.Prelude.{◌≡◌, ℕ, List, ◌∷◌, ◌++◌, length, reverse}
use Rattle.poa_base.specs.declared.Config.{Config}
use Rattle.poa_base.specs.declared.Entry.{Entry}
use Rattle.poa_history.specs.Legal.{MayFollow, IsLegal}
use Rattle.journal_audit.specs.declared.rule.Rule.{Rule}
use Rattle.journal_audit.specs.Rules.{rule_of}

-- the entry at this place is the first that may not follow the ones before it, and breaks this rule
pub record IsFirstBad (c : Config) (run limit : ℕ) (entries : List Entry) (place : ℕ) (rule : Rule) : Type 0 where
  -- the entries before it, the newest first; the entry; and those behind it
  pub past : List Entry
  pub bad : Entry
  pub behind : List Entry
  pub parts : entries ≡ reverse past ++ bad ∷ behind
  pub stands : place ≡ length past
  pub legal : IsLegal c run limit past
  pub refused : MayFollow c run limit past bad → ⊥
  pub broken : rule ≡ rule_of past bad

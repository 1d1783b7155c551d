-- A call of a journal in one file, explained by the configuration in another.
use Rattle.std.proofs.Common.{◌≡◌, ℕ, List, Option, Ok, Err, subst}
use Rattle.outside.specs.Keeping.{Contents}
use Rattle.outside.specs.Told.{IfTold}
use Rattle.poa_base.specs.declared.Config.{Config}
use Rattle.journal_explain.specs.declared.Selection.{Selection}
use Rattle.journal_explain.specs.declared.Explanation.{Explanation}
use Rattle.journal_explain.specs.Explaining.{Explains}
use Rattle.poad_files.specs.declared.status.Status.{Status}
use Rattle.poad_files.specs.declared.status.Status.TheVariants as status
use Rattle.poad_files.specs.Taking.{HoldsStill, IsHeld, Refused, TakesConfig}
use Rattle.poad_files.proofs.Files.{config_on, same_held}
use Rattle.poad_audit.specs.Auditing.{journal_limit, no_config, no_journal}
use Rattle.poad_audit.specs.Explaining.{ExplainsFiles, ExplainsJournal, ExplainsTaken, Tells}
use Rattle.poad_audit.proofs.Audited.{held_later, refused_before}

-- the configuration isn't taken
pub explains_no_config : (file journal : List ℕ) (limit : ℕ) (which : Selection) (s : Status) (a b : Option Contents) (h : Option (List ℕ))
    → TakesConfig file (Err s) a b → ExplainsFiles file journal limit which s a b h h
explains_no_config file journal limit which (status.ConfigRefused fault) a b h t = (t, same_held h)
explains_no_config file journal limit which status.NoFile a b h t = (no_config t, same_held h)
explains_no_config file journal limit which status.FileTooLong a b h t = (no_config t, same_held h)
explains_no_config file journal limit which status.FileFault a b h t = same_held h
explains_no_config file journal limit which status.WantMemory a b h t = same_held h
explains_no_config file journal limit which _ a b h t = absurd t

module _ (file journal : List ℕ) (limit : ℕ) (which : Selection) (config : Config) (a b c : Option Contents) (t : TakesConfig file (Ok config) a b)
    (still : IfTold a b HoldsStill) (more : IfTold b c HoldsStill) where
  -- the journal isn't
  pub explains_no_journal : (s : Status) (h : Option (List ℕ)) → Refused journal journal_limit s b c
      → ExplainsFiles file journal limit which s a c h h
  explains_no_journal status.NoFile h u = (
    no_journal (record {
      config = config;
      takes_config = config_on file config a b c t more;
      refused = refused_before journal journal_limit status.NoFile a b c still u;
    }),
    same_held h,
  )
  explains_no_journal status.FileTooLong h u = (
    no_journal (record {
      config = config;
      takes_config = config_on file config a b c t more;
      refused = refused_before journal journal_limit status.FileTooLong a b c still u;
    }),
    same_held h,
  )
  explains_no_journal status.FileFault h u = same_held h
  explains_no_journal status.WantMemory h u = same_held h
  explains_no_journal _ h u = absurd u

  -- both are
  module _ (text : List ℕ) (h k : Option (List ℕ)) (u : IsHeld journal journal_limit text b c) where
    taken : (s : Status) → ExplainsJournal config limit which text s h k → ExplainsTaken file journal limit which s a c h k
    taken s p = record {
      config = config;
      text = text;
      takes_config = config_on file config a b c t more;
      holds_journal = held_later journal journal_limit text a b c still u;
      explains = p;
    }

    explains_both : (s : Status) → ExplainsJournal config limit which text s h k → ExplainsFiles file journal limit which s a c h k
    explains_both (status.ConfigRefused fault) p = absurd p.tells.0
    explains_both status.NoFile p = absurd p.tells.0
    explains_both status.FileTooLong p = absurd p.tells.0
    explains_both status.FileFault p = absurd p.tells.0
    explains_both status.WantMemory p = p
    explains_both s p = taken s p

    pub explains_read : (s : Status) (bytes : List ℕ) → bytes ≡ text → ExplainsJournal config limit which bytes s h k
        → ExplainsFiles file journal limit which s a c h k
    explains_read s bytes same p = explains_both s (subst (λ (x : List ℕ). ExplainsJournal config limit which x s h k) same p)

-- what was found of a call was told
pub explains_told : (c : Config) (limit : ℕ) (which : Selection) (text : List ℕ) (x : Explanation) (s : Status) (h k : Option (List ℕ))
    → Explains c limit which text x → Tells x s h k → ExplainsJournal c limit which text s h k
explains_told c limit which text x (status.JournalRefused line) h k found told = absurd told.0
explains_told c limit which text x status.WantMemory h k found told = told
explains_told c limit which text x s h k found told = record { found = x; explains = found; tells = told }

-- What is told where a text gives no reference.
use Rattle.std.proofs.Common.{◌≡◌, List, ℕ, Option, Result, Ok, Err, inl, inr, refl, sym, ◌∙◌, subst}
use Rattle.ior_text.specs.Reference.{HasText, reference_of}
use Rattle.ior_text.specs.declared.corbaloc_fault.LocFault.{LocFault}
use Rattle.ior_text.specs.declared.corbaloc_fault.LocFault.TheVariants.{NoScheme}
use Rattle.ior_text.proofs.OneText.{one_answer}
use Rattle.ior_text.specs.Text.{TextGives}
use Rattle.ior_text.specs.declared.fault.IorFault.{IorFault}
use Rattle.poa_base.specs.declared.Config.{Config}
use Rattle.poa_base.specs.declared.Ior.{Ior}
use Rattle.poad_files.specs.declared.status.Status.{Status}
use Rattle.poad_files.specs.declared.status.Status.TheVariants.{TextRefused, LocRefused, WantMemory, WriteFault}
use Rattle.poad_files.specs.Referring.{Refers, RefersNot, WrittenRefused}
use Rattle.poad_files.specs.Showing.{Tells}
use Rattle.poad_files.specs.Migrating.{MigratesText}
use Rattle.poad_files.specs.Locating.{IsLocLine, LacksLoc, Locates}
use Rattle.poad_files.proofs.Files.{same_held}

pub shown_not : (text : List ℕ) (s : Status) (h : Option (List ℕ)) → RefersNot text s → Tells s text h h
shown_not text (TextRefused fault) h r = (r, same_held h)
shown_not text (LocRefused fault) h r = (r, same_held h)
shown_not text WantMemory h r = same_held h
shown_not text _ h r = absurd r

pub migrated_not : (c : Config) (text : List ℕ) (s : Status) (h : Option (List ℕ)) → RefersNot text s → MigratesText c s text h h
migrated_not c text (TextRefused fault) h r = (r, same_held h)
migrated_not c text (LocRefused fault) h r = (r, same_held h)
migrated_not c text WantMemory h r = same_held h
migrated_not c text _ h r = absurd r

pub located_not : (text : List ℕ) (s : Status) (h : Option (List ℕ)) → WrittenRefused text s → Locates s text h h
located_not text (TextRefused fault) h r = (r, same_held h)
located_not text WantMemory h r = same_held h
located_not text _ h r = absurd r

-- no fault of writing comes of a text
pub no_fault : (text : List ℕ) (s : Status) → RefersNot text s → s ≡ WriteFault → ⊥
no_fault text s r same = subst (RefersNot text) same r

pub no_written_fault : (text : List ℕ) (s : Status) → WrittenRefused text s → s ≡ WriteFault → ⊥
no_written_fault text s r same = subst (WrittenRefused text) same r

-- a text that refers isn't refused
not_located : (read : Result Ior LocFault) (ior : Ior) (fault : LocFault) → read ≡ Ok ior → read ≡ Err fault → ⊥
not_located read ior fault is none = let e : Ok ior ≡ Err fault = sym is ∙ none in cc

same_fault : (read : Result Ior LocFault) (one other : LocFault) → read ≡ Err one → read ≡ Err other → other ≡ one
same_fault read one other is at = let e : Err one ≡ Err other = sym is ∙ at in cc

not_written : (text : List ℕ) (ior : Ior) (fault : IorFault) → TextGives text (Ok ior) → TextGives text (Err fault) → ⊥
not_written text ior fault is none = let e : Ok ior ≡ Err fault = one_answer text (Ok ior) (Err fault) is none in cc

pub written_unrefused : (text : List ℕ) (ior : Ior) (s : Status) → TextGives text (Ok ior) → WrittenRefused text s → s ≡ WantMemory
written_unrefused text ior (TextRefused fault) is refused = absurd (not_written text ior fault is refused)
written_unrefused text ior WantMemory is refused = refl
written_unrefused text ior _ is refused = absurd refused

pub unrefused : (text : List ℕ) (ior : Ior) (s : Status) → Refers text ior → RefersNot text s → s ≡ WantMemory
unrefused text ior (TextRefused fault) (inl located) refused = absurd (not_located (reference_of text) ior NoScheme located refused.0)
unrefused text ior (TextRefused fault) (inr written) refused = absurd (not_written text ior fault written.1 refused.1)
unrefused text ior (LocRefused fault) (inl located) refused = absurd (not_located (reference_of text) ior fault located refused.0)
unrefused text ior (LocRefused fault) (inr written) refused =
    absurd (refused.1 (same_fault (reference_of text) NoScheme fault written.0 refused.0))
unrefused text ior WantMemory refers refused = refl
unrefused text ior _ refers refused = absurd refused

-- a written reference that has a corbaloc text doesn't lack it
same_ior : (text : List ℕ) (a b : Ior) → TextGives text (Ok a) → TextGives text (Ok b) → b ≡ a
same_ior text a b is at = let e : Ok a ≡ Ok b = one_answer text (Ok a) (Ok b) is at in cc

pub never_lacking : (text line : List ℕ) (ior : Ior) → TextGives text (Ok ior) → IsLocLine ior line → LacksLoc text → ⊥
never_lacking text line ior is spelled lacks =
    lacks.none spelled.loc (subst (λ (i : Ior). HasText i spelled.loc) (sym (same_ior text ior lacks.ior is lacks.reads)) spelled.has)

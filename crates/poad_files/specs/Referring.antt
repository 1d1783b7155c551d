-- The reference of a text that a command is given: a corbaloc text (CORBA 3.3 Part 2, 7.6.10.1) where the text begins as one, else the
-- written form of a reference (7.6.9).
use Rattle.std.specs.Prelude.{◌≡◌, ◌≢◌, ℕ, List, Result, Ok, Err, MatchResult, ⊤, ◌⊎◌}
use Rattle.ior_text.specs.declared.corbaloc_fault.LocFault.TheVariants.{NoScheme}
use Rattle.ior_text.specs.Reference.{reference_of as location_reference}
use Rattle.ior_text.specs.declared.IorFault.{IorFault}
use Rattle.ior_text.specs.declared.IorFault.TheVariants as ior
use Rattle.ior_text.specs.Text.{TextGives}
use Rattle.poa_base.specs.declared.Ior.{Ior}
use Rattle.poad_files.specs.declared.status.Status.{Status}
use Rattle.poad_files.specs.declared.status.Status.TheVariants.{TextRefused, LocRefused, WantMemory}

-- the text doesn't begin as a corbaloc text
abbrev pub HasNoScheme : List ℕ → Type 0
HasNoScheme text = location_reference text ≡ Err NoScheme

-- the text refers so
abbrev pub Refers : List ℕ → Ior → Type 0
Refers text ior = (location_reference text ≡ Ok ior) ⊎ (HasNoScheme text × TextGives text (Ok ior))

-- the status where a text doesn't refer: by the corbaloc form where it begins so, and else by the written form; of want of memory
-- the text says nothing
abbrev pub RefersNot : List ℕ → Status → Type 0
RefersNot text (TextRefused fault) = HasNoScheme text × TextGives text (Err fault)
RefersNot text (LocRefused fault) = (location_reference text ≡ Err fault) × (fault ≢ NoScheme)
RefersNot text WantMemory = ⊤
RefersNot text _ = ⊥

-- the reference of a text, or the status where it has none
abbrev pub GivesReference : List ℕ → Result Ior Status → Type 0
GivesReference text result = MatchResult result (Refers text) (RefersNot text)

-- the same of the written form alone
abbrev pub WrittenRefused : List ℕ → Status → Type 0
WrittenRefused text (TextRefused fault) = TextGives text (Err fault)
WrittenRefused text WantMemory = ⊤
WrittenRefused text _ = ⊥

abbrev pub GivesWritten : List ℕ → Result Ior Status → Type 0
GivesWritten text result = MatchResult result (λ ior. TextGives text (Ok ior)) (WrittenRefused text)

-- the status where reading the written form gave this fault
abbrev pub Refuses : Status → IorFault → Type 0
Refuses WantMemory fault = fault ≡ ior.WantMemory
Refuses (TextRefused told) fault = (told ≡ fault) × (fault ≢ ior.WantMemory)
Refuses _ fault = ⊥

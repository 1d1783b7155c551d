-- What a call gives by naming contexts.
use Rattle.std.specs.Prelude.{◌≡◌, ℕ, List, ◌∷◌, Option, Some, None, ⊤}
use Rattle.poa_base.specs.declared.Call.{Call}
use Rattle.naming_context.specs.declared.contexts.Contexts.{Contexts}
use Rattle.naming_context.specs.Kept.{standing_of}
use Rattle.naming_context.specs.Serving.{CallGives}
use Rattle.naming_context.specs.Standing.{Change, Standing, standing}
use Rattle.naming_context.specs.Table.{left}
use Rattle.poad_answer.specs.Meaning.{Meaning}

-- a change noted in front of those before it
abbrev pub noted : Option Change → List Change → List Change
noted None changes = changes
noted (Some change) changes = change ∷ changes

-- a call gives these bytes, by what stands after the changes so far
abbrev pub GivesNoted : List Change → Call → ℕ → List ℕ → List Change → Type 0
GivesNoted changes call size bytes after =
    (change : Option Change) × (CallGives (standing changes) call bytes change × (after ≡ noted change changes))

-- the same by what stands alone
abbrev pub GivesStanding : Standing → Call → ℕ → List ℕ → Standing → Type 0
GivesStanding s call size bytes after = (change : Option Change) × (CallGives s call bytes change × (after ≡ left change s))

-- no call is refused
abbrev pub RefusesNone : Call → ℕ → ℕ → ℕ → Type 0
RefusesNone call size calls bytes = ⊥

-- what an answer by contexts means
abbrev pub by_contexts : Meaning Contexts
by_contexts = record {
  fits = λ contexts. ⊤;
  gives = λ old call size bytes new. GivesStanding (standing_of old) call size bytes (standing_of new);
  refuses = λ contexts. RefusesNone;
}

-- Calls served by what stands, as calls served by the changes that those before them made.
use Rattle.std.proofs.Common.{◌≡◌, ℕ, List, [], ◌∷◌, Option, Some, None, refl, sym, ◌∙◌, subst}
use Rattle.naming_context.specs.Standing.{Change, Standing, standing}
use Rattle.naming_context.specs.Table.{left}
use Rattle.session_laws.specs.Hearing.{Heard}
use Rattle.poad_answer.specs.Calls.{Serves}
use Rattle.poad_answer.specs.NamesServing.{GivesNoted, GivesStanding, noted}

stands_noted : (change : Option Change) (changes : List Change) → standing (noted change changes) ≡ left change (standing changes)
stands_noted None changes = refl
stands_noted (Some change) changes = refl

-- what stands was reached by changes behind these
pub record Noted (changes : List Change) (calls : List Heard) (replies : List ℕ) (after : Standing) : Type 0 where
  pub all : List Change
  pub served : Serves GivesNoted changes calls replies all
  pub is : standing all ≡ after

pub serves_noted : (calls : List Heard) (changes : List Change) (replies : List ℕ) (after : Standing)
    → Serves GivesStanding (standing changes) calls replies after → Noted changes calls replies after
serves_noted [] changes replies after served = record { all = changes; served = (served.0, refl); is = sym served.1 }
serves_noted (h ∷ calls) changes replies after served =
    let gives : GivesStanding (standing changes) h.call h.size served.0 served.1.0 = served.1.1.1.0 in
    let all : List Change = noted gives.0 changes in
    let is : standing all ≡ served.1.0 = stands_noted gives.0 changes ∙ sym gives.1.1 in
    let rest = serves_noted calls all served.1.1.0 after
    (subst (λ (s : Standing). Serves GivesStanding s calls served.1.1.0 after) (sym is) served.1.1.1.1) in
    record {
      all = rest.all;
      served = (served.0, (all, (served.1.1.0, ((gives.0, (gives.1.0, refl)), rest.served, served.1.1.1.2))));
      is = rest.is;
    }

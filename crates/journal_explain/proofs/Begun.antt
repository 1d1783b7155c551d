-- With which entries the activations began, as the next entry changes it; and that no activation serves a call before it arrives.
use Rattle.std.proofs.Common.{◌≡◌, ℕ, ◌≤◌, nat_lt, Bool, if◌then◌else◌, List, [], ◌∷◌, ◌++◌, length, Option, Some, None, refl, ◌∙◌, ap, ap₂, arith}
use Rattle.std.proofs.lemmas.Bool.{ne_eqb}
use Rattle.poa_base.specs.declared.Config.{Config}
use Rattle.poa_base.specs.declared.Entry.{Entry}
use Rattle.poa_base.specs.declared.Entry.TheVariants.{Admit}
use Rattle.history_standing.specs.Arrivals.{arrivals}
use Rattle.history_standing.proofs.CallsKept.{arrivals_kept}
use Rattle.poa_history.specs.Legal.{IsLegal}
use Rattle.poa_history.specs.Life.{Life, with_entry}
use Rattle.poa_history.proofs.TurnTells.{admission_is}
use Rattle.journal_explain.specs.declared.beginnings.Beginnings.{Beginnings}
use Rattle.journal_explain.specs.Serving.{beginning_at, begun_for, begun_in, server_in, server_of}
use Rattle.journal_explain.specs.Watching.{Counts, KnowsBeginnings, begun_by}

-- what the rows say goes on with the entry
pub counted : (past : Life) (e : Entry) (place : ℕ) → place ≡ length past.history → (old new : Beginnings) → KnowsBeginnings past old
    → Counts (with_entry e past) place old new → KnowsBeginnings (with_entry e past) new
counted past e place here old new knows counts =
    let before = begun_in past.config past.run past.history in
    let after = begun_in past.config past.run (e ∷ past.history) in
    record {
      first = counts.first ∙ knows.first;
      count = counts.count;
      rows =
          counts.rows
          ∙ (ap (λ (k : ℕ). if nat_lt k after then old.rows.items ++ place ∷ [] else old.rows.items) knows.count
          ∙ ap₂ (λ (rows : List ℕ) (p : ℕ). if nat_lt before after then rows ++ p ∷ [] else rows) knows.rows here);
    }

-- what is told by them is what the history says
pub begun_is : (life : Life) (b : Beginnings) → KnowsBeginnings life b → (activation : Option ℕ)
    → begun_by b activation ≡ begun_for life.config life.run life.history activation
begun_is life b knows None = refl
begun_is life b knows (Some n) = ap₂ (λ (first : ℕ) (rows : List ℕ). beginning_at first rows n) knows.first knows.rows

module _ (c : Config) (run limit : ℕ) where
  pub unserved : (h : List Entry) (r : ℕ) → IsLegal c run limit h → arrivals h ≤ r → server_in h r ≡ None
  unserved [] r legal beyond = refl
  unserved (Admit w a verdict ∷ past) r legal beyond =
      ap (λ (b : Bool). if b then server_of verdict else server_in past r)
      (ne_eqb a r (λ same. (let low = (admission_is c run past w a verdict legal.0).arrived in omega (arith, low, same, beyond))))
      ∙ unserved past r legal.1 beyond
  unserved (e ∷ past) r legal beyond = unserved past r legal.1 (let more = arrivals_kept e past in omega (arith, more, beyond))

-- What came of each call of a journal.
use Rattle.std.specs.Prelude.{ℕ, zero, suc, List, [], ◌∷◌, ◌++◌, length, Option, Some, None}
use Rattle.poa_base.specs.declared.Config.{Config}
use Rattle.poa_base.specs.declared.Entry.{Entry}
use Rattle.poa_base.specs.declared.Entry.TheVariants.{Arrive, Admit}
use Rattle.history_standing.specs.Arrivals.{arrivals}
use Rattle.journal_explain.specs.declared.came.Came.{Came}
use Rattle.journal_explain.specs.declared.outcome.Outcome.{Outcome}
use Rattle.journal_explain.specs.declared.outcome.Outcome.TheVariants.{Unadmitted, Command, Decided}
use Rattle.journal_explain.specs.declared.row.Row.{Row}
use Rattle.journal_explain.specs.Stories.{row_for}

-- of a call that was admitted by this row of the table, or as a command
abbrev pub outcome_by : Option Row → Outcome
outcome_by None = Command
outcome_by (Some row) = Decided row

-- this came of the call in this place
abbrev pub decided : ℕ → Outcome → List Came → List Came
decided place outcome [] = []
decided zero outcome (call ∷ calls) = record call { outcome = outcome } ∷ calls
decided (suc place) outcome (call ∷ calls) = call ∷ decided place outcome calls

-- with the next entry, at this place: a call arrives, or one is admitted
abbrev pub came_with : Config → ℕ → List Entry → Entry → ℕ → List Came → List Came
came_with c run past (Arrive conn size call) place came =
    came ++ record { arrival = arrivals past; entry = place; outcome = Unadmitted } ∷ []
came_with c run past (Admit w a verdict) place came = decided a (outcome_by (row_for c run past a w)) came
came_with c run past e place came = came

-- all calls, in the order of their arriving, each with what came of it
abbrev pub calls_in : Config → ℕ → List Entry → List Came
calls_in c run [] = []
calls_in c run (e ∷ past) = came_with c run past e (length past) (calls_in c run past)

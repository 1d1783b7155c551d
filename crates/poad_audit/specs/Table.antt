-- What is printed of all calls.
use Rattle.std.specs.Prelude.{ℕ, ◌+◌, ◌==◌, Bool, true, false, if◌then◌else◌, List, [], ◌∷◌, ◌++◌, length, codes, decimal, Option, Some, None}
use Rattle.journal_explain.specs.declared.Came.{Came}
use Rattle.journal_explain.specs.declared.Outcome.{Outcome}
use Rattle.journal_explain.specs.declared.Outcome.TheVariants.{Unadmitted, Command, Decided}
use Rattle.journal_explain.specs.declared.Row.{Row}
use Rattle.journal_explain.specs.declared.Row.TheVariants as row
use Rattle.poad_audit.specs.declared.tally.Tally.{Tally}
use Rattle.poad_audit.specs.Story.{lines_by, reason_text, row_text}

-- the place of a row in the table of verdicts, from 1 on
abbrev pub row_number : Row → ℕ
row_number row.Crowded = 1
row_number row.NoKey = 2
row_number row.BadKey = 3
row_number row.OtherRun = 4
row_number row.AdapterDying = 5
row_number row.ChildGone = 6
row_number row.ParentManager = 7
row_number row.ChildTried = 8
row_number row.ChildActivator = 9
row_number row.ChildForward = 10
row_number row.ChildMissing = 11
row_number row.OtherLifespan = 12
row_number row.OtherTag = 13
row_number row.Manager = 14
row_number row.Thread = 15
row_number row.Active = 16
row_number row.Changing = 17
row_number row.NotActive = 18
row_number row.DefaultServant = 19
row_number row.NoDefaultServant = 20
row_number row.NoServantManager = 21
row_number row.ActivatorHere = 22
row_number row.ActivatorBusy = 23
row_number row.Incarnate = 24
row_number row.LocatorHere = 25
row_number row.Locator = 26
row_number row.NoRule = 27

abbrev pub is_same : Outcome → Outcome → Bool
is_same Unadmitted Unadmitted = true
is_same Command Command = true
is_same (Decided a) (Decided b) = row_number a == row_number b
is_same a b = false

abbrev pub outcome_text : Outcome → List ℕ
outcome_text Unadmitted = codes ": it isn't admitted"
outcome_text Command = codes ": " ++ reason_text None
outcome_text (Decided row) = codes ", row " ++ (decimal (row_number row) ++ (codes ": " ++ row_text row))

-- one more
abbrev pub with_call : Came → Tally → Tally
with_call call t = record { count = t.count + 1; first = elim t.first [ None ↦ Some call | Some first ↦ Some first ]; last = Some call }

abbrev pub no_call : Tally
no_call = record { count = 0; first = None; last = None }

-- those of the calls of which this came: how many, the first and the last
abbrev pub tallied : Outcome → Tally → List Came → Tally
tallied o t [] = t
tallied o t (call ∷ more) = tallied o (if is_same o call.outcome then with_call call t else t) more

abbrev pub tally_by : Outcome → ℕ → Option Came → Option Came → List ℕ
tally_by o count (Some first) (Some last) = codes "calls " ++ (decimal count ++ (codes ", first " ++ (decimal first.arrival
    ++ (codes " in entry " ++ (decimal first.entry ++ (codes ", last " ++ (decimal last.arrival
    ++ (codes " in entry " ++ (decimal last.entry ++ (outcome_text o ++ codes "\n"))))))))))
tally_by o count first last = []

abbrev pub tally_line : List Came → Outcome → List ℕ
tally_line came o = (let t = tallied o no_call came in tally_by o t.count t.first t.last)

abbrev pub all_outcomes : List Outcome
all_outcomes =
    Unadmitted ∷ Command
    ∷ Decided row.Crowded ∷ Decided row.NoKey ∷ Decided row.BadKey ∷ Decided row.OtherRun
    ∷ Decided row.AdapterDying ∷ Decided row.ChildGone ∷ Decided row.ParentManager ∷ Decided row.ChildTried
    ∷ Decided row.ChildActivator ∷ Decided row.ChildForward ∷ Decided row.ChildMissing ∷ Decided row.OtherLifespan
    ∷ Decided row.OtherTag ∷ Decided row.Manager ∷ Decided row.Thread ∷ Decided row.Active
    ∷ Decided row.Changing ∷ Decided row.NotActive ∷ Decided row.DefaultServant ∷ Decided row.NoDefaultServant
    ∷ Decided row.NoServantManager ∷ Decided row.ActivatorHere ∷ Decided row.ActivatorBusy ∷ Decided row.Incarnate
    ∷ Decided row.LocatorHere ∷ Decided row.Locator ∷ Decided row.NoRule ∷ []

-- how many calls there are, and the line of the journal's entry 0
abbrev pub head_line : ℕ → ℕ → List ℕ
head_line count line = decimal count ++ (codes " calls, entry 0 in line " ++ (decimal line ++ codes "\n"))

-- and a line for all of which the same came
abbrev pub table_text : ℕ → List Came → List ℕ
table_text line came = head_line (length came) line ++ lines_by (tally_line came) all_outcomes

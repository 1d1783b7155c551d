-- What is printed of an object.
use Rattle.std.specs.Prelude.{ℕ, List, [], ◌∷◌, ◌++◌, codes, decimal, Option, Some, None}
use Rattle.poa_base.specs.declared.Command.{Command}
use Rattle.poa_base.specs.declared.State.{State}
use Rattle.poa_choose.specs.declared.MapFact.{MapFact}
use Rattle.poa_choose.specs.declared.MapFact.TheVariants as slot
use Rattle.text_words.specs.Token.{identity, path, spelled, tails}
use Rattle.admin_line.specs.Command.{command_tokens}
use Rattle.poa_journal.specs.Row.{row_tokens}
use Rattle.journal_explain.specs.declared.Change.{Change}
use Rattle.journal_explain.specs.declared.Doing.{Doing}
use Rattle.journal_explain.specs.declared.Doing.TheVariants.{Admits, Incarnates, Ends, TakesOut, Etherealizes, Other}
use Rattle.journal_explain.specs.declared.Moment.{Moment}
use Rattle.journal_explain.specs.declared.Moment.TheVariants as moment
use Rattle.journal_explain.specs.declared.ObjectTrail.{ObjectTrail}
use Rattle.poad_audit.specs.Story.{lines_by}

-- the object, and the line of the journal's entry 0
abbrev pub head_line : List (List ℕ) → List ℕ → ℕ → List ℕ
head_line names id line = codes "object" ++ (tails (path names ∷ identity id ∷ []) ++ (codes ", entry 0 in line "
    ++ (decimal line ++ codes "\n")))

-- what the active object map had before the first entry; or that there never was an activation
abbrev pub first_line : MapFact → List Change → List ℕ
first_line (slot.Active n) changes = codes "at first activation " ++ (decimal n ++ codes " is active\n")
first_line (slot.Busy n) changes = codes "at first activation " ++ (decimal n ++ codes " is on its way in or out\n")
first_line slot.Free [] = codes "no such activation\n"
first_line slot.Free (c ∷ changes) = []

abbrev pub moment_text : Moment → List ℕ
moment_text (moment.Begins n) = codes "activation " ++ (decimal n ++ codes " begins")
moment_text (moment.IsActive n) = codes "activation " ++ (decimal n ++ codes " is active")
moment_text (moment.Ends n) = codes "activation " ++ (decimal n ++ codes " is ending")
moment_text (moment.Leaves n) = codes "activation " ++ (decimal n ++ codes " leaves the map")
moment_text (moment.IsOver n) = codes "activation " ++ (decimal n ++ codes " is over")

-- the call by which it came to that; of an administrator's line with its command
abbrev pub call_text : ℕ → Option Command → List ℕ
call_text r None = codes ": call " ++ decimal r
call_text r (Some command) = codes ": call " ++ (decimal r ++ (codes ", " ++ spelled (command_tokens command)))

-- why it came to that
abbrev pub why_text : Doing → Option Command → List ℕ
why_text (Admits r) command = call_text r command
why_text Incarnates command = codes ": the servant activator answered"
why_text Ends command = codes ": a request ended"
why_text (TakesOut n) command = codes ": a worker takes it out"
why_text Etherealizes command = codes ": its servant was etherealized"
why_text Other command = []

-- what is stored for it, by the line that a state file has for it
abbrev pub stored_line : List ℕ → List (List ℕ) → List ℕ → Option State → List ℕ
stored_line front names id None = []
stored_line front names id (Some state) = front ++ (spelled (row_tokens ((names, id), state)) ++ codes "\n")

-- with the entry at this place
abbrev pub entry_head : ℕ → List ℕ
entry_head place = codes "entry " ++ (decimal place ++ codes " ")

abbrev pub change_line : Change → List ℕ
change_line c = entry_head c.entry ++ (moment_text c.moment ++ (why_text c.doing c.command ++ codes "\n"))

abbrev pub change_text : List (List ℕ) → List ℕ → Change → List ℕ
change_text names id c = change_line c ++ stored_line (entry_head c.entry) names id c.stored

-- what there was of it at first, and what its activations came to
abbrev pub trail_text : List (List ℕ) → List ℕ → ObjectTrail → List ℕ
trail_text names id o =
    stored_line (codes "at first ") names id o.stored
    ++ (first_line o.opens o.changes.items ++ lines_by (change_text names id) o.changes.items)

abbrev pub object_text : ℕ → List (List ℕ) → List ℕ → ObjectTrail → List ℕ
object_text line names id o = head_line names id line ++ trail_text names id o

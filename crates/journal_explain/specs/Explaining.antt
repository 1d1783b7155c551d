-- What is told of calls by the entries of a journal, and by its text.
use Rattle.std.specs.Prelude.{◌≡◌, ℕ, ◌+◌, ◌^◌, ◌<◌, ◌≤◌, ⊤, IfSome, if◌then◌else◌, List, [], ◌∷◌, length, map, reverse, All, Option, Some, None, Result, Ok, Err}
use Rattle.poa_base.specs.declared.Config.{Config}
use Rattle.poa_base.specs.declared.Entry.{Entry}
use Rattle.poa_base.specs.Store.{Slots, states, stored as stored_in}
use Rattle.history_standing.specs.Arrivals.{arrivals, call_of}
use Rattle.poa_history.specs.Legal.{IsLegal}
use Rattle.poa_history.specs.Life.{Life, givens_of, opened}
use Rattle.poa_history.specs.States.{Stored}
use Rattle.text_words.specs.Cuts.{lines_of, words_of}
use Rattle.poa_journal.specs.declared.Opening.{Opening}
use Rattle.poa_journal.specs.declared.fault.JournalFault.{JournalFault}
use Rattle.poa_journal.specs.declared.fault.JournalFault.TheVariants.{BadLine, WantMemory}
use Rattle.poa_journal.specs.Whole.{Contents, contents_of, entries_of, front_seen, head_of, rows_front}
use Rattle.journal_audit.specs.declared.Refusal.{Refusal}
use Rattle.journal_audit.specs.Auditing.{HasTaken, IsRefused, Takes}
use Rattle.journal_explain.specs.declared.selection.Selection.{Selection}
use Rattle.journal_explain.specs.declared.came.Came.{Came}
use Rattle.journal_explain.specs.declared.explainer.Explainer.{Explainer}
use Rattle.journal_explain.specs.declared.explanation.Explanation.{Explanation}
use Rattle.journal_explain.specs.declared.object_trail.ObjectTrail.{ObjectTrail}
use Rattle.journal_explain.specs.declared.trail.Trail.{Trail}
use Rattle.journal_explain.specs.declared.watch.Watch.{Watch}
use Rattle.journal_explain.specs.Adapters.{adapter_for}
use Rattle.journal_explain.specs.Naming.{is_all, names_in}
use Rattle.journal_explain.specs.Objects.{changes_in, slot_asked, stored_asked}
use Rattle.journal_explain.specs.Outcomes.{calls_in}
use Rattle.journal_explain.specs.Serving.{server_in}
use Rattle.journal_explain.specs.Stories.{IsStory, wait_of}
use Rattle.journal_explain.specs.Watching.{KnowsBeginnings, KnowsOrigins}

-- what came of all calls, where that is asked
abbrev pub came_in : Selection → Config → ℕ → List Entry → List Came
came_in which c run h = if is_all which then calls_in c run h else []

-- the trail of a call tells what happened in the run
pub record HasSeen (life : Life) (t : Trail) : Type 0 where
  pub call : call_of life.history t.name.arrival ≡ Some t.call
  pub steps : IsStory life.config life.run (opened life) life.history t.name.arrival t.steps.items
  pub wait : t.wait ≡ wait_of life.config life.run life.history t.name.arrival
  pub adapter : t.adapter ≡ adapter_for life.config life.run life.history t.name.arrival
  pub server : t.server ≡ server_in life.history t.name.arrival
  pub arrived : t.name.arrival < arrivals life.history

-- so does that of the object that is asked for
pub record HasTraced (which : Selection) (life : Life) (o : ObjectTrail) : Type 0 where
  pub opens : o.opens ≡ slot_asked which life.config life.run []
  pub stored : o.stored ≡ stored_asked which life.config life.run (opened life) []
  pub slot : o.slot ≡ slot_asked which life.config life.run life.history
  pub changes : o.changes.items ≡ changes_in which life.config life.run (opened life) life.history

-- so do the trails of all calls that are asked for, what came of all, since when all is set that commands set, and with which
-- entries the activations began
pub record HasWatched (life : Life) (w : Watch) : Type 0 where
  pub origins : KnowsOrigins life w.origins
  pub beginnings : KnowsBeginnings life w.beginnings
  pub names : map (λ t. t.name) w.trails.items ≡ names_in w.asked life.history
  pub each : All (HasSeen life) w.trails.items
  pub object : HasTraced w.asked life w.object
  pub came : w.came.items ≡ came_in w.asked life.config life.run life.history

-- as long as each entry was legal
abbrev pub SeesWhereLegal : Option Refusal → Life → Watch → Type 0
SeesWhereLegal None life w = HasWatched life w
SeesWhereLegal (Some refusal) life w = ⊤

abbrev pub Sees : Explainer → Type 0
Sees x = SeesWhereLegal x.auditor.refusal x.auditor.run x.watch

-- an entry comes
pub record Hears (e : Entry) (old new : Explainer) : Type 0 where
  pub takes : Takes e old.auditor new.auditor
  pub same : new.watch.asked ≡ old.watch.asked
  pub sees : Sees old → Sees new

-- the entries of lines, of which the first has this number, were heard
pub record LinesHeard (first : ℕ) (text : List ℕ) (old : Explainer) (count : ℕ) (new : Explainer) : Type 0 where
  pub entries : List Entry
  pub read : entries_of first (lines_of text) ≡ Ok entries
  pub counted : count ≡ length entries
  pub fits : first + count ≤ first + length text
  pub taken : HasTaken entries new.auditor
  pub given : givens_of new.auditor.run ≡ givens_of old.auditor.run
  pub same : new.watch.asked ≡ old.watch.asked
  pub sees : Sees new

abbrev pub HearsLines : ℕ → List ℕ → Explainer → Result ℕ JournalFault → Explainer → Type 0
HearsLines first text old (Ok count) new = LinesHeard first text old count new
HearsLines first text old (Err (BadLine line)) new = entries_of first (lines_of text) ≡ Err line
HearsLines first text old (Err WantMemory) new = ⊤

-- the front of a text: its head line with the number of the run, and the rows behind it
pub record IsFront (text : List ℕ) (run : ℕ) (opening : Opening) : Type 0 where
  pub head : List ℕ
  pub rows : List (List ℕ)
  pub lines : lines_of text ≡ head ∷ rows
  pub run_is : head_of (words_of head) ≡ Ok run
  pub opening_is : rows_front 2 None rows ≡ Ok (front_seen opening)

-- each line has a number
abbrev pub HasRoom : Opening → Type 0
HasRoom opening = opening.line + length opening.rest.now < 2 ^ 64

-- what came as the call, the adapter that stood at the path of its key, and what happened to the call
pub record IsTold (c : Config) (run : ℕ) (opened : Stored) (h : List Entry) (t : Trail) : Type 0 where
  pub call : call_of h t.name.arrival ≡ Some t.call
  pub adapter : t.adapter ≡ adapter_for c run h t.name.arrival
  pub steps : IsStory c run opened h t.name.arrival t.steps.items

-- what the active object map had for the id of an object before the first entry, what was stored for it then, and what its
-- activations came to with each
pub record TellsObject (which : Selection) (c : Config) (run : ℕ) (opened : Stored) (h : List Entry) (o : ObjectTrail) : Type 0 where
  pub opens : o.opens ≡ slot_asked which c run []
  pub stored : o.stored ≡ stored_asked which c run opened []
  pub changes : o.changes.items ≡ changes_in which c run opened h

-- of each call that is asked for by itself, each once in the order of their arriving, what happened to it; what stood of the
-- object that is asked for; and what came of all calls, where that is asked
pub record TellsCalls (c : Config) (run : ℕ) (opened : Stored) (h : List Entry) (w : Watch) : Type 0 where
  pub names : map (λ t. t.name) w.trails.items ≡ names_in w.asked h
  pub told : All (IsTold c run opened h) w.trails.items
  pub object : TellsObject w.asked c run opened h w.object
  pub came : w.came.items ≡ came_in w.asked c run h

-- all entries are legal, and this is told; or this entry is the first that isn't
abbrev pub TellsWhereLegal : Config → ℕ → ℕ → Stored → List Entry → Option Refusal → Watch → Type 0
TellsWhereLegal c run limit opened entries None w =
    IsLegal c run limit (reverse entries) × TellsCalls c run opened (reverse entries) w
TellsWhereLegal c run limit opened entries (Some refusal) w = IsRefused c run limit entries refusal

-- the text is a journal, of which the explanation tells whether it is legal, and what is asked
pub record Explains (c : Config) (limit : ℕ) (which : Selection) (text : List ℕ) (x : Explanation) : Type 0 where
  pub journal : Contents
  pub reads : contents_of text ≡ Ok journal
  -- what was stored when the run began
  pub opening : Slots
  pub rows : states opening ≡ journal.rows
  pub first : x.first_line ≡ 2 + length journal.rows
  pub asked : x.watch.asked ≡ which
  pub tells : TellsWhereLegal c journal.run limit (stored_in opening) journal.entries x.refusal x.watch
  -- the line of the first entry that isn't legal has a number
  pub numbered : IfSome x.refusal (λ r. x.first_line + r.entry < 2 ^ 64)

-- or this line is the first that is none of a journal's
abbrev pub ExplainsText : Config → ℕ → Selection → List ℕ → Result Explanation JournalFault → Type 0
ExplainsText c limit which text (Ok x) = Explains c limit which text x
ExplainsText c limit which text (Err (BadLine line)) = contents_of text ≡ Err line
ExplainsText c limit which text (Err WantMemory) = ⊤

-- the same of each text with this front
abbrev pub ExplainsFront : Config → ℕ → Selection → ℕ → Opening → Result Explanation JournalFault → Type 0
ExplainsFront c limit which run opening result = (text : List ℕ) → IsFront text run opening → ExplainsText c limit which text result

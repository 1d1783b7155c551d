-- The entry of a line's words.
use Rattle.std.specs.Prelude.{ℕ, ◌^◌, List, [], ◌∷◌, Option, Some, None}
use Rattle.poa_base.specs.declared.Entry.{Entry}
use Rattle.poa_base.specs.declared.Entry.TheVariants.{Entered, Arrive, Filled, Left, Collect, Admit, Tried, Incarnated, Run, Done, TakeOut, Etherealized, Abandon}
use Rattle.text_words.specs.Chain.{◌>>=◌}
use Rattle.text_words.specs.Keyword.{named_in}
use Rattle.text_words.specs.Number.{number_of}
use Rattle.poa_journal.specs.declared.fixed.Kind.{Kind}
use Rattle.poa_journal.specs.declared.fixed.Kind.TheVariants as kind
use Rattle.poa_journal.specs.declared.fixed.Removal.{Removal}
use Rattle.poa_journal.specs.declared.fixed.Flag.{Flag}
use Rattle.poa_journal.specs.Fixed.{kind_word, kinds, removal_word, removals, is_etherealizing, flag_word, flags, holds}
use Rattle.text_words.specs.Parts.{only, last_number}
use Rattle.poa_journal.specs.Call.{call_of}
use Rattle.poa_journal.specs.Verdict.{verdict_of}
use Rattle.poa_journal.specs.Outcome.{attempt_of, incarnation_of}

abbrev pub removal_of : List ℕ → Option Removal
removal_of w = named_in removal_word removals w

abbrev pub flag_of : List ℕ → Option Flag
flag_of w = named_in flag_word flags w

-- a number below 2^32 and one below 2^64
abbrev pub last_pair : List (List ℕ) → Option (ℕ × ℕ)
last_pair [] = None
last_pair (a ∷ ws) = do
  m ← number_of (2 ^ 32) a
  n ← only (number_of (2 ^ 64)) ws
  Some (m, n)

abbrev pub arrive_of : List (List ℕ) → Option Entry
arrive_of (c ∷ s ∷ ws) = do
  conn ← number_of (2 ^ 32) c
  size ← number_of (2 ^ 64) s
  call ← call_of ws
  Some (Arrive conn size call)
arrive_of ws = None

abbrev pub admit_of : List (List ℕ) → Option Entry
admit_of (w ∷ a ∷ ws) = do
  worker ← number_of (2 ^ 32) w
  arrival ← number_of (2 ^ 64) a
  verdict ← verdict_of ws
  Some (Admit worker arrival verdict)
admit_of ws = None

abbrev pub tried_of : List (List ℕ) → Option Entry
tried_of [] = None
tried_of (w ∷ ws) = do
  worker ← number_of (2 ^ 32) w
  answer ← attempt_of ws
  Some (Tried worker answer)

abbrev pub incarnated_of : List (List ℕ) → Option Entry
incarnated_of [] = None
incarnated_of (w ∷ ws) = do
  worker ← number_of (2 ^ 32) w
  answer ← incarnation_of ws
  Some (Incarnated worker answer)

abbrev pub take_out_of : List (List ℕ) → Option Entry
take_out_of (w ∷ n ∷ ws) = do
  worker ← number_of (2 ^ 32) w
  activation ← number_of (2 ^ 32) n
  removal ← only removal_of ws
  Some (TakeOut worker activation (is_etherealizing removal))
take_out_of ws = None

abbrev pub etherealized_of : List (List ℕ) → Option Entry
etherealized_of (w ∷ c ∷ ws) = do
  worker ← number_of (2 ^ 32) w
  cleanup ← flag_of c
  remaining ← only flag_of ws
  Some (Etherealized worker (holds cleanup) (holds remaining))
etherealized_of ws = None

abbrev pub body_of : Kind → List (List ℕ) → Option Entry
body_of kind.Entered ws = do
  conn ← last_number ws
  Some (Entered conn)
body_of kind.Arrive ws = arrive_of ws
body_of kind.Filled ws = do
  p ← last_pair ws
  Some (Filled p.0 p.1)
body_of kind.Left ws = do
  conn ← last_number ws
  Some (Left conn)
body_of kind.Collect ws = do
  p ← last_pair ws
  Some (Collect p.0 p.1)
body_of kind.Admit ws = admit_of ws
body_of kind.Tried ws = tried_of ws
body_of kind.Incarnated ws = incarnated_of ws
body_of kind.Run ws = do
  worker ← last_number ws
  Some (Run worker)
body_of kind.Done ws = do
  worker ← last_number ws
  Some (Done worker)
body_of kind.TakeOut ws = take_out_of ws
body_of kind.Etherealized ws = etherealized_of ws
body_of kind.Abandon ws = do
  worker ← last_number ws
  Some (Abandon worker)

abbrev pub kind_of : List ℕ → Option Kind
kind_of w = named_in kind_word kinds w

-- the entry of words
abbrev pub entry_of : List (List ℕ) → Option Entry
entry_of [] = None
entry_of (w ∷ ws) = do
  k ← kind_of w
  body_of k ws

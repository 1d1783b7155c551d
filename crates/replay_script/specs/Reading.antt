-- The line of a text's words.
use Rattle.std.specs.Prelude.{ℕ, ◌^◌, ◌==◌, ◌&&◌, ◌||◌, nat_lt, Bool, List, [], ◌∷◌, length, Option, Some, None, if◌then◌else◌}
use Rattle.std.specs.List.{list_all}
use Rattle.poa_base.specs.declared.Datum.{Datum}
use Rattle.poa_base.specs.declared.Datum.TheVariants as datum
use Rattle.poa_base.specs.declared.ScriptLine.{ScriptLine}
use Rattle.poa_base.specs.declared.ScriptLine.TheVariants as line
use Rattle.text_words.specs.Chain.{◌>>=◌}
use Rattle.text_words.specs.Cuts.{loose_words_of}
use Rattle.text_words.specs.Hexadecimal.{any_hex_of}
use Rattle.text_words.specs.Identity.{id_of}
use Rattle.text_words.specs.Keyword.{named_in}
use Rattle.text_words.specs.Name.{name_of}
use Rattle.text_words.specs.Number.{number_of, signed_of}
use Rattle.text_words.specs.Parts.{alone, last_name, last_number}
use Rattle.text_words.specs.Path.{path_of}
use Rattle.replay_script.specs.declared.invocation.Invocation.{Invocation}
use Rattle.replay_script.specs.declared.fixed.Verb.{Verb}
use Rattle.replay_script.specs.declared.fixed.Verb.TheVariants as verb
use Rattle.replay_script.specs.declared.fixed.Form.{Form}
use Rattle.replay_script.specs.declared.fixed.Form.TheVariants as form
use Rattle.replay_script.specs.Fixed.{verb_word, verbs, form_word, forms}
use Rattle.replay_script.specs.Edges.{is_skipped, trimmed, behind_word}

-- a printable byte that isn't a space
abbrev pub is_printable : ℕ → Bool
is_printable c = nat_lt 32 c && nat_lt c 127

abbrev pub printable_of : List ℕ → Option (List ℕ)
printable_of text = if list_all is_printable text then Some text else None

abbrev pub form_of : ℕ → Option Form
form_of letter = named_in form_word forms (letter ∷ [])

abbrev pub datum_behind : Form → List ℕ → Option Datum
datum_behind form.Long text = do
  n ← signed_of text
  Some (datum.Long n)
datum_behind form.Ulong text = do
  n ← number_of (2 ^ 32) text
  Some (datum.Ulong n)
datum_behind form.Octets text = do
  bytes ← any_hex_of text
  Some (datum.Octets bytes)
datum_behind form.Text text = do
  bytes ← printable_of text
  Some (datum.Text bytes)

-- a letter, a colon, whose code is 58, and the value
abbrev pub datum_of : List ℕ → Option Datum
datum_of [] = None
datum_of (letter ∷ []) = None
datum_of (letter ∷ colon ∷ text) = if colon == 58 then (do
  form ← form_of letter
  datum_behind form text) else None

-- one argument or none
abbrev pub argument_of : List (List ℕ) → Option (Option Datum)
argument_of [] = Some None
argument_of (w ∷ []) = do
  d ← datum_of w
  Some (Some d)
argument_of (w ∷ v ∷ ws) = None

-- an operation of an object, and its argument
abbrev pub invocation_of : List (List ℕ) → Option Invocation
invocation_of (p ∷ o ∷ f ∷ ws) = do
  path ← path_of p
  oid ← id_of o
  operation ← name_of f
  argument ← argument_of ws
  Some (record { path = path; oid = oid; operation = operation; argument = argument })
invocation_of ws = None

abbrev pub ask_of : List (List ℕ) → Option ScriptLine
ask_of (c ∷ i ∷ ws) = do
  conn ← name_of c
  id ← number_of (2 ^ 32) i
  made ← invocation_of ws
  Some (line.Ask conn id made.path made.oid made.operation made.argument)
ask_of ws = None

-- a flood stands for at most 100,000 requests
abbrev pub flood_size : ℕ → Option ℕ
flood_size n = if nat_lt 100000 n then None else Some n

abbrev pub flood_count : List ℕ → Option ℕ
flood_count word = do
  n ← number_of (2 ^ 32) word
  flood_size n

abbrev pub flood_of : List (List ℕ) → Option ScriptLine
flood_of (c ∷ n ∷ ws) = do
  conn ← name_of c
  count ← flood_count n
  made ← invocation_of ws
  Some (line.Flood conn count made.path made.oid made.operation made.argument)
flood_of ws = None

abbrev pub feed_of : List (List ℕ) → Option ScriptLine
feed_of (c ∷ b ∷ []) = do
  conn ← name_of c
  bytes ← any_hex_of b
  Some (line.Feed conn bytes)
feed_of ws = None

-- an administrator's line: one that his link wouldn't skip, of at most 4,096 bytes
abbrev pub command_of : List ℕ → Option (List ℕ)
command_of text = if is_skipped text || nat_lt 4096 (length text) then None else Some text

-- the words behind the connection stand as they are written
abbrev pub admin_of : List ℕ → List (List ℕ) → Option ScriptLine
admin_of text [] = None
admin_of text (c ∷ ws) = do
  conn ← name_of c
  words ← command_of (behind_word (behind_word text))
  Some (line.Admin conn words)

-- a worker's number is below 16
abbrev pub worker_number : ℕ → Option ℕ
worker_number n = if nat_lt n 16 then Some n else None

abbrev pub worker_of : List (List ℕ) → Option ℕ
worker_of ws = do
  n ← last_number ws
  worker_number n

abbrev pub verb_of : List ℕ → Option Verb
verb_of w = named_in verb_word verbs w

-- the line of a verb, the whole text and the words behind the verb
abbrev pub behind_verb : Verb → List ℕ → List (List ℕ) → Option ScriptLine
behind_verb verb.Ask text ws = ask_of ws
behind_verb verb.Flood text ws = flood_of ws
behind_verb verb.Feed text ws = feed_of ws
behind_verb verb.End text ws = do
  c ← last_name ws
  Some (line.End c)
behind_verb verb.Admin text ws = admin_of text ws
behind_verb verb.Step text ws = do
  w ← worker_of ws
  Some (line.Step w)
behind_verb verb.Run text ws = do
  w ← worker_of ws
  Some (line.Run w)
behind_verb verb.Collect text ws = do
  c ← last_name ws
  Some (line.Collect c)
behind_verb verb.Store text ws = alone line.Store ws
behind_verb verb.Journal text ws = alone line.Journal ws

abbrev pub written_of : List ℕ → List (List ℕ) → Option ScriptLine
written_of text [] = None
written_of text (w ∷ ws) = do
  v ← verb_of w
  behind_verb v text ws

-- the line that bytes write: skipped, or words with spaces between and blanks at the ends
abbrev pub line_of : List ℕ → Option ScriptLine
line_of bytes =
    if is_skipped bytes then Some line.Skipped else written_of (trimmed bytes) (loose_words_of (trimmed bytes))

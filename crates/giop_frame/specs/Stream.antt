-- The stream of a text: its messages in the order of their last parts, and its end.
use Rattle.std.specs.Prelude.{◌≡◌, ℕ, ◌+◌, List, [], ◌∷◌, ◌++◌, if◌then◌else◌, length, option_map, option_to_list}
use Rattle.std.specs.List.{concat}
use Rattle.std.specs.Option.{option_map_or}
use Rattle.std.specs.Ordering.{nat_cmp}
use Rattle.std.specs.BTreeMap.{insert_entry}
use Rattle.std.specs.Map.{set_value, remove_entry}
use Rattle.giop_frame.specs.declared.rules.Look.TheVariants.{Unfinished, Whole, Bad}
use Rattle.giop_frame.specs.declared.why.Why.{Why}
use Rattle.giop_frame.specs.declared.header.TheConstants.{NEWEST_MINOR}
use Rattle.giop_frame.specs.Part.{header_of, id_of, minor_of, continues}
use Rattle.giop_frame.specs.Open.{Open, Opens, at_id, find_open, opened_by, joined, taken_bytes}
use Rattle.giop_frame.specs.Rules.{look_at}

-- a message of a stream: the place of its first byte, and its bytes, joined where it was fragmented
pub record Framed : Type 0 where
  pub at : ℕ
  pub bytes : List ℕ

-- what the parts so far leave: the place behind them, and the open messages
pub record Reading : Type 0 where
  pub place : ℕ
  pub pending : Opens

-- how a stream ends: so many bytes belong to no message, or a place is bad
pub data End : Type 0 where
  left_over : ℕ → End
  bad_place : ℕ → Why → End

-- the open messages behind a part
abbrev pub open_after : Reading → List ℕ → Opens
open_after r part =
    let h = header_of part in
    let id = id_of part in
    if continues h then
    (if h.more then option_map_or (λ o. set_value (at_id id) r.pending (joined o part)) (find_open id r.pending) r.pending
    else remove_entry (at_id id) r.pending)
    else if h.more then insert_entry nat_cmp r.pending id (opened_by r.place part)
    else r.pending

abbrev pub after : Reading → List ℕ → Reading
after r part = record { place = r.place + length part; pending = open_after r part }

-- an open message that is closed by this Fragment
abbrev pub closed_by : Open → List ℕ → Framed
closed_by o part = record { at = o.at; bytes = (joined o part).bytes }

-- the message that a part completes: itself, or the open one that its Fragment closes
abbrev pub completed : Reading → List ℕ → List Framed
completed r part =
    let h = header_of part in
    if h.more then []
    else if continues h then option_to_list (option_map (λ o. closed_by o part) (find_open (id_of part) r.pending))
    else record { at = r.place; bytes = part } ∷ []

-- each part is whole and good after the parts before it
abbrev pub AreGood : ℕ → Reading → List (List ℕ) → Type 0
AreGood limit r [] = Unit {0}
AreGood limit r (part ∷ parts) = (look_at limit r.pending part ≡ Whole (length part)) × AreGood limit (after r part) parts

-- what all parts leave
abbrev pub after_all : Reading → List (List ℕ) → Reading
after_all r [] = r
after_all r (part ∷ parts) = after_all (after r part) parts

-- the messages that they complete
abbrev pub messages_of : Reading → List (List ℕ) → List Framed
messages_of r [] = []
messages_of r (part ∷ parts) = completed r part ++ messages_of (after r part) parts

-- the text behind the parts has no whole part, or its first part is bad
abbrev pub StreamEnds : ℕ → Reading → List ℕ → End → Type 0
StreamEnds limit r text (left_over have) = (look_at limit r.pending text ≡ Unfinished) × (have ≡ taken_bytes r.pending + length text)
StreamEnds limit r text (bad_place at why) = (look_at limit r.pending text ≡ Bad why) × (at ≡ r.place)

-- the stream of a text that goes on after such parts
pub record StreamFrom (limit : ℕ) (r : Reading) (text : List ℕ) (messages : List Framed) (end : End) : Type 0 where
  pub parts : List (List ℕ)
  pub left : List ℕ
  pub cut : text ≡ concat parts ++ left
  pub good : AreGood limit r parts
  pub given : messages ≡ messages_of r parts
  pub ends : StreamEnds limit (after_all r parts) left end

-- no part yet
abbrev pub start : Reading
start = record { place = 0; pending = [] }

-- the stream of a text
abbrev pub Stream : ℕ → List ℕ → List Framed → End → Type 0
Stream limit text messages end = StreamFrom limit start text messages end

-- each text has a stream, and one alone
pub record OneStream (limit : ℕ) (text : List ℕ) : Type 0 where
  pub messages : List Framed
  pub end : End
  pub is_stream : Stream limit text messages end
  pub alone : (others : List Framed) (other : End) → Stream limit text others other → (others ≡ messages) × (other ≡ end)

-- the minor version of the first of these messages, and the newest where there is none
abbrev pub first_minor : List Framed → ℕ
first_minor [] = NEWEST_MINOR
first_minor (m ∷ messages) = minor_of m.bytes

-- this is the minor version of the first message of the text, and the newest where it has none
abbrev pub IsFirstMinor : ℕ → List ℕ → ℕ → Type 0
IsFirstMinor limit text minor = (messages : List Framed) (end : End) → Stream limit text messages end → first_minor messages ≡ minor

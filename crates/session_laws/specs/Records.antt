-- What a history says of a connection. Of the words here those that end in `_by` take a history with its newest entry
-- first, as the definitions of histories do; the others take a log, which is in the journal's order.
use Rattle.std.specs.Prelude.{◌≡◌, ℕ, Bool, true, false, ◌==◌, ◌&&◌, ◌||◌, if◌then◌else◌, List, [], ◌∷◌, ◌++◌, length, reverse, Option, Some, None, ◌^◌}
use Rattle.poa_base.specs.declared.Call.{Call}
use Rattle.poa_base.specs.declared.Call.TheVariants.{Line}
use Rattle.poa_base.specs.declared.Entry.{Entry}
use Rattle.poa_base.specs.declared.Entry.TheVariants.{Entered, Arrive, Filled, Collect}
use Rattle.poa_base.specs.declared.Head.{Head}
use Rattle.poa_base.specs.declared.Reply.{Reply}
use Rattle.poa_base.specs.declared.Reply.TheVariants as reply
use Rattle.history_standing.specs.Arrivals.{call_of}
use Rattle.poa_history.specs.Replies.{is_asked, is_collected, reply_of}
use Rattle.history_standing.specs.Stages.{is_at}
use Rattle.poa_history.specs.declared.Givens.{Givens}
use Rattle.poa_history.specs.GivenRuns.{opened}
use Rattle.poa_history.specs.Owners.{owner_of}
use Rattle.poa_history.specs.Leaving.{is_shut}
use Rattle.poa_history.specs.Heads.{head_of}
use Rattle.giop_answer.specs.Reply.{reply_bytes}
use Rattle.text_words.specs.Token.{number, spelled}
use Rattle.admin_line.specs.Answer.{answer_tokens}
use Rattle.session_laws.specs.Hearing.{Heard}
use Rattle.session_laws.specs.declared.peer.Peer.{Peer}
use Rattle.session_laws.specs.declared.peer.Peer.TheVariants.{Client, Administrator}

-- the calls of the connection that arrived, in their order
abbrev pub arrived_by : List Entry → ℕ → List Heard
arrived_by [] c = []
arrived_by (Arrive conn size call ∷ past) c =
    if conn == c then arrived_by past c ++ record { call = call; size = size } ∷ [] else arrived_by past c
arrived_by (e ∷ past) c = arrived_by past c

abbrev pub arrived : ℕ → List Entry → List Heard
arrived c log = arrived_by (reverse log) c

abbrev pub is_line : Call → Bool
is_line (Line n command) = true
is_line call = false

-- a line is among the calls of the connection that arrived
abbrev pub has_line_by : List Entry → ℕ → Bool
has_line_by [] c = false
has_line_by (Arrive conn size call ∷ past) c = (conn == c && is_line call) || has_line_by past c
has_line_by (e ∷ past) c = has_line_by past c

-- as whom a history shows the peer of a connection: one who sent a line that arrived is an administrator, and any other a client
abbrev pub peer_by : List Entry → ℕ → Peer
peer_by h c = if has_line_by h c then Administrator else Client

abbrev pub peer_of : ℕ → List Entry → Peer
peer_of c log = peer_by (reverse log) c

-- the bytes that tell a reply: a message of GIOP, or the line that answers an administrator's line
abbrev pub told : Head → Reply → List ℕ
told head (reply.Answer n answer) = spelled (number (2 ^ 64) n ∷ answer_tokens answer) ++ 10 ∷ []
told head other = reply_bytes head other

abbrev pub told_or_nothing : Head → Option Reply → List ℕ
told_or_nothing head None = []
told_or_nothing head (Some reply) = told head reply

-- the bytes of the reply to an arrival
abbrev pub reply_told : Givens → List Entry → ℕ → List ℕ
reply_told g h r = told_or_nothing (head_of (call_of h r)) (reply_of g.config g.run (opened g) h r)

-- the bytes of the replies that the connection was given, in the order in which they were collected
abbrev pub joined_by : Givens → List Entry → ℕ → List ℕ
joined_by g [] c = []
joined_by g (Collect conn r ∷ past) c = if conn == c then joined_by g past c ++ reply_told g past r else joined_by g past c
joined_by g (e ∷ past) c = joined_by g past c

abbrev pub joined : Givens → ℕ → List Entry → List ℕ
joined g c log = joined_by g (reverse log) c

-- the places of the connection's entries
abbrev pub places_by : List Entry → ℕ → List ℕ
places_by [] c = []
places_by (e ∷ past) c = if is_at c (owner_of e) then places_by past c ++ length past ∷ [] else places_by past c

abbrev pub places : ℕ → List Entry → List ℕ
places c log = places_by (reverse log) c

-- nothing is owed: every arrival of the connection that asks a reply is collected
abbrev pub IsPaidBy : List Entry → ℕ → Type 0
IsPaidBy h c = (r : ℕ) → is_asked h c r ≡ true → is_collected h r ≡ true

abbrev pub IsPaid : ℕ → List Entry → Type 0
IsPaid c log = IsPaidBy (reverse log) c

-- the size of the call of the connection that filled the run
abbrev pub filling_by : List Entry → ℕ → Option ℕ
filling_by [] c = None
filling_by (Filled conn size ∷ past) c = if conn == c then Some size else filling_by past c
filling_by (e ∷ past) c = filling_by past c

abbrev pub filling : ℕ → List Entry → Option ℕ
filling c log = filling_by (reverse log) c

-- a `shutdown` was admitted before the connection entered
abbrev pub is_late_by : List Entry → ℕ → Bool
is_late_by [] c = false
is_late_by (Entered conn ∷ past) c = if conn == c then is_shut past else is_late_by past c
is_late_by (e ∷ past) c = is_late_by past c

abbrev pub is_late : ℕ → List Entry → Bool
is_late c log = is_late_by (reverse log) c

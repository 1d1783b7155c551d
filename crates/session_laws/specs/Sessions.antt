-- What the session of a connection is, by how it ended: which of the calls that its peer sent arrived, what was written
-- to it, and why it ended.
use Rattle.std.specs.Prelude.{◌≡◌, ℕ, ◌^◌, ◌<◌, ◌⊎◌, Bool, true, false, List, [], ◌∷◌, ◌++◌, length, reverse, Some, IfSome}
use Rattle.poa_base.specs.declared.Call.{Call}
use Rattle.poa_base.specs.declared.Entry.{Entry}
use Rattle.poa_base.specs.declared.SessionEnd.{SessionEnd}
use Rattle.poa_base.specs.declared.SessionEnd.TheVariants.{Ended, Shut, ReadFault, WriteFault, Malformed, Truncated, InputLimit, Limit, Abandoned, WantMemory}
use Rattle.history_standing.specs.Stages.{is_abandoned}
use Rattle.poa_history.specs.declared.Givens.{Givens}
use Rattle.poa_history.specs.Leaving.{is_shut}
use Rattle.poa_history.specs.Limits.{filled_at}
use Rattle.seat_lock.specs.Histories.{IsPrefix}
use Rattle.giop_frame.specs.Stream.{IsFirstMinor}
use Rattle.giop_answer.specs.declared.kind.TheConstants.{CLOSE_CONNECTION, MESSAGE_ERROR}
use Rattle.giop_answer.specs.Outgoing.{framed}
use Rattle.session_laws.specs.declared.peer.Peer.{Peer}
use Rattle.session_laws.specs.declared.peer.Peer.TheVariants.{Client, Administrator}
use Rattle.session_laws.specs.Hearing.{Heard, Stop, closed, over, bad, message_limit, HearsMessages}
use Rattle.session_laws.specs.Lines.{HearsLines}
use Rattle.session_laws.specs.Records.{arrived, arrived_by, joined_by, filling_by, IsPaidBy}

-- these are the calls of what the peer sent, and so its input stops
abbrev pub Hears : Peer → List ℕ → List Heard → Stop → Type 0
Hears Client = HearsMessages
Hears Administrator = HearsLines

-- the calls of what the peer sent begin with these
pub record Begins (peer : Peer) (text : List ℕ) (calls : List Heard) : Type 0 where
  pub more : List Heard
  pub stop : Stop
  pub hears : Hears peer text (calls ++ more) stop

-- a call of the peer that isn't among those that arrived, of this size
pub record IsNext (peer : Peer) (text : List ℕ) (calls : List Heard) (size : ℕ) : Type 0 where
  pub call : Call
  pub begins : Begins peer text (calls ++ record { call = call; size = size } ∷ [])

-- a CloseConnection was read
abbrev pub HasClosing : Peer → List ℕ → Type 0
HasClosing peer text = (calls : List Heard) × Hears peer text calls closed

-- the calls that arrived are all of them, or the first of them. At the limit of the input they are all of what was read, and
-- nothing of that ends the input earlier
abbrev pub Input : Peer → List ℕ → List Heard → SessionEnd → Type 0
Input peer text calls Ended = Hears peer text calls closed ⊎ Hears peer text calls (over 0)
Input peer text calls (Malformed at) = Hears peer text calls (bad at)
Input peer text calls (Truncated have) = Hears peer text calls (over have) × (0 < have)
Input peer text calls (InputLimit taken) = (have : ℕ) × Hears peer text calls (over have)
Input peer text calls end = Begins peer text calls

-- why a session ended, by what stood as its connection left, the calls that had arrived on it then, and what was read. A
-- read tells the end of the input and a fault, and none is made once 2^40 bytes were read. At a limit the run was filled,
-- with so many calls and bytes of calls before that, and a call of the peer didn't arrive
abbrev pub CauseBy : Peer → List Entry → List Heard → List ℕ → SessionEnd → Type 0
CauseBy peer h calls text Ended = HasClosing peer text ⊎ (length text < 2 ^ 40)
CauseBy peer h calls text (Truncated have) = length text < 2 ^ 40
CauseBy peer h calls text ReadFault = length text < 2 ^ 40
CauseBy peer h calls text (InputLimit taken) = (taken ≡ 2 ^ 40) × (length text ≡ taken)
CauseBy peer h calls text Shut = is_shut h ≡ true
CauseBy peer h calls text (Limit many bytes) = (filled_at h ≡ Some (many, bytes)) × (size : ℕ) × IsNext peer text calls size
CauseBy peer h calls text (Abandoned worker) = is_abandoned h worker ≡ true
CauseBy peer h calls text end = Unit {0}

abbrev pub Cause : Peer → List Entry → ℕ → List ℕ → SessionEnd → Type 0
Cause peer log c text end = CauseBy peer (reverse log) (arrived c log) text end

-- MessageError and CloseConnection of a minor version: CORBA 3.3 Part 2, 9.4.8 and 9.4.7
abbrev pub message_error : ℕ → List ℕ
message_error minor = framed minor MESSAGE_ERROR false []

abbrev pub close_connection : ℕ → List ℕ
close_connection minor = framed minor CLOSE_CONNECTION false []

-- the message that closes a client's connection, in this minor version
abbrev pub closing_message : ℕ → SessionEnd → List ℕ
closing_message minor (Malformed at) = message_error minor
closing_message minor Shut = close_connection minor
closing_message minor (Limit calls bytes) = close_connection minor
closing_message minor end = []

-- an administrator's has none
abbrev pub closing : Peer → ℕ → SessionEnd → List ℕ
closing Client minor end = closing_message minor end
closing Administrator minor end = []

-- it is written in the minor version of the client's first message, and in the newest where there is none
abbrev pub ClosesIn : Peer → List ℕ → ℕ → Type 0
ClosesIn Client text minor = IsFirstMinor message_limit text minor
ClosesIn Administrator text minor = Unit {0}

-- an end before which everything that is owed is paid
abbrev pub is_settling : SessionEnd → Bool
is_settling Ended = true
is_settling (Malformed at) = true
is_settling (Truncated have) = true
is_settling Shut = true
is_settling (Limit many bytes) = true
is_settling end = false

-- all that was owed is written, and the message that closes the connection
pub record Closes (peer : Peer) (text : List ℕ) (replies : List ℕ) (Paid : Type 0) (out : List ℕ) (end : SessionEnd) : Type 0 where
  pub minor : ℕ
  pub closes_in : ClosesIn peer text minor
  pub paid : Paid
  pub whole : out ≡ replies ++ closing peer minor end

-- the front of what was due, where the session would have ended so, and why; no byte of the message that closes the
-- connection is written before all that was owed
pub record FallsShort (peer : Peer) (h : List Entry) (text : List ℕ) (calls : List Heard) (replies : List ℕ) (Paid : Type 0)
    (out : List ℕ) : Type 0 where
  pub due : SessionEnd
  pub minor : ℕ
  pub closes_in : ClosesIn peer text minor
  pub input : Input peer text calls due
  pub cause : CauseBy peer h calls text due
  pub front : IsPrefix out (replies ++ closing peer minor due)
  pub paid : length replies < length out → Paid

abbrev pub Output : Peer → List Entry → List ℕ → List Heard → List ℕ → Type 0 → List ℕ → SessionEnd → Type 0
Output peer h text calls replies Paid out ReadFault = out ≡ replies
Output peer h text calls replies Paid out (InputLimit taken) = out ≡ replies
Output peer h text calls replies Paid out (Abandoned worker) = out ≡ replies
Output peer h text calls replies Paid out WriteFault = FallsShort peer h text calls replies Paid out
Output peer h text calls replies Paid out WantMemory = FallsShort peer h text calls replies Paid out
Output peer h text calls replies Paid out end = Closes peer text replies Paid out end

-- the session of a connection that read this text of its peer, wrote these bytes and ended so, by a history with its newest
-- entry first
pub record SessionBy (g : Givens) (peer : Peer) (h : List Entry) (c : ℕ) (text out : List ℕ) (end : SessionEnd) : Type 0 where
  pub input : Input peer text (arrived_by h c) end
  pub output : Output peer h text (arrived_by h c) (joined_by g h c) (IsPaidBy h c) out end
  pub filled : IfSome (filling_by h c) (IsNext peer text (arrived_by h c))

abbrev pub Session : Givens → Peer → List Entry → ℕ → List ℕ → List ℕ → SessionEnd → Type 0
Session g peer log c text out end = SessionBy g peer (reverse log) c text out end

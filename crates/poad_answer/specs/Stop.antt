-- How far a server comes in a text, and what stops it.
use Rattle.std.specs.Prelude.{◌≡◌, ℕ, List, [], Bool, true, false}
use Rattle.poa_base.specs.declared.Call.{Call}
use Rattle.session_laws.specs.declared.peer.Peer.TheVariants.{Client}
use Rattle.session_laws.specs.Hearing.{Heard, HearsMessages, closed, over, bad}
use Rattle.session_laws.specs.Sessions.{Begins, IsNext, close_connection, message_error, ClosesIn as IsClosedIn}
use Rattle.poad_answer.specs.declared.stop.Stop.{Stop}
use Rattle.poad_answer.specs.declared.stop.Stop.TheVariants.{Waits, Closed, Refused, Full, NoMemory}

-- the call behind these calls of the text is refused, where calls are refused so: so many calls, and bytes of them, had arrived
pub record IsRefused (Refuses : Call → ℕ → ℕ → ℕ → Type 0) (text : List ℕ) (heard : List Heard) (calls bytes : ℕ) : Type 0 where
  pub size : ℕ
  pub next : IsNext Client text heard size
  pub refused : Refuses next.call size calls bytes

-- a server that served these calls of the text stops for this reason, where it then refuses calls so
abbrev pub StopsAt : (Call → ℕ → ℕ → ℕ → Type 0) → Stop → List ℕ → List Heard → Type 0
StopsAt Refuses (Waits have) text heard = HearsMessages text heard (over have)
StopsAt Refuses Closed text heard = HearsMessages text heard closed
StopsAt Refuses (Refused at) text heard = HearsMessages text heard (bad at)
StopsAt Refuses (Full calls bytes) text heard = IsRefused Refuses text heard calls bytes
StopsAt Refuses NoMemory text heard = Begins Client text heard

-- what is written behind the replies, in this minor version
abbrev pub last_words : ℕ → Stop → List ℕ
last_words minor (Refused at) = message_error minor
last_words minor (Full calls bytes) = close_connection minor
last_words minor _ = []

-- a message is written behind the replies
abbrev pub has_closing : Stop → Bool
has_closing (Refused at) = true
has_closing (Full calls bytes) = true
has_closing _ = false

-- it is of the minor version of the first message of the text, and of the newest where there is none
abbrev pub ClosesIn : Stop → List ℕ → ℕ → Type 0
ClosesIn why text minor = has_closing why ≡ true → IsClosedIn Client text minor

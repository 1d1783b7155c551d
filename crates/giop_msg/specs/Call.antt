-- The call of a message: what it asks of a server, or why it asks nothing.
use Rattle.std.specs.Prelude.{◌≡◌, ℕ, List, Result, Ok, Err}
use Rattle.cdr_core.specs.Field.{ulong}
use Rattle.cdr_core.specs.Cursor.{Cursor, Reads}
use Rattle.poa_base.specs.declared.Call.{Call}
use Rattle.poa_base.specs.declared.Call.TheVariants.{Request, Locate, Line}
use Rattle.giop_msg.specs.declared.incoming.Incoming.{Incoming}
use Rattle.giop_msg.specs.declared.incoming.Incoming.TheVariants as incoming
use Rattle.giop_msg.specs.declared.fault.MsgFault.{MsgFault}
use Rattle.giop_msg.specs.declared.fault.MsgFault.TheVariants.{Malformed, NotForServer, WantMemory}
use Rattle.giop_answer.specs.declared.kind.TheConstants.{REQUEST, CANCEL_REQUEST, LOCATE_REQUEST, CLOSE_CONNECTION}
use Rattle.giop_msg.specs.Fields.{fields_start}
use Rattle.giop_msg.specs.Header.{message_type, IsForClient}
use Rattle.giop_msg.specs.Request.{IsRequest}
use Rattle.giop_msg.specs.Locate.{IsLocate}

-- the id with which the fields of the message begin
pub record HasId (id : ℕ) (bytes : List ℕ) : Type 0 where
  pub behind : Cursor
  pub read : Reads (ulong id) (fields_start bytes) behind

-- the message makes this call: a Request, or a LocateRequest. No message makes a line
abbrev pub MakesCall : List ℕ → Call → Type 0
MakesCall bytes (Request head target operation body) = (message_type bytes ≡ REQUEST) × IsRequest bytes head target operation body
MakesCall bytes (Locate head target) = (message_type bytes ≡ LOCATE_REQUEST) × IsLocate bytes head target
MakesCall bytes (Line number command) = ⊥

-- what the message asks: a call, or that a request is cancelled, or that the connection is closed. Bytes behind
-- the id of a CancelRequest and behind the header of a CloseConnection are ignored
abbrev pub Asks : List ℕ → Incoming → Type 0
Asks bytes (incoming.Call call) = MakesCall bytes call
Asks bytes (incoming.Cancel id) = (message_type bytes ≡ CANCEL_REQUEST) × HasId id bytes
Asks bytes incoming.Closing = message_type bytes ≡ CLOSE_CONNECTION

-- a message for a server whose fields can't be read
pub record IsMalformed (bytes : List ℕ) : Type 0 where
  pub for_server : IsForClient (message_type bytes) → ⊥
  pub asks_nothing : (asked : Incoming) → Asks bytes asked → ⊥

-- what reading a message gives; of memory the message says nothing
abbrev pub CallOf : List ℕ → Result Incoming MsgFault → Type 0
CallOf bytes (Ok asked) = Asks bytes asked
CallOf bytes (Err Malformed) = IsMalformed bytes
CallOf bytes (Err NotForServer) = IsForClient (message_type bytes)
CallOf bytes (Err WantMemory) = ⊥

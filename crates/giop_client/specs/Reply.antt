-- A Reply: CORBA 3.3 Part 2, 9.4.3.
use Rattle.std.specs.Prelude.{◌≡◌, ℕ, ◌%◌, ◌==◌, List, Option, Some, None, ◌⊎◌, if◌then◌else◌}
use Rattle.cdr_core.specs.Field.{ulong, text}
use Rattle.cdr_core.specs.Cursor.{Cursor, Reads}
use Rattle.poa_base.specs.declared.Body.{Body}
use Rattle.poa_base.specs.declared.Ior.{Ior}
use Rattle.ior_text.specs.ReferenceFields.{ReadsIor}
use Rattle.giop_frame.specs.Part.{minor_of}
use Rattle.giop_answer.specs.declared.kind.TheConstants.{REPLY, CLOSE_CONNECTION, MESSAGE_ERROR}
use Rattle.giop_client.specs.declared.reply_kind.TheConstants.{NO_EXCEPTION, USER_EXCEPTION, SYSTEM_EXCEPTION, LOCATION_FORWARD}
use Rattle.giop_msg.specs.Fields.{fields_start}
use Rattle.giop_msg.specs.Header.{message_type}
use Rattle.giop_msg.specs.Version.{ByVersion, is_newest}
use Rattle.giop_msg.specs.Contexts.{IsContexts}
use Rattle.giop_msg.specs.Request.{body_at}
use Rattle.giop_client.specs.declared.hop.Hop.{Hop}
use Rattle.giop_client.specs.declared.hop.Hop.TheVariants as hop
use Rattle.giop_client.specs.declared.reply_kind.ReplyKind.{ReplyKind}
use Rattle.giop_client.specs.declared.reply_kind.ReplyKind.TheVariants.{NoException, UserException, SystemException, LocationForward}

-- the id of the request and the status
pub record IsTold (id number : ℕ) (before after : Cursor) : Type 0 where
  pub behind : Cursor
  pub id_read : Reads (ulong id) before behind
  pub status_read : Reads (ulong number) behind after

-- the head of a Reply of GIOP 1.2, and of an older version, in which the contexts stand first
pub record NewHead (id number : ℕ) (before after : Cursor) : Type 0 where
  pub behind : Cursor
  pub told : IsTold id number before behind
  pub contexts : IsContexts behind after

pub record OldHead (id number : ℕ) (before after : Cursor) : Type 0 where
  pub behind : Cursor
  pub contexts : IsContexts before behind
  pub told : IsTold id number behind after

abbrev pub IsHead : ℕ → ℕ → ℕ → Cursor → Cursor → Type 0
IsHead minor id number before after = ByVersion (is_newest minor) (NewHead id number before after) (OldHead id number before after)

-- the fields of a Reply are spelled in the message, and its body stands behind them, as that of a Request does
pub record IsReply (bytes : List ℕ) (id number : ℕ) (body : Body) : Type 0 where
  pub behind : Cursor
  pub head : IsHead (minor_of bytes) id number (fields_start bytes) behind
  pub is_body : body ≡ body_at (minor_of bytes) behind

-- the kind of a status; a client goes by no other
abbrev pub kind_of_status : ℕ → Option ReplyKind
kind_of_status number =
    if number == NO_EXCEPTION then Some NoException
    else if number == USER_EXCEPTION then Some UserException
    else if number == SYSTEM_EXCEPTION then Some SystemException
    else if number == LOCATION_FORWARD then Some LocationForward
    else None

-- where the fields of a body begin. Alignment goes by the place in the message, of which what is left by 8 is enough
abbrev pub body_start : Body → Cursor
body_start body = record { little = body.little; place = body.base % 8; rest = body.bytes }

-- a user exception: its repository id. Its members aren't read
pub record TellsUser (body : Body) (said : Hop) : Type 0 where
  pub id : List ℕ
  pub after : Cursor
  pub id_read : Reads (text id) (body_start body) after
  pub is : said ≡ hop.User id

-- a system exception (9.4.3.2): its repository id, its minor code and its completion
pub record TellsSystem (body : Body) (said : Hop) : Type 0 where
  pub id : List ℕ
  pub minor : ℕ
  pub done : ℕ
  pub behind_id : Cursor
  pub behind_minor : Cursor
  pub after : Cursor
  pub id_read : Reads (text id) (body_start body) behind_id
  pub minor_read : Reads (ulong minor) behind_id behind_minor
  pub done_read : Reads (ulong done) behind_minor after
  pub is : said ≡ hop.System id minor done

-- a forward: the reference to ask
pub record TellsForward (body : Body) (said : Hop) : Type 0 where
  pub ior : Ior
  pub after : Cursor
  pub ior_read : ReadsIor ior (body_start body) after
  pub is : said ≡ hop.Forward ior

-- what a Reply of this kind with this body says
abbrev pub Tells : ReplyKind → Body → Hop → Type 0
Tells NoException body said = said ≡ hop.Result body
Tells UserException body said = TellsUser body said
Tells SystemException body said = TellsSystem body said
Tells LocationForward body said = TellsForward body said

-- the message is a Reply to the request of this id, which says so
pub record Answers (id : ℕ) (bytes : List ℕ) (said : Hop) : Type 0 where
  pub number : ℕ
  pub body : Body
  pub kind : ReplyKind
  pub is_reply : message_type bytes ≡ REPLY
  pub fields : IsReply bytes id number body
  pub is_kind : kind_of_status number ≡ Some kind
  pub tells : Tells kind body said

-- the message ends the connection
abbrev pub IsClosing : List ℕ → Type 0
IsClosing bytes = (message_type bytes ≡ CLOSE_CONNECTION) ⊎ (message_type bytes ≡ MESSAGE_ERROR)

-- it neither does that nor answers
pub record IsNoAnswer (id : ℕ) (bytes : List ℕ) : Type 0 where
  pub goes_on : IsClosing bytes → ⊥
  pub silent : (said : Hop) → Answers id bytes said → ⊥

-- what a message says to the request of this id
abbrev pub MessageSays : ℕ → List ℕ → Hop → Type 0
MessageSays id bytes said =
    Answers id bytes said ⊎ (IsClosing bytes × (said ≡ hop.Closed)) ⊎ (IsNoAnswer id bytes × (said ≡ hop.BadReply))

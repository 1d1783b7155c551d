-- What a message says is decided: each says something.
use Rattle.std.proofs.Common.{◌≡◌, ◌≤◌, ℕ, List, Option, Result, Ok, Err, refl, arith, inl, inr}
use Rattle.cdr_core.specs.Field.{ulong}
use Rattle.cdr_core.specs.Cursor.{Cursor, Reads}
use Rattle.cdr_core.proofs.OneReading.{one_ulong_read}
use Rattle.poa_base.specs.declared.Call.{Call}
use Rattle.poa_base.specs.declared.Call.TheVariants.{Request, Locate, Line}
use Rattle.giop_frame.specs.Part.{is_little, minor_of}
use Rattle.giop_msg.specs.declared.incoming.Incoming.{Incoming}
use Rattle.giop_msg.specs.declared.incoming.Incoming.TheVariants as incoming
use Rattle.giop_msg.specs.declared.fault.MsgFault.{MsgFault}
use Rattle.giop_msg.specs.declared.fault.MsgFault.TheVariants.{Malformed, NotForServer}
use Rattle.giop_answer.specs.declared.kind.TheConstants.{REQUEST, REPLY, CANCEL_REQUEST, LOCATE_REQUEST, LOCATE_REPLY, CLOSE_CONNECTION, MESSAGE_ERROR}
use Rattle.giop_msg.specs.Call.{MakesCall, Asks, CallOf}
use Rattle.giop_msg.specs.Fields.{fields_start}
use Rattle.giop_msg.specs.Header.{message_type, IsForClient}
use Rattle.giop_msg.specs.Laws.{EachSays}
use Rattle.giop_msg.specs.Locate.{locate_head}
use Rattle.giop_msg.specs.Request.{body_at, request_head, IsClosing}
use Rattle.giop_msg.specs.Target.{IsAddressed}
use Rattle.giop_msg.proofs.Targets.{one_addressed}
use Rattle.giop_msg.proofs.Deciding.{Decided, at_most_decided, decided_as, decided_both, decided_then, is_decided, Stands, StandsThen}
use Rattle.giop_msg.proofs.Numbers.{ulong_decided}
use Rattle.giop_msg.proofs.Parts.{Opening, opened_once, opening_decided, addressed_decided, closing_decided}

-- a Request: an opening, a target and a closing
abbrev TargetThen : ℕ → Cursor → Type 0
TargetThen minor c = StandsThen (Option (List ℕ)) (IsAddressed minor) (λ (t : Option (List ℕ)) (a : Cursor). Stands (List ℕ) (IsClosing minor) a) c

abbrev OpeningThen : ℕ → Cursor → Type 0
OpeningThen minor c = StandsThen (ℕ × ℕ) (Opening minor) (λ (v : ℕ × ℕ) (a : Cursor). TargetThen minor a) c

target_then : (minor : ℕ) (c : Cursor) → Decided (TargetThen minor c)
target_then minor c =
    decided_then (Option (List ℕ)) (IsAddressed minor) (λ (t : Option (List ℕ)) (a : Cursor). Stands (List ℕ) (IsClosing minor) a) c
    (λ t u a b p q. one_addressed minor t u c a b p q)
    (λ t a. closing_decided minor a) (addressed_decided minor c)

opening_then : (minor : ℕ) (c : Cursor) → Decided (OpeningThen minor c)
opening_then minor c =
    decided_then (ℕ × ℕ) (Opening minor) (λ (v : ℕ × ℕ) (a : Cursor). TargetThen minor a) c (opened_once minor c) (λ v a. target_then minor a)
    (opening_decided minor c)

-- a call that the message makes
abbrev SomeCall : List ℕ → Type 0
SomeCall bytes = (call : Call) × MakesCall bytes call

-- of a version that is known
abbrev RequestThen : List ℕ → Type 0
RequestThen bytes = (minor_of bytes ≤ 2) × OpeningThen (minor_of bytes) (fields_start bytes)

request_there : (bytes : List ℕ) → message_type bytes ≡ REQUEST → minor_of bytes ≤ 2 → OpeningThen (minor_of bytes) (fields_start bytes) → SomeCall bytes
request_there bytes kind known s =
    let target = s.3 in
    let closing = target.3 in
    let head = request_head (minor_of bytes) s.0.0 s.0.1 (is_little bytes) in (
      Request head target.0 closing.0 (body_at (minor_of bytes) closing.1),
      (
        kind,
        record {
          known = known;
          behind_opening = s.1;
          behind_target = target.1;
          behind = closing.1;
          opening = s.2;
          addressed = target.2;
          closing = closing.2;
          is_head = refl;
          is_body = refl;
        },
      ),
    )

request_back : (bytes : List ℕ) (call : Call) → message_type bytes ≡ REQUEST → MakesCall bytes call → RequestThen bytes
request_back bytes (Request head t o body) kind makes =
    let is = makes.1 in
    (is.known, ((head.id, head.flags), is.behind_opening, is.opening, (t, is.behind_target, is.addressed, (o, is.behind, is.closing))))
request_back bytes (Locate head t) kind makes = absurd (omega (arith, kind, makes.0))
request_back bytes (Line number command) kind makes = absurd makes

-- a LocateRequest: an id and a target
abbrev LocateThen : ℕ → Cursor → Type 0
LocateThen minor c = StandsThen ℕ (λ (n : ℕ). Reads (ulong n)) (λ (n : ℕ) (a : Cursor). Stands (Option (List ℕ)) (IsAddressed minor) a) c

locate_then : (minor : ℕ) (c : Cursor) → Decided (LocateThen minor c)
locate_then minor c =
    decided_then ℕ (λ (n : ℕ). Reads (ulong n)) (λ (n : ℕ) (a : Cursor). Stands (Option (List ℕ)) (IsAddressed minor) a) c
    (λ m n a b p q. one_ulong_read m n c a b p q)
    (λ n a. addressed_decided minor a) (ulong_decided c)

abbrev LocateRequestThen : List ℕ → Type 0
LocateRequestThen bytes = (minor_of bytes ≤ 2) × LocateThen (minor_of bytes) (fields_start bytes)

locate_there : (bytes : List ℕ) → message_type bytes ≡ LOCATE_REQUEST → minor_of bytes ≤ 2 → LocateThen (minor_of bytes) (fields_start bytes)
    → SomeCall bytes
locate_there bytes kind known s = (
  Locate (locate_head (minor_of bytes) s.0 (is_little bytes)) s.3.0,
  (kind, record { known = known; behind_id = s.1; behind = s.3.1; id = s.2; addressed = s.3.2; is_head = refl }),
)

locate_back : (bytes : List ℕ) (call : Call) → message_type bytes ≡ LOCATE_REQUEST → MakesCall bytes call → LocateRequestThen bytes
locate_back bytes (Request head t o body) kind makes = absurd (omega (arith, kind, makes.0))
locate_back bytes (Locate head t) kind makes = let is = makes.1 in (is.known, (head.id, is.behind_id, is.id, (t, is.behind, is.addressed)))
locate_back bytes (Line number command) kind makes = absurd makes

-- what the message asks
abbrev SomeAsked : List ℕ → Type 0
SomeAsked bytes = (asked : Incoming) × Asks bytes asked

request_asked : (bytes : List ℕ) → message_type bytes ≡ REQUEST → Decided (SomeAsked bytes)
request_asked bytes kind =
    decided_as (RequestThen bytes) (SomeAsked bytes)
    (λ s. let made = request_there bytes kind s.0 s.1 in (incoming.Call made.0, made.1))
    (λ s. back s.0 s.1)
    (decided_both (minor_of bytes ≤ 2) (OpeningThen (minor_of bytes) (fields_start bytes)) (at_most_decided (minor_of bytes) 2)
    (opening_then (minor_of bytes) (fields_start bytes)))
  where
    back : (asked : Incoming) → Asks bytes asked → RequestThen bytes
    back (incoming.Call call) asks = request_back bytes call kind asks
    back (incoming.Cancel id) asks = absurd (omega (arith, kind, asks.0))
    back incoming.Closing asks = absurd (omega (arith, kind, asks))

locate_asked : (bytes : List ℕ) → message_type bytes ≡ LOCATE_REQUEST → Decided (SomeAsked bytes)
locate_asked bytes kind =
    decided_as (LocateRequestThen bytes) (SomeAsked bytes)
    (λ s. let made = locate_there bytes kind s.0 s.1 in (incoming.Call made.0, made.1))
    (λ s. back s.0 s.1)
    (decided_both (minor_of bytes ≤ 2) (LocateThen (minor_of bytes) (fields_start bytes)) (at_most_decided (minor_of bytes) 2)
    (locate_then (minor_of bytes) (fields_start bytes)))
  where
    back : (asked : Incoming) → Asks bytes asked → LocateRequestThen bytes
    back (incoming.Call call) asks = locate_back bytes call kind asks
    back (incoming.Cancel id) asks = absurd (omega (arith, kind, asks.0))
    back incoming.Closing asks = absurd (omega (arith, kind, asks))

cancel_asked : (bytes : List ℕ) → message_type bytes ≡ CANCEL_REQUEST → Decided (SomeAsked bytes)
cancel_asked bytes kind =
    decided_as (Stands ℕ (λ (n : ℕ). Reads (ulong n)) (fields_start bytes)) (SomeAsked bytes)
    (λ s. (incoming.Cancel s.0, (kind, record { behind = s.1; read = s.2 })))
    (λ s. back s.0 s.1)
    (ulong_decided (fields_start bytes))
  where
    call_id : (call : Call) → MakesCall bytes call → Stands ℕ (λ (n : ℕ). Reads (ulong n)) (fields_start bytes)
    call_id (Request head t o body) makes = absurd (omega (arith, kind, makes.0))
    call_id (Locate head t) makes = absurd (omega (arith, kind, makes.0))
    call_id (Line number command) makes = absurd makes

    back : (asked : Incoming) → Asks bytes asked → Stands ℕ (λ (n : ℕ). Reads (ulong n)) (fields_start bytes)
    back (incoming.Call call) asks = call_id call asks
    back (incoming.Cancel id) asks = (id, asks.1.behind, asks.1.read)
    back incoming.Closing asks = absurd (omega (arith, kind, asks))

-- other types ask nothing
no_asked : (bytes : List ℕ) → (message_type bytes ≡ REQUEST → ⊥) → (message_type bytes ≡ LOCATE_REQUEST → ⊥) → (message_type bytes ≡ CANCEL_REQUEST → ⊥)
    → (message_type bytes ≡ CLOSE_CONNECTION → ⊥)
    → (asked : Incoming) → Asks bytes asked → ⊥
no_asked bytes request locate cancel closing (incoming.Call call) asks = by call asks
  where
    by : (made : Call) → MakesCall bytes made → ⊥
    by (Request head t o body) makes = request makes.0
    by (Locate head t) makes = locate makes.0
    by (Line number command) makes = makes
no_asked bytes request locate cancel closing (incoming.Cancel id) asks = cancel asks.0
no_asked bytes request locate cancel closing incoming.Closing asks = closing asks

asked_by : (bytes : List ℕ) → Decided (message_type bytes ≡ REQUEST) → Decided (message_type bytes ≡ LOCATE_REQUEST)
    → Decided (message_type bytes ≡ CANCEL_REQUEST)
    → Decided (message_type bytes ≡ CLOSE_CONNECTION) → Decided (SomeAsked bytes)
asked_by bytes (inl kind) locate cancel closing = request_asked bytes kind
asked_by bytes (inr request) (inl kind) cancel closing = locate_asked bytes kind
asked_by bytes (inr request) (inr locate) (inl kind) closing = cancel_asked bytes kind
asked_by bytes (inr request) (inr locate) (inr cancel) (inl kind) = inl (incoming.Closing, kind)
asked_by bytes (inr request) (inr locate) (inr cancel) (inr closing) = inr (λ s. no_asked bytes request locate cancel closing s.0 s.1)

is_type : (bytes : List ℕ) (n : ℕ) → Decided (message_type bytes ≡ n)
is_type bytes n = is_decided (message_type bytes) n

for_client_by : (kind : ℕ) → Decided (kind ≡ REPLY) → Decided (kind ≡ LOCATE_REPLY) → Decided (kind ≡ MESSAGE_ERROR) → Decided (IsForClient kind)
for_client_by kind (inl reply) locate error = inl (inl reply)
for_client_by kind (inr reply) (inl locate) error = inl (inr (inl locate))
for_client_by kind (inr reply) (inr locate) (inl error) = inl (inr (inr error))
for_client_by kind (inr reply) (inr locate) (inr error) = inr no
  where
    no : IsForClient kind → ⊥
    no (inl e) = reply e
    no (inr (inl e)) = locate e
    no (inr (inr e)) = error e

says : (bytes : List ℕ) → Decided (IsForClient (message_type bytes)) → Decided (SomeAsked bytes) → (said : Result Incoming MsgFault) × CallOf bytes said
says bytes (inl client) asked = (Err NotForServer, client)
says bytes (inr server) (inl s) = (Ok s.0, s.1)
says bytes (inr server) (inr none) = (Err Malformed, record { for_server = server; asks_nothing = λ asked asks. none (asked, asks) })

pub each_says : EachSays
each_says bytes =
    says bytes (for_client_by (message_type bytes) (is_type bytes REPLY) (is_type bytes LOCATE_REPLY) (is_type bytes MESSAGE_ERROR))
    (asked_by bytes (is_type bytes REQUEST) (is_type bytes LOCATE_REQUEST) (is_type bytes CANCEL_REQUEST) (is_type bytes CLOSE_CONNECTION))

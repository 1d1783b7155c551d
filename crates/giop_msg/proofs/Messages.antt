-- Why a message of each type asks nothing.
use Rattle.std.proofs.Common.{◌≡◌, ℕ, List, arith}
use Rattle.giop_msg.specs.declared.incoming.Incoming.{Incoming}
use Rattle.giop_msg.specs.declared.incoming.Incoming.TheVariants as incoming
use Rattle.giop_answer.specs.declared.kind.TheConstants.{REQUEST, CANCEL_REQUEST, LOCATE_REQUEST, CLOSE_CONNECTION}
use Rattle.giop_msg.specs.Header.{message_type, IsForClient}
use Rattle.giop_msg.specs.Reading.{NoCall}
use Rattle.giop_msg.specs.Call.{HasId, Asks, IsMalformed}
use Rattle.giop_msg.proofs.Calls.{makes_none, for_client, no_client_request, no_client_cancel, no_client_locate}

-- of a type that is neither of a CancelRequest nor of a CloseConnection, without a call
asks_nothing :
    (bytes : List ℕ) (n : ℕ) → message_type bytes ≡ n → (n ≡ CANCEL_REQUEST → ⊥) → (n ≡ CLOSE_CONNECTION → ⊥) →
    NoCall bytes → (asked : Incoming) → Asks bytes asked → ⊥
asks_nothing bytes n kind no_cancel no_closing none (incoming.Call call) asks = none call asks
asks_nothing bytes n kind no_cancel no_closing none (incoming.Cancel id) asks = no_cancel (cc (kind, asks.0))
asks_nothing bytes n kind no_cancel no_closing none incoming.Closing asks = no_closing (cc (kind, asks))

no_call_malformed :
    (bytes : List ℕ) (n : ℕ) → message_type bytes ≡ n → (n ≡ CANCEL_REQUEST → ⊥) → (n ≡ CLOSE_CONNECTION → ⊥) →
    (IsForClient n → ⊥) → NoCall bytes → IsMalformed bytes
no_call_malformed bytes n kind no_cancel no_closing no_client none = record {
  for_server = λ client. no_client (for_client bytes n client kind);
  asks_nothing = asks_nothing bytes n kind no_cancel no_closing none;
}

-- a Request, or a LocateRequest, that makes no call
pub request_malformed : (bytes : List ℕ) → message_type bytes ≡ REQUEST → NoCall bytes → IsMalformed bytes
request_malformed bytes kind = no_call_malformed bytes REQUEST kind (λ e. omega (arith, e)) (λ e. omega (arith, e)) no_client_request

pub locate_malformed : (bytes : List ℕ) → message_type bytes ≡ LOCATE_REQUEST → NoCall bytes → IsMalformed bytes
locate_malformed bytes kind = no_call_malformed bytes LOCATE_REQUEST kind (λ e. omega (arith, e)) (λ e. omega (arith, e)) no_client_locate

-- a CancelRequest without an id
cancel_asks_nothing :
    (bytes : List ℕ) → message_type bytes ≡ CANCEL_REQUEST → ((id : ℕ) → HasId id bytes → ⊥) → (asked : Incoming) →
    Asks bytes asked → ⊥
cancel_asks_nothing bytes kind none (incoming.Call call) asks = makes_none bytes CANCEL_REQUEST call kind (λ e. omega (arith, e)) (λ e. omega (arith, e)) asks
cancel_asks_nothing bytes kind none (incoming.Cancel id) asks = none id asks.1
cancel_asks_nothing bytes kind none incoming.Closing asks = omega (arith, kind, asks)

pub cancel_malformed : (bytes : List ℕ) → message_type bytes ≡ CANCEL_REQUEST → ((id : ℕ) → HasId id bytes → ⊥) → IsMalformed bytes
cancel_malformed bytes kind none = record {
  for_server = λ client. no_client_cancel (for_client bytes CANCEL_REQUEST client kind);
  asks_nothing = cancel_asks_nothing bytes kind none;
}

-- A message gives one answer.
use Rattle.std.proofs.Common.{◌≡◌, ℕ, List, Option, Ok, Err, refl, sym, ap, ap₂, ◌∙◌, subst, arith, ◌⊎◌, inl, inr}
use Rattle.cdr_core.proofs.OneReading.{one_ulong_read}
use Rattle.poa_base.specs.declared.Body.{Body}
use Rattle.poa_base.specs.declared.Call.{Call}
use Rattle.poa_base.specs.declared.Call.TheVariants.{Request, Locate, Line}
use Rattle.poa_base.specs.declared.Head.{Head}
use Rattle.giop_frame.specs.Part.{is_little, minor_of}
use Rattle.giop_msg.specs.declared.incoming.Incoming.{Incoming}
use Rattle.giop_msg.specs.declared.incoming.Incoming.TheVariants as incoming
use Rattle.giop_msg.specs.declared.fault.MsgFault.{MsgFault}
use Rattle.giop_msg.specs.declared.fault.MsgFault.TheVariants.{Malformed, NotForServer, WantMemory}
use Rattle.giop_answer.specs.declared.kind.TheConstants.{REQUEST, CANCEL_REQUEST, LOCATE_REQUEST, CLOSE_CONNECTION}
use Rattle.giop_msg.specs.Fields.{fields_start}
use Rattle.giop_msg.specs.Header.{message_type, IsForClient}
use Rattle.giop_msg.specs.Request.{body_at, request_head, IsRequest}
use Rattle.giop_msg.specs.Call.{HasId, MakesCall, Asks, CallOf}
use Rattle.giop_msg.specs.Laws.{OneCall}
use Rattle.giop_msg.proofs.Closings.{one_closing}
use Rattle.giop_msg.proofs.Targets.{one_addressed}
use Rattle.giop_msg.proofs.Openings.{one_opening}
use Rattle.giop_msg.proofs.Requests.{target_at, closing_at}
use Rattle.giop_msg.proofs.Locates.{one_locate}

-- the parts of a Request tell its call
same_call : (h k : Head) (t u : Option (List ℕ)) (o p : List ℕ) (x y : Body) → h ≡ k → t ≡ u → o ≡ p → x ≡ y → Request h t o x ≡ Request k u p y
same_call h k t u o p x y head target operation body = cc

one_request : (bytes : List ℕ) (h k : Head) (t u : Option (List ℕ)) (o p : List ℕ) (x y : Body) → IsRequest bytes h t o x → IsRequest bytes k u p y
    → Request h t o x ≡ Request k u p y
one_request bytes h k t u o p x y is has =
    let opening = one_opening (minor_of bytes) h.id k.id h.flags k.flags (fields_start bytes) is.behind_opening has.behind_opening is.opening has.opening in
    let target =
    one_addressed (minor_of bytes) t u has.behind_opening is.behind_target has.behind_target
    (target_at bytes h t o x k.id k.flags has.behind_opening has.opening is) has.addressed in
    let closing =
    one_closing (minor_of bytes) o p has.behind_target is.behind has.behind
    (closing_at bytes h t o x k.id k.flags u has.behind_opening has.behind_target has.opening has.addressed is) has.closing in
    same_call h k t u o p x y
    (is.is_head ∙ (ap₂ (λ (i f : ℕ). request_head (minor_of bytes) i f (is_little bytes)) opening.0 opening.1 ∙ sym has.is_head)) target.0 closing.0
    (is.is_body ∙ (ap (body_at (minor_of bytes)) closing.1 ∙ sym has.is_body))

one_id : (bytes : List ℕ) (m n : ℕ) → HasId m bytes → HasId n bytes → m ≡ n
one_id bytes m n here there = (one_ulong_read m n (fields_start bytes) here.behind there.behind here.read there.read).0

-- a message makes one call
one_made : (bytes : List ℕ) (a b : Call) → MakesCall bytes a → MakesCall bytes b → a ≡ b
one_made bytes (Request h t o x) (Request k u p y) is has = one_request bytes h k t u o p x y is.1 has.1
one_made bytes (Request h t o x) (Locate k u) is has = absurd (omega (arith, is.0, has.0))
one_made bytes (Request h t o x) (Line n c) is has = absurd has
one_made bytes (Locate h t) (Request k u p y) is has = absurd (omega (arith, is.0, has.0))
one_made bytes (Locate h t) (Locate k u) is has = one_locate bytes h k t u is.1 has.1
one_made bytes (Locate h t) (Line n c) is has = absurd has
one_made bytes (Line n c) b is has = absurd is

-- of one of two types
made_type : (bytes : List ℕ) (call : Call) → MakesCall bytes call → (message_type bytes ≡ REQUEST) ⊎ (message_type bytes ≡ LOCATE_REQUEST)
made_type bytes (Request h t o x) makes = inl makes.0
made_type bytes (Locate h t) makes = inr makes.0
made_type bytes (Line n c) makes = absurd makes

pub makes_none : (bytes : List ℕ) (n : ℕ) (call : Call) → message_type bytes ≡ n → (n ≡ REQUEST → ⊥) → (n ≡ LOCATE_REQUEST → ⊥) → MakesCall bytes call → ⊥
makes_none bytes n call kind no_request no_locate makes = by (made_type bytes call makes)
  where
    by : (message_type bytes ≡ REQUEST) ⊎ (message_type bytes ≡ LOCATE_REQUEST) → ⊥
    by (inl request) = no_request (sym kind ∙ request)
    by (inr locate) = no_locate (sym kind ∙ locate)

-- and asks one thing
one_asked : (bytes : List ℕ) (a b : Incoming) → Asks bytes a → Asks bytes b → a ≡ b
one_asked bytes (incoming.Call a) (incoming.Call b) is has = ap (λ (c : Call). incoming.Call c) (one_made bytes a b is has)
one_asked bytes (incoming.Call a) (incoming.Cancel n) is has =
    absurd (makes_none bytes CANCEL_REQUEST a has.0 (λ e. omega (arith, e)) (λ e. omega (arith, e)) is)
one_asked bytes (incoming.Call a) incoming.Closing is has = absurd (makes_none bytes CLOSE_CONNECTION a has (λ e. omega (arith, e)) (λ e. omega (arith, e)) is)
one_asked bytes (incoming.Cancel m) (incoming.Call b) is has =
    absurd (makes_none bytes CANCEL_REQUEST b is.0 (λ e. omega (arith, e)) (λ e. omega (arith, e)) has)
one_asked bytes (incoming.Cancel m) (incoming.Cancel n) is has = ap (λ (i : ℕ). incoming.Cancel i) (one_id bytes m n is.1 has.1)
one_asked bytes (incoming.Cancel m) incoming.Closing is has = absurd (omega (arith, is.0, has))
one_asked bytes incoming.Closing (incoming.Call b) is has = absurd (makes_none bytes CLOSE_CONNECTION b is (λ e. omega (arith, e)) (λ e. omega (arith, e)) has)
one_asked bytes incoming.Closing (incoming.Cancel n) is has = absurd (omega (arith, is, has.0))
one_asked bytes incoming.Closing incoming.Closing is has = refl

-- what is for a client asks nothing of a server
pub for_client : (bytes : List ℕ) (n : ℕ) → IsForClient (message_type bytes) → message_type bytes ≡ n → IsForClient n
for_client bytes n client kind = subst IsForClient kind client

pub no_client_request : IsForClient REQUEST → ⊥
no_client_request (inl e) = omega (arith, e)
no_client_request (inr (inl e)) = omega (arith, e)
no_client_request (inr (inr e)) = omega (arith, e)

pub no_client_cancel : IsForClient CANCEL_REQUEST → ⊥
no_client_cancel (inl e) = omega (arith, e)
no_client_cancel (inr (inl e)) = omega (arith, e)
no_client_cancel (inr (inr e)) = omega (arith, e)

pub no_client_locate : IsForClient LOCATE_REQUEST → ⊥
no_client_locate (inl e) = omega (arith, e)
no_client_locate (inr (inl e)) = omega (arith, e)
no_client_locate (inr (inr e)) = omega (arith, e)

pub no_client_closing : IsForClient CLOSE_CONNECTION → ⊥
no_client_closing (inl e) = omega (arith, e)
no_client_closing (inr (inl e)) = omega (arith, e)
no_client_closing (inr (inr e)) = omega (arith, e)

pub not_for_client : (bytes : List ℕ) (asked : Incoming) → Asks bytes asked → IsForClient (message_type bytes) → ⊥
not_for_client bytes (incoming.Call call) asks client = by (made_type bytes call asks)
  where
    by : (message_type bytes ≡ REQUEST) ⊎ (message_type bytes ≡ LOCATE_REQUEST) → ⊥
    by (inl request) = no_client_request (for_client bytes REQUEST client request)
    by (inr locate) = no_client_locate (for_client bytes LOCATE_REQUEST client locate)
not_for_client bytes (incoming.Cancel id) asks client = no_client_cancel (for_client bytes CANCEL_REQUEST client asks.0)
not_for_client bytes incoming.Closing asks client = no_client_closing (for_client bytes CLOSE_CONNECTION client asks)

one_fault : (bytes : List ℕ) (e f : MsgFault) → CallOf bytes (Err e) → CallOf bytes (Err f) → e ≡ f
one_fault bytes Malformed Malformed is has = refl
one_fault bytes Malformed NotForServer is has = absurd (is.for_server has)
one_fault bytes NotForServer Malformed is has = absurd (has.for_server is)
one_fault bytes NotForServer NotForServer is has = refl
one_fault bytes WantMemory f is has = absurd is
one_fault bytes Malformed WantMemory is has = absurd has
one_fault bytes NotForServer WantMemory is has = absurd has

asked_or_fault : (bytes : List ℕ) (asked : Incoming) (e : MsgFault) → Asks bytes asked → CallOf bytes (Err e) → ⊥
asked_or_fault bytes asked Malformed is has = has.asks_nothing asked is
asked_or_fault bytes asked NotForServer is has = not_for_client bytes asked is has
asked_or_fault bytes asked WantMemory is has = has

pub one_call : OneCall
one_call bytes (Ok a) (Ok b) is has = ap (λ (x : Incoming). Ok x) (one_asked bytes a b is has)
one_call bytes (Ok a) (Err f) is has = absurd (asked_or_fault bytes a f is has)
one_call bytes (Err e) (Ok b) is has = absurd (asked_or_fault bytes b e has is)
one_call bytes (Err e) (Err f) is has = ap (λ (x : MsgFault). Err x) (one_fault bytes e f is has)

-- A Reply says one thing, or nothing.
use Rattle.std.proofs.Common.{◌≡◌, ◌≢◌, ℕ, ◌+◌, ◌≤◌, List, Option, Some, None, length, drop, refl, sym, ap, ◌∙◌, subst, arith, ◌⊎◌, inl, inr}
use Rattle.std.specs.Prelude.{slice_index}
use Rattle.cdr_core.specs.declared.CdrFault.{CdrFault}
use Rattle.cdr_core.specs.declared.CdrFault.TheVariants.{WantMemory}
use Rattle.cdr_core.specs.Kind.{ULong, Text}
use Rattle.cdr_core.specs.Field.{ulong, text}
use Rattle.cdr_core.specs.Cursor.{Cursor, Reads}
use Rattle.cdr_core.specs.Refusal.{Refuses}
use Rattle.cdr_core.proofs.OneReading.{one_ulong_read, one_text_read}
use Rattle.cdr_core.proofs.Refusals.{none_where_refused}
use Rattle.poa_base.specs.declared.Body.{Body}
use Rattle.poa_base.specs.declared.Ior.{Ior}
use Rattle.ior_text.specs.Breaking.{StopsBy}
use Rattle.ior_text.specs.ReferenceFields.{ReadsIor, IorBreaks}
use Rattle.ior_text.proofs.OneReading.{one_ior, ior_stands}
use Rattle.giop_answer.specs.declared.kind.TheConstants.{HEADER}
use Rattle.giop_frame.specs.Part.{minor_of}
use Rattle.giop_msg.specs.Fields.{fields_start}
use Rattle.giop_msg.specs.Request.{body_at}
use Rattle.giop_client.specs.declared.hop.Hop.{Hop}
use Rattle.giop_client.specs.declared.hop.Hop.TheVariants as hop
use Rattle.giop_client.specs.declared.reply_kind.ReplyKind.{ReplyKind}
use Rattle.giop_client.specs.declared.reply_kind.ReplyKind.TheVariants.{NoException, UserException, SystemException, LocationForward}
use Rattle.giop_client.specs.Reply.{IsHead, IsReply, body_start, kind_of_status, TellsUser, TellsSystem, TellsForward, Tells, Answers, IsClosing}
use Rattle.giop_client.proofs.Heads.{one_head}

-- the fields that were read are those of the Reply
pub reply_read : (bytes : List ℕ) (start behind : Cursor) (id number : ℕ) (body : Body) → start ≡ fields_start bytes
    → IsHead (minor_of bytes) id number start behind → body ≡ body_at (minor_of bytes) behind → IsReply bytes id number body
reply_read bytes start behind id number body is head is_body = record {
  behind = behind;
  head = subst (λ (x : Cursor). IsHead (minor_of bytes) id number x behind) is head;
  is_body = is_body;
}

pub no_reply : (bytes : List ℕ) (start : Cursor) → start ≡ fields_start bytes
    → ((id number : ℕ) (after : Cursor) → IsHead (minor_of bytes) id number start after → ⊥) → (id number : ℕ) (body : Body) → IsReply bytes id number body → ⊥
no_reply bytes start is none id number body reply =
    none id number reply.behind (subst (λ (x : Cursor). IsHead (minor_of bytes) id number x reply.behind) (sym is) reply.head)

pub one_reply : (bytes : List ℕ) (i s j t : ℕ) (x y : Body) → IsReply bytes i s x → IsReply bytes j t y → (i ≡ j) × (s ≡ t) × (x ≡ y)
one_reply bytes i s j t x y here there =
    let head = one_head (minor_of bytes) i s j t (fields_start bytes) here.behind there.behind here.head there.head in (
      head.0,
      head.1,
      here.is_body ∙ ap (λ (c : Cursor). body_at (minor_of bytes) c) head.2 ∙ sym there.is_body,
    )

-- what a body tells
one_user : (body : Body) (a b : Hop) → TellsUser body a → TellsUser body b → a ≡ b
one_user body a b r s =
    r.is ∙ ap hop.User (one_text_read r.id s.id (body_start body) r.after s.after r.id_read s.id_read).0 ∙ sym s.is

minor_at : (body : Body) (a b : Hop) (r : TellsSystem body a) (s : TellsSystem body b) → Reads (ulong s.minor) r.behind_id s.behind_minor
minor_at body a b r s =
    let id = one_text_read r.id s.id (body_start body) r.behind_id s.behind_id r.id_read s.id_read in
    subst (λ (x : Cursor). Reads (ulong s.minor) x s.behind_minor) (sym id.1) s.minor_read

done_at : (body : Body) (a b : Hop) (r : TellsSystem body a) (s : TellsSystem body b) → Reads (ulong s.done) r.behind_minor s.after
done_at body a b r s =
    let minor = one_ulong_read r.minor s.minor r.behind_id r.behind_minor s.behind_minor r.minor_read (minor_at body a b r s) in
    subst (λ (x : Cursor). Reads (ulong s.done) x s.after) (sym minor.1) s.done_read

same_system : (i j : List ℕ) (m n d e : ℕ) → i ≡ j → m ≡ n → d ≡ e → hop.System i m d ≡ hop.System j n e
same_system i j m n d e id minor done =
    ap (λ (x : List ℕ). hop.System x m d) id ∙ ap (λ (x : ℕ). hop.System j x d) minor ∙ ap (λ (x : ℕ). hop.System j n x) done

one_system : (body : Body) (a b : Hop) → TellsSystem body a → TellsSystem body b → a ≡ b
one_system body a b r s =
    let id = one_text_read r.id s.id (body_start body) r.behind_id s.behind_id r.id_read s.id_read in
    let minor = one_ulong_read r.minor s.minor r.behind_id r.behind_minor s.behind_minor r.minor_read (minor_at body a b r s) in
    let done = one_ulong_read r.done s.done r.behind_minor r.after s.after r.done_read (done_at body a b r s) in
    r.is ∙ same_system r.id s.id r.minor s.minor r.done s.done id.0 minor.0 done.0 ∙ sym s.is

one_forward : (body : Body) (a b : Hop) → TellsForward body a → TellsForward body b → a ≡ b
one_forward body a b r s =
    r.is ∙ ap hop.Forward (one_ior r.ior s.ior (body_start body) r.after s.after r.ior_read s.ior_read).0 ∙ sym s.is

one_tale : (kind : ReplyKind) (body : Body) (a b : Hop) → Tells kind body a → Tells kind body b → a ≡ b
one_tale NoException body a b r s = r ∙ sym s
one_tale UserException body a b r s = one_user body a b r s
one_tale SystemException body a b r s = one_system body a b r s
one_tale LocationForward body a b r s = one_forward body a b r s

same_tale : (k l : ReplyKind) (x y : Body) (a b : Hop) → k ≡ l → x ≡ y → Tells k x a → Tells l y b → a ≡ b
same_tale k l x y a b kind body r s =
    one_tale k x a b r (subst (λ (z : Body). Tells k z b) (sym body) (subst (λ (j : ReplyKind). Tells j y b) (sym kind) s))

some_injective : (k l : ReplyKind) → Some k ≡ Some l → k ≡ l
some_injective k l same = cc same

pub one_answer : (id : ℕ) (bytes : List ℕ) (a b : Hop) → Answers id bytes a → Answers id bytes b → a ≡ b
one_answer id bytes a b r s =
    let reply = one_reply bytes id r.number id s.number r.body s.body r.fields s.fields in
    let kind : Some r.kind ≡ Some s.kind = sym r.is_kind ∙ ap kind_of_status reply.1 ∙ s.is_kind in
    same_tale r.kind s.kind r.body s.body a b (some_injective r.kind s.kind kind) reply.2 r.tells s.tells

-- no answer: no Reply, one to another request, one of another kind, or one whose body can't be read
pub no_answer_unread : (id : ℕ) (bytes : List ℕ) → ((i number : ℕ) (body : Body) → IsReply bytes i number body → ⊥) → (said : Hop) → Answers id bytes said → ⊥
no_answer_unread id bytes none said is = none id is.number is.body is.fields

pub no_answer_of_kind : (id i s : ℕ) (bytes : List ℕ) (body : Body) → IsReply bytes i s body → None ≡ kind_of_status s → (said : Hop)
    → Answers id bytes said → ⊥
no_answer_of_kind id i s bytes body reply none said is =
    let one = one_reply bytes i s id is.number body is.body reply is.fields in
    let e : None ≡ Some is.kind = none ∙ ap kind_of_status one.1 ∙ is.is_kind in
    cc e

pub no_answer_told : (id i s : ℕ) (bytes : List ℕ) (body : Body) (kind : ReplyKind) → IsReply bytes i s body → Some kind ≡ kind_of_status s
    → ((said : Hop) → Tells kind body said → ⊥) → (said : Hop) → Answers id bytes said → ⊥
no_answer_told id i s bytes body kind reply is_kind none said is =
    let one = one_reply bytes i s id is.number body is.body reply is.fields in
    let e : Some kind ≡ Some is.kind = is_kind ∙ ap kind_of_status one.1 ∙ is.is_kind in
    none said
    (subst (λ (z : Body). Tells kind z said) (sym one.2)
    (subst (λ (j : ReplyKind). Tells j is.body said) (sym (some_injective kind is.kind e)) is.tells))

pub no_answer_of_another : (id i s : ℕ) (bytes : List ℕ) (body : Body) → IsReply bytes i s body → i ≢ id → (said : Hop) → Answers id bytes said → ⊥
no_answer_of_another id i s bytes body reply other said is = other (one_reply bytes i s id is.number body is.body reply is.fields).0

-- a body in which a part can't be read tells nothing
pub no_user : (body : Body) (start : Cursor) (fault : CdrFault) → start ≡ body_start body → ((fault ≡ WantMemory) ⊎ Refuses Text start fault)
    → fault ≢ WantMemory → (said : Hop) → TellsUser body said → ⊥
no_user body start fault is (inl memory) other said tells = other memory
no_user body start fault is (inr refused) other said tells =
    none_where_refused (text tells.id) start tells.after fault refused (subst (λ (x : Cursor). Reads (text tells.id) x tells.after) (sym is) tells.id_read)

pub no_system_id : (body : Body) (start : Cursor) (fault : CdrFault) → start ≡ body_start body → ((fault ≡ WantMemory) ⊎ Refuses Text start fault)
    → fault ≢ WantMemory → (said : Hop) → TellsSystem body said → ⊥
no_system_id body start fault is (inl memory) other said tells = other memory
no_system_id body start fault is (inr refused) other said tells =
    none_where_refused (text tells.id) start tells.behind_id fault refused
    (subst (λ (x : Cursor). Reads (text tells.id) x tells.behind_id) (sym is) tells.id_read)

system_minor : (body : Body) (said : Hop) (tells : TellsSystem body said) (start b : Cursor) (i : List ℕ) → start ≡ body_start body → Reads (text i) start b
    → Reads (ulong tells.minor) b tells.behind_minor
system_minor body said tells start b i is read =
    let id = one_text_read i tells.id (body_start body) b tells.behind_id (subst (λ (x : Cursor). Reads (text i) x b) is read) tells.id_read in
    subst (λ (x : Cursor). Reads (ulong tells.minor) x tells.behind_minor) (sym id.1) tells.minor_read

pub no_system_minor : (body : Body) (start b : Cursor) (i : List ℕ) (fault : CdrFault) → start ≡ body_start body → Reads (text i) start b
    → Refuses ULong b fault → (said : Hop) → TellsSystem body said → ⊥
no_system_minor body start b i fault is read refused said tells =
    none_where_refused (ulong tells.minor) b tells.behind_minor fault refused (system_minor body said tells start b i is read)

pub no_system_done : (body : Body) (start b c : Cursor) (i : List ℕ) (m : ℕ) (fault : CdrFault) → start ≡ body_start body → Reads (text i) start b
    → Reads (ulong m) b c → Refuses ULong c fault → (said : Hop) → TellsSystem body said → ⊥
no_system_done body start b c i m fault is read minor_read refused said tells =
    let minor = one_ulong_read m tells.minor b c tells.behind_minor minor_read (system_minor body said tells start b i is read) in
    none_where_refused (ulong tells.done) c tells.after fault refused
    (subst (λ (x : Cursor). Reads (ulong tells.done) x tells.after) (sym minor.1) tells.done_read)

pub no_forward : (body : Body) (start after : Cursor) (fault : CdrFault) → start ≡ body_start body → StopsBy (IorBreaks start) after fault
    → fault ≢ WantMemory → (said : Hop) → TellsForward body said → ⊥
no_forward body start after fault is (inl memory) other said tells = other memory
no_forward body start after fault is (inr breaks) other said tells =
    ior_stands tells.ior start tells.after after.place (subst (λ (x : Cursor). ReadsIor tells.ior x tells.after) (sym is) tells.ior_read) breaks

-- a closing is no Reply
pub closing_is_no_reply : (id : ℕ) (bytes : List ℕ) (said : Hop) → IsClosing bytes → Answers id bytes said → ⊥
closing_is_no_reply id bytes said (inl closing) is = absurd (omega (arith, closing, is.is_reply))
closing_is_no_reply id bytes said (inr closing) is = absurd (omega (arith, closing, is.is_reply))

-- a system exception that was read
pub system_read : (body : Body) (start b c d : Cursor) (i kept : List ℕ) (m n : ℕ) → start ≡ body_start body → kept ≡ i → Reads (text i) start b
    → Reads (ulong m) b c → Reads (ulong n) c d → TellsSystem body (hop.System kept m n)
system_read body start b c d i kept m n is same id_read minor_read done_read = record {
  id = i;
  minor = m;
  done = n;
  behind_id = b;
  behind_minor = c;
  after = d;
  id_read = subst (λ (x : Cursor). Reads (text i) x b) is id_read;
  minor_read = minor_read;
  done_read = done_read;
  is = ap (λ (x : List ℕ). hop.System x m n) same;
}

-- The links of a call are a front of the path; and bytes say one thing.
use Rattle.std.proofs.Common.{◌≡◌, ℕ, ◌+◌, Bool, true, false, List, [], ◌∷◌, ◌++◌, map, length, Option, Some, None, refl, sym, ap, ◌∙◌, subst, arith, append-nil, ◌⊎◌, inl, inr}
use Rattle.std.specs.Prelude.{IsSomeAnd}
use Rattle.poa_base.specs.declared.Datum.{Datum}
use Rattle.poa_base.specs.declared.Endpoint.{Endpoint}
use Rattle.poa_base.specs.declared.Ior.{Ior}
use Rattle.poa_base.specs.declared.Profile.{Profile}
use Rattle.ior_text.specs.declared.body.ProfileBody.{ProfileBody}
use Rattle.ior_text.proofs.OneBody.{one_body}
use Rattle.giop_frame.specs.Stream.{Framed, End, left_over, bad_place, Stream}
use Rattle.giop_frame.proofs.Streams.{stream_alone}
use Rattle.giop_msg.specs.Ask.{request_bytes}
use Rattle.giop_client.specs.declared.followed.Followed.{Followed}
use Rattle.giop_client.specs.declared.hop.Hop.{Hop}
use Rattle.giop_client.specs.declared.hop.Hop.TheVariants as hop
use Rattle.poa_base.specs.declared.limits.TheConstants.{MESSAGE_LIMIT}
use Rattle.giop_client.specs.declared.target.Target.{Target}
use Rattle.giop_client.specs.Reply.{Answers, IsClosing, IsNoAnswer, MessageSays}
use Rattle.giop_client.specs.Hop.{IsHop, StreamSays, said_so_far}
use Rattle.giop_client.specs.Journey.{GoesOn, EndsWhole, EndsBroken, EndsHere, Leg, Journey}
use Rattle.giop_client.specs.Path.{Station, IsStation, IsPath, Along}
use Rattle.giop_client.specs.Request.{ask_of}
use Rattle.giop_client.specs.Target.{target_of_body, Reaches, MayReach, IsAmong, IsTarget}
use Rattle.giop_client.specs.Visit.{Visit, Begins}
use Rattle.giop_client.specs.Ending.{EndsBy}
use Rattle.giop_client.specs.Laws.{OneHop, LinksAreAFront}
use Rattle.giop_client.proofs.Replies.{one_answer, closing_is_no_reply}

-- a message says one thing
one_saying : (id : ℕ) (bytes : List ℕ) (a b : Hop) → MessageSays id bytes a → MessageSays id bytes b → a ≡ b
one_saying id bytes a b (inl r) (inl s) = one_answer id bytes a b r s
one_saying id bytes a b (inl r) (inr (inl s)) = absurd (closing_is_no_reply id bytes a s.0 r)
one_saying id bytes a b (inl r) (inr (inr s)) = absurd (s.0.silent a r)
one_saying id bytes a b (inr (inl r)) (inl s) = absurd (closing_is_no_reply id bytes b r.0 s)
one_saying id bytes a b (inr (inl r)) (inr (inl s)) = r.1 ∙ sym s.1
one_saying id bytes a b (inr (inl r)) (inr (inr s)) = absurd (s.0.goes_on r.0)
one_saying id bytes a b (inr (inr r)) (inl s) = absurd (r.0.silent b s)
one_saying id bytes a b (inr (inr r)) (inr (inl s)) = absurd (r.0.goes_on s.0)
one_saying id bytes a b (inr (inr r)) (inr (inr s)) = r.1 ∙ sym s.1

one_some : (id : ℕ) (bytes : List ℕ) (a b : Option Hop) → IsSomeAnd a (MessageSays id bytes) → IsSomeAnd b (MessageSays id bytes) → a ≡ b
one_some id bytes None b r s = absurd r
one_some id bytes (Some x) None r s = absurd s
one_some id bytes (Some x) (Some y) r s = ap (λ (h : Hop). Some h) (one_saying id bytes x y r s)

one_of_stream : (id count : ℕ) (messages : List Framed) (end : End) (a b : Option Hop) → StreamSays id count messages end a
    → StreamSays id count messages end b → a ≡ b
one_of_stream id count (m ∷ ms) end a b r s = one_some id m.bytes a b r s
one_of_stream id count [] (left_over have) a b r s = r ∙ sym s
one_of_stream id count [] (bad_place at why) a b r s = r ∙ sym s

pub one_said : OneHop
one_said id bytes a b r s =
    let alone = stream_alone MESSAGE_LIMIT bytes in
    let here = alone.alone r.messages r.end r.stream in
    let there = alone.alone s.messages s.end s.stream in
    one_of_stream id (length bytes) alone.messages alone.end a b
    (subst (λ (e : End). StreamSays id (length bytes) alone.messages e a) here.1
    (subst (λ (ms : List Framed). StreamSays id (length bytes) ms r.end a) here.0 r.says))
    (subst (λ (e : End). StreamSays id (length bytes) alone.messages e b) there.1
    (subst (λ (ms : List Framed). StreamSays id (length bytes) ms s.end b) there.0 s.says))

one_next : (id : ℕ) (bytes : List ℕ) (i j : Ior) → IsHop id bytes (Some (hop.Forward i)) → IsHop id bytes (Some (hop.Forward j)) → i ≡ j
one_next id bytes i j r s =
    let e : Some (hop.Forward i) ≡ Some (hop.Forward j) = one_said id bytes (Some (hop.Forward i)) (Some (hop.Forward j)) r s in
    cc e

-- a profile tells one target
one_reached : (profile : Profile) (t u : Target) → Reaches profile t → Reaches profile u → t ≡ u
one_reached profile t u r s =
    r.is ∙ ap (λ (b : ProfileBody). target_of_body b) (one_body profile r.body s.body r.has s.has) ∙ sym s.is

one_among : (profiles : List Profile) (a b : Option Target) → IsAmong profiles a → IsAmong profiles b → a ≡ b
one_among [] a b r s = r ∙ sym s
one_among (p ∷ ps) a b (inl r) (inl s) = r.1 ∙ ap (λ (t : Target). Some t) (one_reached p r.0 s.0 r.2 s.2) ∙ sym s.1
one_among (p ∷ ps) a b (inl r) (inr s) = absurd (s.0 r.0 r.2)
one_among (p ∷ ps) a b (inr r) (inl s) = absurd (r.0 s.0 s.2)
one_among (p ∷ ps) a b (inr r) (inr s) = one_among ps a b r.1 s.1

one_target : (reference : Ior) (t u : Target) → IsTarget reference (Some t) → IsTarget reference (Some u) → t ≡ u
one_target reference t u r s =
    let e : Some t ≡ Some u = one_among reference.profiles (Some t) (Some u) r s in
    cc e

-- the link of a reference is at its station
begins_whole : (took asked : List ℕ) → took ≡ asked → Begins took asked
begins_whole took asked same = record { back = []; cut = sym same ∙ sym (append-nil took) }

ends_begins : (asked : List ℕ) (number : ℕ) (visit : Visit) (answer : Followed) → EndsHere asked number visit answer.end → Begins visit.took asked
ends_begins asked number visit answer (inl whole) = begins_whole visit.took asked whole.took
ends_begins asked number visit answer (inr broken) = broken.took

came_begins : (asked : List ℕ) (number : ℕ) (visit : Visit) (visits : List Visit) (Further : Ior → Type 0) (answer : Followed)
    → (GoesOn asked number visit Further ⊎ ((visits ≡ []) × (answer.hops + 1 ≡ number) × EndsHere asked number visit answer.end)) → Begins visit.took asked
came_begins asked number visit visits Further answer (inl on) = begins_whole visit.took asked on.took
came_begins asked number visit visits Further answer (inr (ended)) = ends_begins asked number visit answer ended.2

at_station : (operation : List ℕ) (argument : Option Datum) (number : ℕ) (reference : Ior) (visit : Visit) (Came : List ℕ → Type 0) (station : Station)
    → (leg : Leg operation argument number reference visit Came) → IsStation operation argument number reference station
    → (visit.endpoint ≡ station.endpoint) × (request_bytes (ask_of leg.target operation argument number) ≡ station.asked)
at_station operation argument number reference visit Came station leg is =
    let one = one_target reference leg.target is.target leg.is_target is.is_target in (
      leg.endpoint ∙ ap (λ (t : Target). t.endpoint) one ∙ sym is.endpoint,
      ap (λ (t : Target). request_bytes (ask_of t operation argument number)) one ∙ sym is.asked,
    )

-- what is behind a link goes along what is behind its station
behind : (number : ℕ) (visit : Visit) (visits : List Visit) (asked : List ℕ) (answer : Followed) (stations : List Station)
    (Further : Ior → Type 0) (Path : Ior → Type 0)
    → ((next : Ior) → Further next → Path next → Along visits stations)
    → (GoesOn asked number visit Further ⊎ ((visits ≡ []) × (answer.hops + 1 ≡ number) × EndsHere asked number visit answer.end))
    → (((next : Ior) × IsHop number visit.gave (Some (hop.Forward next)) × Path next)
    ⊎ (((next : Ior) → IsHop number visit.gave (Some (hop.Forward next)) → ⊥) × (stations ≡ [])))
    → Along visits stations
behind number visit visits asked answer stations Further Path on (inl forward) (inl path) =
    let same : path.0 ≡ forward.next = one_next number visit.gave path.0 forward.next path.1 forward.said in
    on forward.next forward.further (subst Path same path.2)
behind number visit visits asked answer stations Further Path on (inl forward) (inr ends) = absurd (ends.0 forward.next forward.said)
behind number visit visits asked answer stations Further Path on (inr ended) path =
    subst (λ (vs : List Visit). Along vs stations) (sym ended.0) tt

-- the links go along the stations
pub along : LinksAreAFront
along operation argument hops number reference [] answer stations journey path = tt
along operation argument hops number reference (visit ∷ visits) answer [] journey path =
    let e : Some journey.1.target ≡ None = one_among reference.profiles (Some journey.1.target) None journey.1.is_target path in
    absurd (cc e)
along operation argument hops number reference (visit ∷ visits) answer (station ∷ stations) journey path =
    let asked = request_bytes (ask_of journey.1.target operation argument number) in
    let here = at_station operation argument number reference visit _ station journey.1 path.0 in
    let begins = came_begins asked number visit visits _ answer journey.1.came in (
      here.0,
      subst (λ (text : List ℕ). Begins visit.took text) here.1 begins,
      behind number visit visits asked answer stations
          (λ next. Journey operation argument hops (number + 1) next visits answer)
          (λ next. IsPath operation argument (number + 1) next (map (λ v. v.gave) visits) stations)
          (λ next further on. along operation argument hops (number + 1) next visits answer stations further on)
          journey.1.came path.1,
    )

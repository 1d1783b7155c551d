-- A text that goes on: behind a place where it ends, nothing more is heard of it.
use Rattle.std.proofs.Common.{◌≡◌, ◌⊎◌, ℕ, List, [], ◌∷◌, ◌++◌, inl, inr, sym, ap, ◌∙◌, subst, append_assoc}
use Rattle.std.specs.List.{concat}
use Rattle.std.specs.Prelude.{Result, Ok, Err}
use Rattle.giop_frame.specs.Stream.{AreGood, End, Framed, Reading, Stream, StreamFrom, after, after_all, bad_place, completed, left_over, messages_of, start}
use Rattle.giop_frame.proofs.Streams.{bad_stays, some_stream, stream_put}
use Rattle.giop_msg.specs.declared.Incoming.{Incoming}
use Rattle.giop_msg.specs.declared.Incoming.TheVariants as incoming
use Rattle.giop_msg.specs.declared.MsgFault.{MsgFault}
use Rattle.giop_msg.specs.Call.{CallOf}
use Rattle.session_laws.specs.Hearing.{Heard, HeardFrom, HeardIn, HearsMessages, Stop, bad, closed, message_limit, over, stop_at}

-- good parts, and the stream of what stands behind them
parts_put : (limit : ℕ) (r : Reading) (parts : List (List ℕ)) (left : List ℕ) (messages : List Framed) (end : End) → AreGood limit r parts
    → StreamFrom limit (after_all r parts) left messages end → StreamFrom limit r (concat parts ++ left) (messages_of r parts ++ messages) end
parts_put limit r [] left messages end good s = s
parts_put limit r (p ∷ ps) left messages end good s =
    subst (λ (text : List ℕ). StreamFrom limit r text (messages_of r (p ∷ ps) ++ messages) end) (sym (append_assoc p (concat ps) left))
    (subst (λ (ms : List Framed). StreamFrom limit r (p ++ (concat ps ++ left)) ms end)
    (sym (append_assoc (completed r p) (messages_of (after r p) ps) messages))
    (stream_put limit r p (concat ps ++ left) (messages_of (after r p) ps ++ messages) end good.0
    (parts_put limit (after r p) ps left messages end good.1 s)))

module _ (limit : ℕ) (text more : List ℕ) (messages : List Framed) (end : End) (s : Stream limit text messages end) where
  abbrev behind : Reading
  behind = after_all start s.parts

  cut_longer : concat s.parts ++ (s.left ++ more) ≡ text ++ more
  cut_longer = sym (append_assoc (concat s.parts) s.left more) ∙ ap (λ (t : List ℕ). t ++ more) (sym s.cut)

  put_longer : (others : List Framed) (last : End) → StreamFrom limit behind (s.left ++ more) others last
      → Stream limit (text ++ more) (messages ++ others) last
  put_longer others last is =
      subst (λ (ms : List Framed). Stream limit (text ++ more) (ms ++ others) last) (sym s.given)
      (subst (λ (t : List ℕ). Stream limit t (messages_of start s.parts ++ others) last) cut_longer
      (parts_put limit start s.parts (s.left ++ more) others last s.good is))

  pub stream_longer : (others : List Framed) × (last : End) × Stream limit (text ++ more) (messages ++ others) last
  stream_longer =
      let rest = some_stream limit behind (s.left ++ more) in (rest.messages, rest.end, put_longer rest.messages rest.end rest.stream)

-- what is heard ends at a message, whatever comes behind it, or where the stream does
abbrev EndsEarly : (List Framed → End → Type 0) → Stop → End → Type 0
EndsEarly P stop end = ((others : List Framed) (last : End) → P others last) ⊎ (stop ≡ stop_at end)

module _ (m : Framed) (ms : List Framed) (end : End)
    (behind : (calls : List Heard) (stop : Stop) → HeardIn ms end calls stop → EndsEarly (λ others last. HeardIn (ms ++ others) last calls stop) stop end) where
  from_early : (said : Result Incoming MsgFault) (calls : List Heard) (stop : Stop) → CallOf m.bytes said → HeardFrom m said (HeardIn ms end) calls stop
      → EndsEarly (λ others last. HeardIn (m ∷ ms ++ others) last calls stop) stop end
  from_early (Ok (incoming.Call call)) calls stop asks from =
      elim (behind from.0 stop from.2) [
        | inl early ↦ inl (λ others last. (Ok (incoming.Call call), asks, (from.0, from.1, early others last)))
        | inr late ↦ inr late
      ]
  from_early (Ok (incoming.Cancel id)) calls stop asks from =
      elim (behind calls stop from) [
        | inl early ↦ inl (λ others last. (Ok (incoming.Cancel id), asks, early others last))
        | inr late ↦ inr late
      ]
  from_early (Ok incoming.Closing) calls stop asks from = inl (λ others last. (Ok incoming.Closing, asks, from))
  from_early (Err fault) calls stop asks from = inl (λ others last. (Err fault, asks, from))

ends_early : (ms : List Framed) (end : End) (calls : List Heard) (stop : Stop) → HeardIn ms end calls stop
    → EndsEarly (λ others last. HeardIn (ms ++ others) last calls stop) stop end
ends_early [] end calls stop heard = inr heard.1
ends_early (m ∷ ms) end calls stop heard = from_early m ms end (ends_early ms end) heard.0 calls stop heard.1 heard.2

module _ (text more : List ℕ) (calls : List Heard) where
  early_longer : (stop : Stop) (h : HearsMessages text calls stop) → ((others : List Framed) (last : End) → HeardIn (h.messages ++ others) last calls stop)
      → HearsMessages (text ++ more) calls stop
  early_longer stop h early =
      let longer = stream_longer message_limit text more h.messages h.end h.stream in
      record { messages = h.messages ++ longer.0; end = longer.1; stream = longer.2; heard = early longer.0 longer.1 }

  never_closed : (end : End) → closed ≡ stop_at end → ⊥
  never_closed (left_over have) is = let e : closed ≡ over have = is in cc
  never_closed (bad_place at why) is = let e : closed ≡ bad at = is in cc

  -- a CloseConnection stays the end
  pub closed_longer : HearsMessages text calls closed → HearsMessages (text ++ more) calls closed
  closed_longer h =
      elim (ends_early h.messages h.end calls closed h.heard) [
        | inl early ↦ early_longer closed h early
        | inr late ↦ absurd (never_closed h.end late)
      ]

  place_longer : (at : ℕ) (messages : List Framed) (end : End) → Stream message_limit text messages end → HeardIn messages end calls (bad at)
      → bad at ≡ stop_at end → HearsMessages (text ++ more) calls (bad at)
  place_longer at messages (left_over have) stream heard is = absurd (let e : bad at ≡ over have = is in cc)
  place_longer at messages (bad_place place why) stream heard is =
      record { messages = messages; end = bad_place place why; stream = bad_stays message_limit start text more messages place why stream; heard = heard }

  -- a bad place stays one
  pub bad_longer : (at : ℕ) → HearsMessages text calls (bad at) → HearsMessages (text ++ more) calls (bad at)
  bad_longer at h =
      elim (ends_early h.messages h.end calls (bad at) h.heard) [
        | inl early ↦ early_longer (bad at) h early
        | inr late ↦ place_longer at h.messages h.end h.stream h.heard late
      ]

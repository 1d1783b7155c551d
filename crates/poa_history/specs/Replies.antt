-- Which entry decides an arrival, and which reply it fixes.
use Rattle.std.specs.Prelude.{ℕ, Bool, true, false, not, ◌&&◌, ◌||◌, ◌==◌, if◌then◌else◌, List, [], ◌∷◌, Option, Some, None, ◌%◌}
use Rattle.std.specs.Option.{option_or}
use Rattle.poa_base.specs.declared.Config.{Config}
use Rattle.poa_base.specs.declared.Call.{Call}
use Rattle.poa_base.specs.declared.Call.TheVariants.{Request, Locate, Line}
use Rattle.poa_base.specs.declared.SysExc.{SysExc}
use Rattle.poa_base.specs.declared.ExcName.TheVariants.{ObjectNotExist, Transient, ObjAdapter}
use Rattle.poa_base.specs.declared.Completion.TheVariants.{No as NotCompleted}
use Rattle.poa_base.specs.declared.minors.TheConstants.{ADAPTER_DYING, ACTIVATOR_RAISED, SERVANT_DOUBLE, NO_ADAPTER}
use Rattle.poa_base.specs.declared.Endpoint.{Endpoint}
use Rattle.poa_base.specs.declared.Outcome.TheVariants.{System}
use Rattle.poa_base.specs.declared.Reply.{Reply}
use Rattle.poa_base.specs.declared.Reply.TheVariants.{Outcome as Ended, Forward as ForwardReply, Addressing as AddressingReply, Here as HereReply, UnknownObject, Answer as AnswerReply}
use Rattle.poa_base.specs.declared.Answer.TheVariants.{Good}
use Rattle.poa_base.specs.declared.Entry.{Entry}
use Rattle.poa_base.specs.declared.Entry.TheVariants.{Collect, Admit, Tried, Incarnated, Run}
use Rattle.poa_base.specs.declared.Attempt.{Attempt}
use Rattle.poa_base.specs.declared.Attempt.TheVariants.{Yes, Raised, Dying}
use Rattle.poa_base.specs.declared.Incarnation.{Incarnation}
use Rattle.poa_base.specs.declared.Incarnation.TheVariants.{Double, Forward as ForwardTo, Raise}
use Rattle.poa_base.specs.declared.Verdict.{Verdict}
use Rattle.poa_base.specs.declared.Verdict.TheVariants.{Refuse, Forward, Addressing, Here, Unknown, Answer, Wait}
use Rattle.poa_base.specs.declared.Sid.{Sid}
use Rattle.history_standing.specs.Searches.{least, count_below}
use Rattle.history_standing.specs.Arrivals.{arrivals, call_of, conn_of, target_of}
use Rattle.history_standing.specs.Stages.{stage, arrival_in, is_at, admitted, brings}
use Rattle.history_standing.specs.Keys.{key_in}
use Rattle.history_standing.specs.Logs.{forward_of}
use Rattle.history_standing.specs.Situations.{key_or_none}
use Rattle.poa_history.specs.Settling.{settles}
use Rattle.poa_history.specs.States.{Stored, state_of, servant_run, call_run, acted}

-- a verdict that is the end of a call
abbrev pub is_final : Verdict → Bool
is_final (Refuse exception) = true
is_final (Forward endpoint) = true
is_final Addressing = true
is_final Here = true
is_final Unknown = true
is_final (Answer answer) = true
is_final verdict = false

-- the entry, after those before it, decides the arrival: CORBA 3.3 Part 1, section 15.2.3
abbrev pub is_decided_by : List Entry → Entry → ℕ → Bool
is_decided_by past (Admit w a verdict) r = (a == r) && is_final verdict
is_decided_by past (Tried w (Yes n)) r = false
is_decided_by past (Tried w answer) r = is_at r (arrival_in (stage past w))
is_decided_by past (Incarnated w answer) r = not (brings answer) && is_at r (arrival_in (stage past w))
is_decided_by past (Run w) r = is_at r (arrival_in (stage past w))
is_decided_by past e r = false

abbrev pub is_waiting : Option Verdict → Bool
is_waiting (Some Wait) = true
is_waiting verdict = false

-- a command that waits is decided by the first entry, from its Admit on, after which its condition holds
abbrev pub decided : Config → ℕ → List Entry → ℕ → Bool
decided c run [] r = false
decided c run (e ∷ past) r =
    is_decided_by past e r || (decided c run past r || (is_waiting (admitted (e ∷ past) r) && settles c run (e ∷ past) r))

-- a system exception before the operation could act
abbrev pub not_exist_omg : SysExc
not_exist_omg = record { name = ObjectNotExist; minor = NO_ADAPTER; done = NotCompleted }

abbrev pub activator_raised : SysExc
activator_raised = record { name = ObjAdapter; minor = ACTIVATOR_RAISED; done = NotCompleted }

abbrev pub adapter_dying : SysExc
adapter_dying = record { name = Transient; minor = ADAPTER_DYING; done = NotCompleted }

abbrev pub servant_double : SysExc
servant_double = record { name = ObjAdapter; minor = SERVANT_DOUBLE; done = NotCompleted }

-- to a locate every exception is UNKNOWN_OBJECT
abbrev pub raised_to : Option Call → SysExc → Reply
raised_to (Some (Locate head target)) exception = UnknownObject
raised_to call exception = Ended (System exception)

-- a forward names the endpoint and the same key
abbrev pub bytes_or_none : Option (List ℕ) → List ℕ
bytes_or_none None = []
bytes_or_none (Some bytes) = bytes

abbrev pub forwarded_to : Option Call → Endpoint → Reply
forwarded_to call endpoint = ForwardReply endpoint (bytes_or_none (target_of call))

abbrev pub number_of : Option Call → ℕ
number_of (Some (Line number command)) = number
number_of call = 0

abbrev pub reply_admitted : Option Call → Verdict → Option Reply
reply_admitted call (Refuse exception) = Some (raised_to call exception)
reply_admitted call (Forward endpoint) = Some (forwarded_to call endpoint)
reply_admitted call Addressing = Some AddressingReply
reply_admitted call Here = Some HereReply
reply_admitted call Unknown = Some UnknownObject
reply_admitted call (Answer answer) = Some (AnswerReply (number_of call) answer)
reply_admitted call Wait = Some (AnswerReply (number_of call) Good)
reply_admitted call verdict = None

-- no child was made: the endpoint table is asked, and else the object doesn't exist
abbrev pub reply_tried : Config → List Entry → Option Call → Attempt → Reply
reply_tried c past call Raised = raised_to call activator_raised
reply_tried c past call Dying = raised_to call adapter_dying
reply_tried c past call answer =
    elim (forward_of c past (key_or_none (key_in call)).path)
    [ Some endpoint ↦ forwarded_to call endpoint | None ↦ raised_to call not_exist_omg ]

abbrev pub reply_incarnated : Option Call → Incarnation → Option Reply
reply_incarnated call Double = Some (raised_to call servant_double)
reply_incarnated call (ForwardTo endpoint) = Some (forwarded_to call endpoint)
reply_incarnated call (Raise exception) = Some (raised_to call exception)
reply_incarnated call answer = None

-- the outcome of the servant's act on its state then
abbrev pub reply_run : Config → ℕ → Stored → List Entry → Option Sid → Option Call → Option Reply
reply_run c run opened past None call = None
reply_run c run opened past (Some s) call = Some (Ended (acted (state_of c run opened past s) call).1)

-- the arrival that an entry may answer
abbrev pub answers_to : List Entry → Entry → Option ℕ
answers_to past (Admit w a verdict) = Some a
answers_to past (Tried w answer) = arrival_in (stage past w)
answers_to past (Incarnated w answer) = arrival_in (stage past w)
answers_to past (Run w) = arrival_in (stage past w)
answers_to past e = None

-- what the entry answers to its call
abbrev pub answer_by : Config → ℕ → Stored → List Entry → Entry → Option Call → Option Reply
answer_by c run opened past (Admit w a verdict) call = reply_admitted call verdict
answer_by c run opened past (Tried w answer) call = Some (reply_tried c past call answer)
answer_by c run opened past (Incarnated w answer) call = reply_incarnated call answer
answer_by c run opened past (Run w) call =
    reply_run c run opened past (servant_run c run past (stage past w)) (call_run past (stage past w))
answer_by c run opened past e call = None

-- the reply that an entry fixes for an arrival that it decides: what it answers to that, and `ok` to a command that waited
abbrev pub reply_by : Config → ℕ → Stored → List Entry → Entry → ℕ → Option Reply
reply_by c run opened past e r =
    if is_at r (answers_to past e) then answer_by c run opened past e (call_of past r)
    else Some (AnswerReply (number_of (call_of past r)) Good)

-- the reply that an arrival's deciding entry fixes
abbrev pub reply_of : Config → ℕ → Stored → List Entry → ℕ → Option Reply
reply_of c run opened [] r = None
reply_of c run opened (e ∷ past) r =
    if decided c run past r then reply_of c run opened past r
    else if decided c run (e ∷ past) r then reply_by c run opened past e r
    else None

-- bit 0 of the response flags asks a reply; every locate and every line asks one
abbrev pub asks : Option Call → Bool
asks (Some (Request head target operation body)) = head.flags % 2 == 1
asks (Some (Locate head target)) = true
asks (Some (Line number command)) = true
asks None = false

abbrev pub is_collected : List Entry → ℕ → Bool
is_collected [] r = false
is_collected (Collect conn a ∷ past) r = (a == r) || is_collected past r
is_collected (e ∷ past) r = is_collected past r

-- an arrival of the connection that asks a reply
abbrev pub is_asked : List Entry → ℕ → ℕ → Bool
is_asked h conn r = is_at conn (conn_of h r) && asks (call_of h r)

-- an entry decided it, and it isn't collected
abbrev pub is_newly_decided : Config → ℕ → List Entry → ℕ → Entry → List Entry → ℕ → Bool
is_newly_decided c run whole conn e past r =
    is_asked whole conn r && (not (is_collected whole r) && (decided c run (e ∷ past) r && not (decided c run past r)))

-- of the earliest deciding entry, the least arrival
abbrev pub next_within : Config → ℕ → List Entry → ℕ → List Entry → Option ℕ
next_within c run whole conn [] = None
next_within c run whole conn (e ∷ past) =
    option_or (next_within c run whole conn past) (least (is_newly_decided c run whole conn e past) (arrivals past))

-- the arrival whose reply the connection is given next
abbrev pub next_reply : Config → ℕ → List Entry → ℕ → Option ℕ
next_reply c run h conn = next_within c run h conn h

-- how many undecided arrivals of the connection ask a reply
abbrev pub owed : Config → ℕ → List Entry → ℕ → ℕ
owed c run h conn = count_below (λ r. is_asked h conn r && not (decided c run h r)) (arrivals h)

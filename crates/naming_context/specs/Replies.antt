-- The bytes of replies: those of `Reply` of GIOP (CORBA 3.3 Part 2, 9.4.3), with references and the members of exceptions
-- behind them.
use Rattle.std.specs.Prelude.{ℕ, ◌%◌, ◌==◌, Bool, List, ◌∷◌, length, if◌then◌else◌}
use Rattle.cdr_core.specs.Field.{ulong, text}
use Rattle.cdr_core.specs.Draft.{Draft, with_field}
use Rattle.cdr_core.specs.Fields.{with_fields}
use Rattle.poa_base.specs.declared.Head.{Head}
use Rattle.poa_base.specs.declared.Ior.{Ior}
use Rattle.poa_base.specs.declared.Outcome.{Outcome}
use Rattle.poa_base.specs.declared.Outcome.TheVariants.{User}
use Rattle.poa_base.specs.declared.Reply.TheVariants as reply
use Rattle.ior_text.specs.Written.{with_profiles}
use Rattle.giop_answer.specs.declared.kind.TheConstants.{REPLY}
use Rattle.giop_answer.specs.Outgoing.{framed}
use Rattle.giop_answer.specs.Reply.{hides_results, reply_bytes, reply_draft}
use Rattle.naming_context.specs.declared.answer.Answer.{Answer}
use Rattle.naming_context.specs.declared.answer.Answer.TheVariants as answer
use Rattle.naming_context.specs.declared.component.Component.{Component}
use Rattle.naming_context.specs.declared.reason.Reason.{Reason}
use Rattle.naming_context.specs.Names.{name_fields}
use Rattle.naming_context.specs.Outcomes.{nothing, not_found_id, reason_number}

-- bit 0 of the response flags asks a reply
abbrev pub asks_reply : Head → Bool
asks_reply head = head.flags % 2 == 1

-- a reference behind what stands there (CORBA 3.3 Part 2, 7.6.2)
abbrev pub with_reference : Ior → Draft → Draft
with_reference ior d = with_profiles ior.profiles (with_field (ulong (length ior.profiles)) (with_field (text ior.type_id) d))

-- the members of NotFound: why, and the rest of the name
abbrev pub with_not_found : Reason → List Component → Draft → Draft
with_not_found why rest d = with_fields (ulong (reason_number why) ∷ name_fields rest) d

-- an outcome with what stands behind it; neither is told where the response flags are exactly 1
abbrev pub reply_with : Head → Outcome → (Draft → Draft) → List ℕ
reply_with head outcome members =
    let plain = reply_draft head (reply.Outcome outcome) in
    framed head.minor REPLY head.little (if hides_results head then plain else members plain).bytes

abbrev pub answer_bytes : Head → Answer → List ℕ
answer_bytes head answer.Addressing = reply_bytes head reply.Addressing
answer_bytes head (answer.Outcome outcome) = reply_bytes head (reply.Outcome outcome)
answer_bytes head (answer.Reference ior) = reply_with head nothing (with_reference ior)
answer_bytes head (answer.NotFound why rest) = reply_with head (User not_found_id) (with_not_found why rest)

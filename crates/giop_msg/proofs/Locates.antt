-- The parts of a LocateRequest, each read where the one before it ends.
use Rattle.std.proofs.Common.{◌≡◌, ℕ, List, Option, sym, ap, ◌∙◌, subst, arith}
use Rattle.cdr_core.specs.declared.CdrFault.{CdrFault}
use Rattle.cdr_core.specs.Kind.{ULong}
use Rattle.cdr_core.specs.Field.{ulong}
use Rattle.cdr_core.specs.Cursor.{Cursor, Reads}
use Rattle.cdr_core.specs.Refusal.{Refuses}
use Rattle.cdr_core.proofs.OneReading.{one_ulong_read}
use Rattle.cdr_core.proofs.Refusals.{none_where_refused}
use Rattle.poa_base.specs.declared.Call.TheVariants.{Request, Locate, Line}
use Rattle.poa_base.specs.declared.Head.{Head}
use Rattle.giop_frame.specs.Part.{is_little, minor_of}
use Rattle.giop_answer.specs.declared.kind.TheConstants.{LOCATE_REQUEST}
use Rattle.giop_msg.specs.Fields.{fields_start}
use Rattle.giop_msg.specs.Header.{message_type}
use Rattle.giop_msg.specs.Target.{IsAddressed}
use Rattle.giop_msg.specs.Locate.{locate_head, IsLocate}
use Rattle.giop_msg.specs.Reading.{NoneAddressed, NoCall}
use Rattle.giop_msg.proofs.Targets.{one_addressed}

-- its target stands where the id that was read ends
target_behind : (bytes : List ℕ) (head : Head) (t : Option (List ℕ)) (i : ℕ) (b : Cursor) → Reads (ulong i) (fields_start bytes) b
    → (is : IsLocate bytes head t) → IsAddressed (minor_of bytes) t b is.behind
target_behind bytes head t i b id is =
    subst (λ (z : Cursor). IsAddressed (minor_of bytes) t z is.behind) (one_ulong_read head.id i (fields_start bytes) is.behind_id b is.id id).1 is.addressed

same_call : (h k : Head) (t u : Option (List ℕ)) → h ≡ k → t ≡ u → Locate h t ≡ Locate k u
same_call h k t u head target = cc

-- a message makes one locate
pub one_locate : (bytes : List ℕ) (h k : Head) (t u : Option (List ℕ)) → IsLocate bytes h t → IsLocate bytes k u → Locate h t ≡ Locate k u
one_locate bytes h k t u is has =
    let id = one_ulong_read h.id k.id (fields_start bytes) is.behind_id has.behind_id is.id has.id in
    let target = one_addressed (minor_of bytes) t u has.behind_id is.behind has.behind (target_behind bytes h t k.id has.behind_id has.id is) has.addressed in
    same_call h k t u (is.is_head ∙ (ap (λ (i : ℕ). locate_head (minor_of bytes) i (is_little bytes)) id.0 ∙ sym has.is_head)) target.0

-- no LocateRequest, so no call
no_call : (bytes : List ℕ) → message_type bytes ≡ LOCATE_REQUEST → ((head : Head) (t : Option (List ℕ)) → IsLocate bytes head t → ⊥) → NoCall bytes
no_call bytes kind none (Request head t o body) makes = omega (arith, kind, makes.0)
no_call bytes kind none (Locate head t) makes = none head t makes.1
no_call bytes kind none (Line number command) makes = makes

-- the id can't be read
pub no_id : (bytes : List ℕ) (fault : CdrFault) → message_type bytes ≡ LOCATE_REQUEST → Refuses ULong (fields_start bytes) fault → NoCall bytes
no_id bytes fault kind refused = no_call bytes kind (λ head t is. none_where_refused (ulong head.id) (fields_start bytes) is.behind_id fault refused is.id)

-- or the target
pub no_target : (bytes : List ℕ) (i : ℕ) (b : Cursor) → message_type bytes ≡ LOCATE_REQUEST → Reads (ulong i) (fields_start bytes) b → NoneAddressed (minor_of bytes) b → NoCall bytes
no_target bytes i b kind id none = no_call bytes kind (λ head t is. none t is.behind (target_behind bytes head t i b id is))

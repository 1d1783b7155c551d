-- The head of a Reply is read in one way, and not at all where a part of it can't be read.
use Rattle.std.proofs.Common.{◌≡◌, ℕ, Bool, true, false, sym, subst}
use Rattle.cdr_core.specs.declared.CdrFault.{CdrFault}
use Rattle.cdr_core.specs.Kind.{ULong}
use Rattle.cdr_core.specs.Field.{ulong}
use Rattle.cdr_core.specs.Cursor.{Cursor, Reads}
use Rattle.cdr_core.specs.Refusal.{Refuses}
use Rattle.cdr_core.proofs.OneReading.{one_ulong_read}
use Rattle.cdr_core.proofs.Refusals.{none_where_refused}
use Rattle.giop_msg.specs.Contexts.{IsContexts}
use Rattle.giop_msg.specs.Version.{ByVersion, is_newest}
use Rattle.giop_msg.proofs.ContextFields.{one_contexts}
use Rattle.giop_client.specs.Reply.{IsTold, NewHead, OldHead, IsHead}

-- the id and the status
pub one_told : (i s j t : ℕ) (a b c : Cursor) → IsTold i s a b → IsTold j t a c → (i ≡ j) × (s ≡ t) × (b ≡ c)
one_told i s j t a b c here there =
    let id = one_ulong_read i j a here.behind there.behind here.id_read there.id_read in
    let number =
    one_ulong_read s t here.behind b c here.status_read (subst (λ (x : Cursor). Reads (ulong t) x c) (sym id.1) there.status_read) in
    (id.0, number.0, number.1)

pub no_id : (a : Cursor) (fault : CdrFault) → Refuses ULong a fault → (id number : ℕ) (after : Cursor) → IsTold id number a after → ⊥
no_id a fault refused id number after is = none_where_refused (ulong id) a is.behind fault refused is.id_read

pub no_status : (i : ℕ) (a b : Cursor) (fault : CdrFault) → Reads (ulong i) a b → Refuses ULong b fault → (id number : ℕ) (after : Cursor)
    → IsTold id number a after → ⊥
no_status i a b fault read refused id number after is =
    let one = one_ulong_read i id a b is.behind read is.id_read in
    none_where_refused (ulong number) b after fault refused (subst (λ (x : Cursor). Reads (ulong number) x after) (sym one.1) is.status_read)

-- the head of GIOP 1.2
one_new : (i s j t : ℕ) (a b c : Cursor) → NewHead i s a b → NewHead j t a c → (i ≡ j) × (s ≡ t) × (b ≡ c)
one_new i s j t a b c here there =
    let told = one_told i s j t a here.behind there.behind here.told there.told in
    (told.0, told.1, one_contexts here.behind b c here.contexts (subst (λ (x : Cursor). IsContexts x c) (sym told.2) there.contexts))

pub no_new_contexts : (i s : ℕ) (a b : Cursor) → IsTold i s a b → ((after : Cursor) → IsContexts b after → ⊥) → (id number : ℕ) (after : Cursor)
    → NewHead id number a after → ⊥
no_new_contexts i s a b told none id number after head =
    let one = one_told i s id number a b head.behind told head.told in
    none after (subst (λ (x : Cursor). IsContexts x after) (sym one.2) head.contexts)

-- of an older version
one_old : (i s j t : ℕ) (a b c : Cursor) → OldHead i s a b → OldHead j t a c → (i ≡ j) × (s ≡ t) × (b ≡ c)
one_old i s j t a b c here there =
    let end = one_contexts a here.behind there.behind here.contexts there.contexts in
    one_told i s j t here.behind b c here.told (subst (λ (x : Cursor). IsTold j t x c) (sym end) there.told)

pub no_old_told : (a b : Cursor) → IsContexts a b → ((id number : ℕ) (after : Cursor) → IsTold id number b after → ⊥) → (id number : ℕ) (after : Cursor)
    → OldHead id number a after → ⊥
no_old_told a b are none id number after head =
    let end = one_contexts a b head.behind are head.contexts in
    none id number after (subst (λ (x : Cursor). IsTold id number x after) (sym end) head.told)

one_head_by : (is_new : Bool) (i s j t : ℕ) (a b c : Cursor) → ByVersion is_new (NewHead i s a b) (OldHead i s a b)
    → ByVersion is_new (NewHead j t a c) (OldHead j t a c) → (i ≡ j) × (s ≡ t) × (b ≡ c)
one_head_by true i s j t a b c here there = one_new i s j t a b c here there
one_head_by false i s j t a b c here there = one_old i s j t a b c here there

pub one_head : (minor i s j t : ℕ) (a b c : Cursor) → IsHead minor i s a b → IsHead minor j t a c → (i ≡ j) × (s ≡ t) × (b ≡ c)
one_head minor i s j t a b c here there = one_head_by (is_newest minor) i s j t a b c here there

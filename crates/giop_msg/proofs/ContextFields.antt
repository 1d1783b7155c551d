-- Service contexts, one behind the other.
use Rattle.std.proofs.Common.{◌≡◌, ℕ, ◌+◌, ◌<◌, List, [], ◌∷◌, ◌++◌, length, Result, Ok, Err, OnErr, refl, sym, ap, ◌∙◌, subst, arith, length-append}
use Rattle.cdr_core.specs.declared.CdrFault.{CdrFault}
use Rattle.cdr_core.specs.Kind.{Text, ULong, Octets}
use Rattle.cdr_core.specs.Field.{Field, ulong, octets, text}
use Rattle.cdr_core.specs.Cursor.{Cursor, Reads}
use Rattle.cdr_core.specs.Refusal.{Refuses}
use Rattle.cdr_core.proofs.OneReading.{one_ulong_read, one_octets_read, one_text_read}
use Rattle.cdr_core.proofs.Refusals.{none_where_refused}
use Rattle.giop_msg.specs.Fields.{ReadsAll}
use Rattle.giop_msg.specs.Contexts.{Context, context_fields, IsContexts}
use Rattle.giop_msg.specs.Request.{IsNewestClosing}
use Rattle.giop_msg.specs.Reading.{IsContext, HasContexts}
use Rattle.giop_msg.proofs.Fields.{reads_append}

pub no_contexts : (c : Cursor) → HasContexts 0 c c
no_contexts c = record { contexts = []; counted = refl; read = refl }

context_fields-append : (xs ys : List Context) → context_fields (xs ++ ys) ≡ context_fields xs ++ context_fields ys
context_fields-append [] ys = refl
context_fields-append (x ∷ xs) ys = ap (λ (fs : List Field). ulong x.0 ∷ octets x.1 ∷ fs) (context_fields-append xs ys)

-- one more context
pub more_contexts : (n : ℕ) (a b c : Cursor) → HasContexts n a b → IsContext b c → HasContexts (n + 1) a c
more_contexts n a b c has next = record {
  contexts = has.contexts ++ next.context ∷ [];
  counted = omega (arith, length-append has.contexts (next.context ∷ []), has.counted);
  read = subst (λ (fs : List Field). ReadsAll fs a c) (sym (context_fields-append has.contexts (next.context ∷ [])))
      (reads_append (context_fields has.contexts) (context_fields (next.context ∷ [])) a b c has.read next.read);
}

-- where more contexts stand than were read, one more stands behind these
next_context : (xs ys : List Context) (a b c : Cursor) → length xs < length ys → ReadsAll (context_fields xs) a b → ReadsAll (context_fields ys) a c
    → (d : Cursor) × IsContext b d
next_context [] [] a b c fewer here there = absurd (omega arith)
next_context [] (y ∷ ys) a b c fewer here there = (
  there.1.1.0,
  record {
    context = y;
    read = (there.0, (subst (λ (x : Cursor). Reads (ulong y.0) x there.0) (sym here) there.1.0, (there.1.1.0, (there.1.1.1.0, refl))));
  },
)
next_context (x ∷ xs) [] a b c fewer here there = absurd (omega arith)
next_context (x ∷ xs) (y ∷ ys) a b c fewer here there =
    let id = one_ulong_read x.0 y.0 a here.0 there.0 here.1.0 there.1.0 in
    let data_read : Reads (octets y.1) here.0 there.1.1.0 = subst (λ (z : Cursor). Reads (octets y.1) z there.1.1.0) (sym id.1) there.1.1.1.0 in
    let bytes = one_octets_read x.1 y.1 here.0 here.1.1.0 there.1.1.0 here.1.1.1.0 data_read in
    next_context xs ys here.1.1.0 b c (omega (arith, fewer)) here.1.1.1.1 (subst (λ (z : Cursor). ReadsAll (context_fields ys) z c) (sym bytes.1) there.1.1.1.1)

-- where the next context can't be read there aren't so many
pub no_more_contexts : (n count : ℕ) (a b : Cursor) → HasContexts n a b → n < count → ((after : Cursor) → IsContext b after → ⊥) → (after : Cursor)
    → HasContexts count a after → ⊥
no_more_contexts n count a b has fewer none after all =
    let next : (d : Cursor) × IsContext b d = next_context has.contexts all.contexts a b after (omega (arith, has.counted, all.counted)) has.read all.read in
    none next.0 next.1

-- so many contexts have one end
ends_once : (xs ys : List Context) (a b c : Cursor) → length xs ≡ length ys → ReadsAll (context_fields xs) a b → ReadsAll (context_fields ys) a c → b ≡ c
ends_once [] [] a b c same here there = here ∙ sym there
ends_once [] (y ∷ ys) a b c same here there = absurd (omega (arith, same))
ends_once (x ∷ xs) [] a b c same here there = absurd (omega (arith, same))
ends_once (x ∷ xs) (y ∷ ys) a b c same here there =
    let id = one_ulong_read x.0 y.0 a here.0 there.0 here.1.0 there.1.0 in
    let data_read : Reads (octets y.1) here.0 there.1.1.0 = subst (λ (z : Cursor). Reads (octets y.1) z there.1.1.0) (sym id.1) there.1.1.1.0 in
    let bytes = one_octets_read x.1 y.1 here.0 here.1.1.0 there.1.1.0 here.1.1.1.0 data_read in
    ends_once xs ys here.1.1.0 b c (omega (arith, same)) here.1.1.1.1 (subst (λ (z : Cursor). ReadsAll (context_fields ys) z c) (sym bytes.1) there.1.1.1.1)

-- an operation and its contexts are read in one way
pub one_newest_closing : (o p : List ℕ) (a b c : Cursor) → IsNewestClosing o a b → IsNewestClosing p a c → (o ≡ p) × (b ≡ c)
one_newest_closing o p a b c here there =
    let operation = one_text_read o p a here.read.0 there.read.0 here.read.1.0 there.read.1.0 in
    let count_read : Reads (ulong (length there.contexts)) here.read.0 there.read.1.1.0 =
    subst (λ (z : Cursor). Reads (ulong (length there.contexts)) z there.read.1.1.0) (sym operation.1) there.read.1.1.1.0 in
    let count = one_ulong_read (length here.contexts) (length there.contexts) here.read.0 here.read.1.1.0 there.read.1.1.0 here.read.1.1.1.0 count_read in (
      operation.0,
      ends_once here.contexts there.contexts here.read.1.1.0 b c count.0 here.read.1.1.1.1
          (subst (λ (z : Cursor). ReadsAll (context_fields there.contexts) z c) (sym count.1) there.read.1.1.1.1),
    )

-- the operation, the count and the contexts were read
pub closing_read : (operation : List ℕ) (count : ℕ) (a b c d : Cursor) → Reads (text operation) a b → Reads (ulong count) b c → HasContexts count c d
    → IsNewestClosing operation a d
closing_read operation count a b c d operation_read count_read has = record {
  contexts = has.contexts;
  read = (b, (operation_read, (c, (subst (λ (n : ℕ). Reads (ulong n) b c) (sym has.counted) count_read, has.read))));
}

-- no operation can be read, or no count behind it, or not so many contexts
pub no_operation : (a : Cursor) (fault : CdrFault) → Refuses Text a fault → (operation : List ℕ) (after : Cursor) → IsNewestClosing operation a after → ⊥
no_operation a fault refused operation after is = none_where_refused (text operation) a is.read.0 fault refused is.read.1.0

count_at : (o p : List ℕ) (a b after : Cursor) → Reads (text o) a b → (is : IsNewestClosing p a after) → Reads (ulong (length is.contexts)) b is.read.1.1.0
count_at o p a b after operation_read is =
    let operation = one_text_read o p a b is.read.0 operation_read is.read.1.0 in
    subst (λ (z : Cursor). Reads (ulong (length is.contexts)) z is.read.1.1.0) (sym operation.1) is.read.1.1.1.0

pub no_count : (o : List ℕ) (a b : Cursor) (fault : CdrFault) → Reads (text o) a b → Refuses ULong b fault → (operation : List ℕ) (after : Cursor)
    → IsNewestClosing operation a after → ⊥
no_count o a b fault operation_read refused operation after is =
    none_where_refused (ulong (length is.contexts)) b is.read.1.1.0 fault refused (count_at o operation a b after operation_read is)

pub no_contexts_behind : (o : List ℕ) (count : ℕ) (a b c : Cursor) → Reads (text o) a b → Reads (ulong count) b c
    → ((after : Cursor) → HasContexts count c after → ⊥) → (operation : List ℕ) (after : Cursor) → IsNewestClosing operation a after → ⊥
no_contexts_behind o count a b c operation_read count_read none operation after is =
    let counted = one_ulong_read count (length is.contexts) b c is.read.1.1.0 count_read (count_at o operation a b after operation_read is) in
    none after (record {
      contexts = is.contexts;
      counted = sym counted.0;
      read = subst (λ (z : Cursor). ReadsAll (context_fields is.contexts) z after) (sym counted.1) is.read.1.1.1.1;
    })

-- where the data of a context can't be read there is no context
pub no_data : (n : ℕ) (a b : Cursor) (fault : CdrFault) → Reads (ulong n) a b → Refuses Octets b fault → (after : Cursor) → IsContext a after → ⊥
no_data n a b fault id_read refused after is =
    let id = one_ulong_read n is.context.0 a b is.read.0 id_read is.read.1.0 in
    none_where_refused (octets is.context.1) b is.read.1.1.0 fault refused
    (subst (λ (z : Cursor). Reads (octets is.context.1) z is.read.1.1.0) (sym id.1) is.read.1.1.1.0)

-- the count and the contexts were read
pub contexts_read : (count : ℕ) (a b c : Cursor) → Reads (ulong count) a b → HasContexts count b c → IsContexts a c
contexts_read count a b c count_read has = record {
  contexts = has.contexts;
  read = (b, (subst (λ (n : ℕ). Reads (ulong n) a b) (sym has.counted) count_read, has.read));
}

-- no count can be read, or not so many contexts behind it
pub no_counted : (a : Cursor) (fault : CdrFault) → Refuses ULong a fault → (after : Cursor) → IsContexts a after → ⊥
no_counted a fault refused after is = none_where_refused (ulong (length is.contexts)) a is.read.0 fault refused is.read.1.0

pub no_contexts_counted : (count : ℕ) (a b : Cursor) → Reads (ulong count) a b → ((after : Cursor) → HasContexts count b after → ⊥) → (after : Cursor)
    → IsContexts a after → ⊥
no_contexts_counted count a b count_read none after is =
    let counted = one_ulong_read count (length is.contexts) a b is.read.0 count_read is.read.1.0 in
    none after (record {
      contexts = is.contexts;
      counted = sym counted.0;
      read = subst (λ (z : Cursor). ReadsAll (context_fields is.contexts) z after) (sym counted.1) is.read.1.1;
    })

-- the contexts with their count have one end
pub one_contexts : (a b c : Cursor) → IsContexts a b → IsContexts a c → b ≡ c
one_contexts a b c here there =
    let count = one_ulong_read (length here.contexts) (length there.contexts) a here.read.0 there.read.0 here.read.1.0 there.read.1.0 in
    ends_once here.contexts there.contexts here.read.0 b c count.0 here.read.1.1
    (subst (λ (z : Cursor). ReadsAll (context_fields there.contexts) z c) (sym count.1) there.read.1.1)

-- what holds after a refusal holds of another statement that it gives
pub on_err_then : {T E : Type 0} (r : Result T E) (P Q : Type 0) → (P → Q) → OnErr r P → OnErr r Q
on_err_then (Ok x) P Q f p = tt
on_err_then (Err e) P Q f p = f p

-- A cursor that goes on keeps its byte order.
use Rattle.std.proofs.Common.{◌≡◌, ℕ, Bool, true, false, List, [], ◌∷◌, length, ap, ◌∙◌}
use Rattle.cdr_core.specs.Field.{Field, ulong, octets}
use Rattle.cdr_core.specs.Cursor.{Cursor, Reads}
use Rattle.giop_msg.specs.Fields.{ReadsAll}
use Rattle.giop_msg.specs.Contexts.{Context, context_fields, IsContexts}
use Rattle.giop_msg.specs.Version.{ByVersion, is_newest}
use Rattle.giop_client.specs.Reply.{IsTold, NewHead, OldHead, IsHead}

goes_both : (a b c : Cursor) → b.little ≡ a.little → c.little ≡ b.little → c.little ≡ a.little
goes_both a b c x y = y ∙ x

reads_on : (f : Field) (a b : Cursor) → Reads f a b → b.little ≡ a.little
reads_on f a b r = r.passed.order

contexts_on : (xs : List Context) (a b : Cursor) → ReadsAll (context_fields xs) a b → b.little ≡ a.little
contexts_on [] a b r = ap (λ (c : Cursor). c.little) r
contexts_on (x ∷ xs) a b r =
    goes_both a r.0 b (reads_on (ulong x.0) a r.0 r.1.0)
    (goes_both r.0 r.1.1.0 b (reads_on (octets x.1) r.0 r.1.1.0 r.1.1.1.0) (contexts_on xs r.1.1.0 b r.1.1.1.1))

told_on : (id number : ℕ) (a b : Cursor) → IsTold id number a b → b.little ≡ a.little
told_on id number a b is =
    goes_both a is.behind b (reads_on (ulong id) a is.behind is.id_read) (reads_on (ulong number) is.behind b is.status_read)

all_on : (a b : Cursor) → IsContexts a b → b.little ≡ a.little
all_on a b are =
    goes_both a are.read.0 b (reads_on (ulong (length are.contexts)) a are.read.0 are.read.1.0)
    (contexts_on are.contexts are.read.0 b are.read.1.1)

head_on_by : (is_new : Bool) (id number : ℕ) (a b : Cursor) → ByVersion is_new (NewHead id number a b) (OldHead id number a b) → b.little ≡ a.little
head_on_by true id number a b head =
    goes_both a head.behind b (told_on id number a head.behind head.told) (all_on head.behind b head.contexts)
head_on_by false id number a b head =
    goes_both a head.behind b (all_on a head.behind head.contexts) (told_on id number head.behind b head.told)

pub head_on : (minor id number : ℕ) (a b : Cursor) → IsHead minor id number a b → b.little ≡ a.little
head_on minor id number a b head = head_on_by (is_newest minor) id number a b head

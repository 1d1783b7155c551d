-- The fields of a Request behind its target, by the version.
use Rattle.std.proofs.Common.{◌≡◌, ℕ, true, false, List, [], ◌∷◌, refl, sym, subst}
use Rattle.cdr_core.specs.declared.CdrFault.{CdrFault}
use Rattle.cdr_core.specs.Kind.{Text, Octets}
use Rattle.cdr_core.specs.Field.{text, octets}
use Rattle.cdr_core.specs.Cursor.{Cursor, Reads}
use Rattle.cdr_core.specs.Refusal.{Refuses}
use Rattle.cdr_core.proofs.Refusals.{none_where_refused}
use Rattle.giop_msg.specs.Request.{principal_fields, IsNewestClosing, IsEarlierClosing, IsClosing}
use Rattle.giop_msg.specs.Version.{is_newest, ByVersion}
use Rattle.giop_msg.proofs.Fields.{one_reading_of_all, stuck}
use Rattle.giop_msg.proofs.ContextFields.{one_newest_closing}

same_name : (o p x y : List ℕ) → principal_fields o x ≡ principal_fields p y → o ≡ p
same_name o p x y fields = cc

one_earlier_closing : (o p : List ℕ) (a b c : Cursor) → IsEarlierClosing o a b → IsEarlierClosing p a c → (o ≡ p) × (b ≡ c)
one_earlier_closing o p a b c here there =
    let one = one_reading_of_all (principal_fields o here.principal) (principal_fields p there.principal) a b c refl here.read there.read in
    (same_name o p here.principal there.principal one.0, one.1)

pub one_closing : (minor : ℕ) (o p : List ℕ) (a b c : Cursor) → IsClosing minor o a b → IsClosing minor p a c → (o ≡ p) × (b ≡ c)
one_closing minor o p a b c =
    elim (is_newest minor) as (λ v. ByVersion v (IsNewestClosing o a b) (IsEarlierClosing o a b)
    → ByVersion v (IsNewestClosing p a c) (IsEarlierClosing p a c) → (o ≡ p) × (b ≡ c)) [
      | true ↦ one_newest_closing o p a b c
      | false ↦ one_earlier_closing o p a b c
    ]

-- no operation can be read, or no principal behind it
pub no_earlier_operation : (a : Cursor) (fault : CdrFault) → Refuses Text a fault → (operation : List ℕ) (after : Cursor) → IsEarlierClosing operation a after
    → ⊥
no_earlier_operation a fault refused operation after is = none_where_refused (text operation) a is.read.0 fault refused is.read.1.0

pub no_principal : (o : List ℕ) (a b : Cursor) (fault : CdrFault) → Reads (text o) a b → Refuses Octets b fault → (operation : List ℕ) (after : Cursor)
    → IsEarlierClosing operation a after → ⊥
no_principal o a b fault name refused operation after is =
    stuck (text o ∷ []) (principal_fields operation is.principal) Octets [] a b after fault refl (b, (name, refl)) refused is.read

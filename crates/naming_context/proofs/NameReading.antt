-- Names that are read: the one name that stands at a place, or none.
use Rattle.std.proofs.Common.{◌≡◌, ◌≢◌, ℕ, ◌+◌, ◌<◌, List, [], ◌∷◌, ◌++◌, length, ◌⊎◌, inl, inr, refl, sym, ap, subst, arith, length-append}
use Rattle.cdr_core.specs.declared.CdrFault.{CdrFault}
use Rattle.cdr_core.specs.declared.CdrFault.TheVariants.{WantMemory}
use Rattle.cdr_core.specs.Kind.{Text, ULong}
use Rattle.cdr_core.specs.Field.{Field, ulong, text}
use Rattle.cdr_core.specs.Cursor.{Cursor, Reads}
use Rattle.cdr_core.specs.Refusal.{Refuses}
use Rattle.cdr_core.proofs.OneReading.{one_ulong_read}
use Rattle.cdr_core.proofs.Refusals.{none_where_refused}
use Rattle.giop_msg.specs.Fields.{ReadsAll}
use Rattle.giop_msg.proofs.Fields.{one_reading_of_all, reads_append, reads_split, stuck}
use Rattle.naming_context.specs.declared.component.Component.{Component}
use Rattle.naming_context.specs.Names.{component_fields, components_fields, name_fields}
use Rattle.naming_context.specs.Reading.{NoComponent, NoComponents, NoName}

-- unless it was memory that lacked, a refusal stands
pub refused_so : (P : Type 0) (fault : CdrFault) → (fault ≡ WantMemory) ⊎ P → fault ≢ WantMemory → P
refused_so P fault either not_memory = elim either [ inl memory ↦ absurd (not_memory memory) | inr refused ↦ refused ]

pub no_id : (a : Cursor) (fault : CdrFault) → (fault ≡ WantMemory) ⊎ Refuses Text a fault → fault ≢ WantMemory → NoComponent a
no_id a fault either not_memory x after read =
    none_where_refused (text x.id) a read.0 fault (refused_so (Refuses Text a fault) fault either not_memory) read.1.0

pub no_kind : (id : List ℕ) (a b : Cursor) (fault : CdrFault) → Reads (text id) a b → (fault ≡ WantMemory) ⊎ Refuses Text b fault
    → fault ≢ WantMemory → NoComponent a
no_kind id a b fault id_read either not_memory x after read =
    stuck (text id ∷ []) (component_fields x) Text [] a b after fault refl (b, (id_read, refl))
    (refused_so (Refuses Text b fault) fault either not_memory) read

pub component_read : (x : Component) (a b c : Cursor) → Reads (text x.id) a b → Reads (text x.kind) b c → ReadsAll (component_fields x) a c
component_read x a b c id kind = (b, (id, (c, (kind, refl))))

pub components_fields-append : (xs ys : List Component) → components_fields (xs ++ ys) ≡ components_fields xs ++ components_fields ys
components_fields-append [] ys = refl
components_fields-append (x ∷ xs) ys = ap (λ (fs : List Field). text x.id ∷ text x.kind ∷ fs) (components_fields-append xs ys)

-- so many components were read
pub record HasRead (n : ℕ) (name : List Component) (before after : Cursor) : Type 0 where
  pub counted : length name ≡ n
  pub read : ReadsAll (components_fields name) before after

pub none_read : (c : Cursor) → HasRead 0 [] c c
none_read c = record { counted = refl; read = refl }

one_more_read : (n : ℕ) (name : List Component) (x : Component) (a b c : Cursor) → HasRead n name a b → ReadsAll (component_fields x) b c
    → HasRead (n + 1) (name ++ x ∷ []) a c
one_more_read n name x a b c has next = record {
  counted = omega (arith, length-append name (x ∷ []), has.counted);
  read = subst (λ (fs : List Field). ReadsAll fs a c) (sym (components_fields-append name (x ∷ [])))
      (reads_append (components_fields name) (components_fields (x ∷ [])) a b c has.read next);
}

pub pushed_read : (n : ℕ) (name longer : List Component) (x : Component) (a b c : Cursor) → HasRead n name a b → ReadsAll (component_fields x) b c
    → longer ≡ name ++ x ∷ [] → HasRead (n + 1) longer a c
pushed_read n name longer x a b c has next is =
    subst (λ (l : List Component). HasRead (n + 1) l a c) (sym is) (one_more_read n name x a b c has next)

-- where more components stand than were read, one more stands behind these
next_component : (xs ys : List Component) (a b c : Cursor) → length xs < length ys → ReadsAll (components_fields xs) a b
    → ReadsAll (components_fields ys) a c → (x : Component) × ((d : Cursor) × ReadsAll (component_fields x) b d)
next_component [] [] a b c fewer here there = absurd (omega arith)
next_component [] (y ∷ ys) a b c fewer here there =
    let parts = reads_split (component_fields y) (components_fields ys) a c there in
    (y, (parts.0, subst (λ (z : Cursor). ReadsAll (component_fields y) z parts.0) (sym here) parts.1.0))
next_component (x ∷ xs) [] a b c fewer here there = absurd (omega arith)
next_component (x ∷ xs) (y ∷ ys) a b c fewer here there =
    let first = reads_split (component_fields x) (components_fields xs) a b here in
    let other = reads_split (component_fields y) (components_fields ys) a c there in
    let one = one_reading_of_all (component_fields x) (component_fields y) a first.0 other.0 refl first.1.0 other.1.0 in
    next_component xs ys first.0 b c (omega (arith, fewer)) first.1.1
    (subst (λ (z : Cursor). ReadsAll (components_fields ys) z c) (sym one.1) other.1.1)

-- where the next component can't be read there aren't so many
pub no_more : (n count : ℕ) (name : List Component) (a b : Cursor) → HasRead n name a b → n < count → NoComponent b → NoComponents count a
no_more n count name a b has fewer none other after counted read =
    let next = next_component name other a b after (omega (arith, has.counted, counted, fewer)) has.read read in
    none next.0 next.1.0 next.1.1

pub name_read : (name : List Component) (count : ℕ) (a b c : Cursor) → Reads (ulong count) a b → length name ≡ count
    → ReadsAll (components_fields name) b c → ReadsAll (name_fields name) a c
name_read name count a b c count_read counted read = (b, (subst (λ (n : ℕ). Reads (ulong n) a b) (sym counted) count_read, read))

pub no_count : (a : Cursor) (fault : CdrFault) → Refuses ULong a fault → NoName a
no_count a fault refused name is = none_where_refused (ulong (length name)) a is.read.0 fault refused is.read.1.0

pub no_components : (count : ℕ) (a b : Cursor) → Reads (ulong count) a b → NoComponents count b → NoName a
no_components count a b count_read none name is =
    let one = one_ulong_read count (length name) a b is.read.0 count_read is.read.1.0 in
    none name is.after (sym one.0) (subst (λ (z : Cursor). ReadsAll (components_fields name) z is.after) (sym one.1) is.read.1.1)

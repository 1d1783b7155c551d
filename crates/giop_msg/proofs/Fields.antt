-- Fields that are read one behind the other: there is one reading of given kinds, and none through a refused field.
use Rattle.std.proofs.Common.{◌≡◌, List, [], ◌∷◌, ◌++◌, refl, sym, ap, ◌∙◌, subst}
use Rattle.cdr_core.specs.declared.CdrFault.{CdrFault}
use Rattle.cdr_core.specs.Kind.{Kind}
use Rattle.cdr_core.specs.Field.{Field, kind_of}
use Rattle.cdr_core.specs.Cursor.{Cursor}
use Rattle.cdr_core.specs.Refusal.{Refuses}
use Rattle.cdr_core.proofs.OneReading.{one_reading}
use Rattle.cdr_core.proofs.Refusals.{none_where_refused}
use Rattle.giop_msg.specs.Fields.{ReadsAll}

-- the kinds of fields
abbrev pub kinds_of : List Field → List Kind
kinds_of [] = []
kinds_of (field ∷ fields) = kind_of field ∷ kinds_of fields

-- what was read up to a refused field is the start of no whole reading
pub stuck : (read others : List Field) (kind : Kind) (kinds : List Kind) (before after last : Cursor) (fault : CdrFault)
    → kinds_of others ≡ kinds_of read ++ kind ∷ kinds → ReadsAll read before after → Refuses kind after fault → ReadsAll others before last → ⊥
stuck [] [] kind kinds before after last fault same here refused there = cc
stuck [] (g ∷ gs) kind kinds before after last fault same here refused there =
    let e : kind ≡ kind_of g = cc in
    let at_start : Refuses kind before fault = subst (λ (c : Cursor). Refuses kind c fault) here refused in
    none_where_refused g before there.0 fault (subst (λ (k : Kind). Refuses k before fault) e at_start) there.1.0
stuck (f ∷ fs) [] kind kinds before after last fault same here refused there = cc
stuck (f ∷ fs) (g ∷ gs) kind kinds before after last fault same here refused there =
    let first : kind_of f ≡ kind_of g = cc in
    let later : kinds_of gs ≡ kinds_of fs ++ kind ∷ kinds = cc in
    let one : (f ≡ g) × (here.0 ≡ there.0) = one_reading f g before here.0 there.0 first here.1.0 there.1.0 in
    stuck fs gs kind kinds here.0 after last fault later here.1.1 refused (subst (λ (c : Cursor). ReadsAll gs c last) (sym one.1) there.1.1)

-- two readings of the same kinds are one
pub one_reading_of_all : (xs ys : List Field) (before a b : Cursor) → kinds_of xs ≡ kinds_of ys → ReadsAll xs before a → ReadsAll ys before b → (xs ≡ ys)
    × (a ≡ b)
one_reading_of_all [] [] before a b same here there = (refl, here ∙ sym there)
one_reading_of_all [] (y ∷ ys) before a b same here there = absurd (cc)
one_reading_of_all (x ∷ xs) [] before a b same here there = absurd (cc)
one_reading_of_all (x ∷ xs) (y ∷ ys) before a b same here there =
    let first : kind_of x ≡ kind_of y = cc in
    let later : kinds_of xs ≡ kinds_of ys = cc in
    let one : (x ≡ y) × (here.0 ≡ there.0) = one_reading x y before here.0 there.0 first here.1.0 there.1.0 in
    let rest : (xs ≡ ys) × (a ≡ b) = one_reading_of_all xs ys here.0 a b later here.1.1 (subst (λ (c : Cursor). ReadsAll ys c b) (sym one.1) there.1.1) in
    (ap (λ (f : Field). f ∷ xs) one.0 ∙ ap (λ (fs : List Field). y ∷ fs) rest.0, rest.1)

-- readings follow one another
pub reads_append : (xs ys : List Field) (a b c : Cursor) → ReadsAll xs a b → ReadsAll ys b c → ReadsAll (xs ++ ys) a c
reads_append [] ys a b c first next = subst (λ (x : Cursor). ReadsAll ys x c) first next
reads_append (x ∷ xs) ys a b c first next = (first.0, (first.1.0, reads_append xs ys first.0 b c first.1.1 next))

-- and part again
pub reads_split : (xs ys : List Field) (a c : Cursor) → ReadsAll (xs ++ ys) a c → (b : Cursor) × (ReadsAll xs a b × ReadsAll ys b c)
reads_split [] ys a c all = (a, (refl, all))
reads_split (x ∷ xs) ys a c all =
    let later = reads_split xs ys all.0 c all.1.1 in
    (later.0, ((all.0, (all.1.0, later.1.0)), later.1.1))

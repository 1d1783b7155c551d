-- Arguments that are read, or can't be.
use Rattle.std.proofs.Common.{◌≡◌, ◌≢◌, List, [], ◌∷◌, length, ◌⊎◌, inl, inr, refl, sym, ap, subst, arith}
use Rattle.cdr_core.specs.declared.CdrFault.{CdrFault}
use Rattle.cdr_core.specs.declared.CdrFault.TheVariants.{WantMemory}
use Rattle.cdr_core.specs.Kind.{Kind, Text, ULong}
use Rattle.cdr_core.specs.Field.{text}
use Rattle.cdr_core.specs.Cursor.{Cursor}
use Rattle.cdr_core.specs.Refusal.{Refuses}
use Rattle.cdr_core.proofs.OneReading.{one_ulong_read}
use Rattle.cdr_core.proofs.Refusals.{none_where_refused}
use Rattle.ior_text.specs.Breaking.{StopsBy}
use Rattle.ior_text.specs.ReferenceFields.{ReadsIor, IorBreaks}
use Rattle.ior_text.proofs.OneReading.{ior_stands}
use Rattle.giop_msg.specs.Fields.{ReadsAll}
use Rattle.giop_msg.proofs.Fields.{kinds_of, one_reading_of_all}
use Rattle.naming_context.specs.declared.asked.Asked.{Asked}
use Rattle.naming_context.specs.declared.component.Component.{Component}
use Rattle.naming_context.specs.declared.operation.Operation.{Operation}
use Rattle.naming_context.specs.declared.operation.Operation.TheVariants as op
use Rattle.naming_context.specs.Names.{components_fields, name_fields}
use Rattle.naming_context.specs.Asking.{ReadsAsked}
use Rattle.naming_context.specs.Reading.{NoBoth, NoName, NoType}
use Rattle.naming_context.proofs.NameReading.{refused_so}

same_kinds : (xs ys : List Component) → length xs ≡ length ys → kinds_of (components_fields xs) ≡ kinds_of (components_fields ys)
same_kinds [] [] same = refl
same_kinds [] (y ∷ ys) same = absurd (omega (arith, same))
same_kinds (x ∷ xs) [] same = absurd (omega (arith, same))
same_kinds (x ∷ xs) (y ∷ ys) same = ap (λ (ks : List Kind). Text ∷ Text ∷ ks) (same_kinds xs ys (omega (arith, same)))

-- a name has one end
one_end : (xs ys : List Component) (c a b : Cursor) → ReadsAll (name_fields xs) c a → ReadsAll (name_fields ys) c b → a ≡ b
one_end xs ys c a b here there =
    let count = one_ulong_read (length xs) (length ys) c here.0 there.0 here.1.0 there.1.0 in
    (one_reading_of_all (name_fields xs) (name_fields ys) c a b (ap (λ (ks : List Kind). ULong ∷ ks) (same_kinds xs ys count.0)) here there).1

-- behind a name no reference stands
pub no_object : (name : List Component) (a b at : Cursor) (fault : CdrFault) → ReadsAll (name_fields name) a b → StopsBy (IorBreaks b) at fault
    → fault ≢ WantMemory → NoBoth a
no_object name a b at fault name_read (inl memory) not_memory other object is = not_memory memory
no_object name a b at fault name_read (inr breaks) not_memory other object is =
    ior_stands object b is.after at.place
    (subst (λ (z : Cursor). ReadsIor object z is.after) (sym (one_end name other a b is.behind name_read is.name_read)) is.object_read) breaks

-- no name stands there
pub no_name_of_both : (a : Cursor) → NoName a → NoBoth a
no_name_of_both a none name object is = none name (record { after = is.behind; read = is.name_read })

pub no_type : (a : Cursor) (fault : CdrFault) → (fault ≡ WantMemory) ⊎ Refuses Text a fault → fault ≢ WantMemory → NoType a
no_type a fault either not_memory type_id is =
    none_where_refused (text type_id) a is.after fault (refused_so (Refuses Text a fault) fault either not_memory) is.read

pub no_type_read : (a start : Cursor) (fault : CdrFault) → start ≡ a → (fault ≡ WantMemory) ⊎ Refuses Text start fault → fault ≢ WantMemory → NoType a
no_type_read a start fault is either = subst (λ (c : Cursor). fault ≢ WantMemory → NoType c) is (no_type start fault either)

-- the same of a reader that was put at the front of a body
pub no_name_of_both_read : (a start : Cursor) (fault : CdrFault) → start ≡ a → (fault ≢ WantMemory → NoName start) → fault ≢ WantMemory → NoBoth a
no_name_of_both_read a start fault is none not_memory = no_name_of_both a (subst (λ (c : Cursor). NoName c) is (none not_memory))

pub no_object_read : (name : List Component) (a start b at : Cursor) (fault : CdrFault) → start ≡ a → ReadsAll (name_fields name) start b
    → StopsBy (IorBreaks b) at fault → fault ≢ WantMemory → NoBoth a
no_object_read name a start b at fault is name_read stops not_memory =
    subst (λ (c : Cursor). NoBoth c) is (no_object name start b at fault name_read stops not_memory)

pub no_name_read : (a start : Cursor) (fault : CdrFault) → start ≡ a → (fault ≢ WantMemory → NoName start) → fault ≢ WantMemory → NoName a
no_name_read a start fault is none not_memory = subst (λ (c : Cursor). NoName c) is (none not_memory)

-- where the arguments of an operation can't be read nothing is asked
module _ (o : Operation) (a : Cursor) (fault : CdrFault) where
  pub unbound : o ≡ op.Bind → (fault ≢ WantMemory → NoBoth a) → fault ≢ WantMemory → (what : Asked) → ReadsAsked o a what → ⊥
  unbound is none not_memory what reads =
      let r = subst (λ (p : Operation). ReadsAsked p a what) is reads in none not_memory r.name r.object r.read

  pub unrebound : o ≡ op.Rebind → (fault ≢ WantMemory → NoBoth a) → fault ≢ WantMemory → (what : Asked) → ReadsAsked o a what → ⊥
  unrebound is none not_memory what reads =
      let r = subst (λ (p : Operation). ReadsAsked p a what) is reads in none not_memory r.name r.object r.read

  pub unresolved : o ≡ op.Resolve → (fault ≢ WantMemory → NoName a) → fault ≢ WantMemory → (what : Asked) → ReadsAsked o a what → ⊥
  unresolved is none not_memory what reads = let r = subst (λ (p : Operation). ReadsAsked p a what) is reads in none not_memory r.name r.read

  pub ununbound : o ≡ op.Unbind → (fault ≢ WantMemory → NoName a) → fault ≢ WantMemory → (what : Asked) → ReadsAsked o a what → ⊥
  ununbound is none not_memory what reads = let r = subst (λ (p : Operation). ReadsAsked p a what) is reads in none not_memory r.name r.read

  pub unmade : o ≡ op.BindNewContext → (fault ≢ WantMemory → NoName a) → fault ≢ WantMemory → (what : Asked) → ReadsAsked o a what → ⊥
  unmade is none not_memory what reads = let r = subst (λ (p : Operation). ReadsAsked p a what) is reads in none not_memory r.name r.read

  pub untyped : o ≡ op.IsA → (fault ≢ WantMemory → NoType a) → fault ≢ WantMemory → (what : Asked) → ReadsAsked o a what → ⊥
  untyped is none not_memory what reads = let r = subst (λ (p : Operation). ReadsAsked p a what) is reads in none not_memory r.type_id r.read

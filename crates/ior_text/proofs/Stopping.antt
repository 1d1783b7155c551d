-- Where CDR refuses a field reading stops, and the reader is left there.
use Rattle.std.proofs.Common.{◌≡◌, sym, ap, subst, ◌⊎◌, inl, inr}
use Rattle.cdr_core.specs.declared.CdrFault.{CdrFault}
use Rattle.cdr_core.specs.declared.CdrFault.TheVariants.{WantMemory}
use Rattle.cdr_core.specs.Kind.{Kind, Text}
use Rattle.cdr_core.specs.Cursor.{Cursor}
use Rattle.cdr_core.specs.Refusal.{Refuses}
use Rattle.cdr_core.proofs.Refusals.{none_where_refused}
use Rattle.ior_text.specs.Breaking.{Breaks, StopsBy}
use Rattle.ior_text.specs.ReferenceFields.{IorBreaks}

pub breaks_where_refused : (kind : Kind) (c after : Cursor) (fault : CdrFault) → after ≡ c → Refuses kind c fault → Breaks kind c after.place
breaks_where_refused kind c after fault left refused = record {
  unreadable = λ field behind is reads. none_where_refused field c behind fault (subst (λ (k : Kind). Refuses k c fault) (sym is) refused) reads;
  begins = ap (λ (x : Cursor). x.place) left;
}

-- a reference without a type id that can be read
pub no_type_id : (c after : Cursor) (fault : CdrFault) → after ≡ c → ((fault ≡ WantMemory) ⊎ Refuses Text c fault) → StopsBy (IorBreaks c) after fault
no_type_id c after fault left (inl memory) = inl memory
no_type_id c after fault left (inr refused) = inr (inl (breaks_where_refused Text c after fault left refused))

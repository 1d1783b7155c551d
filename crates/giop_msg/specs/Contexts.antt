-- Service contexts: CORBA 3.3 Part 2, 9.4.2.
use Rattle.std.specs.Prelude.{ℕ, List, [], ◌∷◌, length}
use Rattle.cdr_core.specs.Field.{Field, ulong, octets}
use Rattle.cdr_core.specs.Cursor.{Cursor}
use Rattle.giop_msg.specs.Fields.{ReadsAll}

-- a service context: its id and its data
abbrev pub Context : Type 0
Context = ℕ × List ℕ

-- the fields of service contexts, behind their count
abbrev pub context_fields : List Context → List Field
context_fields [] = []
context_fields (context ∷ contexts) = ulong context.0 ∷ octets context.1 ∷ context_fields contexts

-- the fields of service contexts with their count
abbrev pub counted_contexts : List Context → List Field
counted_contexts contexts = ulong (length contexts) ∷ context_fields contexts

-- some service contexts with their count: any will do
pub record IsContexts (before after : Cursor) : Type 0 where
  pub contexts : List Context
  pub read : ReadsAll (counted_contexts contexts) before after

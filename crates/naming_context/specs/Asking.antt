-- What a context is asked, by the arguments that stand in the body of a request. Bytes behind them are ignored.
use Rattle.std.specs.Prelude.{◌≡◌, ℕ, ◌%◌, List}
use Rattle.cdr_core.specs.Field.{text}
use Rattle.cdr_core.specs.Cursor.{Cursor, Reads}
use Rattle.poa_base.specs.declared.Body.{Body}
use Rattle.poa_base.specs.declared.Ior.{Ior}
use Rattle.ior_text.specs.ReferenceFields.{ReadsIor}
use Rattle.giop_msg.specs.Fields.{ReadsAll}
use Rattle.naming_context.specs.declared.component.Component.{Component}
use Rattle.naming_context.specs.declared.asked.Asked.{Asked}
use Rattle.naming_context.specs.declared.asked.Asked.TheVariants as asked
use Rattle.naming_context.specs.declared.operation.Operation.{Operation}
use Rattle.naming_context.specs.declared.operation.Operation.TheVariants as op
use Rattle.naming_context.specs.Names.{name_fields}

-- where the arguments begin. Alignment goes by the place in the message, of which what is left by 8 is enough
abbrev pub body_start : Body → Cursor
body_start body = record { little = body.little; place = body.base % 8; rest = body.bytes }

-- a name stands there
pub record ReadsName (start : Cursor) (name : List Component) : Type 0 where
  pub after : Cursor
  pub read : ReadsAll (name_fields name) start after

-- a name and a reference
pub record ReadsBoth (start : Cursor) (name : List Component) (object : Ior) : Type 0 where
  pub behind : Cursor
  pub after : Cursor
  pub name_read : ReadsAll (name_fields name) start behind
  pub object_read : ReadsIor object behind after

-- a type id
pub record ReadsType (start : Cursor) (type_id : List ℕ) : Type 0 where
  pub after : Cursor
  pub read : Reads (text type_id) start after

-- an operation whose argument is a name asks this
pub record AsksByName (made : List Component → Asked) (start : Cursor) (what : Asked) : Type 0 where
  pub name : List Component
  pub read : ReadsName start name
  pub is : what ≡ made name

pub record AsksByBoth (made : List Component → Ior → Asked) (start : Cursor) (what : Asked) : Type 0 where
  pub name : List Component
  pub object : Ior
  pub read : ReadsBoth start name object
  pub is : what ≡ made name object

pub record AsksType (start : Cursor) (what : Asked) : Type 0 where
  pub type_id : List ℕ
  pub read : ReadsType start type_id
  pub is : what ≡ asked.IsA type_id

-- an operation with the arguments that stand there asks this
abbrev pub ReadsAsked : Operation → Cursor → Asked → Type 0
ReadsAsked op.Bind start what = AsksByBoth asked.Bind start what
ReadsAsked op.Rebind start what = AsksByBoth asked.Rebind start what
ReadsAsked op.Resolve start what = AsksByName asked.Resolve start what
ReadsAsked op.Unbind start what = AsksByName asked.Unbind start what
ReadsAsked op.BindNewContext start what = AsksByName asked.BindNewContext start what
ReadsAsked op.IsA start what = AsksType start what
ReadsAsked op.NonExistent start what = what ≡ asked.NonExistent

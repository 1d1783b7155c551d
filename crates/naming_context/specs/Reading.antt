-- What can't be read: the words of the contracts inside the crate.
use Rattle.std.specs.Prelude.{◌≡◌, ℕ, List, length}
use Rattle.cdr_core.specs.Cursor.{Cursor}
use Rattle.poa_base.specs.declared.Ior.{Ior}
use Rattle.giop_msg.specs.Fields.{ReadsAll}
use Rattle.naming_context.specs.declared.component.Component.{Component}
use Rattle.naming_context.specs.Names.{component_fields, components_fields}
use Rattle.naming_context.specs.Asking.{ReadsBoth, ReadsName, ReadsType}

-- no component stands there
abbrev pub NoComponent : Cursor → Type 0
NoComponent start = (x : Component) (after : Cursor) → ReadsAll (component_fields x) start after → ⊥

-- not so many components
abbrev pub NoComponents : ℕ → Cursor → Type 0
NoComponents count start = (name : List Component) (after : Cursor) → length name ≡ count → ReadsAll (components_fields name) start after → ⊥

-- no name
abbrev pub NoName : Cursor → Type 0
NoName start = (name : List Component) → ReadsName start name → ⊥

-- no name with a reference behind it
abbrev pub NoBoth : Cursor → Type 0
NoBoth start = (name : List Component) (object : Ior) → ReadsBoth start name object → ⊥

-- no type id
abbrev pub NoType : Cursor → Type 0
NoType start = (type_id : List ℕ) → ReadsType start type_id → ⊥

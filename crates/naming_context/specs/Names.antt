-- Names as fields (CosNaming, `Name`): the count of the components, and of each its id and its kind.
use Rattle.std.specs.Prelude.{List, [], ◌∷◌, ◌&&◌, Bool, nat_le, length}
use Rattle.std.specs.List.{flat_map, list_all}
use Rattle.cdr_core.specs.Field.{Field, ulong, text}
use Rattle.naming_context.specs.declared.component.Component.{Component}

abbrev pub component_fields : Component → List Field
component_fields x = text x.id ∷ text x.kind ∷ []

abbrev pub components_fields : List Component → List Field
components_fields name = flat_map component_fields name

abbrev pub name_fields : List Component → List Field
name_fields name = ulong (length name) ∷ components_fields name

-- an id and a kind have at most 255 bytes
abbrev pub is_component : Component → Bool
is_component x = nat_le (length x.id) 255 && nat_le (length x.kind) 255

-- a name has 1 to 64 components
abbrev pub is_name : List Component → Bool
is_name name = nat_le 1 (length name) && nat_le (length name) 64 && list_all is_component name

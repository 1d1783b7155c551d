-- Fields that are written one behind the other.
use Rattle.std.specs.Prelude.{List, [], ◌∷◌}
use Rattle.cdr_core.specs.Field.{Field}
use Rattle.cdr_core.specs.Draft.{Draft, with_field}

-- fields one behind the other follow what stood there
abbrev pub with_fields : List Field → Draft → Draft
with_fields [] d = d
with_fields (field ∷ fields) d = with_fields fields (with_field field d)

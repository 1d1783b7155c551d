-- The ids of objects, noted one after another.
use Rattle.std.specs.Prelude.{ℕ, List, Option, Some, None}
use Rattle.conf_fields.specs.Numbers.{Find, noted}
use Rattle.conf_toml.specs.Objects.{id_text}

-- one more object's id, if it has one
abbrev pub noted_id : List ℕ → Option (List ℕ) → Find → Find
noted_id path None f = f
noted_id path (Some id) f = noted (id_text path id) 0 f

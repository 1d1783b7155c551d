-- What an object of the outside tells of its content: `Some` of it, or `None` where it tells nothing.
use Rattle.std.specs.Prelude.{Option, Some, None, ⊤}

-- the content before and after is told and so related, or is never told
abbrev pub IfTold : {A : Type 0} → Option A → Option A → (A → A → Type 0) → Type 0
IfTold None None P = ⊤
IfTold (Some old) (Some new) P = P old new
IfTold None (Some new) P = ⊥
IfTold (Some old) None P = ⊥

-- What the parts of a reading say: the words of the contracts inside the crate.
use Rattle.std.specs.Prelude.{◌≡◌, ℕ, List, [], ◌∷◌, Option, length}
use Rattle.cdr_core.specs.Cursor.{Cursor}
use Rattle.poa_base.specs.declared.Call.{Call}
use Rattle.giop_msg.specs.Fields.{ReadsAll}
use Rattle.giop_msg.specs.Target.{IsTarget, IsAddress, IsAddressed}
use Rattle.giop_msg.specs.Contexts.{Context, context_fields}
use Rattle.giop_msg.specs.Call.{MakesCall}

-- no target stands at the cursor, and no address of a disposition
abbrev pub NoTarget : Cursor → Type 0
NoTarget before = (target : Option (List ℕ)) (after : Cursor) → IsTarget target before after → ⊥

abbrev pub NoneAddressed : ℕ → Cursor → Type 0
NoneAddressed minor before = (target : Option (List ℕ)) (after : Cursor) → IsAddressed minor target before after → ⊥

abbrev pub NoAddress : ℕ → Cursor → Type 0
NoAddress disposition before = (target : Option (List ℕ)) (after : Cursor) → IsAddress disposition target before after → ⊥

-- the message makes no call
abbrev pub NoCall : List ℕ → Type 0
NoCall bytes = (call : Call) → MakesCall bytes call → ⊥

-- one service context, which isn't kept
pub record IsContext (before after : Cursor) : Type 0 where
  pub context : Context
  pub read : ReadsAll (context_fields (context ∷ [])) before after

-- so many service contexts
pub record HasContexts (count : ℕ) (before after : Cursor) : Type 0 where
  pub contexts : List Context
  pub counted : length contexts ≡ count
  pub read : ReadsAll (context_fields contexts) before after

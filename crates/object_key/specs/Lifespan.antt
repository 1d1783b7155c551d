-- The lifespan of a key that is read, with what goes with it.
use Rattle.std.specs.Prelude.{◌≡◌, ℕ, ◌<◌, ◌^◌, List, Option, Some, None, IfSome}
use Rattle.poa_base.specs.declared.Stamp.{Stamp}
use Rattle.object_key.specs.Spelling.{lifespan_bytes, IsStamp}
use Rattle.object_key.specs.declared.key_lifespan.KeyLifespan.{KeyLifespan}
use Rattle.object_key.specs.declared.key_lifespan.KeyLifespan.TheVariants.{Transient, Persistent}

-- the stamp of a transient key
abbrev pub stamp_in : KeyLifespan → Option Stamp
stamp_in (Transient stamp) = Some stamp
stamp_in (Persistent tag) = None

-- the tag of a persistent key
abbrev pub tag_in : KeyLifespan → ℕ
tag_in (Transient stamp) = 0
tag_in (Persistent tag) = tag

-- the octets of a lifespan
abbrev pub spelled_lifespan : KeyLifespan → List ℕ
spelled_lifespan lifespan = lifespan_bytes (stamp_in lifespan) (tag_in lifespan)

-- its numbers fit 32 and 16 bits, and a transient key has no tag
abbrev pub IsLifespan : KeyLifespan → Type 0
IsLifespan lifespan = IsStamp (stamp_in lifespan) × (tag_in lifespan < 2 ^ 16) × IfSome (stamp_in lifespan) (λ _. tag_in lifespan ≡ 0)

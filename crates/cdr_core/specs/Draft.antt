-- What contracts see of a `Writer`: its byte order, the place of its first byte, and the bytes so far.
use Rattle.std.specs.Prelude.{ℕ, ◌+◌, Bool, List, [], ◌++◌, length, replicate}
use Rattle.cdr_core.specs.Field.{Field}
use Rattle.cdr_core.specs.Spelling.{gap, written}

pub record Draft : Type 0 where
  -- the byte order: little-endian where true
  pub little : Bool
  -- the place of the first byte, from the start of the message or encapsulation
  pub base : ℕ
  -- the bytes written so far
  pub bytes : List ℕ

-- nothing is written yet
abbrev pub empty_draft : Bool → ℕ → Draft
empty_draft little base = record { little = little; base = base; bytes = [] }

-- the field's written spelling follows what stood there
abbrev pub with_field : Field → Draft → Draft
with_field field d = record d { bytes = d.bytes ++ written d.little (d.base + length d.bytes) field }

-- padding up to a multiple of the unit and then these three lists of bytes follow what stood there
abbrev pub with_parts : ℕ → List ℕ → List ℕ → List ℕ → Draft → Draft
with_parts unit front middle back d =
    record d { bytes = d.bytes ++ (replicate (gap unit (d.base + length d.bytes)) 0 ++ front ++ middle ++ back) }

-- nothing is written yet behind these bytes, and what follows them is aligned as what stands at this place: the place that
-- the draft tells of the next byte is this one or a multiple of 8 beyond it
abbrev pub draft_behind : Bool → ℕ → List ℕ → Draft
draft_behind little place bytes = record { little = little; base = place + gap 8 (length bytes); bytes = bytes }

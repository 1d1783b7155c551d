-- The open messages: those whose last part hasn't come yet, by their request ids.
use Rattle.std.specs.Prelude.{ℕ, ◌+◌, Bool, List, ◌++◌, ◌==◌, Option, length, drop, sum_by}
use Rattle.std.specs.Ordering.{nat_cmp}
use Rattle.std.specs.BTreeMap.{is_at}
use Rattle.std.specs.Map.{lookup, values_of}
use Rattle.giop_frame.specs.declared.header.TheConstants.{HEADER_AND_ID}

-- an open message: the place of its first part, its bytes as far as they are joined, and the bytes of
-- the stream that its parts take
pub record Open : Type 0 where
  pub at : ℕ
  pub bytes : List ℕ
  pub taken : ℕ

-- the open messages, a finite map in the order of their ids
abbrev pub Opens : Type 0
Opens = List (ℕ × Open)

-- a key is this id
abbrev pub at_id : ℕ → ℕ → Bool
at_id id = is_at (nat_cmp id)

-- the open message of an id
abbrev pub find_open : ℕ → Opens → Option Open
find_open id pending = lookup (at_id id) pending

-- the message that a first part opens
abbrev pub opened_by : ℕ → List ℕ → Open
opened_by at part = record { at = at; bytes = part; taken = length part }

-- an open message joined with a Fragment, whose header and id aren't part of it
abbrev pub joined : Open → List ℕ → Open
joined o part = record { at = o.at; bytes = o.bytes ++ drop HEADER_AND_ID part; taken = o.taken + length part }

-- the bytes of all open messages together, as far as they are joined
abbrev pub open_bytes : Opens → ℕ
open_bytes pending = sum_by (λ o. length o.bytes) (values_of pending)

-- the bytes of the stream that their parts take
abbrev pub taken_bytes : Opens → ℕ
taken_bytes pending = sum_by (λ o. o.taken) (values_of pending)

-- nothing is open
abbrev pub nothing_open : Opens → Bool
nothing_open pending = length pending == 0

-- Entries of writers, and what a seat may say of the writer whose entries it makes.
use Rattle.std.specs.Prelude.{◌≡◌, ◌<◌, ℕ, List, [], ◌∷◌, ◌++◌, length, Option, Some}
use mathlib.Core.Option.{some}
use lib.ListN.{get_elem?}
use Rattle.seat_lock.specs.Histories.{In, IsPrefix, Belongs}
use Rattle.seat_lock.specs.declared.view.View.{View}
use Rattle.poa_shared_tests.specs.declared.diary.Note.{Note}

abbrev pub note : ℕ → ℕ → Note
note w n = record { writer = w; number = n }

abbrev pub writer_of : Note → Option ℕ
writer_of n = Some n.writer

-- each writer is one of the first n
abbrev pub HasWriters : List Note → ℕ → Type 0
HasWriters notes n = (x : ℕ) (e : Note) → get_elem? notes x ≡ some e → e.writer < n

-- the writer has no entry
abbrev pub IsNew : List Note → ℕ → Type 0
IsNew notes w = (x : ℕ) → Belongs writer_of notes x w → ⊥

module _ {G : Type 0} where
  -- the seat made an entry of this writer
  abbrev pub IsWriter : View G Note → ℕ → Type 0
  IsWriter v w = (x : ℕ) × In x v.mine × Belongs writer_of v.seen x w

  -- the call put the entry at this position, after all that the seat had seen
  pub record Makes (v : View G Note) (e : Note) (at : ℕ) (w : View G Note) : Type 0 where
    pub before : List Note
    pub after_seen : IsPrefix v.seen before
    pub seen : w.seen ≡ before ++ e ∷ []
    pub mine : w.mine ≡ v.mine ++ at ∷ []
    pub position : at ≡ length before
    pub room : w.room ≡ v.room

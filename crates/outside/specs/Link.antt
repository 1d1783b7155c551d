-- What a link shows, and what a read and a write of it change.
use Rattle.std.specs.Prelude.{◌≡◌, ℕ, ◌≤◌, Bool, true, List, [], ◌++◌, take, Option, IfSome}
use Rattle.outside.specs.declared.reading.Took.{Took}
use Rattle.outside.specs.declared.reading.Took.TheVariants.{Got, End, Quiet, Failed}
use Rattle.outside.specs.declared.writing.Wrote.{Wrote}
use Rattle.outside.specs.declared.writing.Wrote.TheVariants as wrote
use Rattle.outside.specs.Told.{IfTold}

-- what a link shows: the bytes left to be read and those written to it, where it tells them, and how many reads
-- and writes failed, and how many reads found nothing there for now
pub record Shown : Type 0 where
  pub left : Option (List ℕ)
  pub held : Option (List ℕ)
  pub read_faults : ℕ
  pub write_faults : ℕ
  pub quiets : ℕ

-- from the one to the other this text was read and these bytes were written, and nothing else; no count of faults fell
pub record Moves (old new : Shown) (text out : List ℕ) : Type 0 where
  pub read : IfTold old.left new.left (λ before after. before ≡ text ++ after)
  pub written : IfTold old.held new.held (λ before after. after ≡ before ++ out)
  pub read_faults : old.read_faults ≤ new.read_faults
  pub write_faults : old.write_faults ≤ new.write_faults

-- nothing is left to be read, where that is told
abbrev pub IsDry : Shown → Type 0
IsDry shown = IfSome shown.left (λ left. left ≡ [])

-- a read takes what it got, and nothing else; at the end nothing is left
abbrev pub IsRead : Took → List ℕ → Shown → Shown → Type 0
IsRead (Got n) buf old new = Moves old new (take n buf) []
IsRead End buf old new = Moves old new [] [] × IsDry new
IsRead Quiet buf old new = Moves old new [] []
IsRead Failed buf old new = Moves old new [] []

-- a write adds what it wrote of the piece, and nothing else
abbrev pub IsWritten : Wrote → List ℕ → Shown → Shown → Type 0
IsWritten (wrote.Wrote n) piece old new = Moves old new [] (take n piece)
IsWritten wrote.Failed piece old new = Moves old new [] []

-- the link took a front of the bytes, or all of them
pub record Writes (bytes : List ℕ) (a b : Shown) (whole : Bool) : Type 0 where
  pub done : List ℕ
  pub rest : List ℕ
  pub moved : Moves a b [] done
  pub front : bytes ≡ done ++ rest
  pub all : whole ≡ true → rest ≡ []

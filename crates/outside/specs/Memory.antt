-- What the forms in memory are seen as.
use Rattle.std.specs.Prelude.{ℕ, List, [], ◌∷◌, Some, None, if◌then◌else◌}
use Rattle.std.specs.Str.{bytes_eq}
use Rattle.outside.specs.Keeping.{Contents}

-- a source in memory: the bytes left, and how many reads failed
pub record Spring : Type 0 where
  pub left : List ℕ
  pub read_faults : ℕ

-- a sink in memory: the bytes held, and how many writes failed
pub record Basin : Type 0 where
  pub held : List ℕ
  pub write_faults : ℕ

-- a file: its name and its content
abbrev pub File : Type 0
File = List ℕ × List ℕ

-- files in memory, and the counts of their own answers
pub record Shelf : Type 0 where
  pub files : List File
  pub take_faults : ℕ
  pub put_faults : ℕ
  pub absents : ℕ
  pub long_ones : ℕ

-- what files hold under a name
abbrev pub content_of : List File → Contents
content_of [] name = None
content_of (file ∷ files) name = if bytes_eq name file.0 then Some file.1 else content_of files name

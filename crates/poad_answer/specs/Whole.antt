-- An input that `names` serves whole.
use Rattle.std.specs.Prelude.{◌⊎◌, ℕ, ◌^◌, ◌<◌, List, length}
use Rattle.session_laws.specs.Hearing.{Heard, HearsMessages, closed, over}

-- these are the calls of the text, to its end with nothing left over, or to a CloseConnection
abbrev pub HearsWhole : List ℕ → List Heard → Type 0
HearsWhole text calls = HearsMessages text calls closed ⊎ HearsMessages text calls (over 0)

-- an input of whole messages that are calls and CancelRequests, of fewer bytes than a run takes at most
pub record IsWholeInput (text : List ℕ) : Type 0 where
  pub calls : List Heard
  pub whole : HearsWhole text calls
  pub short : length text < 2 ^ 32

-- What is printed of the replies that a connection collects.
use Rattle.std.specs.Prelude.{◌≡◌, ℕ, List, [], ◌++◌, Some, None}
use Rattle.poa_base.specs.declared.Entry.TheVariants.{Collect}
use Rattle.poa_base.specs.declared.Head.{Head}
use Rattle.poa_base.specs.declared.Reply.{Reply}
use Rattle.history_standing.specs.Arrivals.{call_of}
use Rattle.poa_history.specs.Replies.{next_reply, reply_of}
use Rattle.poa_history.specs.Life.{Life, with_entry, opened}
use Rattle.poa_history.specs.Heads.{head_of}

-- the replies that the connection is owed are collected, and told so, until none is decided
pub data CollectsAll (say : Head → Reply → List ℕ) (conn : ℕ) : Life → List ℕ → Life → Type 0 where
  none_left : (life : Life) → next_reply life.config life.run life.history conn ≡ None → CollectsAll say conn life [] life
  collects_on : (life last : Life) (r : ℕ) (reply : Reply) (text : List ℕ) → next_reply life.config life.run life.history conn ≡ Some r
      → reply_of life.config life.run (opened life) life.history r ≡ Some reply
      → CollectsAll say conn (with_entry (Collect conn r) life) text last
      → CollectsAll say conn life (say (head_of (call_of life.history r)) reply ++ text) last

-- Whether what was read and written over a connection is what a journal's entries, the oldest first, say of it.
use Rattle.std.specs.Prelude.{◌≡◌, ◌↔◌, ℕ, ◌<◌, ◌^◌, IsTrue, List, length, Option, Some, None}
use Rattle.std.specs.Option.{IsSomeAnd}
use Rattle.poa_base.specs.declared.Entry.{Entry}
use Rattle.poa_base.specs.declared.SessionEnd.TheVariants.{Ended}
use Rattle.poa_history.specs.declared.Givens.{Givens}
use Rattle.session_laws.specs.Records.{peer_of}
use Rattle.session_laws.specs.Sessions.{Session}
use Rattle.journal_audit.specs.declared.matched.Matched.{Matched}
use Rattle.journal_audit.specs.declared.refusal.Refusal.{Refusal}

-- what was read of a connection's peer, and what was written to it
pub record LinkBytes : Type 0 where
  pub conn : ℕ
  pub input : List ℕ
  pub output : List ℕ

-- what was read has a length that can be counted
abbrev pub IsShort : LinkBytes → Type 0
IsShort link = length link.input < 2 ^ 62

-- the bytes are a session of the connection that ended well: at the end of its input, or by a CloseConnection. A peer whose
-- lines arrived is an administrator, and any other a client
abbrev pub IsSession : Givens → List Entry → LinkBytes → Type 0
IsSession g log link = Session g (peer_of link.conn log) log link.conn link.input link.output Ended

-- a link that is asked for is told of, where all entries are legal
abbrev pub Matches : Givens → List Entry → Option Refusal → Option LinkBytes → Option Matched → Type 0
Matches g log None (Some link) matched = IsSomeAnd matched (λ m. (m.conn ≡ link.conn) × (IsTrue m.is_session ↔ IsSession g log link))
Matches g log refusal link matched = matched ≡ None

-- What is known of a connection as the entries of a journal come. These words are for contracts inside of this crate.
use Rattle.std.specs.Prelude.{◌≡◌, ◌↔◌, ℕ, Bool, true, false, ◌==◌, ◌||◌, IsTrue, ⊤, is_some, Option, Some, None, option_map}
use Rattle.std.specs.Option.{IsSomeAnd}
use Rattle.poa_base.specs.declared.Entry.{Entry}
use Rattle.poa_base.specs.declared.Entry.TheVariants.{Collect}
use Rattle.poa_base.specs.declared.SessionEnd.TheVariants.{Ended}
use Rattle.poa_history.specs.Life.{Life, givens_of, opened, with_entry}
use Rattle.core_outboxes.specs.Decided.{IsFiled}
use Rattle.core_outboxes.specs.declared.filed.Filed.{Filed}
use Rattle.session_laws.specs.Calls.{IsGivenTo}
use Rattle.session_laws.specs.Records.{arrived_by, filling_by, has_line_by, joined_by, peer_by}
use Rattle.session_laws.specs.Sessions.{Input, SessionBy}
use Rattle.session_laws.specs.declared.peer.Peer.TheVariants.{Client, Administrator}
use Rattle.journal_audit.specs.Matching.{LinkBytes}
use Rattle.journal_audit.specs.Listening.{Listens, Writes}
use Rattle.journal_audit.specs.declared.auditor.Auditor.{Auditor}
use Rattle.journal_audit.specs.declared.matched.Matched.{Matched}
use Rattle.journal_audit.specs.declared.onlooker.Onlooker.{Onlooker}
use Rattle.journal_audit.specs.declared.refusal.Refusal.{Refusal}
use Rattle.journal_audit.specs.declared.watch.Watch.{Watch}

-- the calls that arrived are those that a client sent, or an administrator
abbrev pub hears_any : Onlooker → Bool
hears_any o = o.client.fits || o.administrator.fits

-- what an onlooker knows of its connection by what happened in the run. The replies are compared as long as the calls fit
pub record Looks (life : Life) (o : Onlooker) : Type 0 where
  pub client : Listens Client o.link.input (arrived_by life.history o.link.conn) o.client
  pub administrator : Listens Administrator o.link.input (arrived_by life.history o.link.conn) o.administrator
  pub line : o.had_line ≡ has_line_by life.history o.link.conn
  pub filled : o.was_filled ≡ is_some (filling_by life.history o.link.conn)
  pub written : hears_any o ≡ true → Writes o.link.output (joined_by (givens_of life) life.history o.link.conn) o.written

-- as long as each entry was legal
abbrev pub LooksWhere : Option Refusal → Life → Onlooker → Type 0
LooksWhere None life o = Looks life o
LooksWhere (Some refusal) life o = ⊤

-- the entry gives the connection a reply
abbrev pub is_given_to : ℕ → Entry → Bool
is_given_to conn (Collect c a) = c == conn
is_given_to conn e = false

-- an entry comes
abbrev pub Knows : Entry → Onlooker → Onlooker → Type 0
Knows e old new = (life : Life) → Looks life old → Looks (with_entry e life) new

-- one that may be another's; of one that gives the connection a reply that is compared once the entry is taken
abbrev pub SeesBy : Bool → Entry → Onlooker → Onlooker → Type 0
SeesBy true e old new = new ≡ old
SeesBy false e old new = Knows e old new

abbrev pub Sees : Entry → Onlooker → Onlooker → Type 0
Sees e old new = SeesBy (is_given_to old.link.conn e) e old new

-- the reply can be written, where it is compared
abbrev pub IsGivenIn : Onlooker → Filed → Type 0
IsGivenIn o filed = hears_any o ≡ true → IsGivenTo filed.head filed.reply

-- the connection is given a reply
abbrev pub Gets : Filed → Onlooker → Onlooker → Type 0
Gets f old new = (life : Life) → Looks life old → IsFiled life.config life.run (opened life) life.history f
    → Looks (with_entry (Collect old.link.conn f.arrival) life) new

-- all calls of the peer arrived, and its input ends well
abbrev pub HearsAll : Life → LinkBytes → Type 0
HearsAll life link = Input (peer_by life.history link.conn) link.input (arrived_by life.history link.conn) Ended

abbrev pub IsOverFor : Bool → Onlooker → Type 0
IsOverFor holds o = (life : Life) → Looks life o → IsTrue holds ↔ HearsAll life o.link

-- the bytes are a session of the connection that ended well
abbrev pub IsSessionIn : Life → LinkBytes → Type 0
IsSessionIn life link =
    SessionBy (givens_of life) (peer_by life.history link.conn) life.history link.conn link.input link.output Ended

-- what is told of a link, where all entries are legal
abbrev pub MatchesIn : Option Refusal → Life → Option LinkBytes → Option Matched → Type 0
MatchesIn None life (Some link) matched =
    IsSomeAnd matched (λ m. (m.conn ≡ link.conn) × (IsTrue m.is_session ↔ IsSessionIn life link))
MatchesIn refusal life link matched = matched ≡ None

abbrev pub link_of : Watch → Option LinkBytes
link_of w = option_map (λ (o : Onlooker). o.link) w.onlooker

-- the onlooker, where there is one, knows what happened in the auditor's run
abbrev pub WatchesBy : Auditor → Option Onlooker → Type 0
WatchesBy a None = ⊤
WatchesBy a (Some o) = LooksWhere a.refusal a.run o

abbrev pub Watches : Watch → Type 0
Watches w = WatchesBy w.auditor w.onlooker

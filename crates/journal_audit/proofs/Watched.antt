-- What is told of a link.
use Rattle.std.proofs.Common.{◌≡◌, Bool, true, false, IsTrue, ◌↔◌, List, reverse, is_some, Option, Some, None, refl, sym, subst}
use Rattle.std.specs.Option.{IsSomeAnd}
use Rattle.poa_base.specs.declared.Entry.{Entry}
use Rattle.poa_base.specs.declared.SessionEnd.TheVariants.{Ended}
use Rattle.poa_history.specs.Life.{Life, givens_of}
use Rattle.poa_history.specs.declared.Givens.{Givens}
use Rattle.session_laws.specs.Records.{peer_by}
use Rattle.session_laws.specs.Sessions.{SessionBy}
use Rattle.journal_audit.specs.Auditing.{Finds}
use Rattle.journal_audit.specs.Looking.{IsSessionIn, MatchesIn}
use Rattle.journal_audit.specs.Matching.{IsSession, LinkBytes, Matches}
use Rattle.journal_audit.specs.declared.matched.Matched.{Matched}
use Rattle.journal_audit.specs.declared.refusal.Refusal.{Refusal}

-- behind an entry that isn't legal nothing is told
pub none_matched : (r : Option Refusal) (life : Life) (link : Option LinkBytes) → is_some r ≡ true → MatchesIn r life link None
none_matched (Some r) life link some = refl
none_matched None life link some = absurd (let f : false ≡ true = some in cc)

-- nor where no link is asked for
pub none_asked : (r : Option Refusal) (life : Life) (link : Option LinkBytes) → link ≡ None → MatchesIn r life link None
none_asked None life None none = refl
none_asked None life (Some link) none = absurd (let f : Some link ≡ None = none in cc)
none_asked (Some r) life link none = refl

pub told_of : (r : Option Refusal) (life : Life) (o : Option LinkBytes) (link : LinkBytes) (m : Matched) → r ≡ None → o ≡ Some link → m.conn ≡ link.conn
    → IsTrue m.is_session ↔ IsSessionIn life link → MatchesIn r life o (Some m)
told_of r life o link m none asked named is =
    subst (λ (x : Option Refusal). MatchesIn x life o (Some m)) (sym none)
    (subst (λ (x : Option LinkBytes). MatchesIn None life x (Some m)) (sym asked) (named, is))

-- the same by the entries of the journal
module _ (g : Givens) (entries : List Entry) (life : Life) (given : givens_of life ≡ g) where
  session_by : life.history ≡ reverse entries → (link : LinkBytes) (holds : Bool) → IsTrue holds ↔ IsSessionIn life link → IsTrue holds ↔ IsSession g entries link
  session_by history link holds is =
      subst (λ (h : List Entry). IsTrue holds ↔ SessionBy g (peer_by h link.conn) h link.conn link.input link.output Ended) history
      (subst (λ (x : Givens). IsTrue holds ↔ SessionBy x (peer_by life.history link.conn) life.history link.conn link.input link.output Ended) given is)

  some_session : life.history ≡ reverse entries → (link : LinkBytes) (m : Option Matched)
      → IsSomeAnd m (λ (x : Matched). (x.conn ≡ link.conn) × (IsTrue x.is_session ↔ IsSessionIn life link))
      → IsSomeAnd m (λ (x : Matched). (x.conn ≡ link.conn) × (IsTrue x.is_session ↔ IsSession g entries link))
  some_session history link (Some x) it = (it.0, session_by history link x.is_session it.1)
  some_session history link None it = it

  pub matches_of : (r : Option Refusal) (link : Option LinkBytes) (m : Option Matched) → Finds entries life r → MatchesIn r life link m → Matches g entries r link m
  matches_of None (Some link) m found it = some_session found.0 link m it
  matches_of None None m found it = it
  matches_of (Some r) link m found it = it

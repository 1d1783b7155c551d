-- Whether the bytes of a link are a session of its connection that ended well.
use Rattle.std.proofs.Common.{◌≡◌, ℕ, ◌==◌, ◌&&◌, ◌||◌, not, Bool, true, false, if◌then◌else◌, IsTrue, ◌↔◌, List, is_none, is_some, Option, Some, None, refl, sym, ap, ◌∙◌, subst}
use Rattle.std.proofs.lemmas.Bool.{eqb-true}
use Rattle.poa_base.specs.declared.SessionEnd.TheVariants.{Ended}
use Rattle.poa_history.specs.Legal.{IsLegal}
use Rattle.poa_history.specs.Life.{Life, givens_of}
use Rattle.poa_history.specs.Replies.{next_reply, owed}
use Rattle.core_outboxes.specs.declared.filed.Filed.{Filed}
use Rattle.core_run.specs.Gives.{Gives}
use Rattle.session_laws.specs.Hearing.{Heard}
use Rattle.session_laws.specs.Records.{arrived_by, filling_by, has_line_by, joined_by, peer_by, IsPaidBy}
use Rattle.session_laws.specs.Sessions.{Input}
use Rattle.session_laws.specs.declared.peer.Peer.{Peer}
use Rattle.session_laws.specs.declared.peer.Peer.TheVariants.{Client, Administrator}
use Rattle.session_laws.proofs.Ended.{Ends, ends_of, session_of}
use Rattle.session_laws.proofs.Paying.{paid_when}
use Rattle.session_laws.proofs.Unpaid.{nothing_next, nothing_owed}
use Rattle.journal_audit.specs.Listening.{HearsRest, IsWhole, Listening, Listens, MayBegin}
use Rattle.journal_audit.specs.Looking.{HearsAll, IsSessionIn, Looks, hears_any}
use Rattle.journal_audit.specs.declared.onlooker.Onlooker.{Onlooker}
use Rattle.journal_audit.proofs.Listened.{never_ends}
use Rattle.journal_audit.proofs.Looked.{or_right}

-- the peer by whether a line arrived
abbrev peer_where : Bool → Peer
peer_where line = if line then Administrator else Client

-- where all calls are heard, those that arrived were
fits_where : (peer : Peer) (input : List ℕ) (calls : List Heard) (l : Listening) → Listens peer input calls l → Input peer input calls Ended
    → (fits : Bool) → l.fits ≡ fits → fits ≡ true
fits_where peer input calls l listens ends true is = refl
fits_where peer input calls l listens ends false is =
    absurd (never_ends peer input calls (subst (λ (b : Bool). MayBegin peer input calls (HearsRest l) b) is listens) ends)

none_by : (o : Option ℕ) → is_some o ≡ false → o ≡ None
none_by None is = refl
none_by (Some n) is = absurd (let e : true ≡ false = is in cc)

all_four : (over paid filled whole : Bool) → (over && (paid && (not filled && whole))) ≡ true
    → (over ≡ true) × (paid ≡ true) × (filled ≡ false) × (whole ≡ true)
all_four true true false whole is = (refl, refl, refl, is)
all_four true true true whole is = absurd (let e : false ≡ true = is in cc)
all_four true false filled whole is = absurd (let e : false ≡ true = is in cc)
all_four false paid filled whole is = absurd (let e : false ≡ true = is in cc)

four_all : (over paid filled whole : Bool) → over ≡ true → paid ≡ true → filled ≡ false → whole ≡ true
    → (over && (paid && (not filled && whole))) ≡ true
four_all over paid filled whole a b c d = rw (a, b, c, d) refl

module _ (life : Life) (o : Onlooker) (looks : Looks life o) where
  -- of an administrator, or of a client
  pub over_as : (line : Bool) (holds : Bool) → o.had_line ≡ line
      → IsTrue holds ↔ Input (peer_where line) o.link.input (arrived_by life.history o.link.conn) Ended → IsTrue holds ↔ HearsAll life o.link
  over_as line holds is decides =
      subst (λ (peer : Peer). IsTrue holds ↔ Input peer o.link.input (arrived_by life.history o.link.conn) Ended)
      (ap peer_where (sym is ∙ looks.line)) decides

  hears_by : (line : Bool) → Input (peer_where line) o.link.input (arrived_by life.history o.link.conn) Ended → hears_any o ≡ true
  hears_by true ends =
      or_right o.client.fits o.administrator.fits
      (fits_where Administrator o.link.input (arrived_by life.history o.link.conn) o.administrator looks.administrator ends o.administrator.fits refl)
  hears_by false ends =
      ap (λ (a : Bool). a || o.administrator.fits)
      (fits_where Client o.link.input (arrived_by life.history o.link.conn) o.client looks.client ends o.client.fits refl)

  hears_where : HearsAll life o.link → hears_any o ≡ true
  hears_where = hears_by (has_line_by life.history o.link.conn)

  module _ (over paid whole : Bool) (overs : IsTrue over ↔ HearsAll life o.link) (pays : IsTrue paid ↔ IsPaidBy life.history o.link.conn)
      (writes : IsWhole whole o.written) where
    wholly : HearsAll life o.link → IsTrue whole ↔ (o.link.output ≡ joined_by (givens_of life) life.history o.link.conn)
    wholly ends = writes o.link.output (joined_by (givens_of life) life.history o.link.conn) (looks.written (hears_where ends))

    of_four : (over ≡ true) × (paid ≡ true) × (o.was_filled ≡ false) × (whole ≡ true) → IsSessionIn life o.link
    of_four is =
        let ends : HearsAll life o.link = overs.0 is.0 in
        session_of (givens_of life) (peer_by life.history o.link.conn) life.history o.link.conn o.link.input o.link.output (record {
          input = ends;
          whole = (wholly ends).0 is.3;
          paid = pays.0 is.1;
          unfilled = none_by (filling_by life.history o.link.conn) (sym looks.filled ∙ is.2);
        })

    to_four : IsSessionIn life o.link → (over && (paid && (not o.was_filled && whole))) ≡ true
    to_four session =
        let it : Ends (givens_of life) (peer_by life.history o.link.conn) life.history o.link.conn o.link.input o.link.output =
        ends_of (givens_of life) (peer_by life.history o.link.conn) life.history o.link.conn o.link.input o.link.output session in
        four_all over paid o.was_filled whole (overs.1 it.input) (pays.1 it.paid) (looks.filled ∙ ap is_some it.unfilled) ((wholly it.input).1 it.whole)

    pub session_is : IsTrue (over && (paid && (not o.was_filled && whole))) ↔ IsSessionIn life o.link
    session_is = (λ holds. of_four (all_four over paid o.was_filled whole holds), to_four)

-- nothing is owed: no reply is decided, and no call that asks one is undecided
module _ (life : Life) (conn : ℕ) (legal : IsLegal life.config life.run life.limit life.history) where
  pub unpaid : (count : ℕ) → count ≡ owed life.config life.run life.history conn → (count ≡ 0 → ⊥) → IsTrue (count == 0) ↔ IsPaidBy life.history conn
  unpaid count counted some = (
    (λ holds. absurd (some (eqb-true count 0 holds))),
    (λ paid. absurd (some (counted ∙ nothing_owed life.config life.run life.limit life.history conn paid legal))),
  )

  last_paid : (given : Option Filed) (new : Life) → Gives conn life given new → owed life.config life.run life.history conn ≡ 0
      → IsTrue (is_none given) ↔ IsPaidBy life.history conn
  last_paid None new gives none = (
    (λ _. paid_when life.config life.run life.limit life.history conn legal gives.0 none),
    (λ _. refl),
  )
  last_paid (Some f) new gives none = (
    (λ holds. absurd (let e : false ≡ true = holds in cc)),
    (λ paid. absurd (let next : next_reply life.config life.run life.history conn ≡ None = nothing_next life.config life.run life.limit life.history conn paid in
        let e : Some f.arrival ≡ None = sym gives.0 ∙ next in cc)),
  )

flipped : (x b : Bool) → x ≡ not b → b ≡ not x
flipped x true is = sym (ap not is)
flipped x false is = sym (ap not is)

pub last_paid_by : (life : Life) (conn : ℕ) → IsLegal life.config life.run life.limit life.history → (given : Option Filed) (new : Life) (b : Bool)
    → is_some given ≡ not b → Gives conn life given new → owed life.config life.run life.history conn ≡ 0 → IsTrue b ↔ IsPaidBy life.history conn
last_paid_by life conn legal given new b told gives none =
    subst (λ (x : Bool). IsTrue x ↔ IsPaidBy life.history conn) (sym (flipped (is_some given) b told)) (last_paid life conn legal given new gives none)

-- The links that a door gave, and how they were served. Of visits the newest comes first.
use Rattle.std.specs.Prelude.{◌≡◌, ℕ, ◌<◌, List, [], ◌∷◌, ◌++◌, length, Option, Some, None}
use Rattle.outside.specs.Accepting.{Standing}
use Rattle.outside.specs.Link.{Shown}
use Rattle.poa_base.specs.declared.Entry.{Entry}
use Rattle.poa_base.specs.declared.Session.{Session}
use Rattle.poa_history.specs.declared.givens.Givens.{Givens}
use Rattle.poa_history.specs.Owners.{owner_of}
use Rattle.poa_session.specs.Served.{Served}
use Rattle.poa_shared.specs.Seen.{Owns}
use Rattle.seat_lock.specs.declared.view.View.{View}
use Rattle.seat_lock.specs.Histories.{Belongs, In, IsPrefix}
use Rattle.session_laws.specs.declared.peer.Peer.{Peer}

-- a link as a door gave it and as it was given back, with the session of its connection
pub record Visit (L : Type 0) : Type 0 where
  pub before : L
  pub after : L
  pub session : Session

abbrev pub conn_in : Option ℕ → List ℕ
conn_in None = []
conn_in (Some c) = c ∷ []

-- the connections that entered
abbrev pub conns_of : {L : Type 0} → List (Visit L) → List ℕ
conns_of [] = []
conns_of (x ∷ earlier) = conn_in x.session.conn ++ conns_of earlier

-- the links as they were given, before those that are still left
abbrev pub given : {L : Type 0} → List (Visit L) → List L → List L
given [] left = left
given (x ∷ earlier) left = given earlier (x.before ∷ left)

-- the links as they were given back with their sessions, behind those that were back already
abbrev pub given_back : {L : Type 0} → List (L × Session) → List (Visit L) → List (L × Session)
given_back back [] = back
given_back back (x ∷ earlier) = given_back back earlier ++ (x.after, x.session) ∷ []

-- a door gave these links in their order and was given each back, with its session
pub record Passes {L : Type 0} (visits : List (Visit L)) (old new : Standing L) : Type 0 where
  pub left : old.left ≡ given visits new.left
  pub back : new.back ≡ given_back old.back visits
  pub out : new.out ≡ old.out

-- the connection entered by the seat, which made no entry of it since it had seen this
pub record IsGone (seen : List Entry) (c : ℕ) (v : View Givens Entry) : Type 0 where
  pub owns : Owns v c
  pub quiet : (place : ℕ) → In place v.mine → Belongs owner_of v.seen place c → place < length seen

-- the link was served by the seat, as `serve_link` and `serve_admin` say it, and nothing came of its connection since
pub record Visited {L : Type 0} (g : Givens) (peer : Peer) (shown : L → Shown) (x : Visit L) (v : View Givens Entry) : Type 0 where
  pub opening : View Givens Entry
  pub closing : View Givens Entry
  pub served : Served g peer opening closing (shown x.before) (shown x.after) x.session
  pub later : IsPrefix closing.seen v.seen
  pub gone : (c : ℕ) → x.session.conn ≡ Some c → IsGone closing.seen c v

abbrev pub EachVisited : {L : Type 0} → Givens → Peer → (L → Shown) → List (Visit L) → View Givens Entry → Type 0
EachVisited g peer shown [] v = Unit {0}
EachVisited g peer shown (x ∷ earlier) v = Visited g peer shown x v × EachVisited g peer shown earlier v

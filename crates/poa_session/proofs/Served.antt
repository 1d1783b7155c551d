-- A connection that entered, was served and has left.
use Rattle.std.proofs.Common.{◌≡◌, ℕ, List, [], ◌∷◌, ◌++◌, reverse, true, refl, sym, ap, subst, ◌∙◌, append_assoc, append-nil}
use Rattle.std.specs.Prelude.{Some, MatchOption, Err}
use Rattle.std.proofs.lemmas.List.{reverse-append, reverse-reverse}
use mathlib.Core.Option.{some}
use lib.ListN.{get_elem?}
use Rattle.poa_base.specs.declared.Entry.{Entry}
use Rattle.poa_base.specs.declared.Entry.TheVariants.{Entered, Left}
use Rattle.poa_base.specs.declared.Session.{Session as Ending}
use Rattle.poa_base.specs.declared.SessionEnd.{SessionEnd}
use Rattle.poa_base.specs.declared.SessionEnd.TheVariants.{ReadFault, WriteFault}
use Rattle.poa_history.specs.Legal.{IsLegal}
use Rattle.seat_lock.specs.declared.view.View.{View}
use Rattle.seat_lock.proofs.Lists.{at_longer}
use Rattle.outside.specs.Cause.{Rose}
use Rattle.outside.specs.Link.{Shown}
use Rattle.poa_history.specs.declared.Givens.{Givens}
use Rattle.poa_core.specs.Answers as answers
use Rattle.poa_history.specs.Life.{Life, life_at}
use Rattle.poa_core.specs.declared.EnterFault.{EnterFault}
use Rattle.poa_core.specs.declared.EnterFault.TheVariants as enter_fault
use Rattle.poa_shared.specs.Seen.{Owns, Turns, past}
use Rattle.session_laws.specs.declared.Peer.{Peer}
use Rattle.session_laws.specs.Records.{arrived_by, joined_by, is_late_by}
use Rattle.session_laws.specs.Sessions.{CauseBy, SessionBy}
use Rattle.session_laws.proofs.Causes.{cause_since}
use Rattle.session_laws.proofs.Staying.{session_others, session_same}
use Rattle.poa_session.specs.Growing.{Adds}
use Rattle.poa_session.specs.Served.{RefusedAs, Served, ServedAs, TurnedAway}
use Rattle.poa_session.specs.Settling.{Converses, Settled, TurnsAway, refusal}
use Rattle.poa_session.proofs.Adding.{adds_both, adds_one, found_arrived}
use Rattle.poa_session.proofs.Entering.{Begun, seen_front}

-- what a history says of the connection isn't changed by its leaving
session_left : (g : Givens) (peer : Peer) (c : ℕ) (h : List Entry) (text out : List ℕ) (end : SessionEnd) → IsLegal g.config g.run g.limit (Left c ∷ h)
    → SessionBy g peer h c text out end → SessionBy g peer (Left c ∷ h) c text out end
session_left g peer c h text out end legal s =
    session_same g peer c text out end h (Left c ∷ h) refl refl refl (λ paid. paid)
    (λ calls due. cause_since g.config g.run g.limit (Left c ∷ []) h legal peer calls text due) s

module _ (g : Givens) (peer : Peer) (c : ℕ) (v : View Givens Entry) (found : List Entry) (u w : View Givens Entry) (h : List Entry) (z : View Givens Entry)
    (a b : Shown) (end : SessionEnd)
    (entered : Turns g v found u) (begun : Begun g c v u) (talked : Converses g peer c u a w b end) (owns : Owns w c) (leaves : Turns g w h z)
    (gone : past z ≡ Left c ∷ h) where
  left_adds : Adds g c w z [] []
  left_adds = adds_one g c w h z leaves owns (Left c) gone refl [] [] (sym (append-nil (arrived_by h c))) (sym (append-nil (joined_by g h c))) refl

  all_adds : Adds g c u z (talked.calls ++ []) (talked.replies ++ [])
  all_adds = adds_both g c u w z talked.calls [] talked.replies [] talked.adds left_adds

  settled : Settled g peer c w talked.text talked.out end b
  settled = talked.settled entered.runs begun.calls begun.replies begun.filling

  all_legal : IsLegal g.config g.run g.limit (Left c ∷ h)
  all_legal = subst (IsLegal g.config g.run g.limit) gone leaves.runs.legal

  legal : IsLegal g.config g.run g.limit (leaves.goes_on.more ++ past w)
  legal = subst (IsLegal g.config g.run g.limit) leaves.goes_on.is all_legal.1

  found_session : SessionBy g peer h c talked.text talked.out end
  found_session =
      subst (λ k. SessionBy g peer k c talked.text talked.out end) (sym leaves.goes_on.is)
      (session_others g peer c talked.text talked.out end (past w) leaves.goes_on.more legal (leaves.goes_on.alone c owns) settled.session)

  found_cause : CauseBy peer h (arrived_by h c) talked.text end
  found_cause =
      subst (λ calls. CauseBy peer h calls talked.text end) (sym (found_arrived g c w h z leaves owns))
      (subst (λ k. CauseBy peer k (arrived_by (past w) c) talked.text end) (sym leaves.goes_on.is)
      (cause_since g.config g.run g.limit leaves.goes_on.more (past w) legal peer (arrived_by (past w) c) talked.text end settled.cause))

  later_seen : z.seen ≡ u.seen ++ reverse all_adds.more
  later_seen = seen_front u z all_adds.more all_adds.since

  arrived_none : is_late_by (past z) c ≡ true → arrived_by (past z) c ≡ []
  arrived_none late =
      all_adds.arrived_is ∙ (ap (λ cs. cs ++ (talked.calls ++ [])) begun.calls
      ∙ (append-nil talked.calls ∙ talked.silent (sym all_adds.late_is ∙ late)))

  pub served_as : (end ≡ ReadFault → Rose a.read_faults b.read_faults) → (end ≡ WriteFault → Rose a.write_faults b.write_faults) → ServedAs g peer v z a b c end
  served_as read written = record {
    stood = reverse h;
    text = talked.text;
    out = talked.out;
    left = sym (reverse-reverse z.seen) ∙ (ap reverse gone ∙ reverse-append (Left c ∷ []) h);
    moved = talked.moved;
    few = talked.few;
    session =
        subst (λ k. SessionBy g peer k c talked.text talked.out end) (sym gone) (session_left g peer c h talked.text talked.out end all_legal found_session);
    cause = subst (λ k. CauseBy peer k (arrived_by k c) talked.text end) (sym (reverse-reverse h)) found_cause;
    read_fault = read;
    write_fault = written;
    dry = settled.dry;
    place = begun.place;
    later = begun.later;
    entered =
        subst (λ l. get_elem? l begun.place ≡ some (Entered c)) (sym later_seen)
        (at_longer u.seen (reverse all_adds.more) begun.place (Entered c) begun.entered);
    mine =
        all_adds.mine_is ∙ (ap (λ ps. ps ++ all_adds.made) begun.mine_is
        ∙ (append_assoc v.mine (begun.place ∷ []) all_adds.made
        ∙ ap (λ ps. v.mine ++ ps) (sym (all_adds.places_is ∙ ap (λ ps. ps ++ all_adds.made) begun.places_are))));
    silent = arrived_none;
  }

  pub served : (session : Ending) → session ≡ record { conn = Some c; end = end } → (end ≡ ReadFault → Rose a.read_faults b.read_faults)
      → (end ≡ WriteFault → Rose a.write_faults b.write_faults)
      → Served g peer v z a b session
  served session is read written = record {
    grows = (
      reverse begun.more ++ reverse all_adds.more,
      later_seen
          ∙ (ap (λ l. l ++ reverse all_adds.more) (seen_front v u begun.more begun.since) ∙ append_assoc v.seen (reverse begun.more) (reverse all_adds.more)),
    );
    runs = all_adds.runs entered.runs;
    knows = all_adds.knows entered.knows;
    given = all_adds.given ∙ entered.given;
    base = all_adds.base ∙ entered.base;
    room = all_adds.room ∙ entered.room;
    told = subst (λ (s : Ending). MatchOption s.conn (RefusedAs peer v z a b s.end) (λ k. ServedAs g peer v z a b k s.end)) (sym is) (served_as read written);
  }

-- no connection could enter
turned_away : (h : List Entry) (fault : EnterFault) (x : Life) (y : Life) → answers.Enters x (Err fault) y → (y ≡ x) × TurnedAway x.history (refusal fault)
turned_away h (enter_fault.Limit conns calls bytes) x y answer = (answer.4, (answer.0, answer.2, answer.3))
turned_away h enter_fault.WantMemory x y answer = (answer.1, tt)

pub refused : (g : Givens) (peer : Peer) (v : View Givens Entry) (h : List Entry) (w : View Givens Entry) (a b : Shown) (fault : EnterFault) (session : Ending)
    → Turns g v h w
    → answers.Enters (life_at g h) (Err fault) (life_at g (past w)) → TurnsAway peer fault a b session → Served g peer v w a b session
refused g peer v h w a b fault session turns answer away =
    let told = turned_away h fault (life_at g h) (life_at g (past w)) answer in
    let same : past w ≡ h = ap (λ (l : Life). l.history) told.0 in
    record {
      grows = (reverse turns.goes_on.more, seen_front v w turns.goes_on.more (same ∙ turns.goes_on.is));
      runs = turns.runs;
      knows = turns.knows;
      given = turns.given;
      base = turns.base;
      room = turns.room;
      told = subst (λ (s : Ending). MatchOption s.conn (RefusedAs peer v w a b s.end) (λ k. ServedAs g peer v w a b k s.end)) (sym away.is) (record {
        out = away.out;
        moved = away.moved;
        whole = away.whole;
        cause = subst (λ k. TurnedAway k (refusal fault)) (sym same) told.1;
        mine = turns.none_made same;
      });
    }

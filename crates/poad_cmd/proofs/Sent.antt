-- What arrived on the connections of a run's links, and what filled it, is among what the links send.
use Rattle.std.proofs.Common.{◌≡◌, ℕ, ◌+◌, ◌≤◌, List, [], ◌∷◌, ◌++◌, reverse, Option, Some, None, refl, sym, ap, ◌∙◌, subst, arith, append_assoc, append-nil, ⊎_elim}
use Rattle.std.specs.Prelude.{MatchOption, IfSome}
use Rattle.std.specs.Option.{IsSomeAnd}
use Rattle.std.proofs.lemmas.List.{reverse-reverse}
use Rattle.outside.specs.Accepting.{Standing}
use Rattle.outside.specs.Link.{Shown}
use Rattle.outside.specs.Told.{IfTold}
use Rattle.poa_base.specs.declared.Call.{Call}
use Rattle.poa_base.specs.declared.Entry.{Entry}
use Rattle.poa_base.specs.declared.SessionEnd.{SessionEnd}
use Rattle.poa_history.specs.declared.givens.Givens.{Givens}
use Rattle.poad_cmd.proofs.Arriving.{weighed_by}
use Rattle.poad_cmd.proofs.Filling.{asked, refused}
use Rattle.poad_cmd.proofs.LongerHearing.{begins_in}
use Rattle.poad_cmd.proofs.Sums.{total_both}
use Rattle.poad_cmd.specs.Sending.{AreSent, DoorSends, DoorsSend, LinksSend, Sends}
use Rattle.seat_lock.specs.Histories.{total}
use Rattle.serve_run.specs.Attending.{Attended}
use Rattle.serve_run.specs.Lanes.{AreOf, closed_doors}
use Rattle.serve_run.specs.Served.{EachDoor, EachSession, IsSession, IsTurnedAway}
use Rattle.serve_run.specs.Tours.{EachPassed, HasPassed, Tour}
use Rattle.serve_run.specs.Visits.{Passes, Visit, given}
use Rattle.serve_run.specs.declared.doors.Doors.{Doors}
use Rattle.serve_run.specs.declared.outcome.Want.{Want}
use Rattle.session_laws.proofs.Ends.{input_begins}
use Rattle.session_laws.specs.Hearing.{Heard, Stop}
use Rattle.session_laws.specs.Records.{arrived_by, filling_by}
use Rattle.session_laws.specs.Sessions.{Begins, Hears, IsNext, SessionBy}
use Rattle.session_laws.specs.declared.peer.Peer.{Peer}
use Rattle.session_laws.specs.declared.peer.Peer.TheVariants.{Administrator, Client}

-- a link gave the front of what it holds
front_of : (peer : Peer) (calls : List Heard) (text : List ℕ) (left now : Option (List ℕ)) → IfTold left now (λ before after. before ≡ text ++ after)
    → IsSomeAnd left (λ whole. (stop : Stop) × Hears peer whole calls stop) → (next : List ℕ) × (stop : Stop) × Hears peer (text ++ next) calls stop
front_of peer calls text None now read holds = absurd holds
front_of peer calls text (Some whole) None read holds = absurd read
front_of peer calls text (Some whole) (Some after) read holds = (after, holds.0, subst (λ t. Hears peer t calls holds.0) read holds.1)

module _ (g : Givens) (weight : Heard → ℕ) (least : ℕ → ℕ) (weighs : (call : Call) (size : ℕ) → least size ≤ weight (record { call = call; size = size })) where
  -- what a connection asked for is among what its link sends
  asked_by : (peer : Peer) (h : List Entry) (c : ℕ) (text next : List ℕ) (whole : List Heard) (last : Stop) → Hears peer (text ++ next) whole last
      → Begins peer text (arrived_by h c) → (filling : Option ℕ) → IfSome filling (IsNext peer text (arrived_by h c))
      → weighed_by weight h c + refused least filling ≤ total weight whole
  asked_by peer h c text next whole last hears begins None none =
      let on = begins_in peer text next (arrived_by h c) whole last begins hears in
      let sum : total weight whole ≡ weighed_by weight h c + total weight on.0 = ap (total weight) on.1 ∙ total_both weight (arrived_by h c) on.0 in
      omega (arith, sum)
  asked_by peer h c text next whole last hears begins (Some size) is =
      let heard : Heard = record { call = is.call; size = size } in
      let on = begins_in peer text next (arrived_by h c ++ heard ∷ []) whole last is.begins hears in
      let sum : total weight whole ≡ total weight (arrived_by h c ++ heard ∷ []) + total weight on.0 =
      ap (total weight) on.1 ∙ total_both weight (arrived_by h c ++ heard ∷ []) on.0 in
      let front = total_both weight (arrived_by h c) (heard ∷ []) in
      let one = weighs is.call size in
      omega (arith, sum, front, one)

  pub asked_in : (peer : Peer) (h : List Entry) (a b : Shown) (c : ℕ) (end : SessionEnd) (calls : List Heard) → IsSession g peer (reverse h) a b c end
      → Sends peer a calls → asked weight least h c ≤ total weight calls
  asked_in peer h a b c end calls is sends =
      let session : SessionBy g peer h c is.text is.out end =
      subst (λ l. SessionBy g peer l c is.text is.out end) (reverse-reverse h) is.session in
      let front = front_of peer calls is.text a.left b.left is.moved.read sends in
      asked_by peer h c is.text front.0 calls front.1 front.2 (input_begins peer is.text (arrived_by h c) end session.input) (filling_by h c) session.filled

-- a measure of visits, and of the calls of a link, of which the one is within the other
module _ {L : Type 0} (g : Givens) (shown : L → Shown) (h : List Entry) (measure : Visit L → ℕ) (room : List Heard → ℕ) where
  -- what the session of a link is
  abbrev pub IsVisited : Peer → Visit L → Type 0
  IsVisited peer x = MatchOption x.session.conn (IsTurnedAway (reverse h) x.session.end)
      (λ c. IsSession g peer (reverse h) (shown x.before) (shown x.after) c x.session.end)

  abbrev pub IsWithin : Type 0
  IsWithin = (peer : Peer) (x : Visit L) (calls : List Heard) → IsVisited peer x → Sends peer (shown x.before) calls → measure x ≤ room calls

  module _ (within : IsWithin) where
    module _ {A : Type 0} (standing : A → Option (Standing L)) (faults : A → ℕ) where
      -- the visits of a door, of whose links these are left
      record OfVisits (peer : Peer) (visits : List (Visit L)) (left : List L) (sent : List (List Heard)) : Type 0 where
        pub theirs : List (List Heard)
        pub behind : LinksSend {A = A} {L = L} shown standing peer left theirs
        pub few : total measure visits + total room theirs ≤ total room sent

      one_visit : (peer : Peer) (x : Visit L) (earlier : List (Visit L)) (left : List L) (sent theirs : List (List Heard)) → IsVisited peer x
          → LinksSend {A = A} {L = L} shown standing peer (x.before ∷ left) theirs → total measure earlier + total room theirs ≤ total room sent
          → OfVisits peer (x ∷ earlier) left sent
      one_visit peer x earlier left sent [] is sends few = absurd sends
      one_visit peer x earlier left sent (calls ∷ theirs) is sends few =
          record { theirs = theirs; behind = sends.1; few = (let one = within peer x calls is sends.0 in omega (arith, few, one)) }

      of_visits : (peer : Peer) (visits : List (Visit L)) (left : List L) (sent : List (List Heard))
          → LinksSend {A = A} {L = L} shown standing peer (given visits left) sent → EachSession {L = L} g shown (reverse h) peer visits
          → OfVisits peer visits left sent
      of_visits peer [] left sent sends each = record { theirs = sent; behind = sends; few = omega arith }
      of_visits peer (x ∷ earlier) left sent sends each =
          let before = of_visits peer earlier (x.before ∷ left) sent sends each.1 in
          one_visit peer x earlier left sent before.theirs each.0 before.behind before.few

      -- a door
      told_door : (peer : Peer) (visits : List (Visit L)) (sent : List (List Heard)) (closed served : Option (Standing L))
          → IsSomeAnd closed (λ s. LinksSend {A = A} {L = L} shown standing peer s.left sent) → IfTold closed served (Passes visits)
          → EachSession {L = L} g shown (reverse h) peer visits → total measure visits ≤ total room sent
      told_door peer visits sent None served sends passes each = absurd sends
      told_door peer visits sent (Some old) None sends passes each = absurd passes
      told_door peer visits sent (Some old) (Some new) sends passes each =
          let it = of_visits peer visits new.left sent
          (subst (λ (links : List L). LinksSend {A = A} {L = L} shown standing peer links sent) passes.left sends) each in
          let few = it.few in omega (arith, few)

      abbrev pub measured : Tour A L → ℕ
      measured t = total measure t.visits

      one_door : (peer : Peer) (t : Tour A L) (sent : List (List Heard)) → t.peer ≡ peer → DoorSends {A = A} {L = L} shown standing peer t.closed sent
          → HasPassed {A = A} {L = L} standing faults t → EachSession {L = L} g shown (reverse h) t.peer t.visits → measured t ≤ total room sent
      one_door peer t sent is sends passed each =
          told_door peer t.visits sent (standing t.closed) (standing t.served) sends passed.passes
          (subst (λ (p : Peer). EachSession {L = L} g shown (reverse h) p t.visits) is each)

      -- doors of which the last is served first
      record Parted (peer : Peer) (doors : List A) (last : A) (sent : List (List Heard)) : Type 0 where
        pub front : List (List Heard)
        pub back : List (List Heard)
        pub both : sent ≡ front ++ back
        pub fronts : DoorsSend {A = A} {L = L} shown standing peer doors front
        pub backs : DoorSends {A = A} {L = L} shown standing peer last back

      parted : (peer : Peer) (doors : List A) (last : A) (sent : List (List Heard))
          → DoorsSend {A = A} {L = L} shown standing peer (doors ++ last ∷ []) sent → Parted peer doors last sent
      parted peer [] last sent sends = record {
        front = [];
        back = sends.0;
        both = sends.2 ∙ (ap (λ l. sends.0 ++ l) sends.4 ∙ append-nil sends.0);
        fronts = refl;
        backs = sends.3;
      }
      parted peer (door ∷ doors) last sent sends =
          let rest = parted peer doors last sends.1 sends.4 in
          record {
            front = sends.0 ++ rest.front;
            back = rest.back;
            both = sends.2 ∙ (ap (λ l. sends.0 ++ l) rest.both ∙ sym (append_assoc sends.0 rest.front rest.back));
            fronts = (sends.0, rest.front, refl, sends.3, rest.fronts);
            backs = rest.backs;
          }

      lanes_in : (rest : List A) (lanes : List (Tour A L)) (sent : List (List Heard))
          → DoorsSend {A = A} {L = L} shown standing Client (closed_doors rest lanes) sent → AreOf Client lanes
          → EachPassed {A = A} {L = L} standing faults lanes → EachDoor {A = A} {L = L} g shown (reverse h) lanes → total measured lanes ≤ total room sent
      lanes_in rest [] sent sends of passed each = omega arith
      lanes_in rest (t ∷ more) sent sends of passed each =
          let p = parted Client (closed_doors rest more) t.closed sent sends in
          let one = one_door Client t p.back of.0 p.backs passed.0 each.0 in
          let others = lanes_in rest more p.front p.fronts of.1 passed.1 each.1 in
          let both : total room sent ≡ total room p.front + total room p.back = ap (total room) p.both ∙ total_both room p.front p.back in
          omega (arith, one, others, both)

      -- all doors
      pub tours_in : (tours : List (Tour A L)) (short : Option Want) (old new : Doors A) (sent : List (List Heard))
          → Attended {A = A} {L = L} tours short old new → AreSent {A = A} {L = L} shown standing old sent
          → EachPassed {A = A} {L = L} standing faults tours → EachDoor {A = A} {L = L} g shown (reverse h) tours → total measured tours ≤ total room sent
      tours_in tours short old new sent at are passed each =
          let both : total room sent ≡ total room are.admins + total room are.clients = ap (total room) are.both ∙ total_both room are.admins are.clients in
          let by_lanes : (ps : EachPassed {A = A} {L = L} standing faults at.lanes) (es : EachDoor {A = A} {L = L} g shown (reverse h) at.lanes)
          → total measured at.lanes ≤ total room are.clients =
          lanes_in at.rest at.lanes are.clients
          (subst (λ (ds : List A). DoorsSend {A = A} {L = L} shown standing Client ds are.clients) at.before are.lanes) at.clients in
          ⊎_elim
          (λ served.
          (let ps : EachPassed {A = A} {L = L} standing faults (served.0 ∷ at.lanes) = subst (EachPassed {A = A} {L = L} standing faults) served.1 passed in
          let es : EachDoor {A = A} {L = L} g shown (reverse h) (served.0 ∷ at.lanes) = subst (EachDoor {A = A} {L = L} g shown (reverse h)) served.1 each in
          let one = one_door Administrator served.0 are.admins served.2
          (subst (λ (d : A). DoorSends {A = A} {L = L} shown standing Administrator d are.admins) (sym served.3) are.admin) ps.0 es.0 in
          let others = by_lanes ps.1 es.1 in
          let all : total measured tours ≡ measured served.0 + total measured at.lanes = ap (total measured) served.1 in
          omega (arith, both, one, others, all)))
          (λ left.
          (let others = by_lanes (subst (EachPassed {A = A} {L = L} standing faults) left.0 passed) (subst (EachDoor {A = A} {L = L} g shown (reverse h)) left.0 each) in
          let all : total measured tours ≡ total measured at.lanes = ap (total measured) left.0 in
          omega (arith, both, others, all)))
          at.admin

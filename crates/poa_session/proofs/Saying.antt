-- What a connection let arrive is calls of messages and lines, and so each reply that it is given can be written.
use Rattle.std.proofs.Common.{◌≡◌, ℕ, List, ◌++◌, Some, sym, subst, ◌∙◌}
use Rattle.std.specs.Prelude.{Ok}
use Rattle.poa_base.specs.declared.Entry.{Entry}
use Rattle.poa_base.specs.declared.Head.{Head}
use Rattle.session_laws.specs.Calls.{IsGivenTo}
use Rattle.session_laws.proofs.Calls.{some_given}
use Rattle.history_standing.specs.Arrivals.{call_of, conn_of}
use Rattle.poa_history.specs.declared.Givens.{Givens}
use Rattle.poa_history.specs.Life.{life_at}
use Rattle.poa_core.specs.Answers as answers
use Rattle.poa_core.specs.declared.Collected.{Collected}
use Rattle.poa_core.specs.declared.Collected.TheVariants as collected
use Rattle.poa_shared.specs.Events.{CollectsFitting}
use Rattle.poa_shared.specs.Seen.{Owns, Turns, past}
use Rattle.seat_lock.specs.declared.view.View.{View}
use Rattle.session_laws.specs.Hearing.{Heard, AreSaid}
use Rattle.session_laws.specs.Records.{arrived_by}
use Rattle.session_laws.proofs.Said.{next_on, said_arrived, said_both}
use Rattle.poa_session.specs.Growing.{Adds}
use Rattle.poa_session.specs.Saying.{HasSaid, IsGiven}
use Rattle.poa_session.proofs.Adding.{adds_both, found_arrived}
use Rattle.poa_session.proofs.Entering.{begun}

-- more of them arrive
pub said_on : (c : ℕ) (v w : View Givens Entry) (said : HasSaid c v) (calls : List Heard) (replies : List ℕ) → Adds said.givens c v w calls replies
    → AreSaid calls → HasSaid c w
said_on c v w said calls replies adds more = record {
  givens = said.givens;
  given = adds.given ∙ said.given;
  said = subst AreSaid (sym adds.arrived_is) (said_both (arrived_by (past v) c) calls said.said more);
}

pub said_twice : (c : ℕ) (v w u : View Givens Entry) (said : HasSaid c v) (calls later : List Heard) (replies after : List ℕ)
    → Adds said.givens c v w calls replies → AreSaid calls → Adds said.givens c w u later after → AreSaid later → HasSaid c u
said_twice c v w u said calls later replies after adds some more rest =
    said_on c v u said (calls ++ later) (replies ++ after) (adds_both said.givens c v w u calls later replies after adds more) (said_both calls later some rest)

module _ (g : Givens) (c : ℕ) (v : View Givens Entry) (h : List Entry) (w : View Givens Entry) (turns : Turns g v h w) where
  -- none arrived on a connection that has just entered
  pub said_none : v.givens ≡ Some g → answers.Enters (life_at g h) (Ok c) (life_at g (past w)) → HasSaid c w
  said_none given answer =
      record { givens = g; given = turns.given ∙ given; said = subst AreSaid (sym (begun g v h w c turns answer).calls) tt }

  -- a reply is one to such a call
  pub is_given : (it : Collected) → Owns v c → AreSaid (arrived_by (past v) c) → CollectsFitting c it (life_at g h) (life_at g (past w)) → IsGiven it
  is_given (collected.Reply r head reply) owns said event =
      let found : AreSaid (arrived_by h c) = subst AreSaid (sym (found_arrived g c v h w turns owns)) said in
      let on : conn_of h r ≡ Some c = next_on g.config g.run h c r event.0.0 in
      subst (λ (x : Head). IsGivenTo x reply) (sym event.0.1)
      (some_given (call_of h r) reply (λ call there. said_arrived c h found r call on there) event.1)
  is_given (collected.Nothing owes) owns said event = tt

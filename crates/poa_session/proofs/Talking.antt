-- A session from its entering on, round by round.
use Rattle.std.proofs.Common.{◌≡◌, ℕ, ◌+◌, ◌^◌, ◌≤◌, true, List, [], ◌++◌, length, length-append, refl, sym, ap, subst, ◌∙◌, append-nil, arith}
use Rattle.std.specs.Prelude.{Option, None, IfSome}
use Rattle.poa_base.specs.declared.Entry.{Entry}
use Rattle.poa_base.specs.declared.SessionEnd.{SessionEnd}
use Rattle.poa_base.specs.declared.SessionEnd.TheVariants.{WantMemory}
use Rattle.seat_lock.specs.declared.view.View.{View}
use Rattle.outside.specs.Link.{Shown, Moves}
use Rattle.outside.proofs.Moving.{moves_both, moves_none}
use Rattle.poa_history.specs.declared.Givens.{Givens}
use Rattle.poa_shared.specs.Seen.{past}
use Rattle.session_laws.specs.declared.Peer.{Peer}
use Rattle.session_laws.specs.Hearing.{Heard, AreSaid}
use Rattle.session_laws.specs.Records.{arrived_by, joined_by, filling_by, is_late_by}
use Rattle.session_laws.specs.Sessions.{IsNext}
use Rattle.session_laws.specs.Expecting.{Expects}
use Rattle.session_laws.proofs.Expected.{expects_begins}
use Rattle.session_laws.specs.HearingPieces.{Intake, KnowsFirst, OfIntake}
use Rattle.session_laws.proofs.GoingOn.{intake_goes_on}
use Rattle.session_laws.proofs.Said.{said_both}
use Rattle.poa_session.specs.Growing.{Adds}
use Rattle.poa_session.specs.Rounding.{Rounds}
use Rattle.poa_session.specs.Settling.{Converses, Settled, Settles}
use Rattle.poa_session.specs.declared.flow.Flow.{Flow}
use Rattle.poa_session.specs.declared.flow.Flow.TheVariants as flow
use Rattle.poa_session.proofs.Adding.{adds_both, adds_same}
use Rattle.poa_session.proofs.Ending.{settled_broken}

-- what is known of what still comes, where the connection had done nothing before
pub record Knows (g : Givens) (peer : Peer) (c : ℕ) (v w : View Givens Entry) (i : Intake) (text : List ℕ) : Type 0 where
  pub unfilled : filling_by (past w) c ≡ None
  pub expects : Expects peer (OfIntake i) text (arrived_by (past w) c)

-- so far this text was read and taken in, these calls arrived, and all replies that were given are written
pub record Sits (g : Givens) (peer : Peer) (c : ℕ) (v : View Givens Entry) (a : Shown) (w : View Givens Entry) (b : Shown) (i : Intake) : Type 0 where
  pub text : List ℕ
  pub calls : List Heard
  pub said : AreSaid calls
  pub replies : List ℕ
  pub adds : Adds g c v w calls replies
  pub moved : Moves a b text replies
  pub few : length text ≤ 2 ^ 40
  pub counted : length text ≡ i.taken
  pub silent : is_late_by (past v) c ≡ true → calls ≡ []
  pub first : KnowsFirst peer i.ear text
  pub knows : arrived_by (past v) c ≡ [] → filling_by (past v) c ≡ None → Knows g peer c v w i text

pub sits_new : (g : Givens) (peer : Peer) (c : ℕ) (v : View Givens Entry) (a : Shown) (i : Intake) → Expects peer (OfIntake i) [] [] → i.taken ≡ 0
    → KnowsFirst peer i.ear [] → Sits g peer c v a v a i
sits_new g peer c v a i expects none first = record {
  text = [];
  calls = [];
  said = tt;
  replies = [];
  adds = adds_same g c v;
  moved = moves_none a;
  few = omega arith;
  counted = sym none;
  silent = λ _. refl;
  first = first;
  knows = λ nothing unfilled. record { unfilled = unfilled; expects = subst (Expects peer (OfIntake i) []) (sym nothing) expects };
}

module _ (g : Givens) (peer : Peer) (c : ℕ) (v : View Givens Entry) (a : Shown) (w : View Givens Entry) (b : Shown) (i : Intake)
    (x : Sits g peer c v a w b i) where
  joined_so_far : joined_by g (past v) c ≡ [] → joined_by g (past w) c ≡ x.replies
  joined_so_far nothing = x.adds.joined_is ∙ ap (λ rs. rs ++ x.replies) nothing

  filled_none : (text : List ℕ) (u : View Givens Entry) → filling_by (past u) c ≡ None
      → IfSome (filling_by (past u) c) (IsNext peer text (arrived_by (past u) c))
  filled_none text u unfilled = subst (λ (o : Option ℕ). IfSome o (IsNext peer text (arrived_by (past u) c))) (sym unfilled) tt

  -- no memory is there to go on
  pub sits_lost : Converses g peer c v a w b WantMemory
  sits_lost = record {
    text = x.text;
    out = x.replies ++ [];
    calls = x.calls;
    replies = x.replies;
    adds = x.adds;
    moved = subst (Moves a b x.text) (sym (append-nil x.replies)) x.moved;
    few = x.few;
    silent = x.silent;
    settled = λ ran nothing joined unfilled.
        (let known = x.knows nothing unfilled in
        settled_broken g peer c w x.text x.replies [] [] WantMemory b (joined_so_far joined ∙ sym (append-nil x.replies)) ([], refl)
        (expects_begins peer (OfIntake i) x.text (arrived_by (past w) c) known.expects (intake_goes_on i [])) (filled_none x.text w known.unfilled));
  }

  module _ (u : View Givens Entry) (z : Shown) (j : Intake) where
    all_silent : (f : Flow) (y : Rounds g peer c w b i u z j f) → is_late_by (past v) c ≡ true → x.calls ++ y.calls ≡ []
    all_silent f y late = ap (λ cs. cs ++ y.calls) (x.silent late) ∙ y.silent (x.adds.late_is ∙ late)

    all_few : (f : Flow) (y : Rounds g peer c w b i u z j f) → length (x.text ++ y.piece) ≤ 2 ^ 40
    all_few f y =
        subst (λ n. n ≤ 2 ^ 40) (sym (length-append x.text y.piece ∙ ap (λ n. n + length y.piece) x.counted)) (y.few (subst (λ n. n ≤ 2 ^ 40) x.counted x.few))

    pub sits_on : Rounds g peer c w b i u z j flow.On → Sits g peer c v a u z j
    sits_on y = record {
      text = x.text ++ y.piece;
      calls = x.calls ++ y.calls;
      said = said_both x.calls y.calls x.said y.said;
      replies = x.replies ++ y.due;
      adds = adds_both g c v w u x.calls y.calls x.replies y.due x.adds y.adds;
      moved = subst (λ ds. Moves a z (x.text ++ y.piece) (x.replies ++ ds)) y.goes_on.0 (moves_both a b z x.text x.replies y.piece y.done x.moved y.moved);
      few = all_few flow.On y;
      counted = length-append x.text y.piece ∙ (ap (λ n. n + length y.piece) x.counted ∙ sym y.goes_on.1);
      silent = all_silent flow.On y;
      first = y.first x.text x.first;
      knows = λ nothing unfilled.
          (let known = x.knows nothing unfilled in
          let went = y.flows x.text x.counted known.unfilled known.expects in
          record { unfilled = went.0; expects = went.1 });
    }

    -- what was written breaks off
    pub sits_broken : (end : SessionEnd) → Rounds g peer c w b i u z j (flow.Broke end) → Converses g peer c v a u z end
    sits_broken end y = record {
      text = x.text ++ y.piece;
      out = x.replies ++ y.done;
      calls = x.calls ++ y.calls;
      replies = x.replies ++ y.due;
      adds = adds_both g c v w u x.calls y.calls x.replies y.due x.adds y.adds;
      moved = moves_both a b z x.text x.replies y.piece y.done x.moved y.moved;
      few = all_few (flow.Broke end) y;
      silent = all_silent (flow.Broke end) y;
      settled = λ ran nothing joined unfilled.
          (let known = x.knows nothing unfilled in
          let went = y.flows x.text x.counted known.unfilled known.expects in
          settled_broken g peer c u (x.text ++ y.piece) x.replies y.due y.done end z
          (y.adds.joined_is ∙ ap (λ rs. rs ++ y.due) (joined_so_far joined)) went.0 went.1
          (filled_none (x.text ++ y.piece) u went.2));
    }

    -- the session ends
    pub sits_ended : (end result : SessionEnd) (t : View Givens Entry) (q : Shown) → Rounds g peer c w b i u z j (flow.Ends end)
        → Settles g peer c u z j t q end result → Converses g peer c v a t q result
    sits_ended end result t q y s = record {
      text = (x.text ++ y.piece) ++ [];
      out = (x.replies ++ y.done) ++ s.done;
      calls = (x.calls ++ y.calls) ++ [];
      replies = (x.replies ++ y.due) ++ s.due;
      adds = adds_both g c v u t (x.calls ++ y.calls) [] (x.replies ++ y.due) s.due (adds_both g c v w u x.calls y.calls x.replies y.due x.adds y.adds) s.adds;
      moved = moves_both a z q (x.text ++ y.piece) (x.replies ++ y.done) [] s.done (moves_both a b z x.text x.replies y.piece y.done x.moved y.moved) s.moved;
      few = subst (λ t. length t ≤ 2 ^ 40) (sym (append-nil (x.text ++ y.piece))) (all_few (flow.Ends end) y);
      silent = λ late. append-nil (x.calls ++ y.calls) ∙ all_silent (flow.Ends end) y late;
      settled = λ ran nothing joined unfilled.
          (let known = x.knows nothing unfilled in
          let went = y.flows x.text x.counted known.unfilled known.expects in
          let out : joined_by g (past u) c ≡ x.replies ++ y.done = y.adds.joined_is
          ∙ (ap (λ rs. rs ++ y.due) (joined_so_far joined) ∙ ap (λ ds. x.replies ++ ds) (sym went.0)) in
          subst (λ tx. Settled g peer c t tx ((x.replies ++ y.done) ++ s.done) result q) (sym (append-nil (x.text ++ y.piece)))
          (subst (λ rs. Settled g peer c t (x.text ++ y.piece) (rs ++ s.done) result q) out
          (s.settled (x.text ++ y.piece) (y.adds.runs (x.adds.runs ran)) went.1 went.2 (y.first x.text x.first))));
    }

-- What the input says next, and what that does.
use Rattle.std.proofs.Common.{◌≡◌, ℕ, List, [], ◌∷◌, refl, sym, subst, inl}
use Rattle.std.specs.Prelude.{Option, Result, None, Ok, Err, IfSome}
use Rattle.std.specs.declared.alloc.AllocError.{AllocError}
use Rattle.poa_base.specs.declared.Call.{Call}
use Rattle.poa_base.specs.declared.Entry.{Entry}
use Rattle.poa_base.specs.declared.SessionEnd.TheVariants.{Ended, Malformed, WantMemory}
use Rattle.seat_lock.specs.declared.view.View.{View}
use Rattle.poa_history.specs.declared.Givens.{Givens}
use Rattle.poa_shared.specs.Seen.{past}
use Rattle.session_laws.specs.declared.Peer.{Peer}
use Rattle.session_laws.specs.Hearing.{Heard, closed, bad}
use Rattle.session_laws.specs.Records.{arrived_by, filling_by}
use Rattle.session_laws.specs.Sessions.{IsNext}
use Rattle.session_laws.specs.Expecting.{Expects}
use Rattle.session_laws.proofs.Expected.{expects_begins, expects_call, expects_next, expects_same, expects_stop}
use Rattle.session_laws.specs.declared.Told.{Told}
use Rattle.session_laws.specs.declared.Told.TheVariants as told
use Rattle.session_laws.specs.HearingPieces.{AsTold, Intake, OfIntake}
use Rattle.session_laws.proofs.GoingOn.{intake_goes_on}
use Rattle.poa_session.specs.Listening.{AsArrived, Hears, IsNextTold, IsSized}
use Rattle.poa_session.specs.declared.progress.Progress.{Progress}
use Rattle.poa_session.specs.declared.progress.Progress.TheVariants as progress
use Rattle.poa_session.proofs.Adding.{adds_same}

-- a call that was read has the size of a message or a line
pub sized : (r : Result Told AllocError) (i j : Intake) → IsNextTold i r j → IsSized r
sized (Ok (told.Call call size)) i j next = next.0.1
sized (Ok told.Nothing) i j next = tt
sized (Ok (told.More have)) i j next = tt
sized (Ok told.Closed) i j next = tt
sized (Ok (told.Bad at)) i j next = tt
sized (Err fault) i j next = tt

module _ (g : Givens) (peer : Peer) (c : ℕ) (v : View Givens Entry) (i j : Intake) (taken : j.taken ≡ i.taken) where
  -- a call
  pub hears_call : (w : View Givens Entry) (call : Call) (size : ℕ) (r : Progress) → AsTold (told.Call call size) (OfIntake i) (OfIntake j)
      → AsArrived g c call size v w r → Hears g peer c v i w j r
  hears_call w call size progress.On tells arrived =
      let heard : Heard = record { call = call; size = size } in
      record {
        calls = heard ∷ [];
        said = (tells.2, tt);
        adds = arrived.0;
        heard = (
          arrived.1,
          λ text expected. subst (Expects peer (OfIntake j) text) (sym arrived.0.arrived_is)
              (expects_call peer (OfIntake i) (OfIntake j) text (arrived_by (past v) c) expected heard tells.0),
        );
        taken = taken;
      }
  hears_call w call size (progress.Waits have) tells arrived = absurd arrived
  hears_call w call size (progress.Ends end) tells arrived = record {
    calls = [];
    said = tt;
    adds = arrived.0;
    heard = λ text unfilled expected. (
      arrived.1 peer text unfilled (expects_next peer (OfIntake i) (OfIntake j) text (arrived_by (past v) c) expected call size tells.0 (intake_goes_on j [])),
      λ shown. arrived.2 peer text shown,
    );
    taken = taken;
  }

  -- nothing that is asked
  pub hears_nothing : AsTold told.Nothing (OfIntake i) (OfIntake j) → Hears g peer c v i v j progress.On
  hears_nothing tells = record {
    calls = [];
    said = tt;
    adds = adds_same g c v;
    heard = (refl, λ text expected. expects_same peer (OfIntake i) (OfIntake j) text (arrived_by (past v) c) expected tells);
    taken = taken;
  }

  -- nothing more
  pub hears_more : (have : ℕ) → AsTold (told.More have) (OfIntake i) (OfIntake j) → Hears g peer c v i v j (progress.Waits have)
  hears_more have tells = record {
    calls = [];
    said = tt;
    adds = adds_same g c v;
    heard = (refl, tells.1, λ text expected. expects_same peer (OfIntake i) (OfIntake j) text (arrived_by (past v) c) expected tells.0);
    taken = taken;
  }

  none_filled : (text : List ℕ) → filling_by (past v) c ≡ None → IfSome (filling_by (past v) c) (IsNext peer text (arrived_by (past v) c))
  none_filled text unfilled = subst (λ (x : Option ℕ). IfSome x (IsNext peer text (arrived_by (past v) c))) (sym unfilled) tt

  -- a CloseConnection
  pub hears_closed : AsTold told.Closed (OfIntake i) (OfIntake j) → Hears g peer c v i v j (progress.Ends Ended)
  hears_closed tells = record {
    calls = [];
    said = tt;
    adds = adds_same g c v;
    heard = λ text unfilled expected.
        (let heard = expects_stop peer (OfIntake i) text (arrived_by (past v) c) expected closed (tells []) in (
          record { input = inl heard; cause = inl (arrived_by (past v) c, heard); filled = none_filled text unfilled },
          λ shown. inl (arrived_by (past v) c, heard),
        ));
    taken = taken;
  }

  -- what can't be read
  pub hears_bad : (at : ℕ) → AsTold (told.Bad at) (OfIntake i) (OfIntake j) → Hears g peer c v i v j (progress.Ends (Malformed at))
  hears_bad at tells = record {
    calls = [];
    said = tt;
    adds = adds_same g c v;
    heard = λ text unfilled expected. (
      record { input = expects_stop peer (OfIntake i) text (arrived_by (past v) c) expected (bad at) (tells []); cause = tt; filled = none_filled text unfilled },
      λ shown. tt,
    );
    taken = taken;
  }

  -- what there is no memory for
  pub hears_lost : Hears g peer c v i v j (progress.Ends WantMemory)
  hears_lost = record {
    calls = [];
    said = tt;
    adds = adds_same g c v;
    heard = λ text unfilled expected. (
      record {
        input = expects_begins peer (OfIntake i) text (arrived_by (past v) c) expected (intake_goes_on i []);
        cause = tt;
        filled = none_filled text unfilled;
      },
      λ shown. tt,
    );
    taken = taken;
  }

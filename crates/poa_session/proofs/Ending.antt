-- How a session comes to its end.
use Rattle.std.proofs.Common.{◌≡◌, ℕ, true, false, List, [], ◌++◌, refl, sym, ap, subst, ◌∙◌, append_assoc, append-nil, inl, inr}
use Rattle.std.specs.Prelude.{Option, Some, None, IfSome}
use Rattle.poa_base.specs.declared.Entry.{Entry}
use Rattle.poa_base.specs.declared.SessionEnd.{SessionEnd}
use Rattle.poa_base.specs.declared.SessionEnd.TheVariants.{Ended, Shut, ReadFault, WriteFault, Malformed, Truncated, InputLimit, Limit, Abandoned, WantMemory}
use Rattle.poa_history.specs.Legal.{IsLegal}
use Rattle.seat_lock.specs.declared.view.View.{View}
use Rattle.outside.specs.Told.{IfTold}
use Rattle.outside.specs.Link.{Shown, Moves, Writes}
use Rattle.outside.proofs.Moving.{moves_none, moves_out}
use Rattle.poa_history.specs.declared.Givens.{Givens}
use Rattle.poa_history.specs.GivenRuns.{IsHistory}
use Rattle.poa_shared.specs.Seen.{past}
use Rattle.session_laws.specs.declared.Peer.{Peer}
use Rattle.session_laws.specs.Hearing.{Heard}
use Rattle.session_laws.specs.Records.{arrived_by, joined_by, filling_by, IsPaidBy}
use Rattle.session_laws.specs.HearingPieces.{Intake, KnowsFirst}
use Rattle.session_laws.specs.Sessions.{Begins, CauseBy, ClosesIn, Input, IsNext, Output, closing, is_settling}
use Rattle.session_laws.proofs.Causes.{cause_since}
use Rattle.session_laws.proofs.Ends.{input_begins, output_now, output_settled, short_of_closing, short_of_replies}
use Rattle.poa_session.specs.Growing.{Adds}
use Rattle.poa_session.specs.Served.{DriesUp}
use Rattle.poa_session.specs.Paying.{BreaksOff}
use Rattle.poa_session.specs.Settling.{Settled, Settles}
use Rattle.poa_session.proofs.Adding.{adds_same}

-- a session that breaks off
module _ (peer : Peer) (text : List ℕ) (calls : List Heard) (begins : Begins peer text calls) where
  break_input : (h : List Entry) (due done : List ℕ) (end : SessionEnd) → BreaksOff h end due done → Input peer text calls end
  break_input h due done WriteFault breaks = begins
  break_input h due done WantMemory breaks = begins
  break_input h due done (Abandoned worker) breaks = begins
  break_input h due done Ended breaks = absurd breaks
  break_input h due done Shut breaks = absurd breaks
  break_input h due done ReadFault breaks = absurd breaks
  break_input h due done (Malformed at) breaks = absurd breaks
  break_input h due done (Truncated have) breaks = absurd breaks
  break_input h due done (InputLimit taken) breaks = absurd breaks
  break_input h due done (Limit many bytes) breaks = absurd breaks

  break_cause : (h : List Entry) (due done : List ℕ) (end : SessionEnd) → BreaksOff h end due done → CauseBy peer h calls text end
  break_cause h due done WriteFault breaks = tt
  break_cause h due done WantMemory breaks = tt
  break_cause h due done (Abandoned worker) breaks = breaks.1
  break_cause h due done Ended breaks = absurd breaks
  break_cause h due done Shut breaks = absurd breaks
  break_cause h due done ReadFault breaks = absurd breaks
  break_cause h due done (Malformed at) breaks = absurd breaks
  break_cause h due done (Truncated have) breaks = absurd breaks
  break_cause h due done (InputLimit taken) breaks = absurd breaks
  break_cause h due done (Limit many bytes) breaks = absurd breaks

  break_dry : (h : List Entry) (due done : List ℕ) (end : SessionEnd) (shown : Shown) → BreaksOff h end due done → DriesUp peer text end shown
  break_dry h due done WriteFault shown breaks = tt
  break_dry h due done WantMemory shown breaks = tt
  break_dry h due done (Abandoned worker) shown breaks = tt
  break_dry h due done Ended shown breaks = absurd breaks
  break_dry h due done Shut shown breaks = absurd breaks
  break_dry h due done ReadFault shown breaks = absurd breaks
  break_dry h due done (Malformed at) shown breaks = absurd breaks
  break_dry h due done (Truncated have) shown breaks = absurd breaks
  break_dry h due done (InputLimit taken) shown breaks = absurd breaks
  break_dry h due done (Limit many bytes) shown breaks = absurd breaks

  fronted : (before due done rest joined : List ℕ) → joined ≡ before ++ due → due ≡ done ++ rest → joined ≡ (before ++ done) ++ rest
  fronted before due done rest joined all front = all ∙ (ap (λ ds. before ++ ds) front ∙ sym (append_assoc before done rest))

  break_output : (h : List Entry) (before due done joined : List ℕ) (Paid : Type 0) (end : SessionEnd) → BreaksOff h end due done → joined ≡ before ++ due
      → Output peer h text calls joined Paid (before ++ done) end
  break_output h before due done joined Paid WriteFault breaks all =
      short_of_replies peer h text calls joined Paid (before ++ done) begins breaks.0 (fronted before due done breaks.0 joined all breaks.1)
  break_output h before due done joined Paid WantMemory breaks all =
      short_of_replies peer h text calls joined Paid (before ++ done) begins breaks.0 (fronted before due done breaks.0 joined all breaks.1)
  break_output h before due done joined Paid (Abandoned worker) breaks all = ap (λ ds. before ++ ds) breaks.0 ∙ sym all
  break_output h before due done joined Paid Ended breaks all = absurd breaks
  break_output h before due done joined Paid Shut breaks all = absurd breaks
  break_output h before due done joined Paid ReadFault breaks all = absurd breaks
  break_output h before due done joined Paid (Malformed at) breaks all = absurd breaks
  break_output h before due done joined Paid (Truncated have) breaks all = absurd breaks
  break_output h before due done joined Paid (InputLimit taken) breaks all = absurd breaks
  break_output h before due done joined Paid (Limit many bytes) breaks all = absurd breaks

pub settled_broken : (g : Givens) (peer : Peer) (c : ℕ) (w : View Givens Entry) (text before due done : List ℕ) (end : SessionEnd) (shown : Shown)
    → joined_by g (past w) c ≡ before ++ due
    → BreaksOff (past w) end due done → Begins peer text (arrived_by (past w) c) → IfSome (filling_by (past w) c) (IsNext peer text (arrived_by (past w) c))
    → Settled g peer c w text (before ++ done) end shown
settled_broken g peer c w text before due done end shown joined breaks begins filled = record {
  session = record {
    input = break_input peer text (arrived_by (past w) c) begins (past w) due done end breaks;
    output = break_output peer text (arrived_by (past w) c) begins (past w) before due done (joined_by g (past w) c) (IsPaidBy (past w) c) end breaks joined;
    filled = filled;
  };
  cause = break_cause peer text (arrived_by (past w) c) begins (past w) due done end breaks;
  dry = break_dry peer text (arrived_by (past w) c) begins (past w) due done end shown breaks;
}

-- writing leaves dry what was dry
dry_told : (a b : Option (List ℕ)) → IfTold a b (λ old new. old ≡ [] ++ new) → IfSome a (λ left. left ≡ []) → IfSome b (λ left. left ≡ [])
dry_told None None told dry = tt
dry_told (Some old) (Some new) told dry = sym told ∙ dry
dry_told None (Some new) told dry = absurd told
dry_told (Some old) None told dry = absurd told

pub dry_later : (peer : Peer) (text : List ℕ) (end : SessionEnd) (a b : Shown) (out : List ℕ) → Moves a b [] out → DriesUp peer text end a
    → DriesUp peer text end b
dry_later peer text (Truncated have) a b out moved dry = dry_told a.left b.left moved.read dry
dry_later peer text Ended a b out moved (inl closed) = inl closed
dry_later peer text Ended a b out moved (inr dry) = inr (dry_told a.left b.left moved.read dry)
dry_later peer text Shut a b out moved dry = tt
dry_later peer text ReadFault a b out moved dry = tt
dry_later peer text WriteFault a b out moved dry = tt
dry_later peer text (Malformed at) a b out moved dry = tt
dry_later peer text (InputLimit taken) a b out moved dry = tt
dry_later peer text (Limit many bytes) a b out moved dry = tt
dry_later peer text (Abandoned worker) a b out moved dry = tt
dry_later peer text WantMemory a b out moved dry = tt

module _ (g : Givens) (peer : Peer) (c : ℕ) (v : View Givens Entry) (a : Shown) (i : Intake) (end : SessionEnd) where
  -- the session ends at once
  pub settles_now : is_settling end ≡ false → Settles g peer c v a i v a end end
  settles_now now = record {
    due = [];
    done = [];
    adds = adds_same g c v;
    moved = moves_none a;
    settled = λ text ran may dry knows. record {
      session = record {
        input = may.input;
        output = output_now peer (past v) text (arrived_by (past v) c) (joined_by g (past v) c) (IsPaidBy (past v) c) (joined_by g (past v) c ++ []) end now
            (input_begins peer text (arrived_by (past v) c) end may.input) (append-nil (joined_by g (past v) c));
        filled = may.filled;
      };
      cause = may.cause;
      dry = dry;
    };
  }

  module _ (w : View Givens Entry) (due : List ℕ) (adds : Adds g c v w [] due) (same : filling_by (past w) c ≡ filling_by (past v) c) where
    arrived_same : arrived_by (past w) c ≡ arrived_by (past v) c
    arrived_same = adds.arrived_is ∙ append-nil (arrived_by (past v) c)

    input_later : (text : List ℕ) (e : SessionEnd) → Input peer text (arrived_by (past v) c) e → Input peer text (arrived_by (past w) c) e
    input_later text e input = subst (λ calls. Input peer text calls e) (sym arrived_same) input

    filled_later : (text : List ℕ) → IfSome (filling_by (past v) c) (IsNext peer text (arrived_by (past v) c))
        → IfSome (filling_by (past w) c) (IsNext peer text (arrived_by (past w) c))
    filled_later text filled =
        subst (λ (o : Option ℕ). IfSome o (IsNext peer text (arrived_by (past w) c))) (sym same)
        (subst (λ (calls : List Heard). IfSome (filling_by (past v) c) (IsNext peer text calls)) (sym arrived_same) filled)

    begins_later : (text : List ℕ) → Input peer text (arrived_by (past v) c) end → Begins peer text (arrived_by (past w) c)
    begins_later text input = input_begins peer text (arrived_by (past w) c) end (input_later text end input)

    -- paying breaks off
    pub settles_broken : (b : Shown) (done : List ℕ) (broken : SessionEnd) → Moves a b [] done → BreaksOff (past w) broken due done
        → Settles g peer c v a i w b end broken
    settles_broken b done broken moved breaks = record {
      due = due;
      done = done;
      adds = adds;
      moved = moved;
      settled =
          λ text ran may dry knows. settled_broken g peer c w text (joined_by g (past v) c) due done broken b adds.joined_is breaks (begins_later text may.input)
          (filled_later text may.filled);
    }

    module _ (settling : is_settling end ≡ true) (paid : IsPaidBy (past w) c) where
      cause_now : (text : List ℕ) → IsHistory g (past v) → CauseBy peer (past v) (arrived_by (past v) c) text end
          → CauseBy peer (past w) (arrived_by (past w) c) text end
      cause_now text ran cause =
          subst (λ calls. CauseBy peer (past w) calls text end) (sym arrived_same)
          (subst (λ h. CauseBy peer h (arrived_by (past v) c) text end) (sym adds.since)
          (cause_since g.config g.run g.limit adds.more (past v) (subst (λ h. IsLegal g.config g.run g.limit h) adds.since (adds.runs ran).legal) peer
          (arrived_by (past v) c) text end cause))

      -- all is paid, and the connection closed
      pub settles_closed : (minor : ℕ) → ((text : List ℕ) → KnowsFirst peer i.ear text → ClosesIn peer text minor) → (b z : Shown) → Moves a b [] due
          → Moves b z [] (closing peer minor end) → Settles g peer c v a i w z end end
      settles_closed minor closes b z moved closed = record {
        due = due;
        done = due ++ closing peer minor end;
        adds = adds;
        moved = moves_out a b z [] due (closing peer minor end) moved closed;
        settled = λ text ran may dry knows. record {
          session = record {
            input = input_later text end may.input;
            output =
                output_settled peer (past w) text (arrived_by (past w) c) (joined_by g (past w) c) (IsPaidBy (past w) c)
                (joined_by g (past v) c ++ (due ++ closing peer minor end)) minor (closes text (knows settling)) end settling paid
                (sym (append_assoc (joined_by g (past v) c) due (closing peer minor end)) ∙ ap (λ rs. rs ++ closing peer minor end) (sym adds.joined_is));
            filled = filled_later text may.filled;
          };
          cause = cause_now text ran may.cause;
          dry = dry_later peer text end a z (due ++ closing peer minor end) (moves_out a b z [] due (closing peer minor end) moved closed) dry;
        };
      }

      -- all is paid, and the connection couldn't be closed
      pub settles_short : (minor : ℕ) → ((text : List ℕ) → KnowsFirst peer i.ear text → ClosesIn peer text minor) → (b z : Shown) (done rest : List ℕ)
          → Moves a b [] due → Moves b z [] done → closing peer minor end ≡ done ++ rest → Settles g peer c v a i w z end WriteFault
      settles_short minor closes b z done rest moved part front = record {
        due = due;
        done = due ++ done;
        adds = adds;
        moved = moves_out a b z [] due done moved part;
        settled = λ text ran may dry knows. record {
          session = record {
            input = begins_later text may.input;
            output =
                short_of_closing peer (past w) text (arrived_by (past w) c) (joined_by g (past w) c) (IsPaidBy (past w) c)
                (joined_by g (past v) c ++ (due ++ done)) end minor (closes text (knows settling)) (input_later text end may.input) (cause_now text ran may.cause) paid rest
                (ap (λ cs. joined_by g (past w) c ++ cs) front
                ∙ (ap (λ rs. rs ++ (done ++ rest)) adds.joined_is
                ∙ (sym (append_assoc (joined_by g (past v) c ++ due) done rest) ∙ ap (λ rs. rs ++ rest) (append_assoc (joined_by g (past v) c) due done))));
            filled = filled_later text may.filled;
          };
          cause = tt;
          dry = tt;
        };
      }

-- a whole piece was written
pub closed_whole : (bytes : List ℕ) (a b : Shown) → Writes bytes a b true → Moves a b [] bytes
closed_whole bytes a b w = subst (Moves a b []) (sym (w.front ∙ (ap (λ rest. w.done ++ rest) (w.all refl) ∙ append-nil w.done))) w.moved

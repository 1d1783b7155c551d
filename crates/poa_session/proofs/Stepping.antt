-- A session step by step.
use Rattle.std.proofs.Common.{◌≡◌, ℕ, ◌+◌, ◌^◌, ◌<◌, ◌≤◌, true, false, ◌==◌, if◌then◌else◌, List, [], ◌∷◌, ◌++◌, length, refl, sym, ap, subst, ◌∙◌, append-nil, inr, arith}
use Rattle.std.specs.Prelude.{Option, Some, None, IfSome, Ok, Err}
use Rattle.poa_base.specs.declared.Entry.{Entry}
use Rattle.poa_base.specs.declared.Entry.TheVariants.{Entered}
use Rattle.poa_base.specs.declared.SessionEnd.{SessionEnd}
use Rattle.poa_base.specs.declared.SessionEnd.TheVariants.{Ended, Shut, ReadFault, WriteFault, Malformed, Truncated, InputLimit, Limit, Abandoned, WantMemory}
use Rattle.seat_lock.specs.declared.view.View.{View}
use Rattle.outside.specs.Link.{Shown, Moves}
use Rattle.outside.proofs.Moving.{moves_in, moves_none}
use Rattle.poa_history.specs.declared.Givens.{Givens}
use Rattle.poa_history.specs.Leaving.{is_shut}
use Rattle.poa_shared.specs.Seen.{Owns, past}
use Rattle.session_laws.specs.declared.Peer.{Peer}
use Rattle.session_laws.specs.Hearing.{Heard, over}
use Rattle.session_laws.specs.Records.{arrived_by, filling_by, is_late_by}
use Rattle.session_laws.specs.Sessions.{Begins, CauseBy, Hears as HearsAll, Input, IsNext}
use Rattle.session_laws.specs.Expecting.{Expects}
use Rattle.session_laws.proofs.Causes.{shut_later}
use Rattle.session_laws.proofs.Expected.{expects_begins, expects_fed, expects_front, expects_stop}
use Rattle.session_laws.specs.HearingPieces.{KnowsFirst, Intake, OfIntake}
use Rattle.session_laws.proofs.GoingOn.{intake_goes_on}
use Rattle.session_laws.proofs.Said.{said_both}
use Rattle.poa_session.specs.Growing.{Adds}
use Rattle.poa_session.specs.Served.{DriesUp}
use Rattle.poa_session.specs.Listening.{AsHeard, Hears, Listens}
use Rattle.poa_session.specs.Paying.{Pays}
use Rattle.poa_session.specs.Rounding.{Rounds}
use Rattle.poa_session.specs.Stopping.{Looks, MayEnd, Stops}
use Rattle.poa_session.specs.Taking.{AsTaken, Takes}
use Rattle.poa_session.specs.declared.flow.Flow.TheVariants as flow
use Rattle.poa_session.specs.declared.progress.Progress.{Progress}
use Rattle.poa_session.specs.declared.progress.Progress.TheVariants as progress
use Rattle.poa_session.proofs.Adding.{adds_both, adds_none, found_filling}

-- reading on
heard_then : (peer : Peer) (c : ℕ) (v w u : View Givens Entry) (i j k : Intake) (r : Progress) → AsHeard peer c v i w j progress.On → AsHeard peer c w j u k r
    → AsHeard peer c v i u k r
heard_then peer c v w u i j k progress.On x y = (y.0 ∙ x.0, λ text expected. y.1 text (x.1 text expected))
heard_then peer c v w u i j k (progress.Waits have) x y = (y.0 ∙ x.0, y.1, λ text expected. y.2 text (x.1 text expected))
heard_then peer c v w u i j k (progress.Ends end) x y = λ text unfilled expected. y text (x.0 ∙ unfilled) (x.1 text expected)

pub hears_then : (g : Givens) (peer : Peer) (c : ℕ) (v w u : View Givens Entry) (i j k : Intake) (r : Progress) → Hears g peer c v i w j progress.On
    → Hears g peer c w j u k r → Hears g peer c v i u k r
hears_then g peer c v w u i j k r x y = record {
  calls = x.calls ++ y.calls;
  said = said_both x.calls y.calls x.said y.said;
  adds = adds_both g c v w u x.calls y.calls [] [] x.adds y.adds;
  heard = heard_then peer c v w u i j k r x.heard y.heard;
  taken = y.taken ∙ x.taken;
}

-- a connection that entered late sees the run shut
late_shut : (h : List Entry) (c : ℕ) → is_late_by h c ≡ true → is_shut h ≡ true
late_shut [] c is = is
late_shut (Entered conn ∷ h) c is =
    elim (conn == c) as (λ b. (if b then is_shut h else is_late_by h c) ≡ true → is_shut h ≡ true)
    [ true ↦ (λ now. now) | false ↦ (λ before. late_shut h c before) ] is
late_shut (e ∷ h) c is = shut_later e h (late_shut h c is)

-- what is asked of the front of a text where nothing follows
nothing_behind : (P : List ℕ → Type 0) (text : List ℕ) → P text → P (text ++ [])
nothing_behind P text p = subst P (sym (append-nil text)) p

module _ (g : Givens) (peer : Peer) (c : ℕ) (v : View Givens Entry) (a : Shown) (i : Intake) (owns : Owns v c) (u : View Givens Entry) where
  module _ (o : Option SessionEnd) (looked : Looks g v u o) where
    look_adds : Adds g c v u [] []
    look_adds = adds_none g c v (past u) u looked.turns owns refl

    look_arrived : arrived_by (past u) c ≡ arrived_by (past v) c
    look_arrived = look_adds.arrived_is ∙ append-nil (arrived_by (past v) c)

    look_filling : filling_by (past u) c ≡ filling_by (past v) c
    look_filling = found_filling g c v (past u) u looked.turns owns

    expected_then : (text : List ℕ) → Expects peer (OfIntake i) text (arrived_by (past v) c) → Expects peer (OfIntake i) text (arrived_by (past u) c)
    expected_then text expected = subst (Expects peer (OfIntake i) text) (sym look_arrived) expected

    unfilled_then : filling_by (past v) c ≡ None → filling_by (past u) c ≡ None
    unfilled_then unfilled = look_filling ∙ unfilled

  -- the run ends the session
  stops_may : (text : List ℕ) (end : SessionEnd) → Stops (past u) (Some end) → Begins peer text (arrived_by (past u) c) → filling_by (past u) c ≡ None
      → MayEnd peer c u text end × DriesUp peer text end a
  stops_may text Shut stops begins unfilled =
      (record { input = begins; cause = stops; filled = subst (λ (x : Option ℕ). IfSome x (IsNext peer text (arrived_by (past u) c))) (sym unfilled) tt }, tt)
  stops_may text (Abandoned worker) stops begins unfilled =
      (record { input = begins; cause = stops; filled = subst (λ (x : Option ℕ). IfSome x (IsNext peer text (arrived_by (past u) c))) (sym unfilled) tt }, tt)
  stops_may text Ended stops begins unfilled = absurd stops
  stops_may text ReadFault stops begins unfilled = absurd stops
  stops_may text WriteFault stops begins unfilled = absurd stops
  stops_may text (Malformed at) stops begins unfilled = absurd stops
  stops_may text (Truncated have) stops begins unfilled = absurd stops
  stops_may text (InputLimit taken) stops begins unfilled = absurd stops
  stops_may text (Limit many bytes) stops begins unfilled = absurd stops
  stops_may text WantMemory stops begins unfilled = absurd stops

  pub rounds_stopped : (j : Intake) → ((text : List ℕ) → KnowsFirst peer i.ear text → KnowsFirst peer j.ear text) → (end : SessionEnd)
      → Looks g v u (Some end) → Rounds g peer c v a i u a j (flow.Ends end)
  rounds_stopped j kept end looked = record {
    piece = [];
    calls = [];
    said = tt;
    due = [];
    done = [];
    adds = look_adds (Some end) looked;
    moved = moves_none a;
    few = λ few. omega (arith, few);
    silent = λ _. refl;
    goes_on = tt;
    first = λ text knows settles. nothing_behind (λ t. KnowsFirst peer j.ear t) text (kept text knows);
    flows = λ text counted unfilled expected.
        (let may =
        stops_may text end looked.stops
        (expects_begins peer (OfIntake i) text (arrived_by (past u) c) (expected_then (Some end) looked text expected) (intake_goes_on i []))
        (unfilled_then (Some end) looked unfilled) in
        (refl, nothing_behind (λ t. MayEnd peer c u t end) text may.0, nothing_behind (λ t. DriesUp peer t end a) text may.1));
  }

  module _ (looked : Looks g v u None) (x : View Givens Entry) (j : Intake)
      (kept : (text : List ℕ) → KnowsFirst peer i.ear text → KnowsFirst peer j.ear text) where
    -- a connection that entered late hears nothing
    hears_not : (calls : List Heard) → is_late_by (past v) c ≡ true → calls ≡ []
    hears_not calls late =
        absurd (let shut : is_shut (past u) ≡ true = late_shut (past u) c ((look_adds None looked).late_is ∙ late) in
        let e : true ≡ false = sym shut ∙ looked.stops in cc)

    -- what was heard ends the session
    pub rounds_heard : (end : SessionEnd) → Listens g peer c u i x j (Err end) → Rounds g peer c v a i x a j (flow.Ends end)
    rounds_heard end listened = record {
      piece = [];
      calls = listened.calls;
      said = listened.said;
      due = [];
      done = [];
      adds = adds_both g c v u x [] listened.calls [] [] (look_adds None looked) listened.adds;
      moved = moves_none a;
      few = λ few. omega (arith, few);
      silent = hears_not listened.calls;
      goes_on = tt;
      first = λ text knows settles. nothing_behind (λ t. KnowsFirst peer j.ear t) text (kept text knows);
      flows = λ text counted unfilled expected.
          (let may = listened.heard text (unfilled_then None looked unfilled) (expected_then None looked text expected) in
          (refl, nothing_behind (λ t. MayEnd peer c x t end) text may.0, nothing_behind (λ t. DriesUp peer t end a) text (may.1 a)));
    }

    module _ (have : ℕ) (listened : Listens g peer c u i x j (Ok have)) where
      heard_all : (text : List ℕ) → Expects peer (OfIntake i) text (arrived_by (past v) c) → Expects peer (OfIntake j) text (arrived_by (past x) c)
      heard_all text expected = listened.heard.2 text (expected_then None looked text expected)

      unfilled_still : filling_by (past v) c ≡ None → filling_by (past x) c ≡ None
      unfilled_still unfilled = listened.heard.0 ∙ unfilled_then None looked unfilled

      -- what was written breaks off
      pub rounds_broken : (w : View Givens Entry) (b : Shown) (end : SessionEnd) → Pays g c x a w b (Err end) → Rounds g peer c v a i w b j (flow.Broke end)
      rounds_broken w b end paid = record {
        piece = [];
        calls = listened.calls;
        said = listened.said;
        due = paid.due;
        done = paid.done;
        adds = subst (λ cs. Adds g c v w cs paid.due) (append-nil listened.calls)
            (adds_both g c v x w listened.calls [] [] paid.due (adds_both g c v u x [] listened.calls [] [] (look_adds None looked) listened.adds) paid.adds);
        moved = paid.moved;
        few = λ few. omega (arith, few);
        silent = hears_not listened.calls;
        goes_on = tt;
        first = λ text knows. tt;
        flows = λ text counted unfilled expected. (
          paid.paid,
          nothing_behind (λ t. Begins peer t (arrived_by (past w) c)) text
              (subst (λ cs. Begins peer text cs) (sym (paid.adds.arrived_is ∙ append-nil (arrived_by (past x) c)))
              (expects_begins peer (OfIntake j) text (arrived_by (past x) c) (heard_all text expected) (intake_goes_on j []))),
          paid.same ∙ unfilled_still unfilled,
        );
      }

      module _ (w : View Givens Entry) (b : Shown) (owed : ℕ) (paid : Pays g c x a w b (Ok owed)) (k : Intake) (z : Shown) where
        all_adds : Adds g c v w listened.calls paid.due
        all_adds = subst (λ cs. Adds g c v w cs paid.due) (append-nil listened.calls)
            (adds_both g c v x w listened.calls [] [] paid.due (adds_both g c v u x [] listened.calls [] [] (look_adds None looked) listened.adds) paid.adds)

        expected_now : (text : List ℕ) → Expects peer (OfIntake i) text (arrived_by (past v) c) → Expects peer (OfIntake j) text (arrived_by (past w) c)
        expected_now text expected =
            subst (Expects peer (OfIntake j) text) (sym (paid.adds.arrived_is ∙ append-nil (arrived_by (past x) c))) (heard_all text expected)

        unfilled_now : filling_by (past v) c ≡ None → filling_by (past w) c ≡ None
        unfilled_now unfilled = paid.same ∙ unfilled_still unfilled

        all_moved : (piece : List ℕ) → Moves b z piece [] → Moves a z piece paid.done
        all_moved piece took = moves_in a b z [] paid.done piece paid.moved took

        counted_few : (piece : List ℕ) → (j.taken ≤ 2 ^ 40 → j.taken + length piece ≤ 2 ^ 40) → i.taken ≤ 2 ^ 40 → i.taken + length piece ≤ 2 ^ 40
        counted_few piece took few = subst (λ n. n + length piece ≤ 2 ^ 40) listened.taken (took (subst (λ n. n ≤ 2 ^ 40) (sym listened.taken) few))

        -- where nothing more came, the text is as long as what was taken in
        length_read : (text piece : List ℕ) → length text ≡ i.taken → piece ≡ [] → length (text ++ piece) ≡ j.taken
        length_read text piece counted none = ap (λ p. length (text ++ p)) none ∙ (ap length (append-nil text) ∙ (counted ∙ sym listened.taken))

        read_fewer : (text piece : List ℕ) → length text ≡ i.taken → piece ≡ [] → j.taken < 2 ^ 40 → length (text ++ piece) < 2 ^ 40
        read_fewer text piece counted none fewer = subst (λ n. n < 2 ^ 40) (sym (length_read text piece counted none)) fewer

        stops_over : (text : List ℕ) (bytes : ℕ) → Expects peer (OfIntake j) text (arrived_by (past w) c) → have ≡ bytes
            → HearsAll peer text (arrived_by (past w) c) (over bytes)
        stops_over text bytes expected is =
            expects_stop peer (OfIntake j) text (arrived_by (past w) c) expected (over bytes) (subst (λ n. OfIntake j [] [] (over n)) is listened.heard.1)

        -- the input ends the session
        takes_may : (text piece : List ℕ) (end : SessionEnd) → length text ≡ i.taken → AsTaken j k have piece z (Some end)
            → Expects peer (OfIntake j) text (arrived_by (past w) c)
            → (Input peer (text ++ piece) (arrived_by (past w) c) end) × CauseBy peer (past w) (arrived_by (past w) c) (text ++ piece) end
            × DriesUp peer (text ++ piece) end z
        takes_may text piece Ended counted took expected =
            subst (λ p. Input peer (text ++ p) (arrived_by (past w) c) Ended × CauseBy peer (past w) (arrived_by (past w) c) (text ++ p) Ended
            × DriesUp peer (text ++ p) Ended z) (sym took.0) (
              inr (nothing_behind (λ t. HearsAll peer t (arrived_by (past w) c) (over 0)) text (stops_over text 0 expected took.2)),
              inr (read_fewer text [] counted refl took.1),
              inr took.3,
            )
        takes_may text piece (Truncated bytes) counted took expected =
            subst (λ p. Input peer (text ++ p) (arrived_by (past w) c) (Truncated bytes) × (length (text ++ p) < 2 ^ 40)
            × DriesUp peer (text ++ p) (Truncated bytes) z) (sym took.0) (
              (
                nothing_behind (λ t. HearsAll peer t (arrived_by (past w) c) (over bytes)) text (stops_over text bytes expected (sym took.2)),
                subst (λ n. 0 < n)
                    (sym took.2) took.3,
              ),
              read_fewer text [] counted refl took.1,
              took.4,
            )
        takes_may text piece ReadFault counted took expected = (
          expects_front peer (OfIntake j) text (arrived_by (past w) c) expected piece (intake_goes_on j piece),
          read_fewer text piece counted took.0 took.1,
          tt,
        )
        takes_may text piece (InputLimit taken) counted took expected = (
          (
            have,
            subst (λ p. HearsAll peer (text ++ p) (arrived_by (past w) c) (over have)) (sym took.0)
                (nothing_behind (λ t. HearsAll peer t (arrived_by (past w) c) (over have)) text (stops_over text have expected refl)),
          ),
          (took.2, length_read text piece counted took.0 ∙ sym took.1),
          tt,
        )
        takes_may text piece WantMemory counted took expected =
            (expects_front peer (OfIntake j) text (arrived_by (past w) c) expected piece (intake_goes_on j piece), tt, tt)
        takes_may text piece Shut counted took expected = absurd took
        takes_may text piece WriteFault counted took expected = absurd took
        takes_may text piece (Malformed at) counted took expected = absurd took
        takes_may text piece (Limit many bytes) counted took expected = absurd took
        takes_may text piece (Abandoned worker) counted took expected = absurd took

        pub rounds_ended : (end : SessionEnd) → Takes j k have b z (Some end) → Rounds g peer c v a i w z k (flow.Ends end)
        rounds_ended end took = record {
          piece = took.piece;
          calls = listened.calls;
          said = listened.said;
          due = paid.due;
          done = paid.done;
          adds = all_adds;
          moved = all_moved took.piece took.moved;
          few = counted_few took.piece took.few;
          silent = hears_not listened.calls;
          goes_on = tt;
          first = λ text knows settles. took.first settles peer text (kept text knows);
          flows = λ text counted unfilled expected.
              (let may = takes_may text took.piece end counted took.taken (expected_now text expected) in (
                paid.paid.0,
                record {
                  input = may.0;
                  cause = may.1;
                  filled =
                      subst (λ (x : Option ℕ). IfSome x (IsNext peer (text ++ took.piece) (arrived_by (past w) c))) (sym (unfilled_now unfilled)) tt;
                },
                may.2,
              ));
        }

        pub rounds_on : Takes j k have b z None → Rounds g peer c v a i w z k flow.On
        rounds_on took = record {
          piece = took.piece;
          calls = listened.calls;
          said = listened.said;
          due = paid.due;
          done = paid.done;
          adds = all_adds;
          moved = all_moved took.piece took.moved;
          few = counted_few took.piece took.few;
          silent = hears_not listened.calls;
          goes_on = (paid.paid.0, took.taken.0 ∙ ap (λ n. n + length took.piece) listened.taken);
          first = λ text knows. took.first peer text (kept text knows);
          flows = λ text counted unfilled expected. (
            unfilled_now unfilled,
            expects_fed peer (OfIntake j) (OfIntake k) text (arrived_by (past w) c) (expected_now text expected) took.piece took.taken.1,
          );
        }

-- A call arrives on the connection, or is refused.
use Rattle.std.proofs.Common.{◌≡◌, ℕ, Bool, true, false, if◌then◌else◌, List, [], ◌∷◌, refl, sym, ap, subst, ◌∙◌, append_assoc, append-nil}
use Rattle.std.specs.Prelude.{Option, Some, IfSome, Ok, Err}
use Rattle.poa_base.specs.declared.Call.{Call}
use Rattle.poa_base.specs.declared.Entry.{Entry}
use Rattle.poa_base.specs.declared.Entry.TheVariants.{Arrive, Filled}
use Rattle.poa_base.specs.declared.SessionEnd.TheVariants.{Limit, WantMemory}
use Rattle.poa_history.specs.Legal.{is_filled}
use Rattle.seat_lock.specs.declared.view.View.{View}
use Rattle.poa_history.specs.declared.Givens.{Givens}
use Rattle.poa_history.specs.Limits.{filled_at}
use Rattle.poa_core.specs.Answers as answers
use Rattle.poa_history.specs.Life.{Life, life_at, with_entry}
use Rattle.poa_core.specs.declared.ArriveFault.TheVariants as fault
use Rattle.poa_shared.specs.Seen.{Owns, Turns, past}
use Rattle.session_laws.specs.declared.Peer.{Peer}
use Rattle.session_laws.specs.Hearing.{Heard}
use Rattle.session_laws.specs.Records.{arrived_by, joined_by, filling_by}
use Rattle.session_laws.specs.Sessions.{Begins, Hears, IsNext}
use Rattle.session_laws.proofs.Own.{arrived_own, filling_own}
use Rattle.poa_session.specs.Growing.{Adds}
use Rattle.poa_session.specs.Listening.{AsArrived}
use Rattle.poa_session.specs.declared.progress.Progress.TheVariants as progress
use Rattle.poa_session.proofs.Adding.{adds_none, adds_one, found_filling}

-- the calls before the next one are the first of what was sent
pub next_begins : (peer : Peer) (text : List ℕ) (calls : List Heard) (size : ℕ) → IsNext peer text calls size → Begins peer text calls
next_begins peer text calls size n =
    let heard : Heard = record { call = n.call; size = size } in
    record {
      more = heard ∷ n.begins.more;
      stop = n.begins.stop;
      hears = subst (λ cs. Hears peer text cs n.begins.stop) (append_assoc calls (heard ∷ []) n.begins.more) n.begins.hears;
    }

histories : (x : Life) (y : Life) → y ≡ x → y.history ≡ x.history
histories x y same = ap (λ (l : Life). l.history) same

module _ (g : Givens) (c : ℕ) (v : View Givens Entry) (h : List Entry) (w : View Givens Entry) (turns : Turns g v h w) (owns : Owns v c) (call : Call)
    (size : ℕ) where
  abbrev heard : Heard
  heard = record { call = call; size = size }

  pub arrives_on : (r : ℕ) → answers.Arrives c call size (life_at g h) (Ok r) (life_at g (past w)) → AsArrived g c call size v w progress.On
  arrives_on r answer =
      let is : past w ≡ Arrive c size call ∷ h = histories (with_entry (Arrive c size call) (life_at g h)) (life_at g (past w)) answer.2 in (
        adds_one g c v h w turns owns (Arrive c size call) is refl (heard ∷ []) [] (arrived_own c h size call) (sym (append-nil (joined_by g h c))) refl,
        ap (λ k. filling_by k c) is ∙ found_filling g c v h w turns owns,
      )

  -- what may end, where no call arrived
  ends_so : Adds g c v w [] [] → (peer : Peer) (text : List ℕ) → IsNext peer text (arrived_by (past v) c) size → IsNext peer text (arrived_by (past w) c) size
  ends_so adds peer text next = subst (λ cs. IsNext peer text cs size) (sym (adds.arrived_is ∙ append-nil (arrived_by (past v) c))) next

  pub arrives_without : answers.Arrives c call size (life_at g h) (Err fault.WantMemory) (life_at g (past w))
      → AsArrived g c call size v w (progress.Ends WantMemory)
  arrives_without answer =
      let same : past w ≡ h = histories (life_at g h) (life_at g (past w)) answer.1 in
      let adds = adds_none g c v h w turns owns same in (
        adds,
        (λ peer text unfilled next. (let still = ends_so adds peer text next in record {
          input = next_begins peer text (arrived_by (past w) c) size still;
          cause = tt;
          filled =
              subst (λ (o : Option ℕ). IfSome o (IsNext peer text (arrived_by (past w) c)))
              (sym (ap (λ k. filling_by k c) same ∙ (found_filling g c v h w turns owns ∙ unfilled))) tt;
        })),
        λ peer text shown. tt,
      )

  -- the run was full, or the call fills it
  full_as : (calls bytes : ℕ) (b : Bool) → is_filled h ≡ b → life_at g (past w) ≡ (if b then life_at g h else with_entry (Filled c size) (life_at g h))
      → filled_at (past w) ≡ Some (calls, bytes)
      → AsArrived g c call size v w (progress.Ends (Limit calls bytes))
  full_as calls bytes true was is full =
      let same : past w ≡ h = histories (life_at g h) (life_at g (past w)) is in
      let adds = adds_none g c v h w turns owns same in (
        adds,
        (λ peer text unfilled next. (let still = ends_so adds peer text next in record {
          input = next_begins peer text (arrived_by (past w) c) size still;
          cause = (full, size, still);
          filled =
              subst (λ (o : Option ℕ). IfSome o (IsNext peer text (arrived_by (past w) c)))
              (sym (ap (λ k. filling_by k c) same ∙ (found_filling g c v h w turns owns ∙ unfilled))) tt;
        })),
        λ peer text shown. tt,
      )
  full_as calls bytes false wasn't is full =
      let more : past w ≡ Filled c size ∷ h = histories (with_entry (Filled c size) (life_at g h)) (life_at g (past w)) is in
      let adds =
      adds_one g c v h w turns owns (Filled c size) more refl [] [] (sym (append-nil (arrived_by h c))) (sym (append-nil (joined_by g h c))) refl in (
        adds,
        (λ peer text unfilled next. (let still = ends_so adds peer text next in record {
          input = next_begins peer text (arrived_by (past w) c) size still;
          cause = (full, size, still);
          filled =
              subst (λ (o : Option ℕ). IfSome o (IsNext peer text (arrived_by (past w) c))) (sym (ap (λ k. filling_by k c) more ∙ filling_own c h size)) still;
        })),
        λ peer text shown. tt,
      )

  pub arrives_full : (calls bytes : ℕ) → answers.Arrives c call size (life_at g h) (Err (fault.Limit calls bytes)) (life_at g (past w))
      → AsArrived g c call size v w (progress.Ends (Limit calls bytes))
  arrives_full calls bytes answer = full_as calls bytes (is_filled h) refl answer.1 answer.2

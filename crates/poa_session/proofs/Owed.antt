-- What is owed is paid, piece by piece.
use Rattle.std.proofs.Common.{◌≡◌, ℕ, List, [], ◌++◌, true, false, refl, sym, ap, subst, ◌∙◌, append_assoc, append-nil}
use Rattle.std.specs.Prelude.{Option, Some, Ok, Err}
use Rattle.std.specs.declared.alloc.AllocError.{AllocError}
use Rattle.poa_base.specs.declared.Entry.{Entry}
use Rattle.poa_base.specs.declared.SessionEnd.{SessionEnd}
use Rattle.poa_base.specs.declared.SessionEnd.TheVariants.{Ended, Shut, ReadFault, WriteFault, Malformed, Truncated, InputLimit, Limit, Abandoned, WantMemory}
use Rattle.seat_lock.specs.declared.view.View.{View}
use Rattle.outside.specs.Link.{Shown, Moves, Writes}
use Rattle.outside.proofs.Moving.{moves_none, moves_out}
use Rattle.poa_history.specs.declared.Givens.{Givens}
use Rattle.poa_shared.specs.Seen.{Owns, past}
use Rattle.session_laws.specs.Records.{filling_by}
use Rattle.poa_session.specs.Growing.{Adds}
use Rattle.poa_session.specs.Paying.{BreaksOff, Gathers, Pays, PaysAll}
use Rattle.poa_session.specs.Stopping.{Looks}
use Rattle.poa_session.proofs.Adding.{adds_both, adds_none, adds_same, found_filling}

-- the replies that were gathered are written
module _ (g : Givens) (c : ℕ) (v w : View Givens Entry) (new : List ℕ) (a : Shown) where
  pub pays_lost : (fault : AllocError) → Gathers g c v w new (Err fault) → Pays g c v a w a (Err WantMemory)
  pays_lost fault x = record { due = x.due; done = []; adds = x.adds; moved = moves_none a; same = x.same; paid = (x.due, refl) }

  gathered_all : (owed : ℕ) (x : Gathers g c v w new (Ok owed)) (bytes : List ℕ) → bytes ≡ new → x.due ≡ bytes
  gathered_all owed x bytes same = sym (same ∙ x.gathered.0)

  module _ (owed : ℕ) (x : Gathers g c v w new (Ok owed)) (bytes : List ℕ) (same : bytes ≡ new) (b : Shown) where
    pub pays_cut : Writes bytes a b false → Pays g c v a w b (Err WriteFault)
    pays_cut y = record { due = x.due; done = y.done; adds = x.adds; moved = y.moved; same = x.same; paid = (y.rest, gathered_all owed x bytes same ∙ y.front) }

    pub pays_whole : Writes bytes a b true → Pays g c v a w b (Ok owed)
    pays_whole y = record {
      due = x.due;
      done = y.done;
      adds = x.adds;
      moved = y.moved;
      same = x.same;
      paid = (sym (gathered_all owed x bytes same ∙ (y.front ∙ (ap (λ rest. y.done ++ rest) (y.all refl) ∙ append-nil y.done))), x.gathered.1);
    }

-- so far all that was given is written
pub record PaysOn (g : Givens) (c : ℕ) (v : View Givens Entry) (a : Shown) (w : View Givens Entry) (b : Shown) : Type 0 where
  pub due : List ℕ
  pub adds : Adds g c v w [] due
  pub moved : Moves a b [] due
  pub same : filling_by (past w) c ≡ filling_by (past v) c

pub pays_none : (g : Givens) (c : ℕ) (v : View Givens Entry) (a : Shown) → PaysOn g c v a v a
pays_none g c v a = record { due = []; adds = adds_same g c v; moved = moves_none a; same = refl }

-- what is broken off behind what was written
broken_behind : (h : List Entry) (end : SessionEnd) (front due done : List ℕ) → BreaksOff h end due done → BreaksOff h end (front ++ due) (front ++ done)
broken_behind h WriteFault front due done breaks = (breaks.0, ap (λ ds. front ++ ds) breaks.1 ∙ sym (append_assoc front done breaks.0))
broken_behind h WantMemory front due done breaks = (breaks.0, ap (λ ds. front ++ ds) breaks.1 ∙ sym (append_assoc front done breaks.0))
broken_behind h (Abandoned worker) front due done breaks = (ap (λ ds. front ++ ds) breaks.0, breaks.1)
broken_behind h Ended front due done breaks = absurd breaks
broken_behind h Shut front due done breaks = absurd breaks
broken_behind h ReadFault front due done breaks = absurd breaks
broken_behind h (Malformed at) front due done breaks = absurd breaks
broken_behind h (Truncated have) front due done breaks = absurd breaks
broken_behind h (InputLimit taken) front due done breaks = absurd breaks
broken_behind h (Limit many bytes) front due done breaks = absurd breaks

module _ (g : Givens) (c : ℕ) (v : View Givens Entry) (a : Shown) (w : View Givens Entry) (b : Shown) (x : PaysOn g c v a w b) (u : View Givens Entry)
    (z : Shown) where
  pub pays_broken : (end : SessionEnd) → Pays g c w b u z (Err end) → PaysAll g c v a u z (Err end)
  pays_broken end y = record {
    due = x.due ++ y.due;
    done = x.due ++ y.done;
    adds = adds_both g c v w u [] [] x.due y.due x.adds y.adds;
    moved = moves_out a b z [] x.due y.done x.moved y.moved;
    same = y.same ∙ x.same;
    paid = broken_behind (past u) end x.due y.due y.done y.paid;
  }

  module _ (owed : ℕ) (y : Pays g c w b u z (Ok owed)) where
    moved_all : Moves a z [] (x.due ++ y.due)
    moved_all = subst (λ ds. Moves a z [] (x.due ++ ds)) y.paid.0 (moves_out a b z [] x.due y.done x.moved y.moved)

    pub pays_all : owed ≡ 0 → PaysAll g c v a u z (Ok tt)
    pays_all none = record {
      due = x.due ++ y.due;
      done = x.due ++ y.due;
      adds = adds_both g c v w u [] [] x.due y.due x.adds y.adds;
      moved = moved_all;
      same = y.same ∙ x.same;
      paid = (refl, y.paid.1 none);
    }

    module _ (owns : Owns u c) (t : View Givens Entry) (o : Option SessionEnd) (looked : Looks g u t o) where
      adds_on : Adds g c v t [] ((x.due ++ y.due) ++ [])
      adds_on =
          adds_both g c v u t [] [] (x.due ++ y.due) [] (adds_both g c v w u [] [] x.due y.due x.adds y.adds)
          (adds_none g c u (past t) t looked.turns owns refl)

      same_on : filling_by (past t) c ≡ filling_by (past v) c
      same_on = found_filling g c u (past t) t looked.turns owns ∙ (y.same ∙ x.same)

      moved_on : Moves a z [] ((x.due ++ y.due) ++ [])
      moved_on = subst (Moves a z []) (sym (append-nil (x.due ++ y.due))) moved_all

      pub pays_on : PaysOn g c v a t z
      pays_on = record { due = (x.due ++ y.due) ++ []; adds = adds_on; moved = moved_on; same = same_on }

    pub pays_abandoned : (owns : Owns u c) (t : View Givens Entry) (worker : ℕ) → Looks g u t (Some (Abandoned worker))
        → PaysAll g c v a t z (Err (Abandoned worker))
    pays_abandoned owns t worker looked = record {
      due = (x.due ++ y.due) ++ [];
      done = (x.due ++ y.due) ++ [];
      adds = adds_on owns t (Some (Abandoned worker)) looked;
      moved = moved_on owns t (Some (Abandoned worker)) looked;
      same = same_on owns t (Some (Abandoned worker)) looked;
      paid = (refl, looked.stops);
    }

-- The long laws of a run together.
use Rattle.std.specs.Prelude.{List, ℕ}
use Rattle.poa_base.specs.declared.Config.{Config}
use Rattle.poa_base.specs.declared.Entry.{Entry}
use Rattle.poa_history.specs.States.{Stored}
use Rattle.history_laws.specs.Lasting.{KeepsUpdates, LeavesNothing}
use Rattle.history_laws.proofs.Answered.{answered}
use Rattle.history_laws.proofs.OneServant.{line_carried, line_stored, one_line}
use Rattle.history_laws.proofs.Shut.{shut_over}
use Rattle.history_laws.proofs.Undone.{all_done, in_hand}
use Rattle.poa_history.specs.Runs.{IsRun}
use Rattle.history_laws.proofs.Opened.{alone, given, within}

module _ (c : Config) (run limit : ℕ) (h : List Entry) (is : IsRun c run limit h) where
  pub leaves_nothing : LeavesNothing c run h
  leaves_nothing = record {
    in_hand = in_hand c run limit (given c run limit h is) (alone c run limit h is) (within c run limit h is) h is.legal;
    done = λ idle. all_done c run limit (given c run limit h is) (alone c run limit h is) (within c run limit h is) h is.legal idle;
    answered = λ idle. answered c run limit (given c run limit h is) (alone c run limit h is) (within c run limit h is) h is.legal idle;
    shut = λ idle shut. shut_over c run limit (given c run limit h is) (alone c run limit h is) (within c run limit h is) h is.legal idle shut;
  }

  pub keeps_updates : (opened : Stored) → KeepsUpdates c run opened h
  keeps_updates opened = record {
    line = λ kind p oid brings are. one_line c run limit (given c run limit h is) (alone c run limit h is)
        (within c run limit h is) opened kind p oid brings h is.legal are;
    state = λ kind p oid brings are. line_carried c run limit (given c run limit h is) (alone c run limit h is)
        (within c run limit h is) opened kind p oid brings h is.legal are;
    kept = λ kind p oid brings are. line_stored c run limit (given c run limit h is) (alone c run limit h is)
        (within c run limit h is) opened kind p oid brings h is.legal are;
  }

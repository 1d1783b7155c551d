-- Where a worker has closed and no other has begun anything, the run is over for good.
use Rattle.std.proofs.Common.{◌≡◌, ℕ, List, ◌++◌}
use Rattle.poa_base.specs.declared.Entry.{Entry}
use Rattle.history_standing.specs.Stages.{stage}
use Rattle.history_standing.specs.declared.stage.Stage.TheVariants.{Free}
use Rattle.history_laws.specs.Undone.{IsAllOver}
use Rattle.history_laws.proofs.Since.{legal_before}
use Rattle.history_laws.proofs.Opened.{given, within}
use Rattle.poa_history.specs.declared.givens.Givens.{Givens}
use Rattle.poa_history.specs.GivenRuns.{IsHistory}
use Rattle.history_laws.specs.Closing.{HasNoTurn, IsClosed, IsOver}
use Rattle.history_laws.proofs.Afterwards.{decisions_stay, overs_stay}
use Rattle.history_laws.proofs.Freed.{all_idle}
use Rattle.history_laws.proofs.ShutDown.{shut_ends}

-- what stood before some entries is a history too
pub history_before : (g : Givens) (more h : List Entry) → IsHistory g (more ++ h) → IsHistory g h
history_before g more h is = record {
  accepted = is.accepted;
  numbered = is.numbered;
  limited = is.limited;
  legal = legal_before g.config g.run g.limit (given g.config g.run g.limit (more ++ h) is) (within g.config g.run g.limit (more ++ h) is) more h is.legal;
}

pub closed_over : (g : Givens) (more h : List Entry) (worker : ℕ) → IsHistory g (more ++ h) → IsClosed g worker h → ((w : ℕ) → stage h w ≡ Free)
    → HasNoTurn more → IsOver g more h
closed_over g more h worker is closed free none =
    let then_ : IsAllOver g.config g.run h = shut_ends g h (history_before g more h is) closed.shut (all_idle g h worker closed.idle free closed.admitted) in
    record {
      over = overs_stay g.config g.run g.limit more h none then_.over;
      answered = λ r less. decisions_stay g.config g.run g.limit more h r (then_.answered r less);
    }

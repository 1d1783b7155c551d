-- A session stays what it is, whatever entries others make in a run.
use Rattle.std.proofs.Common.{◌≡◌, ℕ, List, ◌++◌, reverse, Option, IfSome, sym, subst}
use Rattle.std.proofs.lemmas.List.{reverse-append}
use Rattle.poa_base.specs.declared.Entry.{Entry}
use Rattle.poa_base.specs.declared.SessionEnd.{SessionEnd}
use Rattle.poa_history.specs.Legal.{IsLegal}
use Rattle.poa_history.specs.declared.Givens.{Givens}
use Rattle.poa_history.specs.Owners.{HasNone}
use Rattle.poa_history.specs.GivenRuns.{IsHistory, IsLog}
use Rattle.session_laws.specs.declared.peer.Peer.{Peer}
use Rattle.session_laws.specs.Hearing.{Heard}
use Rattle.session_laws.specs.Records.{arrived_by, joined_by, filling_by, IsPaidBy}
use Rattle.session_laws.specs.Sessions.{CauseBy, Input, IsNext, Output, Session, SessionBy}
use Rattle.session_laws.proofs.Causes.{cause_since}
use Rattle.session_laws.proofs.Ends.{output_later}
use Rattle.session_laws.proofs.Others.{arrived_others, joined_others, filling_others, paid_others, none_turned}

module _ (g : Givens) (peer : Peer) (c : ℕ) (text out : List ℕ) (end : SessionEnd) where
  -- by a history that says the same of the connection, and has all causes that stood
  pub session_same : (h k : List Entry) → arrived_by k c ≡ arrived_by h c → joined_by g k c ≡ joined_by g h c → filling_by k c ≡ filling_by h c
      → (IsPaidBy h c → IsPaidBy k c)
      → ((calls : List Heard) (due : SessionEnd) → CauseBy peer h calls text due → CauseBy peer k calls text due) → SessionBy g peer h c text out end
      → SessionBy g peer k c text out end
  session_same h k arrived joined filling paid since s = record {
    input = subst (λ calls. Input peer text calls end) (sym arrived) s.input;
    output =
        output_later peer h k text (arrived_by k c) (joined_by g k c) (IsPaidBy h c) (IsPaidBy k c) out paid (since (arrived_by k c)) end
        (subst (λ calls. Output peer h text calls (joined_by g k c) (IsPaidBy h c) out end) (sym arrived)
        (subst (λ replies. Output peer h text (arrived_by h c) replies (IsPaidBy h c) out end) (sym joined) s.output));
    filled =
        subst (λ (o : Option ℕ). IfSome o (IsNext peer text (arrived_by k c))) (sym filling)
        (subst (λ (calls : List Heard). IfSome (filling_by h c) (IsNext peer text calls)) (sym arrived) s.filled);
  }

  pub session_others : (h more : List Entry) → IsLegal g.config g.run g.limit (more ++ h) → HasNone c more → SessionBy g peer h c text out end
      → SessionBy g peer (more ++ h) c text out end
  session_others h more legal none s =
      session_same h (more ++ h) (arrived_others c h more none) (joined_others c h g more none) (filling_others c h more none) (paid_others c h more none)
      (λ calls due. cause_since g.config g.run g.limit more h legal peer calls text due) s

  pub session_stays : (log more : List Entry) → IsLog g (log ++ more) → HasNone c more → Session g peer log c text out end
      → Session g peer (log ++ more) c text out end
  session_stays log more runs none s =
      let turned = reverse-append log more in
      let legal : IsLegal g.config g.run g.limit (reverse more ++ reverse log) = (subst (IsHistory g) turned runs).legal in
      subst (λ h. SessionBy g peer h c text out end) (sym turned) (session_others (reverse log) (reverse more) legal (none_turned c more none) s)

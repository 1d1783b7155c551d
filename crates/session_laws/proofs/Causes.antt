-- Why a session ended stays so, as the run goes on.
use Rattle.std.proofs.Common.{◌≡◌, ℕ, Bool, true, false, ◌||◌, ◌==◌, List, [], ◌∷◌, ◌++◌, Some, None, refl, sym, ◌∙◌}
use Rattle.poa_base.specs.declared.Config.{Config}
use Rattle.poa_base.specs.declared.Entry.{Entry}
use Rattle.poa_base.specs.declared.Entry.TheVariants.{Filled, Admit, Abandon}
use Rattle.poa_base.specs.declared.SessionEnd.{SessionEnd}
use Rattle.poa_base.specs.declared.SessionEnd.TheVariants.{Shut, Limit, Abandoned}
use Rattle.history_standing.specs.Arrivals.{call_of}
use Rattle.poa_history.specs.Legal.{IsLegal, MayFollow, is_filled}
use Rattle.history_standing.specs.Stages.{is_abandoned}
use Rattle.poa_history.specs.Leaving.{is_shut, is_shut_by}
use Rattle.poa_history.specs.Limits.{filled_at}
use Rattle.session_laws.specs.declared.peer.Peer.{Peer}
use Rattle.session_laws.specs.Hearing.{Heard}
use Rattle.session_laws.specs.Sessions.{CauseBy}

or_later : (a b : Bool) → b ≡ true → (a || b) ≡ true
or_later true b is = refl
or_later false b is = is

pub shut_later : (e : Entry) (past : List Entry) → is_shut past ≡ true → is_shut (e ∷ past) ≡ true
shut_later (Admit w r verdict) past is = or_later (is_shut_by (call_of past r)) (is_shut past) is
shut_later e past is = is

abandoned_later : (e : Entry) (past : List Entry) (w : ℕ) → is_abandoned past w ≡ true → is_abandoned (e ∷ past) w ≡ true
abandoned_later (Abandon v) past w is = or_later (v == w) (is_abandoned past w) is
abandoned_later e past w is = is

filled_is : (h : List Entry) (at : ℕ × ℕ) → filled_at h ≡ Some at → is_filled h ≡ true
filled_is [] at is = absurd (let e : None ≡ Some at = is in cc)
filled_is (Filled conn size ∷ past) at is = refl
filled_is (e ∷ past) at is = filled_is past at is

module _ (c : Config) (run limit : ℕ) where
  filled_later : (e : Entry) (past : List Entry) (at : ℕ × ℕ) → MayFollow c run limit past e → filled_at past ≡ Some at → filled_at (e ∷ past) ≡ Some at
  filled_later (Filled conn size) past at may is = absurd (let f : true ≡ false = sym (filled_is past at is) ∙ may.first in cc)
  filled_later e past at may is = is

  pub cause_later : (e : Entry) (past : List Entry) → MayFollow c run limit past e → (peer : Peer) (calls : List Heard) (text : List ℕ) (end : SessionEnd)
      → CauseBy peer past calls text end → CauseBy peer (e ∷ past) calls text end
  cause_later e past may peer calls text Shut is = shut_later e past is
  cause_later e past may peer calls text (Limit many bytes) is = (filled_later e past (many, bytes) may is.0, is.1, is.2)
  cause_later e past may peer calls text (Abandoned worker) is = abandoned_later e past worker is
  cause_later e past may peer calls text end is = is

  pub cause_since : (more past : List Entry) → IsLegal c run limit (more ++ past) → (peer : Peer) (calls : List Heard) (text : List ℕ) (end : SessionEnd)
      → CauseBy peer past calls text end → CauseBy peer (more ++ past) calls text end
  cause_since [] past legal peer calls text end is = is
  cause_since (e ∷ more) past legal peer calls text end is =
      cause_later e (more ++ past) legal.0 peer calls text end (cause_since more past legal.1 peer calls text end is)

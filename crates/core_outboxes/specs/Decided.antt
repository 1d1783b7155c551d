-- The replies that are decided, and not collected.
use Rattle.std.specs.Prelude.{◌≡◌, ℕ, ◌<◌, ◌==◌, Bool, true, false, not, ◌&&◌, List, [], ◌∷◌, ◌++◌, map, filter, Option, Some, None, option_map, if◌then◌else◌, Result, IfOk}
use Rattle.poa_base.specs.declared.Call.{Call}
use Rattle.poa_base.specs.declared.Config.{Config}
use Rattle.poa_base.specs.declared.Outcome.{Outcome}
use Rattle.poa_base.specs.declared.Reply.{Reply}
use Rattle.poa_base.specs.declared.Reply.TheVariants.{Answer as AnswerReply}
use Rattle.poa_base.specs.declared.Answer.TheVariants.{Good}
use Rattle.poa_base.specs.declared.Entry.{Entry}
use Rattle.history_standing.specs.Arrivals.{arrivals, call_of, conn_of}
use Rattle.poa_history.specs.Replies.{asks, decided, is_collected, is_decided_by, number_of, reply_by, reply_of}
use Rattle.history_standing.specs.Stages.{is_at}
use Rattle.history_standing.specs.declared.stage.Stage.{Stage}
use Rattle.poa_history.specs.States.{Stored}
use Rattle.history_standing.specs.Trees.{In}
use Rattle.core_settings.specs.declared.settings.Settings.{Settings}
use Rattle.core_outboxes.specs.Comes.{Comes}
use Rattle.core_outboxes.specs.declared.decision.Decision.{Decision}
use Rattle.core_outboxes.specs.declared.filed.Filed.{Filed}
use Rattle.poa_history.specs.Numbers.{below}
use Rattle.poa_history.specs.Heads.{head_of}

-- the entry decides the arrival, which asks a reply
abbrev pub is_answered_by : Config → ℕ → Entry → List Entry → ℕ → Bool
is_answered_by c run e past r = asks (call_of past r) && (decided c run (e ∷ past) r && not (decided c run past r))

-- the arrivals that were given replies, by their deciding entries, and those of one entry by their numbers
abbrev pub answered : Config → ℕ → List Entry → List ℕ
answered c run [] = []
answered c run (e ∷ past) = answered c run past ++ filter (is_answered_by c run e past) (below (arrivals past))

-- what is kept of a reply
pub record IsFiled (c : Config) (run : ℕ) (opened : Stored) (h : List Entry) (f : Filed) : Type 0 where
  pub conn : conn_of h f.arrival ≡ Some f.conn
  pub head : head_of (call_of h f.arrival) ≡ f.head
  pub reply : reply_of c run opened h f.arrival ≡ Some f.reply

-- all of them that aren't collected, in that order
pub record AreFiled (c : Config) (run : ℕ) (opened : Stored) (h : List Entry) (fs : List Filed) : Type 0 where
  pub which : map (λ f. f.arrival) fs ≡ filter (λ r. not (is_collected h r)) (answered c run h)
  pub each : (f : Filed) → In f fs → IsFiled c run opened h f

-- the arrival that is decided, if one
abbrev pub target_of : Option Decision → Option ℕ
target_of decision = option_map (λ it. it.arrival) decision

-- the reply of an arrival that an entry decides; to a command that waited it is `ok`
abbrev pub reply_to : Option Decision → ℕ → ℕ → Reply
reply_to (Some it) r number = if it.arrival == r then it.reply else AnswerReply number Good
reply_to None r number = AnswerReply number Good

-- what an entry decides: this arrival or none that it speaks of, and commands that waited
pub record Decides (c : Config) (run : ℕ) (opened : Stored) (past : List Entry) (e : Entry) (decision : Option Decision) : Type 0 where
  pub target_is : (r : ℕ) → r < arrivals past → is_decided_by past e r ≡ is_at r (target_of decision)
  pub reply_is : (r : ℕ) → r < arrivals past → decided c run past r ≡ false → decided c run (e ∷ past) r ≡ true
      → reply_by c run opened past e r ≡ Some (reply_to decision r (number_of (call_of past r)))

-- where it succeeds, it is what the entry decides after each history that it comes after
abbrev pub DecidesNext : {E : Type 0} → Config → Entry → Stage → Option Call → Settings → Option Outcome → Result (Option Decision) E → Type 0
DecidesNext c e begun call settings outcome result =
    (run : ℕ) (opened : Stored) (past : List Entry) → Comes c run opened past e begun call settings outcome
    → IfOk result (Decides c run opened past e)

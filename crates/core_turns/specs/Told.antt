-- What is known of a run is what its history tells.
use Rattle.std.specs.Prelude.{◌≡◌, ℕ, Bool, List, reverse, Some}
use Rattle.poa_base.specs.declared.Call.{Call}
use Rattle.poa_base.specs.declared.Config.{Config}
use Rattle.poa_base.specs.declared.Entry.{Entry}
use Rattle.history_standing.specs.Arrivals.{call_of}
use Rattle.history_standing.specs.Situations.{is_crowded}
use Rattle.history_standing.specs.Standings.{Standing}
use Rattle.core_standing.specs.Answers.{AnswersAs}
use Rattle.core_standing.specs.Seen.{seen}
use Rattle.core_settings.specs.Told.{SettingsAgree}
use Rattle.core_settings.specs.declared.settings.Settings.{Settings}
use Rattle.core_turns.specs.declared.known.Known.{Known}
use Rattle.core_arrivals.specs.Placed.{CallsAgree}
use Rattle.core_arrivals.specs.Queued.{QueueAgrees}

-- the newest entry first
abbrev pub history : Known → List Entry
history k = reverse k.entries.now.items

pub record KnownAgrees (k : Known) : Type 0 where
  pub called : CallsAgree (history k) k.calls.now.places.items
  pub queued : QueueAgrees (history k) k.queue.now
  pub stands : AnswersAs k.config.now k.run (history k) (seen k.standing.now)
  pub set : SettingsAgree k.config.now (history k) k.settings.now

-- what holds of each arrival of this call, after each history that what stands and what is set agree with
abbrev pub ArrivalTells : Config → ℕ → Standing → Settings → Bool → Call → (List Entry → ℕ → Type 0) → Type 0
ArrivalTells c run standing settings crowded call says =
    (past : List Entry) (r : ℕ) → AnswersAs c run past standing → SettingsAgree c past settings → crowded ≡ is_crowded past r
    → call_of past r ≡ Some call → says past r

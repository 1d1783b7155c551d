-- A script leaves the givens of the run as they are.
use Rattle.std.proofs.Common.{◌≡◌, ℕ, Bool, true, false, List, [], ◌∷◌, Option, Some, None, slice_get, sym, subst}
use Rattle.history_standing.specs.Arrivals.{connections}
use Rattle.poa_history.specs.Life.{Life}
use Rattle.replay_script.specs.declared.ScriptStep.{ScriptStep}
use Rattle.replay_script.specs.declared.Step.{Step}
use Rattle.replay_script.specs.declared.Step.TheVariants as step
use Rattle.replay_run.specs.declared.channel.Channel.{Channel}
use Rattle.replay_run.specs.World.{World, Talk}
use Rattle.replay_run.specs.Working.{Turns, Runs, ByWorker}
use Rattle.replay_run.specs.Reading.{Feeds}
use Rattle.replay_run.specs.Asking.{asked}
use Rattle.replay_run.specs.Talking.{Carries, Enters, OnChannel, OnPlace, OnLine, Commands, TalkEnds, Collects, entered, numbered, has_room}
use Rattle.replay_run.specs.Playing.{OnLife, Plays, PlaysAll}
use Rattle.replay_run.proofs.Same.{Givens, givens_life, givens_then, same_givens, still_worker_turns, still_worker_runs}
use Rattle.replay_run.proofs.Seats.{feeds_givens, commands_givens, ends_givens, collects_givens}

-- where nothing of the run changes
same_world : (w v : World) → v ≡ w → Givens w.life v.life
same_world w v same = subst (λ (u : World). Givens w.life u.life) (sym same) (givens_life w.life)

module _ (P : ℕ → Talk → List ℕ → Talk → Type 0)
    (keep : (conn : ℕ) (before : Talk) (text : List ℕ) (after : Talk) → P conn before text after → Givens before.life after.life) (place : ℕ) where
  carried : (channel : Channel) (conn : ℕ) (w : World) (text : List ℕ) (v : World) → Carries P place channel conn w text v → Givens w.life v.life
  carried channel conn w text v c =
      let kept : Givens w.life c.talk.life = keep conn (record { life = w.life; channel = channel }) text c.talk c.does in
      subst (λ (u : World). Givens w.life u.life) (sym c.became) kept

  entering : (b : Bool) (channel : Channel) (w : World) (text : List ℕ) (v : World) → Enters b P place channel w text v → Givens w.life v.life
  entering true channel w text v c =
      (let kept : Givens (entered w).life v.life = carried (numbered (connections w.life.history) channel) (connections w.life.history) (entered w) text v c in
      record { config = kept.config; run = kept.run; limit = kept.limit; opening = kept.opening; going = kept.going })
  entering false channel w text v r = subst (λ (u : World). Givens w.life u.life) (sym r.1) (givens_life w.life)

  on_channel : (number : Option ℕ) (channel : Channel) (w : World) (text : List ℕ) (v : World) → OnChannel number P place channel w text v
      → Givens w.life v.life
  on_channel None channel w text v e = entering (has_room w.life) channel w text v e
  on_channel (Some conn) channel w text v c = carried channel conn w text v c

  on_place : (found : Option Channel) (w : World) (text : List ℕ) (v : World) → OnPlace found P place w text v → Givens w.life v.life
  on_place None w text v s = same_world w v s.1
  on_place (Some channel) w text v c = on_channel channel.number channel w text v c

  line_givens : (w : World) (text : List ℕ) (v : World) → OnLine P place w text v → Givens w.life v.life
  line_givens w text v l = on_place (slice_get w.channels place) w text v l

life_givens : (P : Life → List ℕ → Life → Type 0) → ((a : Life) (text : List ℕ) (b : Life) → P a text b → Givens a b) → (w : World) (text : List ℕ) (v : World)
    → OnLife P w text v → Givens w.life v.life
life_givens P keep w text v o = subst (λ (u : World). Givens w.life u.life) (sym o.became) (keep w.life text o.life o.does)

pub play_givens : (s : Step) (w : World) (text : List ℕ) (v : World) → Plays s w text v → Givens w.life v.life
play_givens (step.Ask place id path oid operation argument) w text v p =
    (let bytes : List ℕ = asked w.life id path oid operation argument in line_givens (Feeds bytes) (feeds_givens bytes) place w text v p)
play_givens (step.Feed place bytes) w text v p = line_givens (Feeds bytes) (feeds_givens bytes) place w text v p
play_givens (step.End place) w text v p = line_givens TalkEnds ends_givens place w text v p
play_givens (step.Admin place words) w text v p = line_givens (Commands words) (commands_givens words) place w text v p
play_givens (step.Step worker) w text v p = life_givens (ByWorker Turns worker) (λ a t b q. same_givens a b (still_worker_turns worker a t b q).same) w text v p
play_givens (step.Run worker) w text v p = life_givens (ByWorker Runs worker) (λ a t b q. same_givens a b (still_worker_runs worker a t b q).same) w text v p
play_givens (step.Collect place) w text v p = line_givens Collects collects_givens place w text v p
play_givens step.Store w text v p = same_world w v p.1
play_givens step.Journal w text v p = same_world w v p.1

pub plays_givens : (steps : List ScriptStep) (w : World) (text : List ℕ) (v : World) → PlaysAll steps w text v → Givens w.life v.life
plays_givens [] w text v s = same_world w v s.1
plays_givens (s ∷ ss) w text v t =
    givens_then w.life t.between.life v.life (play_givens s.step w t.front t.between t.first) (plays_givens ss t.between t.rest v t.second)

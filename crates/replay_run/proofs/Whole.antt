-- A script from its first line to its end.
use Rattle.std.proofs.Common.{◌≡◌, ℕ, List, [], ◌∷◌, ◌++◌, Option, Some, None, option_map, refl, sym, ap, ◌∙◌, subst}
use Rattle.std.specs.Option.{option_or}
use Rattle.poa_base.specs.declared.Config.{Config}
use Rattle.poa_history.specs.Legal.{IsLegal, has_left}
use Rattle.poa_history.specs.Lifetime.{HasLifetime}
use Rattle.poa_history.specs.Life.{Life, opened}
use Rattle.history_laws.specs.Lasting.{KeepsUpdates, LeavesNothing}
use Rattle.poa_core.specs.Answers.{filled_at, unadmitted}
use Rattle.replay_script.specs.declared.Script.{Script}
use Rattle.replay_script.specs.declared.Step.{Step}
use Rattle.replay_script.specs.declared.Step.TheVariants as step
use Rattle.poa_base.specs.declared.Entry.{Entry}
use Rattle.poa_base.specs.declared.Entry.TheVariants.{Collect}
use Rattle.history_laws.specs.Undone.{AreIdle}
use Rattle.poa_history.specs.Runs.{IsRun}
use Rattle.history_standing.specs.Stages.{is_abandoned}
use Rattle.poa_history.specs.Turns.{turn}
use Rattle.replay_run.proofs.Idle.{idle_at_end}
use Rattle.replay_run.specs.declared.channel.Channel.{Channel}
use Rattle.replay_run.specs.declared.full.Full.{Full}
use Rattle.replay_run.specs.declared.played.Played.{Played}
use Rattle.replay_run.specs.declared.player.Player.{Player}
use Rattle.replay_run.specs.Lines.{reply_line}
use Rattle.replay_run.specs.World.{World, Talk}
use Rattle.replay_run.specs.Working.{Then, Rests}
use Rattle.replay_run.specs.Talking.{OnLine, entered, turned_away, Carries, Collects}
use Rattle.replay_run.specs.Playing.{AreFresh, CollectsEach, CollectsOf, IsPlayed, OnLife, Plays, PlaysAll, IsOpening, Outputs}
use Rattle.replay_run.specs.Opening.{life_at_first}
use Rattle.replay_run.specs.Effects.{numbers, PlayerPrints, Works}
use Rattle.replay_run.specs.Keeping.{IsAtFirst, Keeps, Shows, world, IsSeated}
use Rattle.poa_base.specs.declared.Datum.{Datum}
use Rattle.replay_run.specs.Asking.{asked}
use Rattle.replay_run.specs.Reading.{Feeds}
use Rattle.session_laws.specs.Calls.{Each, IsSaid}
use Rattle.session_laws.proofs.Calls.{each_none}
use Rattle.replay_run.proofs.Listed.{fresh_none}
use Rattle.replay_run.proofs.Seats.{keeps_still}
use Rattle.replay_run.proofs.Steps.{plays_givens}
use Rattle.replay_run.proofs.Given.{legal_for, run_for, lifetime_for, undone_for, updates_for}
use Rattle.replay_run.proofs.Same.{Still, Givens, givens_then, same_givens, still_life, still_then, still_stays, still_settles, still_collects}

-- a step of the workers
pub life_shows : (P : Life → List ℕ → Life → Type 0) (old new : Player) (xs : List Channel) → Works P old new → Shows (OnLife P) old new xs xs
life_shows P old new xs p = record {
  text = p.text;
  printed = p.printed;
  does = record {
    life = new.core;
    does = p.does;
    became = ap (λ (o : Option Full). let w : World = record { life = new.core; channels = xs; turned_away = o } in w) p.turned_away;
  };
}

-- the step of a line
pub step_shows : (s t : Step) (old new : Player) (xs ys : List Channel) → s ≡ t → Shows (Plays t) old new xs ys → Shows (Plays s) old new xs ys
step_shows s t old new xs ys same p = subst (λ (u : Step). Shows (Plays u) old new xs ys) (sym same) p

-- a request that was fed
pub ask_shows : (place id : ℕ) (path : List (List ℕ)) (oid operation bytes : List ℕ) (argument : Option Datum) (old new : Player) (xs ys : List Channel)
    → bytes ≡ asked old.core id path oid operation argument → Shows (OnLine (Feeds bytes) place) old new xs ys
    → Shows (Plays (step.Ask place id path oid operation argument)) old new xs ys
ask_shows place id path oid operation bytes argument old new xs ys same p = record {
  text = p.text;
  printed = p.printed;
  does = subst (λ (b : List ℕ). OnLine (Feeds b) place (world old xs) p.text (world new ys)) same p.does;
}

-- what is known of connections where something was printed
pub keeps_printed : (P : List ℕ → Type 0) (old new : Player) (xs : List Channel) → Keeps old xs → PlayerPrints P old new → Keeps new xs
keeps_printed P old new xs k p = keeps_still old new xs k (subst (λ (l : Life). Still old.core l) (sym p.core) (still_life old.core)) p.filled

pub keeps_first : (c : Config) (limit : ℕ) (player : Player) (names : List (List ℕ)) (channels : List Channel) → IsAtFirst c limit player
    → AreFresh names channels → Keeps player channels
keeps_first c limit player names channels first fresh = record {
  filled = ap (λ o. option_map numbers o) first.filled ∙ sym (ap (λ (l : Life). filled_at l.history) first.life);
  seated = λ i a at. record {
    entered = λ n is. absurd (let e : None ≡ Some n = sym (fresh_none names channels fresh i a at) ∙ is in cc);
    staying = λ n is. absurd (let e : None ≡ Some n = sym (fresh_none names channels fresh i a at) ∙ is in cc);
  };
  alone = λ i j n a b at there is also. absurd (let e : None ≡ Some n = sym (fresh_none names channels fresh i a at) ∙ is in cc);
  later = λ n more. ap (λ (l : Life). has_left l.history n) first.life;
  said = subst (λ (l : Life). Each IsSaid l.history) (sym first.life) (each_none IsSaid [] (λ r. refl));
}

pub still_of : (name : List ℕ) (number : Option ℕ) (a : Life) (text : List ℕ) (b : Life) → CollectsOf name number a text b → Still a b
still_of name None a text b s = still_stays a text b s
still_of name (Some conn) a text b s = still_collects (reply_line name) conn a text b s

pub still_each : (channels : List Channel) (a : Life) (text : List ℕ) (b : Life) → CollectsEach channels a text b → Still a b
still_each [] a text b s = still_stays a text b s
still_each (c ∷ cs) a text b t = still_then a t.between b (still_of c.name c.number a t.front t.between t.first) (still_each cs t.between t.rest b t.second)

still_finished : (channels : List Channel) (a : Life) (text : List ℕ) (b : Life) → Then Rests (CollectsEach channels) a text b → Still a b
still_finished channels a text b t = still_then a t.between b (still_settles a t.front t.between t.first) (still_each channels t.between t.rest b t.second)

map_or : (a b : Option Full) → option_map numbers (option_or a b) ≡ option_or (option_map numbers a) (option_map numbers b)
map_or None b = refl
map_or (Some f) b = refl

full_is : (a b : Option Full) (at : Option (ℕ × ℕ)) → option_map numbers a ≡ at
    → option_map numbers (option_or a b) ≡ option_or at (option_map numbers b)
full_is a b at is = map_or a b ∙ ap (λ o. option_or o (option_map numbers b)) is

pub is_played : (c : Config) (limit : ℕ) (script : Script) (answer : Played) (p q r : Player) (xs ys : List Channel)
    → IsAtFirst c limit p → AreFresh script.connections xs → Keeps q ys → Shows (PlaysAll script.steps) p q xs ys → Works (Then Rests (CollectsEach ys)) q r
    → answer.printed ≡ r.printed.items → answer.held ≡ unadmitted r.core.history → answer.full ≡ option_or r.filled r.turned_away
    → ((c : Config) (run limit : ℕ) (h : List Entry) → IsRun c run limit h → (conn a w : ℕ) → turn c run (Collect conn a ∷ h) w ≡ turn c run h w)
    → IsRun r.core.config r.core.run r.core.limit r.core.history → IsLegal r.core.config r.core.run r.core.limit r.core.history
    → HasLifetime r.core.config r.core.run r.core.history
    → LeavesNothing r.core.config r.core.run r.core.history → KeepsUpdates r.core.config r.core.run (opened r.core) r.core.history
    → IsPlayed c limit script answer
is_played c limit script answer p q r xs ys first fresh keeps shows works printed held full collecting runs legal lifetime undone updates =
    let still : Still q.core r.core = still_finished ys q.core works.text r.core works.does in
    let played : Givens p.core q.core = plays_givens script.steps (world p xs) shows.text (world q ys) shows.does in
    let givens : Givens (life_at_first c limit) r.core =
    subst (λ (l : Life). Givens l r.core) first.life (givens_then p.core q.core r.core played (same_givens q.core r.core still.same)) in
    let is_run : IsRun c c.run limit r.core.history = run_for c limit r.core givens runs in
    let idle : AreIdle c c.run r.core.history = idle_at_end c c.run limit
    (λ h lawful conn a w. collecting c c.run limit h
    (record { accepted = is_run.accepted; numbered = is_run.numbered; limited = is_run.limited; legal = lawful }) conn a w)
    ys q.core works.text r.core works.does (played.config ∙ ap (λ (l : Life). l.config) first.life) (played.run ∙ ap (λ (l : Life). l.run) first.life)
    (λ w. played.going w ∙ ap (λ (l : Life). is_abandoned l.history w) first.life) is_run.legal in
    let filled : option_map numbers r.filled ≡ filled_at r.core.history =
    ap (λ o. option_map numbers o) works.filled ∙ (keeps.filled ∙ sym still.filled) in
    record {
      played = world q ys;
      last = r.core;
      outputs = record {
        opening = world p xs;
        opens = record { life = first.life; channels = fresh; nobody = first.turned_away };
        front = shows.text;
        rest = works.text;
        plays = shows.does;
        finishes = works.does;
        joined = printed ∙ (works.printed ∙ ap (λ (t : List ℕ). t ++ works.text) (shows.printed ∙ ap (λ (t : List ℕ). t ++ shows.text) first.printed));
      };
      legal = legal_for c limit r.core givens legal;
      lifetime = lifetime_for c limit r.core givens lifetime;
      undone = undone_for c limit r.core givens undone;
      left = (undone_for c limit r.core givens undone).done idle;
      updates = updates_for c limit r.core givens updates;
      held = held;
      full = ap (λ o. option_map numbers o) full
          ∙ (full_is r.filled r.turned_away (filled_at r.core.history) filled
          ∙ ap (λ o. option_or (filled_at r.core.history) (option_map numbers o)) works.turned_away);
    }

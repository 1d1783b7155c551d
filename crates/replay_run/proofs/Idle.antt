-- Behind its last line a script leaves no worker a next entry: they run until they rest, and to collect changes no turn.
use Rattle.std.proofs.Common.{◌≡◌, ℕ, true, false, List, [], ◌∷◌, Option, Some, None, inl, inr, sym, ◌∙◌, subst}
use Rattle.std.proofs.lemmas.Bool.{true≢false}
use Rattle.poa_base.specs.declared.Config.{Config}
use Rattle.poa_base.specs.declared.Entry.{Entry}
use Rattle.poa_base.specs.declared.Entry.TheVariants.{Collect}
use Rattle.poa_base.specs.declared.Head.{Head}
use Rattle.poa_base.specs.declared.Reply.{Reply}
use Rattle.history_laws.specs.Undone.{AreIdle}
use Rattle.poa_history.specs.Legal.{IsLegal}
use Rattle.history_standing.specs.Stages.{is_abandoned}
use Rattle.poa_history.specs.Turns.{turn}
use Rattle.poa_history.specs.Life.{Life, with_entry}
use Rattle.replay_run.specs.declared.channel.Channel.{Channel}
use Rattle.replay_run.specs.Lines.{reply_line}
use Rattle.replay_run.specs.Working.{AllIdle, Rests, rested, settles_on, Then, Stays}
use Rattle.replay_run.specs.Collecting.{CollectsAll, none_left, collects_on}
use Rattle.replay_run.specs.Playing.{CollectsOf, CollectsEach}
use Rattle.replay_run.proofs.Same.{still_settles}

rests_idle : (life : Life) (text : List ℕ) (last : Life) → Rests life text last → AllIdle last
rests_idle life text last (rested a idle) = idle
rests_idle life text last (settles_on a between b front rest round more) = rests_idle between rest b more

module _ (c : Config) (run limit : ℕ)
    (stays : (h : List Entry) → IsLegal c run limit h → (conn r w : ℕ) → turn c run (Collect conn r ∷ h) w ≡ turn c run h w) where
  -- where the later history is legal, so is the earlier one, and no worker gets a next entry from there on
  abbrev Leads : Life → Life → Type 0
  Leads a b = IsLegal c run limit b.history → IsLegal c run limit a.history × (AreIdle c run a.history → AreIdle c run b.history)

  stays_led : (a : Life) (text : List ℕ) (b : Life) → Stays a text b → Leads a b
  stays_led a text b s = subst (λ (x : Life). Leads a x) (sym s.1) (λ legal. (legal, λ idle. idle))

  all_led : (say : Head → Reply → List ℕ) (conn : ℕ) (a : Life) (text : List ℕ) (b : Life) → CollectsAll say conn a text b → Leads a b
  all_led say conn life text last (none_left a none) = λ legal. (legal, λ idle. idle)
  all_led say conn life text last (collects_on a b r reply rest next is more) = λ legal.
      (let later = all_led say conn (with_entry (Collect conn r) a) rest b more legal in
      (later.0.1, λ idle. later.1 (λ w less. stays a.history later.0.1 conn r w ∙ idle w less)))

  of_led : (name : List ℕ) (number : Option ℕ) (a : Life) (text : List ℕ) (b : Life) → CollectsOf name number a text b → Leads a b
  of_led name None a text b s = stays_led a text b s
  of_led name (Some conn) a text b s = all_led (reply_line name) conn a text b s

  each_led : (channels : List Channel) (a : Life) (text : List ℕ) (b : Life) → CollectsEach channels a text b → Leads a b
  each_led [] a text b s = stays_led a text b s
  each_led (x ∷ xs) a text b t = λ legal.
      (let second = each_led xs t.between t.rest b t.second legal in
      let first = of_led x.name x.number a t.front t.between t.first second.0 in
      (first.0, λ idle. second.1 (first.1 idle)))

  pub idle_at_end : (channels : List Channel) (q : Life) (text : List ℕ) (last : Life) → Then Rests (CollectsEach channels) q text last
      → q.config ≡ c → q.run ≡ run → ((w : ℕ) → is_abandoned q.history w ≡ false) → IsLegal c run limit last.history → AreIdle c run last.history
  idle_at_end channels q text last t config run_is going legal =
      let still = still_settles q t.front t.between t.first in
      let second = each_led channels t.between t.rest last t.second legal in
      second.1 (λ w less. elim (rests_idle q t.front t.between t.first w less) [
        | inl given_up ↦ absurd (true≢false (sym given_up ∙ (still.same.going w ∙ going w)))
        | inr none ↦ subst (λ (d : Config). turn d run t.between.history w ≡ None) (still.same.config ∙ config)
            (subst (λ (r : ℕ). turn t.between.config r t.between.history w ≡ None) (still.same.run ∙ run_is) none)
      ])

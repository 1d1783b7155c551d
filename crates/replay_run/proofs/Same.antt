-- What the parts of a script leave as it was: the givens of the run, and who has entered and left.
use Rattle.std.proofs.Common.{◌≡◌, ℕ, zero, suc, Bool, true, false, List, refl, sym, ◌∙◌, subst}
use Rattle.poa_base.specs.declared.Entry.{Entry}
use Rattle.poa_base.specs.declared.Entry.TheVariants.{Collect}
use Rattle.poa_base.specs.declared.Head.{Head}
use Rattle.poa_base.specs.declared.Reply.{Reply}
use Rattle.history_standing.specs.Arrivals.{call_of, connections}
use Rattle.poa_history.specs.Legal.{has_left}
use Rattle.history_standing.specs.Stages.{is_abandoned}
use Rattle.poa_history.specs.Life.{Life, with_entry}
use Rattle.poa_core.specs.Answers.{filled_at}
use Rattle.replay_run.specs.Working.{Makes, Turns, makes, idles, Runs, runs_out, runs_on, Stays, RunsBelow, Rests, rested, settles_on, ByWorker, Either, is_worker, Then}
use Rattle.replay_run.specs.Collecting.{CollectsAll, none_left, collects_on}
use Rattle.replay_run.proofs.Turning.{IsApart, turn_apart}

pub record Same (old new : Life) : Type 0 where
  pub config : new.config ≡ old.config
  pub run : new.run ≡ old.run
  pub limit : new.limit ≡ old.limit
  pub opening : new.opening ≡ old.opening
  pub entered : connections new.history ≡ connections old.history
  pub left : (n : ℕ) → has_left new.history n ≡ has_left old.history n
  pub going : (w : ℕ) → is_abandoned new.history w ≡ is_abandoned old.history w

-- the givens of the run, and who gave up
pub record Givens (old new : Life) : Type 0 where
  pub config : new.config ≡ old.config
  pub run : new.run ≡ old.run
  pub limit : new.limit ≡ old.limit
  pub opening : new.opening ≡ old.opening
  pub going : (w : ℕ) → is_abandoned new.history w ≡ is_abandoned old.history w

pub givens_life : (life : Life) → Givens life life
givens_life life = record { config = refl; run = refl; limit = refl; opening = refl; going = λ w. refl }

pub givens_then : (a b c : Life) → Givens a b → Givens b c → Givens a c
givens_then a b c p q =
    record { config = q.config ∙ p.config; run = q.run ∙ p.run; limit = q.limit ∙ p.limit; opening = q.opening ∙ p.opening; going = λ w. q.going w ∙ p.going w }

pub same_givens : (old new : Life) → Same old new → Givens old new
same_givens old new s = record { config = s.config; run = s.run; limit = s.limit; opening = s.opening; going = s.going }

-- and no call arrived, and the run is as full as it was
pub record Still (old new : Life) : Type 0 where
  pub same : Same old new
  pub filled : filled_at new.history ≡ filled_at old.history
  pub calls : (r : ℕ) → call_of new.history r ≡ call_of old.history r

pub same_life : (life : Life) → Same life life
same_life life = record { config = refl; run = refl; limit = refl; opening = refl; entered = refl; left = λ n. refl; going = λ w. refl }

pub same_then : (a b c : Life) → Same a b → Same b c → Same a c
same_then a b c p q = record {
  config = q.config ∙ p.config;
  run = q.run ∙ p.run;
  limit = q.limit ∙ p.limit;
  opening = q.opening ∙ p.opening;
  entered = q.entered ∙ p.entered;
  left = λ n. q.left n ∙ p.left n;
  going = λ w. q.going w ∙ p.going w;
}

pub still_life : (life : Life) → Still life life
still_life life = record { same = same_life life; filled = refl; calls = λ r. refl }

pub still_then : (a b c : Life) → Still a b → Still b c → Still a c
still_then a b c p q = record { same = same_then a b c p.same q.same; filled = q.filled ∙ p.filled; calls = λ r. q.calls r ∙ p.calls r }

-- what leaves the state as it was
pub still_stays : (a : Life) (text : List ℕ) (b : Life) → Stays a text b → Still a b
still_stays a text b s = subst (λ (x : Life). Still a x) (sym s.1) (still_life a)

pub still_made : (life : Life) (w : ℕ) (e : Entry) → Makes life w e → Still life (with_entry e life)
still_made life w e m =
    let apart : IsApart e = turn_apart life.config life.run life.history w e m.next in
    record {
      same = record {
        config = refl;
        run = refl;
        limit = refl;
        opening = refl;
        entered = apart.entered life.history;
        left = λ n. apart.left life.history n;
        going = λ v. apart.going life.history v;
      };
      filled = apart.filled life.history;
      calls = λ r. apart.calls life.history r;
    }

still_turns : (w : ℕ) (life : Life) (text : List ℕ) (after : Life) → Turns w life text after → Still life after
still_turns w life text after (makes e m told became) = subst (λ (x : Life). Still life x) (sym became) (still_made life w e m)
still_turns w life text after (idles idle told became) = subst (λ (x : Life). Still life x) (sym became) (still_life life)

pub still_runs : (w : ℕ) (life : Life) (text : List ℕ) (last : Life) → Runs w life text last → Still life last
still_runs w life text last (runs_out a idle) = still_life a
still_runs w life text last (runs_on a e rest b m more) =
    still_then a (with_entry e a) b (still_made a w e m) (still_runs w (with_entry e a) rest b more)

still_below : (n : ℕ) (life : Life) (text : List ℕ) (last : Life) → RunsBelow n life text last → Still life last
still_below zero life text last s = still_stays life text last s
still_below (suc n) life text last t =
    still_then life t.between last (still_below n life t.front t.between t.first) (still_runs n t.between t.rest last t.second)

pub still_settles : (life : Life) (text : List ℕ) (last : Life) → Rests life text last → Still life last
still_settles life text last (rested a idle) = still_life a
still_settles life text last (settles_on a between b front rest round more) =
    still_then a between b (still_below 16 a front between round) (still_settles between rest b more)

by_worker : (P : ℕ → Life → List ℕ → Life → Type 0) → ((w : ℕ) (life : Life) (text : List ℕ) (after : Life) → P w life text after → Still life after)
    → (b : Bool) (w : ℕ) (life : Life) (text : List ℕ) (after : Life) → Either b (P w) Stays life text after → Still life after
by_worker P still true w life text after p = still w life text after p
by_worker P still false w life text after s = still_stays life text after s

pub still_worker_turns : (w : ℕ) (life : Life) (text : List ℕ) (after : Life) → ByWorker Turns w life text after → Still life after
still_worker_turns w life text after p = by_worker Turns still_turns (is_worker w) w life text after p

pub still_worker_runs : (w : ℕ) (life : Life) (text : List ℕ) (after : Life) → ByWorker Runs w life text after → Still life after
still_worker_runs w life text after p = by_worker Runs still_runs (is_worker w) w life text after p

pub still_collects : (say : Head → Reply → List ℕ) (conn : ℕ) (life : Life) (text : List ℕ) (last : Life) → CollectsAll say conn life text last
    → Still life last
still_collects say conn life text last (none_left a none) = still_life a
still_collects say conn life text last (collects_on a b r reply rest next is more) =
    still_then a (with_entry (Collect conn r) a) b
    (record {
      same = record { config = refl; run = refl; limit = refl; opening = refl; entered = refl; left = λ n. refl; going = λ w. refl };
      filled = refl;
      calls = λ r. refl;
    })
    (still_collects say conn (with_entry (Collect conn r) a) rest b more)

-- The calls of the core, as turns and replies one behind the other.
use Rattle.std.proofs.Common.{◌≡◌, ℕ, List, [], ◌++◌, Ok, Bool, false, refl, sym, subst}
use Rattle.poa_base.specs.declared.Entry.{Entry}
use Rattle.poa_base.specs.declared.Head.{Head}
use Rattle.poa_base.specs.declared.Point.{Point}
use Rattle.poa_base.specs.declared.Reply.{Reply}
use Rattle.history_standing.specs.Arrivals.{call_of}
use Rattle.poa_history.specs.Life.{Life, with_entry}
use Rattle.poa_core.specs.Answers.{Steps, Collects}
use Rattle.poa_history.specs.Heads.{head_of}
use Rattle.poa_core.specs.declared.StepOut.TheVariants as step_out
use Rattle.poa_core.specs.declared.Collected.TheVariants as collected
use Rattle.replay_run.specs.declared.player.Player.{Player}
use Rattle.replay_run.specs.Lines.{reply_line}
use Rattle.replay_run.specs.Working.{Makes}
use Rattle.replay_run.specs.Collecting.{CollectsAll, none_left, collects_on}
use Rattle.replay_run.specs.Effects.{Works, CollectsOne, CollectsNext}
use Rattle.replay_run.proofs.PlayedOnward.{Onward, works_end, works_still}
use Rattle.replay_run.proofs.Same.{Same, Still, still_made}

-- a step that made an entry
pub record Did (w : ℕ) (old new : Life) : Type 0 where
  pub entry : Entry
  pub makes : Makes old w entry
  pub life : new ≡ with_entry entry old

pub did : (w : ℕ) (old new : Life) (point : Point) → Steps w old (Ok (step_out.Did point)) new → Did w old new
did w old new point s = record { entry = s.2.0; makes = record { going = s.0; next = s.2.1 }; life = s.2.2 }

pub did_still : (w : ℕ) (old new : Life) → Did w old new → Still old new
did_still w old new d = subst (λ (l : Life). Still old l) (sym d.life) (still_made old w d.entry d.makes)

-- a reply in front of others
pub collected_one : (say : Head → Reply → List ℕ) (conn : ℕ) (old new last : Life) (r : ℕ) (head : Head) (reply : Reply) (more : List ℕ)
    → Collects conn old (collected.Reply r head reply) new → CollectsAll say conn new more last → CollectsAll say conn old (say head reply ++ more) last
collected_one say conn old new last r head reply more c all =
    subst (λ (h : Head). CollectsAll say conn old (say h reply ++ more) last) (sym c.1)
    (collects_on old last r reply more c.0 c.2 (subst (λ (l : Life). CollectsAll say conn l more last) c.3 all))

pub collected_still : (conn : ℕ) (old new : Life) (r : ℕ) (head : Head) (reply : Reply) → Collects conn old (collected.Reply r head reply) new → Still old new
collected_still conn old new r head reply c =
    subst (λ (l : Life). Still old l) (sym c.3)
    (record {
      same = record { config = refl; run = refl; limit = refl; opening = refl; entered = refl; left = λ n. refl; going = λ w. refl };
      filled = refl;
      calls = λ n. refl;
    })

-- none is decided
pub collected_none : (say : Head → Reply → List ℕ) (conn : ℕ) (old new : Life) (owes : ℕ) → Collects conn old (collected.Nothing owes) new
    → CollectsAll say conn old [] new
collected_none say conn old new owes c = subst (λ (l : Life). CollectsAll say conn old [] l) (sym c.2) (none_left old c.0)

-- the same, with what was printed
pub reply_onward : (name : List ℕ) (conn : ℕ) (old new : Player) → CollectsOne name conn old new → Works (Onward (CollectsAll (reply_line name) conn)) old new
reply_onward name conn old new p = record {
  text = reply_line name (head_of (call_of old.core.history p.arrival)) p.reply;
  printed = p.printed;
  does = λ more last r. collects_on old.core last p.arrival p.reply more p.next p.is
      (subst (λ (l : Life). CollectsAll (reply_line name) conn l more last) p.life r);
  filled = p.filled;
  turned_away = p.turned_away;
}

pub replies_end : (name : List ℕ) (conn : ℕ) (a b c : Player) → Works (Onward (CollectsAll (reply_line name) conn)) a b → CollectsNext false name conn b c
    → Works (CollectsAll (reply_line name) conn) a c
replies_end name conn a b c p none =
    works_end (CollectsAll (reply_line name) conn) a b c p (works_still (CollectsAll (reply_line name) conn) b c none.1 (none_left b.core none.0))

pub next_is : (b c : Bool) (name : List ℕ) (conn : ℕ) (old new : Player) → b ≡ c → CollectsNext b name conn old new → CollectsNext c name conn old new
next_is b c name conn old new e n = subst (λ (x : Bool). CollectsNext x name conn old new) e n

-- The turns of worker 0, and what is collected then.
use Rattle.std.proofs.Common.{◌≡◌, ℕ, Bool, true, false, Some, List, ◌∷◌, ◌++◌, Ok, Err, refl, sym, ap, ◌∙◌, subst, append_assoc, arith, inl, inr}
use Rattle.std.specs.Prelude.{OnOk, Result, is_ok, if◌then◌else◌}
use Rattle.poa_base.specs.declared.Call.{Call}
use Rattle.poa_base.specs.declared.Head.{Head}
use Rattle.poa_base.specs.declared.Point.{Point}
use Rattle.poa_base.specs.declared.Reply.{Reply}
use Rattle.giop_answer.specs.Reply.{reply_bytes}
use Rattle.poa_history.specs.Legal.{is_filled}
use Rattle.poa_history.specs.Life.{Life, with_entry}
use Rattle.poa_core.specs.Answers.{Arrives, Steps, Collects, filled_at, filled_by, is_taken}
use Rattle.poa_core.specs.declared.ArriveFault.{ArriveFault}
use Rattle.poa_core.specs.declared.ArriveFault.TheVariants.{Limit}
use Rattle.poa_core.specs.declared.ArriveFault.TheVariants as fault
use Rattle.poa_core.specs.Fits.{FitsItsCall}
use Rattle.poa_core.specs.declared.StepOut.{StepOut}
use Rattle.poa_core.specs.declared.StepOut.TheVariants as step_out
use Rattle.poa_core.specs.declared.Collected.TheVariants as collected
use Rattle.replay_run.specs.Collecting.{CollectsAll}
use Rattle.replay_run.proofs.Turning.{turn_apart}
use Rattle.session_laws.specs.Calls.{IsHeaded, IsReplyTo}
use Rattle.session_laws.proofs.Calls.{each_none, each_same, each_more, given_answers}
use Rattle.replay_run.proofs.Arrived.{open_still}
use Rattle.replay_run.proofs.Collected.{Did, did, did_still, collected_one, collected_still}
use Rattle.poa_base.specs.declared.Config.{Config}
use Rattle.poa_base.specs.declared.Entry.TheVariants.{Arrive, Filled}
use Rattle.replay_run.proofs.Same.{Givens, Still, givens_life, givens_then, same_givens, still_collects}
use Rattle.poad_answer.specs.Meaning.{Answers, GivesBehind}
use Rattle.poad_answer.specs.Run.{life_at_answer}
use Rattle.poad_answer.specs.Serving.{GivesCall, GivesReplies, IsServing, Works, by_core, works_out, works_on}

-- what lets no call arrive
pub serving_still : (old new : Life) → Still old new → IsServing old.history → IsServing new.history
serving_still old new s is = record { stays = open_still 0 old new s.same is.stays; calls = each_same IsHeaded old.history new.history s.calls is.calls }

-- a turn in front of others
pub works_did : (old new last : Life) (point : Point) → Steps 0 old (Ok (step_out.Did point)) new → Works new last → Works old last
works_did old new last point s more =
    let d : Did 0 old new = did 0 old new point s in
    works_on old last d.entry d.makes (subst (λ (l : Life). Works l last) d.life more)

pub serving_did : (old new : Life) (point : Point) → Steps 0 old (Ok (step_out.Did point)) new → IsServing old.history → IsServing new.history
serving_did old new point s is = serving_still old new (did_still 0 old new (did 0 old new point s)) is

-- nothing is to be done
pub works_idle : (old new : Life) (over : Bool) → Steps 0 old (Ok (step_out.Idle over)) new → Works old new
works_idle old new over s = subst (λ (l : Life). Works old l) (sym s.3) (works_out old (inr s.1))

pub works_stopped : (old new : Life) → Steps 0 old (Ok step_out.Stopped) new → Works old new
works_stopped old new s = subst (λ (l : Life). Works old l) (sym s.1) (works_out old (inl s.0))

pub serving_same : (old new : Life) → new ≡ old → IsServing old.history → IsServing new.history
serving_same old new same is = subst (λ (l : Life). IsServing l.history) (sym same) is

-- a reply in front of others, behind bytes that were collected
pub replies_more : (first old new last : Life) (r : ℕ) (head : Head) (reply : Reply) (done bytes more : List ℕ) → bytes ≡ done ++ reply_bytes head reply
    → ((rest : List ℕ) (end : Life) → CollectsAll reply_bytes 0 old rest end → CollectsAll reply_bytes 0 first (done ++ rest) end)
    → Collects 0 old (collected.Reply r head reply) new → CollectsAll reply_bytes 0 new more last → CollectsAll reply_bytes 0 first (bytes ++ more) last
replies_more first old new last r head reply done bytes more is ahead c all =
    subst (λ (t : List ℕ). CollectsAll reply_bytes 0 first t last) (sym (ap (λ (b : List ℕ). b ++ more) is ∙ append_assoc done (reply_bytes head reply) more))
    (ahead (reply_bytes head reply ++ more) last (collected_one reply_bytes 0 old new last r head reply more c all))

pub serving_collected : (old new : Life) (r : ℕ) (head : Head) (reply : Reply) → Collects 0 old (collected.Reply r head reply) new → IsServing old.history
    → IsServing new.history
serving_collected old new r head reply c is = serving_still old new (collected_still 0 old new r head reply c) is

-- the one connection has entered, and no call has arrived
pub serving_first : (c : Config) (life : Life) → life ≡ life_at_answer c → IsServing life.history
serving_first c life is =
    subst (λ (l : Life). IsServing l.history) (sym is)
    (record { stays = record { entered = omega arith; staying = refl }; calls = each_none IsHeaded (life_at_answer c).history (λ r. refl) })

-- a call of a message arrives
pub serving_arrived : (size : ℕ) (call : Call) (old new : Life) → new ≡ with_entry (Arrive 0 size call) old → IsHeaded call → IsServing old.history
    → IsServing new.history
serving_arrived size call old new is headed s = subst (λ (l : Life). IsServing l.history) (sym is) (record {
  stays = record { entered = s.stays.entered; staying = s.stays.staying };
  calls = each_more IsHeaded 0 size call old.history headed s.calls;
})

-- what is given out answers a message
pub given_to : (old new : Life) (r : ℕ) (head : Head) (reply : Reply) → IsServing old.history → Collects 0 old (collected.Reply r head reply) new
    → FitsItsCall old.history (collected.Reply r head reply) → IsReplyTo head reply
given_to old new r head reply s c fits = given_answers old.history r head reply s.calls c.1 fits

works_givens : (a b : Life) → Works a b → Givens a b
works_givens a b (works_out l idle) = givens_life l
works_givens a b (works_on l last e makes more) =
    givens_then l (with_entry e l) last
    (record { config = refl; run = refl; limit = refl; opening = refl; going = (turn_apart l.config l.run l.history 0 e makes.next).going l.history })
    (works_givens (with_entry e l) last more)

-- a call leaves the givens of the run as they are
pub call_givens : (a : Life) (call : Call) (size : ℕ) (bytes : List ℕ) (b : Life) → GivesCall a call size bytes b → Givens a b
call_givens a call size bytes b g =
    let arrived : Life = with_entry (Arrive 0 size call) a in
    let first : Givens a arrived = record { config = refl; run = refl; limit = refl; opening = refl; going = λ w. refl } in
    givens_then a arrived b first
    (givens_then arrived g.worked b (works_givens arrived g.worked g.works)
    (same_givens g.worked b (still_collects reply_bytes 0 g.worked bytes b g.collects).same))

pub idle_so : (old new : Life) (out : StepOut) (over : Bool) → out ≡ step_out.Idle over → Steps 0 old (Ok out) new → IsServing old.history → Works old new
    × IsServing new.history
idle_so old new out over is s serving =
    let t : Steps 0 old (Ok (step_out.Idle over)) new = subst (λ (o : StepOut). Steps 0 old (Ok o) new) is s in
    (works_idle old new over t, serving_same old new t.3 serving)

pub did_so : (old new : Life) (out : StepOut) (point : Point) → out ≡ step_out.Did point → Steps 0 old (Ok out) new → IsServing old.history
    → ((last : Life) → Works new last → Works old last) × IsServing new.history
did_so old new out point is s serving =
    let t : Steps 0 old (Ok (step_out.Did point)) new = subst (λ (o : StepOut). Steps 0 old (Ok o) new) is s in
    ((λ last more. works_did old new last point t more), serving_did old new point t serving)

-- the run is full from a call on that isn't taken
filled_so : (full : Bool) (size : ℕ) (old : Life) → IsServing old.history → IsServing (if full then old else with_entry (Filled 0 size) old).history
filled_so true size old serving = serving
filled_so false size old serving = record {
  stays = record { entered = serving.stays.entered; staying = serving.stays.staying };
  calls = each_same IsHeaded old.history (Filled 0 size ∷ old.history) (λ r. refl) serving.calls;
}

-- a call that isn't taken
pub serving_refused : (why : ArriveFault) (call : Call) (size : ℕ) (old new : Life) → Arrives 0 call size old (Err why) new → IsServing old.history
    → IsServing new.history
serving_refused (Limit calls bytes) call size old new a serving = serving_same (filled_by 0 size old) new a.1 (filled_so (is_filled old.history) size old serving)
serving_refused fault.WantMemory call size old new a serving = serving_same old new a.1 serving

pub refused_so : (why : ArriveFault) (call : Call) (size : ℕ) (old new : Life) (before : List ℕ) → Arrives 0 call size old (Err why) new
    → Answers by_core (Err why) call size old new before before
refused_so (Limit calls bytes) call size old new before a = (
  record { untaken = a.0; filled = subst (λ (l : Life). filled_at l.history ≡ Some (calls, bytes)) a.1 a.2 },
  refl,
)
refused_so fault.WantMemory call size old new before a = refl

-- the replies that were collected, behind those that stood there where there is memory for them
pub replies_given : {X Y : Type 0} (r : Result X Y) (old worked new : Life) (bytes before after : List ℕ) → Works old worked
    → CollectsAll reply_bytes 0 worked bytes new → after ≡ (if is_ok r then before ++ bytes else before) → OnOk r (GivesReplies old new before after)
replies_given (Ok done) old worked new bytes before after works collects behind =
    record { reply = bytes; gives = (worked, (works, collects)); behind = behind }
replies_given (Err fault) old worked new bytes before after works collects behind = tt

-- a call that arrived, and was served
pub arrived_gives : (call : Call) (size : ℕ) (old mid new : Life) (before after : List ℕ) → is_taken old.limit old.history size call ≡ true
    → mid ≡ with_entry (Arrive 0 size call) old → GivesReplies mid new before after → GivesBehind (GivesCall old call size) new before after
arrived_gives call size old mid new before after taken is g = record {
  reply = g.reply;
  gives = record {
    taken = taken;
    worked = g.gives.0;
    works = subst (λ (l : Life). Works l g.gives.0) is g.gives.1.0;
    collects = g.gives.1.1;
  };
  behind = g.behind;
}

pub stopped_so : (old new : Life) (out : StepOut) → out ≡ step_out.Stopped → Steps 0 old (Ok out) new → IsServing old.history → Works old new
    × IsServing new.history
stopped_so old new out is s serving =
    let t : Steps 0 old (Ok step_out.Stopped) new = subst (λ (o : StepOut). Steps 0 old (Ok o) new) is s in
    (works_stopped old new t, serving_same old new t.1 serving)

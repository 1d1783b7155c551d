-- The calls that were served arrived, and leave this room.
use Rattle.std.proofs.Common.{◌≡◌, ℕ, suc, ◌+◌, ◌<◌, ◌≤◌, ◌^◌, Bool, true, false, List, [], ◌∷◌, ◌++◌, length, refl, sym, ap₂, ◌∙◌, subst, arith}
use Rattle.std.specs.Prelude.{not, ◌&&◌, ◌||◌}
use Rattle.std.proofs.lemmas.Bool.{le-leb, lt-ltb}
use Rattle.poa_base.specs.declared.Call.{Call}
use Rattle.poa_base.specs.declared.Entry.TheVariants.{Arrive}
use Rattle.giop_answer.specs.Reply.{reply_bytes}
use Rattle.history_standing.specs.Arrivals.{arrived_bytes, arrivals}
use Rattle.poa_history.specs.Legal.{had_shutdown, is_filled, is_shutdown}
use Rattle.poa_history.specs.Life.{Life, with_entry}
use Rattle.poa_history.specs.Limits.{has_room, is_taken}
use Rattle.poad_answer.specs.Calls.{Serves}
use Rattle.poad_answer.specs.Serving.{GivesCall}
use Rattle.poad_cmd.specs.Complete.{bytes_in}
use Rattle.poad_cmd.proofs.Counting.{SameCounts, collects_counts, counts_then, works_counts}
use Rattle.session_laws.specs.Hearing.{Heard}

-- these calls arrived, and nothing else
pub record Arrived (a b : Life) (calls : List Heard) : Type 0 where
  pub limit : b.limit ≡ a.limit
  pub filled : is_filled b.history ≡ is_filled a.history
  pub few : arrivals b.history ≡ arrivals a.history + length calls
  pub small : arrived_bytes b.history ≡ arrived_bytes a.history + bytes_in calls

arrived_none : (a b : Life) → b ≡ a → Arrived a b []
arrived_none a b same = subst (λ (l : Life). Arrived a l []) (sym same) (record { limit = refl; filled = refl; few = omega arith; small = omega arith })

-- a call that was served, and those behind it
arrived_more : (heard : Heard) (calls : List Heard) (a : Life) (reply : List ℕ) (b c : Life) → GivesCall a heard.call heard.size reply b
    → Arrived b c calls → Arrived a c (heard ∷ calls)
arrived_more heard calls a reply b c gives rest =
    let same : SameCounts (with_entry (Arrive 0 heard.size heard.call) a) b =
    counts_then (with_entry (Arrive 0 heard.size heard.call) a) gives.worked b
    (works_counts (with_entry (Arrive 0 heard.size heard.call) a) gives.worked gives.works)
    (collects_counts reply_bytes 0 gives.worked reply b gives.collects) in
    record {
      limit = rest.limit ∙ same.limit;
      filled = rest.filled ∙ same.filled;
      few =
          (let e : arrivals b.history ≡ suc (arrivals a.history) = same.calls in
          let f : arrivals c.history ≡ arrivals b.history + length calls = rest.few in
          let n : length (heard ∷ calls) ≡ suc (length calls) = refl in omega (arith, e, f, n));
      small =
          (let e : arrived_bytes b.history ≡ heard.size + arrived_bytes a.history = same.bytes in
          let f : arrived_bytes c.history ≡ arrived_bytes b.history + bytes_in calls = rest.small in
          let n : bytes_in (heard ∷ calls) ≡ heard.size + bytes_in calls = refl in omega (arith, e, f, n));
    }

pub served_arrived : (calls : List Heard) (a : Life) (replies : List ℕ) (b : Life) → Serves GivesCall a calls replies b → Arrived a b calls
served_arrived [] a replies b served = arrived_none a b served.1
served_arrived (heard ∷ calls) a replies b served =
    arrived_more heard calls a served.0 served.1.0 b served.1.1.1.0 (served_arrived calls served.1.0 served.1.1.0 b served.1.1.1.1)

-- the bytes of calls and of others
pub bytes_both : (calls more : List Heard) → bytes_in (calls ++ more) ≡ bytes_in calls + bytes_in more
bytes_both [] more = omega arith
bytes_both (heard ∷ calls) more =
    let e : bytes_in (calls ++ more) ≡ bytes_in calls + bytes_in more = bytes_both calls more in
    let n : bytes_in (heard ∷ (calls ++ more)) ≡ heard.size + bytes_in (calls ++ more) = refl in
    let m : bytes_in (heard ∷ calls) ≡ heard.size + bytes_in calls = refl in
    omega (arith, e, n, m)

-- a run with such room takes a call
or_right : (a b : Bool) → b ≡ true → a || b ≡ true
or_right true b is = refl
or_right false b is = is

pub taken : (life : Life) (size : ℕ) (call : Call) → is_filled life.history ≡ false → arrivals life.history < life.limit
    → arrived_bytes life.history + size ≤ 2 ^ 30 → is_taken life.limit life.history size call ≡ true
taken life size call unfilled few small =
    or_right (is_shutdown call && not (had_shutdown life.history)) (has_room life.limit life.history size)
    (ap₂ (λ a b. not a && b) unfilled
    (ap₂ (λ a b. a && b) (lt-ltb (arrivals life.history) life.limit few) (le-leb (arrived_bytes life.history + size) (2 ^ 30) small)))

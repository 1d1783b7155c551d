-- Where no reply of a connection is decided and none is owed, everything that it asked is paid.
use Rattle.std.proofs.Common.{◌≡◌, ℕ, zero, suc, ◌+◌, ◌<◌, Bool, true, false, not, ◌&&◌, ◌||◌, ◌==◌, if◌then◌else◌, List, [], ◌∷◌, Option, Some, None, refl, sym, ap, ◌∙◌, arith}
use Rattle.std.specs.Option.{option_or}
use Rattle.std.proofs.lemmas.Bool.{eqb-true, eqb-false}
use Rattle.poa_base.specs.declared.Config.{Config}
use Rattle.poa_base.specs.declared.Entry.{Entry}
use Rattle.poa_base.specs.declared.Entry.TheVariants.{Arrive}
use Rattle.poa_base.specs.declared.Verdict.{Verdict}
use Rattle.history_standing.specs.Arrivals.{arrivals, call_of, conn_of}
use Rattle.poa_history.specs.Legal.{IsLegal}
use Rattle.poa_history.specs.Replies.{asks, decided, is_asked, is_collected, is_newly_decided, is_waiting, next_reply, next_within, owed}
use Rattle.history_standing.specs.Searches.{least, count_below}
use Rattle.poa_history.specs.Settling.{settles}
use Rattle.history_standing.specs.Stages.{admitted, is_at}
use Rattle.core_outboxes.proofs.Arrived.{admitted_arrived, decided_arrived}
use Rattle.session_laws.specs.Records.{IsPaidBy}

below_other : (r n : ℕ) → r < suc n → (r ≡ n → ⊥) → r < n
below_other r n less apart = omega (arith, less, apart)

option_none : (a b : Option ℕ) → option_or a b ≡ None → (a ≡ None) × (b ≡ None)
option_none None b is = (refl, is)
option_none (Some x) b is = absurd (let e : Some x ≡ None = is in cc)

chosen_none : (b : Bool) (n : ℕ) → (if b then Some n else None) ≡ None → b ≡ false
chosen_none true n is = absurd (let e : Some n ≡ None = is in cc)
chosen_none false n is = refl

-- a search that finds nothing passes over nothing
least_none : (test : ℕ → Bool) (n r : ℕ) → test r ≡ true → r < n → least test n ≡ None → ⊥
least_none test zero r passes less none = omega (arith, less)
least_none test (suc n) r passes less none =
    let parts = option_none (least test n) (if test n then Some n else None) none in
    elim (r == n) as (λ b. (r == n) ≡ b → ⊥) [
      | true ↦ (λ same. let at : r ≡ n = eqb-true r n same in let e : true ≡ false = sym passes ∙ (ap test at ∙ chosen_none (test n) n parts.1) in cc)
      | false ↦ (λ other. least_none test n r passes (below_other r n less (eqb-false r n other)) parts.0)
    ] refl

-- a count of nothing has nothing
none_counted : (test : ℕ → Bool) (n r : ℕ) → r < n → count_below test n ≡ 0 → test r ≡ false
none_counted test zero r less is = absurd (omega (arith, less))
none_counted test (suc n) r less is =
    elim (r == n) as (λ b. (r == n) ≡ b → test r ≡ false) [
      | true ↦ (λ same. ap test (eqb-true r n same) ∙ last (test n) (count_below test n) is)
      | false ↦
          (λ other. let apart : r ≡ n → ⊥ = eqb-false r n other in none_counted test n r (omega (arith, less, apart)) (front (test n) (count_below test n) is))
    ] refl
  where
    last : (b : Bool) (k : ℕ) → k + (if b then 1 else 0) ≡ 0 → b ≡ false
    last true k none = absurd (omega (arith, none))
    last false k none = refl

    front : (b : Bool) (k : ℕ) → k + (if b then 1 else 0) ≡ 0 → k ≡ 0
    front true k none = absurd (omega (arith, none))
    front false k none = omega (arith, none)

-- what is asked arrived
asked_arrived : (h : List Entry) (conn r : ℕ) → is_at conn (conn_of h r) ≡ true → r < arrivals h
asked_arrived [] conn r is = absurd (let e : false ≡ true = is in cc)
asked_arrived (Arrive k size call ∷ past) conn r is =
    elim (r == arrivals past) as (λ b. (r == arrivals past) ≡ b → is_at conn (if b then Some k else conn_of past r) ≡ true → r < suc (arrivals past)) [
      | true ↦ (λ same _. let at : r ≡ arrivals past = eqb-true r (arrivals past) same in omega (arith, at))
      | false ↦ (λ _ before. let less = asked_arrived past conn r before in omega (arith, less))
    ] refl is
asked_arrived (e ∷ past) conn r is = asked_arrived past conn r is

first_of : (a b : Bool) → (a && b) ≡ true → a ≡ true
first_of true b is = refl
first_of false b is = absurd (let e : false ≡ true = is in cc)

all_hold : (a b x y : Bool) → a ≡ true → b ≡ false → x ≡ true → y ≡ false → (a && (not b && (x && not y))) ≡ true
all_hold a b x y is_a is_b is_x is_y = rw (is_a, is_b, is_x, is_y) refl

module _ (c : Config) (run limit : ℕ) where
  -- what an entry decides arrived before it
  waits_arrived : (past : List Entry) (r : ℕ) (o : Option Verdict) → IsLegal c run limit past → admitted past r ≡ o → is_waiting o ≡ true → r < arrivals past
  waits_arrived past r None legal same is = absurd (let e : false ≡ true = is in cc)
  waits_arrived past r (Some v) legal same is = admitted_arrived c run limit past r v legal same

  arrived_then : (e : Entry) (past : List Entry) (r : ℕ) → IsLegal c run limit (e ∷ past) → decided c run (e ∷ past) r ≡ true → decided c run past r ≡ false
      → r < arrivals past
  arrived_then (Arrive conn size call) past r legal is was =
      waits_arrived past r (admitted past r) legal.1 refl
      (waits (decided c run past r) (is_waiting (admitted past r)) (settles c run (Arrive conn size call ∷ past) r) was is)
    where
      waits : (x y z : Bool) → x ≡ false → (false || (x || (y && z))) ≡ true → y ≡ true
      waits true y z f is = absurd (let e : true ≡ false = f in cc)
      waits false true z f is = refl
      waits false false z f is = absurd (let e : false ≡ true = is in cc)
  arrived_then e past r legal is was = decided_arrived c run limit (e ∷ past) r legal is

  -- a decided reply that is asked and isn't collected is found
  next_found : (whole : List Entry) (conn r : ℕ) → is_asked whole conn r ≡ true → is_collected whole r ≡ false
      → (h : List Entry) → IsLegal c run limit h → decided c run h r ≡ true → next_within c run whole conn h ≡ None → ⊥
  next_found whole conn r asked left [] legal is none = (let e : false ≡ true = is in cc)
  next_found whole conn r asked left (e ∷ past) legal is none =
      elim (decided c run past r) as (λ b. decided c run past r ≡ b → ⊥) [
        | true ↦ (λ was. next_found whole conn r asked left past legal.1 was parts.0)
        | false ↦ (λ fresh. least_none (is_newly_decided c run whole conn e past) (arrivals past) r
            (all_hold (is_asked whole conn r) (is_collected whole r) (decided c run (e ∷ past) r) (decided c run past r) asked left is fresh)
            (arrived_then e past r legal is fresh) parts.1)
      ] refl
    where
      parts : (next_within c run whole conn past ≡ None) × (least (is_newly_decided c run whole conn e past) (arrivals past) ≡ None)
      parts = option_none (next_within c run whole conn past) (least (is_newly_decided c run whole conn e past) (arrivals past)) none

  pub paid_when : (h : List Entry) (conn : ℕ) → IsLegal c run limit h → next_reply c run h conn ≡ None → owed c run h conn ≡ 0 → IsPaidBy h conn
  paid_when h conn legal none nothing = λ r asked. by_collected r asked (is_collected h r) refl
    where
      then_decided : (a b : Bool) → a ≡ true → (a && not b) ≡ false → b ≡ true
      then_decided true true is fails = refl
      then_decided true false is fails = absurd (let e : true ≡ false = fails in cc)
      then_decided false b is fails = absurd (let e : false ≡ true = is in cc)

      by_collected : (r : ℕ) → is_asked h conn r ≡ true → (b : Bool) → is_collected h r ≡ b → b ≡ true
      by_collected r asked true is = refl
      by_collected r asked false left =
          absurd (next_found h conn r asked left h legal
          (then_decided (is_asked h conn r) (decided c run h r) asked
          (none_counted (λ k. is_asked h conn k && not (decided c run h k)) (arrivals h) r
          (asked_arrived h conn r (first_of (is_at conn (conn_of h r)) (asks (call_of h r)) asked)) nothing)) none)

-- How many calls and bytes arrive in a legal history.
use Rattle.std.proofs.Common.{◌≡◌, ℕ, ◌+◌, ◌^◌, ◌≤◌, Bool, true, false, not, ◌||◌, List, [], ◌∷◌, is_none, refl, ap, inl, inr, arith}
use Rattle.poa_base.specs.declared.Config.{Config}
use Rattle.poa_base.specs.declared.Entry.{Entry}
use Rattle.poa_base.specs.declared.Entry.TheVariants.{Entered, Arrive, Filled, Left, Collect, Admit, Tried, Incarnated, Run, Done, TakeOut, Etherealized, Abandon}
use Rattle.history_standing.specs.Arrivals.{arrived_bytes}
use Rattle.poa_history.specs.Legal.{IsLegal, MayArrive, had_shutdown, is_filled, is_shutdown}
use Rattle.poa_history.proofs.IdsFew.{few_ids}
use Rattle.poa_history.specs.Limits.{filled_at}
use Rattle.core_arrivals.specs.Tallies.{AreFew}

-- the first `shutdown` passes the limit
abbrev extra : Bool → ℕ
extra true = 1048588
extra false = 0

extra_few : (b : Bool) → extra b ≤ 1048588
extra_few true = omega arith
extra_few false = omega arith

extra_more : (a b : Bool) → extra b ≤ extra (a || b)
extra_more true b = extra_few b
extra_more false b = omega arith

extra_first : (a b : Bool) → a ≡ true → extra (a || b) ≡ 1048588
extra_first a b is = ap (λ x. extra (x || b)) is

bytes_few : (c : Config) (run limit : ℕ) (h : List Entry) → IsLegal c run limit h → arrived_bytes h ≤ 2 ^ 30 + extra (had_shutdown h)
bytes_few c run limit [] legal = omega arith
bytes_few c run limit (Arrive conn size call ∷ past) legal =
    let before : arrived_bytes past ≤ 2 ^ 30 + extra (had_shutdown past) = bytes_few c run limit past legal.1 in
    let may : MayArrive limit past conn size call = legal.0 in
    let sized : size ≤ 1048588 = may.sized.1 in
    elim may.room [
      | inl first ↦ (let none : extra (had_shutdown past) ≡ 0 = ap extra first.1 in
          let all : extra (is_shutdown call || had_shutdown past) ≡ 1048588 = extra_first (is_shutdown call) (had_shutdown past) first.0 in
          omega (arith, before, sized, none, all))
      | inr room ↦ (let bytes : arrived_bytes past + size ≤ 2 ^ 30 = room.bytes in omega (arith, bytes))
    ]
bytes_few c run limit (Entered conn ∷ past) legal = bytes_few c run limit past legal.1
bytes_few c run limit (Filled conn size ∷ past) legal = bytes_few c run limit past legal.1
bytes_few c run limit (Left conn ∷ past) legal = bytes_few c run limit past legal.1
bytes_few c run limit (Collect conn a ∷ past) legal = bytes_few c run limit past legal.1
bytes_few c run limit (Admit w r v ∷ past) legal = bytes_few c run limit past legal.1
bytes_few c run limit (Tried w a ∷ past) legal = bytes_few c run limit past legal.1
bytes_few c run limit (Incarnated w a ∷ past) legal = bytes_few c run limit past legal.1
bytes_few c run limit (Run w ∷ past) legal = bytes_few c run limit past legal.1
bytes_few c run limit (Done w ∷ past) legal = bytes_few c run limit past legal.1
bytes_few c run limit (TakeOut w n x ∷ past) legal = bytes_few c run limit past legal.1
bytes_few c run limit (Etherealized w x y ∷ past) legal = bytes_few c run limit past legal.1
bytes_few c run limit (Abandon w ∷ past) legal = bytes_few c run limit past legal.1

-- both fit 64 bits
pub are_few : (c : Config) (run limit : ℕ) (h : List Entry) → IsLegal c run limit h → limit ≤ 4000000 → AreFew h
are_few c run limit h legal most =
    let few = (few_ids c run limit h legal).arrived in
    let bytes : arrived_bytes h ≤ 2 ^ 30 + extra (had_shutdown h) = bytes_few c run limit h legal in
    let more = extra_few (had_shutdown h) in
    record { arrivals_are = omega (arith, few, most); bytes_are = omega (arith, bytes, more) }

-- a run was filled where it is known when
pub filled_is : (h : List Entry) → is_none (filled_at h) ≡ not (is_filled h)
filled_is [] = refl
filled_is (Filled conn size ∷ past) = refl
filled_is (Arrive conn size call ∷ past) = filled_is past
filled_is (Entered conn ∷ past) = filled_is past
filled_is (Left conn ∷ past) = filled_is past
filled_is (Collect conn a ∷ past) = filled_is past
filled_is (Admit w r v ∷ past) = filled_is past
filled_is (Tried w a ∷ past) = filled_is past
filled_is (Incarnated w a ∷ past) = filled_is past
filled_is (Run w ∷ past) = filled_is past
filled_is (Done w ∷ past) = filled_is past
filled_is (TakeOut w n x ∷ past) = filled_is past
filled_is (Etherealized w x y ∷ past) = filled_is past
filled_is (Abandon w ∷ past) = filled_is past

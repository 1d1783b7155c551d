-- Each call that a peer sent is one of a message, or an administrator's line.
use Rattle.std.proofs.Common.{◌≡◌, ℕ, Bool, true, false, ◌&&◌, not, ◌==◌, if◌then◌else◌, List, [], ◌∷◌, ◌++◌, length, Option, Some, None, find, refl, sym, ap, ◌∙◌, subst}
use Rattle.std.proofs.lemmas.Bool.{eqb-true, eqb-false}
use Rattle.poa_base.specs.declared.Call.{Call}
use Rattle.poa_base.specs.declared.Call.TheVariants.{Line}
use Rattle.poa_base.specs.declared.Config.{Config}
use Rattle.poa_base.specs.declared.Entry.{Entry}
use Rattle.poa_base.specs.declared.Entry.TheVariants.{Entered, Arrive, Filled, Left, Collect, Admit, Tried, Incarnated, Run, Done, TakeOut, Etherealized, Abandon}
use Rattle.admin_line.specs.Reading.{command_of_line}
use Rattle.history_standing.specs.Arrivals.{arrivals, call_of, conn_of}
use Rattle.history_standing.specs.Stages.{is_at}
use Rattle.poa_history.specs.Replies.{is_collected, next_reply}
use Rattle.core_outboxes.specs.Decided.{answered}
use Rattle.core_outboxes.proofs.Given.{within_is}
use Rattle.session_laws.specs.Calls.{IsSaid}
use Rattle.session_laws.specs.Hearing.{Heard, AreSaid}
use Rattle.session_laws.specs.Lines.{is_spoken, spoken}
use Rattle.session_laws.specs.Records.{arrived_by}

-- the call of a line is one
pub spoken_said : (number : ℕ) (line : List ℕ) (call : Call) (size : ℕ) → spoken number line ≡ record { call = call; size = size } ∷ [] → IsSaid call
spoken_said number line call size =
    let heard : Heard = record { call = call; size = size } in
    let said : Heard = record { call = Line number (command_of_line line); size = length line } in
    elim (is_spoken line) as (λ b. (if b then said ∷ [] else []) ≡ heard ∷ [] → IsSaid call) [
      | true ↦ (λ is. subst IsSaid (ap (λ (h : Heard). h.call) (let e : said ∷ [] ≡ heard ∷ [] = is in let same : said ≡ heard = cc in same)) tt)
      | false ↦ (λ is. absurd (let e : [] ≡ heard ∷ [] = is in cc))
    ]

pub said_both : (some more : List Heard) → AreSaid some → AreSaid more → AreSaid (some ++ more)
said_both [] more first second = second
said_both (heard ∷ some) more first second = (first.0, said_both some more first.1 second)

first_said : (some more : List Heard) → AreSaid (some ++ more) → AreSaid some
first_said [] more said = tt
first_said (heard ∷ some) more said = (said.0, first_said some more said.1)

last_said : (some : List Heard) (heard : Heard) → AreSaid (some ++ heard ∷ []) → IsSaid heard.call
last_said [] heard said = said.0
last_said (h ∷ some) heard said = last_said some heard said.1

-- a call that arrived on the connection is one of those that did
module _ (c : ℕ) where
  arrived_more : (conn size : ℕ) (call : Call) (past : List Entry) → AreSaid (arrived_by (Arrive conn size call ∷ past) c)
      → AreSaid (arrived_by past c) × (conn ≡ c → IsSaid call)
  arrived_more conn size call past =
      let heard : Heard = record { call = call; size = size } in
      elim (conn == c) as (λ b. (conn == c) ≡ b → AreSaid (if b then arrived_by past c ++ heard ∷ [] else arrived_by past c)
      → AreSaid (arrived_by past c) × (conn ≡ c → IsSaid call)) [
        | true ↦ (λ same said. (first_said (arrived_by past c) (heard ∷ []) said, λ _. last_said (arrived_by past c) heard said))
        | false ↦ (λ other said. (said, λ same. absurd (eqb-false conn c other same)))
      ] refl

  pub said_arrived : (h : List Entry) → AreSaid (arrived_by h c) → (r : ℕ) (call : Call) → conn_of h r ≡ Some c → call_of h r ≡ Some call → IsSaid call
  said_arrived [] said r call on is = absurd (let e : None ≡ Some call = is in cc)
  said_arrived (Arrive conn size there ∷ past) said r call on is =
      let parts = arrived_more conn size there past said in
      elim (r == arrivals past) as (λ b. (if b then Some conn else conn_of past r) ≡ Some c → (if b then Some there else call_of past r) ≡ Some call
      → IsSaid call) [
        | true ↦
            (λ here now. subst IsSaid (let e : Some there ≡ Some call = now in let same : there ≡ call = cc in same)
            (parts.1 (let e : Some conn ≡ Some c = here in let same : conn ≡ c = cc in same)))
        | false ↦ (λ before was. said_arrived past parts.0 r call before was)
      ] on is
  said_arrived (Entered conn ∷ past) said r call on is = said_arrived past said r call on is
  said_arrived (Filled conn size ∷ past) said r call on is = said_arrived past said r call on is
  said_arrived (Left conn ∷ past) said r call on is = said_arrived past said r call on is
  said_arrived (Collect conn a ∷ past) said r call on is = said_arrived past said r call on is
  said_arrived (Admit w a v ∷ past) said r call on is = said_arrived past said r call on is
  said_arrived (Tried w a ∷ past) said r call on is = said_arrived past said r call on is
  said_arrived (Incarnated w a ∷ past) said r call on is = said_arrived past said r call on is
  said_arrived (Run w ∷ past) said r call on is = said_arrived past said r call on is
  said_arrived (Done w ∷ past) said r call on is = said_arrived past said r call on is
  said_arrived (TakeOut w n x ∷ past) said r call on is = said_arrived past said r call on is
  said_arrived (Etherealized w x y ∷ past) said r call on is = said_arrived past said r call on is
  said_arrived (Abandon w ∷ past) said r call on is = said_arrived past said r call on is

-- what a search finds passes
find_passes : (test : ℕ → Bool) (x : ℕ) (xs : List ℕ) → find test xs ≡ Some x → test x ≡ true
find_passes test x [] is = absurd (let e : None ≡ Some x = is in cc)
find_passes test x (y ∷ ys) is =
    elim (test y) as (λ b. test y ≡ b → (if b then Some y else find test ys) ≡ Some x → test x ≡ true) [
      | true ↦ (λ passes found. (let e : Some y ≡ Some x = found in let same : y ≡ x = cc in subst (λ z. test z ≡ true) same passes))
      | false ↦ (λ _ found. find_passes test x ys found)
    ] refl is

-- the reply that is given next is one to a call of the connection
pub next_on : (c : Config) (run : ℕ) (h : List Entry) (conn r : ℕ) → next_reply c run h conn ≡ Some r → conn_of h r ≡ Some conn
next_on c run h conn r is =
    by_conn (conn_of h r)
    (find_passes (λ x. is_at conn (conn_of h x) && not (is_collected h x)) r (answered c run h) (sym (within_is c run h conn h (λ _ _. refl)) ∙ is))
  where
    by_test : (k : ℕ) (a b : Bool) → (k == conn) ≡ a → (a && b) ≡ true → Some k ≡ Some conn
    by_test k true b same is = ap Some (eqb-true k conn same)
    by_test k false b same is = absurd (let e : false ≡ true = is in cc)

    by_conn : (o : Option ℕ) → (is_at conn o && not (is_collected h r)) ≡ true → o ≡ Some conn
    by_conn None is = absurd (let e : false ≡ true = is in cc)
    by_conn (Some k) is = by_test k (k == conn) (not (is_collected h r)) refl is

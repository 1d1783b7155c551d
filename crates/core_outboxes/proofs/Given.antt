-- Which reply a connection is given next, and how many it is owed, by the rows.
use Rattle.std.proofs.Common.{◌≡◌, ℕ, ◌<◌, ◌≤◌, Bool, true, false, not, ◌&&◌, ◌==◌, List, [], ◌∷◌, filter, find, length, Some, option_map, refl, sym, ap, ap₂, ◌∙◌, arith}
use Rattle.std.specs.Option.{option_or}
use Rattle.std.proofs.lemmas.List.Folds.{find-append}
use Rattle.std.proofs.lemmas.List.{length-map}
use Rattle.poa_base.specs.declared.Config.{Config}
use Rattle.poa_base.specs.declared.Entry.{Entry}
use Rattle.history_standing.specs.Arrivals.{arrivals, call_of, conn_of}
use Rattle.poa_history.specs.Replies.{asks, decided, is_asked, is_collected, is_newly_decided, next_within, next_reply, owed}
use Rattle.history_standing.specs.Stages.{is_at}
use Rattle.poa_history.specs.States.{Stored}
use Rattle.core_outboxes.specs.declared.filed.Filed.{Filed as FiledRow}
use Rattle.core_outboxes.specs.declared.owing.Owing.{Owing}
use Rattle.poa_history.specs.Numbers.{below}
use Rattle.core_outboxes.specs.Owed.{is_owed, AreOwed}
use Rattle.core_outboxes.specs.Decided.{is_answered_by, answered, AreFiled}
use Rattle.poa_history.proofs.Numbers.{filter_twice, least_found, counted, in_below}
use Rattle.core_outboxes.proofs.Lists.{filter_agrees, filter_mapped, find_kept, find_agrees, find_mapped}
use Rattle.history_standing.proofs.CallsKept.{arrivals_kept, call_kept}

-- a reply of the connection that isn't collected
abbrev stands_for : List Entry → ℕ → ℕ → Bool
stands_for whole conn r = is_at conn (conn_of whole r) && not (is_collected whole r)

-- among those answered so far, the first one that the whole history leaves
pub within_is : (c : Config) (run : ℕ) (whole : List Entry) (conn : ℕ) (h : List Entry) → ((r : ℕ) → r < arrivals h → call_of whole r ≡ call_of h r)
    → next_within c run whole conn h ≡ find (stands_for whole conn) (answered c run h)
within_is c run whole conn [] same = refl
within_is c run whole conn (e ∷ past) same =
    let earlier : (r : ℕ) → r < arrivals past → call_of whole r ≡ call_of past r =
    λ r less.
    (let more : arrivals past ≤ arrivals (e ∷ past) = arrivals_kept e past in let less' : r < arrivals (e ∷ past) = omega (arith, less, more) in same r less'
    ∙ call_kept e past r less) in
    ap₂ option_or (within_is c run whole conn past earlier)
    (least_found (is_newly_decided c run whole conn e past) (arrivals past)
    ∙ find_agrees (is_newly_decided c run whole conn e past) (λ r. is_answered_by c run e past r && stands_for whole conn r) (below (arrivals past))
    (λ r there. ap
    (λ call. (is_at conn (conn_of whole r) && asks call) && (not (is_collected whole r) && (decided c run (e ∷ past) r && not (decided c run past r))))
    (earlier r (in_below r (arrivals past) there))
    ∙ moved (is_at conn (conn_of whole r)) (asks (call_of past r)) (not (is_collected whole r)) (decided c run (e ∷ past) r && not (decided c run past r)))
    ∙ sym (find_kept (is_answered_by c run e past) (stands_for whole conn) (below (arrivals past))))
    ∙ sym (find-append (stands_for whole conn) (answered c run past) (filter (is_answered_by c run e past) (below (arrivals past))))
  where
    moved : (a b d f : Bool) → ((a && b) && (d && f)) ≡ ((b && f) && (a && d))
    moved true true true true = refl
    moved true true true false = refl
    moved true true false true = refl
    moved true true false false = refl
    moved true false d f = refl
    moved false true true true = refl
    moved false true true false = refl
    moved false true false true = refl
    moved false true false false = refl
    moved false false d f = refl

is_one : (a b : ℕ) → is_at a (Some b) ≡ (b == a)
is_one a b = refl

-- the first reply of the connection in the outbox is its next one
pub next_is : (c : Config) (run : ℕ) (opened : Stored) (h : List Entry) (fs : List FiledRow) (conn : ℕ) → AreFiled c run opened h fs
    → next_reply c run h conn ≡ option_map (λ f. f.arrival) (find (λ f. f.conn == conn) fs)
next_is c run opened h fs conn filed =
    within_is c run h conn h (λ r _. refl)
    ∙ find_agrees (stands_for h conn) (λ r. not (is_collected h r) && is_at conn (conn_of h r)) (answered c run h)
    (λ r _. swapped (is_at conn (conn_of h r)) (not (is_collected h r)))
    ∙ sym (find_kept (λ r. not (is_collected h r)) (λ r. is_at conn (conn_of h r)) (answered c run h))
    ∙ ap (find (λ r. is_at conn (conn_of h r))) (sym filed.which)
    ∙ sym (find_mapped (λ f. f.arrival) (λ f. f.conn == conn) (λ r. is_at conn (conn_of h r)) fs (λ f there. sym (ap (is_at conn) (filed.each f there).conn)))
  where
    swapped : (a b : Bool) → (a && b) ≡ (b && a)
    swapped true true = refl
    swapped true false = refl
    swapped false true = refl
    swapped false false = refl

-- as many rows of the connection are owed a reply as the history says
pub owed_is : (c : Config) (run : ℕ) (h : List Entry) (os : List Owing) (conn : ℕ) → AreOwed c run h os
    → owed c run h conn ≡ length (filter (λ o. o.conn == conn) os)
owed_is c run h os conn rows =
    counted (λ r. is_asked h conn r && not (decided c run h r)) (arrivals h)
    ∙ ap length (filter_agrees (λ r. is_asked h conn r && not (decided c run h r)) (λ r. is_owed c run h r && is_at conn (conn_of h r)) (below (arrivals h))
    (λ r _. moved (is_at conn (conn_of h r)) (asks (call_of h r)) (not (decided c run h r)))
    ∙ sym (filter_twice (is_owed c run h) (λ r. is_at conn (conn_of h r)) (below (arrivals h)))
    ∙ ap (filter (λ r. is_at conn (conn_of h r))) (sym rows.which)
    ∙ sym (filter_mapped (λ o. o.arrival) (λ o. o.conn == conn) (λ r. is_at conn (conn_of h r)) os (λ o there. sym (ap (is_at conn) (rows.each o there).conn))))
    ∙ length-map (filter (λ o. o.conn == conn) os) (λ o. o.arrival)
  where
    moved : (a b d : Bool) → ((a && b) && d) ≡ ((b && d) && a)
    moved true true true = refl
    moved true true false = refl
    moved true false d = refl
    moved false true true = refl
    moved false true false = refl
    moved false false d = refl

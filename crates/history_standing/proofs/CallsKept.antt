-- What an entry leaves of the calls that arrived before it.
use Rattle.std.specs.Prelude.{◌≡◌, ℕ, ◌<◌, ◌≤◌, ◌==◌, if◌then◌else◌, List, [], ◌∷◌, Some, None, refl}
use Rattle.std.proofs.Common.{sym, subst, ◌∙◌, arith}
use Rattle.std.proofs.lemmas.Bool.{cond_both, eqb-true}
use Rattle.poa_base.specs.declared.Call.{Call}
use Rattle.poa_base.specs.declared.Entry.{Entry}
use Rattle.poa_base.specs.declared.Entry.TheVariants.{Entered, Arrive, Filled, Left, Collect, Admit, Tried, Incarnated, Run, Done, TakeOut, Etherealized, Abandon}
use Rattle.history_standing.specs.Arrivals.{arrivals, call_of, conn_of}

-- it leaves their number, each call and its connection
pub record LeavesCalls (past : List Entry) (e : Entry) : Type 0 where
  pub arrived : arrivals (e ∷ past) ≡ arrivals past
  pub calls : (r : ℕ) → call_of (e ∷ past) r ≡ call_of past r
  pub conns : (r : ℕ) → conn_of (e ∷ past) r ≡ conn_of past r

-- what holds where a call arrives, and where an entry leaves the calls, holds of each entry
pub by_arrival : (past : List Entry) (P : Entry → Type 0) → ((conn size : ℕ) (call : Call) → P (Arrive conn size call))
    → ((e : Entry) → LeavesCalls past e → P e) → (e : Entry) → P e
by_arrival past P arrives leaves (Arrive conn size call) = arrives conn size call
by_arrival past P arrives leaves (Entered conn) = leaves (Entered conn) (record { arrived = refl; calls = λ r. refl; conns = λ r. refl })
by_arrival past P arrives leaves (Filled conn size) = leaves (Filled conn size) (record { arrived = refl; calls = λ r. refl; conns = λ r. refl })
by_arrival past P arrives leaves (Left conn) = leaves (Left conn) (record { arrived = refl; calls = λ r. refl; conns = λ r. refl })
by_arrival past P arrives leaves (Collect conn a) = leaves (Collect conn a) (record { arrived = refl; calls = λ r. refl; conns = λ r. refl })
by_arrival past P arrives leaves (Admit w q v) = leaves (Admit w q v) (record { arrived = refl; calls = λ r. refl; conns = λ r. refl })
by_arrival past P arrives leaves (Tried w a) = leaves (Tried w a) (record { arrived = refl; calls = λ r. refl; conns = λ r. refl })
by_arrival past P arrives leaves (Incarnated w a) = leaves (Incarnated w a) (record { arrived = refl; calls = λ r. refl; conns = λ r. refl })
by_arrival past P arrives leaves (Run w) = leaves (Run w) (record { arrived = refl; calls = λ r. refl; conns = λ r. refl })
by_arrival past P arrives leaves (Done w) = leaves (Done w) (record { arrived = refl; calls = λ r. refl; conns = λ r. refl })
by_arrival past P arrives leaves (TakeOut w n x) = leaves (TakeOut w n x) (record { arrived = refl; calls = λ r. refl; conns = λ r. refl })
by_arrival past P arrives leaves (Etherealized w x y) = leaves (Etherealized w x y) (record { arrived = refl; calls = λ r. refl; conns = λ r. refl })
by_arrival past P arrives leaves (Abandon w) = leaves (Abandon w) (record { arrived = refl; calls = λ r. refl; conns = λ r. refl })

-- what is said of the newest call isn't said of another
other_call : {A : Type 0} (n r : ℕ) (newest earlier : A) → (r ≡ n → ⊥) → (if r == n then newest else earlier) ≡ earlier
other_call n r newest earlier other = cond_both (r == n) newest earlier (λ x. x ≡ earlier) (λ same. absurd (other (eqb-true r n same))) (λ _. refl)

-- earlier calls stay what they are
pub call_kept : (e : Entry) (past : List Entry) (r : ℕ) → r < arrivals past → call_of (e ∷ past) r ≡ call_of past r
call_kept e past r less =
    by_arrival past (λ k. call_of (k ∷ past) r ≡ call_of past r)
    (λ conn size call. other_call (arrivals past) r (Some call) (call_of past r) (λ same. omega (arith, same, less))) (λ k leaves. leaves.calls r) e

-- and stay on their connections
pub conn_kept : (e : Entry) (past : List Entry) (r : ℕ) → r < arrivals past → conn_of (e ∷ past) r ≡ conn_of past r
conn_kept e past r less =
    by_arrival past (λ k. conn_of (k ∷ past) r ≡ conn_of past r)
    (λ conn size call. other_call (arrivals past) r (Some conn) (conn_of past r) (λ same. omega (arith, same, less))) (λ k leaves. leaves.conns r) e

pub arrivals_kept : (e : Entry) (past : List Entry) → arrivals past ≤ arrivals (e ∷ past)
arrivals_kept e past =
    by_arrival past (λ k. arrivals past ≤ arrivals (k ∷ past)) (λ conn size call. omega arith)
    (λ k leaves. (let same = leaves.arrived in omega (arith, same))) e

-- beyond the arrivals there is no call
pub call_beyond : (h : List Entry) (r : ℕ) → arrivals h ≤ r → call_of h r ≡ None
call_beyond [] r beyond = refl
call_beyond (e ∷ past) r beyond =
    by_arrival past (λ k. arrivals (k ∷ past) ≤ r → call_of (k ∷ past) r ≡ None)
    (λ conn size call after. other_call (arrivals past) r (Some call) (call_of past r) (λ same. omega (arith, same, after))
    ∙ call_beyond past r (omega (arith, after)))
    (λ k leaves after. leaves.calls r ∙ call_beyond past r (subst (λ n. n ≤ r) leaves.arrived after)) e beyond

pub conn_beyond : (h : List Entry) (r : ℕ) → arrivals h ≤ r → conn_of h r ≡ None
conn_beyond [] r beyond = refl
conn_beyond (e ∷ past) r beyond =
    by_arrival past (λ k. arrivals (k ∷ past) ≤ r → conn_of (k ∷ past) r ≡ None)
    (λ conn size call after. other_call (arrivals past) r (Some conn) (conn_of past r) (λ same. omega (arith, same, after))
    ∙ conn_beyond past r (omega (arith, after)))
    (λ k leaves after. leaves.conns r ∙ conn_beyond past r (subst (λ n. n ≤ r) leaves.arrived after)) e beyond

-- a call that has a connection arrived
pub conn_arrived : (h : List Entry) (r k : ℕ) → conn_of h r ≡ Some k → r < arrivals h
conn_arrived [] r k is = absurd (let none : None ≡ Some k = is in cc)
conn_arrived (e ∷ past) r k is =
    by_arrival past (λ x. conn_of (x ∷ past) r ≡ Some k → r < arrivals (x ∷ past))
    (λ conn size call has. cond_both (r == arrivals past) (Some conn) (conn_of past r) (λ o. o ≡ Some k → r < arrivals (Arrive conn size call ∷ past))
    (λ same _. (let at : r ≡ arrivals past = eqb-true r (arrivals past) same in omega (arith, at)))
    (λ _ there. (let less = conn_arrived past r k there in omega arith)) has)
    (λ x leaves has. subst (λ n. r < n) (sym leaves.arrived) (conn_arrived past r k (sym (leaves.conns r) ∙ has))) e is

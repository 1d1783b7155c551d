-- Each entry of a connection is one of a connection that entered.
use Rattle.std.proofs.Common.{◌≡◌, ℕ, zero, suc, ◌<◌, ◌≤◌, Bool, true, false, ◌&&◌, ◌==◌, ◌⊎◌, inl, inr, List, [], ◌∷◌, Option, Some, None, if◌then◌else◌, refl, sym, ap, subst, ◌∙◌, arith}
use Rattle.std.specs.Option.{option_or}
use Rattle.std.proofs.lemmas.Bool.{cond_both, eqb-true}
use Rattle.poa_base.specs.declared.Config.{Config}
use Rattle.poa_base.specs.declared.Entry.{Entry}
use Rattle.poa_base.specs.declared.Entry.TheVariants.{Entered, Arrive, Filled, Left, Collect, Admit, Tried, Incarnated, Run, Done, TakeOut, Etherealized, Abandon}
use Rattle.history_standing.specs.Trees.{In}
use Rattle.history_standing.specs.Arrivals.{arrivals, call_of, conn_of, connections}
use Rattle.poa_history.specs.Legal.{IsLegal, MayFollow}
use Rattle.poa_history.specs.Replies.{asks, is_asked, is_newly_decided, next_reply, next_within}
use Rattle.history_standing.specs.Searches.{least}
use Rattle.history_standing.specs.Stages.{is_at}
use Rattle.poa_history.specs.Owners.{owner_of}

-- what a search finds passes
least_passes : (test : ℕ → Bool) (n r : ℕ) → least test n ≡ Some r → test r ≡ true
least_passes test zero r is = absurd (let e : None ≡ Some r = is in cc)
least_passes test (suc n) r is = by_first (least test n) (λ k first. least_passes test n k first) refl is
  where
    by_last : (b : Bool) → test n ≡ b → (if b then Some n else None) ≡ Some r → test r ≡ true
    by_last true passes is = (let e : Some n ≡ Some r = is in let same : n ≡ r = cc in subst (λ k. test k ≡ true) same passes)
    by_last false _ is = absurd (let e : None ≡ Some r = is in cc)

    by_first : (o : Option ℕ) → ((k : ℕ) → least test n ≡ Some k → test k ≡ true) → least test n ≡ o → option_or o (if test n then Some n else None) ≡ Some r
        → test r ≡ true
    by_first None passes _ is = by_last (test n) refl is
    by_first (Some k) passes first is = passes r (first ∙ is)

-- a reply that is given next is asked on the connection
next_asked : (c : Config) (run : ℕ) (whole : List Entry) (conn : ℕ) (h : List Entry) (r : ℕ) → next_within c run whole conn h ≡ Some r
    → is_asked whole conn r ≡ true
next_asked c run whole conn [] r is = absurd (let e : None ≡ Some r = is in cc)
next_asked c run whole conn (e ∷ past) r is = by_past (next_within c run whole conn past) (λ k was. next_asked c run whole conn past k was) refl is
  where
    first : (a b : Bool) → (a && b) ≡ true → a ≡ true
    first true b is = refl
    first false b is = absurd (let f : false ≡ true = is in cc)

    by_past : (o : Option ℕ) → ((k : ℕ) → next_within c run whole conn past ≡ Some k → is_asked whole conn k ≡ true) → next_within c run whole conn past ≡ o
        → option_or o (least (is_newly_decided c run whole conn e past) (arrivals past)) ≡ Some r → is_asked whole conn r ≡ true
    by_past None asked _ is = first _ _ (least_passes (is_newly_decided c run whole conn e past) (arrivals past) r is)
    by_past (Some k) asked was is = asked r (was ∙ is)

-- what is asked on a connection arrived on it
asked_on : (h : List Entry) (conn r : ℕ) → is_asked h conn r ≡ true → conn_of h r ≡ Some conn
asked_on h conn r = by_conn (conn_of h r)
  where
    by_conn : (o : Option ℕ) → (is_at conn o && asks (call_of h r)) ≡ true → o ≡ Some conn
    by_conn None is = absurd (let f : false ≡ true = is in cc)
    by_conn (Some k) is = ap Some (eqb-true k conn (own (k == conn) (asks (call_of h r)) is))
      where
        own : (a b : Bool) → (a && b) ≡ true → a ≡ true
        own true b is = refl
        own false b is = absurd (let f : false ≡ true = is in cc)

further : (a b : ℕ) → a < b → a < suc b
further a b less = omega (arith, less)

module _ (c : Config) (run limit : ℕ) where
  -- a call arrived on a connection that entered
  conn_low : (h : List Entry) → IsLegal c run limit h → (r k : ℕ) → conn_of h r ≡ Some k → k < connections h
  conn_low [] legal r k is = absurd (let e : None ≡ Some k = is in cc)
  conn_low (Entered conn ∷ past) legal r k is = further k (connections past) (conn_low past legal.1 r k is)
  conn_low (Arrive conn size call ∷ past) legal r k is =
      cond_both (r == arrivals past) (Some conn) (conn_of past r) (λ o. o ≡ Some k → k < connections past)
      (λ _ own. (let e : Some conn ≡ Some k = own in let same : conn ≡ k = cc in subst (λ n. n < connections past) same legal.0.open_.entered))
      (λ _ was. conn_low past legal.1 r k was) is
  conn_low (Filled conn size ∷ past) legal r k is = conn_low past legal.1 r k is
  conn_low (Left conn ∷ past) legal r k is = conn_low past legal.1 r k is
  conn_low (Collect conn a ∷ past) legal r k is = conn_low past legal.1 r k is
  conn_low (Admit w q v ∷ past) legal r k is = conn_low past legal.1 r k is
  conn_low (Tried w a ∷ past) legal r k is = conn_low past legal.1 r k is
  conn_low (Incarnated w a ∷ past) legal r k is = conn_low past legal.1 r k is
  conn_low (Run w ∷ past) legal r k is = conn_low past legal.1 r k is
  conn_low (Done w ∷ past) legal r k is = conn_low past legal.1 r k is
  conn_low (TakeOut w n x ∷ past) legal r k is = conn_low past legal.1 r k is
  conn_low (Etherealized w x y ∷ past) legal r k is = conn_low past legal.1 r k is
  conn_low (Abandon w ∷ past) legal r k is = conn_low past legal.1 r k is

  -- a reply is collected on a connection that entered
  pub next_low : (h : List Entry) → IsLegal c run limit h → (conn r : ℕ) → next_reply c run h conn ≡ Some r → conn < connections h
  next_low h legal conn r is = conn_low h legal r conn (asked_on h conn r (next_asked c run h conn h r is))

  own_low : (e : Entry) (past : List Entry) → IsLegal c run limit past → MayFollow c run limit past e → (conn : ℕ) → owner_of e ≡ Some conn
      → conn < connections (e ∷ past)
  own_low (Entered k) past legal may conn is =
      (let e : Some k ≡ Some conn = is in let same : k ≡ conn = cc in let at : k ≡ connections past = may.0 in omega (arith, same, at))
  own_low (Arrive k size call) past legal may conn is =
      (let e : Some k ≡ Some conn = is in let same : k ≡ conn = cc in subst (λ n. n < connections past) same may.open_.entered)
  own_low (Filled k size) past legal may conn is =
      (let e : Some k ≡ Some conn = is in let same : k ≡ conn = cc in subst (λ n. n < connections past) same may.open_.entered)
  own_low (Left k) past legal may conn is = (let e : Some k ≡ Some conn = is in let same : k ≡ conn = cc in subst (λ n. n < connections past) same may.entered)
  own_low (Collect k a) past legal may conn is =
      (let e : Some k ≡ Some conn = is in let same : k ≡ conn = cc in subst (λ n. n < connections past) same (next_low past legal k a may))
  own_low (Admit w r v) past legal may conn is = absurd (let e : None ≡ Some conn = is in cc)
  own_low (Tried w a) past legal may conn is = absurd (let e : None ≡ Some conn = is in cc)
  own_low (Incarnated w a) past legal may conn is = absurd (let e : None ≡ Some conn = is in cc)
  own_low (Run w) past legal may conn is = absurd (let e : None ≡ Some conn = is in cc)
  own_low (Done w) past legal may conn is = absurd (let e : None ≡ Some conn = is in cc)
  own_low (TakeOut w n x) past legal may conn is = absurd (let e : None ≡ Some conn = is in cc)
  own_low (Etherealized w x y) past legal may conn is = absurd (let e : None ≡ Some conn = is in cc)
  own_low (Abandon w) past legal may conn is = absurd (let e : None ≡ Some conn = is in cc)

  still_low : (e : Entry) (past : List Entry) (conn : ℕ) → conn < connections past → conn < connections (e ∷ past)
  still_low (Entered k) past conn less = further conn (connections past) less
  still_low (Arrive k size call) past conn less = less
  still_low (Filled k size) past conn less = less
  still_low (Left k) past conn less = less
  still_low (Collect k a) past conn less = less
  still_low (Admit w r v) past conn less = less
  still_low (Tried w a) past conn less = less
  still_low (Incarnated w a) past conn less = less
  still_low (Run w) past conn less = less
  still_low (Done w) past conn less = less
  still_low (TakeOut w n x) past conn less = less
  still_low (Etherealized w x y) past conn less = less
  still_low (Abandon w) past conn less = less

  pub owners_low : (h : List Entry) → IsLegal c run limit h → (e : Entry) → In e h → (conn : ℕ) → owner_of e ≡ Some conn → conn < connections h
  owners_low [] legal e there conn is = absurd there
  owners_low (d ∷ past) legal e (inl same) conn is = own_low d past legal.1 legal.0 conn (ap owner_of (sym same) ∙ is)
  owners_low (d ∷ past) legal e (inr there) conn is = still_low d past conn (owners_low past legal.1 e there conn is)

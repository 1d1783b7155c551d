-- What arrived in a history is what arrived on its connections.
use Rattle.std.proofs.Common.{◌≡◌, ℕ, ◌+◌, ◌<◌, ◌≤◌, Bool, true, false, ◌==◌, ◌||◌, cond, if◌then◌else◌, List, [], ◌∷◌, ◌++◌, reverse, refl, sym, ap, ◌∙◌, subst, arith, eq-eqb}
use Rattle.std.proofs.lemmas.List.{reverse-append, reverse-reverse}
use Rattle.history_standing.specs.Arrivals.{arrivals, arrived_bytes, connections}
use Rattle.poa_base.specs.declared.Entry.{Entry}
use Rattle.poa_base.specs.declared.Entry.TheVariants.{Abandon, Admit, Arrive, Collect, Done, Entered, Etherealized, Filled, Incarnated, Left, Run, TakeOut, Tried}
use Rattle.poa_history.specs.Legal.{had_shutdown, is_shutdown}
use Rattle.poad_cmd.proofs.Sums.{total_both, total_more}
use Rattle.seat_lock.specs.Histories.{In, total}
use Rattle.session_laws.specs.Hearing.{Heard}
use Rattle.session_laws.specs.Records.{arrived_by}

-- each call came on one of these connections
abbrev pub CameOn : List ℕ → List Entry → Type 0
CameOn conns [] = Unit {0}
CameOn conns (Arrive conn size call ∷ past) = In conn conns × CameOn conns past
CameOn conns (e ∷ past) = CameOn conns past

-- what is measured of each call: how many, how many bytes, how many of them are a `shutdown`
module _ (weight : Heard → ℕ) where
  -- of the calls of a history
  abbrev pub weighed : List Entry → ℕ
  weighed [] = 0
  weighed (Arrive conn size call ∷ past) = weight (record { call = call; size = size }) + weighed past
  weighed (e ∷ past) = weighed past

  -- of those of a connection
  abbrev pub weighed_by : List Entry → ℕ → ℕ
  weighed_by h c = total weight (arrived_by h c)

  -- one more call
  module _ (past : List Entry) (conn : ℕ) (heard : Heard) where
    abbrev behind : (b : Bool) (c : ℕ) → ℕ
    behind b c = total weight (if b then arrived_by past c ++ heard ∷ [] else arrived_by past c)

    behind_more : (c : ℕ) → behind true c ≡ weighed_by past c + weight heard
    behind_more c = let both = total_both weight (arrived_by past c) (heard ∷ []) in omega (arith, both)

    behind_least : (c : ℕ) (b : Bool) → weighed_by past c ≤ behind b c
    behind_least c true = let more = behind_more c in omega (arith, more)
    behind_least c false = omega arith

    behind_one : weighed_by past conn + weight heard ≤ behind (conn == conn) conn
    behind_one =
        let more = behind_more conn in
        subst (λ (b : Bool). weighed_by past conn + weight heard ≤ behind b conn) (sym (eq-eqb conn conn refl)) (omega (arith, more))

  pub grown_one : (c : ℕ) (e : Entry) (past : List Entry) → weighed_by past c ≤ weighed_by (e ∷ past) c
  grown_one c (Arrive conn size call) past = behind_least past conn (record { call = call; size = size }) c (conn == c)
  grown_one c (Entered k) past = omega arith
  grown_one c (Filled k size) past = omega arith
  grown_one c (Left k) past = omega arith
  grown_one c (Collect k a) past = omega arith
  grown_one c (Admit w r v) past = omega arith
  grown_one c (Tried w a) past = omega arith
  grown_one c (Incarnated w a) past = omega arith
  grown_one c (Run w) past = omega arith
  grown_one c (Done w) past = omega arith
  grown_one c (TakeOut w n x) past = omega arith
  grown_one c (Etherealized w x y) past = omega arith
  grown_one c (Abandon w) past = omega arith

  -- a longer history has no less of a connection
  pub grown : (c : ℕ) (more past : List Entry) → weighed_by past c ≤ weighed_by (more ++ past) c
  grown c [] past = omega arith
  grown c (e ∷ more) past = let rest = grown c more past in let one = grown_one c e (more ++ past) in omega (arith, rest, one)

  -- what arrived is no more than what arrived on these connections
  pub weighed_within : (conns : List ℕ) (h : List Entry) → CameOn conns h → weighed h ≤ total (weighed_by h) conns
  weighed_within conns [] came = omega arith
  weighed_within conns (Arrive conn size call ∷ past) came =
      let heard : Heard = record { call = call; size = size } in
      let rest = weighed_within conns past came.1 in
      let more = total_more (weighed_by past) (weighed_by (Arrive conn size call ∷ past)) (λ c. behind_least past conn heard c (conn == c)) conn
      (weight heard) (behind_one past conn heard) conns came.0 in
      omega (arith, rest, more)
  weighed_within conns (Entered k ∷ past) came = weighed_within conns past came
  weighed_within conns (Filled k size ∷ past) came = weighed_within conns past came
  weighed_within conns (Left k ∷ past) came = weighed_within conns past came
  weighed_within conns (Collect k a ∷ past) came = weighed_within conns past came
  weighed_within conns (Admit w r v ∷ past) came = weighed_within conns past came
  weighed_within conns (Tried w a ∷ past) came = weighed_within conns past came
  weighed_within conns (Incarnated w a ∷ past) came = weighed_within conns past came
  weighed_within conns (Run w ∷ past) came = weighed_within conns past came
  weighed_within conns (Done w ∷ past) came = weighed_within conns past came
  weighed_within conns (TakeOut w n x ∷ past) came = weighed_within conns past came
  weighed_within conns (Etherealized w x y ∷ past) came = weighed_within conns past came
  weighed_within conns (Abandon w ∷ past) came = weighed_within conns past came

-- the three measures
abbrev pub one_each : Heard → ℕ
one_each heard = 1

abbrev pub size_of : Heard → ℕ
size_of heard = heard.size

abbrev pub is_end : Heard → ℕ
is_end heard = cond (is_shutdown heard.call) 1 0

pub arrivals_are : (h : List Entry) → weighed one_each h ≡ arrivals h
arrivals_are [] = refl
arrivals_are (Arrive k size call ∷ past) = let rest = arrivals_are past in omega (arith, rest)
arrivals_are (Entered k ∷ past) = arrivals_are past
arrivals_are (Filled k size ∷ past) = arrivals_are past
arrivals_are (Left k ∷ past) = arrivals_are past
arrivals_are (Collect k a ∷ past) = arrivals_are past
arrivals_are (Admit w r v ∷ past) = arrivals_are past
arrivals_are (Tried w a ∷ past) = arrivals_are past
arrivals_are (Incarnated w a ∷ past) = arrivals_are past
arrivals_are (Run w ∷ past) = arrivals_are past
arrivals_are (Done w ∷ past) = arrivals_are past
arrivals_are (TakeOut w n x ∷ past) = arrivals_are past
arrivals_are (Etherealized w x y ∷ past) = arrivals_are past
arrivals_are (Abandon w ∷ past) = arrivals_are past

pub bytes_are : (h : List Entry) → weighed size_of h ≡ arrived_bytes h
bytes_are [] = refl
bytes_are (Arrive k size call ∷ past) = let rest = bytes_are past in omega (arith, rest)
bytes_are (Entered k ∷ past) = bytes_are past
bytes_are (Filled k size ∷ past) = bytes_are past
bytes_are (Left k ∷ past) = bytes_are past
bytes_are (Collect k a ∷ past) = bytes_are past
bytes_are (Admit w r v ∷ past) = bytes_are past
bytes_are (Tried w a ∷ past) = bytes_are past
bytes_are (Incarnated w a ∷ past) = bytes_are past
bytes_are (Run w ∷ past) = bytes_are past
bytes_are (Done w ∷ past) = bytes_are past
bytes_are (TakeOut w n x ∷ past) = bytes_are past
bytes_are (Etherealized w x y ∷ past) = bytes_are past
bytes_are (Abandon w ∷ past) = bytes_are past

end_weighs : (b c : Bool) (n : ℕ) → (b || c) ≡ true → (c ≡ true → 0 < n) → 0 < cond b 1 0 + n
end_weighs true c n is rest = omega arith
end_weighs false c n is rest = (let r = rest is in omega (arith, r))

pub some_end : (h : List Entry) → had_shutdown h ≡ true → 0 < weighed is_end h
some_end [] had = absurd (let e : false ≡ true = had in cc)
some_end (Arrive k size call ∷ past) had = end_weighs (is_shutdown call) (had_shutdown past) (weighed is_end past) had (some_end past)
some_end (Entered k ∷ past) had = some_end past had
some_end (Filled k size ∷ past) had = some_end past had
some_end (Left k ∷ past) had = some_end past had
some_end (Collect k a ∷ past) had = some_end past had
some_end (Admit w r v ∷ past) had = some_end past had
some_end (Tried w a ∷ past) had = some_end past had
some_end (Incarnated w a ∷ past) had = some_end past had
some_end (Run w ∷ past) had = some_end past had
some_end (Done w ∷ past) had = some_end past had
some_end (TakeOut w n x ∷ past) had = some_end past had
some_end (Etherealized w x y ∷ past) had = some_end past had
some_end (Abandon w ∷ past) had = some_end past had

-- connections that entered stay
entered_one : (e : Entry) (past : List Entry) → connections past ≤ connections (e ∷ past)
entered_one (Entered k) past = omega arith
entered_one (Arrive k size call) past = omega arith
entered_one (Filled k size) past = omega arith
entered_one (Left k) past = omega arith
entered_one (Collect k a) past = omega arith
entered_one (Admit w r v) past = omega arith
entered_one (Tried w a) past = omega arith
entered_one (Incarnated w a) past = omega arith
entered_one (Run w) past = omega arith
entered_one (Done w) past = omega arith
entered_one (TakeOut w n x) past = omega arith
entered_one (Etherealized w x y) past = omega arith
entered_one (Abandon w) past = omega arith

pub entered_more : (more past : List Entry) → connections past ≤ connections (more ++ past)
entered_more [] past = omega arith
entered_more (e ∷ more) past =
    let one : connections (more ++ past) ≤ connections (e ∷ (more ++ past)) = entered_one e (more ++ past) in
    let rest : connections past ≤ connections (more ++ past) = entered_more more past in
    omega (arith, one, rest)

pub entered_before : (stood rest h : List Entry) → reverse h ≡ stood ++ rest → connections (reverse stood) ≤ connections h
entered_before stood rest h cut =
    subst (λ (now : List Entry). connections (reverse stood) ≤ connections now)
    (sym (reverse-append stood rest) ∙ (ap reverse (sym cut) ∙ reverse-reverse h))
    (entered_more (reverse rest) (reverse stood))

-- A run whose calls all fit isn't filled.
use Rattle.std.proofs.Common.{◌≡◌, ℕ, suc, ◌+◌, ◌<◌, ◌≤◌, ◌^◌, true, if◌then◌else◌, List, [], ◌∷◌, ◌++◌, length, reverse, Option, Some, None, refl, sym, ap, ◌∙◌, subst, arith, eq-eqb, ⊎_elim, append_assoc, length-append}
use Rattle.std.proofs.lemmas.List.{reverse-reverse}
use mathlib.Core.Logic.{dite}
use mathlib.Core.Option.{some}
use native.Mathlib.Decide.{ℕ_discrete}
use lib.ListN.{get_elem?}
use Rattle.history_standing.specs.Arrivals.{arrivals, arrived_bytes, connections}
use Rattle.poa_base.specs.declared.Call.{Call}
use Rattle.poa_base.specs.declared.Call.TheVariants.{Line}
use Rattle.poa_base.specs.declared.Command.TheVariants.{Shutdown}
use Rattle.poa_base.specs.declared.Config.{Config}
use Rattle.poa_base.specs.declared.Entry.{Entry}
use Rattle.poa_base.specs.declared.Entry.TheVariants.{Abandon, Admit, Arrive, Collect, Done, Entered, Etherealized, Filled, Incarnated, Left, Run, TakeOut, Tried}
use Rattle.poa_history.specs.Legal.{IsLegal, had_shutdown}
use Rattle.poa_history.specs.Limits.{filled_at}
use Rattle.poa_history.specs.Owners.{owner_of}
use Rattle.poad_cmd.proofs.Arriving.{CameOn, arrivals_are, bytes_are, entered_more, grown, is_end, one_each, size_of, some_end, weighed, weighed_by, weighed_within}
use Rattle.poad_cmd.proofs.Sums.{total_more}
use Rattle.seat_lock.proofs.Totals.{total_le}
use Rattle.seat_lock.specs.Histories.{In, total}
use Rattle.serve_run.proofs.Places.{earlier_stands, newest_stands}
use Rattle.serve_run.proofs.Staying.{entry_of}
use Rattle.serve_run.specs.Holding.{FillsBehind, IsOwn, IsWord}
use Rattle.serve_run.specs.Served.{AreConnections, IsLastWord}
use Rattle.session_laws.specs.Hearing.{Heard}
use Rattle.session_laws.specs.Records.{filling_by}

-- the entry that filled the run, and the ones before it
pub record Fills (h : List Entry) : Type 0 where
  pub conn : ℕ
  pub size : ℕ
  pub more : List Entry
  pub past : List Entry
  pub cut : h ≡ more ++ Filled conn size ∷ past
  pub told : filling_by h conn ≡ Some size

fills_on : (e : Entry) (past : List Entry) → ((c : ℕ) → filling_by (e ∷ past) c ≡ filling_by past c) → Fills past → Fills (e ∷ past)
fills_on e past same f = record {
  conn = f.conn;
  size = f.size;
  more = e ∷ f.more;
  past = f.past;
  cut = ap (λ l. e ∷ l) f.cut;
  told = same f.conn ∙ f.told;
}

fills : (h : List Entry) (at : ℕ × ℕ) → filled_at h ≡ Some at → Fills h
fills [] at is = absurd (let e : None ≡ Some at = is in cc)
fills (Filled k size ∷ past) at is = record {
  conn = k;
  size = size;
  more = [];
  past = past;
  cut = refl;
  told = ap (λ b. if b then Some size else filling_by past k) (eq-eqb k k refl);
}
fills (Entered k ∷ past) at is = fills_on (Entered k) past (λ c. refl) (fills past at is)
fills (Arrive k size call ∷ past) at is = fills_on (Arrive k size call) past (λ c. refl) (fills past at is)
fills (Left k ∷ past) at is = fills_on (Left k) past (λ c. refl) (fills past at is)
fills (Collect k a ∷ past) at is = fills_on (Collect k a) past (λ c. refl) (fills past at is)
fills (Admit w r v ∷ past) at is = fills_on (Admit w r v) past (λ c. refl) (fills past at is)
fills (Tried w a ∷ past) at is = fills_on (Tried w a) past (λ c. refl) (fills past at is)
fills (Incarnated w a ∷ past) at is = fills_on (Incarnated w a) past (λ c. refl) (fills past at is)
fills (Run w ∷ past) at is = fills_on (Run w) past (λ c. refl) (fills past at is)
fills (Done w ∷ past) at is = fills_on (Done w) past (λ c. refl) (fills past at is)
fills (TakeOut w n x ∷ past) at is = fills_on (TakeOut w n x) past (λ c. refl) (fills past at is)
fills (Etherealized w x y ∷ past) at is = fills_on (Etherealized w x y) past (λ c. refl) (fills past at is)
fills (Abandon w ∷ past) at is = fills_on (Abandon w) past (λ c. refl) (fills past at is)

-- the place of an entry
stands_at : (more past : List Entry) (e : Entry) → get_elem? (reverse (more ++ e ∷ past)) (length past) ≡ some e
stands_at [] past e = newest_stands e past
stands_at (d ∷ more) past e = earlier_stands d (more ++ e ∷ past) (length past) e (stands_at more past e)

-- no call is one of the first connection
abbrev pub HasNoOwn : List Entry → Type 0
HasNoOwn h = (more past : List Entry) (size : ℕ) (call : Call) → h ≡ more ++ Arrive 0 size call ∷ past → ⊥

none_behind : (e : Entry) (past : List Entry) → HasNoOwn (e ∷ past) → HasNoOwn past
none_behind e past none more rest size call is = none (e ∷ more) rest size call (ap (λ l. e ∷ l) is)

module _ (c : Config) (run limit : ℕ) (conns : List ℕ) (bound : ℕ) (all : (c : ℕ) → 0 < c → c < bound → In c conns) where
  -- so each came on another
  came_on : (h : List Entry) → IsLegal c run limit h → connections h ≤ bound → HasNoOwn h → CameOn conns h
  came_on [] legal few none = tt
  came_on (Arrive k size call ∷ past) legal few none = (
    dite (ℕ_discrete k 0)
        (λ (own : k ≡ 0). absurd (none [] past size call (ap (λ n. Arrive n size call ∷ past) own)))
        (λ (other : k ≡ 0 → ⊥). (let entered = legal.0.open_.entered in all k (omega (arith, other)) (omega (arith, entered, few)))),
    came_on past legal.1 few (none_behind (Arrive k size call) past none),
  )
  came_on (Entered k ∷ past) legal few none = came_on past legal.1 (omega (arith, few)) (none_behind (Entered k) past none)
  came_on (Filled k size ∷ past) legal few none = came_on past legal.1 few (none_behind (Filled k size) past none)
  came_on (Left k ∷ past) legal few none = came_on past legal.1 few (none_behind (Left k) past none)
  came_on (Collect k a ∷ past) legal few none = came_on past legal.1 few (none_behind (Collect k a) past none)
  came_on (Admit w r v ∷ past) legal few none = came_on past legal.1 few (none_behind (Admit w r v) past none)
  came_on (Tried w a ∷ past) legal few none = came_on past legal.1 few (none_behind (Tried w a) past none)
  came_on (Incarnated w a ∷ past) legal few none = came_on past legal.1 few (none_behind (Incarnated w a) past none)
  came_on (Run w ∷ past) legal few none = came_on past legal.1 few (none_behind (Run w) past none)
  came_on (Done w ∷ past) legal few none = came_on past legal.1 few (none_behind (Done w) past none)
  came_on (TakeOut w n x ∷ past) legal few none = came_on past legal.1 few (none_behind (TakeOut w n x) past none)
  came_on (Etherealized w x y ∷ past) legal few none = came_on past legal.1 few (none_behind (Etherealized w x y) past none)
  came_on (Abandon w ∷ past) legal few none = came_on past legal.1 few (none_behind (Abandon w) past none)

  -- the history before an entry
  legal_behind : (more past : List Entry) → IsLegal c run limit (more ++ past) → IsLegal c run limit past
  legal_behind [] past legal = legal
  legal_behind (e ∷ more) past legal = legal_behind more past legal.1

-- what a connection asks for: its calls that arrived, and the one that filled the run
abbrev pub refused : (ℕ → ℕ) → Option ℕ → ℕ
refused least None = 0
refused least (Some size) = least size

abbrev pub asked : (Heard → ℕ) → (ℕ → ℕ) → List Entry → ℕ → ℕ
asked weight least h c = weighed_by weight h c + refused least (filling_by h c)

-- the limits of a run, with what is asked for by its connections but the first: so many calls, bytes and `shutdown`s
pub record AreFew (limit : ℕ) (h : List Entry) (conns : List ℕ) (calls bytes ends : ℕ) : Type 0 where
  pub calls_in : total (asked one_each (λ size. 1) h) conns ≤ calls
  pub bytes_in : total (asked size_of (λ size. size) h) conns ≤ bytes
  pub ends_in : total (asked is_end (λ size. 0) h) conns ≤ ends
  pub few : calls ≤ limit
  pub small : bytes ≤ 2 ^ 30
  pub behind : 0 < ends → (calls < limit) × (bytes + 8 ≤ 2 ^ 30)

module _ (c : Config) (run limit : ℕ) (h : List Entry) (legal : IsLegal c run limit h) (conns : List ℕ) (are : AreConnections conns (reverse h))
    (last : Option (ℕ × Entry)) (word : IsWord last)
    (own : (place : ℕ) (e : Entry) → get_elem? (reverse h) place ≡ some e → owner_of e ≡ Some 0 → IsOwn last place e)
    (last_word : IsLastWord last (reverse h)) (late : FillsBehind last (reverse h)) (calls bytes ends : ℕ)
    (fit : AreFew limit h conns calls bytes ends) where
  all_in : (c : ℕ) → 0 < c → c < connections h → In c conns
  all_in c above below = are.all c above (subst (λ l. c < connections l) (sym (reverse-reverse h)) below)

  module _ (f : Fills h) where
    abbrev fill : Entry
    fill = Filled f.conn f.size

    -- the place of an entry
    place_of : (more past : List Entry) (e : Entry) → h ≡ more ++ e ∷ past → get_elem? (reverse h) (length past) ≡ some e
    place_of more past e is = subst (λ l. get_elem? (reverse l) (length past) ≡ some e) (sym is) (stands_at more past e)

    legal_fill : IsLegal c run limit (fill ∷ f.past)
    legal_fill = legal_behind c run limit conns (connections h) all_in f.more (fill ∷ f.past) (subst (IsLegal c run limit) f.cut legal)

    few_past : connections f.past ≤ connections h
    few_past = subst (λ l. connections f.past ≤ connections l) (sym f.cut) (entered_more f.more (fill ∷ f.past))

    -- a call of the first connection is its last word
    said : (more past : List Entry) (size : ℕ) (call : Call) → h ≡ more ++ Arrive 0 size call ∷ past → last ≡ Some (length past, Arrive 0 size call)
    said more past size call is = ⊎_elim
        (λ (first : Arrive 0 size call ≡ Entered 0). cc)
        (λ (it : last ≡ Some (length past, Arrive 0 size call)). it)
        (own (length past) (Arrive 0 size call) (place_of more past (Arrive 0 size call) is) refl)

    in_past : (more past : List Entry) (e : Entry) → f.past ≡ more ++ e ∷ past → h ≡ (f.more ++ fill ∷ more) ++ e ∷ past
    in_past more past e is = f.cut ∙ ap (λ l. f.more ++ fill ∷ l) is ∙ sym (append_assoc f.more (fill ∷ more) (e ∷ past))

    -- what had arrived is no more than what is asked for
    grown_by : (weight : Heard → ℕ) (least : ℕ → ℕ) (c : ℕ) → weighed_by weight f.past c ≤ asked weight least h c
    grown_by weight least c =
        let more : weighed_by weight f.past c ≤ weighed_by weight h c =
        subst (λ l. weighed_by weight f.past c ≤ weighed_by weight l c) (append_assoc f.more (fill ∷ []) f.past ∙ sym f.cut)
        (grown weight c (f.more ++ fill ∷ []) f.past) in
        omega (arith, more)

    -- of the one that filled the run it is less
    heavier : (weight : Heard → ℕ) (least : ℕ → ℕ) → weighed_by weight f.past f.conn + least f.size ≤ asked weight least h f.conn
    heavier weight least =
        let told : refused least (filling_by h f.conn) ≡ least f.size = ap (refused least) f.told in
        let grew : weighed_by weight f.past f.conn ≤ weighed_by weight h f.conn =
        subst (λ l. weighed_by weight f.past f.conn ≤ weighed_by weight l f.conn) (append_assoc f.more (fill ∷ []) f.past ∙ sym f.cut)
        (grown weight f.conn (f.more ++ fill ∷ []) f.past) in
        omega (arith, told, grew)

    not_full : arrivals f.past < limit → arrived_bytes f.past + f.size ≤ 2 ^ 30 → ⊥
    not_full fewer less = ⊎_elim
        (λ (many : limit ≤ arrivals f.past). omega (arith, many, fewer))
        (λ (much : 2 ^ 30 < arrived_bytes f.past + f.size). omega (arith, much, less))
        legal_fill.0.full

    -- another connection filled it
    module _ (above : 0 < f.conn) where
      none_other : HasNoOwn f.past
      none_other more past size call is =
          let here = said (f.more ++ fill ∷ more) past size call (in_past more past (Arrive 0 size call) is) in
          let before = last_word (length past) (Arrive 0 size call) here (length f.past) f.conn above (fill, place_of f.more f.past fill f.cut, refl) in
          let long : length f.past ≡ length more + suc (length past) = ap length is ∙ length-append more (Arrive 0 size call ∷ past) in
          omega (arith, before, long)

      there : In f.conn conns
      there = let entered = legal_fill.0.open_.entered in let stood = few_past in all_in f.conn above (omega (arith, entered, stood))

      fewer_by : (weight : Heard → ℕ) (least : ℕ → ℕ) → weighed weight f.past + least f.size ≤ total (asked weight least h) conns
      fewer_by weight least =
          let within = weighed_within weight conns f.past (came_on c run limit conns (connections h) all_in f.past legal_fill.1 few_past none_other) in
          let more = total_more (weighed_by weight f.past) (asked weight least h) (grown_by weight least) f.conn (least f.size) (heavier weight least) conns there in
          omega (arith, within, more)

      filled_other : ⊥
      filled_other =
          let calls_less = fewer_by one_each (λ size. 1) in
          let bytes_less = fewer_by size_of (λ size. size) in
          let calls_are = arrivals_are f.past in
          let bytes_sum = bytes_are f.past in
          let a = fit.calls_in in let b = fit.bytes_in in let few = fit.few in let small = fit.small in
          not_full (omega (arith, calls_less, calls_are, a, few)) (omega (arith, bytes_less, bytes_sum, b, small))

    -- the first connection filled it
    module _ (first : f.conn ≡ 0) where
      last_is : last ≡ Some (length f.past, fill)
      last_is = ⊎_elim
          (λ (entered : fill ≡ Entered 0). cc)
          (λ (it : last ≡ Some (length f.past, fill)). it)
          (own (length f.past) fill (place_of f.more f.past fill f.cut) (ap Some first))

      eight : f.size ≡ 8
      eight = ⊎_elim
          (λ (arrived : fill ≡ Arrive 0 8 (Line 1 Shutdown)). cc)
          (λ (filled : fill ≡ Filled 0 8). cc)
          (subst IsWord last_is word)

      none_own : HasNoOwn h
      none_own more past size call is =
          let both : ◌≡◌ {A = Option (ℕ × Entry)} (Some (length f.past, fill)) (Some (length past, Arrive 0 size call)) = sym last_is ∙ said more past size call is in
          let same : fill ≡ Arrive 0 size call = entry_of (length f.past, fill) (length past, Arrive 0 size call) both in cc

      none_past : HasNoOwn f.past
      none_past more past size call is = none_own (f.more ++ fill ∷ more) past size call (in_past more past (Arrive 0 size call) is)

      had : had_shutdown h ≡ true
      had = subst (λ l. had_shutdown l ≡ true) (reverse-reverse h)
          (late (length f.past) f.size (last_is ∙ ap (λ n. Some (length f.past, Filled n f.size)) first))

      some_ends : 0 < ends
      some_ends =
          let some = some_end h had in
          let within = weighed_within is_end conns h (came_on c run limit conns (connections h) all_in h legal (omega arith) none_own) in
          let asks = total_le (weighed_by is_end h) (asked is_end (λ size. 0) h) (λ c. omega arith) conns in
          let few = fit.ends_in in omega (arith, some, within, asks, few)

      less_by : (weight : Heard → ℕ) (least : ℕ → ℕ) → weighed weight f.past ≤ total (asked weight least h) conns
      less_by weight least =
          let within = weighed_within weight conns f.past (came_on c run limit conns (connections h) all_in f.past legal_fill.1 few_past none_past) in
          let more = total_le (weighed_by weight f.past) (asked weight least h) (grown_by weight least) conns in
          omega (arith, within, more)

      filled_first : ⊥
      filled_first =
          let calls_less = less_by one_each (λ size. 1) in
          let bytes_less = less_by size_of (λ size. size) in
          let calls_are = arrivals_are f.past in
          let bytes_sum = bytes_are f.past in
          let size = eight in
          let room = fit.behind some_ends in
          let a = fit.calls_in in let b = fit.bytes_in in
          not_full (omega (arith, calls_less, calls_are, a, room.0)) (omega (arith, bytes_less, bytes_sum, b, size, room.1))

    never_fills : ⊥
    never_fills = dite (ℕ_discrete f.conn 0) filled_first (λ (other : f.conn ≡ 0 → ⊥). filled_other (omega (arith, other)))

  pub unfilled : filled_at h ≡ None
  unfilled = elim (filled_at h) as (λ o. filled_at h ≡ o → o ≡ None) [
    | None ↦ λ is. refl
    | Some at ↦ λ is. absurd (never_fills (fills h at is))
  ] refl

-- A line comes to a connection.
use Rattle.std.proofs.Common.{◌≡◌, ℕ, zero, suc, Bool, true, false, List, [], ◌∷◌, ◌++◌, Option, Some, None, slice_get, slice_set, refl, sym, ap, ◌∙◌, subst, append-nil}
use Rattle.std.specs.Option.{option_or}
use Rattle.poa_base.specs.declared.Entry.TheVariants.{Entered}
use Rattle.history_standing.specs.Arrivals.{arrivals, arrived_bytes, connections}
use Rattle.poa_history.specs.Life.{Life, with_entry}
use Rattle.replay_run.specs.declared.channel.Channel.{Channel}
use Rattle.replay_run.specs.declared.full.Full.{Full}
use Rattle.replay_run.specs.declared.player.Player.{Player}
use Rattle.replay_run.specs.World.{World, Talk}
use Rattle.replay_run.specs.Lines.{limit_line}
use Rattle.replay_run.specs.Talking.{Enters, OnChannel, OnPlace, OnLine, entered, turned_away, numbered, has_room, Carries}
use Rattle.replay_run.specs.Keeping.{Keeps, Meets, knows, enters, refuses, Shows, Tells, talk, world}
use Rattle.replay_run.proofs.Same.{Still, still_life}
use Rattle.replay_run.proofs.Seats.{keeps_still}

-- a place that is set to what it has
pub set_same : (xs : List Channel) (i : ℕ) (a : Channel) → slice_get xs i ≡ Some a → slice_set xs i a ≡ xs
set_same [] i a is = refl
set_same (x ∷ xs) zero a is = (let e : x ≡ a = (let f : Some x ≡ Some a = is in cc) in ap (λ y. y ∷ xs) (sym e))
set_same (x ∷ xs) (suc i) a is = ap (λ ys. x ∷ ys) (set_same xs i a is)

module _ (P : ℕ → Talk → List ℕ → Talk → Type 0) (place : ℕ) (old : Player) (xs : List Channel) where
  found : (channel : Channel) (text : List ℕ) (after : World) → slice_get xs place ≡ Some channel
      → OnChannel channel.number P place channel (world old xs) text after → OnLine P place (world old xs) text after
  found channel text after at is =
      subst (λ (o : Option Channel). OnPlace o P place (world old xs) text after) (sym at) is

  -- there is no such connection
  pub line_nothing : slice_get xs place ≡ None → Shows (OnLine P place) old old xs xs
  line_nothing none = record {
    text = [];
    printed = sym (append-nil old.printed.items);
    does = subst (λ (o : Option Channel). OnPlace o P place (world old xs) [] (world old xs)) (sym none) (refl, refl);
  }

  refused_so : (new : Player) (channel : Channel) → slice_get xs place ≡ Some channel → channel.number ≡ None → has_room old.core ≡ false → new.core ≡ old.core
      → new.turned_away ≡ option_or old.turned_away (Some (record { arrivals = arrivals old.core.history; bytes = arrived_bytes old.core.history }))
      → OnLine P place (world old xs) (limit_line channel.name) (world new xs)
  refused_so new channel at none room life away =
      let same : world new xs ≡ turned_away (world old xs) =
      ap (λ (l : Life). record { life = l; channels = xs; turned_away = new.turned_away }) life
      ∙ ap (λ (o : Option Full). record { life = old.core; channels = xs; turned_away = o }) away in
      found channel (limit_line channel.name) (world new xs) at
      (subst (λ (o : Option ℕ). OnChannel o P place channel (world old xs) (limit_line channel.name) (world new xs)) (sym none)
      (subst (λ (b : Bool). Enters b P place channel (world old xs) (limit_line channel.name) (world new xs)) (sym room) (refl, same)))

  -- the connection can't enter
  pub line_refused : (new : Player) (channel met : Channel) → slice_get xs place ≡ Some channel → Meets None old new channel met
      → Shows (OnLine P place) old new xs (slice_set xs place met)
  line_refused new channel met at (knows conn is number same stays) = absurd (let e : None ≡ Some conn = is in cc)
  line_refused new channel met at (enters is none room life silent became) = absurd (let e : None ≡ Some (connections old.core.history) = is in cc)
  line_refused new channel met at (refuses is none room life filled told away became) =
      let same : slice_set xs place met ≡ xs = ap (λ (c : Channel). slice_set xs place c) became ∙ set_same xs place channel at in
      subst (λ (ys : List Channel). Shows (OnLine P place) old new xs ys) (sym same) (record {
        text = limit_line channel.name;
        printed = told;
        does = refused_so new channel at none room life away;
      })

  known_so : (conn : ℕ) (new : Player) (channel last : Channel) (text : List ℕ) → slice_get xs place ≡ Some channel → channel.number ≡ Some conn
      → P conn (talk old channel) text (talk new last) → new.turned_away ≡ old.turned_away
      → OnLine P place (world old xs) text (world new (slice_set xs place last))
  known_so conn new channel last text at number does away =
      found channel text (world new (slice_set xs place last)) at
      (subst (λ (o : Option ℕ). OnChannel o P place channel (world old xs) text (world new (slice_set xs place last))) (sym number) (record {
        talk = talk new last;
        does = does;
        became = ap (λ (o : Option Full). record { life = new.core; channels = slice_set xs place last; turned_away = o }) away;
      }))

  entered_so : (new : Player) (channel last : Channel) (text : List ℕ) → slice_get xs place ≡ Some channel → channel.number ≡ None → has_room old.core ≡ true
      → P (connections old.core.history)
      (record { life = with_entry (Entered (connections old.core.history)) old.core; channel = numbered (connections old.core.history) channel }) text
      (talk new last)
      → new.turned_away ≡ old.turned_away → OnLine P place (world old xs) text (world new (slice_set xs place last))
  entered_so new channel last text at none room does away =
      found channel text (world new (slice_set xs place last)) at
      (subst (λ (o : Option ℕ). OnChannel o P place channel (world old xs) text (world new (slice_set xs place last))) (sym none)
      (subst (λ (b : Bool). Enters b P place channel (world old xs) text (world new (slice_set xs place last))) (sym room) (record {
        talk = talk new last;
        does = does;
        became = ap (λ (o : Option Full). record { life = new.core; channels = slice_set xs place last; turned_away = o }) away;
      })))

  -- the connection entered before, or enters now, and the line does this
  pub line_told : (conn : ℕ) (mid new : Player) (channel met last : Channel) → slice_get xs place ≡ Some channel → Meets (Some conn) old mid channel met
      → Tells (P conn) mid new met last → Shows (OnLine P place) old new xs (slice_set xs place last)
  line_told conn mid new channel met last at (knows n is number same stays) t =
      let number_is : channel.number ≡ Some conn = number ∙ sym is in
      let before : talk mid met ≡ talk old channel = ap (λ (p : Player). talk p met) same ∙ ap (λ (c : Channel). talk old c) stays in
      record {
        text = t.text;
        printed = t.printed ∙ ap (λ (p : Player). p.printed.items ++ t.text) same;
        does = known_so conn new channel last t.text at number_is (subst (λ (k : Talk). P conn k t.text (talk new last)) before t.does)
            (t.turned_away ∙ ap (λ (p : Player). p.turned_away) same);
      }
  line_told conn mid new channel met last at (enters is none room life silent became) t =
      let n : ℕ = connections old.core.history in
      let conn_is : conn ≡ n = (let e : Some conn ≡ Some n = is in cc) in
      let before : talk mid met ≡ record { life = with_entry (Entered n) old.core; channel = numbered n channel } =
      ap (λ (l : Life). let k : Talk = record { life = l; channel = met } in k) life
      ∙ ap (λ (c : Channel). let k : Talk = record { life = with_entry (Entered n) old.core; channel = c } in k) became in
      record {
        text = t.text;
        printed = t.printed ∙ ap (λ v. v.items ++ t.text) silent.printed;
        does = entered_so new channel last t.text at none room
            (subst (λ (k : Talk). P n k t.text (talk new last)) before (subst (λ m. P m (talk mid met) t.text (talk new last)) conn_is t.does))
            (t.turned_away ∙ silent.turned_away);
      }
  line_told conn mid new channel met last at (refuses is none room life filled told away became) t = absurd (let e : Some conn ≡ None = is in cc)

-- what is known of connections where one can't enter
pub keeps_refused : (old new : Player) (xs : List Channel) (place : ℕ) (channel met : Channel) → Keeps old xs → slice_get xs place ≡ Some channel
    → Meets None old new channel met → Keeps new (slice_set xs place met)
keeps_refused old new xs place channel met k at (knows conn is number same stays) = absurd (let e : None ≡ Some conn = is in cc)
keeps_refused old new xs place channel met k at (enters is none room life silent became) =
    absurd (let e : None ≡ Some (connections old.core.history) = is in cc)
keeps_refused old new xs place channel met k at (refuses is none room life filled told away became) =
    let same : slice_set xs place met ≡ xs = ap (λ (c : Channel). slice_set xs place c) became ∙ set_same xs place channel at in
    subst (λ (ys : List Channel). Keeps new ys) (sym same)
    (keeps_still old new xs k (subst (λ (l : Life). Still old.core l) (sym life) (still_life old.core)) filled)

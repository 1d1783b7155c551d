-- What is nothing to a call: an entry that doesn't speak of it, a reply to another, and a look that finds what was there.
use Rattle.std.proofs.Common.{◌≡◌, ℕ, Bool, true, false, not, ◌&&◌, if◌then◌else◌, List, [], ◌++◌, Option, Some, None, is_some, refl, sym, ◌∙◌, ap, inl}
use Rattle.std.proofs.lemmas.List.{append-nil}
use Rattle.poa_base.specs.declared.Config.{Config}
use Rattle.poa_base.specs.declared.Entry.{Entry}
use Rattle.poa_base.specs.declared.Entry.TheVariants.{Entered, Arrive, Filled, Left, Collect, Admit, Tried, Incarnated, Run, Done, TakeOut, Etherealized, Abandon}
use Rattle.poa_history.specs.Life.{Life}
use Rattle.core_outboxes.specs.declared.filed.Filed.{Filed}
use Rattle.journal_audit.specs.Judging.{Follows}
use Rattle.journal_explain.specs.declared.event.Event.{Event}
use Rattle.journal_explain.specs.declared.event.Event.TheVariants as event
use Rattle.journal_explain.specs.declared.origin.Origin.{Origin}
use Rattle.journal_explain.specs.declared.tenure.Tenure.{Tenure}
use Rattle.journal_explain.specs.declared.trail.Trail.{Trail}
use Rattle.journal_explain.specs.Origins.{holder, ruler}
use Rattle.journal_explain.specs.Serving.{ended_where, serves, service_by, serving_by, servant_brought}
use Rattle.journal_explain.specs.Stories.{event_with, row_for, step_at, wait_of}
use Rattle.journal_explain.specs.Watching.{Gets, IsServed, Looks, Notes, handed_to, is_working, speaks_of, told_in}

abbrev none : Option Event
none = None

-- an entry that doesn't speak of the call is nothing to it
module _ (c : Config) (run : ℕ) (past : List Entry) (begun : Option ℕ) (r : ℕ) where
  at_none : (w : ℕ) (told : Event) → is_working past w r ≡ false → (if is_working past w r then Some told else none) ≡ none
  at_none w told is = ap (λ b. if b then Some told else none) is

  silent : (e : Entry) → speaks_of past e r ≡ false → event_with c run past e begun r ≡ none
  silent (Arrive conn size call) is = ap (λ b. if b then Some event.Arrived else none) is
  silent (Admit w a verdict) is =
      ap (λ b. if b then Some (event.Admitted w (row_for c run past r w) verdict (service_by c run past begun (serving_by verdict))) else none) is
  silent (Tried w answer) is = at_none w (event.Tried answer) is
  silent (Incarnated w answer) is = at_none w (event.Incarnated (servant_brought answer)) is
  silent (Run w) is = at_none w event.Ran is
  silent (Done w) is = at_none w event.Ended is
  silent (Entered conn) is = refl
  silent (Filled conn size) is = refl
  silent (Left conn) is = refl
  silent (Collect conn a) is = refl
  silent (TakeOut w n etherealize) is = refl
  silent (Etherealized w cleanup remaining) is = refl
  silent (Abandon w) is = refl

-- no step is told
same_steps : (place : ℕ) (told : Option Event) (tenure : Option Tenure) (old new : Trail) → told ≡ none → new.steps.items ≡ old.steps.items
    → new.steps.items ≡ old.steps.items ++ step_at place told tenure
same_steps place told tenure old new untold same =
    same ∙ (sym (append-nil old.steps.items) ∙ ap (λ o. old.steps.items ++ step_at place o tenure) (sym untold))

pub unspoken : (past : Life) (e : Entry) (place : ℕ) (begun : Option ℕ) (rows : List Origin) (old new : Trail)
    → (Follows past e → speaks_of past.history e old.name.arrival ≡ false) → IsServed past e old new → Notes past e place begun rows old new
unspoken past e place begun rows old new says served = record {
  name = served.name;
  call = served.call;
  adapter = served.adapter;
  told = λ follows.
      same_steps place (event_with past.config past.run past.history e begun old.name.arrival)
      (told_in past rows (ruler past.config past.run past.history e old.name.arrival)) old new
      (silent past.config past.run past.history begun old.name.arrival e (says follows)) served.steps;
  wait = served.wait;
  server = served.server;
  active = served.active;
}

-- nothing is there
unsome : (o : Option Event) → is_some o ≡ false → o ≡ none
unsome None is = refl
unsome (Some told) is = absurd (let e : true ≡ false = is in cc)

pub some_if : (b : Bool) (told : Event) → b ≡ is_some (if b then Some told else none)
some_if true told = refl
some_if false told = refl

pub unhanded : (given : Option Filed) (place : ℕ) (t : Trail) → is_some (handed_to given t.name.arrival) ≡ false → Gets given place t t
unhanded given place t is = record {
  name = refl;
  call = refl;
  adapter = refl;
  told = same_steps place (handed_to given t.name.arrival) None t t (unsome (handed_to given t.name.arrival) is) refl;
  wait = refl;
  server = refl;
  active = refl;
}

pub unchanged : (life : Life) (place : ℕ) (rows : List Origin) (t : Trail) → t.wait ≡ wait_of life.config life.run life.history t.name.arrival
    → is_some (ended_where t.server t.active (serves life.config life.run life.history t.server)) ≡ false → Looks life place rows t t
unchanged life place rows t waits is =
    (let ended = ended_where t.server t.active (serves life.config life.run life.history t.server) in
    record {
      name = refl;
      call = refl;
      adapter = refl;
      wait = waits;
      news = [];
      is_news = inl (refl, refl);
      server = refl;
      steps =
          sym (append-nil t.steps.items)
          ∙ ap (λ o. t.steps.items ++ (step_at place o None ++ [])) (sym (unsome ended is));
    })

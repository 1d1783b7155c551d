-- A watch sees one entry more.
use Rattle.std.proofs.Common.{◌≡◌, ℕ, ◌<◌, ◌≤◌, ◌==◌, Bool, true, false, ◌&&◌, nat_lt, if◌then◌else◌, List, [], ◌∷◌, ◌++◌, length, map, All, Option, Some, None, refl, sym, ◌∙◌, ap, ap₂, subst, arith, append_assoc}
use Rattle.std.specs.List.{AllZip, AllByRecursion}
use Rattle.std.proofs.lemmas.List.{map-append}
use Rattle.std.proofs.lemmas.List.Elements.{All-from_recursion, All-push, All-weaker, recursion_from_All}
use Rattle.std.proofs.lemmas.Bool.{eq-eqb, false_from_ne_true, lt-ltb, ltb-true, ne_eqb}
use Rattle.poa_base.specs.declared.Call.{Call}
use Rattle.poa_base.specs.declared.Config.{Config}
use Rattle.poa_base.specs.declared.Entry.{Entry}
use Rattle.poa_base.specs.declared.Entry.TheVariants.{Arrive}
use Rattle.history_standing.specs.Arrivals.{arrivals, call_of, is_message}
use Rattle.history_standing.specs.Keys.{key_in}
use Rattle.history_standing.specs.Stages.{is_unadmitted}
use Rattle.history_standing.specs.Situations.{facts_of}
use Rattle.history_standing.proofs.CallsKept.{arrivals_kept, call_beyond, call_kept}
use Rattle.poa_choose.specs.declared.MapFact.{MapFact}
use Rattle.poa_history.specs.Life.{Life, opened, with_entry}
use Rattle.poa_history.specs.States.{Stored}
use Rattle.core_outboxes.specs.declared.filed.Filed.{Filed}
use Rattle.journal_audit.specs.Judging.{Follows}
use Rattle.core_turns.specs.Looks.{looked}
use Rattle.journal_explain.specs.declared.adapter.Adapter.{Adapter}
use Rattle.journal_explain.specs.declared.beginnings.Beginnings.{Beginnings}
use Rattle.journal_explain.specs.declared.selection.Selection.{Selection}
use Rattle.journal_explain.specs.declared.call_name.CallName.{CallName}
use Rattle.journal_explain.specs.declared.came.Came.{Came}
use Rattle.journal_explain.specs.declared.change.Change.{Change}
use Rattle.journal_explain.specs.declared.doing.Doing.{Doing}
use Rattle.journal_explain.specs.declared.event.Event.{Event}
use Rattle.journal_explain.specs.declared.origin.Origin.{Origin}
use Rattle.journal_explain.specs.declared.object_trail.ObjectTrail.{ObjectTrail}
use Rattle.journal_explain.specs.declared.step.Step.{Step}
use Rattle.journal_explain.specs.declared.tenure.Tenure.{Tenure}
use Rattle.journal_explain.specs.declared.trail.Trail.{Trail}
use Rattle.journal_explain.specs.declared.wait.Wait.{Wait}
use Rattle.journal_explain.specs.declared.watch.Watch.{Watch}
use Rattle.journal_explain.specs.Explaining.{HasSeen, HasTraced, HasWatched, came_in}
use Rattle.journal_explain.specs.Adapters.{adapter_at, adapter_for}
use Rattle.journal_explain.specs.Origins.{held_by, holder, ruled_by, ruler}
use Rattle.journal_explain.specs.Naming.{asks, is_all, name_of, names_in}
use Rattle.journal_explain.specs.Objects.{changed_with, changes_in, command_by, doing_of, slot_asked, stored_asked}
use Rattle.journal_explain.specs.Outcomes.{calls_in, came_with}
use Rattle.journal_explain.specs.Serving.{begun_for, ended_by, ended_where, served_with, server_in, server_with, serves}
use Rattle.journal_explain.specs.Stories.{GoesOn, IfArrived, IsNews, IsStory, collected_by, event_of, event_with, step_at, wait_by, wait_of}
use Rattle.journal_explain.specs.Watching.{Begins, BeginsIf, BeginsOne, Counts, Gets, HasGiven, HasLooked, HasNoted, KnowsOrigins, Looks, Notes, Traces, begun_by, handed_to, told_in}
use Rattle.journal_explain.proofs.Begun.{begun_is, counted}
use Rattle.journal_explain.proofs.Going.{named_still}
use Rattle.journal_explain.proofs.Settled.{knows_next, told_is}

below : (r n : ℕ) → r < n → nat_lt r n ≡ true
below r n low = lt-ltb r n low

above : (r n : ℕ) → n ≤ r → nat_lt r n ≡ false
above r n high = false_from_ne_true (nat_lt r n) (λ less. (let low = ltb-true r n less in omega (arith, low, high)))

-- of a call that hasn't arrived nothing is told
untold : (c : Config) (run : ℕ) (op : Stored) (h : List Entry) (r : ℕ) (steps : List Step) → arrivals h ≤ r → steps ≡ []
    → IsStory c run op h r steps
untold c run op [] r steps beyond none = none
untold c run op (e ∷ past) r steps beyond none =
    subst (λ (b : Bool). IfArrived b ((before : List Step) × IsStory c run op past r before × GoesOn c run op past e r before steps) (steps ≡ []))
    (sym (above r (arrivals (e ∷ past)) beyond)) none

and_false : (b : Bool) → (b && false) ≡ false
and_false true = refl
and_false false = refl

unwaited : (c : Config) (run : ℕ) (h : List Entry) (r : ℕ) → arrivals h ≤ r → wait_of c run h r ≡ None
unwaited c run h r beyond =
    let waits : (is_unadmitted h r && is_message (call_of h r)) ≡ false =
    ap (λ (o : Option Call). is_unadmitted h r && is_message o) (call_beyond h r beyond) ∙ and_false (is_unadmitted h r) in
    ap (λ (b : Bool). if b then Some (wait_by (looked (facts_of c run h r) 1)) else None) waits

-- a trail of a call that has arrived with the next entry, if not before, tells what happened before it
pub record IsBegun (past : Life) (e : Entry) (t : Trail) : Type 0 where
  pub call : call_of (e ∷ past.history) t.name.arrival ≡ Some t.call
  pub steps : IsStory past.config past.run (opened past) past.history t.name.arrival t.steps.items
  pub wait : t.wait ≡ wait_of past.config past.run past.history t.name.arrival
  pub adapter : t.adapter ≡ adapter_for past.config past.run (e ∷ past.history) t.name.arrival
  pub server : t.server ≡ server_in past.history t.name.arrival
  pub arrived : t.name.arrival < arrivals (e ∷ past.history)

-- what stood when a call arrived stays
adapter_kept : (c : Config) (run : ℕ) (e : Entry) (h : List Entry) (r : ℕ) → r < arrivals h → adapter_for c run (e ∷ h) r ≡ adapter_for c run h r
adapter_kept c run (Arrive conn size call) h r low =
    ap (λ (b : Bool). if b then adapter_at c run h (key_in (Some call)) else adapter_for c run h r)
    (ne_eqb (arrivals h) r (λ same. omega (arith, low, same)))
adapter_kept c run e h r low = refl

still_begun : (past : Life) (e : Entry) (t : Trail) → HasSeen past t → IsBegun past e t
still_begun past e t seen = record {
  call = call_kept e past.history t.name.arrival seen.arrived ∙ seen.call;
  steps = seen.steps;
  wait = seen.wait;
  adapter = seen.adapter ∙ sym (adapter_kept past.config past.run e past.history t.name.arrival seen.arrived);
  server = seen.server;
  arrived = (let before = seen.arrived in let kept = arrivals_kept e past.history in omega (arith, before, kept));
}

fresh_begun : (past : Life) (e : Entry) (t : Trail) → t.name.arrival ≡ arrivals past.history → t.steps.items ≡ [] → t.wait ≡ None
    → arrivals past.history < arrivals (e ∷ past.history) → call_of (e ∷ past.history) (arrivals past.history) ≡ Some t.call
    → t.adapter ≡ adapter_for past.config past.run (e ∷ past.history) (arrivals past.history)
    → t.server ≡ server_in past.history (arrivals past.history) → IsBegun past e t
fresh_begun past e t here none free more came stood served = record {
  call = ap (call_of (e ∷ past.history)) here ∙ came;
  steps = untold past.config past.run (opened past) past.history t.name.arrival t.steps.items (omega (arith, here)) none;
  wait = free ∙ sym (unwaited past.config past.run past.history t.name.arrival (omega (arith, here)));
  adapter = stood ∙ ap (adapter_for past.config past.run (e ∷ past.history)) (sym here);
  server = served ∙ ap (server_in past.history) (sym here);
  arrived = omega (arith, here, more);
}

names_of : List Trail → List CallName
names_of ts = map (λ (t : Trail). t.name) ts

record AreBegun (past : Life) (e : Entry) (which : Selection) (ts : List Trail) : Type 0 where
  names : map (λ (t : Trail). t.name) ts ≡ names_in which (e ∷ past.history)
  each : All (IsBegun past e) ts

module _ (past : Life) (e : Entry) (which : Selection) (olds begun : List Trail) (each : All (HasSeen past) olds)
    (names : map (λ (t : Trail). t.name) olds ≡ names_in which past.history) where
  others : begun ≡ olds → names_in which (e ∷ past.history) ≡ names_in which past.history → AreBegun past e which begun
  others same no_more = record {
    names = ap (map (λ (t : Trail). t.name)) same ∙ (names ∙ sym no_more);
    each =
        subst (λ (ts : List Trail). All (IsBegun past e) ts) (sym same)
        (All-weaker (HasSeen past) (IsBegun past e) (still_begun past e) olds each);
  }

  one_more : (name : CallName) (call : Call) (adapter : Option Adapter) → adapter ≡ adapter_for past.config past.run (e ∷ past.history) (arrivals past.history)
      → call_of (e ∷ past.history) (arrivals past.history) ≡ Some call → name.arrival ≡ arrivals past.history → arrivals past.history < arrivals (e ∷ past.history)
      → names_in which (e ∷ past.history) ≡ names_in which past.history ++ name ∷ []
      → BeginsOne name call adapter (server_in past.history (arrivals past.history)) olds begun → AreBegun past e which begun
  one_more name call adapter stood came here more is b = record {
    names =
        ap (map (λ (t : Trail). t.name)) b.behind
        ∙ (map-append (λ (t : Trail). t.name) olds (b.trail ∷ [])
        ∙ (ap₂ (λ (ns : List CallName) (n : CallName). ns ++ n ∷ []) names b.named ∙ sym is));
    each =
        subst (λ (ts : List Trail). All (IsBegun past e) ts) (sym b.behind)
        (All-push (IsBegun past e) olds b.trail (All-weaker (HasSeen past) (IsBegun past e) (still_begun past e) olds each)
        (fresh_begun past e b.trail (ap (λ (n : CallName). n.arrival) b.named ∙ here) b.steps b.wait more (came ∙ ap Some (sym b.came)) (b.adapter ∙ stood) b.served));
  }

  begun_if : (b : Bool) (name : CallName) (call : Call) (adapter : Option Adapter) → adapter ≡ adapter_for past.config past.run (e ∷ past.history) (arrivals past.history)
      → call_of (e ∷ past.history) (arrivals past.history) ≡ Some call → name.arrival ≡ arrivals past.history → arrivals past.history < arrivals (e ∷ past.history)
      → names_in which (e ∷ past.history) ≡ (if b then names_in which past.history ++ name ∷ [] else names_in which past.history)
      → BeginsIf b name call adapter (server_in past.history (arrivals past.history)) olds begun → AreBegun past e which begun
  begun_if true name call adapter stood came here more is b = one_more name call adapter stood came here more is b
  begun_if false name call adapter stood came here more is same = others same is

begun_each : (past : Life) (e : Entry) (which : Selection) (olds begun : List Trail) → All (HasSeen past) olds
    → map (λ (t : Trail). t.name) olds ≡ names_in which past.history
    → Begins which past (length past.history) e olds begun → AreBegun past e which begun
begun_each past (Arrive conn size call) which olds begun each names b =
    let name = name_of (arrivals past.history) conn call in
    let stood = adapter_at past.config past.run past.history (key_in (Some call)) in
    let now : (arrivals past.history == arrivals past.history) ≡ true = eq-eqb (arrivals past.history) (arrivals past.history) refl in
    begun_if past (Arrive conn size call) which olds begun each names (asks which name (length past.history)) name call stood
    (sym (ap (λ (t : Bool). if t then stood else adapter_for past.config past.run past.history (arrivals past.history)) now))
    (ap (λ (t : Bool). if t then Some call else call_of past.history (arrivals past.history)) now)
    refl (omega arith) refl b
begun_each past e which olds begun each names same = others past e which olds begun each names same refl

-- one trail
module _ (past : Life) (e : Entry) (place : ℕ) (here : place ≡ length past.history) (follows : Follows past e) (filed : Option Filed)
    (handed : (r : ℕ) → handed_to filed r ≡ collected_by past.config past.run (opened past) past.history e r) where
  -- by the rows of what is set before the entry and behind it, and by the entry that began the activation that serves it
  seen_one : (from : Option ℕ) → from ≡ begun_for past.config past.run past.history (served_with e)
      → (rows after : List Origin) → KnowsOrigins past rows → KnowsOrigins (with_entry e past) after
      → (old noted given new : Trail) → IsBegun past e old → Notes past e place from rows old noted → Gets filed place noted given
      → Looks (with_entry e past) place after given new → HasSeen (with_entry e past) new
  seen_one from from_is rows after knows knows_after old noted given new begun notes gets looks =
      let c = past.config in
      let run = past.run in
      let op = opened past in
      let h = past.history in
      let r = old.name.arrival in
      let event = event_of c run h e r in
      let rule = ruled_by c run h e r in
      let reply = collected_by c run op h e r in
      let ends = ended_by c run h e r in
      let first : noted.name.arrival ≡ r = ap (λ (n : CallName). n.arrival) notes.name in
      let second : given.name.arrival ≡ r = ap (λ (n : CallName). n.arrival) gets.name ∙ first in
      let same : new.name.arrival ≡ r = ap (λ (n : CallName). n.arrival) looks.name ∙ second in
      let waits : new.wait ≡ wait_of c run (e ∷ h) r = looks.wait ∙ ap (wait_of c run (e ∷ h)) second in
      let served : given.server ≡ server_in (e ∷ h) r = gets.server ∙ (notes.server ∙ ap (server_with e r) begun.server) in
      let active : given.active ≡ serves c run h (server_in (e ∷ h) r) =
      gets.active ∙ (notes.active ∙ ap (serves c run h) (notes.server ∙ ap (server_with e r) begun.server)) in
      let ended : ended_where given.server given.active (serves c run (e ∷ h) given.server) ≡ ends =
      ap₂ (λ (s : Option ℕ) (a : Bool). ended_where s a (serves c run (e ∷ h) s)) served active in
      let by_rows : old.steps.items ++ step_at place (event_with c run h e from r) (told_in past rows (ruler c run h e r))
      ≡ old.steps.items ++ step_at place event rule =
      ap₂ (λ (b : Option ℕ) (m : Option Tenure). old.steps.items ++ step_at place (event_with c run h e b r) m) from_is
      (told_is past rows knows (ruler c run h e r)) in
      let more : List Step = step_at place ends None ++ looks.news in
      let goes : GoesOn c run op h e r old.steps.items new.steps.items = record {
        news = looks.news;
        waits =
            subst (λ (k : ℕ). IsNews k (wait_of c run h r) (wait_of c run (e ∷ h) r) (held_by c (e ∷ h) (wait_of c run (e ∷ h) r)) looks.news) here
            (subst (λ (w : Option Wait). IsNews place w (wait_of c run (e ∷ h) r) (held_by c (e ∷ h) (wait_of c run (e ∷ h) r)) looks.news)
            (gets.wait ∙ (notes.wait ∙ begun.wait))
            (subst (λ (w : Option Wait). IsNews place given.wait w (held_by c (e ∷ h) w) looks.news) waits
            (subst (λ (m : Option Tenure). IsNews place given.wait new.wait m looks.news)
            (told_is (with_entry e past) after knows_after (holder new.wait)) looks.is_news)));
        told =
            looks.steps
            ∙ (ap (λ (o : Option Event). given.steps.items ++ (step_at place o None ++ looks.news)) ended
            ∙ (ap (λ (s : List Step). s ++ more) (gets.told
            ∙ ap₂ (λ (s : List Step) (o : Option Event). s ++ step_at place o None) (notes.told follows ∙ by_rows)
            (ap (handed_to filed) first ∙ handed r))
            ∙ (append_assoc (old.steps.items ++ step_at place event rule) (step_at place reply None) more
            ∙ (append_assoc old.steps.items (step_at place event rule) (step_at place reply None ++ more)
            ∙ ap (λ (k : ℕ). old.steps.items
            ++ (step_at k event rule ++ (step_at k reply None ++ (step_at k ends None ++ looks.news)))) here))));
      } in
      let story : IsStory c run op (e ∷ h) r new.steps.items =
      subst (λ (b : Bool). IfArrived b ((before : List Step) × IsStory c run op h r before × GoesOn c run op h e r before new.steps.items)
      (new.steps.items ≡ [])) (sym (below r (arrivals (e ∷ h)) begun.arrived)) (old.steps.items, begun.steps, goes) in
      record {
        call = ap (call_of (e ∷ h)) same ∙ (begun.call ∙ ap Some (sym (looks.call ∙ (gets.call ∙ notes.call))));
        steps = subst (λ (k : ℕ). IsStory c run op (e ∷ h) k new.steps.items) (sym same) story;
        wait = waits ∙ ap (wait_of c run (e ∷ h)) (sym same);
        adapter = looks.adapter ∙ (gets.adapter ∙ (notes.adapter ∙ (begun.adapter ∙ ap (adapter_for c run (e ∷ h)) (sym same))));
        server = looks.server ∙ (served ∙ ap (server_in (e ∷ h)) (sym same));
        arrived = subst (λ (k : ℕ). k < arrivals (e ∷ h)) (sym same) begun.arrived;
      }

  seen_each : (from : Option ℕ) → from ≡ begun_for past.config past.run past.history (served_with e)
      → (rows after : List Origin) → KnowsOrigins past rows → KnowsOrigins (with_entry e past) after
      → (olds noted givens news : List Trail) → AllByRecursion (IsBegun past e) olds → AllZip (Notes past e place from rows) olds noted
      → AllZip (Gets filed place) noted givens → AllZip (Looks (with_entry e past) place after) givens news
      → AllByRecursion (HasSeen (with_entry e past)) news
  seen_each from from_is rows after knows knows_after [] [] [] [] begun notes gets looks = tt
  seen_each from from_is rows after knows knows_after [] [] [] (n ∷ news) begun notes gets looks = absurd looks
  seen_each from from_is rows after knows knows_after [] [] (g ∷ givens) news begun notes gets looks = absurd gets
  seen_each from from_is rows after knows knows_after [] (m ∷ noted) givens news begun notes gets looks = absurd notes
  seen_each from from_is rows after knows knows_after (o ∷ olds) [] givens news begun notes gets looks = absurd notes
  seen_each from from_is rows after knows knows_after (o ∷ olds) (m ∷ noted) [] news begun notes gets looks = absurd gets
  seen_each from from_is rows after knows knows_after (o ∷ olds) (m ∷ noted) (g ∷ givens) [] begun notes gets looks = absurd looks
  seen_each from from_is rows after knows knows_after (o ∷ olds) (m ∷ noted) (g ∷ givens) (n ∷ news) begun notes gets looks = (
    seen_one from from_is rows after knows knows_after o m g n begun.0 notes.0 gets.0 looks.0,
    seen_each from from_is rows after knows knows_after olds noted givens news begun.1 notes.1 gets.1 looks.1,
  )

  came_now : (b : Bool) (old new : List Came) → old ≡ (if b then calls_in past.config past.run past.history else [])
      → new ≡ (if b then came_with past.config past.run past.history e place old else old)
      → new ≡ (if b then calls_in past.config past.run (e ∷ past.history) else [])
  came_now true old new was is =
      is ∙ (ap (came_with past.config past.run past.history e place) was
      ∙ ap (λ (k : ℕ). came_with past.config past.run past.history e k (calls_in past.config past.run past.history)) here)
  came_now false old new was is = is ∙ was

  traced : (which : Selection) (doing : Doing) → doing ≡ doing_of e → (old new : ObjectTrail) → HasTraced which past old
      → Traces which (with_entry e past) place doing old new → HasTraced which (with_entry e past) new
  traced which doing is old new had traces =
      let c = past.config in
      let run = past.run in
      let h = past.history in
      let now = slot_asked which c run (e ∷ h) in
      let kept = stored_asked which c run (opened past) (e ∷ h) in
      record {
        opens = traces.opens ∙ had.opens;
        stored = traces.stored ∙ had.stored;
        slot = traces.slot;
        changes =
            traces.changes
            ∙ (ap₂ (λ (cs : List Change) (s : MapFact). cs ++ changed_with place doing (command_by (e ∷ h) doing) kept s now) had.changes had.slot
            ∙ ap₂ (λ (k : ℕ) (d : Doing). changes_in which c run (opened past) h
            ++ changed_with k d (command_by (e ∷ h) d) kept (slot_asked which c run h) now) here is);
      }

  traced_now : (doing : Doing) → doing ≡ doing_of e → (old noted new : Watch) → HasTraced old.asked past old.object → noted.asked ≡ old.asked
      → noted.object ≡ old.object → Traces noted.asked (with_entry e past) place doing noted.object new.object
      → HasTraced old.asked (with_entry e past) new.object
  traced_now doing is old noted new had asked same traces =
      traced old.asked doing is old.object new.object had
      (subst (λ (a : Selection). Traces a (with_entry e past) place doing old.object new.object) asked
      (subst (λ (o : ObjectTrail). Traces noted.asked (with_entry e past) place doing o new.object) same traces))

  pub watched : (doing : Doing) → doing ≡ doing_of e → (old noted given new : Watch) → HasWatched past old → HasNoted past e place old noted
      → HasGiven filed place noted given → HasLooked (with_entry e past) place doing given new → HasWatched (with_entry e past) new
  watched doing is old noted given new before notes gives looks =
      let all : AreBegun past e old.asked notes.begun =
      begun_each past e old.asked old.trails.items notes.begun before.each before.names
      (subst (λ (k : ℕ). Begins old.asked past k e old.trails.items notes.begun) here notes.begins) in
      let asked : given.asked ≡ old.asked = gives.asked ∙ notes.asked in
      let same : new.asked ≡ old.asked = looks.asked ∙ asked in
      let from = begun_by old.beginnings (served_with e) in
      let knows : KnowsOrigins (with_entry e past) given.origins =
      subst (λ (rows : List Origin). KnowsOrigins (with_entry e past) rows) (sym gives.origins)
      (knows_next past e place here old.origins noted.origins before.origins notes.origins) in
      record {
        origins = subst (λ (rows : List Origin). KnowsOrigins (with_entry e past) rows) (sym looks.origins) knows;
        beginnings =
            counted past e place here old.beginnings new.beginnings before.beginnings
            (subst (λ (b : Beginnings). Counts (with_entry e past) place b new.beginnings) (gives.beginnings ∙ notes.beginnings) looks.beginnings);
        names =
            named_still (Looks (with_entry e past) place given.origins) (λ o n go. go.name) given.trails.items new.trails.items looks.looks
            ∙ (named_still (Gets filed place) (λ o n go. go.name) noted.trails.items given.trails.items gives.gets
            ∙ (named_still (Notes past e place from old.origins) (λ o n go. go.name) notes.begun noted.trails.items notes.notes
            ∙ (all.names ∙ ap (λ (a : Selection). names_in a (e ∷ past.history)) (sym same))));
        each =
            All-from_recursion (HasSeen (with_entry e past)) new.trails.items
            (seen_each from (begun_is past old.beginnings before.beginnings (served_with e)) old.origins given.origins before.origins knows notes.begun noted.trails.items given.trails.items new.trails.items
            (recursion_from_All (IsBegun past e) notes.begun all.each) notes.notes gives.gets looks.looks);
        object =
            subst (λ (a : Selection). HasTraced a (with_entry e past) new.object) (sym same)
            (traced_now doing is old given new before.object asked (gives.object ∙ notes.object) looks.object);
        came =
            came_now (is_all old.asked) old.came.items new.came.items before.came (looks.came ∙ (gives.came ∙ notes.came))
            ∙ ap (λ (a : Selection). came_in a past.config past.run (e ∷ past.history)) (sym same);
      }

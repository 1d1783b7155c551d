-- A watch that has seen no entry yet.
use Rattle.std.proofs.Common.{◌≡◌, Bool, true, false, if◌then◌else◌, List, [], map, All, Option, Some, None, refl, sym, ◌∙◌, ap, subst}
use Rattle.std.proofs.lemmas.List.Elements.{All-from_recursion}
use Rattle.poa_base.specs.declared.Entry.{Entry}
use Rattle.poa_history.specs.Life.{Life, opened}
use Rattle.journal_audit.specs.declared.Refusal.{Refusal}
use Rattle.journal_explain.specs.declared.came.Came.{Came}
use Rattle.journal_explain.specs.declared.origin.Origin.{Origin}
use Rattle.journal_explain.specs.declared.trail.Trail.{Trail}
use Rattle.journal_explain.specs.declared.watch.Watch.{Watch}
use Rattle.journal_explain.specs.Explaining.{HasSeen, HasWatched, SeesWhereLegal, came_in}
use Rattle.journal_explain.specs.Naming.{is_all, names_in}
use Rattle.journal_explain.specs.Objects.{changes_in, slot_asked, stored_asked}
use Rattle.journal_explain.specs.Origins.{since_of}
use Rattle.journal_explain.specs.Serving.{begins_in, begun_in}
use Rattle.journal_explain.specs.Watching.{since_in}

abbrev no_calls : List Came
no_calls = []

none_came : (b : Bool) → (if b then no_calls else no_calls) ≡ no_calls
none_came true = refl
none_came false = refl

pub watched_first : (life : Life) (w : Watch) → life.history ≡ [] → w.trails.items ≡ [] → w.origins ≡ [] → w.came.items ≡ []
    → w.beginnings.first ≡ begun_in life.config life.run life.history → w.beginnings.count ≡ begun_in life.config life.run life.history
    → w.beginnings.rows.items ≡ [] → w.object.opens ≡ slot_asked w.asked life.config life.run life.history
    → w.object.stored ≡ stored_asked w.asked life.config life.run (opened life) life.history
    → w.object.slot ≡ slot_asked w.asked life.config life.run life.history → w.object.changes.items ≡ [] → HasWatched life w
watched_first life w new no_trails unset none first count unbegun opens stored slot unchanged = record {
  origins = λ s.
      ap (λ (rows : List Origin). since_in rows s) unset ∙ sym (ap (λ (h : List Entry). since_of life.config h s) new);
  beginnings = record {
    first = first ∙ ap (begun_in life.config life.run) new;
    count = count;
    rows = unbegun ∙ sym (ap (begins_in life.config life.run) new);
  };
  names = ap (map (λ (t : Trail). t.name)) no_trails ∙ sym (ap (names_in w.asked) new);
  each = subst (λ (ts : List Trail). All (HasSeen life) ts) (sym no_trails) (All-from_recursion (HasSeen life) [] tt);
  object = record {
    opens = opens ∙ ap (slot_asked w.asked life.config life.run) new;
    stored = stored ∙ ap (stored_asked w.asked life.config life.run (opened life)) new;
    slot = slot;
    changes = unchanged ∙ sym (ap (changes_in w.asked life.config life.run (opened life)) new);
  };
  came = none ∙ sym (ap (came_in w.asked life.config life.run) new ∙ none_came (is_all w.asked));
}

pub sees_first : (r : Option Refusal) (life : Life) (w : Watch) → HasWatched life w → SeesWhereLegal r life w
sees_first None life w watched = watched
sees_first (Some r) life w watched = tt

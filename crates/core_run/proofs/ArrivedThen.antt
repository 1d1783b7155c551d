-- A call arrives.
use Rattle.std.proofs.Common.{◌≡◌, ℕ, ◌+◌, ◌≤◌, Bool, true, false, List, [], ◌∷◌, ◌++◌, Some, None, if◌then◌else◌, refl, sym, ap, subst, ◌∙◌, length, arith}
use Rattle.poa_base.specs.declared.Call.{Call}
use Rattle.poa_base.specs.declared.Entry.{Entry}
use Rattle.poa_base.specs.declared.Entry.TheVariants.{Arrive}
use Rattle.history_standing.specs.Arrivals.{arrivals}
use Rattle.poa_history.specs.Replies.{asks, number_of}
use Rattle.core_outboxes.specs.declared.desk.Desk.{Desk}
use Rattle.core_outboxes.specs.declared.owing.Owing.{Owing}
use Rattle.core_outboxes.specs.Owed.{AreOwed}
use Rattle.poa_history.specs.Heads.{head_of}
use Rattle.core_outboxes.specs.declared.filed.Filed.{Filed}
use Rattle.core_outboxes.specs.Desk.{Files}
use Rattle.core_outboxes.proofs.DeskAfter.{new_owes, owed_with, owed_without}
use Rattle.core_run.specs.declared.inside.Inside.{Inside}
use Rattle.core_run.specs.Arriving.{row_of}
use Rattle.core_run.specs.Agrees.{Agrees, history}
use Rattle.core_run.specs.Noting.{IsNoted}
use Rattle.core_run.specs.ToCome.{stay}
use Rattle.core_run.specs.Kept.{IsKept, IsReady}
use Rattle.core_run.proofs.Space.{stay_after}
use Rattle.core_run.proofs.Keeping.{longer}
use Rattle.core_run.proofs.Filed.{filed_in}

module _ (conn size : ℕ) (call : Call) (old new : Inside) (ready : IsReady old) (noted : IsNoted (Arrive conn size call) old new) where
  abbrev e : Entry
  e = Arrive conn size call

  same_stay : stay new.tables ≡ stay old.tables
  same_stay = stay_after (history old) e old.tables new.tables refl refl ready.agrees.tables noted.tables

  space_of : (l l' many many' s s' room room' more : ℕ) → l' ≡ l + 1 → many' ≡ many + more → more ≤ 1 → s' ≡ s → room' ≡ room → l + (many + s) + 2 ≤ room
      → l' + (many' + s') + 0 ≤ room'
  space_of l l' many many' s s' room room' more a b few c d fits = omega (arith, a, b, few, c, d, fits)

  -- it asks no reply
  pub kept_unasked : asks (Some call) ≡ false → IsKept new
  kept_unasked unasked =
      record {
        agrees = subst (λ h. Agrees h new) (sym (longer e old new noted))
            (record {
              runs = noted.runs;
              state = noted.state;
              tables = noted.tables;
              filed = noted.filed;
              owed = owed_without new.config new.run new.limit
                  (history old) conn size call noted.runs.legal new.desk.owing.items noted.before.which noted.before.each unasked;
            });
        space = space_of (length old.entries.items) (length new.entries.items) old.desk.due new.desk.due
            (stay old.tables) (stay new.tables) (old.entries.capacity) (new.entries.capacity) 0 noted.len
            (none_more old.desk.due new.desk.due noted.due) (omega arith) same_stay noted.capacity ready.space;
      }
    where
      none_more : (a b : ℕ) → b ≡ a → b ≡ a + 0
      none_more a b is = omega (arith, is)

  -- it asks one, and is owed it
  pub kept_asked : (row : Owing) (desk : Desk) → row_of old.tables.tally.arrivals conn call ≡ Some row → asks (Some call) ≡ true
      → desk.owing.items ≡ new.desk.owing.items ++ row ∷ [] → ((fs : List Filed) → Files new.desk fs → Files desk fs) → desk.due ≡ new.desk.due + 1
      → IsKept (record new { desk = desk })
  kept_asked row desk is asked owing files due =
      record {
        agrees = subst (λ h. Agrees h (record new { desk = desk })) (sym (longer e old new noted))
            (record {
              runs = noted.runs;
              state = noted.state;
              tables = noted.tables;
              filed = filed_in new.desk desk files noted.filed;
              owed = subst (λ os. AreOwed new.config new.run (e ∷ history old) os) (sym owing)
                  (owed_with new.config new.run new.limit (history old) conn size call noted.runs.legal new.desk.owing.items row noted.before.which
                  noted.before.each at
                  (new_owes new.config new.run new.limit (history old) conn size call noted.runs.legal row at (sym (ap (λ (o : Owing). o.conn) it))
                  (sym (ap (λ (o : Owing). o.number) it)) (sym (ap (λ (o : Owing). o.head) it)) (sym (ap (λ (o : Owing). o.wait) it))) asked);
            });
        space = space_of (length old.entries.items) (length new.entries.items) old.desk.due desk.due
            (stay old.tables) (stay new.tables) (old.entries.capacity) (new.entries.capacity) 1 noted.len
            (due ∙ ap (λ n. n + 1) noted.due) (omega arith) same_stay noted.capacity ready.space;
      }
    where
      made : Owing
      made = record { arrival = old.tables.tally.arrivals; conn = conn; number = number_of (Some call); head = head_of (Some call); wait = None }

      it : made ≡ row
      it = (let some : Some made ≡ Some row = sym (ap (λ b. if b then Some made else None) asked) ∙ is in cc)

      at : row.arrival ≡ arrivals (history old)
      at = sym (ap (λ (o : Owing). o.arrival) it) ∙ ready.agrees.tables.tally.calls

-- the row tells whether it asks one
pub has_row : (r conn : ℕ) (call : Call) (row : Owing) → row_of r conn call ≡ Some row → asks (Some call) ≡ true
has_row r conn call row =
    by_asking (asks (Some call)) (record { arrival = r; conn = conn; number = number_of (Some call); head = head_of (Some call); wait = None })
  where
    by_asking : (b : Bool) (o : Owing) → (if b then Some o else None) ≡ Some row → b ≡ true
    by_asking true o is = refl
    by_asking false o is = absurd (let e : None ≡ Some row = is in cc)

pub has_none : (r conn : ℕ) (call : Call) → row_of r conn call ≡ None → asks (Some call) ≡ false
has_none r conn call =
    by_asking (asks (Some call)) (record { arrival = r; conn = conn; number = number_of (Some call); head = head_of (Some call); wait = None })
  where
    by_asking : (b : Bool) (o : Owing) → (if b then Some o else None) ≡ None → b ≡ false
    by_asking false o is = refl
    by_asking true o is = absurd (let e : Some o ≡ None = is in cc)

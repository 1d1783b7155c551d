-- There is room for an entry of a worker.
use Rattle.std.proofs.Common.{◌≡◌, ℕ, ◌+◌, ◌<◌, ◌≤◌, true, false, List, ◌∷◌, if◌then◌else◌, refl, sym, subst, ap, ◌∙◌, length, reverse, arith}
use Rattle.poa_base.specs.declared.Entry.{Entry}
use Rattle.poa_base.specs.declared.Entry.TheVariants.{Entered, Arrive, Filled, Left, Collect, Admit, Tried, Incarnated, Run, Done, TakeOut, Etherealized, Abandon}
use Rattle.poa_history.specs.Runs.{IsRun}
use Rattle.core_run.specs.declared.inside.Inside.{Inside}
use Rattle.core_outboxes.specs.declared.desk.Desk.{Desk}
use Rattle.core_outboxes.specs.declared.filed.Filed.{Filed}
use Rattle.core_outboxes.specs.Desk.{Files}
use Rattle.core_outboxes.specs.Owed.{AreOwed}
use Rattle.core_run.specs.declared.tables.Tables.{Tables}
use Rattle.core_run.specs.Known.{TablesAgree}
use Rattle.core_run.specs.Agrees.{Agrees, history}
use Rattle.core_run.specs.Noting.{HasRoomForEntry}
use Rattle.journal_entries.specs.Rows.{HasRoomFor}
use Rattle.core_arrivals.specs.Placed.{arrives}
use Rattle.poa_history.specs.Waiting.{may_queue}
use Rattle.core_arrivals.specs.Tallies.{HasRoomFor as HasRoomForTally}
use Rattle.core_run.specs.ToCome.{is_ending, needs_journal_alone, stay}
use Rattle.core_run.specs.Kept.{IsKept, HasSpace, needed, to_come}
use Rattle.core_run.proofs.Connected.{brief_room, some_room}
use Rattle.core_run.proofs.Endings.{by_ending}
use Rattle.core_run.proofs.Space.{stay_is, stay_ending}
use Rattle.core_run.proofs.Filed.{due_same, filed_in}

-- one that only ends what was begun has had its room since then
pub ending_room : (e : Entry) (i : Inside) → IsKept i → IsRun i.config i.run i.limit (e ∷ history i) → is_ending e ≡ true → HasRoomForEntry e i
ending_room e i kept follows ends =
    by_ending (λ x. length i.entries.items < i.entries.capacity → HasRoomForEntry x i)
    (λ w. brief_room (Done w) i refl refl refl tt) (λ w x y. brief_room (Etherealized w x y) i refl refl refl tt) e ends
    (some_room (length i.entries.items) i.desk.due (stay i.tables) (i.entries.capacity)
    (stay_ending i.config i.run i.limit (history i) e i.tables follows.legal.0 ends kept.agrees.tables) kept.space)

pub ending_space : (e : Entry) (i : Inside) → is_ending e ≡ true → HasSpace 0 i → HasSpace (needed e) i
ending_space e i ends = subst (λ b. HasSpace (if b then 0 else 2) i) (sym ends)

pub ready_space : (e : Entry) (i : Inside) → is_ending e ≡ false → HasSpace 2 i → HasSpace (needed e) i
ready_space e i begins = subst (λ b. HasSpace (if b then 0 else 2) i) (sym begins)

-- what is kept stays so where the tables have more room
pub tables_kept : (i : Inside) (t : Tables) → IsKept i → ((h : List Entry) → TablesAgree i.config i.run h i.tables → TablesAgree i.config i.run h t)
    → IsKept (record i { tables = t })
tables_kept i t kept same =
    (let a = kept.agrees in let tables = same (history i) a.tables in record {
      agrees = record { runs = a.runs; state = a.state; tables = tables; owed = a.owed; filed = a.filed };
      space = subst (λ n. length i.entries.items + (i.desk.due + n) + 0 ≤ i.entries.capacity)
          (stay_is (history i) i.tables a.tables ∙ sym (stay_is (history i) t tables)) kept.space;
    })

-- and where the desk has more room, or less
pub desk_kept : (i : Inside) (d : Desk) → IsKept i → d.owing.items ≡ i.desk.owing.items → ((fs : List Filed) → Files i.desk fs → Files d fs)
    → IsKept (record i { desk = d })
desk_kept i d kept owing files =
    (let a = kept.agrees in record {
      agrees = record {
        runs = a.runs;
        state = a.state;
        tables = a.tables;
        owed = subst (AreOwed i.config i.run (history i)) (sym owing) a.owed;
        filed = filed_in i.desk d files a.filed;
      };
      space = subst (λ n. length i.entries.items + (n + stay i.tables) + 0 ≤ i.entries.capacity) (sym (due_same i.desk d a.filed owing files)) kept.space;
    })

-- and where the journal has as much room at least
pub entries_kept : (i new : Inside) → IsKept i → Agrees (history i) new → new.entries.items ≡ i.entries.items → i.entries.capacity ≤ new.entries.capacity
    → to_come new ≡ to_come i → IsKept new
entries_kept i new kept agrees items more same =
    record {
      agrees = subst (λ (es : List Entry). Agrees (reverse es) new) (sym items) agrees;
      space = again (length i.entries.items) (to_come i) (i.entries.capacity) (length new.entries.items) (to_come new) (new.entries.capacity)
          (ap length items) same more kept.space;
    }
  where
    again : (l come room l' come' room' : ℕ) → l' ≡ l → come' ≡ come → room ≤ room' → l + come + 0 ≤ room → l' + come' + 0 ≤ room'
    again l come room l' come' room' a b c fits = omega (arith, a, b, c, fits)

-- one more entry has its room, whatever it is
pub ready_entries : (e : Entry) (i : Inside) → HasSpace 2 i → 0 < i.entries.spare → HasRoomFor e i.entries
ready_entries e i space whole = record { row = below (length i.entries.items) (to_come i) i.entries.capacity space; whole = λ _. whole }
  where
    below : (l come room : ℕ) → l + come + 2 ≤ room → l < room
    below l come room fits = omega (arith, fits)

-- and so has one that needs room in the journal alone
alone : (e : Entry) (i : Inside) → arrives e ≡ false → may_queue e ≡ false → HasRoomForTally e i.tables.tally → HasSpace 2 i → 0 < i.entries.spare
    → HasRoomForEntry e i
alone e i apart unqueued tally space whole =
    record {
      entries = ready_entries e i space whole;
      calls = λ is. absurd (let x : false ≡ true = sym apart ∙ is in cc);
      queue = λ is. absurd (let x : false ≡ true = sym unqueued ∙ is in cc);
      held = λ is. absurd (let x : false ≡ true = sym unqueued ∙ is in cc);
      tally = tally;
    }

pub alone_room : (e : Entry) (i : Inside) → needs_journal_alone e ≡ true → HasSpace 2 i → 0 < i.entries.spare → HasRoomForEntry e i
alone_room (Admit w r v) i is = alone (Admit w r v) i refl refl tt
alone_room (Run w) i is = alone (Run w) i refl refl tt
alone_room (TakeOut w n x) i is = alone (TakeOut w n x) i refl refl tt
alone_room (Tried w a) i is = absurd (let e : false ≡ true = is in cc)
alone_room (Incarnated w a) i is = absurd (let e : false ≡ true = is in cc)
alone_room (Done w) i is = absurd (let e : false ≡ true = is in cc)
alone_room (Etherealized w x y) i is = absurd (let e : false ≡ true = is in cc)
alone_room (Entered conn) i is = absurd (let e : false ≡ true = is in cc)
alone_room (Arrive conn size call) i is = absurd (let e : false ≡ true = is in cc)
alone_room (Filled conn size) i is = absurd (let e : false ≡ true = is in cc)
alone_room (Left conn) i is = absurd (let e : false ≡ true = is in cc)
alone_room (Collect conn a) i is = absurd (let e : false ≡ true = is in cc)
alone_room (Abandon w) i is = absurd (let e : false ≡ true = is in cc)

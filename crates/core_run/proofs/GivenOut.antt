-- A connection is given its next reply.
use Rattle.std.proofs.Common.{◌≡◌, ℕ, ◌+◌, ◌<◌, ◌≤◌, ◌==◌, List, length, find, Option, Some, None, option_map, refl, sym, ap, subst, ◌∙◌, arith}
use Rattle.poa_base.specs.declared.Entry.TheVariants.{Collect}
use Rattle.poa_history.specs.Replies.{next_reply}
use Rattle.history_standing.proofs.Finding.{find_in}
use Rattle.core_outboxes.specs.declared.desk.Desk.{Desk}
use Rattle.core_outboxes.specs.declared.filed.Filed.{Filed}
use Rattle.core_outboxes.specs.Owed.{AreOwed}
use Rattle.core_outboxes.specs.Decided.{AreFiled, IsFiled}
use Rattle.core_outboxes.specs.Desk.{Files, HasFiled, without_first}
use Rattle.core_outboxes.proofs.Given.{next_is}
use Rattle.core_outboxes.proofs.Removed.{left_which, left_in}
use Rattle.core_run.specs.declared.inside.Inside.{Inside}
use Rattle.core_run.specs.Agrees.{history, opened_in}
use Rattle.core_run.specs.Noting.{HasRoomForEntry, IsNoted}
use Rattle.core_run.specs.ToCome.{stay}
use Rattle.core_run.specs.Kept.{IsKept, HasSpace, IsQuiet}
use Rattle.core_run.proofs.Connected.{brief_room}
use Rattle.core_run.proofs.Space.{stay_after}
use Rattle.core_run.proofs.Keeping.{kept_then, at_most}
use Rattle.core_run.proofs.Ready.{desk_kept}
use Rattle.core_outboxes.proofs.Taken.{none_taken, one_taken}

-- the desk after its first reply of the connection was given out, if there was one
pub record IsGiven (conn : ℕ) (result : Option Filed) (old new : Desk) : Type 0 where
  pub given : (fs : List Filed) → Files old fs → result ≡ find (λ f. f.conn == conn) fs
  pub files : (fs : List Filed) → Files old fs → Files new (without_first conn fs)
  pub owing : new.owing.items ≡ old.owing.items

module _ (conn : ℕ) (i : Inside) (kept : IsKept i) (result : Option Filed) (desk : Desk) (given : IsGiven conn result i.desk desk) where
  abbrev then_ : Inside
  then_ = record i { desk = desk }

  abbrev filed : HasFiled (AreFiled i.config i.run (opened_in i) (history i)) i.desk
  filed = kept.agrees.filed

  pub owed_still : AreOwed i.config i.run (history i) desk.owing.items
  owed_still = subst (AreOwed i.config i.run (history i)) (sym given.owing) kept.agrees.owed

  -- there was none
  module _ (none : result ≡ None) where
    none_found : (fs : List Filed) → Files i.desk fs → find (λ (f : Filed). f.conn == conn) fs ≡ None
    none_found fs files = sym (given.given fs files) ∙ none

    pub kept_without : IsKept then_
    kept_without =
        desk_kept i desk kept given.owing
        (λ fs files. subst (Files desk) (none_taken (λ (f : Filed). f.conn == conn) fs (none_found fs files)) (given.files fs files))

    pub none_next : next_reply i.config i.run (history i) conn ≡ None
    none_next =
        next_is i.config i.run (opened_in i) (history i) filed.replies conn filed.holds
        ∙ ap (option_map (λ (f : Filed). f.arrival)) (none_found filed.replies filed.files)

  -- there was this one
  module _ (f : Filed) (some : result ≡ Some f) where
    found : find (λ (f : Filed). f.conn == conn) filed.replies ≡ Some f
    found = sym (given.given filed.replies filed.files) ∙ some

    less_due : (due due' owing owing' many many' : ℕ) → due ≡ owing + many → due' ≡ owing' + many' → owing' ≡ owing → many' + 1 ≡ many
        → due' + 1 ≡ due
    less_due due due' owing owing' many many' x y a b = omega (arith, x, y, a, b)

    one_less : desk.due + 1 ≡ i.desk.due
    one_less =
        less_due i.desk.due desk.due (length i.desk.owing.items) (length desk.owing.items) (length filed.replies) (length (without_first conn filed.replies))
        filed.files.due (given.files filed.replies filed.files).due (ap length given.owing)
        (one_taken (λ (f : Filed). f.conn == conn) f filed.replies found)

    space_of : (l due due' s room : ℕ) → due' + 1 ≡ due → l + (due + s) + 0 ≤ room → l + (due' + s) + 1 ≤ room
    space_of l due due' s room a fits = omega (arith, a, fits)

    pub space_for_one : HasSpace 1 then_
    space_for_one = space_of (length i.entries.items) i.desk.due desk.due (stay i.tables) (i.entries.capacity) one_less kept.space

    below : (l due s room : ℕ) → l + (due + s) + 1 ≤ room → l < room
    below l due s room fits = omega (arith, fits)

    pub collect_room : HasRoomForEntry (Collect conn f.arrival) then_
    collect_room =
        brief_room (Collect conn f.arrival) then_ refl refl refl tt
        (below (length i.entries.items) desk.due (stay i.tables) (i.entries.capacity) space_for_one)

    pub next_here : next_reply i.config i.run (history i) conn ≡ Some f.arrival
    next_here =
        next_is i.config i.run (opened_in i) (history i) filed.replies conn filed.holds ∙ ap (option_map (λ (f : Filed). f.arrival)) found

    pub collect_quiet : IsQuiet (history i) (Collect conn f.arrival) then_
    collect_quiet =
        (let agrees = kept.agrees in let runs = agrees.runs in record {
          follows = record { accepted = runs.accepted; numbered = runs.numbered; limited = runs.limited; legal = (next_here, runs.legal) };
          still = refl;
          state = agrees.state;
          tables = agrees.tables;
          owed = owed_still;
          left = record {
            replies = without_first conn filed.replies;
            files = given.files filed.replies filed.files;
            holds = record {
              which = left_which i.config i.run (opened_in i) (history i) filed.replies conn f filed.holds found;
              each = λ g there. filed.holds.each g (left_in conn filed.replies g there);
            };
          };
        })

    pub filed_here : IsFiled i.config i.run (opened_in i) (history i) f
    filed_here = filed.holds.each f (find_in (λ (f : Filed). f.conn == conn) f filed.replies found).0

    pub kept_with : (new : Inside) → IsNoted (Collect conn f.arrival) then_ new → IsKept new
    kept_with new noted =
        kept_then 1 (Collect conn f.arrival) then_ new noted refl
        (at_most (stay new.tables) (stay i.tables) 1
        (stay_after (history i) (Collect conn f.arrival) i.tables new.tables refl refl kept.agrees.tables noted.tables) (omega arith)) space_for_one

-- A worker's turns that another makes by a seat of his own.
use Rattle.std.proofs.Common.{◌≡◌, ℕ, List, [], ◌∷◌, ◌++◌, reverse, Some, None, Result, Ok, Err, sym, ap, ◌∙◌}
use Rattle.std.specs.Prelude.{Option}
use Rattle.std.proofs.lemmas.List.{append-nil, length-reverse, reverse-reverse}
use Rattle.std.specs.declared.alloc.AllocError.{AllocError}
use Rattle.poa_base.specs.declared.Entry.{Entry}
use Rattle.poa_core.specs.declared.step_out.StepOut.{StepOut}
use Rattle.poa_core.specs.declared.step_out.StepOut.TheVariants as step_out
use Rattle.poa_shared.specs.Events.{Event, StepsRunning}
use Rattle.poa_shared.specs.Seen.{past, Turns}
use Rattle.poa_shared.specs.Helping.{Aids, Helps, IsHelpAt, SeatOf}
use Rattle.poa_shared.proofs.Making.{call_none, call_one, makes_none, makes_through}
use Rattle.poa_shared.proofs.Seeing.{seen_one}
use Rattle.poa_shared.proofs.Steps.{turn_own, IsOf}
use Rattle.poa_history.specs.declared.givens.Givens.{Givens}
use Rattle.poa_history.specs.Phases.{phase_of}
use Rattle.poa_history.specs.declared.phase.Phase.TheVariants.{Running}
use Rattle.seat_lock.specs.Histories.{IsPrefix}
use Rattle.seat_lock.specs.Seats.{view}
use Rattle.seat_lock.specs.declared.view.View.{View}
use Rattle.seat_lock.proofs.Histories.{prefix_through}

abbrev IsHelp : List Entry → List ℕ → ℕ → Type 0
IsHelp log made place = IsHelpAt log place

pub helps_none : (v : View Givens Entry) → Helps v v
helps_none = makes_none IsHelp

-- a help is one in a longer journal too
pub help_stays : (short long : List Entry) (place : ℕ) → IsPrefix short long → IsHelpAt short place → IsHelpAt long place
help_stays short long place p t = record {
  before = t.before;
  entry = t.entry;
  stands = prefix_through (t.before ++ t.entry ∷ []) short long t.stands p;
  place_is = t.place_is;
  own = t.own;
  going = t.going;
  running = t.running;
}

helps_through : (u v w : View Givens Entry) → Helps u v → Helps v w → Helps u w
helps_through u v w a b =
    makes_through IsHelp IsHelp IsHelp u v w a b (λ place help. help_stays v.seen w.seen place b.grows help) (λ place low help. help)

module _ (g : Givens) (v w : View Givens Entry) (h : List Entry) (t : Turns g v h w) where
  help_none : past w ≡ h → Helps v w
  help_none = call_none IsHelp g v w h t

  help_one : (e : Entry) → past w ≡ e ∷ h → IsOf 0 e → phase_of h ≡ Running → Helps v w
  help_one e is own running = call_one IsHelp g v w h t e is
      (record {
        before = reverse h;
        entry = e;
        stands = ([], seen_one g v w h t e is ∙ sym (append-nil (reverse h ++ e ∷ [])));
        place_is = sym (length-reverse h);
        own = own.0;
        going = own.1;
        running = ap phase_of (reverse-reverse h) ∙ running;
      })

-- whatever a step answers, it made a turn or nothing
step_helps : (r : Option (Result StepOut AllocError)) (g : Givens) (v w : View Givens Entry) → v.givens ≡ Some g
    → Event (λ old new. StepsRunning 0 old r new) v w → Helps v w
step_helps None g v w given ev = (let it = ev g given in help_none g v w it.0 it.1 (ap (λ l. l.history) it.2.1))
step_helps (Some (Ok step_out.Stopped)) g v w given ev = (let it = ev g given in help_none g v w it.0 it.1 (ap (λ l. l.history) it.2.1.1))
step_helps (Some (Ok (step_out.Idle over))) g v w given ev = (let it = ev g given in help_none g v w it.0 it.1 (ap (λ l. l.history) it.2.1.3))
step_helps (Some (Ok (step_out.Did point))) g v w given ev =
    (let it = ev g given in let one = it.2.1.2 in
    help_one g v w it.0 it.1 one.0 (ap (λ l. l.history) one.2) (turn_own g.config g.run it.0 0 one.0 one.1) it.2.0)
step_helps (Some (Err fault)) g v w given ev = (let it = ev g given in help_none g v w it.0 it.1 (ap (λ l. l.history) it.2.1.2))

-- a step after the turns so far
pub steps_on : (r : Option (Result StepOut AllocError)) (u v w : View Givens Entry) → ((g : Givens) → u.givens ≡ Some g → Helps u v)
    → Event (λ old new. StepsRunning 0 old r new) v w → (g : Givens) → u.givens ≡ Some g → Helps u w
steps_on r u v w so_far ev g given = (let old = so_far g given in helps_through u v w old (step_helps r g v w (old.given ∙ given) ev))

pub aids_none : (a : Option SeatOf) → Aids a a
aids_none (Some s) = λ g given. helps_none (view s)
aids_none None = tt

pub aids_through : (a b c : Option SeatOf) → Aids a b → Aids b c → Aids a c
aids_through (Some a) (Some b) (Some c) x y = λ g given. (let one = x g given in helps_through (view a) (view b) (view c) one (y g (one.given ∙ given)))
aids_through (Some a) (Some b) None x y = absurd y
aids_through (Some a) None c x y = absurd x
aids_through None (Some b) c x y = absurd x
aids_through None None (Some c) x y = absurd y
aids_through None None None x y = tt

-- The turns of workers, as the player takes them.
use Rattle.std.proofs.Common.{◌≡◌, ℕ, suc, ◌+◌, ◌<◌, ◌≤◌, Bool, true, false, ◌||◌, List, [], ◌∷◌, ◌++◌, Option, Some, Result, Ok, Err, refl, sym, ap, ◌∙◌, subst, arith, add-one, nat_lt}
use Rattle.std.specs.Prelude.{OnOk, option_map, reverse}
use Rattle.std.specs.List.{slice_get}
use Rattle.std.proofs.lemmas.Bool.Decides.{nat_tests}
use Rattle.std.proofs.lemmas.List.{reverse-reverse}
use Rattle.poa_base.specs.declared.Entry.{Entry}
use Rattle.poa_history.specs.Life.{Life}
use Rattle.replay_run.specs.declared.player.Player.{Player}
use Rattle.replay_run.specs.Lines.{entry_line, idle_line}
use Rattle.replay_run.specs.Working.{Turns, makes, idles, Runs, runs_out, runs_on, RunsBelow, Rests, rested, settles_on, IsIdle, AllIdle, ByWorker, Either, is_worker, Stays}
use Rattle.replay_run.specs.Effects.{Works, MakesOne, Moved, Takes}
use Rattle.replay_run.proofs.PlayedOnward.{Onward, works_join, works_end, works_still, works_onward}

-- an entry that was made, in front of a run
pub made_onward : (w : ℕ) (old new : Player) → MakesOne w old new → Works (Onward (Runs w)) old new
made_onward w old new m = record {
  text = entry_line m.entry;
  printed = m.printed;
  does = λ more last r. runs_on old.core m.entry more last m.makes (subst (λ (l : Life). Runs w l more last) m.life r);
  filled = m.filled;
  turned_away = m.turned_away;
}

-- an entry that was made, alone
pub made_turn : (w : ℕ) (old new : Player) → MakesOne w old new → Works (Turns w) old new
made_turn w old new m = record {
  text = entry_line m.entry;
  printed = m.printed;
  does = makes m.entry m.makes refl m.life;
  filled = m.filled;
  turned_away = m.turned_away;
}

-- what a worker below 16 does
pub by_worker : (P : ℕ → Life → List ℕ → Life → Type 0) (w : ℕ) (old new : Player) → w < 16 → Works (P w) old new → Works (ByWorker P w) old new
by_worker P w old new less p =
    let is : is_worker w ≡ true = grind (arith, nat_tests) in
    record {
      text = p.text;
      printed = p.printed;
      does = subst (λ (b : Bool). Either b (P w) Stays old.core p.text new.core) (sym is) p.does;
      filled = p.filled;
      turned_away = p.turned_away;
    }

-- there are no more workers
pub no_worker : (P : ℕ → Life → List ℕ → Life → Type 0) (w : ℕ) (old : Player) → 16 ≤ w → Works (ByWorker P w) old old
no_worker P w old more =
    let is : is_worker w ≡ false = grind (arith, nat_tests) in
    works_still (ByWorker P w) old old refl
    (subst (λ (b : Bool). Either b (P w) Stays old.core [] old.core) (sym is) (refl, refl))

-- whether a worker made an entry, where it has none to make now
pub moved_end : (b : Bool) (w : ℕ) (old now new : Player) → (b ≡ false → now ≡ old) → IsIdle now.core w → new ≡ now → Moved b (λ life. IsIdle life w) old new
moved_end true w old now new still idle same = tt
moved_end false w old now new still idle same = (subst (λ (p : Player). IsIdle p.core w) (still refl) idle, same ∙ still refl)

pub runs_end : (w : ℕ) (old now new : Player) → Works (Onward (Runs w)) old now → IsIdle now.core w → new ≡ now → Works (Runs w) old new
runs_end w old now new p idle same = works_end (Runs w) old now new p (works_still (Runs w) now new same (runs_out now.core idle))

-- one worker more
pub round_more : (w : ℕ) (a b c : Player) → Works (RunsBelow w) a b → Works (Runs w) b c → Works (RunsBelow (w + 1)) a c
round_more w a b c p q =
    let here : Works (RunsBelow (suc w)) a c = works_join (RunsBelow w) (Runs w) (RunsBelow (suc w)) a b c
    (λ s t p q. record { between = b.core; front = s; rest = t; first = p; second = q; joined = refl }) p q in
    subst (λ (n : ℕ). Works (RunsBelow n) a c) (sym (add-one w)) here

pub neither : (a b : Bool) → (a || b) ≡ false → (a ≡ false) × (b ≡ false)
neither true b e = absurd (let f : true ≡ false = e in cc)
neither false b e = (refl, e)

moved_not : (b : Bool) (Idle : Life → Type 0) (old new : Player) → b ≡ false → Moved b Idle old new → Idle old.core × (new ≡ old)
moved_not true Idle old new e m = absurd (let f : true ≡ false = e in cc)
moved_not false Idle old new e m = m

pub still_more : (a b : Bool) (Idle : Life → Type 0) (old now new : Player) → (a ≡ false → now ≡ old) → Moved b Idle now new → (a || b) ≡ false → new ≡ old
still_more a b Idle old now new still m none = (moved_not b Idle now new (neither a b none).1 m).1 ∙ still (neither a b none).0

idle_by : (v w : ℕ) (old : Player) → v < w + 1 → ((u : ℕ) → u < w → IsIdle old.core u) → IsIdle old.core w → (b : Bool) → nat_lt v w ≡ b → IsIdle old.core v
idle_by v w old less before here true is = before v (grind (arith, nat_tests))
idle_by v w old less before here false is = (let same : w ≡ v = grind (arith, nat_tests) in subst (λ u. IsIdle old.core u) same here)

pub idle_more : (a b : Bool) (w : ℕ) (old now new : Player) → (a ≡ false → now ≡ old) → (a ≡ false → (u : ℕ) → u < w → IsIdle old.core u)
    → Moved b (λ life. IsIdle life w) now new
    → (a || b) ≡ false → (v : ℕ) → v < w + 1 → IsIdle old.core v
idle_more a b w old now new still before m none v less =
    let not_a : a ≡ false = (neither a b none).0 in
    let here : IsIdle now.core w = (moved_not b (λ life. IsIdle life w) now new (neither a b none).1 m).0 in
    idle_by v w old less (before not_a) (subst (λ (p : Player). IsIdle p.core w) (still not_a) here) (nat_lt v w) refl

-- whether any worker made an entry
pub moved_all : (b : Bool) (old new : Player) → (b ≡ false → new ≡ old) → (b ≡ false → (w : ℕ) → w < 16 → IsIdle old.core w) → Moved b AllIdle old new
moved_all true old new still idle = tt
moved_all false old new still idle = (idle refl, still refl)

-- a round in front of the others
round_onward : (a b : Player) → Works (RunsBelow 16) a b → Works (Onward Rests) a b
round_onward a b p = record {
  text = p.text;
  printed = p.printed;
  does = λ more last r. settles_on a.core b.core last p.text more p.does r;
  filled = p.filled;
  turned_away = p.turned_away;
}

pub settles_more : (a b c : Player) → Works (Onward Rests) a b → Works (RunsBelow 16) b c → Works (Onward Rests) a c
settles_more a b c p q = works_onward Rests a b c p (round_onward b c q)

-- a round in which nothing was to be done
pub settles_end : (a b c : Player) (moved : Bool) → Works (Onward Rests) a b → moved ≡ false → Moved moved AllIdle b c → Works Rests a c
settles_end a b c moved p none m =
    let over : AllIdle b.core × (c ≡ b) = moved_not moved AllIdle b c none m in
    works_end Rests a b c p (works_still Rests b c over.1 (rested b.core over.0))

pub takes_true : (b : Bool) (w : ℕ) (old new : Player) → b ≡ true → Takes b w old new → MakesOne w old new
takes_true true w old new e t = t
takes_true false w old new e t = absurd (let f : false ≡ true = e in cc)

pub takes_false : (b : Bool) (w : ℕ) (old new : Player) → b ≡ false → Takes b w old new → IsIdle old.core w × (new ≡ old)
takes_false true w old new e t = absurd (let f : true ≡ false = e in cc)
takes_false false w old new e t = t

-- a worker that is idle, and that printed
pub idle_told : (w : ℕ) (old mid new : Player) → w < 16 → IsIdle old.core w → mid ≡ old → new.core ≡ mid.core
    → new.printed.items ≡ mid.printed.items ++ idle_line w
    → new.filled ≡ mid.filled → new.turned_away ≡ mid.turned_away → Works (ByWorker Turns w) old new
idle_told w old mid new less idle same core printed filled away = by_worker Turns w old new less (record {
  text = idle_line w;
  printed = printed ∙ ap (λ (p : Player). p.printed.items ++ idle_line w) same;
  does = idles idle refl (core ∙ ap (λ (p : Player). p.core) same);
  filled = filled ∙ ap (λ (p : Player). p.filled) same;
  turned_away = away ∙ ap (λ (p : Player). p.turned_away) same;
})

-- the newest entry of a journal is that of its history
newest : {V : Type 0} (seen : V → Entry) (found : Option V) (view : V) (items h : List Entry) (e : Entry) (past : List Entry) → items ≡ reverse h
    → option_map seen found ≡ slice_get (reverse items) 0 → found ≡ Some view → h ≡ e ∷ past → seen view ≡ e
newest seen found view items h e past listed is at ends =
    let same : Some (seen view) ≡ Some e =
    sym (ap (option_map seen) at)
    ∙ is
    ∙ ap (λ (xs : List Entry). slice_get (reverse xs) 0) listed
    ∙ ap (λ (xs : List Entry). slice_get xs 0) (reverse-reverse h ∙ ends) in
    cc

-- the line of the newest entry was printed
pub newest_printed : {V T E : Type 0} (r : Result T E) (seen : V → Entry) (found : Option V) (view : V) (items h : List Entry) (entry : Entry)
    (before after : List ℕ) → items ≡ reverse h → option_map seen found ≡ slice_get (reverse items) 0 → found ≡ Some view → entry ≡ seen view
    → OnOk r (after ≡ before ++ entry_line entry)
    → OnOk r ((e : Entry) (past : List Entry) → h ≡ e ∷ past → after ≡ before ++ entry_line e)
newest_printed (Ok x) seen found view items h entry before after listed is at made printed =
    λ e past ends. printed ∙ ap (λ (one : Entry). before ++ entry_line one) (made ∙ newest seen found view items h e past listed is at ends)
newest_printed (Err x) seen found view items h entry before after listed is at made printed = tt

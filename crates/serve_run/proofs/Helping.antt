-- What lanes made in the first worker's stead.
use Rattle.std.proofs.Common.{◌≡◌, ℕ, ◌≤◌, ◌<◌, Bool, true, false, List, [], ◌∷◌, ◌++◌, length, reverse, Option, Some, None, refl, sym, ap, ◌∙◌, subst, inl, inr, ◌⊎◌, ⊎_elim, arith}
use Rattle.std.proofs.lemmas.Bool.{cases_lt, true≢false}
use Rattle.std.proofs.lemmas.List.{reverse-reverse}
use mathlib.Core.Option.{some}
use lib.ListN.{get_elem?}
use Rattle.poa_base.specs.declared.Entry.{Entry}
use Rattle.poa_base.specs.declared.Entry.TheVariants.{Abandon}
use Rattle.poa_history.specs.Legal.{is_filled}
use Rattle.poa_shared.specs.Helping.{Helps, IsHelpAt}
use Rattle.poa_shared.proofs.Helped.{help_stays}
use Rattle.poa_shared.proofs.Making.{makes_all}
use Rattle.poa_history.specs.declared.givens.Givens.{Givens}
use Rattle.poa_history.specs.Owners.{worker_of}
use Rattle.poa_history.specs.Leaving.{is_shut}
use Rattle.poa_history.specs.Phases.{first_abandoned, phase_by}
use Rattle.poa_history.specs.declared.phase.Phase.TheVariants.{Running, Shut, Abandoned}
use Rattle.seat_lock.specs.declared.view.View.{View}
use Rattle.seat_lock.specs.Histories.{In, IsPrefix}
use Rattle.seat_lock.proofs.Calls.{at_prefix}
use Rattle.seat_lock.proofs.Histories.{prefix_shorter, prefix_through}
use Rattle.seat_lock.proofs.Lists.{at_last}
use Rattle.seat_lock.proofs.Totals.{at_below, one_at}
use Rattle.serve_run.specs.Ledgers.{Ledger}
use Rattle.serve_run.proofs.Growing.{Adds}
use Rattle.serve_run.proofs.Places.{stood_before}
use Rattle.serve_run.specs.Holding.{HasTurnsOf}
use Rattle.serve_run.specs.Tours.{IsWorkersAt}
use Rattle.serve_run.proofs.Lasting.{shut_behind}
use Rattle.serve_run.proofs.Numbers.{here_in, no_worker}

-- a run that is running isn't shut
running_open : (first : Option ℕ) (shut filled : Bool) → phase_by first shut filled ≡ Running → shut ≡ false
running_open (Some w) shut filled is = absurd (let e : Abandoned w ≡ Running = is in cc)
running_open None true filled is = absurd (let e : Shut ≡ Running = is in cc)
running_open None false true is = refl
running_open None false false is = refl

module _ (log : List Entry) (place : ℕ) (help : IsHelpAt log place) where
  pub help_stands : get_elem? log place ≡ some help.entry
  help_stands = at_prefix (help.before ++ help.entry ∷ []) log place help.entry help.stands (at_last help.before help.entry place (sym help.place_is))

  help_is : (e : Entry) → get_elem? log place ≡ some e → help.entry ≡ e
  help_is e at = one_at log place help.entry e help_stands at

  -- it is one of the first worker, and not its Abandon
  pub help_first : (e : Entry) (w : ℕ) → get_elem? log place ≡ some e → worker_of e ≡ Some w → w ≡ 0
  help_first e w at works = (let same : Some w ≡ Some 0 = sym works ∙ (ap worker_of (sym (help_is e at)) ∙ help.own) in cc)

  pub help_going : (w : ℕ) → get_elem? log place ≡ some (Abandon w) → ⊥
  help_going w at = (let zero : w ≡ 0 = help_first (Abandon w) w at refl in help.going (help_is (Abandon w) at ∙ ap Abandon zero))

  -- it was made before a `shutdown` was admitted
  pub help_early : (stood : List Entry) → IsPrefix stood log → is_shut (reverse stood) ≡ true → place < length stood
  help_early stood p shut = ⊎_elim
      (λ (less : place < length stood). less)
      (λ (far : length stood ≤ place). absurd
      (let longer : length stood ≤ length help.before = (let at = help.place_is in omega arith) in
      let before : IsPrefix help.before log = prefix_through help.before (help.before ++ help.entry ∷ []) log (help.entry ∷ [], refl) help.stands in
      let inside : IsPrefix stood help.before = prefix_shorter stood help.before log p before longer in
      let shut_then : is_shut (reverse help.before) ≡ true =
      shut_behind stood shut (reverse help.before) (subst (IsPrefix stood) (sym (reverse-reverse help.before)) inside) in
      true≢false
      (sym shut_then ∙ running_open (first_abandoned (reverse help.before)) (is_shut (reverse help.before)) (is_filled (reverse help.before)) help.running)))
      (cases_lt place (length stood))

-- the turns of a seat that adds these places to what it made
pub turns_more : (v j : View Givens Entry) (made : List ℕ) (adds : Adds v j made) (few many : List ℕ) → ((w : ℕ) → In w few → In w many)
    → ((place w : ℕ) → In place made → IsWorkersAt w j.seen place → In w many ⊎ IsHelpAt j.seen place) → HasTurnsOf few v → HasTurnsOf many j
turns_more v j made adds few many more new old place w there own = ⊎_elim
    (λ (i : In place v.mine). ⊎_elim
    (λ (a : In w few). inl (more w a))
    (λ (help : IsHelpAt v.seen place). inr (help_stays v.seen j.seen place adds.grows help))
    (old place w i
    (record { entry = own.entry; stands = stood_before v.seen j.seen place own.entry adds.grows (adds.within place i) own.stands; own = own.own })))
    (λ (i : In place made). new place w i own)
    (adds.either place there)

-- the seat of an aid made turns of the first worker alone
module _ (first u : View Givens Entry) (fresh : first.mine ≡ []) (helps : Helps first u) where
  pub help_at : (place : ℕ) → In place u.mine → IsHelpAt u.seen place
  help_at = makes_all (λ log made place. IsHelpAt log place) first u fresh helps

  pub ledger_helped : Ledger [] (0 ∷ []) u
  ledger_helped = record {
    explained = λ place there. (let it = help_at place there in
        record { entry = it.entry; stands = help_stands u.seen place it; of = inr (0, here_in 0, it.own) });
    closed = λ place c there b. absurd
        (let it = help_at place there in
        no_worker b.0 c 0 b.2 (ap worker_of (one_at u.seen place b.0 it.entry b.1 (help_stands u.seen place it)) ∙ it.own));
    within = λ place there. (let it = help_at place there in at_below u.seen place it.entry (help_stands u.seen place it));
    owned = λ c there. absurd (omega arith);
    once = λ c. omega arith;
  }

-- A worker that has nothing begun makes no entry where no arrival waits and no activation is on its way in or out.
use Rattle.std.proofs.Common.{◌≡◌, ℕ, ◌+◌, ◌<◌, zero, suc, Bool, true, false, not, ◌&&◌, List, [], ◌∷◌, find, Option, Some, None, option_map, nat_lt, cond, if◌then◌else◌, arith, inl, inr, refl, sym, ap, ap₂, ◌∙◌}
use Rattle.std.specs.List.{list_any}
use Rattle.std.specs.Option.{option_or}
use Rattle.std.proofs.lemmas.Bool.{and_parts, cases_Bool, cond_both, ltb-true, ltb-false, not-false, or_parts}
use Rattle.poa_base.specs.declared.Config.{Config}
use Rattle.poa_base.specs.declared.Entry.TheVariants.{Admit, TakeOut}
use Rattle.history_standing.specs.declared.activation.Activation.{Activation}
use Rattle.history_standing.specs.declared.stage.Stage.TheVariants.{Free}
use Rattle.history_standing.specs.Arrivals.{arrivals}
use Rattle.history_standing.specs.Searches.{count_below}
use Rattle.history_standing.specs.Stages.{stage, is_unadmitted}
use Rattle.history_standing.specs.Standings.{Standing}
use Rattle.poa_history.specs.Turns.{admission_of, is_due, next_of, turn}
use Rattle.poa_history.specs.Verdicts.{verdict}
use Rattle.active_map.specs.Tables.{is_leaving, is_moving}
use Rattle.active_map.proofs.Moving.{still_lasts}
use Rattle.core_arrivals.proofs.Firsts.{given_none}
use Rattle.core_standing.specs.Seen.{seen}
use Rattle.core_standing.proofs.Behind.{find_behind}
use Rattle.core_state.proofs.Stated.{answers_state}
use Rattle.core_turns.proofs.Due.{due_leaves}
use Rattle.core_run.specs.Agrees.{history, opened_in}
use Rattle.core_run.specs.Kept.{IsKept}
use Rattle.core_run.specs.declared.inside.Inside.{Inside}

one_more : (b : Bool) → b ≡ true → ◌≡◌ {A = ℕ} (if b then 1 else 0) 1
one_more true is = refl
one_more false is = absurd (let e : false ≡ true = is in cc)

-- where no number below a bound passes, none of them does
none_counted : (test : ℕ → Bool) (n : ℕ) → count_below test n ≡ 0 → (r : ℕ) → r < n → test r ≡ false
none_counted test zero none r less = absurd (omega (arith, less))
none_counted test (suc n) none r less =
    elim (cases_Bool (nat_lt r n)) [
      | inl low ↦
          (let sum : count_below test n + (if test n then 1 else 0) ≡ 0 = none in
          let before : count_below test n ≡ 0 = omega (arith, sum) in
          none_counted test n before r (ltb-true r n low))
      | inr high ↦
          (let above = ltb-false r n high in
          let same : r ≡ n = omega (arith, above, less) in
          ap test same ∙ last (test n) refl)
    ]
  where
    last : (b : Bool) → test n ≡ b → test n ≡ false
    last false is = is
    last true is =
        (let sum : count_below test n + (if test n then 1 else 0) ≡ 0 = none in
        let one = one_more (test n) is in
        absurd (omega (arith, sum, one)))

-- an activation that isn't on its way in or out isn't to be taken out
not_due : (c : Config) (s : Standing) (a : Activation) → is_moving a ≡ false → is_due c s a ≡ false
not_due c s a still =
    elim (cases_Bool (is_due c s a)) [
      | inl due ↦ absurd (let e : true ≡ false = sym (leaves (due_leaves c s a due)) ∙ still_lasts a still in cc)
      | inr not_so ↦ not_so
    ]
  where
    leaves : is_leaving a ≡ true → a.ending ≡ true
    leaves is = (and_parts a.ending (not a.out) is).0

not_any : (b : Bool) → not b ≡ true → b ≡ false
not_any false is = refl
not_any true is = absurd (let e : false ≡ true = is in cc)

none_due : (c : Config) (s : Standing) (kept : List Activation) → not (list_any is_moving kept) ≡ true → find (is_due c s) kept ≡ None
none_due c s kept still = none_in kept (not_any (list_any is_moving kept) still)
  where
    none_in : (kept : List Activation) → list_any is_moving kept ≡ false → find (is_due c s) kept ≡ None
    none_in [] none = refl
    none_in (a ∷ kept) none =
        (let apart = or_parts (is_moving a) (list_any is_moving kept) none in
        ap (λ b. cond b (Some a) (find (is_due c s) kept)) (not_due c s a apart.0) ∙ none_in kept apart.1)

module _ (i : Inside) (w : ℕ) (kept : IsKept i) where
  pub idle_next : stage (history i) w ≡ Free → count_below (is_unadmitted (history i)) (arrivals (history i)) ≡ 0
      → not (list_any is_moving i.state.standing.activations.kept) ≡ true → turn i.config i.run (history i) w ≡ None
  unfolding turn
  idle_next free none still =
      (let h = history i in
      let agrees = kept.agrees in
      let stands = answers_state i.config i.run i.limit (opened_in i) h i.state agrees.runs agrees.state in
      let held = i.state.standing.activations in
      ap (next_of i.config i.run h w) free
      ∙ ap₂ option_or
      (sym (stands.removal w)
      ∙ ap (option_map (λ (a : Activation). TakeOut w a.number (not a.quiet)))
      (find_behind (is_due i.config (seen i.state.standing)) refl held.forgotten held.kept
      ∙ none_due i.config (seen i.state.standing) held.kept still))
      (given_none (admission_of i.config i.run h w) (arrivals h) (λ r low.
      cond_both (is_unadmitted h r) (option_map (λ v. Admit w r v) (verdict i.config i.run h r w)) None (λ o. o ≡ None)
      (λ is. absurd (let e : true ≡ false = sym is ∙ none_counted (is_unadmitted h) (arrivals h) none r low in cc)) (λ _. refl))))

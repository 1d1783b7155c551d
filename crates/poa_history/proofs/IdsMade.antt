-- The next system-made id is new.
use Rattle.std.specs.Prelude.{◌≡◌, ℕ, suc, ◌^◌, ◌<◌, true, not, ◌&&◌, ◌||◌, ◌==◌, nat_lt, List, take, drop, length, refl}
use Rattle.std.specs.Int.{w32, from_be_bytes}
use Rattle.std.proofs.Common.{inl, inr, sym, ap, ap₂, ◌∙◌, arith}
use Rattle.std.proofs.lemmas.Bool.{cases_Bool, and_parts, or_cases, false_from_ne_true, true≢false, eq-eqb, eqb-true, lt-ltb, ltb-true}
use Rattle.std.proofs.lemmas.Nat.{from_be_bytes-to_be_bytes_4}
use Rattle.poa_base.specs.declared.Config.{Config}
use Rattle.history_standing.specs.Templates.{policies_at, makes_ids}
use Rattle.history_standing.specs.Standings.{Standing}
use Rattle.history_standing.specs.Ends.{is_over}
use Rattle.history_standing.specs.Opening.{made_id}
use Rattle.history_standing.specs.Commands.{is_bad_id}
use Rattle.poa_history.specs.Sound.{IsSound}
use Rattle.poa_history.proofs.SettledKept.{or_second}
use Rattle.poa_history.proofs.CommandMoves.{FreshIds, NextFits}

made_run : (run ordinal : ℕ) → run < 2 ^ 32 → from_be_bytes w32 (take 4 (made_id run ordinal)) ≡ run
made_run run ordinal small = from_be_bytes-to_be_bytes_4 run small

made_ordinal : (run ordinal : ℕ) → ordinal < 2 ^ 32 → from_be_bytes w32 (drop 4 (made_id run ordinal)) ≡ ordinal
made_ordinal run ordinal small = from_be_bytes-to_be_bytes_4 ordinal small

made_long : (run ordinal : ℕ) → length (made_id run ordinal) ≡ 8
made_long run ordinal = refl

-- an id whose ordinal wasn't made yet is none that the adapter has
not_yet : (c : Config) (run made : ℕ) (p : List (List ℕ)) → run < 2 ^ 32 → suc made < 2 ^ 32 → makes_ids (policies_at c p) ≡ true
    → is_bad_id c run made p (made_id run (suc made)) ≡ true
not_yet c run made p small_run small makes =
    let later : nat_lt made (suc made) ≡ true = lt-ltb _ _ (omega arith) in
    ap₂ (λ a b. a && b) makes
    (or_second (not (length (made_id run (suc made)) == 8))
    ((from_be_bytes w32 (take 4 (made_id run (suc made))) == run) &&
    ((from_be_bytes w32 (drop 4 (made_id run (suc made))) == 0) || nat_lt made (from_be_bytes w32 (drop 4 (made_id run (suc made))))))
    (ap₂ (λ a b. a && b) (eq-eqb _ _ (made_run run (suc made) small_run))
    (or_second (from_be_bytes w32 (drop 4 (made_id run (suc made))) == 0) (nat_lt made (from_be_bytes w32 (drop 4 (made_id run (suc made)))))
    (ap (λ n. nat_lt made n) (made_ordinal run (suc made) small) ∙ later))))

module _ (c : Config) (run : ℕ) (s : Standing) (sound : IsSound c run s) (small_run : run < 2 ^ 32) (small : suc s.made < 2 ^ 32) where
  pub fresh_ids : FreshIds c run s sound
  fresh_ids n is makes a is' at_n of_id =
      elim (cases_Bool (is_over c a)) [
        | inl over ↦ over
        | inr lives ↦ (let home = sound.owners a is' lives in
            let same : home.node ≡ n = sound.tree.number_alone home.node n home.stands is (home.numbered ∙ at_n) in
            let placed : a.path ≡ n.path = sym home.placed ∙ ap (λ x. x.path) same in
            absurd (true≢false (sym (not_yet c run s.made n.path small_run small makes)
            ∙ (ap (λ i. is_bad_id c run s.made n.path i) (sym of_id) ∙ (ap (λ q. is_bad_id c run s.made q a.oid) (sym placed) ∙ sound.ids a is')))))
      ]

  pub next_fits : NextFits c run s sound
  next_fits p =
      false_from_ne_true (is_bad_id c run (suc s.made) p (made_id run (suc s.made)))
      (λ bad.
      let parts =
      and_parts (makes_ids (policies_at c p))
      (not (length (made_id run (suc s.made)) == 8) ||
      ((from_be_bytes w32 (take 4 (made_id run (suc s.made))) == run) &&
      ((from_be_bytes w32 (drop 4 (made_id run (suc s.made))) == 0) || nat_lt (suc s.made) (from_be_bytes w32 (drop 4 (made_id run (suc s.made))))))) bad in
      let inner =
      and_parts (from_be_bytes w32 (take 4 (made_id run (suc s.made))) == run)
      ((from_be_bytes w32 (drop 4 (made_id run (suc s.made))) == 0) || nat_lt (suc s.made) (from_be_bytes w32 (drop 4 (made_id run (suc s.made))))) parts.1 in
      elim (or_cases (from_be_bytes w32 (drop 4 (made_id run (suc s.made))) == 0)
      (nat_lt (suc s.made) (from_be_bytes w32 (drop 4 (made_id run (suc s.made))))) inner.1) [
        | inl is_zero ↦ (let e : suc s.made ≡ 0 = sym (made_ordinal run (suc s.made) small) ∙ eqb-true _ _ is_zero in omega arith)
        | inr is_later ↦
            (let less : suc s.made < from_be_bytes w32 (drop 4 (made_id run (suc s.made))) = ltb-true _ _ is_later in
            let e = made_ordinal run (suc s.made) small in omega arith)
      ])

-- What is forgotten of what is seen.
use Rattle.std.specs.Prelude.{◌≡◌, ℕ, ◌+◌, ◌≤◌, ◌<◌, zero, suc, Bool, true, false, not, List, [], ◌∷◌, filter, length, cond, ◌⊎◌, refl}
use Rattle.std.proofs.Common.{inl, inr, sym, ap, subst, ◌∙◌, arith}
use Rattle.std.proofs.lemmas.Bool.{cond-false}
use Rattle.std.proofs.lemmas.List.Filters.{length-filter_both}
use Rattle.poa_base.specs.declared.Config.{Config}
use Rattle.poa_base.specs.declared.Entry.{Entry}
use Rattle.history_standing.specs.declared.activation.Activation.{Activation}
use Rattle.history_standing.specs.Changes.{standing, changed}
use Rattle.history_standing.specs.Ends.{is_over, settled}
use Rattle.history_standing.specs.Standings.{Standing}
use Rattle.history_standing.specs.Trees.{In}
use Rattle.history_standing.proofs.Members.{in_kept}
use Rattle.core_standing.specs.Seen.{forgotten, behind}
use Rattle.active_map.specs.Live.{is_live, live}
use Rattle.core_standing.specs.Kept.{Forgets, KeepsNoneOver, StandsFor, StandingAgrees}
use Rattle.core_standing.proofs.Behind.{length_behind}
use Rattle.poa_history.specs.Entries.{may_begin, may_end}
use Rattle.core_standing.proofs.ChangesAlike.{stands_changed, stands_settled, stands_through}
use Rattle.core_standing.proofs.Few.{few_changed, few_settled}
use Rattle.core_standing.proofs.Settled.{still_after}
use Rattle.history_standing.proofs.Tests.{not_true}

live_behind : (c : Config) (n : ℕ) (kept : List Activation) → live c (behind n kept) ≡ live c kept
live_behind c zero kept = refl
live_behind c (suc n) kept = live_behind c n kept

-- where only what is over goes, all that live are left
live_left : (c : Config) (p : Activation → Bool) → ((a : Activation) → p a ≡ true → is_over c a ≡ true) → (as' : List Activation)
    → live c (filter (λ a. not (p a)) as') ≡ live c as'
live_left c p over [] = refl
live_left c p over (a ∷ as') =
    elim (p a) as (λ b. p a ≡ b → live c (cond (not b) (a ∷ filter (λ x. not (p x)) as') (filter (λ x. not (p x)) as')) ≡ live c (a ∷ as')) [
      | true ↦ (λ is. live_left c p over as' ∙ sym (cond-false (is_live c a) (a ∷ live c as') (live c as') (ap not (over a is))))
      | false ↦ (λ _. ap (λ bs. cond (is_live c a) (a ∷ bs) bs) (live_left c p over as'))
    ] refl

pub from_behind : (n : ℕ) (kept : List Activation) (a : Activation) → In a (behind n kept) → (a ≡ forgotten) ⊎ In a kept
from_behind zero kept a there = inr there
from_behind (suc n) kept a (inl same) = inl same
from_behind (suc n) kept a (inr there) = from_behind n kept a there

pub in_behind : (n : ℕ) (kept : List Activation) (a : Activation) → In a kept → In a (behind n kept)
in_behind zero kept a there = there
in_behind (suc n) kept a there = inr (in_behind n kept a there)

-- some of those that are over are forgotten, and as many more are known to have been begun
module _ (c : Config) (s : Standing) (p : Activation → Bool) (n m : ℕ) (kept left : List Activation) (is : s.activations ≡ behind n kept)
    (keeps : left ≡ filter (λ a. not (p a)) kept) where
  abbrev passed : List Activation
  passed = filter (λ a. not (p a)) kept

  pub forgets_some : ((a : Activation) → p a ≡ true → is_over c a ≡ true) → m ≡ n + length (filter p kept)
      → StandsFor c s (record s { activations = behind m left })
  forgets_some over count =
      subst (λ l. StandsFor c s (record s { activations = behind m l })) (sym keeps) (record {
        same = refl;
        forgets = subst (λ all. Forgets c all (behind m passed)) (sym is) (record {
          begun = sym (length_behind m passed) ∙ as_many ∙ length_behind n kept;
          lives = live_behind c m passed ∙ live_left c p over kept ∙ sym (live_behind c n kept);
          known = λ a there. elim (from_behind m passed a there)
              [ inl spent ↦ inl spent | inr lives ↦ inr (in_behind n kept a (in_kept (λ x. not (p x)) a kept lives).0) ];
        });
      })
    where
      as_many : m + length passed ≡ n + length kept
      as_many =
          (let both : length (filter p kept) + length passed ≡ length kept = length-filter_both p (λ a. not (p a)) (λ a. refl) kept in
          omega (arith, both, count))

  -- where what isn't among them is over only where it is forgotten, none that is over is left
  pub none_left : ((a : Activation) → In a s.activations → p a ≡ false → is_over c a ≡ true → a ≡ forgotten)
      → KeepsNoneOver c (record s { activations = behind m left })
  none_left others a there over =
      elim (from_behind m left a there) [
        | inl spent ↦ spent
        | inr lives ↦ (let was = in_kept (λ x. not (p x)) a kept (subst (In a) keeps lives) in
            others a (subst (In a) (sym is) (in_behind n kept a was.0)) (not_true (p a) was.1) over)
      ]

-- what is kept after an entry, where what has ended went and what is over was forgotten
module _ (c : Config) (run : ℕ) (past : List Entry) (e : Entry) (old mid : Standing) (kept : StandingAgrees c run past old)
    (room : may_begin e ≡ true → length old.activations < 4294967296) (change : mid ≡ changed c run past e old) where
  stands_mid : StandsFor c (changed c run past e (standing c run past)) mid
  stands_mid = subst (StandsFor c (changed c run past e (standing c run past))) (sym change) (stands_changed c run past e (standing c run past) old kept.stands)

  few_mid : length mid.activations ≤ 4294967296
  few_mid = subst (λ (s : Standing). length s.activations ≤ 4294967296) (sym change) (few_changed c run past old e kept.few room)

  -- nothing may have ended
  pub kept_begun : may_end e ≡ false → StandingAgrees c run (e ∷ past) mid
  kept_begun quiet = record { stands = subst (λ s. StandsFor c s mid) (sym (still_after c run past e quiet)) stands_mid; few = few_mid }

  pub kept_ended : (settles new : Standing) → settles ≡ settled c mid → StandsFor c settles new → StandingAgrees c run (e ∷ past) new
  kept_ended settles new settle forgets = record {
    stands =
        stands_through c (standing c run (e ∷ past)) settles new
        (subst (StandsFor c (standing c run (e ∷ past))) (sym settle) (stands_settled c (changed c run past e (standing c run past)) mid stands_mid)) forgets;
    few = (let few : length settles.activations ≤ 4294967296 =
        subst (λ (s : Standing). length s.activations ≤ 4294967296) (sym settle) (few_settled c run past mid few_mid) in
        let same = forgets.forgets.begun in omega (arith, few, same));
  }

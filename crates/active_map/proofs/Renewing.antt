-- The numbers of those that pass are looked for anew, from the first on.
use Rattle.std.specs.Prelude.{◌≡◌, ℕ, Bool, true, false, List, [], ◌∷◌, ◌⊎◌}
use Rattle.std.proofs.Common.{inl, inr, sym, ap, subst, ◌∙◌}
use Rattle.std.proofs.lemmas.Bool.{true≢false}
use Rattle.history_standing.specs.declared.activation.Activation.{Activation}
use Rattle.history_standing.specs.Trees.{In}
use Rattle.active_map.specs.Noted.{IsNoted}
use Rattle.active_map.specs.Tables.{is_passing}
use Rattle.active_map.specs.declared.passing.Passing.{Passing}

-- each that passes has its number here or is still to come
pub record RenewsUpTo (owned : Bool) (new : Passing) (all rest : List Activation) : Type 0 where
  pub here : new.is_whole ≡ true → (a : Activation) → In a all → is_passing a ≡ true → In a.number new.numbers.items ⊎ In a rest
  pub own : new.are_own ≡ owned

pub renews_put : (owned : Bool) (new next : Passing) (all rest : List Activation) (a : Activation) → RenewsUpTo owned new all (a ∷ rest)
    → (next.is_whole ≡ true → new.is_whole ≡ true) → ((n : ℕ) → In n new.numbers.items → In n next.numbers.items)
    → (next.is_whole ≡ true → In a.number next.numbers.items) → next.are_own ≡ new.are_own → RenewsUpTo owned next all rest
renews_put owned new next all rest a so_far whole wider its own =
    record {
      here = λ is b there passes. elim (so_far.here (whole is) b there passes) [
        | inl was ↦ inl (wider b.number was)
        | inr left ↦ elim left [ inl same ↦ inl (subst (λ (x : Activation). In x.number next.numbers.items) (sym same) (its is)) | inr later ↦ inr later ]
      ];
      own = own ∙ so_far.own;
    }

pub renews_past : (owned : Bool) (new : Passing) (all rest : List Activation) (a : Activation) → RenewsUpTo owned new all (a ∷ rest)
    → is_passing a ≡ false → RenewsUpTo owned new all rest
renews_past owned new all rest a so_far stays =
    record {
      here = λ is b there passes. elim (so_far.here is b there passes) [
        | inl was ↦ inl was
        | inr left ↦ elim left [ inl same ↦ absurd (true≢false (sym passes ∙ ap is_passing same ∙ stays)) | inr later ↦ inr later ]
      ];
      own = so_far.own;
    }

pub renewed : (old new : Passing) (all : List Activation) → RenewsUpTo old.are_own new all [] → IsNoted old all → IsNoted new all
renewed old new all done was =
    record {
      passed = λ whole a there passes. elim (done.here whole a there passes) [ inl here ↦ here | inr none ↦ absurd none ];
      owned = λ own a there. was.owned (sym done.own ∙ own) a there;
    }

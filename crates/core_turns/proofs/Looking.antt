-- What is found where something is looked for.
use Rattle.std.specs.Prelude.{◌≡◌, Bool, true, false, ◌||◌, cond, List, [], ◌∷◌, find, Option, Some, None, is_some, option_copied, refl}
use Rattle.std.specs.List.{list_any}
use Rattle.std.proofs.Common.{Bor, ap, ◌∙◌}

-- one is found where one passes
pub found_any : {A : Type 0} (p : A → Bool) (xs : List A) → is_some (find p xs) ≡ list_any p xs
found_any p [] = refl
found_any p (x ∷ xs) =
    elim (p x) as (λ b. is_some (cond b (Some x) (find p xs)) ≡ (b || list_any p xs)) [ true ↦ refl | false ↦ found_any p xs ]

-- and where what is found is lent
pub lent_any : {A : Type 0} (p : A → Bool) (xs : List A) (lent : Option (Bor A)) → option_copied lent ≡ find p xs → is_some lent ≡ list_any p xs
lent_any {A} p xs lent is = lent_some lent ∙ ap is_some is ∙ found_any p xs
  where
    lent_some : (o : Option (Bor A)) → is_some o ≡ is_some (option_copied o)
    lent_some (Some x) = refl
    lent_some None = refl

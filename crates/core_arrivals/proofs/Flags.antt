-- The flags of numbers.
use Rattle.std.proofs.Common.{◌≡◌, ℕ, ◌<◌, ◌≤◌, zero, suc, Bool, true, false, ◌||◌, ◌==◌, List, [], ◌∷◌, ◌++◌, length, refl, sym, ap, ◌∙◌, slice_set}
use Rattle.std.proofs.lemmas.Bool.{eqb-true, eqb-false}
use Rattle.std.proofs.lemmas.List.{get_or-set_same, get_or-set_other, get_or_past}
use Rattle.core_arrivals.specs.Tallies.{flag_of}

-- a flag that is put behind the others as false changes none
pub flag_more : (flags : List Bool) (k : ℕ) → flag_of (flags ++ false ∷ []) k ≡ flag_of flags k
flag_more [] zero = refl
flag_more [] (suc k) = refl
flag_more (b ∷ flags) zero = refl
flag_more (b ∷ flags) (suc k) = flag_more flags k

-- a flag that is set
pub flag_set : (flags : List Bool) (x k : ℕ) → x < length flags → flag_of (slice_set flags x true) k ≡ ((x == k) || flag_of flags k)
flag_set flags x k below =
    elim (x == k) as (λ b. (x == k) ≡ b → flag_of (slice_set flags x true) k ≡ (b || flag_of flags k)) [
      | true ↦ (λ same. ap (flag_of (slice_set flags x true)) (sym (eqb-true x k same)) ∙ get_or-set_same flags x true false below)
      | false ↦ (λ other. get_or-set_other flags x k true false (λ same. eqb-false x k other (sym same)))
    ] refl

-- there is no flag behind the list
pub flag_past : (flags : List Bool) (k : ℕ) → length flags ≤ k → flag_of flags k ≡ false
flag_past flags k past = get_or_past flags k false past

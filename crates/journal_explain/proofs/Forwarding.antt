-- The longest path that leads to another and has an endpoint, name by name.
use Rattle.std.proofs.Common.{◌≡◌, ℕ, suc, ◌+◌, ◌<◌, List, [], length, take, drop, sym, subst, ap, ap₂, arith}
use Rattle.std.proofs.Math.Seq.{drop-cons}
use Rattle.std.proofs.lemmas.List.{take_more}
use Rattle.std.specs.Prelude.{Option, Some, None, option_map}
use Rattle.poa_base.specs.declared.Endpoint.{Endpoint}
use Rattle.journal_explain.specs.Origins.{forwarding_from}

-- what is found below counts, else this path, if it has one
abbrev pub here_or : Option (List (List ℕ)) → List (List ℕ) → Option Endpoint → Option (List (List ℕ))
here_or deeper p endpoint = elim deeper [ Some found ↦ Some found | None ↦ option_map (λ found. p) endpoint ]

pub forwarding_at : (f : List (List ℕ) → Option Endpoint) (p : List (List ℕ)) (k : ℕ) → k < length p
    → forwarding_from f (take k p) (drop k p) ≡ here_or (forwarding_from f (take (k + 1) p) (drop (k + 1) p)) (take k p) (f (take k p))
forwarding_at f p k below =
    subst (λ rest. forwarding_from f (take k p) rest ≡ here_or (forwarding_from f (take (k + 1) p) (drop (k + 1) p)) (take k p) (f (take k p)))
    (sym (drop-cons p k [] below))
    (ap (λ deep. here_or deep (take k p) (f (take k p)))
    (ap₂ (forwarding_from f) (sym (take_more p k [] below)) (ap (λ n. drop n p) (let e : suc k ≡ k + 1 = omega arith in e))))

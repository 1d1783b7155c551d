-- The endpoint of the longest path that leads to another, name by name.
use Rattle.std.proofs.Common.{◌≡◌, ℕ, suc, ◌+◌, ◌<◌, List, [], length, take, drop, sym, subst, ap, ap₂, arith}
use Rattle.std.proofs.Math.Seq.{drop-cons}
use Rattle.std.proofs.lemmas.List.{take_more}
use Rattle.std.specs.Prelude.{Option, Some, None}
use Rattle.poa_base.specs.declared.Endpoint.{Endpoint}
use Rattle.history_standing.specs.Logs.{forward_from}

-- name by name: what is found below counts, else the endpoint here
pub forward_at : (f : List (List ℕ) → Option Endpoint) (p : List (List ℕ)) (k : ℕ) → k < length p
    → forward_from f (take k p) (drop k p) ≡ elim (forward_from f (take (k + 1) p) (drop (k + 1) p)) [ Some found ↦ Some found | None ↦ f (take k p) ]
forward_at f p k below =
    subst (λ rest. forward_from f (take k p) rest ≡ elim (forward_from f (take (k + 1) p) (drop (k + 1) p)) [ Some found ↦ Some found | None ↦ f (take k p) ])
    (sym (drop-cons p k [] below))
    (ap (λ deep. elim deep [ Some found ↦ Some found | None ↦ f (take k p) ])
    (ap₂ (forward_from f) (sym (take_more p k [] below)) (ap (λ n. drop n p) (let e : suc k ≡ k + 1 = omega arith in e))))

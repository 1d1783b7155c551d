-- The parts of a request.
use Rattle.std.proofs.Common.{◌≡◌, ℕ, List, Option, Some, None, ap, ◌∙◌}
use Rattle.std.specs.Prelude.{IfSome}
use Rattle.poa_base.specs.declared.Ask.{Ask}
use Rattle.poa_base.specs.declared.Datum.{Datum}
use Rattle.poa_base.specs.declared.Head.{Head}
use Rattle.poa_base.specs.declared.Stamp.{Stamp}

-- where there is no tag, a transient key has none
pub untagged : (stamp : Option Stamp) (tag : ℕ) → tag ≡ 0 → IfSome stamp (λ _. tag ≡ 0)
untagged None tag is = tt
untagged (Some stamp) tag is = is

pub ask_same : (f : Ask → List ℕ) (head other_head : Head) (key operation other_operation : List ℕ) (argument other_argument : Option Datum)
    → head ≡ other_head → operation ≡ other_operation → argument ≡ other_argument
    → f (record { head = head; key = key; operation = operation; argument = argument }) ≡ f
    (record { head = other_head; key = key; operation = other_operation; argument = other_argument })
ask_same f head other_head key operation other_operation argument other_argument p q r =
    ap (λ (h : Head). f (record { head = h; key = key; operation = operation; argument = argument })) p
    ∙ (ap (λ (o : List ℕ). f (record { head = other_head; key = key; operation = o; argument = argument })) q
    ∙ ap (λ (a : Option Datum). f (record { head = other_head; key = key; operation = other_operation; argument = a })) r)

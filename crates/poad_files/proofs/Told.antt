-- What an object tells over several calls.
use Rattle.std.proofs.Common.{Option, Some, None}
use Rattle.outside.specs.Told.{IfTold}

-- two steps that are told make one
pub told_then : {A : Type 0} (a b c : Option A) (P Q R : A → A → Type 0) → ((x y z : A) → P x y → Q y z → R x z) → IfTold a b P → IfTold b c Q → IfTold a c R
told_then None None None P Q R join p q = tt
told_then None None (Some z) P Q R join p q = q
told_then None (Some y) c P Q R join p q = absurd p
told_then (Some x) None c P Q R join p q = absurd p
told_then (Some x) (Some y) None P Q R join p q = q
told_then (Some x) (Some y) (Some z) P Q R join p q = join x y z p q

-- what is told at once of one moment
pub told_here : {A : Type 0} (a : Option A) (P : A → A → Type 0) → ((x : A) → P x x) → IfTold a a P
told_here None P here = tt
told_here (Some x) P here = here x

-- what is told gives what follows from it
pub told_so : {A : Type 0} (a b : Option A) (P R : A → A → Type 0) → ((x y : A) → P x y → R x y) → IfTold a b P → IfTold a b R
told_so None None P R so p = tt
told_so None (Some y) P R so p = absurd p
told_so (Some x) None P R so p = absurd p
told_so (Some x) (Some y) P R so p = so x y p

-- what a step tells of its end
pub told_last : {A : Type 0} (a b : Option A) (P : A → A → Type 0) (Q : A → Type 0) → ((x y : A) → P x y → Q y) → IfTold a b P → IfTold b b (λ x y. Q y)
told_last None None P Q so p = tt
told_last None (Some y) P Q so p = absurd p
told_last (Some x) None P Q so p = absurd p
told_last (Some x) (Some y) P Q so p = so x y p

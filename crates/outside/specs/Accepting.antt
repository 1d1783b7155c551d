-- What an acceptor has left to give, and what it was given back.
use Rattle.std.specs.Prelude.{◌≡◌, ℕ, ◌+◌, ◌-◌, List, [], ◌∷◌, ◌++◌}
use Rattle.poa_base.specs.declared.Session.{Session}
use Rattle.outside.specs.declared.accepting.Door.{Door}
use Rattle.outside.specs.declared.accepting.Door.TheVariants as door

-- the links that are left to give, how many are out, and those given back, each with its session, in their order
pub record Standing (L : Type 0) : Type 0 where
  pub left : List L
  pub out : ℕ
  pub back : List (L × Session)

-- the link that is given was the first one left, and is out now; at the end none was left
abbrev pub Opens : {L : Type 0} → Door L → Standing L → Standing L → Type 0
Opens (door.Link link) old new = (old.left ≡ link ∷ new.left) × (new.out ≡ old.out + 1) × (new.back ≡ old.back)
Opens door.Quiet old new = new ≡ old
Opens door.End old new = (old.left ≡ []) × (new ≡ old)
Opens door.Failed old new = new ≡ old

-- one that was out is back, with its session
abbrev pub TakesBack : {L : Type 0} → L → Session → Standing L → Standing L → Type 0
TakesBack link session old new = new ≡ record old { out = old.out - 1; back = old.back ++ (link, session) ∷ [] }

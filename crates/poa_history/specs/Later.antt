-- What never goes back.
use Rattle.std.specs.Prelude.{◌≡◌, true}
use Rattle.poa_base.specs.declared.Config.{Config}
use Rattle.poa_base.specs.declared.Sid.{Sid}
use Rattle.history_standing.specs.declared.activation.Activation.{Activation}
use Rattle.history_standing.specs.declared.activation.Phase.TheVariants.{Complete, Void}
use Rattle.history_standing.specs.Standings.{Standing}
use Rattle.history_standing.specs.Ends.{is_finished}
use Rattle.history_standing.specs.Trees.{In}

-- the second is what the first has become: the same activation, and it has lost nothing of how far it came
pub record IsLater (c : Config) (a b : Activation) : Type 0 where
  pub number : b.number ≡ a.number
  pub adapter : b.adapter ≡ a.adapter
  pub path : b.path ≡ a.path
  pub oid : b.oid ≡ a.oid
  -- its servant stays, and so does that it has none
  pub served : (s : Sid) → a.phase ≡ Complete s → b.phase ≡ Complete s
  pub void : a.phase ≡ Void → b.phase ≡ Void
  pub ending : a.ending ≡ true → b.ending ≡ true
  pub quiet : a.quiet ≡ true → b.quiet ≡ true
  pub out : a.out ≡ true → b.out ≡ true
  pub etherealized : a.etherealized ≡ true → b.etherealized ≡ true
  pub finished : is_finished c a ≡ true → is_finished c b ≡ true

-- each activation of the one standing stands in the other, as what it has become
abbrev pub AllLater : Config → Standing → Standing → Type 0
AllLater c s t = (a : Activation) → In a s.activations → (b : Activation) × In b t.activations × IsLater c a b

use Rattle.std.proofs.Common.{[], sym, subst}
use Rattle.session_laws.specs.declared.ear.Ear.TheVariants.{Messages, Lines}
use Rattle.session_laws.specs.HearingPieces.{KnowsFirst}
use Rattle.session_laws.specs.Sessions.{Hears}
use Rattle.session_laws.proofs.Messages.{framer_new}
use Rattle.session_laws.proofs.ear.Ear.new.Goals as goal

pub returns-in-Client-clause-expects : goal.returns-in-Client-clause-expects
returns-in-Client-clause-expects c =
    λ next more stop w. subst (λ peer. Hears peer next more stop) (sym c.in-Client.is) (framer_new c.new.result c.new.ensures.stream next more stop w)

pub returns-in-Client-clause-first : goal.returns-in-Client-clause-first
returns-in-Client-clause-first c = subst (λ peer. KnowsFirst peer (Messages c.new.result) []) (sym c.in-Client.is) c.new.ensures.first

pub returns-in-Administrator-clause-first : goal.returns-in-Administrator-clause-first
returns-in-Administrator-clause-first c = rw c.in-Administrator.is tt

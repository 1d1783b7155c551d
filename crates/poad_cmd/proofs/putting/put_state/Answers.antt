use Rattle.std.proofs.Common.{ℕ, List, Option, Ok, Bor, option_map, sym, subst}
use Rattle.poad_cmd.specs.Putting.{PutsState}
use Rattle.poad_cmd.proofs.Kept.{puts_state}
use Rattle.poad_cmd.proofs.putting.put_state.Goals as goal

pub returns-in_ok-rows-in-Some-clause-puts : goal.returns-in_ok-rows-in-Some-clause-puts
returns-in_ok-rows-in-Some-clause-puts g c =
    subst (λ (name : Option (Bor (List ℕ))). PutsState (option_map (λ n. n.now) name) c.args.core.now (Ok c.put.result)
    (g.F.Files.contents c.args.files.now) (g.F.Files.contents c.put.new.self))
    (sym c.in-Some.is)
    (puts_state c.in-Some.name.now c.args.core.now c.store.result.now c.in_ok-rows-in-Some.rows _ c.put.result _ _ c.store.ensures
    c.in_ok-rows-in-Some.ensures c.as_slice.ensures c.put.ensures.content)

use Rattle.std.proofs.Common.{◌≡◌, List, rules, refl, subst, sym}
use Rattle.replay_run.specs.declared.channel.Channel.{Channel}
use Rattle.replay_run.specs.Keeping.{AllEntered}
use Rattle.replay_run.specs.Quiet.{GathersEach, PutsBehind}
use Rattle.replay_run.proofs.Gathered.{gathered, still_each, still_givens}
use Rattle.replay_run.proofs.Seats.{keeps_still}
use Rattle.session_laws.proofs.Answers.{on_ok}
use Rattle.replay_run.proofs.quiet.QuietPlay.gather.Goals as goal

pub gather_each-requires-clause-entered : goal.gather_each-requires-clause-entered
gather_each-requires-clause-entered c =
    let lent : c.deref.result.now ≡ c.args.self.now.channels.items = search rules in
    subst (λ (cs : List Channel). AllEntered cs c.args.self.now.player.core.history) (sym lent) (λ i n a at is. (c.requires.seated i a at).entered n is)

pub returns-clause-gathers : goal.returns-clause-gathers
returns-clause-gathers c =
    let xs = c.args.self.now.channels.items in
    let lent : c.deref.result.now ≡ xs = search rules in
    on_ok c.gather_each.result _ _
    (λ p. gathered c.args.self.now.player c.gather_each.new.core xs c.args.out.now.items c.gather_each.new.out.items
    (subst (λ (cs : List Channel). PutsBehind
    (GathersEach cs) c.args.out.now.items c.gather_each.new.out.items c.args.self.now.player.core c.gather_each.new.core) lent p))
    c.gather_each.ensures

pub returns-clause-givens : goal.returns-clause-givens
returns-clause-givens c = on_ok c.gather_each.result _ _
    (λ p. still_givens c.args.self.now.player.core c.gather_each.new.core
    (still_each c.deref.result.now c.args.self.now.player.core p.bytes c.gather_each.new.core p.does))
    c.gather_each.ensures

pub returns-clause-in_play : goal.returns-clause-in_play
returns-clause-in_play c = on_ok c.gather_each.result _ _
    (λ p. keeps_still c.args.self.now.player _ c.args.self.now.channels.items c.requires
    (still_each c.deref.result.now c.args.self.now.player.core p.bytes c.gather_each.new.core p.does) refl)
    c.gather_each.ensures

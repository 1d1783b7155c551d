use Rattle.std.proofs.Common.{◌∙◌}
use Rattle.journal_explain.proofs.Beginning.{begun_one}
use Rattle.journal_explain.proofs.trails.begin_one.Goals as goal

pub returns : goal.returns
returns c =
    begun_one c.args.run.now c.args.name c.args.call.now c.args.trails.now.items c.push.new.self.items c.new.result c.new.ensures.name
    (c.new.ensures.call ∙ c.in_ok-call.ensures.equal) (c.new.ensures.adapter ∙ c.in_ok-adapter.ensures) c.new.ensures.steps c.new.ensures.wait
    c.keeps_laws.ensures.legal c.new.ensures.server c.in_ok-push.ensures.items

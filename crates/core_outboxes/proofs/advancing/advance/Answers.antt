use Rattle.std.proofs.Common.{◌∙◌, ◌++◌, not, filter, map, sym, ap, subst}
use Rattle.core_standing.specs.Seen.{seen}
use Rattle.core_outboxes.specs.Decided.{target_of}
use Rattle.core_outboxes.specs.Desk as desks
use Rattle.poa_history.specs.Numbers.{Ascends}
use Rattle.core_outboxes.specs.Owed.{arrivals_of}
use Rattle.core_outboxes.proofs.Coming.{alone_then, ascend_then, before_then, owed_then, filed_after_all}
use Rattle.core_outboxes.proofs.advancing.advance.Goals as goal

pub decide-requires-clause-alone : goal.decide-requires-clause-alone
decide-requires-clause-alone c =
    subst (desks.IsAlone (target_of c.args.decision)) (sym c.set_wait.ensures.owing)
    (alone_then c.args.config.now c.args.entry.now
    (seen c.args.standing.now) c.args.decision c.args.wait c.args.ordered c.args.desk.now.owing.items c.requires.comes)

pub decide-requires-clause-ascends : goal.decide-requires-clause-ascends
decide-requires-clause-ascends c =
    subst (λ os. Ascends (arrivals_of os)) (sym c.set_wait.ensures.owing)
    (ascend_then c.args.config.now c.args.entry.now
    (seen c.args.standing.now) c.args.decision c.args.wait c.args.ordered c.args.desk.now.owing.items c.requires.comes)

pub returns-clause-before : goal.returns-clause-before
returns-clause-before c = λ k.
    before_then c.args.config.now c.args.entry.now
    (seen c.args.standing.now) c.args.decision c.args.wait c.args.ordered c.args.desk.now.owing.items k c.decide.new.self.owing.items
    (c.decide.ensures.owing ∙ ap (filter (λ o. not (desks.is_decided c.args.config.now (seen c.args.standing.now) (target_of c.args.decision) c.args.ordered o)))
    c.set_wait.ensures.owing)

pub returns-clause-owed : goal.returns-clause-owed
returns-clause-owed c = λ k same.
    owed_then c.args.config.now c.args.entry.now
    (seen c.args.standing.now) c.args.decision c.args.wait c.args.ordered c.args.desk.now.owing.items k c.decide.new.self.owing.items
    (c.decide.ensures.owing ∙ ap (filter (λ o. not (desks.is_decided c.args.config.now (seen c.args.standing.now) (target_of c.args.decision) c.args.ordered o)))
    c.set_wait.ensures.owing) same

pub returns-clause-filed : goal.returns-clause-filed
returns-clause-filed c = λ k left.
    (let now = desks.is_decided c.args.config.now (seen c.args.standing.now) (target_of c.args.decision) c.args.ordered in
    let filed = map (desks.file c.args.decision) (filter now c.set_wait.new.desk.owing.items) in
    record {
      replies = left.replies ++ filed;
      files = c.decide.ensures.files left.replies (c.set_wait.ensures.files left.replies left.files);
      holds = filed_after_all c.args.config.now c.args.entry.now
          (seen c.args.standing.now) c.args.decision c.args.wait c.args.ordered c.args.desk.now.owing.items k left.replies (left.replies ++ filed)
          (ap (λ os. left.replies ++ map (desks.file c.args.decision) (filter now os)) c.set_wait.ensures.owing) left.holds;
    })

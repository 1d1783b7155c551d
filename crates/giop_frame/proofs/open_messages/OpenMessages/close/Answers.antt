use Rattle.std.proofs.Common.{Some, ◌∙◌, ap, option_map}
use Rattle.giop_frame.proofs.Closing.{framed, joined_from}
use Rattle.giop_frame.proofs.open_messages.OpenMessages.close.Goals as goal

pub returns-in-Some-clause-message : goal.returns-in-Some-clause-message
returns-in-Some-clause-message c =
    let done = joined_from c.args.id c.args.part.now c.args.self.now c.join.new.self c.requires.found c.in_ok-join.ensures.ok in
    ap Some c.into_message.ensures ∙ (ap (option_map framed) c.in-Some.ensures.found ∙ done.found)

pub returns-in-Some-clause-closed : goal.returns-in-Some-clause-closed
returns-in-Some-clause-closed c =
    c.in-Some.ensures.closed ∙ (joined_from c.args.id c.args.part.now c.args.self.now c.join.new.self c.requires.found c.in_ok-join.ensures.ok).others

pub returns-in-None-clause-message : goal.returns-in-None-clause-message
returns-in-None-clause-message c =
    let done = joined_from c.args.id c.args.part.now c.args.self.now c.join.new.self c.requires.found c.in_ok-join.ensures.ok in
    ap (option_map framed) c.in-None.ensures.found ∙ done.found

pub returns-in-None-clause-closed : goal.returns-in-None-clause-closed
returns-in-None-clause-closed c =
    c.in-None.ensures.closed ∙ (joined_from c.args.id c.args.part.now c.args.self.now c.join.new.self c.requires.found c.in_ok-join.ensures.ok).others

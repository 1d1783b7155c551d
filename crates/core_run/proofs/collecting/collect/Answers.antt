use Rattle.std.proofs.Common.{refl}
use Rattle.core_run.specs.Agrees.{history, opened_in}
use Rattle.core_run.proofs.GivenOut.{IsGiven, kept_without, none_next, collect_quiet, kept_with, filed_here, next_here, collect_room}
use Rattle.core_run.proofs.ReplyFits.{reply_fits}
use Rattle.core_run.proofs.collecting.collect.Goals as goal

pub returns-in_default-clause-kept : goal.returns-in_default-clause-kept
returns-in_default-clause-kept c =
    kept_without c.args.conn c.args.inside.now c.requires c.collect.result c.collect.new.self
    (record { given = c.collect.ensures.given; files = c.collect.ensures.files; owing = c.collect.ensures.owing })
    c.in_default.is

pub returns-in_default-clause-given : goal.returns-in_default-clause-given
returns-in_default-clause-given c = (
  none_next c.args.conn c.args.inside.now c.requires c.collect.result c.collect.new.self
      (record { given = c.collect.ensures.given; files = c.collect.ensures.files; owing = c.collect.ensures.owing })
      c.in_default.is,
  refl,
)

pub quiet-requires-clause-room : goal.quiet-requires-clause-room
quiet-requires-clause-room c =
    collect_room c.args.conn c.args.inside.now c.requires c.collect.result c.collect.new.self
    (record { given = c.collect.ensures.given; files = c.collect.ensures.files; owing = c.collect.ensures.owing })
    c.in-Some.filed c.in-Some.is

pub quiet-requires-clause-quiet : goal.quiet-requires-clause-quiet
quiet-requires-clause-quiet c =
    collect_quiet c.args.conn c.args.inside.now c.requires c.collect.result c.collect.new.self
    (record { given = c.collect.ensures.given; files = c.collect.ensures.files; owing = c.collect.ensures.owing })
    c.in-Some.filed c.in-Some.is

pub returns-clause-kept : goal.returns-clause-kept
returns-clause-kept c =
    kept_with c.args.conn c.args.inside.now c.requires c.collect.result c.collect.new.self
    (record { given = c.collect.ensures.given; files = c.collect.ensures.files; owing = c.collect.ensures.owing })
    c.in-Some.filed c.in-Some.is c.quiet.new.inside c.quiet.ensures

pub returns-clause-given : goal.returns-clause-given
returns-clause-given c =
    (let given : IsGiven c.args.conn c.collect.result c.args.inside.now.desk c.collect.new.self =
    record { given = c.collect.ensures.given; files = c.collect.ensures.files; owing = c.collect.ensures.owing } in
    let i = c.args.inside.now in
    let its = filed_here c.args.conn i c.requires c.collect.result c.collect.new.self given c.in-Some.filed c.in-Some.is in (
      next_here c.args.conn i c.requires c.collect.result c.collect.new.self given c.in-Some.filed c.in-Some.is,
      its,
      reply_fits i.config i.run i.limit (opened_in i) c.in-Some.filed.arrival c.in-Some.filed.reply (history i) c.requires.agrees.runs its.reply,
      c.quiet.ensures.life_is,
    ))

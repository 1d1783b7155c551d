use Rattle.std.proofs.Common.{refl, subst}
use Rattle.session_laws.specs.declared.told.Told.{Told}
use Rattle.replay_run.specs.Keeping.{talk}
use Rattle.replay_run.specs.Reading.{Hears}
use Rattle.replay_run.proofs.Read.{bad_next, call_next, closed_next, more_next, nothing_next}
use Rattle.replay_run.proofs.channel.Channel.read_next.Goals as goal

pub returns-in_ok-call-in-Call-clause-tells : goal.returns-in_ok-call-in-Call-clause-tells
returns-in_ok-call-in-Call-clause-tells c =
    call_next c.args.conn c.args.player.now c.args.self.now c.next.new.self c.in-Call.call c.in-Call.size c.call.new.self c.as_slice.result.now
    (subst (λ (t : Told). Hears (talk c.args.player.now c.args.self.now) t c.next.new.self) c.in-Call.is c.in_ok-call.ensures.told)
    c.as_slice.ensures.value c.in_ok-call-in-Call.ensures.life c.in_ok-call-in-Call.ensures.printed c.in_ok-call-in-Call.ensures.filled
    c.call.ensures.turned_away

pub returns-in-Nothing-clause-tells : goal.returns-in-Nothing-clause-tells
returns-in-Nothing-clause-tells c =
    nothing_next c.args.conn c.args.player.now c.args.self.now c.next.new.self
    (subst (λ (t : Told). Hears (talk c.args.player.now c.args.self.now) t c.next.new.self) c.in-Nothing.is c.in_ok-call.ensures.told)

pub returns-in-More-clause-tells : goal.returns-in-More-clause-tells
returns-in-More-clause-tells c =
    more_next c.args.conn c.args.player.now c.args.self.now c.next.new.self c.in-More.have
    (subst (λ (t : Told). Hears (talk c.args.player.now c.args.self.now) t c.next.new.self) c.in-More.is c.in_ok-call.ensures.told)

pub returns-in-Closed-clause-tells : goal.returns-in-Closed-clause-tells
returns-in-Closed-clause-tells c =
    closed_next c.args.conn c.args.player.now c.args.self.now c.next.new.self
    (subst (λ (t : Told). Hears (talk c.args.player.now c.args.self.now) t c.next.new.self) c.in-Closed.is c.in_ok-call.ensures.told)

pub returns-in_ok-print_bad-in-Bad-clause-tells : goal.returns-in_ok-print_bad-in-Bad-clause-tells
returns-in_ok-print_bad-in-Bad-clause-tells c =
    bad_next c.args.conn c.args.player.now c.args.self.now c.next.new.self _ c.as_slice-in-Bad.result.now c.in-Bad.at
    (subst (λ (t : Told). Hears (talk c.args.player.now c.args.self.now) t c.next.new.self) c.in-Bad.is c.in_ok-call.ensures.told)
    c.as_slice-in-Bad.ensures.value refl c.in_ok-print_bad-in-Bad.ensures refl refl

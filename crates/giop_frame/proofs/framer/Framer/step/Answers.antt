use Rattle.std.proofs.Common.{[], ◌∷◌, Option, subst, sym, ◌∙◌, ap}
use Rattle.std.specs.Option.{option_to_list}
use Rattle.giop_frame.specs.declared.rules.Look.TheVariants.{Whole, Bad}
use Rattle.giop_frame.specs.Rules.{look_at}
use Rattle.giop_frame.specs.Stream.{Framed}
use Rattle.giop_frame.specs.Framer.{TakesPart}
use Rattle.giop_frame.proofs.Taking.{seen_in_front}
use Rattle.giop_frame.proofs.Answering.{taken_gives, taken_shorter, joins_part, closed_answers}
use Rattle.giop_frame.proofs.Sizes.{taken_within}
use Rattle.giop_frame.proofs.framer.Framer.step.Goals as goal

pub returns-in-Some-clause-answer : goal.returns-in-Some-clause-answer
returns-in-Some-clause-answer c =
    let f = c.args.self.now in
    let seen = seen_in_front _ f (Whole c.in-Whole.length) c.self.view_is
    (sym (c.in-Whole.ensures ∙ ap (look_at c.self.inside.limit c.self.inside.pending) c.as_slice.ensures)) in
    let t = subst (λ (o : Option Framed). TakesPart f c.in-Whole.length (option_to_list o) c.take_part.new.self) c.in-Some.is
    c.in_ok-message-in-Whole.ensures.taken in
    taken_gives f c.take_part.new.self c.in-Whole.length (c.in-Some.message ∷ []) c.requires seen t

pub returns-in-Some-clause-shorter : goal.returns-in-Some-clause-shorter
returns-in-Some-clause-shorter c =
    let f = c.args.self.now in
    let seen = seen_in_front _ f (Whole c.in-Whole.length) c.self.view_is
    (sym (c.in-Whole.ensures ∙ ap (look_at c.self.inside.limit c.self.inside.pending) c.as_slice.ensures)) in
    let t = subst (λ (o : Option Framed). TakesPart f c.in-Whole.length (option_to_list o) c.take_part.new.self) c.in-Some.is
    c.in_ok-message-in-Whole.ensures.taken in
    taken_shorter f c.take_part.new.self c.in-Whole.length (c.in-Some.message ∷ []) seen t

pub returns-in-Some-clause-sized : goal.returns-in-Some-clause-sized
returns-in-Some-clause-sized c =
    let f = c.args.self.now in
    let seen = seen_in_front _ f (Whole c.in-Whole.length) c.self.view_is
    (sym (c.in-Whole.ensures ∙ ap (look_at c.self.inside.limit c.self.inside.pending) c.as_slice.ensures)) in
    let t = subst (λ (o : Option Framed). TakesPart f c.in-Whole.length (option_to_list o) c.take_part.new.self) c.in-Some.is
    c.in_ok-message-in-Whole.ensures.taken in
    taken_within f c.take_part.new.self c.in-Whole.length c.in-Some.message seen t

pub returns-in-None-clause-answer : goal.returns-in-None-clause-answer
returns-in-None-clause-answer c =
    let f = c.args.self.now in
    let seen = seen_in_front _ f (Whole c.in-Whole.length) c.self.view_is
    (sym (c.in-Whole.ensures ∙ ap (look_at c.self.inside.limit c.self.inside.pending) c.as_slice.ensures)) in
    let t = subst (λ (o : Option Framed). TakesPart f c.in-Whole.length (option_to_list o) c.take_part.new.self) c.in-None.is
    c.in_ok-message-in-Whole.ensures.taken in
    joins_part f c.take_part.new.self c.in-Whole.length c.requires seen t

pub returns-in-Bad-clause-answer : goal.returns-in-Bad-clause-answer
returns-in-Bad-clause-answer c =
    let f = c.args.self.now in
    let seen = seen_in_front _ f (Bad c.in-Bad.why) c.self.view_is
    (sym (c.in-Bad.ensures ∙ ap (look_at c.self.inside.limit c.self.inside.pending) c.as_slice.ensures)) in
    closed_answers _ f c.in-Bad.why c.bad.result c.bad.ensures c.self.view_is c.requires seen

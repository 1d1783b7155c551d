-- It was given before, or is given next, or there is none.
use Rattle.std.proofs.Common.{◌≡◌, ℕ, None, ◌∙◌, ap, sym, subst}
use Rattle.giop_frame.specs.declared.next.Next.{Next}
use Rattle.giop_frame.specs.Stream.{IsFirstMinor}
use Rattle.giop_frame.specs.Framing.{Framing}
use Rattle.giop_frame.specs.Framer.{FramerAnswers}
use Rattle.giop_frame.proofs.First.{first_given, first_next, first_waits, first_fails, none_else}
use Rattle.giop_frame.proofs.framer.Framer.first_minor.Goals as goal

pub returns-in-Some-clause-first : goal.returns-in-Some-clause-first
returns-in-Some-clause-first c = λ limit fed knows.
    first_given limit fed c.args.self.now knows c.in-Some.minor (ap (λ (k : Framing). k.first) (sym c.self.view_is) ∙ c.in-Some.is)

pub returns-in-Message-clause-first : goal.returns-in-Message-clause-first
returns-in-Message-clause-first c = λ limit fed knows.
    (let f = c.args.self.now in
    let none : f.first ≡ None = ap (λ (k : Framing). k.first) (sym c.self.view_is) ∙ none_else c.self.inside.first c.in_default.not-Some in
    let answers = subst (λ (n : Next). FramerAnswers f n c.next.new.self) c.in-Message.is c.in_ok-message.ensures.answer in
    subst (λ (n : ℕ). IsFirstMinor limit fed n) (sym c.minor.ensures.value)
    (first_next limit fed f knows c.next.new.self c.in-Message.message none answers))

pub returns-in-NeedMore-clause-first : goal.returns-in-NeedMore-clause-first
returns-in-NeedMore-clause-first c = λ limit fed knows.
    (let f = c.args.self.now in
    let none : f.first ≡ None = ap (λ (k : Framing). k.first) (sym c.self.view_is) ∙ none_else c.self.inside.first c.in_default.not-Some in
    let answers = subst (λ (n : Next). FramerAnswers f n c.next.new.self) c.in-NeedMore.is c.in_ok-message.ensures.answer in
    first_waits limit fed f knows c.next.new.self _ none answers)

pub returns-in-Bad-clause-first : goal.returns-in-Bad-clause-first
returns-in-Bad-clause-first c = λ limit fed knows.
    (let f = c.args.self.now in
    let none : f.first ≡ None = ap (λ (k : Framing). k.first) (sym c.self.view_is) ∙ none_else c.self.inside.first c.in_default.not-Some in
    let answers = subst (λ (n : Next). FramerAnswers f n c.next.new.self) c.in-Bad.is c.in_ok-message.ensures.answer in
    first_fails limit fed f knows c.next.new.self _ _ none answers)

use Rattle.std.proofs.Common.{◌==◌, ◌&&◌, inl, inr, refl, sym, ap, ◌∙◌}
use Rattle.std.proofs.lemmas.Bool.{and_cases, and_parts, true≢false}
use Rattle.history_standing.specs.Ends.{is_over}
use Rattle.core_standing.specs.Seen.{seen}
use Rattle.core_standing.proofs.Itself.{stands_itself}
use Rattle.core_standing.specs.Touched.{is_touched}
use Rattle.core_standing.proofs.Forgotten.{forgets_some, none_left}
use Rattle.core_standing.proofs.Staying.{turned}
use Rattle.core_standing.proofs.forgetting.forget.Goals as goal

pub returns-in-Nothing-clause-same : goal.returns-in-Nothing-clause-same
returns-in-Nothing-clause-same c = stands_itself c.args.config.now (seen c.args.standing.now) (seen c.args.standing.now) refl

pub returns-in-Nothing-clause-all : goal.returns-in-Nothing-clause-all
returns-in-Nothing-clause-all c = λ over a there is. over a there (ap (λ t. is_touched t a.number) c.in-Nothing.is) is

pub returns-in-One-clause-same : goal.returns-in-One-clause-same
returns-in-One-clause-same c =
    (let s = c.args.standing.now in
    let n = c.in-One.number in
    forgets_some c.args.config.now (seen s) (λ a. (a.number == n) && is_over c.args.config.now a) s.activations.forgotten c.forget_at.new.self.forgotten
    s.activations.kept c.forget_at.new.self.kept refl c.forget_at.ensures.kept
    (λ a both. (and_parts (a.number == n) (is_over c.args.config.now a) both).1) c.forget_at.ensures.forgotten)

pub returns-in-One-clause-all : goal.returns-in-One-clause-all
returns-in-One-clause-all c = λ touched.
    (let s = c.args.standing.now in
    let n = c.in-One.number in
    none_left c.args.config.now (seen s) (λ a. (a.number == n) && is_over c.args.config.now a) s.activations.forgotten c.forget_at.new.self.forgotten
    s.activations.kept c.forget_at.new.self.kept refl c.forget_at.ensures.kept
    (λ a there one over. elim (and_cases (a.number == n) (is_over c.args.config.now a) one) [
      | inl other ↦ touched a there (ap (λ t. is_touched t a.number) c.in-One.is ∙ turned a.number n other) over
      | inr lives ↦ absurd (true≢false (sym over ∙ lives))
    ]))

pub returns-in-All-clause-same : goal.returns-in-All-clause-same
returns-in-All-clause-same c =
    (let s = c.args.standing.now in
    forgets_some c.args.config.now (seen s) (is_over c.args.config.now) s.activations.forgotten c.forget.new.self.forgotten
    s.activations.kept c.forget.new.self.kept refl c.forget.ensures.kept (λ a over. over) c.forget.ensures.forgotten)

pub returns-in-All-clause-all : goal.returns-in-All-clause-all
returns-in-All-clause-all c = λ touched.
    (let s = c.args.standing.now in
    none_left c.args.config.now (seen s) (is_over c.args.config.now) s.activations.forgotten c.forget.new.self.forgotten
    s.activations.kept c.forget.new.self.kept refl c.forget.ensures.kept (λ a there lives over. absurd (true≢false (sym over ∙ lives))))

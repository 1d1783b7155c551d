use Rattle.std.proofs.Common.{sym, ◌∙◌}
use Rattle.std.proofs.lemmas.Bool.{true≢false}
use Rattle.active_map.proofs.passing.Passing.note.Goals as goal

pub returns-then-not-is_own : goal.returns-then-not-is_own
returns-then-not-is_own c =
    record {
      whole = c.place.ensures.whole;
      others = c.place.ensures.others;
      its = c.place.ensures.its;
      was = λ own. absurd (true≢false (sym own));
      owns = λ own. absurd (true≢false (sym own));
    }

pub returns-else-not-is_own : goal.returns-else-not-is_own
returns-else-not-is_own c =
    record {
      whole = c.place.ensures.whole;
      others = c.place.ensures.others;
      its = c.place.ensures.its;
      was = λ own. sym c.place.ensures.own ∙ own;
      owns = λ _. sym c.is_own.ensures ∙ c.if-not-is_own.false;
    }

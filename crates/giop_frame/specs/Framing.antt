-- What a framer is seen as.
use Rattle.std.specs.Prelude.{ℕ, List, Option}
use Rattle.giop_frame.specs.declared.why.Why.{Why}
use Rattle.giop_frame.specs.Stream.{Reading}

-- a framer: its limit on one message, what the parts that it read leave, the bytes behind them, why the place
-- behind them is bad, where it has said so, and the minor version of the first message that it gave
pub record Framing : Type 0 where
  pub limit : ℕ
  pub reading : Reading
  pub unread : List ℕ
  pub closed : Option Why
  pub first : Option ℕ

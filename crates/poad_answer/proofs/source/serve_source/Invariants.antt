use Rattle.std.proofs.Common.{◌≡◌, ℕ, ◌-◌, ◌≤◌, ◌^◌, Bool, false, List, Option, vec_len}
use Rattle.poad_answer.specs.Meaning.{Meaning}
use Rattle.poad_answer.specs.Piece.{Server, server}
use Rattle.poad_answer.proofs.Running.{Runs}
use Rattle.poad_answer.proofs.source.serve_source.Given as goal

-- between two pieces
pub record Between {A : Type 0} (m : Meaning A) (start : A) (left_old left_new held_old held_new : Option (List ℕ)) (taken have : ℕ) (s : Server A)
    (room reads_old reads_new writes_old writes_new : ℕ) (waits : Bool) : Type 0 where
  pub runs : Runs m start left_old left_new held_old held_new taken have s
  pub within : taken ≤ 2 ^ 32
  pub room_is : room ≡ 65536
  pub reads : reads_old ≤ reads_new
  pub writes : writes_old ≤ writes_new
  pub patient : waits ≡ false

abbrev pub invariant-loop-taken : goal.invariant-loop-taken
invariant-loop-taken g l =
    Between g.A.Answerer.meaning l.initial.answerer (g.S.Source.left l.initial.source) (g.S.Source.left l.source) (g.K.Sink.held l.initial.sink)
    (g.K.Sink.held l.sink) l.taken l.left_over (server l.answerer l.input l.replies.items) (vec_len l.buffer)
    (g.S.Source.read_faults l.initial.source) (g.S.Source.read_faults l.source) (g.K.Sink.write_faults l.initial.sink) (g.K.Sink.write_faults l.sink)
    (g.S.Source.is_waiting l.source)

abbrev pub decreases-loop-taken : goal.decreases-loop-taken
decreases-loop-taken g l = 4294967296 - l.taken

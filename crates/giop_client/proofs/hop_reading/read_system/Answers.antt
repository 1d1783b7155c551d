-- Where the id, the minor code or the completion can't be read, there is no system exception.
use Rattle.std.proofs.lemmas.Result.{err_from_is_err_and}
use Rattle.giop_client.proofs.Replies.{no_system_id, no_system_minor, no_system_done, system_read}
use Rattle.giop_client.proofs.hop_reading.read_system.Goals as goal

pub returns-in_err-text-clause-bad : goal.returns-in_err-text-clause-bad
returns-in_err-text-clause-bad c =
    let passed = err_from_is_err_and c.from_residual.result c.from_residual.ensures.1 in
    rw (passed.1, passed.2) (no_system_id _ _ _ c.reader-reader.ensures c.in_err-text.ensures.refused)

pub returns-in_err-minor-clause-bad : goal.returns-in_err-minor-clause-bad
returns-in_err-minor-clause-bad c =
    let passed = err_from_is_err_and c.from_residual-in_err-minor.result c.from_residual-in_err-minor.ensures.1 in
    rw (passed.1, passed.2) (λ _. no_system_minor _ _ _ _ _ c.reader-reader.ensures c.in_ok-text.ensures.ok c.in_err-minor.ensures.refused)

pub returns-in_err-done-clause-bad : goal.returns-in_err-done-clause-bad
returns-in_err-done-clause-bad c =
    let passed = err_from_is_err_and c.from_residual-in_err-done.result c.from_residual-in_err-done.ensures.1 in
    rw (passed.1, passed.2)
    (λ _. no_system_done _ _ _ _ _ _ _ c.reader-reader.ensures c.in_ok-text.ensures.ok c.in_ok-minor.ensures.ok c.in_err-done.ensures.refused)

pub returns-clause-ok : goal.returns-clause-ok
returns-clause-ok c =
    system_read _ _ _ _ _ _ _ _ _ c.reader-reader.ensures c.from_vec-id.ensures c.in_ok-text.ensures.ok c.in_ok-minor.ensures.ok c.in_ok-done.ensures.ok

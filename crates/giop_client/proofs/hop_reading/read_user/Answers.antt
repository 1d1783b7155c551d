use Rattle.std.proofs.lemmas.Result.{err_from_is_err_and}
use Rattle.giop_client.proofs.Replies.{no_user}
use Rattle.giop_client.proofs.hop_reading.read_user.Goals as goal

pub returns-in_err-text-clause-bad : goal.returns-in_err-text-clause-bad
returns-in_err-text-clause-bad c =
    let passed = err_from_is_err_and c.from_residual.result c.from_residual.ensures.1 in
    rw (passed.1, passed.2) (no_user _ _ _ c.reader-reader.ensures c.in_err-text.ensures.refused)

-- By the type of the message.
use Rattle.std.proofs.lemmas.Result.{err_from_is_err_and}
use Rattle.giop_msg.proofs.Messages.{request_malformed, cancel_malformed, locate_malformed}
use Rattle.giop_msg.proofs.viewing.view_message.Goals as goal

pub returns-in_err-view_request-in-0-clause-fault :
    goal.returns-in_err-view_request-in-0-clause-fault
returns-in_err-view_request-in-0-clause-fault c =
    let passed = err_from_is_err_and c.from_residual.result c.from_residual.ensures.1 in
    rw (passed.1, passed.2) (request_malformed c.args.bytes.now c.in-0.is c.in_err-view_request-in-0.ensures.bad)

pub returns-in_err-view_id-in-2-clause-fault : goal.returns-in_err-view_id-in-2-clause-fault
returns-in_err-view_id-in-2-clause-fault c =
    let passed = err_from_is_err_and c.from_residual-in_err-view_id-in-2.result c.from_residual-in_err-view_id-in-2.ensures.1 in
    rw (passed.1, passed.2) (cancel_malformed c.args.bytes.now c.in-2.is c.in_err-view_id-in-2.ensures.bad)

pub returns-in_err-view_locate-in-3-clause-fault :
    goal.returns-in_err-view_locate-in-3-clause-fault
returns-in_err-view_locate-in-3-clause-fault c =
    let passed = err_from_is_err_and c.from_residual-in_err-view_locate-in-3.result c.from_residual-in_err-view_locate-in-3.ensures.1 in
    rw (passed.1, passed.2) (locate_malformed c.args.bytes.now c.in-3.is c.in_err-view_locate-in-3.ensures.bad)

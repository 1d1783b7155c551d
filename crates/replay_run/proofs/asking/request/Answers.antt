use Rattle.std.proofs.Common.{◌∙◌}
use Rattle.giop_msg.specs.Ask.{request_bytes}
use Rattle.replay_run.specs.Asking.{head_for}
use Rattle.replay_run.proofs.Asked.{ask_same}
use Rattle.replay_run.proofs.asking.request.Goals as goal

pub returns : goal.returns
returns c = c.in_ok-bytes.ensures.bytes
    ∙ ask_same request_bytes c.head.result (head_for c.args.id) c.args.key c.in_ok-operation_of.field-0 c.args.operation.now
    c.in_ok-copied.field-0 c.args.argument.now c.head.ensures c.in_ok-operation_of.ensures c.in_ok-copied.ensures

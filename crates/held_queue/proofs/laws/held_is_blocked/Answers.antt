use Rattle.held_queue.proofs.laws.held_is_blocked.Goals as goal
use Rattle.held_queue.proofs.HoldRows.{held_blocks, blocks_held}

pub returns-clause-blocked : goal.returns-clause-blocked
returns-clause-blocked c = λ facts worker cause row. held_blocks facts cause worker row

pub returns-clause-held : goal.returns-clause-held
returns-clause-held c = λ facts worker hold blocks other. blocks_held facts worker hold blocks other

use Rattle.journal_explain.proofs.Standing.{slot_stands}
use Rattle.journal_explain.proofs.slots.slot_in.Goals as goal

pub returns : goal.returns
returns c =
    slot_stands c.args.run.now c.state-state.result.now c.config.result.now c.config.ensures
    c.state-state.ensures.state c.keeps_laws.ensures.runs c.args.adapter c.args.oid.now c.slot_of-slot.result c.slot_of-slot.ensures

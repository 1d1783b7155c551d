use Rattle.poa_base.proofs.Stored.{stored-with_room, stored-with_state, reserved-insert}
use Rattle.poa_base.proofs.store.stores_change_one_place.Goals as goal

pub returns : goal.returns
returns c = record { room = stored-with_room; state = stored-with_state; stays = reserved-insert }

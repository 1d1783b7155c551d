-- What a row of a store shows.
use Rattle.poa_base.specs.declared.servant.State.{State}
use Rattle.poa_base.specs.declared.store.Row.{Row}
use Rattle.poa_base.specs.Store.{Place}

abbrev pub row_seen : Row → Place × State
row_seen row = ((row.path.now, row.oid.now), row.state.now)

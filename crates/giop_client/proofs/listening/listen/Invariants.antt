use Rattle.std.proofs.Common.{ℕ, ◌+◌, ◌-◌, ◌<◌, ◌≤◌, ◌≡◌}
use Rattle.giop_frame.specs.Framer.{reach}
use Rattle.poa_base.specs.declared.limits.TheConstants.{MESSAGE_LIMIT}
use Rattle.giop_client.specs.declared.hearing.TheConstants.{READ_LIMIT}
use Rattle.giop_client.specs.declared.listening.TheConstants.{MOST_QUIETS}
use Rattle.giop_client.proofs.Listened.{Heard}
use Rattle.giop_client.proofs.listening.listen.Given as goal

abbrev pub invariant-loop-quiets : goal.invariant-loop-quiets
invariant-loop-quiets g l =
    Heard l.fn.id (g.L.Link.shown l.initial.link) (g.L.Link.shown l.link) l.framer l.heard
    × ((l.heard < READ_LIMIT) × (l.framer.limit ≡ MESSAGE_LIMIT) × (reach l.framer ≤ l.heard))
    × ((0 < l.quiets → 0 < (g.L.Link.shown l.link).quiets) × (l.quiets ≤ MOST_QUIETS))

abbrev pub decreases-loop-quiets : goal.decreases-loop-quiets
decreases-loop-quiets g l = (READ_LIMIT - l.heard) + (MOST_QUIETS - l.quiets)

use Rattle.giop_client.proofs.Visits.{talks_whole}
use Rattle.giop_client.proofs.visiting.talk.Goals as goal

pub returns-clause-talks : goal.returns-clause-talks
returns-clause-talks g c = talks_whole _ _ _ _ _ _ c.if-not-write_all.ensures.writes c.listen.ensures.listens

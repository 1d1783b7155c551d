-- A link is open between its dial and its closing.
use Rattle.giop_client.proofs.Visits.{told_out, told_visited}
use Rattle.giop_client.proofs.visiting.visit.Goals as goal

pub close-requires : goal.close-requires
close-requires g c =
    told_out c.args.endpoint.now (g.C.Link.Link.shown c.in-Link.link) (g.C.Connector.calls c.args.connector.now) _ c.in-Link.ensures.calls

pub returns-in-Link-clause-visited : goal.returns-in-Link-clause-visited
returns-in-Link-clause-visited g c =
    told_visited c.args.endpoint.now c.args.request.now c.args.id c.talk-step.result (g.C.Link.Link.shown c.in-Link.link)
    (g.C.Link.Link.shown c.talk-step.new.link) (g.C.Connector.calls c.args.connector.now) _ _ c.in-Link.ensures.calls c.talk-step.ensures.talks
    c.close.ensures.calls

-- Counts that rose in a part of a call rose in the call.
use Rattle.std.proofs.Common.{◌≡◌, ℕ, ◌+◌, ◌<◌, ◌≤◌, refl, sym, ap, ◌∙◌, subst, arith, ◌⊎◌, inl, inr}
use Rattle.std.specs.Prelude.{min}
use Rattle.outside.specs.Cause.{Rose, HasCause}
use Rattle.outside.specs.Link.{Shown}
use Rattle.outside.specs.Connecting.{Tally, IsRaised}
use Rattle.giop_client.specs.declared.call_end.CallEnd.{CallEnd}
use Rattle.giop_client.specs.declared.call_end.CallEnd.TheVariants as end
use Rattle.giop_client.specs.declared.step.Step.{Step}
use Rattle.giop_client.specs.declared.step.Step.TheVariants.{On, End}
use Rattle.giop_client.specs.Counting.{IsLater, Blames}
use Rattle.giop_client.specs.Ending.{SuffersEnd, Suffers, BlamesStep}

pub later_none : (t : Tally) → IsLater t t
later_none t = record { dials = omega arith; reads = omega arith; writes = omega arith; quiets = omega arith }

pub later_both : (a b c : Tally) → IsLater a b → IsLater b c → IsLater a c
later_both a b c x y = record {
  dials = omega (arith, x.dials, y.dials);
  reads = omega (arith, x.reads, y.reads);
  writes = omega (arith, x.writes, y.writes);
  quiets = omega (arith, x.quiets, y.quiets);
}

rose_later : (a b c : ℕ) → a ≤ b → Rose b c → Rose a c
rose_later a b c later (inl more) = inl (omega (arith, later, more))
rose_later a b c later (inr full) = inr full

pub blames_later : (ended : CallEnd) (a b c : Tally) → IsLater a b → Blames ended b c → Blames ended a c
blames_later end.ConnectFault a b c later blames = rose_later a.dial_faults b.dial_faults c.dial_faults later.dials blames
blames_later end.ReadFault a b c later blames = rose_later a.read_faults b.read_faults c.read_faults later.reads blames
blames_later end.WriteFault a b c later blames = rose_later a.write_faults b.write_faults c.write_faults later.writes blames
blames_later (end.NoAnswer quiets) a b c later blames = rose_later a.quiets b.quiets c.quiets later.quiets blames
blames_later (end.Result body) a b c later blames = tt
blames_later (end.User id) a b c later blames = tt
blames_later (end.System id minor done) a b c later blames = tt
blames_later end.NoProfile a b c later blames = tt
blames_later (end.TooManyHops hops) a b c later blames = tt
blames_later end.Closed a b c later blames = tt
blames_later end.BadReply a b c later blames = tt
blames_later end.WantMemory a b c later blames = tt

-- the step that ended a call
pub blames_end : (ended : CallEnd) (step : Step) (a b c : Tally) → step ≡ End ended → IsLater a b → BlamesStep step b c → Blames ended a c
blames_end ended step a b c is later blames =
    blames_later ended a b c later (subst (λ (s : Step). BlamesStep s b c) is blames)

-- a link with a count above 0 was closed
raised : (more before now : ℕ) → 0 < more → IsRaised more before now → Rose before now
raised more before now some is = grind (arith, some, is.later, is.sum)

pub blames_closed : (step : Step) (link : Shown) (a b c : Tally) → a.read_faults ≡ b.read_faults → a.write_faults ≡ b.write_faults → a.quiets ≡ b.quiets
    → IsRaised link.read_faults b.read_faults c.read_faults → IsRaised link.write_faults b.write_faults c.write_faults
    → IsRaised link.quiets b.quiets c.quiets → Suffers step link → BlamesStep step a c
blames_closed (On next) link a b c reads writes quiets r w q suffers = tt
blames_closed (End end.ConnectFault) link a b c reads writes quiets r w q suffers = absurd suffers
blames_closed (End end.ReadFault) link a b c reads writes quiets r w q suffers =
    subst (λ (n : ℕ). Rose n c.read_faults) (sym reads) (raised link.read_faults b.read_faults c.read_faults suffers r)
blames_closed (End end.WriteFault) link a b c reads writes quiets r w q suffers =
    subst (λ (n : ℕ). Rose n c.write_faults) (sym writes) (raised link.write_faults b.write_faults c.write_faults suffers w)
blames_closed (End (end.NoAnswer count)) link a b c reads writes quiets r w q suffers =
    subst (λ (n : ℕ). Rose n c.quiets) (sym quiets) (raised link.quiets b.quiets c.quiets suffers q)
blames_closed (End (end.Result body)) link a b c reads writes quiets r w q suffers = tt
blames_closed (End (end.User id)) link a b c reads writes quiets r w q suffers = tt
blames_closed (End (end.System id minor done)) link a b c reads writes quiets r w q suffers = tt
blames_closed (End end.NoProfile) link a b c reads writes quiets r w q suffers = tt
blames_closed (End (end.TooManyHops hops)) link a b c reads writes quiets r w q suffers = tt
blames_closed (End end.Closed) link a b c reads writes quiets r w q suffers = tt
blames_closed (End end.BadReply) link a b c reads writes quiets r w q suffers = tt
blames_closed (End end.WantMemory) link a b c reads writes quiets r w q suffers = tt

-- a link was opened and closed
pub later_visit : (a b c : Tally) (r w q : ℕ) → a.dial_faults ≤ b.dial_faults → b.read_faults ≡ a.read_faults → b.write_faults ≡ a.write_faults
    → b.quiets ≡ a.quiets → c.dial_faults ≡ b.dial_faults → IsRaised r b.read_faults c.read_faults → IsRaised w b.write_faults c.write_faults
    → IsRaised q b.quiets c.quiets → IsLater a c
later_visit a b c r w q dials reads writes quiets still rs ws qs = record {
  dials = omega (arith, dials, still);
  reads = omega (arith, reads, rs.later);
  writes = omega (arith, writes, ws.later);
  quiets = omega (arith, quiets, qs.later);
}

-- What the table gives, in the large.
use Rattle.std.specs.Prelude.{Bool, true, false}
use Rattle.poa_base.specs.declared.Verdict.TheVariants.{Serve, Preset, Locator, Incarnate, Refuse}
use Rattle.poa_choose.specs.declared.facts.Choice.{Choice}
use Rattle.poa_choose.specs.declared.facts.Choice.TheVariants.{Go}

-- a servant runs, or is brought to run
abbrev pub runs : Choice → Bool
runs (Go (Serve activation)) = true
runs (Go (Preset servant)) = true
runs (Go (Locator servant)) = true
runs (Go (Incarnate activation)) = true
runs _ = false

-- the client gets an exception
abbrev pub raises : Choice → Bool
raises (Go (Refuse exception)) = true
raises _ = false

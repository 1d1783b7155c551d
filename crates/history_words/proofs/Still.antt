-- What the entries that do no command leave: the adapters, and how many ids were made.
use Rattle.std.specs.Prelude.{◌≡◌, ℕ, List, Option, Some, None, refl}
use Rattle.poa_base.specs.declared.Config.{Config}
use Rattle.poa_base.specs.declared.Key.{Key}
use Rattle.poa_base.specs.declared.Command.{Command}
use Rattle.poa_base.specs.declared.Entry.{Entry}
use Rattle.poa_base.specs.declared.Entry.TheVariants.{Entered, Arrive, Filled, Left, Collect, Admit, Tried, Incarnated}
use Rattle.poa_base.specs.declared.Entry.TheVariants.{Run, Done, TakeOut, Etherealized, Abandon}
use Rattle.poa_base.specs.declared.Verdict.{Verdict}
use Rattle.poa_base.specs.declared.Verdict.TheVariants.{Serve, Preset, Locator, Incarnate, Try, Refuse, Forward, Addressing, Here, Unknown, Answer, Wait}
use Rattle.poa_base.specs.declared.Incarnation.{Incarnation}
use Rattle.poa_base.specs.declared.Incarnation.TheVariants.{Fresh, Named, Double, Forward as ForwardTo, Raise}
use Rattle.history_standing.specs.declared.node.Node.{Node}
use Rattle.history_standing.specs.declared.stage.Stage.{Stage}
use Rattle.history_standing.specs.declared.stage.Stage.TheVariants.{Free, Trying, Incarnating, Serving, Ran, Removing}
use Rattle.history_standing.specs.Logs.{command_done}
use Rattle.history_standing.specs.Standings.{Standing}
use Rattle.history_standing.specs.Changes.{with_admitted, without_flight, with_incarnated, with_etherealized}

-- the adapters, how many were created, and how many ids were made
abbrev pub kept_in : Standing → List Node × ℕ × ℕ
kept_in s = (s.nodes, s.count, s.made)

pub still_admitted : (r : ℕ) (key : Option Key) (v : Verdict) (s : Standing) → kept_in (with_admitted r key v s) ≡ kept_in s
still_admitted r None v s = refl
still_admitted r (Some key) (Serve n) s = refl
still_admitted r (Some key) (Preset n) s = refl
still_admitted r (Some key) (Locator n) s = refl
still_admitted r (Some key) (Incarnate n) s = refl
still_admitted r (Some key) Try s = refl
still_admitted r (Some key) (Refuse x) s = refl
still_admitted r (Some key) (Forward x) s = refl
still_admitted r (Some key) Addressing s = refl
still_admitted r (Some key) Here s = refl
still_admitted r (Some key) Unknown s = refl
still_admitted r (Some key) (Answer x) s = refl
still_admitted r (Some key) Wait s = refl

pub still_fewer : (r : Option ℕ) (s : Standing) → kept_in (without_flight r s) ≡ kept_in s
still_fewer None s = refl
still_fewer (Some r) s = refl

pub still_incarnated : (c : Config) (begun : Stage) (answer : Incarnation) (s : Standing) → kept_in (with_incarnated c begun answer s) ≡ kept_in s
still_incarnated c (Incarnating r n) (Fresh m) s = refl
still_incarnated c (Incarnating r n) (Named name) s = refl
still_incarnated c (Incarnating r n) Double s = refl
still_incarnated c (Incarnating r n) (ForwardTo endpoint) s = refl
still_incarnated c (Incarnating r n) (Raise exception) s = refl
still_incarnated c Free answer s = refl
still_incarnated c (Trying r) answer s = refl
still_incarnated c (Serving r) answer s = refl
still_incarnated c (Ran r) answer s = refl
still_incarnated c (Removing n) answer s = refl

pub still_etherealized : (begun : Stage) (s : Standing) → kept_in (with_etherealized begun s) ≡ kept_in s
still_etherealized Free s = refl
still_etherealized (Trying r) s = refl
still_etherealized (Incarnating r n) s = refl
still_etherealized (Serving r) s = refl
still_etherealized (Ran r) s = refl
still_etherealized (Removing n) s = refl

-- a command is done by an Admit
pub done_by : (past : List Entry) (e : Entry) (d : Command) → command_done past e ≡ Some d → (w : ℕ) × (r : ℕ) × (v : Verdict) × (e ≡ Admit w r v)
done_by past (Admit w r v) d done = (w, r, v, refl)
done_by past (Entered conn) d done = absurd (let e : None ≡ Some d = done in cc)
done_by past (Arrive conn size call) d done = absurd (let e : None ≡ Some d = done in cc)
done_by past (Filled conn size) d done = absurd (let e : None ≡ Some d = done in cc)
done_by past (Left conn) d done = absurd (let e : None ≡ Some d = done in cc)
done_by past (Collect conn r) d done = absurd (let e : None ≡ Some d = done in cc)
done_by past (Tried w answer) d done = absurd (let e : None ≡ Some d = done in cc)
done_by past (Incarnated w answer) d done = absurd (let e : None ≡ Some d = done in cc)
done_by past (Run w) d done = absurd (let e : None ≡ Some d = done in cc)
done_by past (Done w) d done = absurd (let e : None ≡ Some d = done in cc)
done_by past (TakeOut w m x) d done = absurd (let e : None ≡ Some d = done in cc)
done_by past (Etherealized w x y) d done = absurd (let e : None ≡ Some d = done in cc)
done_by past (Abandon w) d done = absurd (let e : None ≡ Some d = done in cc)

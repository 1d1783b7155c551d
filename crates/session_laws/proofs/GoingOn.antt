-- Whatever still comes, something is heard.
use Rattle.std.proofs.Common.{ℕ, List}
use Rattle.giop_frame.proofs.GoingOn.{framer_goes_on as some_given}
use Rattle.giop_msg.proofs.Saying.{each_says}
use Rattle.session_laws.specs.Expecting.{GoesOn}
use Rattle.session_laws.proofs.Messages.{framer_goes_on}
use Rattle.session_laws.proofs.Lines.{lines_go_on}
use Rattle.session_laws.specs.declared.ear.Ear.{Ear}
use Rattle.session_laws.specs.declared.ear.Ear.TheVariants.{Messages, Lines}
use Rattle.session_laws.specs.HearingPieces.{Intake, OfEar, OfIntake}

pub ear_goes_on : (ear : Ear) (text : List ℕ) → GoesOn (OfEar ear) text
ear_goes_on (Messages framer) text = (let given = some_given framer text in framer_goes_on each_says framer text (given.messages, given.end, given.gives))
ear_goes_on (Lines lines) text = lines_go_on lines text

pub intake_goes_on : (i : Intake) (text : List ℕ) → GoesOn (OfIntake i) text
intake_goes_on i text = ear_goes_on i.ear text

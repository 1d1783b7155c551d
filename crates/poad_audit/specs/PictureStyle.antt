-- How a picture looks: its style sheet, its hatches and its legend. Lengths are in tenths of a pixel.
use Rattle.std.specs.Prelude.{ℕ, List, ◌++◌, codes}
use Rattle.held_queue.specs.declared.Hold.{Hold}
use Rattle.held_queue.specs.declared.Hold.TheVariants as hold
use Rattle.poad_audit.specs.Story.{lines_by}
use Rattle.poad_audit.specs.PicturePhases.{causes, free_phases}
use Rattle.poad_audit.specs.declared.picture.phase.Phase.{Phase}
use Rattle.poad_audit.specs.declared.picture.phase.Phase.TheVariants as phase

-- the colour of what isn't held
unfoldable pub colour_rule : Phase → List ℕ
colour_rule phase.Waiting = codes "<style>.waiting{stroke:#d8d8d8}</style>\n"
colour_rule phase.Trying = codes "<style>.trying{stroke:#e6a3d7}</style>\n"
colour_rule phase.Bringing = codes "<style>.bringing{stroke:#b39ddb}</style>\n"
colour_rule phase.Serving = codes "<style>.serving{stroke:#90c4f0}</style>\n"
colour_rule phase.Running = codes "<style>.running{stroke:#1f6fb4}</style>\n"
colour_rule phase.Closing = codes "<style>.closing{stroke:#26734d}</style>\n"
colour_rule phase.Pending = codes "<style>.pending{stroke:#2e8b3d;stroke-width:14;stroke-dasharray:20 20}</style>\n"
colour_rule phase.Replying = codes "<style>.replying{stroke:#2e8b3d;stroke-width:14}</style>\n"
colour_rule other = codes "<style>.over{stroke:none}</style>\n"

-- and of what is held: a hatch for each cause
unfoldable pub hatch_rule : Hold → List ℕ
hatch_rule (hold.Manager m) = codes "<style>.manager{stroke:url(#manager)}</style>\n"
hatch_rule (hold.Trial k) = codes "<style>.trial{stroke:url(#trial)}</style>\n"
hatch_rule (hold.Turn k) = codes "<style>.turn{stroke:url(#turn)}</style>\n"
hatch_rule hold.Main = codes "<style>.main{stroke:url(#main)}</style>\n"
hatch_rule (hold.Id n) = codes "<style>.id{stroke:url(#id)}</style>\n"
hatch_rule (hold.Change k) = codes "<style>.change{stroke:url(#change)}</style>\n"

-- its frame, its ground and its ink
unfoldable pub hatch_frame : Hold → List ℕ
hatch_frame (hold.Manager m) = codes "<pattern id='manager' width='50' height='50' patternUnits='userSpaceOnUse' patternTransform='rotate(45)'>"
hatch_frame (hold.Trial k) = codes "<pattern id='trial' width='50' height='50' patternUnits='userSpaceOnUse' patternTransform='rotate(-45)'>"
hatch_frame (hold.Turn k) = codes "<pattern id='turn' width='40' height='50' patternUnits='userSpaceOnUse'>"
hatch_frame hold.Main = codes "<pattern id='main' width='50' height='40' patternUnits='userSpaceOnUse'>"
hatch_frame (hold.Id n) = codes "<pattern id='id' width='50' height='50' patternUnits='userSpaceOnUse' patternTransform='rotate(45)'>"
hatch_frame (hold.Change k) = codes "<pattern id='change' width='40' height='40' patternUnits='userSpaceOnUse'>"

unfoldable pub hatch_fill : Hold → List ℕ
hatch_fill (hold.Manager m) = codes "<path fill='#fde0dc' d='M0 0H50V50H0z'/><path fill='#d32f2f' d='M0 0H20V50H0z'/></pattern>\n"
hatch_fill (hold.Trial k) = codes "<path fill='#fbe4f5' d='M0 0H50V50H0z'/><path fill='#ad1487' d='M0 0H20V50H0z'/></pattern>\n"
hatch_fill (hold.Turn k) = codes "<path fill='#fff0d6' d='M0 0H50V50H0z'/><path fill='#e07b00' d='M0 0H16V50H0z'/></pattern>\n"
hatch_fill hold.Main = codes "<path fill='#efe6e0' d='M0 0H50V50H0z'/><path fill='#7a5548' d='M0 0H50V18H0z'/></pattern>\n"
hatch_fill (hold.Id n) = codes "<path fill='#dff3f1' d='M0 0H50V50H0z'/><path fill='#00796b' d='M0 0H12V50H0zM0 0H50V12H0z'/></pattern>\n"
hatch_fill (hold.Change k) = codes "<path fill='#eef2cf' d='M0 0H50V50H0z'/><path fill='#7a8500' d='M4 4H24V24H4z'/></pattern>\n"

-- a sample of each look, with its words
unfoldable pub free_sample : Phase → List ℕ
free_sample phase.Waiting = codes "<path class='waiting' d='M100 300H400'/><text x='450' y='330'>waits for a worker</text>\n"
free_sample phase.Serving = codes "<path class='serving' d='M2300 300H2600'/><text x='2650' y='330'>a worker has it</text>\n"
free_sample phase.Running = codes "<path class='running' d='M4500 300H4800'/><text x='4850' y='330'>its servant ran</text>\n"
free_sample phase.Trying = codes "<path class='trying' d='M6700 300H7000'/><text x='7050' y='330'>the adapter activator is asked</text>\n"
free_sample phase.Bringing = codes "<path class='bringing' d='M8900 300H9200'/><text x='9250' y='330'>the servant activator is asked</text>\n"
free_sample phase.Replying = codes "<path class='replying ended' d='M11100 300H11400'/><text x='11450' y='330'>its reply waits to be taken</text>\n"
free_sample phase.Pending = codes "<path class='pending ended' d='M13300 300H13600'/><text x='13650' y='330'>its answer waits</text>\n"
free_sample phase.Closing = codes "<path class='closing' d='M13300 440H13600'/><text x='13650' y='470'>its reply was taken before its end</text>\n"
free_sample other = codes ""

unfoldable pub held_sample : Hold → List ℕ
held_sample (hold.Manager m) = codes "<path class='manager' d='M100 440H400'/><text x='450' y='470'>held: a manager is HOLDING</text>\n"
held_sample (hold.Trial k) = codes "<path class='trial' d='M2300 440H2600'/><text x='2650' y='470'>held: a trial is in flight</text>\n"
held_sample (hold.Turn k) = codes "<path class='turn' d='M4500 440H4800'/><text x='4850' y='470'>held: one at a time</text>\n"
held_sample hold.Main = codes "<path class='main' d='M6700 440H7000'/><text x='7050' y='470'>held: for the first worker</text>\n"
held_sample (hold.Id n) = codes "<path class='id' d='M8900 440H9200'/><text x='9250' y='470'>held: its object comes or goes</text>\n"
held_sample (hold.Change k) = codes "<path class='change' d='M11100 440H11400'/><text x='11450' y='470'>held: the activator is busy</text>\n"

abbrev pub free_look : Phase → List ℕ
free_look p = colour_rule p ++ free_sample p

abbrev pub held_look : Hold → List ℕ
held_look h = hatch_frame h ++ (hatch_fill h ++ (hatch_rule h ++ held_sample h))

-- bars are strokes, somewhat thinner than a lane is high; a reply is a thin one, with an arrow's head where it was taken
unfoldable pub text_rules : List ℕ
text_rules = codes "<style>\ntext{font-family:sans-serif;font-size:82px;fill:#222}\n.lane{font-weight:bold}\n.tick{fill:#666;text-anchor:middle}\n"

unfoldable pub line_rules : List ℕ
line_rules = codes "path{stroke-width:80}\n.grid{stroke:#ddd;stroke-width:5}\n.row{stroke:#eee;stroke-width:5}\n"

unfoldable pub head_rule : List ℕ
head_rule = codes ".ended.replying,.ended.pending{marker-end:url(#head)}\n</style>\n"

unfoldable pub head_frame : List ℕ
head_frame = codes "<marker id='head' viewBox='0 0 10 10' refX='10' refY='5' markerWidth='70' markerHeight='70' markerUnits='userSpaceOnUse' orient='auto'>"

unfoldable pub head_fill : List ℕ
head_fill = codes "<path fill='#2e8b3d' d='M0 0L10 5L0 10z'/></marker>\n<path fill='#fff' d='M0 0H16000V99999999H0z'/>\n"

unfoldable pub sheet : List ℕ
sheet = text_rules ++ (line_rules ++ (head_rule ++ (head_frame ++ head_fill)))

-- each look, with its words
unfoldable pub legend : List ℕ
legend = lines_by free_look free_phases ++ lines_by held_look causes

-- The lanes of a picture: a row for each call, by connections, for each worker and for each activation.
use Rattle.std.specs.Prelude.{ℕ, ◌+◌, ◌==◌, nat_lt, Bool, false, if◌then◌else◌, List, [], ◌∷◌, ◌++◌, length, map, filter, codes, decimal, Option, Some, None}
use Rattle.std.specs.List.{flat_map, insert, list_any}
use Rattle.journal_explain.specs.declared.CallName.{CallName}
use Rattle.journal_explain.specs.declared.Trail.{Trail}
use Rattle.poad_audit.specs.Story.{lines_by}
use Rattle.poad_audit.specs.PicturePhases.{is_work}
use Rattle.poad_audit.specs.PictureBars.{bar_line}
use Rattle.poad_audit.specs.declared.picture.band.Band.{Band}
use Rattle.poad_audit.specs.declared.picture.band.Band.TheVariants.{Workers, Activations}
use Rattle.poad_audit.specs.declared.picture.bar.Bar.{Bar}
use Rattle.poad_audit.specs.declared.picture.lane.Lane.{Lane}
use Rattle.poad_audit.specs.declared.picture.lane.Lane.TheVariants as lane
use Rattle.poad_audit.specs.declared.picture.window.Window.{Window}

-- the calls that have a bar
abbrev pub is_seen : List Bar → Trail → Bool
is_seen bars t = list_any (λ b. b.call == t.name.arrival) bars

abbrev pub names_in : List Bar → List Trail → List CallName
names_in bars trails = map (λ t. t.name) (filter (is_seen bars) trails)

-- the worker or the activation that is at a bar
abbrev pub number_on : Band → Bar → Option ℕ
number_on Workers b = if is_work b.phase then b.worker else None
number_on Activations b = if is_work b.phase then b.activation else None

-- numbers in order, each once
abbrev pub inserted : ℕ → List ℕ → List ℕ
inserted n known = insert known (length (filter (λ x. nat_lt x n) known)) n

abbrev pub entered : ℕ → List ℕ → List ℕ
entered n known = if list_any (λ x. x == n) known then known else inserted n known

abbrev pub entered_if : Option ℕ → List ℕ → List ℕ
entered_if None known = known
entered_if (Some n) known = entered n known

abbrev pub numbers_by : {A : Type 0} → (A → Option ℕ) → List ℕ → List A → List ℕ
numbers_by number known [] = known
numbers_by number known (x ∷ more) = numbers_by number (entered_if (number x) known) more

-- a connection and its calls in the order of their arriving
abbrev pub call_lane : ℕ → CallName → List Lane
call_lane conn name = if name.conn == conn then lane.Call name ∷ [] else []

abbrev pub connection_lanes : List CallName → ℕ → List Lane
connection_lanes names conn = lane.Connection conn ∷ flat_map (call_lane conn) names

abbrev pub all_connections : List CallName → List Lane
all_connections names = flat_map (connection_lanes names) (numbers_by (λ n. Some n.conn) [] names)

-- all workers, or all activations
abbrev pub band_lanes : Band → List Bar → List Lane
band_lanes band bars = lane.Head band ∷ map (lane.One band) (numbers_by (number_on band) [] bars)

abbrev pub lanes_in : List CallName → List Bar → List Lane
lanes_in names bars = all_connections names ++ (band_lanes Workers bars ++ band_lanes Activations bars)

abbrev pub is_number : ℕ → Option ℕ → Bool
is_number n None = false
is_number n (Some m) = m == n

-- the bar lies on the lane
abbrev pub is_on : Lane → Bar → Bool
is_on (lane.Connection conn) b = false
is_on (lane.Call name) b = b.call == name.arrival
is_on (lane.Head band) b = false
is_on (lane.One band n) b = is_number n (number_on band b)

-- what stands before it
abbrev pub call_label : Option ℕ → ℕ → List ℕ
call_label (Some id) arrival = codes "call " ++ (decimal arrival ++ (codes ", id " ++ decimal id))
call_label None arrival = codes "call " ++ (decimal arrival ++ codes ", a command")

abbrev pub band_label : Band → List ℕ
band_label Workers = codes "workers"
band_label Activations = codes "activations"

abbrev pub one_label : Band → ℕ → List ℕ
one_label Workers n = codes "worker " ++ decimal n
one_label Activations n = codes "activation " ++ decimal n

abbrev pub head_text : List ℕ → List ℕ
head_text label = codes "<text class='lane' x='100' y='80'>" ++ (label ++ codes "</text>\n")

abbrev pub row_text : List ℕ → List ℕ
row_text label = codes "<path class='row' d='M1500 50H15500'/><text x='200' y='80'>" ++ (label ++ codes "</text>\n")

unfoldable pub label_text : Lane → List ℕ
label_text (lane.Connection conn) = head_text (codes "connection " ++ decimal conn)
label_text (lane.Call name) = row_text (call_label name.id name.arrival)
label_text (lane.Head band) = head_text (band_label band)
label_text (lane.One band n) = row_text (one_label band n)

abbrev pub bar_on : Window → Lane → Bar → List ℕ
bar_on w l b = if is_on l b then bar_line w b else []

-- a lane is a hundred high
unfoldable pub lane_head : ℕ → List ℕ
lane_head i = codes "<g transform='translate(0 " ++ (decimal i ++ codes "00)'>\n")

unfoldable pub lane_text : Window → List Bar → ℕ → Lane → List ℕ
lane_text w bars i l = lane_head i ++ (label_text l ++ (lines_by (bar_on w l) bars ++ codes "</g>\n"))

-- each below the ones before it
abbrev pub lanes_text : Window → List Bar → ℕ → List Lane → List ℕ
lanes_text w bars i [] = []
lanes_text w bars i (l ∷ more) = lane_text w bars i l ++ lanes_text w bars (i + 1) more

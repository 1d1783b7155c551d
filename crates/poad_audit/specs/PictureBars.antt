-- The bars of a picture: which phase a call was in, from which entry to which.
use Rattle.std.specs.Prelude.{ℕ, ◌+◌, ◌-◌, ◌*◌, ◌/◌, min, max, nat_lt, Bool, not, ◌&&◌, if◌then◌else◌, List, [], ◌∷◌, ◌++◌, codes, decimal, Option, Some, None}
use Rattle.std.specs.List.{flat_map}
use Rattle.poa_history.specs.Replies.{asks}
use Rattle.journal_explain.specs.declared.Event.{Event}
use Rattle.journal_explain.specs.declared.Event.TheVariants as event
use Rattle.journal_explain.specs.declared.Step.{Step}
use Rattle.journal_explain.specs.declared.Trail.{Trail}
use Rattle.poad_audit.specs.PicturePhases.{activation_of, is_over, is_phase, phase_by, phase_text, phase_word}
use Rattle.poad_audit.specs.declared.picture.phase.Phase.TheVariants.{Over}
use Rattle.poad_audit.specs.declared.picture.bar.Bar.{Bar}
use Rattle.poad_audit.specs.declared.picture.window.Window.{Window}

-- before anything is seen of a call
abbrev pub unseen : ℕ → Bar
unseen call = record { call = call; phase = Over; worker = None; activation = None; begin = 0; end = None }

-- who admitted the call last, and for which activation
abbrev pub worker_by : Event → Option ℕ → Option ℕ
worker_by (event.Admitted worker row v service) before = Some worker
worker_by other before = before

abbrev pub activation_by : Event → Option ℕ → Option ℕ
activation_by (event.Admitted worker row v service) before = activation_of v
activation_by other before = before

-- the bar ends with this entry
abbrev pub ended : ℕ → Bar → Bar
ended entry b = record b { end = Some entry }

-- and the next one begins with this step
abbrev pub next : Bool → Step → Bar → Bar
next asked s b = record {
  call = b.call;
  phase = phase_by asked b.phase s.event;
  worker = worker_by s.event b.worker;
  activation = activation_by s.event b.activation;
  begin = s.entry;
  end = None;
}

-- where it begins a phase
abbrev pub bars_ended : Step → Bar → List Bar
bars_ended s b = if is_phase s.event then ended s.entry b ∷ [] else []

abbrev pub bar_after : Bool → Step → Bar → Bar
bar_after asked s b = if is_phase s.event then next asked s b else b

abbrev pub bars_by : Bool → Bar → List Step → List Bar
bars_by asked b [] = b ∷ []
bars_by asked b (s ∷ more) = bars_ended s b ++ bars_by asked (bar_after asked s b) more

-- the bars of a call: each of its phases, from the entry that began it to the entry that ended it, if there is one
abbrev pub bars_of : Trail → List Bar
bars_of t = bars_by (asks (Some t.call)) (unseen t.name.arrival) t.steps.items

abbrev pub bars_in : List Trail → List Bar
bars_in trails = flat_map bars_of trails

-- the last entry with which something happened to a call
abbrev pub latest : ℕ → List Bar → ℕ
latest entry [] = entry
latest entry (b ∷ more) = latest (max entry b.begin) more

-- the entries that a picture shows, from one on so many more; a journal has fewer than 2 ^ 28 of them
abbrev pub window : ℕ → ℕ → Window
window from to = record { from = min from 999999999; span = min (to - from) 999999 }

-- how far in the window an entry lies; what hasn't ended goes on to its end
abbrev pub offset : Window → ℕ → ℕ
offset w entry = min (entry - w.from) (w.span + 1)

abbrev pub end_offset : Window → Option ℕ → ℕ
end_offset w None = w.span + 1
end_offset w (Some entry) = offset w entry

-- the window is 14,000 wide, and begins at 1,500
abbrev pub place : Window → ℕ → ℕ
place w o = 1500 + o * 14000 / (w.span + 1)

-- something of it lies in the window
abbrev pub is_shown : Window → Bar → Bool
is_shown w b = not (is_over b.phase) && nat_lt (offset w b.begin) (end_offset w b.end)

-- the window shows its end
abbrev pub ending_word : Window → Option ℕ → List ℕ
ending_word w end = if nat_lt (end_offset w end) (w.span + 1) then codes "ended" else codes "open"

-- how it looks, from where to where, and of which call it is
abbrev pub bar_head : Window → Bar → List ℕ
bar_head w b = codes "<path class='" ++ (phase_word b.phase ++ (codes " " ++ (ending_word w b.end
    ++ (codes "' d='M" ++ (decimal (place w (offset w b.begin)) ++ (codes " 50H" ++ (decimal (place w (end_offset w b.end))
    ++ (codes "'><title>call " ++ (decimal b.call ++ codes ": ")))))))))

abbrev pub tail_by : ℕ → Option ℕ → List ℕ
tail_by begin (Some end) = codes ", from entry " ++ (decimal begin ++ (codes " to " ++ (decimal end ++ codes "</title></path>\n")))
tail_by begin None = codes ", from entry " ++ (decimal begin ++ codes " on</title></path>\n")

-- and from which entry to which
abbrev pub bar_tail : Bar → List ℕ
bar_tail b = tail_by b.begin b.end

abbrev pub bar_line : Window → Bar → List ℕ
bar_line w b = bar_head w b ++ (phase_text b.phase ++ bar_tail b)

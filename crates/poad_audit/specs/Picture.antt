-- The picture of calls that `explain --picture` draws, as SVG.
use Rattle.std.specs.Prelude.{ℕ, ◌+◌, ◌*◌, min, nat_lt, if◌then◌else◌, List, [], ◌∷◌, ◌++◌, length, filter, codes, decimal}
use Rattle.journal_explain.specs.declared.Trail.{Trail}
use Rattle.poad_audit.specs.Story.{lines_by}
use Rattle.poad_audit.specs.PictureStyle.{legend, sheet}
use Rattle.poad_audit.specs.PictureBars.{bars_in, is_shown, latest, place, window}
use Rattle.poad_audit.specs.PictureLanes.{lanes_in, lanes_text, names_in}
use Rattle.poad_audit.specs.declared.picture.bar.Bar.{Bar}
use Rattle.poad_audit.specs.declared.picture.lane.Lane.{Lane}
use Rattle.poad_audit.specs.declared.picture.window.Window.{Window}

-- as wide as 1,600 pixels, and as high as the lanes, with room for the legend and the scale
unfoldable pub frame : ℕ → List ℕ
frame rows = codes "<svg xmlns='http://www.w3.org/2000/svg' width='1600' height='" ++ (decimal (rows + 10) ++ (codes "0' viewBox='0 0 16000 "
    ++ (decimal (rows + 10) ++ codes "00'>\n")))

unfoldable pub title : Window → ℕ → List ℕ
title w calls = codes "<text class='lane' x='100' y='170'>entries " ++ (decimal w.from ++ (codes " to " ++ (decimal (w.from + w.span)
    ++ (codes ", " ++ (decimal calls ++ codes " calls</text>\n")))))

-- how many entries lie between two lines of the scale: there are at most twenty lines
abbrev pub pitch : ℕ → ℕ
pitch span =
    if nat_lt span 20 then 1 else if nat_lt span 100 then 5 else if nat_lt span 200 then 10 else if nat_lt span 1000 then 50
    else if nat_lt span 2000 then 100 else if nat_lt span 10000 then 500 else if nat_lt span 20000 then 1000
    else if nat_lt span 100000 then 5000 else if nat_lt span 200000 then 10000 else 50000

unfoldable pub line_head : ℕ → List ℕ
line_head x = codes "<g transform='translate(" ++ (decimal x ++ codes " 0)'>")

unfoldable pub line_tail : ℕ → ℕ → List ℕ
line_tail rows entry = codes "<path class='grid' d='M0 0V" ++ (decimal rows
    ++ (codes "00'/><text class='tick' y='-30'>" ++ (decimal entry ++ codes "</text></g>\n")))

abbrev pub line_text : Window → ℕ → ℕ → List ℕ
line_text w rows o = line_head (place w o) ++ line_tail rows (w.from + o)

abbrev pub line_at : Window → ℕ → ℕ → List ℕ
line_at w rows k = if nat_lt w.span (k * pitch w.span) then [] else line_text w rows (k * pitch w.span)

abbrev pub twenty : List ℕ
twenty = 0 ∷ 1 ∷ 2 ∷ 3 ∷ 4 ∷ 5 ∷ 6 ∷ 7 ∷ 8 ∷ 9 ∷ 10 ∷ 11 ∷ 12 ∷ 13 ∷ 14 ∷ 15 ∷ 16 ∷ 17 ∷ 18 ∷ 19 ∷ []

unfoldable pub scale : Window → ℕ → List ℕ
scale w rows = lines_by (line_at w rows) twenty

-- what stands above, and below it the lanes with these bars
unfoldable pub front : Window → ℕ → List ℕ
front w calls = sheet ++ (title w calls ++ legend)

unfoldable pub body : Window → List Bar → List Lane → List ℕ
body w bars lanes =
    codes "<g transform='translate(0 800)'>\n" ++ (scale w (length lanes) ++ (lanes_text w bars 0 lanes ++ codes "</g>\n</svg>\n"))

unfoldable pub drawing : Window → ℕ → List Bar → List Lane → List ℕ
drawing w calls bars lanes = frame (length lanes) ++ (front w calls ++ body w bars lanes)

unfoldable pub picture_in : Window → List Bar → List Trail → List ℕ
picture_in w bars trails = (let names = names_in bars trails in drawing w (length names) bars (lanes_in names bars))

-- of these calls from the entry `from` to the entry `to`, or to the last with which something happened to one of them
unfoldable pub picture_text : List Trail → ℕ → ℕ → List ℕ
picture_text trails from to =
    (let w = window from (min to (latest 0 (bars_in trails))) in picture_in w (filter (is_shown w) (bars_in trails)) trails)

-- Lines that were read one by one.
use Rattle.std.proofs.Common.{◌≡◌, ℕ, ◌+◌, ◌<◌, ◌≤◌, Bool, true, false, cond, List, [], ◌∷◌, ◌++◌, length, Result, Ok, Err, refl, sym, ap, ◌∙◌, arith, append_assoc, append-nil}
use Rattle.poa_base.specs.declared.ScriptLine.{ScriptLine}
use Rattle.text_words.specs.Cuts.{lines_of}
use Rattle.replay_script.specs.declared.connections.Connection.{Connection}
use Rattle.replay_script.specs.declared.script.Script.{Script}
use Rattle.replay_script.specs.declared.step.ScriptStep.{ScriptStep}
use Rattle.replay_script.specs.Connections.{role_of, entered_by, entered_by_line, connections}
use Rattle.replay_script.specs.Reading.{line_of}
use Rattle.replay_script.specs.Traffic.{noted_by, allowed_by}
use Rattle.replay_script.specs.Whole.{steps_of, numbered, behind_steps, line_at, with_line, script_from, script_of}
use Rattle.replay_script.proofs.Rows.{Known, known_none, known_further, stands}

behind_none : (more : Result Script ℕ) → behind_steps [] more ≡ more
behind_none (Err k) = refl
behind_none (Ok script) = refl

behind_both : (a b : List ScriptStep) (more : Result Script ℕ) → behind_steps (a ++ b) more ≡ behind_steps a (behind_steps b more)
behind_both a b (Err k) = refl
behind_both a b (Ok script) = ap (λ all. Ok (record { connections = script.connections; steps = all })) (simp append_assoc)

-- lines were read of a text into rows, names and steps; the next line is `number`, where `rest` begins
pub record LinesRead (text : List ℕ) (rows : List Connection) (names : List (List ℕ)) (steps : List ScriptStep) (number : ℕ) (rest : List ℕ) : Type 0 where
  pub past : List ScriptLine
  pub known : Known rows names past
  pub read : behind_steps steps (script_from past number (lines_of rest)) ≡ script_of text
  pub bound : number + length rest ≤ 1 + length text

pub lines_begin : (text : List ℕ) (rows : List Connection) (names : List (List ℕ)) → rows ≡ [] → names ≡ [] → LinesRead text rows names [] 1 text
lines_begin text rows names none nameless = record {
  past = [];
  known = rw none (rw nameless known_none);
  read = behind_none (script_from [] 1 (lines_of text));
  bound = omega arith;
}

-- what the next line gives
line_next : (text : List ℕ) (rows : List Connection) (names : List (List ℕ)) (steps : List ScriptStep) (number : ℕ) (rest l after : List ℕ)
    (so_far : LinesRead text rows names steps number rest)
    → lines_of rest ≡ l ∷ lines_of after
    → script_of text ≡ behind_steps steps
    (with_line so_far.past number (λ line. script_from (line ∷ so_far.past) (number + 1) (lines_of after)) (line_at number (line_of l)))
line_next text rows names steps number rest l after so_far cut = sym so_far.read ∙ ap (λ ls. behind_steps steps (script_from so_far.past number ls)) cut

-- and where it is a line
pub line_read : (text : List ℕ) (rows : List Connection) (names : List (List ℕ)) (steps : List ScriptStep) (number : ℕ) (rest l after : List ℕ) (line : ScriptLine) (test : Bool)
    (so_far : LinesRead text rows names steps number rest)
    → lines_of rest ≡ l ∷ lines_of after → line_at number (line_of l) ≡ Ok line → allowed_by rows (role_of line) ≡ test
    → script_of text ≡ behind_steps steps
    (cond test
    (behind_steps (numbered number (steps_of (connections (line ∷ so_far.past)) line)) (script_from (line ∷ so_far.past) (number + 1) (lines_of after)))
    (Err number))
line_read text rows names steps number rest l after line test so_far cut is allows =
    line_next text rows names steps number rest l after so_far cut
    ∙ ap (λ r. behind_steps steps (with_line so_far.past number (λ line. script_from (line ∷ so_far.past) (number + 1) (lines_of after)) r)) is
    ∙ ap (λ b. behind_steps steps
    (cond b (behind_steps (numbered number (steps_of (connections (line ∷ so_far.past)) line)) (script_from (line ∷ so_far.past) (number + 1) (lines_of after)))
    (Err number)))
    (sym (stands rows names so_far.past line so_far.known) ∙ allows)

-- one more line was read
pub lines_step : (text : List ℕ) (rows rows' : List Connection) (names names' : List (List ℕ)) (steps steps' : List ScriptStep) (number : ℕ) (rest l after : List ℕ) (line : ScriptLine)
    → LinesRead text rows names steps number rest → lines_of rest ≡ l ∷ lines_of after → length after < length rest
    → line_at number (line_of l) ≡ Ok line → allowed_by rows (role_of line) ≡ true
    → rows' ≡ noted_by (role_of line) rows → names' ≡ entered_by (entered_by_line line) names
    → steps' ≡ steps ++ numbered number (steps_of names' line) → LinesRead text rows' names' steps' (number + 1) after
lines_step text rows rows' names names' steps steps' number rest l after line so_far cut shorter is allows further entered put =
    let known : Known rows' names' (line ∷ so_far.past) = rw further (rw entered (known_further rows names so_far.past line so_far.known)) in
    record {
      past = line ∷ so_far.past;
      known = known;
      read =
          ap (λ all. behind_steps all (script_from (line ∷ so_far.past) (number + 1) (lines_of after)))
          (put ∙ ap (λ ns. steps ++ numbered number (steps_of ns line)) known.named)
          ∙ behind_both steps (numbered number (steps_of (connections (line ∷ so_far.past)) line))
          (script_from (line ∷ so_far.past) (number + 1) (lines_of after))
          ∙ sym (line_read text rows names steps number rest l after line true so_far cut is allows);
      bound = omega (arith, so_far.bound);
    }

-- a line is outside the grammar
pub lines_refused : (text : List ℕ) (rows : List Connection) (names : List (List ℕ)) (steps : List ScriptStep) (number : ℕ) (rest l after : List ℕ) (k : ℕ)
    → LinesRead text rows names steps number rest → lines_of rest ≡ l ∷ lines_of after → line_at number (line_of l) ≡ Err k → script_of text ≡ Err k
lines_refused text rows names steps number rest l after k so_far cut is =
    line_next text rows names steps number rest l after so_far cut
    ∙ ap (λ r. behind_steps steps (with_line so_far.past number (λ line. script_from (line ∷ so_far.past) (number + 1) (lines_of after)) r)) is

-- a line may not stand behind those before
pub lines_stopped : (text : List ℕ) (rows : List Connection) (names : List (List ℕ)) (steps : List ScriptStep) (number : ℕ) (rest l after : List ℕ) (line : ScriptLine)
    → LinesRead text rows names steps number rest → lines_of rest ≡ l ∷ lines_of after → line_at number (line_of l) ≡ Ok line
    → allowed_by rows (role_of line) ≡ false → script_of text ≡ Err number
lines_stopped text rows names steps number rest l after line so_far cut is stops = line_read text rows names steps number rest l after line false so_far cut is stops

-- no line is left
pub lines_ended : (text : List ℕ) (rows : List Connection) (names : List (List ℕ)) (steps : List ScriptStep) (number : ℕ) (rest : List ℕ)
    → LinesRead text rows names steps number rest → lines_of rest ≡ [] → script_of text ≡ Ok (record { connections = names; steps = steps })
lines_ended text rows names steps number rest so_far none =
    sym so_far.read ∙ ap (λ ls. behind_steps steps (script_from so_far.past number ls)) none
    ∙ ap (λ all. Ok (record { connections = connections so_far.past; steps = all })) (append-nil steps)
    ∙ ap (λ ns. Ok (record { connections = ns; steps = steps })) (sym so_far.known.named)

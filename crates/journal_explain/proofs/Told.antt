-- What an explanation tells of a whole text.
use Rattle.std.proofs.Common.{◌≡◌, ℕ, ◌+◌, ◌^◌, ◌<◌, ◌≤◌, List, ◌∷◌, length, reverse, Option, Some, None, Ok, Err, IfSome, refl, sym, ◌∙◌, ap, subst, arith, length-append}
use Rattle.std.proofs.lemmas.List.{length-reverse}
use Rattle.std.proofs.lemmas.List.Elements.{All-weaker}
use Rattle.poa_base.specs.declared.Config.{Config}
use Rattle.poa_base.specs.declared.Entry.{Entry}
use Rattle.poa_base.specs.Store.{states, stored as stored_in}
use Rattle.poa_history.specs.declared.Givens.{Givens}
use Rattle.poa_history.specs.Legal.{IsLegal}
use Rattle.poa_history.specs.Life.{Life, begun, givens_of, opened}
use Rattle.text_words.specs.Cuts.{lines_of, words_of}
use Rattle.poa_journal.specs.declared.Opening.{Opening}
use Rattle.poa_journal.specs.declared.fault.JournalFault.{JournalFault}
use Rattle.poa_journal.specs.declared.fault.JournalFault.TheVariants.{BadLine, WantMemory}
use Rattle.poa_journal.specs.Whole.{JournalReads, contents_of, contents_of_lines, entries_of, front_seen, head_of, rows_front, with_entries, with_front, with_run}
use Rattle.journal_audit.proofs.Numbered.{numbered}
use Rattle.journal_audit.specs.declared.Refusal.{Refusal}
use Rattle.journal_audit.specs.Auditing.{Finds, IsRefused}
use Rattle.journal_explain.specs.declared.selection.Selection.{Selection}
use Rattle.journal_explain.specs.declared.explainer.Explainer.{Explainer}
use Rattle.journal_explain.specs.declared.explanation.Explanation.{Explanation}
use Rattle.journal_explain.specs.declared.watch.Watch.{Watch}
use Rattle.journal_explain.specs.Explaining.{ExplainsFront, ExplainsText, HasSeen, HasWatched, HearsLines, IsFront, IsTold, LinesHeard, SeesWhereLegal, TellsCalls, TellsWhereLegal}

-- what happened in a run is told of its journal
module _ (g : Givens) (entries : List Entry) (life : Life) (given : givens_of life ≡ g) (w : Watch) where
  told : HasWatched life w → TellsCalls life.config life.run (opened life) life.history w
  told sees = record {
    names = sees.names;
    told =
        All-weaker (HasSeen life) (IsTold life.config life.run (opened life) life.history)
        (λ t seen. record { call = seen.call; adapter = seen.adapter; steps = seen.steps }) w.trails.items sees.each;
    object = record { opens = sees.object.opens; stored = sees.object.stored; changes = sees.object.changes };
    came = sees.came;
  }

  moved : TellsCalls life.config life.run (opened life) life.history w → life.history ≡ reverse entries
      → TellsCalls g.config g.run (stored_in g.opening) (reverse entries) w
  moved tells history =
      subst (λ (x : Givens). TellsCalls x.config x.run (stored_in x.opening) (reverse entries) w) given
      (subst (λ (h : List Entry). TellsCalls life.config life.run (opened life) h w) history tells)

  legal : life.history ≡ reverse entries → IsLegal life.config life.run life.limit life.history
      → IsLegal g.config g.run g.limit (reverse entries)
  legal history is =
      subst (λ (x : Givens). IsLegal x.config x.run x.limit (reverse entries)) given
      (subst (λ (h : List Entry). IsLegal life.config life.run life.limit h) history is)

  pub tells_where : (r : Option Refusal) → Finds entries life r → SeesWhereLegal r life w
      → TellsWhereLegal g.config g.run g.limit (stored_in g.opening) entries r w
  tells_where None found sees = (legal found.0 found.1, moved (told sees) found.0)
  tells_where (Some r) found sees = subst (λ (x : Givens). IsRefused x.config x.run x.limit entries r) given found

-- the line of the entry that is told
line_of : (g : Givens) (entries : List Entry) (line most : ℕ) (r : Option Refusal) (w : Watch)
    → TellsWhereLegal g.config g.run g.limit (stored_in g.opening) entries r w → line + length entries ≤ most → most < 2 ^ 64
    → IfSome r (λ (it : Refusal). line + it.entry < 2 ^ 64)
line_of g entries line most None w told within room = tt
line_of g entries line most (Some r) w told within room =
    let first = told.first in
    omega (arith, within, room, first.stands, ap length first.parts, length-append (reverse first.past) (first.bad ∷ first.behind), length-reverse first.past)

-- a text that isn't read to its entries
module _ (c : Config) (limit : ℕ) (which : Selection) (text head : List ℕ) (rest : List (List ℕ)) (cut : lines_of text ≡ head ∷ rest) where
  pub head_refused : (fault : JournalFault) → JournalReads (λ (run : ℕ). run) (Err fault) (head_of (words_of head))
      → ExplainsText c limit which text (Err fault)
  head_refused (BadLine k) is = ap contents_of_lines cut ∙ ap (with_run rest) is
  head_refused WantMemory is = tt

  pub rows_refused : (run : ℕ) → head_of (words_of head) ≡ Ok run → (fault : JournalFault)
      → JournalReads front_seen (Err fault) (rows_front 2 None rest) → ExplainsText c limit which text (Err fault)
  rows_refused run is_run (BadLine k) is = ap contents_of_lines cut ∙ (ap (with_run rest) is_run ∙ ap (with_front run) is)
  rows_refused run is_run WantMemory is = tt

-- an explanation of a text with this front
module _ (c : Config) (limit : ℕ) (which : Selection) (run : ℕ) (opening : Opening) (first last : Explainer)
    (began : first.auditor.run ≡ begun c run limit opening.store) where
  before : (text : List ℕ) → IsFront text run opening
      → contents_of text ≡ with_entries run (states opening.store) (entries_of opening.line (lines_of opening.rest.now))
  before text is = ap contents_of_lines is.lines ∙ (ap (with_run is.rows) is.run_is ∙ ap (with_front run) is.opening_is)

  pub unheard : (fault : JournalFault) → HearsLines opening.line opening.rest.now first (Err fault) last
      → ExplainsFront c limit which run opening (Err fault)
  unheard (BadLine k) bad text is = before text is ∙ ap (with_entries run (states opening.store)) bad
  unheard WantMemory bad text is = tt

  pub explained : (count : ℕ) → LinesHeard opening.line opening.rest.now first count last → first.watch.asked ≡ which
      → opening.line + length opening.rest.now < 2 ^ 64 → (x : Explanation) → x.first_line ≡ opening.line → x.refusal ≡ last.auditor.refusal
      → x.watch ≡ last.watch → ExplainsFront c limit which run opening (Ok x)
  explained count heard named room x line_is refusal_is watch_is text is =
      let g : Givens = givens_of (begun c run limit opening.store) in
      let given : givens_of last.auditor.run ≡ g = heard.given ∙ ap givens_of began in
      let told : TellsWhereLegal c run limit (stored_in opening.store) heard.entries last.auditor.refusal last.watch =
      tells_where g heard.entries last.auditor.run given last.watch last.auditor.refusal heard.taken.found heard.sees in
      let tells : TellsWhereLegal c run limit (stored_in opening.store) heard.entries x.refusal x.watch =
      subst (λ (w : Watch). TellsWhereLegal c run limit (stored_in opening.store) heard.entries x.refusal w) (sym watch_is)
      (subst (λ (r : Option Refusal). TellsWhereLegal c run limit (stored_in opening.store) heard.entries r last.watch) (sym refusal_is) told) in
      record {
        journal = record { run = run; rows = states opening.store; entries = heard.entries };
        reads = before text is ∙ ap (with_entries run (states opening.store)) heard.read;
        opening = opening.store;
        rows = refl;
        first = line_is ∙ numbered 2 None is.rows (front_seen opening) is.opening_is;
        asked = ap (λ (w : Watch). w.asked) watch_is ∙ (heard.same ∙ named);
        tells = tells;
        numbered =
            subst (λ (line : ℕ). IfSome x.refusal (λ (r : Refusal). line + r.entry < 2 ^ 64)) (sym line_is)
            (line_of g heard.entries opening.line (opening.line + length opening.rest.now) x.refusal x.watch tells
            (subst (λ (n : ℕ). opening.line + n ≤ opening.line + length opening.rest.now) heard.counted heard.fits) room);
      }

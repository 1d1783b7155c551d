-- What an audit of a whole text says.
use Rattle.std.proofs.Common.{◌≡◌, ℕ, ◌+◌, ◌^◌, ◌<◌, ◌≤◌, List, ◌∷◌, length, reverse, Option, Some, None, Ok, Err, IfSome, refl, sym, ◌∙◌, ap, subst, arith, length-append}
use Rattle.std.proofs.lemmas.List.{length-reverse}
use Rattle.poa_base.specs.declared.Config.{Config}
use Rattle.poa_base.specs.declared.Entry.{Entry}
use Rattle.poa_base.specs.Store.{states, stored}
use Rattle.poa_history.specs.declared.Givens.{Givens}
use Rattle.poa_history.specs.Life.{Life, begun, givens_of}
use Rattle.text_words.specs.Cuts.{lines_of, words_of}
use Rattle.poa_journal.specs.declared.fault.JournalFault.{JournalFault}
use Rattle.poa_journal.specs.declared.fault.JournalFault.TheVariants.{BadLine, WantMemory}
use Rattle.poa_journal.specs.Whole.{JournalReads, contents_of, contents_of_lines, entries_of, front_seen, head_of, rows_front, with_entries, with_front, with_run}
use Rattle.journal_audit.specs.declared.front.Front.{Front}
use Rattle.journal_audit.specs.declared.matched.Matched.{Matched}
use Rattle.journal_audit.specs.declared.refusal.Refusal.{Refusal}
use Rattle.journal_audit.specs.declared.watch.Watch.{Watch}
use Rattle.journal_audit.specs.Auditing.{AuditSays, Finds, IsRefused, IsSound}
use Rattle.journal_audit.specs.Looking.{MatchesIn, link_of}
use Rattle.journal_audit.specs.Matching.{LinkBytes}
use Rattle.journal_audit.specs.Texts.{Audits, AuditsFront, AuditsLines, AuditsText, HasRoom, IsFront, IsSoundRun, LinesAudited, ReadsFront, Tells, audit_of}
use Rattle.journal_audit.proofs.Numbered.{numbered}
use Rattle.journal_audit.proofs.Watched.{matches_of}

-- what is found of the run that the audit began with
module _ (g : Givens) (entries : List Entry) (run : Life) (given : givens_of run ≡ g) where
  pub says_of : (r : Option Refusal) → IsSoundRun run → Finds entries run r → AuditSays g.config g.run g.limit (stored g.opening) entries (audit_of r)
  says_of None sound found =
      subst (λ (h : List Entry). IsSound g.config g.run g.limit (stored g.opening) h) found.0
      (subst (λ (x : Givens). IsSound x.config x.run x.limit (stored x.opening) run.history) given sound)
  says_of (Some r) sound found =
      (let it : IsRefused g.config g.run g.limit entries r = subst (λ (x : Givens). IsRefused x.config x.run x.limit entries r) given found in it.first)

  pub tells_of : (r : Option Refusal) → Finds entries run r → Tells g.config g.run g.limit entries r
  tells_of None found = tt
  tells_of (Some r) found = subst (λ (x : Givens). IsRefused x.config x.run x.limit entries r) given found

-- the line of the entry that is told
numbered_line : (c : Config) (run limit : ℕ) (entries : List Entry) (line most : ℕ) (r : Option Refusal) → Tells c run limit entries r
    → line + length entries ≤ most → most < 2 ^ 64 → IfSome r (λ (it : Refusal). line + it.entry < 2 ^ 64)
numbered_line c run limit entries line most None told within room = tt
numbered_line c run limit entries line most (Some r) told within room =
    let first = told.first in
    omega (arith, within, room, first.stands, ap length first.parts, length-append (reverse first.past) (first.bad ∷ first.behind), length-reverse first.past)

-- a text that isn't read to its entries
module _ (text head : List ℕ) (rest : List (List ℕ)) (cut : lines_of text ≡ head ∷ rest) where
  pub head_refused : (fault : JournalFault) → JournalReads (λ (run : ℕ). run) (Err fault) (head_of (words_of head)) → ReadsFront text (Err fault)
  head_refused (BadLine k) is = ap contents_of_lines cut ∙ ap (with_run rest) is
  head_refused WantMemory is = tt

  pub rows_refused : (run : ℕ) → head_of (words_of head) ≡ Ok run → (fault : JournalFault)
      → JournalReads front_seen (Err fault) (rows_front 2 None rest) → ReadsFront text (Err fault)
  rows_refused run is_run (BadLine k) is = ap contents_of_lines cut ∙ (ap (with_run rest) is_run ∙ ap (with_front run) is)
  rows_refused run is_run WantMemory is = tt

-- an audit of a text with this front
module _ (c : Config) (limit : ℕ) (link : Option LinkBytes) (front : Front) (first last : Watch)
    (began : first.auditor.run ≡ begun c front.run limit front.opening.store) where
  module _ (text : List ℕ) (is : IsFront text front) where
    before : contents_of text ≡ with_entries front.run (states front.opening.store) (entries_of front.opening.line (lines_of front.opening.rest.now))
    before = ap contents_of_lines is.lines ∙ (ap (with_run is.rows) is.run ∙ ap (with_front front.run) is.opening)

    refused_in : (fault : JournalFault) → AuditsLines front.opening.line front.opening.rest.now first (Err fault) last
        → AuditsText c limit text link (Err fault)
    refused_in (BadLine k) bad = before ∙ ap (with_entries front.run (states front.opening.store)) bad
    refused_in WantMemory bad = tt

    audited_in : (count : ℕ) (matched : Option Matched) → LinesAudited front.opening.line front.opening.rest.now first count matched last
        → link_of first ≡ link → HasRoom front
        → Audits c limit text link (record { entries = count; first_line = front.opening.line; refusal = last.auditor.refusal; matched = matched })
    audited_in count matched found asked room =
        let g : Givens = givens_of (begun c front.run limit front.opening.store) in
        let t = found.taken in
        let run = found.last.auditor.run in
        let given : givens_of run ≡ g = t.given ∙ ap givens_of began in
        let refusal_is : found.last.auditor.refusal ≡ last.auditor.refusal = sym found.refusal in
        let finds : Finds t.entries run last.auditor.refusal = subst (λ (r : Option Refusal). Finds t.entries run r) refusal_is t.taken.found in
        let told : Tells c front.run limit t.entries last.auditor.refusal = tells_of g t.entries run given last.auditor.refusal finds in
        record {
          journal = record { run = front.run; rows = states front.opening.store; entries = t.entries };
          reads = before ∙ ap (with_entries front.run (states front.opening.store)) t.read;
          opening = front.opening.store;
          rows = refl;
          counted = t.counted;
          first = numbered 2 None is.rows (front_seen front.opening) is.opening;
          says = says_of g t.entries run given last.auditor.refusal found.sound finds;
          tells = told;
          matches = matches_of g t.entries run given last.auditor.refusal link matched finds
              (subst (λ (o : Option LinkBytes). MatchesIn last.auditor.refusal run o matched) asked
              (subst (λ (r : Option Refusal). MatchesIn r run (link_of first) matched) refusal_is found.told));
          numbered =
              numbered_line c front.run limit t.entries front.opening.line (front.opening.line + length front.opening.rest.now) last.auditor.refusal told
              (subst (λ (n : ℕ). front.opening.line + n ≤ front.opening.line + length front.opening.rest.now) t.counted t.fits) room;
        }

  pub entries_refused : (fault : JournalFault) → AuditsLines front.opening.line front.opening.rest.now first (Err fault) last
      → AuditsFront c limit link front (Err fault)
  entries_refused fault bad text is = refused_in text is fault bad

  pub audited : (count : ℕ) (matched : Option Matched) → LinesAudited front.opening.line front.opening.rest.now first count matched last
      → link_of first ≡ link → HasRoom front
      → AuditsFront c limit link front (Ok (record { entries = count; first_line = front.opening.line; refusal = last.auditor.refusal; matched = matched }))
  audited count matched found asked room text is = audited_in text is count matched found asked room

-- The words behind `serve`: the file of a configuration, and options in any place.
use Rattle.std.specs.Prelude.{◌≡◌, ◌≢◌, ℕ, Bool, not, IfSome, true, if◌then◌else◌, List, [], ◌∷◌, Option, Some, None, option_map, codes, String, string_bytes, map}
use Rattle.std.specs.Option.{IsSomeAnd}
use Rattle.std.specs.Str.{bytes_eq}
use Rattle.std.specs.declared.alloc.Global.{Global}
use Rattle.command_words.specs.Numbers.{number_in}
use Rattle.command_words.specs.Settings.{◌>>=◌, Setting, among, only, perhaps, settings_of}
use Rattle.command_words.specs.declared.optioned.Optioned.TheVariants as optioned
use Rattle.command_words.specs.declared.plan.Plan.{Plan}
use Rattle.command_words.specs.declared.server.ServeWords.{ServeWords}

-- the run of a server that words ask for
pub record Serve : Type 0 where
  pub file : List ℕ  -- the name of the file with its configuration
  pub lanes : ℕ  -- how many clients are served at once
  pub workers : ℕ
  pub run : ℕ  -- the number of the run
  pub state : Option (List ℕ)  -- the name of the file with the store that it opens with, and for its own
  pub journal : Option (List ℕ)  -- the name of the file for its journal
  pub limit : ℕ  -- how many calls it takes

-- a run takes 4,000,000 calls at most, and so where the words say nothing of it
abbrev pub limit_of : Option (List ℕ) → Option ℕ
limit_of None = Some 4000000
limit_of (Some word) = number_in 1 4000000 word

-- a state and a journal, where both are asked for, have two names
abbrev pub are_apart : Option (List ℕ) → Option (List ℕ) → Bool
are_apart (Some state) (Some journal) = not (bytes_eq state journal)
are_apart state journal = true

abbrev pub AreApart : Option (List ℕ) → Option (List ℕ) → Type 0
AreApart state journal = IfSome state (λ s. IfSome journal (λ j. s ≢ j))

-- one file, each option once but `--state`, `--journal` and `--limit`, which may be absent
abbrev pub serve_of : List Setting → Option Serve
serve_of settings =
    only [] settings >>= (λ file.
    (only (codes "--lanes") settings >>= number_in 1 64) >>= (λ lanes.
    (only (codes "--workers") settings >>= number_in 1 16) >>= (λ workers.
    (only (codes "--run") settings >>= number_in 0 4294967295) >>= (λ run.
    perhaps (codes "--state") settings >>= (λ state.
    perhaps (codes "--journal") settings >>= (λ journal.
    (perhaps (codes "--limit") settings >>= limit_of) >>= (λ limit.
    if are_apart state journal then Some (record {
      file = file;
      lanes = lanes;
      workers = workers;
      run = run;
      state = state;
      journal = journal;
      limit = limit;
    }) else None)))))))

-- the run of a server that all the words of a command line ask for
abbrev pub serve_among : List (List ℕ) → Option Serve
serve_among [] = None
serve_among (w ∷ ws) = if bytes_eq w (codes "serve") then settings_of optioned.Serve among ws >>= serve_of else None

abbrev pub serve_in : List (String Global) → Option Serve
serve_in words = serve_among (map string_bytes words)

-- the same, as the program has it
abbrev pub seen_serve : ServeWords → Serve
seen_serve s = record {
  file = s.file.now;
  lanes = s.lanes;
  workers = s.workers;
  run = s.run;
  state = option_map (λ n. n.now) s.state;
  journal = option_map (λ n. n.now) s.journal;
  limit = s.limit;
}

-- the plan of these words
abbrev pub IsPlan : Option Serve → Option Plan → Type 0
IsPlan None plan = plan ≡ None
IsPlan (Some serve) plan = IsSomeAnd plan (λ p. (p.file.now ≡ serve.file) × (p.lanes ≡ serve.lanes) × (p.workers ≡ serve.workers))

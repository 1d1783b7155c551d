-- Settings that were noted, in front of those that follow.
use Rattle.std.proofs.Common.{◌≡◌, ◌∙◌, ◌<◌, ℕ, ◌+◌, List, [], ◌∷◌, ◌++◌, Option, Some, None, refl, arith, sym, ap, map, option_map, length, drop, get_or, suc, drop-cons, String, string_bytes, append_assoc}
use Rattle.std.specs.declared.alloc.Global.{Global}
use Rattle.command_words.specs.declared.optioned.Optioned.{Optioned}
use Rattle.command_words.specs.Settings.{Place, Setting, among, before, behind, last, followed, noted, settings_of, word_at}

pub noted_on : (s : Option Setting) (done : List Setting) (more : Option (List Setting))
    → option_map (λ m. noted s done ++ m) more ≡ option_map (λ m. done ++ m) (option_map (followed s) more)
noted_on None done None = refl
noted_on (Some s) done None = refl
noted_on None done (Some m) = refl
noted_on (Some s) done (Some m) = ap Some (append_assoc done (s ∷ []) m)

pub settings_step : (command : Optioned) (place : Place) (w : List ℕ) (ws : List (List ℕ)) (s : Option Setting) (next : Place) → word_at command place w ≡ Some (s, next)
    → settings_of command place (w ∷ ws) ≡ option_map (followed s) (settings_of command next ws)
settings_step command among w ws s next is = rw is refl
settings_step command (behind name) w ws s next is = rw is refl
settings_step command (before name) w ws s next is = rw is refl
settings_step command last w ws s next is = rw is refl

pub noted_next : (command : Optioned) (words : List (String Global)) (i : ℕ) (word : String Global) (place : Place) (s : Option Setting) (next : Place) (done : List Setting)
    → i < length words → word ≡ get_or words i word → word_at command place (string_bytes word) ≡ Some (s, next)
    → option_map (λ more. noted s done ++ more) (settings_of command next (map string_bytes (drop (i + 1) words)))
    ≡ option_map (λ more. done ++ more) (settings_of command place (map string_bytes (drop i words)))
noted_next command words i word place s next done within is gives =
    let rest = map string_bytes (drop (i + 1) words) in
    let one : suc i ≡ i + 1 = omega arith in
    let here : drop i words ≡ word ∷ drop (i + 1) words =
    drop-cons words i word within ∙ (ap (λ w. w ∷ drop (suc i) words) (sym is) ∙ ap (λ k. word ∷ drop k words) one) in
    noted_on s done (settings_of command next rest)
    ∙ ap (option_map (λ more. done ++ more))
    (sym (ap (λ ws. settings_of command place (map string_bytes ws)) here ∙ settings_step command place (string_bytes word) rest s next gives))

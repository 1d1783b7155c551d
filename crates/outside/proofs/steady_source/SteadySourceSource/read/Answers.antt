-- What was copied is the front of what was left, and what is left now follows it.
use Rattle.std.proofs.Common.{◌≡◌, ℕ, ◌+◌, ◌-◌, List, ◌++◌, length, take, drop, sym, ◌∙◌, ap}
use Rattle.std.proofs.lemmas.List.{take-append-drop, drop-drop, take_rest}
use Rattle.outside.proofs.steady_source.SteadySourceSource.read.Goals as goal

front_taken : (bytes : List ℕ) (start n : ℕ) (buf rest : List ℕ) → take n buf ≡ take n rest → rest ≡ drop start bytes
    → drop start bytes ≡ take n buf ++ drop (start + n) bytes
front_taken bytes start n buf rest copied all = sym (take-append-drop n (drop start bytes))
    ∙ (ap (λ (front : List ℕ). front ++ drop n (drop start bytes)) (sym (copied ∙ ap (take n) all))
    ∙ ap (λ (back : List ℕ). take n buf ++ back) (drop-drop n start bytes))

pub returns-clause-bytes : goal.returns-clause-bytes
returns-clause-bytes c = sym c.piece-most.ensures.same
    ∙ (sym c.self.view_is ∙ front_taken c.self.inside.bytes.items c.self.inside.start c.copy_front-count.result c.copy_front-count.new.to _
    c.copy_front-count.ensures.copied
    (ap (λ (bytes : List ℕ). take (length bytes - c.self.inside.start) (drop c.self.inside.start bytes)) c.deref.ensures.value
    ∙ take_rest c.self.inside.bytes.items c.self.inside.start))

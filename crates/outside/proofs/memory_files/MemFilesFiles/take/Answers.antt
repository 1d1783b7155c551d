-- The files hold what `content` found under the name, and the counts change nothing of it.
use Rattle.std.proofs.Common.{◌≡◌, ℕ, ◌<◌, List, length, Option, Some, ap, ◌∙◌, sym, subst}
use Rattle.std.specs.Option.{IsSomeAnd}
use Rattle.outside.specs.Memory.{Shelf, content_of}
use Rattle.outside.specs.Keeping.{Shows}
use Rattle.outside.specs.declared.keeping.Taken.{Taken}
use Rattle.outside.specs.declared.keeping.Taken.TheVariants.{Bytes, WantMemory}
use Rattle.outside.proofs.memory_files.MemFilesFiles.take.Goals as goal
use Rattle.outside.proofs.memory_files.MemFilesFiles.take.Goals.{in-Ok, in-Err}

too_long : (limit : ℕ) (held : Option (List ℕ)) (content : List ℕ) → Some content ≡ held → limit < length content
    → IsSomeAnd held (λ content. limit < length content)
too_long limit held content is long = subst (λ (o : Option (List ℕ)). IsSomeAnd o (λ content. limit < length content)) is long

copied : (limit : ℕ) (held : Option (List ℕ)) (answer : Taken) (given content : List ℕ) → answer ≡ Bytes given → given ≡ content → Some content ≡ held
    → Shows answer limit held
copied limit held answer given content is same found =
    subst (λ (taken : Taken). Shows taken limit held) (sym is) (sym (ap (λ (bytes : List ℕ). Some bytes) same ∙ found))

no_memory : (limit : ℕ) (held : Option (List ℕ)) (answer : Taken) → answer ≡ WantMemory → Shows answer limit held
no_memory limit held answer is = subst (λ (taken : Taken). Shows taken limit held) (sym is) tt

pub returns-in_default-clause-content : goal.returns-in_default-clause-content
returns-in_default-clause-content c = (
  sym (c.in_default.ensures ∙ ap (λ (shelf : Shelf). content_of shelf.files c.args.name.now) c.self.view_is),
  λ other. ap (λ (shelf : Shelf). content_of shelf.files other) c.self.view_is,
)

pub returns-then-content-limit-clause-content : goal.returns-then-content-limit-clause-content
returns-then-content-limit-clause-content c = (
  too_long c.args.limit _ c.in-Some.content.now (c.in-Some.ensures ∙ ap (λ (shelf : Shelf). content_of shelf.files c.args.name.now) c.self.view_is)
      c.if-content-limit.true,
  λ other. ap (λ (shelf : Shelf). content_of shelf.files other) c.self.view_is,
)

pub returns-clause-content : goal.returns-clause-content
returns-clause-content c = (
  elim c.match-from_slice.branch [
    | in-Ok w ↦ copied c.args.limit _ _ w.from_vec.result c.in-Some.content.now w.result-is
        (w.from_vec.ensures ∙ w.in-Ok.ensures.items) (c.in-Some.ensures ∙ ap (λ (shelf : Shelf). content_of shelf.files c.args.name.now)
        c.self.view_is)
    | in-Err w ↦ no_memory c.args.limit _ _ w.result-is
  ],
  λ other. ap (λ (shelf : Shelf). content_of shelf.files other) c.self.view_is,
)

-- What the map has under the name is what the files are seen to hold there.
use Rattle.std.proofs.Common.{ℕ, List, Some, ap, ◌∙◌, sym}
use Rattle.std.specs.Option.{option_copied}
use Rattle.outside.specs.Memory.{Shelf, content_of}
use Rattle.outside.proofs.Named.{seen, content_of-entries}
use Rattle.outside.proofs.memory_files.MemFiles.content.Goals as goal

pub returns-in_err-content : goal.returns-in_err-content
returns-in_err-content c = ap option_copied c.from_residual.ensures
    ∙ (ap seen c.in_err-content.ensures.value
    ∙ (sym (content_of-entries c.args.name.now c.self.inside.contents.entries) ∙ ap (λ (shelf : Shelf). content_of shelf.files c.args.name.now) c.self.view_is))

pub returns : goal.returns
returns c = ap (λ (bytes : List ℕ). Some bytes) c.as_slice.ensures.value
    ∙ (ap seen c.in_ok-content.ensures.value
    ∙ (sym (content_of-entries c.args.name.now c.self.inside.contents.entries) ∙ ap (λ (shelf : Shelf). content_of shelf.files c.args.name.now) c.self.view_is))

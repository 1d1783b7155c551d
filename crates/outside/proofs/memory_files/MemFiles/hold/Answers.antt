-- The entry of the name is the one put, and every other entry is as before.
use Rattle.std.proofs.Common.{ap, ◌∙◌, sym}
use Rattle.outside.specs.Memory.{Shelf, content_of}
use Rattle.outside.proofs.Named.{content_of-insert_same, content_of-insert_other}
use Rattle.outside.proofs.memory_files.MemFiles.hold.Goals as goal

pub returns-clause-held : goal.returns-clause-held
returns-clause-held c =
    content_of-insert_same _ c.self.inside.contents c.insert.new.self c.in_ok-copy.copy c.in_ok-insert.ensures.updates _ _ c.in_ok-key.ensures.ok
    c.in_ok-copy.ensures.items

pub returns-clause-others : goal.returns-clause-others
returns-clause-others c =
    λ other differs. content_of-insert_other _ c.self.inside.contents c.insert.new.self c.in_ok-copy.copy c.in_ok-insert.ensures.updates other
    (λ same. differs (sym same ∙ c.in_ok-key.ensures.ok)) ∙ ap (λ (shelf : Shelf). content_of shelf.files other) c.self.view_is

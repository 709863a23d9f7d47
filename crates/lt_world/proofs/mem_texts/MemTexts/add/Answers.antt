use Rattle.std.proofs.Common.{◌++◌, ◌∷◌, [], not, ◌∙◌, ap, if◌then◌else◌}
use Rattle.lt_world.specs.TextRuns.{library_by, library_of, with_text}
use Rattle.lt_world.proofs.Naming.{library-push}
use Rattle.lt_world.proofs.mem_texts.MemTexts.add.Goals as goal

pub returns-clause-library : goal.returns-clause-library
returns-clause-library c =
    ap library_by (c.push.ensures.items ∙ ap (λ b. if b then c.self.inside.texts.items ++ record { name = c.in_ok-name.name; bytes = c.in_ok-bytes.bytes } ∷ [] else c.self.inside.texts.items) (c.is_err.ensures.negation ∙ ap not c.if-is_err.false))
    ∙ library-push c.self.inside.texts.items _ ∙ (λ i. with_text (c.in_ok-name.ensures i) (c.in_ok-bytes.ensures i) (library_of (c.self.view_is i)))

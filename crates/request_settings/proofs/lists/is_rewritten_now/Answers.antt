use Rattle.std.proofs.Common.{◌≡◌, ◌∙◌, sym}
use Rattle.request_settings.proofs.Lending.{rewriting_kept}
use Rattle.request_settings.proofs.lists.is_rewritten_now.Goals as goal

pub returns-in-Ok-Kept-clause-same : goal.returns-in-Ok-Kept-clause-same
returns-in-Ok-Kept-clause-same g c = λ e. rewriting_kept _ _ _ _ (sym c.in-Ok-Kept.ensures.next ∙ c.in-Ok-Kept.field-0-is)

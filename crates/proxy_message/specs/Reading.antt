-- What bytes are to an answer.
use Rattle.std.specs.Prelude.{◌≡◌, ℕ, ◌+◌, List, [], ◌∷◌, ◌++◌, length, if◌then◌else◌}
use Rattle.proxy_message.specs.declared.progress.Progress.{Progress}
use Rattle.proxy_message.specs.Progress.{step, is_over, kept_from}

-- where the answer stands behind the bytes
unfoldable pub progress_after : Progress → List ℕ → Progress
progress_after p [] = p
progress_after p (byte ∷ bytes) = progress_after (step p byte) bytes

-- the bytes of the body among them
unfoldable pub content_in : Progress → List ℕ → List ℕ
content_in p [] = []
content_in p (byte ∷ bytes) = kept_from p.stage byte ++ content_in (step p byte) bytes

-- how many of the bytes are the answer's own: those up to its end, or up to the byte at which it is refused
unfoldable pub taken_in : Progress → List ℕ → ℕ
taken_in p [] = 0
taken_in p (byte ∷ bytes) = (if is_over p.stage then 0 else 1) + taken_in (step p byte) bytes

-- the bytes hold none of the body, all are the answer's own, and it stands there behind them
pub record Passes (p : Progress) (bytes : List ℕ) (behind : Progress) : Type 0 where
  pub stands : progress_after p bytes ≡ behind
  pub none : content_in p bytes ≡ []
  pub all : taken_in p bytes ≡ length bytes

-- How often what a call stands on has failed.
use Rattle.std.specs.Prelude.{ℕ}

-- how often a text could not be read, a pattern was refused, and a sink took nothing
pub record Failures : Type 0 where
  pub texts : ℕ
  pub patterns : ℕ
  pub sink : ℕ

abbrev pub failures : ℕ → ℕ → ℕ → Failures
failures texts patterns sink = record { texts = texts; patterns = patterns; sink = sink }

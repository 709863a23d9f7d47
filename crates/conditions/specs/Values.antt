-- A text that is lent or made.
use Rattle.std.specs.Prelude.{ℕ, List}
use Rattle.conditions.specs.declared.values.Value.{Value}
use Rattle.conditions.specs.declared.values.Value.TheVariants.{Lent, Made}

abbrev pub bytes_of : Value → List ℕ
bytes_of (Lent bytes) = bytes.now
bytes_of (Made text) = text

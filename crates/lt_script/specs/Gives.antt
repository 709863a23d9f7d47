-- For proofs alone: what a reader of a line gives.
use Rattle.std.specs.Prelude.{◌≡◌, Option, Some, None, option_and_then, Result, Ok, Err}
use Rattle.lt_script.specs.declared.fields.LineError.{LineError}
use Rattle.lt_script.specs.declared.fields.LineError.TheVariants as error

infixl 10 ◌>>=◌
-- one reader after another: what follows is read only where the first was
abbrev pub ◌>>=◌ : {A B : Type 0} → Option A → (A → Option B) → Option B
o >>= f = option_and_then f o

-- a refusal is one of the grammar, unless memory ran out
abbrev pub Refuses : {Y : Type 0} → LineError → Option Y → Type 0
Refuses error.NoMemory read = Unit {0}
Refuses error.Bad read = read ≡ None

-- a reader gives what the function reads
abbrev pub Gives : {X Y : Type 0} → (X → Y) → Result X LineError → Option Y → Type 0
Gives view (Ok x) read = read ≡ Some (view x)
Gives view (Err e) read = Refuses e read

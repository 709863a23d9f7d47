-- The fields of a message as a list of names and values (RFC 9110, section 5).
use Rattle.std.specs.Prelude.{ℕ, List}
use Rattle.http_reply.specs.declared.fields.Field.{Field}
use Rattle.http_reply.specs.declared.fields.Word.{Word}
use Rattle.http_reply.specs.declared.fields.Word.TheVariants.{Constant, Own}

-- names and values, in order
abbrev pub FieldLines : Type 0
FieldLines = List (List ℕ × List ℕ)

-- what is written of a name or a value
abbrev pub bytes_of : Word → List ℕ
bytes_of (Constant bytes) = bytes.now
bytes_of (Own text) = text

-- the name and the value of a field
abbrev pub line_of : Field → List ℕ × List ℕ
line_of f = (bytes_of f.name, bytes_of f.value)

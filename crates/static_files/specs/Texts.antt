-- The texts of an array of a configuration.
use Rattle.std.specs.Prelude.{ℕ, List, [], ◌∷◌, Option, Some, None}
use Rattle.conf_value.specs.declared.value.Pair.{Pair, out-Pair}
use Rattle.conf_value.specs.declared.value.Value.{Value, out-Value}
use Rattle.conf_value.specs.declared.value.Value.TheOpen.{Value-F}

-- a value that is a text
abbrev pub text_of : Value-F Value Pair → Option (List ℕ)
text_of (Value-F.Text text) = Some text
text_of value = None

-- the text of a pair, with a key or without
abbrev pub text_in : Pair → Option (List ℕ)
text_in pair = text_of (out-Value (out-Pair pair).value)

abbrev pub with_text : Option (List ℕ) → List (List ℕ) → List (List ℕ)
with_text (Some text) texts = text ∷ texts
with_text None texts = texts

-- the texts of these pairs in their order; a pair with another value counts for nothing
abbrev pub texts_of : List Pair → List (List ℕ)
texts_of [] = []
texts_of (pair ∷ pairs) = with_text (text_in pair) (texts_of pairs)

-- How values are joined by `+` and `+=`, and how an array is built (lighttpd documentation, "Configuration": operators).
use Rattle.std.specs.Prelude.{◌≡◌, ℕ, ℤ, pos, negsuc, ◌+ℤ◌, ◌^◌, Bool, false, nat_lt, ◌⊎◌, List, [], ◌∷◌, ◌++◌, Option, Some, None, position, slice_set, Result, Ok, Err, if◌then◌else◌}
use Rattle.std.specs.Str.{bytes_eq}
use Rattle.conf_value.specs.declared.value.Value.{Value, out-Value}
use Rattle.conf_value.specs.declared.value.Value.TheOpen.{Value-F}
use Rattle.conf_value.specs.declared.value.Value.TheVariants as v
use Rattle.conf_value.specs.declared.value.Pair.{Pair, out-Pair}
use Rattle.conf_value.specs.declared.joining.JoinFault.{JoinFault}
use Rattle.conf_value.specs.declared.joining.JoinFault.TheVariants.{Mixed, Overflow, NoMemory}

abbrev pub is_key : List ℕ → Option (List ℕ) → Bool
is_key key (Some own) = bytes_eq own key
is_key key None = false

-- the pair has this key
abbrev pub has_key : List ℕ → Pair → Bool
has_key key pair = is_key key (out-Pair pair).key

-- where the first pair with this key stands
abbrev pub place_of : List Pair → Option (List ℕ) → Option ℕ
place_of pairs (Some key) = position (has_key key) pairs
place_of pairs None = None

abbrev pub put : Option ℕ → List Pair → Pair → List Pair
put (Some place) pairs pair = slice_set pairs place pair
put None pairs pair = pairs ++ pair ∷ []

-- an array and one pair more: it takes the place of the first pair with its key; where there is none, or it has no key, it comes last
abbrev pub with_pair : List Pair → Pair → List Pair
with_pair pairs pair = put (place_of pairs (out-Pair pair).key) pairs pair

-- an array and the pairs of another, one after another; an array literal is the empty array and its pairs
abbrev pub with_pairs : List Pair → List Pair → List Pair
with_pairs pairs [] = pairs
with_pairs pairs (pair ∷ more) = with_pairs (with_pair pairs pair) more

-- the number fits 64 bits with a sign
abbrev pub fits : ℤ → Bool
fits (pos n) = nat_lt n (2 ^ 63)
fits (negsuc n) = nat_lt n (2 ^ 63)

-- the sum of two numbers, where it fits
abbrev pub joined_numbers : ℤ → ℤ → Result Value JoinFault
joined_numbers a b = if fits (a +ℤ b) then Ok (v.Number (a +ℤ b)) else Err Overflow

-- two values of one kind are joined; any other two are mixed
abbrev pub joined_of : Value-F Value Pair → Value-F Value Pair → Result Value JoinFault
joined_of (Value-F.Text a) (Value-F.Text b) = Ok (v.Text (a ++ b))
joined_of (Value-F.Number a) (Value-F.Number b) = joined_numbers a b
joined_of (Value-F.Array a) (Value-F.Array b) = Ok (v.Array (with_pairs a b))
joined_of a b = Err Mixed

abbrev pub joined : Value → Value → Result Value JoinFault
joined a b = joined_of (out-Value a) (out-Value b)

-- the answer is the one that is due, or memory ran out
abbrev pub Answers : Result Value JoinFault → Result Value JoinFault → Type 0
Answers due answer = (answer ≡ due) ⊎ (answer ≡ Err NoMemory)

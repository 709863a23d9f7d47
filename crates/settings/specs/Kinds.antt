-- What a value says by its kind, where another kind counts as the default, and the rules of numbers and texts.
use Rattle.std.specs.Prelude.{ℕ, ◌-◌, ◌*◌, ℤ, pos, negsuc, Bool, false, ◌||◌, ◌==◌, nat_eq, nat_lt, List, [], ◌∷◌, length, take, codes, if◌then◌else◌}
use Rattle.std.specs.Int.{is_in_range}
use Rattle.std.specs.List.{ends_with}
use Rattle.std.specs.Option.{unwrap_or}
use Rattle.conf_value.specs.declared.value.Value.{Value}
use Rattle.conf_value.specs.declared.value.Value.TheOpen.{Value-F}
use Rattle.conf_value.specs.declared.value.Pair.{Pair}
use Rattle.conf_value.specs.Addresses.{address_of}

-- ---- values by their kind

abbrev pub text_in : List ℕ → Value-F Value Pair → List ℕ
text_in default (Value-F.Text text) = text
text_in default other = default

abbrev pub natural : ℤ → ℕ
natural (pos n) = n
natural (negsuc n) = 0

abbrev pub number_in : ℕ → Value-F Value Pair → ℕ
number_in default (Value-F.Number n) = natural n
number_in default other = default

abbrev pub pairs_in : Value-F Value Pair → List Pair
pairs_in (Value-F.Array pairs) = pairs
pairs_in other = []

-- ---- rules

abbrev pub is_between : ℕ → ℕ → ℤ → Bool
is_between least most (pos n) = is_in_range least most n
is_between least most (negsuc n) = false

-- a final `/` is dropped
abbrev pub without_last_slash : List ℕ → List ℕ
without_last_slash text = if ends_with nat_eq text (codes "/") then take (length text - 1) text else text

-- a number that is no port counts as the default
abbrev pub port_of : ℕ → ℕ
port_of n = if is_between 1 65535 (pos n) then n else 80

-- a text that is no address counts as the default
abbrev pub bound_to : List ℕ → List ℕ
bound_to text = unwrap_or (address_of text) (0 ∷ 0 ∷ 0 ∷ 0 ∷ [])

-- KiB as bytes; 0 and more than 4096 mean 4096
abbrev pub bytes_of : ℕ → ℕ
bytes_of n = if n == 0 || nat_lt 4096 n then 4096 * 1024 else n * 1024

-- 0 counts as 1
abbrev pub one_or_more : ℕ → ℕ
one_or_more n = if n == 0 then 1 else n

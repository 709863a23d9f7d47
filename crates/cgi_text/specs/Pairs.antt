-- Name-value pairs (FastCGI Specification 1.0, section 3.4): how they are written, and how they are read.
use Rattle.std.specs.Prelude.{ℕ, zero, suc, ◌+◌, ◌-◌, ◌*◌, ◌/◌, ◌%◌, ◌^◌, ◌<◌, nat_le, nat_lt, List, [], ◌∷◌, ◌++◌, length, take, drop, flat_map, Option, Some, None, option_map, if◌then◌else◌}

-- names and values, in order
abbrev pub PairList : Type 0
PairList = List (List ℕ × List ℕ)

-- the form has room for the lengths
pub record IsShort (p : List ℕ × List ℕ) : Type 0 where
  pub name : length p.0 < 2 ^ 31
  pub value : length p.1 < 2 ^ 31

-- a length up to 127 is one byte; a greater one is four, the greatest first, of which the top bit is set: the form has
-- room for lengths below 2^31
unfoldable pub length_bytes : ℕ → List ℕ
length_bytes n =
    if nat_le n 127 then n ∷ []
    else (128 + n / 16_777_216 % 128) ∷ (n / 65_536 % 256) ∷ (n / 256 % 256) ∷ (n % 256) ∷ []

-- the two lengths, the name and the value
unfoldable pub pair_bytes : List ℕ × List ℕ → List ℕ
pair_bytes p = length_bytes (length p.0) ++ (length_bytes (length p.1) ++ (p.0 ++ p.1))

-- the pairs, one after another
abbrev pub pairs_bytes : PairList → List ℕ
pairs_bytes pairs = flat_map pair_bytes pairs

-- a length of four bytes, of which the first is known
abbrev pub read_long : ℕ → List ℕ → Option (ℕ × List ℕ)
read_long a (b ∷ c ∷ d ∷ rest) = Some ((a - 128) * 16_777_216 + (b * 65_536 + (c * 256 + d)), rest)
read_long a _ = None

-- the length at the front, and what follows it
abbrev pub read_length : List ℕ → Option (ℕ × List ℕ)
read_length [] = None
read_length (a ∷ rest) = if nat_lt a 128 then Some (a, rest) else read_long a rest

abbrev pub Read : Type 0
Read = Option ((List ℕ × List ℕ) × List ℕ)

-- so many bytes of a name and so many of a value, and what follows them
abbrev pub cut_pair : ℕ → ℕ → List ℕ → Read
cut_pair name value bytes =
    if nat_le (name + value) (length bytes)
    then Some ((take name bytes, take value (drop name bytes)), drop value (drop name bytes)) else None

abbrev pub read_value : ℕ → Option (ℕ × List ℕ) → Read
read_value name None = None
read_value name (Some p) = cut_pair name p.0 p.1

abbrev pub read_name : Option (ℕ × List ℕ) → Read
read_name None = None
read_name (Some p) = read_value p.0 (read_length p.1)

-- the pair at the front, and what follows it
unfoldable pub read_pair : List ℕ → Read
read_pair bytes = read_name (read_length bytes)

abbrev pub with_more : Read → (List ℕ → Option PairList) → Option PairList
with_more None more = None
with_more (Some p) more = option_map (λ pairs. p.0 ∷ pairs) (more p.1)

-- all bytes as at most n pairs
unfoldable pub read_at_most : ℕ → List ℕ → Option PairList
read_at_most n [] = Some []
read_at_most zero (b ∷ bytes) = None
read_at_most (suc n) (b ∷ bytes) = with_more (read_pair (b ∷ bytes)) (read_at_most n)

-- all bytes as pairs, each of which has two bytes at least
unfoldable pub read_pairs : List ℕ → Option PairList
read_pairs bytes = read_at_most (length bytes) bytes

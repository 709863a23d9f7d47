-- The lines of a request head, from its bytes alone (RFC 9112, sections 2.1 and 2.2). A line ends in
-- CR LF or in LF alone.
use Rattle.std.specs.Prelude.{ℕ, suc, ◌+◌, ◌-◌, Bool, ◌&&◌, not, ◌==◌, nat_lt, nat_le, List, [], ◌∷◌, length, take, drop, slice_index, Option, Some, None, option_map, if◌then◌else◌, codes, bytes_eq}
use Rattle.std.specs.Char.{is_ascii_digit}
use Rattle.std.specs.List.{before_first}
use Rattle.std.specs.Str.Lines.{strip_carriage_return}

-- 2 where the bytes begin with a line feed, else 0
abbrev pub after_return : List ℕ → ℕ
after_return [] = 0
after_return (b ∷ rest) = if b == 10 then 2 else 0

-- the length of the empty line at the front; 0 where none is there
abbrev pub empty_line : List ℕ → ℕ
empty_line [] = 0
empty_line (a ∷ rest) = if a == 10 then 1 else (if a == 13 then after_return rest else 0)

-- the bytes without the empty lines at the front
abbrev pub after_blank : List ℕ → List ℕ
after_blank [] = []
after_blank (a ∷ []) = if a == 10 then [] else a ∷ []
after_blank (a ∷ b ∷ rest) =
    if a == 10 then after_blank (b ∷ rest)
    else (if (a == 13) && (b == 10) then after_blank rest else a ∷ b ∷ rest)

-- from a byte of the start line on: the length up to the end of the first empty line
abbrev pub length_to_end : List ℕ → Option ℕ
length_to_end [] = None
length_to_end (b ∷ rest) =
    if (b == 10) && nat_lt 0 (empty_line rest) then Some (empty_line rest + 1)
    else option_map suc (length_to_end rest)

-- from a byte of the start line on: how many lines come between it and the first empty line
abbrev pub lines_to_end : List ℕ → ℕ
lines_to_end [] = 0
lines_to_end (b ∷ rest) =
    if b == 10 then (if nat_lt 0 (empty_line rest) then 0 else suc (lines_to_end rest))
    else lines_to_end rest

-- the length of the head at the front, with the empty lines before it and the one that ends it
abbrev pub end_of : List ℕ → Option ℕ
end_of bytes =
    option_map (λ n. n + (length bytes - length (after_blank bytes))) (length_to_end (after_blank bytes))

-- how many field lines the head has
abbrev pub field_lines : List ℕ → ℕ
field_lines bytes = lines_to_end (after_blank bytes)

-- the start line, without its line end
abbrev pub start_line : List ℕ → List ℕ
start_line bytes = strip_carriage_return (before_first (λ b. b == 10) (after_blank bytes))

-- HTTP-version: the eight bytes are HTTP/ digit . digit (RFC 9112, section 2.3)
abbrev pub is_version : List ℕ → Bool
is_version v =
    bytes_eq (take 5 v) (codes "HTTP/")
    && (is_ascii_digit (slice_index v 5) && ((slice_index v 6 == 46) && is_ascii_digit (slice_index v 7)))

-- the eight bytes are a version other than 1.0 and 1.1
abbrev pub is_other_version : List ℕ → Bool
is_other_version v = is_version v && not ((slice_index v 5 == 49) && nat_le (slice_index v 7) 49)

-- the line ends in a version other than 1.0 and 1.1
abbrev pub ends_in_other_version : List ℕ → Bool
ends_in_other_version line = nat_le 8 (length line) && is_other_version (drop (length line - 8) line)

-- The normal form of a path (RFC 3986, sections 3.3 and 5.2.4), by its segments.
use Rattle.std.specs.Prelude.{ℕ, Bool, ◌||◌, ◌-◌, List, [], ◌∷◌, ◌++◌, length, take, fold, if◌then◌else◌, ◌==◌, bytes_eq, codes, flat_map}
use Rattle.std.specs.List.{slice_split}

-- a slash
abbrev pub is_slash : ℕ → Bool
is_slash b = b == 47

-- the segments between the slashes
abbrev pub segments : List ℕ → List (List ℕ)
segments path = slice_split is_slash path

-- a segment that leads nowhere: empty, or a dot
abbrev pub is_dropped : List ℕ → Bool
is_dropped segment = length segment == 0 || bytes_eq segment (codes ".")

-- the segment that leads up
abbrev pub is_up : List ℕ → Bool
is_up segment = bytes_eq segment (codes "..")

-- the segments without the last, if there is one
abbrev pub without_last : List (List ℕ) → List (List ℕ)
without_last kept = take (length kept - 1) kept

-- what one more segment makes of those that are kept
abbrev pub keep : List (List ℕ) → List ℕ → List (List ℕ)
keep kept segment =
    if is_dropped segment then kept
    else (if is_up segment then without_last kept else kept ++ segment ∷ [])

-- the names on the way from the root to where the path leads
abbrev pub kept_of : List ℕ → List (List ℕ)
kept_of path = fold keep [] (segments path)

-- the last of the segments
abbrev pub last_of : List (List ℕ) → List ℕ
last_of pieces = fold (λ _ segment. segment) [] pieces

-- a path that ends in this segment names a directory
abbrev pub is_open : List ℕ → Bool
is_open segment = is_dropped segment || is_up segment

-- the names, each after a slash, and a slash at the end of a directory's path
abbrev pub spell : List (List ℕ) → Bool → List ℕ
spell [] directory = 47 ∷ []
spell (name ∷ names) directory =
    flat_map (λ segment. 47 ∷ segment) (name ∷ names) ++ (if directory then 47 ∷ [] else [])

-- the path in normal form
abbrev pub normal : List ℕ → List ℕ
normal path = spell (kept_of path) (is_open (last_of (segments path)))

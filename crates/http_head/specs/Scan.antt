-- How a head is looked for as its bytes come: what the code remembers of the bytes before. Where a head ends is said in
-- Lines and Ends alone, and IsScan ties a scan to it.
use Rattle.std.specs.Prelude.{◌≡◌, ℕ, suc, ◌+◌, ◌-◌, ◌<◌, ◌≤◌, Bool, true, false, ◌==◌, List, [], ◌∷◌, ◌++◌, length, take, Option, Some, None, option_map, if◌then◌else◌}
use Rattle.http_head.specs.Lines.{length_to_end, end_of}
use Rattle.http_head.specs.Ends.{head_end, head_end_at}
use Rattle.http_head.specs.declared.ends.HeadEnd.{HeadEnd}
use Rattle.http_head.specs.declared.limits.TheConstants.{HEAD_LIMIT}
use Rattle.http_head.specs.declared.scan.HeadScan.{HeadScan}
use Rattle.http_head.specs.declared.scan.Place.{Place}
use Rattle.http_head.specs.declared.scan.Place.TheVariants.{Start, StartReturn, Line, LineEnd, LineEndReturn, Ended}

abbrev pub is_ended : Place → Bool
is_ended Start = false
is_ended StartReturn = false
is_ended Line = false
is_ended LineEnd = false
is_ended LineEndReturn = false
is_ended Ended = true

-- the place behind one more byte
abbrev pub place_after : Place → ℕ → Place
place_after Start b = if b == 10 then Start else (if b == 13 then StartReturn else Line)
place_after StartReturn b = if b == 10 then Start else Line
place_after Line b = if b == 10 then LineEnd else Line
place_after LineEnd b = if b == 10 then Ended else (if b == 13 then LineEndReturn else Line)
place_after LineEndReturn b = if b == 10 then Ended else Line
place_after Ended b = Ended

-- behind a line and a CR: how many bytes on the head ends
abbrev pub behind_line_return : List ℕ → Option ℕ
behind_line_return [] = None
behind_line_return (b ∷ rest) = if b == 10 then Some 1 else option_map suc (length_to_end rest)

-- behind a line
abbrev pub behind_line : List ℕ → Option ℕ
behind_line [] = None
behind_line (b ∷ rest) =
    if b == 10 then Some 1
    else (if b == 13 then option_map suc (behind_line_return rest) else option_map suc (length_to_end rest))

-- behind empty lines and a CR
abbrev pub behind_return : List ℕ → Option ℕ
behind_return [] = None
behind_return (b ∷ rest) = if b == 10 then option_map suc (end_of rest) else option_map suc (length_to_end rest)

-- how many bytes on the head ends, by the bytes that follow the place
abbrev pub end_behind : Place → List ℕ → Option ℕ
end_behind Start rest = end_of rest
end_behind StartReturn rest = behind_return rest
end_behind Line rest = length_to_end rest
end_behind LineEnd rest = behind_line rest
end_behind LineEndReturn rest = behind_line_return rest
end_behind Ended rest = Some 0

-- where the head ends by what is remembered and by the bytes that follow
abbrev pub end_from_in : ℕ → HeadScan → List ℕ → HeadEnd
end_from_in most scan more =
    head_end_at most (scan.seen + length more)
    (option_map (λ n. scan.seen + n) (end_behind scan.place (take (most - scan.seen) more)))

-- what is remembered of the bytes tells where the head ends, whatever follows them
pub record IsScan (bytes : List ℕ) (scan : HeadScan) : Type 0 where
  pub ends : (more : List ℕ) → end_from_in HEAD_LIMIT scan more ≡ head_end (bytes ++ more)
  pub within : scan.seen ≤ length bytes
  pub some : is_ended scan.place ≡ true → 0 < scan.seen

-- The summary of a trace (README.md of this crate, 'The summary').
use Rattle.std.specs.Prelude.{ℕ, ◌-◌, ◌^◌, min, List, ◌++◌, length, Bool, true, false, ◌&&◌, if◌then◌else◌, Option, Some, codes}
use Rattle.std.specs.List.{range_with_len, count_by, sum_by}
use Rattle.std.specs.Fmt.{decimal}
use Rattle.lt_world.specs.declared.net.Ending.{Ending}
use Rattle.lt_world.specs.declared.net.Ending.TheVariants.{Clean}
use Rattle.lt_world.specs.Trace.{Act, Entry, own, link_bound}
use Rattle.lt_world.specs.Acts.{output_of, ending_of}
use Rattle.script_net.specs.Arrivals.{has_arrived}

-- a link was closed clean
abbrev pub is_clean : Option Ending → Bool
is_clean (Some Clean) = true
is_clean other = false

-- a client was closed clean, by the acts of its link
abbrev pub ends_clean : List Act → Bool
ends_clean acts = has_arrived acts && is_clean (ending_of acts)

-- how many bytes a client took
abbrev pub client_bytes : List Act → ℕ
client_bytes acts = if has_arrived acts then length (output_of acts) else 0

-- the numbers of the first links
abbrev pub first_links : ℕ → List ℕ
first_links links = range_with_len 0 links

-- how many of the first links are clients'
abbrev pub arrived_below : ℕ → List Entry → ℕ
arrived_below links trace = count_by (λ link. has_arrived (own link trace)) (first_links links)

-- how many of them were closed clean
abbrev pub clean_below : ℕ → List Entry → ℕ
clean_below links trace = count_by (λ link. ends_clean (own link trace)) (first_links links)

-- how many bytes they took
abbrev pub bytes_below : ℕ → List Entry → ℕ
bytes_below links trace = sum_by (λ link. client_bytes (own link trace)) (first_links links)

-- a count stands still at the greatest number of 64 bits
abbrev pub counted : ℕ → ℕ
counted count = min count (2 ^ 64 - 1)

-- a line of the summary
abbrev pub line_of : List ℕ → ℕ → List ℕ
line_of name count = name ++ (decimal count ++ codes "\n")

-- the clients, those of them that were closed clean, and the bytes that all of them took; links to gateways count for nothing
abbrev pub summary_of : List Entry → List ℕ
summary_of trace = line_of (codes "connections ") (arrived_below (link_bound trace) trace)
    ++ (line_of (codes "clean ") (clean_below (link_bound trace) trace) ++ line_of (codes "bytes ") (counted (bytes_below (link_bound trace) trace)))

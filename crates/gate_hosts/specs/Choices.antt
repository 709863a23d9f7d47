-- Which host is asked next (lighttpd documentation, `fastcgi.balance` and `proxy.balance`). Hosts stand at their places in two lists: how many links to each are open, and whether it was tried.
use Rattle.std.specs.Prelude.{ℕ, ◌+◌, Bool, true, false, not, nat_lt, List, ◌∷◌, take, drop, position, Option, Some, None, if◌then◌else◌}
use Rattle.gate_hosts.specs.declared.choosing.Host.{Host}
use Rattle.gate_hosts.specs.declared.choosing.Policy.{Policy}
use Rattle.gate_hosts.specs.declared.choosing.Policy.TheVariants.{Fair, RoundRobin}

-- a host that was tried is none to choose
abbrev pub candidate : ℕ → ℕ → Bool → Option Host
candidate place links true = None
candidate place links false = Some (record { place = place; links = links })

-- the one with fewer open links, the earlier one on a tie
abbrev pub better : Option Host → Option Host → Option Host
better None later = later
better (Some a) None = Some a
better (Some a) (Some b) = if nat_lt b.links a.links then Some b else Some a

-- the untried host with the fewest open links, the first on a tie, where the first host stands at this place
abbrev pub fewest_from : ℕ → List ℕ → List Bool → Option Host
fewest_from place (n ∷ links) (t ∷ tried) = better (candidate place n t) (fewest_from (place + 1) links tried)
fewest_from place links tried = None

abbrev pub place_of : Option Host → Option ℕ
place_of None = None
place_of (Some host) = Some host.place

-- so many places further
abbrev pub behind : ℕ → Option ℕ → Option ℕ → Option ℕ
behind next None before = before
behind next (Some steps) before = Some (next + steps)

-- the first untried host from this position on; where there is none, the first before it
abbrev pub first_from : ℕ → List Bool → Option ℕ
first_from next tried = behind next (position not (drop next tried)) (position not (take next tried))

abbrev pub choice : Policy → ℕ → List ℕ → List Bool → Option ℕ
choice Fair next links tried = place_of (fewest_from 0 links tried)
choice RoundRobin next links tried = first_from next tried

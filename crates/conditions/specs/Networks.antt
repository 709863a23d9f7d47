-- Whether an address lies in a network (RFC 4632, section 3.1: an address and the number of its leading bits that count).
use Rattle.std.specs.Prelude.{ℕ, ◌+◌, ◌-◌, ◌*◌, ◌/◌, ◌^◌, ◌==◌, Bool, false, List, Option, Some, None, slice_index}
use Rattle.conf_value.specs.Addresses.{network_of}
use Rattle.conf_value.specs.declared.address.Network.{Network}

-- an address as one number of 32 bits
abbrev pub ip_number : List ℕ → ℕ
ip_number ip = ((slice_index ip 0 * 256 + slice_index ip 1) * 256 + slice_index ip 2) * 256 + slice_index ip 3

-- the leading bits of an address
abbrev pub prefix_of : ℕ → ℕ → ℕ
prefix_of number bits = number / 2 ^ (32 - bits)

abbrev pub is_in : Option Network → List ℕ → Bool
is_in None ip = false
is_in (Some n) ip = prefix_of (ip_number ip) n.bits == prefix_of (ip_number n.address) n.bits

-- the address has the leading bits that the text names
abbrev pub is_in_network : List ℕ → List ℕ → Bool
is_in_network text ip = is_in (network_of text) ip

-- The report of a trace (README.md of this crate, 'How a script is played').
use Rattle.std.specs.Prelude.{◌≡◌, ℕ, zero, suc, List, [], ◌++◌, length, codes, Result, Ok, Err, Option, Some, None}
use Rattle.std.specs.Fmt.{decimal}
use Rattle.lt_bytes.specs.Quoting.{quoted}
use Rattle.lt_world.specs.Trace.{Entry, own, link_bound}
use Rattle.lt_world.specs.declared.net.Ending.{Ending}
use Rattle.lt_world.specs.declared.net.Ending.TheVariants as ending
use Rattle.lt_world.specs.declared.fault.Fault.{Fault}
use Rattle.lt_world.specs.Acts.{output_of, ending_of}

-- how a link ended, or that it is open
abbrev pub ending_name : Option Ending → List ℕ
ending_name None = codes "open"
ending_name (Some ending.Clean) = codes "clean"
ending_name (Some ending.ClientFault) = codes "client-fault"
ending_name (Some ending.FileFault) = codes "file-fault"
ending_name (Some ending.GatewayCut) = codes "gateway-cut"
ending_name (Some ending.Full) = codes "full"
ending_name (Some ending.NoMemory) = codes "no-memory"
ending_name (Some ending.Gate) = codes "closed"

-- a link's line up to its bytes: its name, its ending and how many bytes it took
abbrev pub line_front : ℕ → Option Ending → ℕ → List ℕ
line_front link how count = codes "c" ++ (decimal link ++ (codes " " ++ (ending_name how ++ (codes " " ++ (decimal count ++ codes " \"")))))

-- a link's line: `NAME ENDING N "BYTES"`
abbrev pub line_of : ℕ → Option Ending → List ℕ → List ℕ
line_of link how taken = line_front link how (length taken) ++ (quoted taken ++ codes "\"\n")

-- the lines of the links below a number
abbrev pub lines_below : ℕ → List Entry → List ℕ
lines_below zero trace = []
lines_below (suc link) trace = lines_below link trace ++ line_of link (ending_of (own link trace)) (output_of (own link trace))

-- a line for each link, in their order
abbrev pub report_of : List Entry → List ℕ
report_of trace = lines_below (link_bound trace) trace

-- these bytes begin the others
abbrev pub Begins : List ℕ → List ℕ → Type 0
Begins front whole = (rest : List ℕ) × (whole ≡ front ++ rest)

-- a sink got the front of a text
pub record GotFront (old new text : List ℕ) : Type 0 where
  pub front : List ℕ
  pub begins : Begins front text
  pub got : new ≡ old ++ front

-- a sink got a text, or the front of it where a write failed
abbrev pub Writes : Result (Unit {0}) Fault → List ℕ → List ℕ → List ℕ → Type 0
Writes (Ok done) old new text = new ≡ old ++ text
Writes (Err fault) old new text = GotFront old new text

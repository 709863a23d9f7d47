-- Laws of the outside in their subject's own words.
use Rattle.std.specs.Prelude.{◌≡◌, ℕ, ◌<◌, ◌≤◌, ◌^◌, List, [], length, None, false}
use Rattle.lt_world.specs.declared.files.FileCall.{FileCall}
use Rattle.lt_world.specs.declared.files.Call.{Call}
use Rattle.lt_world.specs.declared.net.Owner.{Owner}
use Rattle.lt_world.specs.declared.net.Address.{Address}
use Rattle.lt_world.specs.declared.net.Link.{Link}
use Rattle.lt_world.specs.declared.net.Event.TheVariants as event
use Rattle.lt_world.specs.declared.net.Dialled.TheVariants as dialled
use Rattle.lt_world.specs.Trace.{Act}
use Rattle.lt_world.specs.Acts.{input_of, output_of, ending_of, deeds_of}
use Rattle.lt_world.specs.Answers.{IsNumbered, IsNumberedDial}
use Rattle.lt_world.specs.Disk.{count, log_of, is_logged}
use Rattle.lt_world.specs.FileRuns.{Leads, IsUnplanned}
use Rattle.lt_world.specs.Memory.{Stored}
use Rattle.lt_world.specs.SinkRuns.{Poured, Pours}
use Rattle.lt_world.specs.TextRuns.{Shelf, Fetches}

-- what the acts of a link come to is what its deeds come to: that it was ready brings no byte and closes nothing
abbrev pub DeedsTellAll : Type 0
DeedsTellAll = (acts : List Act) → (input_of (deeds_of acts) ≡ input_of acts) × (output_of (deeds_of acts) ≡ output_of acts) × (ending_of (deeds_of acts) ≡ ending_of acts)

-- whatever is called, the count stays, and no plan comes
abbrev pub FilesStayCalm : Type 0
FilesStayCalm = (a b : Stored) → Leads a b → IsUnplanned a → IsUnplanned b × (b.faults ≡ a.faults)

-- the same of texts
abbrev pub TextsStayCalm : Type 0
TextsStayCalm = (a b : Shelf) → Fetches a b → a.plan.fails ≡ [] → (b.plan.fails ≡ []) × (b.faults ≡ a.faults)

-- while room is left, the count stays
abbrev pub SinksStayCalm : Type 0
SinksStayCalm = (a b : Poured) → Pours a b → a.fails ≡ None → length b.bytes < b.room → b.faults ≡ a.faults

-- nothing is logged where nothing was counted
abbrev pub LogIsQuiet : Type 0
LogIsQuiet = (what : FileCall) (owner : Owner) (nth : ℕ) (calls : List Call) → count what owner calls ≡ 0 → is_logged what owner nth (log_of calls) ≡ false

-- a number of 32 bits names no link past 2^32, so none arrives and none is dialled
abbrev pub NoneArrives : Type 0
NoneArrives = (link : Link) (peer local : Address) (before after : ℕ) → link.0 < 2 ^ 32 → 2 ^ 32 ≤ before → IsNumbered (event.Arrived link peer local) before after → ⊥

-- and none is dialled
abbrev pub NoneIsDialled : Type 0
NoneIsDialled = (link : Link) (before after : ℕ) → link.0 < 2 ^ 32 → 2 ^ 32 ≤ before → IsNumberedDial (dialled.Link link) before after → ⊥

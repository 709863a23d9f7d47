-- What holds of scripts and of the nets that play them, by the definitions alone.
use Rattle.std.specs.Prelude.{◌≡◌, ℕ, ◌<◌, ◌≤◌, List, [], ◌++◌, false}
use Rattle.lt_world.specs.Trace.{Entry, own, link_bound, Extends}
use Rattle.lt_script.specs.declared.script.Step.{Step}
use Rattle.script_net.specs.Sides.{side_at, unread}
use Rattle.script_net.specs.Steps.{events_left}
use Rattle.lt_world.specs.Acts.{input_of, output_of, ending_of, deeds_of}
use Rattle.script_net.specs.Calls.{Call, start}
use Rattle.script_net.specs.Plays.{played, Plays}
use Rattle.script_net.specs.Playing.{Playing, IsLater}
use Rattle.script_net.specs.Waited.{plans_listen, plans_wait}
use Rattle.script_net.specs.Since.{IsSince}
use Rattle.script_net.specs.Reports.{report_of, lines_below, line_of}
use Rattle.script_net.specs.Failing.{IsCalm, NoneFailed}

-- what comes later than a net that was just loaded is a trace that its script plays
abbrev pub LaterPlays : Type 0
LaterPlays = (a b : Playing) → a.game ≡ start a.script → IsLater a b → Plays b.script b.game.trace b.game.left

-- the same of what came since, where it listened and waited as well
abbrev pub SincePlays : Type 0
SincePlays = (a b : Playing) → a.game ≡ start a.script → IsSince a b → Plays b.script b.game.trace b.game.left

-- where no call of `listen` and none of `wait` is planned to fail, none fails
abbrev pub UnplannedNeverFail : Type 0
UnplannedNeverFail = (a b : Playing) → IsSince a b → ((nth : ℕ) → plans_listen nth a.waited.plan ≡ false) → ((nth : ℕ) → plans_wait nth a.waited.plan ≡ false)
    → b.waited.faults ≡ a.waited.faults

-- a later net takes back nothing, and has no more events left
abbrev pub LaterGrows : Type 0
LaterGrows = (a b : Playing) → IsLater a b → Extends a.game.trace b.game.trace × (events_left b.game.left ≤ events_left a.game.left)

-- the bytes that were read on a link and those that can still be read are the bytes that the script gave to it
abbrev pub GivenIsRead : Type 0
GivenIsRead = (steps : List Step) (calls : List Call) (link : ℕ)
    → let game = played calls (start steps) in input_of (own link game.trace) ++ unread (side_at link game.sides) ≡ (side_at link game.sides).given

-- where no step makes a read or a write fail, none fails, whatever the calls
abbrev pub CalmNeverFails : Type 0
CalmNeverFails = (steps : List Step) (calls : List Call) → IsCalm steps → NoneFailed (played calls (start steps)).trace

-- the report has a line for each link, after those of the links below it, which names the ending and the bytes of its deeds
abbrev pub EachHasItsLine : Type 0
EachHasItsLine = (trace : List Entry) (link : ℕ) → link < link_bound trace
    → (rest : List ℕ) × (report_of trace ≡ lines_below link trace ++ (line_of link (ending_of (deeds_of (own link trace))) (output_of (deeds_of (own link trace))) ++ rest))

-- where no event is left, no step is
abbrev pub NoneLeft : Type 0
NoneLeft = (steps : List Step) → events_left steps ≡ 0 → steps ≡ []

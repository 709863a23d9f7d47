-- What a step leaves of a client.
use Rattle.std.specs.Prelude.{◌≡◌, ℕ, drop, true, false, Bool, List, Option, Some, None, if◌then◌else◌}
use Rattle.lt_world.specs.declared.net.Ending.{Ending}
use Rattle.lt_world.specs.declared.net.Ending.TheVariants as ending
use Rattle.lt_world.specs.Disk.{Disk, Reads}
use Rattle.lt_world.specs.Trace.{Act, Readable, Writable}
use Rattle.chunkqueue.specs.Items.{Item}
use Rattle.server_model.specs.Held.{Stage, Awaiting, Heading, Taking, Asking, Answering, Held}
use Rattle.server_model.specs.Serves.{IsWaiting}
use Rattle.server_model.specs.Steps.{advanced, answered, holding, has_no_items}
use Rattle.server_model.specs.Turns.{Seen, ReadFailed}
use Rattle.server_core.specs.declared.step.Ready.{Ready}
use Rattle.server_core.specs.declared.step.Ready.TheVariants as ready

-- no head waits for the limit of its body, and no request for its reply
abbrev pub is_idle : Stage → Bool
is_idle (Awaiting k) = true
is_idle (Heading k head) = false
is_idle (Taking k head s content) = true
is_idle (Asking k r) = false
is_idle (Answering k last) = true

-- a file is kept only for what is owed of it
abbrev pub IsFreeAt : Stage → List Item → Option ℕ → Type 0
IsFreeAt (Awaiting k) owed file = file ≡ None
IsFreeAt (Heading k head) owed file = file ≡ None
IsFreeAt (Taking k head s content) owed file = file ≡ None
IsFreeAt (Asking k r) owed file = file ≡ None
IsFreeAt (Answering k last) owed file = has_no_items owed ≡ true → file ≡ None

abbrev pub IsFree : Held → Type 0
IsFree held = IsFreeAt held.stage held.owed held.file

-- it took the step that the bytes which came allow
pub record IsAdvanced (held : Held) : Type 0 where
  pub before : Held
  pub idle : is_idle before.stage ≡ true
  pub free : IsFree before
  pub is : held ≡ advanced before

-- no request is to be answered
abbrev pub IsResting : Held → Type 0
IsResting held = IsWaiting held × IsFree held

-- one that stays open
abbrev pub WaitsOn : Option Ending → Held → Type 0
WaitsOn None held = IsResting held
WaitsOn (Some e) held = Unit {0}

-- it is answered by these items, of this file, with the last reply or not; or memory is wanted
abbrev pub GivenBy : Option Ending → Held → Held → List Item → Option ℕ → Bool → Type 0
GivenBy None old new items file last = new ≡ answered old items file last
GivenBy (Some e) old new items file last = (e ≡ ending.NoMemory) × (new ≡ holding old file)

-- the file that is given back as it takes so many bytes
abbrev pub done_file : Held → ℕ → Option ℕ
done_file held n = if has_no_items (drop n held.owed) then held.file else None

abbrev pub seen_as : Disk → ℕ → Reads → Seen
seen_as disk faults reads = record { disk = disk; faults = faults; reads = reads }

-- a read failed for request k of a client
abbrev pub FailsFor : ℕ → Seen → Seen → ℕ → Type 0
FailsFor client before after k = ReadFailed client k before after

-- the event of a link that is ready so
abbrev pub event_of : Ready → Act
event_of ready.Reading = Readable
event_of ready.Writing = Writable

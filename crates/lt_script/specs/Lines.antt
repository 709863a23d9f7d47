-- For proofs alone: how the code reads the lines of a script.
use Rattle.std.specs.Prelude.{ℕ, List, [], ◌∷◌, Option, Some, None, if◌then◌else◌, codes}
use Rattle.lt_world.specs.Memory.{is_path}
use Rattle.lt_script.specs.declared.script.Step.TheVariants as step
use Rattle.lt_script.specs.declared.script.ScriptFile.TheVariants as file
use Rattle.lt_script.specs.declared.script.FaultCall.{FaultCall}
use Rattle.lt_script.specs.declared.script.FaultCall.TheVariants as call
use Rattle.lt_script.specs.declared.limits.TheConstants.{TIME_LIMIT, FILL_LIMIT, POUR_LIMIT, TAKE_LIMIT, COUNT_LIMIT, FAULT_LIMIT}
use Rattle.lt_script.specs.declared.lines.Line.{Line}
use Rattle.lt_script.specs.declared.lines.Line.TheVariants.{Skip, File, Fault, Step}
use Rattle.lt_script.specs.declared.quoting.State.TheVariants.{Plain}
use Rattle.lt_script.specs.Gives.{◌>>=◌}
use Rattle.lt_script.specs.Fields.{after, number_at, name_at, address_at}
use Rattle.lt_script.specs.Quoting.{unquote}

-- nothing follows
abbrev pub ended : List ℕ → Line → Option Line
ended [] line = Some line
ended (b ∷ bytes) line = None

-- the line, if the path is one
abbrev pub if_path : List ℕ → Option Line → Option Line
if_path text line = if is_path text then line else None

-- the rest of an `accept` line
unfoldable pub accept_of : List ℕ → Option Line
accept_of bytes = do
  peer ← address_at bytes
  gap ← after (codes " ") peer.1
  local ← address_at gap
  ended local.1 (Step (step.Accept peer.0 local.0))

-- the rest of a `data` line
unfoldable pub data_of : List ℕ → Option Line
data_of bytes = do
  link ← name_at bytes
  quote ← after (codes " \"") link.1
  text ← unquote quote Plain
  ended text.1 (Step (step.Bytes link.0 text.0))

-- the rest of a `pour` line
unfoldable pub pour_of : List ℕ → Option Line
pour_of bytes = do
  link ← name_at bytes
  gap ← after (codes " ") link.1
  size ← number_at 1 POUR_LIMIT gap
  ended size.1 (Step (step.Pour link.0 size.0))

-- the rest of an `end` line
unfoldable pub end_of : List ℕ → Option Line
end_of bytes = do
  link ← name_at bytes
  ended link.1 (Step (step.End link.0))

-- the rest of a `ready` line
unfoldable pub ready_of : List ℕ → Option Line
ready_of bytes = do
  link ← name_at bytes
  gap ← after (codes " ") link.1
  count ← number_at 1 COUNT_LIMIT gap
  ended count.1 (Step (step.Ready link.0 count.0))

-- the rest of an `rfail` line
unfoldable pub read_fail_of : List ℕ → Option Line
read_fail_of bytes = do
  link ← name_at bytes
  ended link.1 (Step (step.ReadFail link.0))

-- the rest of a `take` line
unfoldable pub take_of : List ℕ → Option Line
take_of bytes = do
  link ← name_at bytes
  gap ← after (codes " ") link.1
  size ← number_at 0 TAKE_LIMIT gap
  gap ← after (codes " ") size.1
  count ← number_at 1 COUNT_LIMIT gap
  ended count.1 (Step (step.Take link.0 size.0 count.0))

-- the rest of a `wfail` line
unfoldable pub write_fail_of : List ℕ → Option Line
write_fail_of bytes = do
  link ← name_at bytes
  ended link.1 (Step (step.WriteFail link.0))

-- the number of a call, after its kind
unfoldable pub nth_of : FaultCall → List ℕ → Option Line
nth_of which bytes = do
  nth ← number_at 0 FAULT_LIMIT bytes
  ended nth.1 (Fault (record { call = which; nth = nth.0 }))

-- the rest of a `file` line, from its path on
unfoldable pub file_of : List ℕ → Option Line
file_of bytes = do
  path ← unquote bytes Plain
  gap ← after (codes " ") path.1
  time ← number_at 0 TIME_LIMIT gap
  quote ← after (codes " \"") time.1
  text ← unquote quote Plain
  if_path path.0 (ended text.1 (File (file.Bytes path.0 time.0 text.0)))

-- the rest of a `fill` line, from its path on
unfoldable pub fill_of : List ℕ → Option Line
fill_of bytes = do
  path ← unquote bytes Plain
  gap ← after (codes " ") path.1
  time ← number_at 0 TIME_LIMIT gap
  gap ← after (codes " ") time.1
  size ← number_at 0 FILL_LIMIT gap
  if_path path.0 (ended size.1 (File (file.Fill path.0 time.0 size.0)))

-- the rest of a `dir` line, from its path on
unfoldable pub dir_of : List ℕ → Option Line
dir_of bytes = do
  path ← unquote bytes Plain
  if_path path.0 (ended path.1 (File (file.Dir path.0)))

-- the first of these fronts that a line has decides what it is
abbrev pub on : Option (List ℕ) → (List ℕ → Option Line) → Option Line → Option Line
on None f other = other
on (Some rest) f other = f rest

-- the rest of a `fault` line
unfoldable pub fault_of : List ℕ → Option Line
fault_of bytes =
    on (after (codes "connect ") bytes) (nth_of call.Connect)
    (on (after (codes "find ") bytes) (nth_of call.Find)
    (on (after (codes "open ") bytes) (nth_of call.Open)
    (on (after (codes "file ") bytes) (nth_of call.File)
    (on (after (codes "listen ") bytes) (nth_of call.Listen)
    (on (after (codes "wait ") bytes) (nth_of call.Wait)
    None)))))

-- a line without a text between quotes
unfoldable pub plain_of : List ℕ → Option Line
plain_of line =
    on (after (codes "accept ") line) accept_of
    (on (after (codes "pour ") line) pour_of
    (on (after (codes "end ") line) end_of
    (on (after (codes "ready ") line) ready_of
    (on (after (codes "rfail ") line) read_fail_of
    (on (after (codes "take ") line) take_of
    (on (after (codes "wfail ") line) write_fail_of
    (on (after (codes "fault ") line) fault_of
    (on (after (codes "idle") line) (λ rest. ended rest (Step step.Idle))
    (ended line Skip)))))))))

-- what a line says, if it is one of the grammar
unfoldable pub line_of : List ℕ → Option Line
line_of line =
    on (after (codes "#") line) (λ rest. Some Skip)
    (on (after (codes "data ") line) data_of
    (on (after (codes "file \"") line) file_of
    (on (after (codes "fill \"") line) fill_of
    (on (after (codes "dir \"") line) dir_of
    (plain_of line)))))

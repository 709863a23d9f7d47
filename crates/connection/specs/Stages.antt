-- Where a connection stands: what is to be done for it next.
use Rattle.std.specs.Prelude.{ℕ, ◌+◌, Bool, true, false, not, ◌||◌, List, Option, Some, None, if◌then◌else◌}
use Rattle.chunkqueue.specs.Items.{Item}
use Rattle.server_model.specs.Request.{Request, Unfinished, Refused, Open, Declined, Complete, is_complete}
use Rattle.server_model.specs.Held as model
use Rattle.server_model.specs.Held.{Held, Awaiting, Heading, Taking, Asking, Answering}
use Rattle.server_model.specs.Steps.{has_no_items, has_no_bytes}
use Rattle.lt_http_body.specs.Standings.{is_over}
use Rattle.connection.specs.declared.stage.Stage.{Stage}
use Rattle.connection.specs.declared.stage.Stage.TheVariants as stage

-- a request that is there is answered first
abbrev pub asking_stage : Request → Stage
asking_stage Unfinished = stage.Waiting
asking_stage (Refused status) = stage.Refused status
asking_stage (Open head) = stage.Waiting
asking_stage (Declined status head) = stage.Refused status
asking_stage (Complete head content) = stage.Whole

-- what is owed is sent, and then the connection is at its end or waits for more
abbrev pub owing_stage : Bool → List Item → Stage
owing_stage over owed = if has_no_items owed then (if over then stage.Finished else stage.Waiting) else stage.Writing

abbrev pub stage_at : model.Stage → List Item → Bool → Stage
stage_at (Awaiting k) owed ended = owing_stage ended owed
stage_at (Heading k head) owed ended = stage.Head
stage_at (Taking k head s content) owed ended = owing_stage ended owed
stage_at (Asking k r) owed ended = asking_stage r
stage_at (Answering k last) owed ended = owing_stage last owed

-- where a connection stands once it advanced
abbrev pub stage_of : Held → Stage
stage_of held = stage_at held.stage held.owed held.ended

-- a request is there, and isn't answered
abbrev pub is_asking : model.Stage → Bool
is_asking (Awaiting k) = false
is_asking (Heading k head) = false
is_asking (Taking k head s content) = false
is_asking (Asking k r) = true
is_asking (Answering k last) = false

-- the head of a request was read, and the limit of its body is asked for
abbrev pub is_heading : model.Stage → Bool
is_heading (Awaiting k) = false
is_heading (Heading k head) = true
is_heading (Taking k head s content) = false
is_heading (Asking k r) = false
is_heading (Answering k last) = false

-- the body of a request is read
abbrev pub is_taking : model.Stage → Bool
is_taking (Awaiting k) = false
is_taking (Heading k head) = false
is_taking (Taking k head s content) = true
is_taking (Asking k r) = false
is_taking (Answering k last) = false

-- a request is whole, and isn't answered
abbrev pub is_whole : model.Stage → Bool
is_whole (Awaiting k) = false
is_whole (Heading k head) = false
is_whole (Taking k head s content) = false
is_whole (Asking k r) = is_complete r
is_whole (Answering k last) = false

-- a body takes up what came, or is over
abbrev pub feeds_at : model.Stage → List ℕ → Bool
feeds_at (Awaiting k) input = false
feeds_at (Heading k head) input = false
feeds_at (Taking k head s content) input = not (has_no_bytes input) || is_over s.state
feeds_at (Asking k r) input = false
feeds_at (Answering k last) input = false

abbrev pub feeds : Held → Bool
feeds held = feeds_at held.stage held.input

-- the number of the request that what came is looked at for, where it is
abbrev pub next_number_at : model.Stage → List Item → Option ℕ
next_number_at (Awaiting k) owed = Some k
next_number_at (Heading k head) owed = None
next_number_at (Taking k head s content) owed = None
next_number_at (Asking k r) owed = None
next_number_at (Answering k true) owed = None
next_number_at (Answering k false) owed = if has_no_items owed then Some (k + 1) else None

abbrev pub next_number : Held → Option ℕ
next_number held = next_number_at held.stage held.owed

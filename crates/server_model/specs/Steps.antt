-- What each step makes of what is kept for one client.
use Rattle.std.specs.Prelude.{ℕ, ◌+◌, ◌-◌, List, [], ◌∷◌, ◌++◌, length, map, drop, nat_lt, Bool, true, false, not, ◌&&◌, ◌||◌, Option, None, Result, Ok, Err, if◌then◌else◌}
use Rattle.lt_world.specs.declared.net.Address.{Address}
use Rattle.chunkqueue.specs.Items.{Item, Byte, FileByte}
use Rattle.lt_http_body.specs.declared.standing.Standing.{Standing}
use Rattle.lt_http_body.specs.declared.body.BodyState.{BodyState}
use Rattle.lt_http_body.specs.declared.body.BodyState.TheVariants as body
use Rattle.lt_http_body.specs.declared.body.BodyRefusal.{BodyRefusal}
use Rattle.lt_http_body.specs.Standings.{begin, answer_from, is_over}
use Rattle.lt_http_body.specs.Reading.{standing_after, data_in, taken_in}
use Rattle.server_model.specs.Request.{Head, Request, Unfinished, Refused, Open, Declined, Complete, Front, NoHead, BadHead, HasHead, is_headed, has_head, front_of, body_status}
use Rattle.server_model.specs.Reply.{continue_bytes}
use Rattle.server_model.specs.Client.{input_limit}
use Rattle.server_model.specs.Held.{Stage, Awaiting, Heading, Taking, Asking, Answering, Held}

abbrev pub arrived : ℕ → Address → Address → Held
arrived link peer local = record { link = link; peer = peer; local = local; input = []; stage = Awaiting 0; owed = []; staged = []; file = None; ended = false }

abbrev pub received : Held → List ℕ → Held
received held bytes = record held { input = held.input ++ bytes }

abbrev pub received_end : Held → Held
received_end held = record held { ended = true }

abbrev pub number_of : Stage → ℕ
number_of (Awaiting k) = k
number_of (Heading k head) = k
number_of (Taking k head s content) = k
number_of (Asking k r) = k
number_of (Answering k last) = k

abbrev pub has_no_items : List Item → Bool
has_no_items [] = true
has_no_items (item ∷ items) = false

-- what came is looked at for request k
abbrev pub looked_at : ℕ → Front → Held → Held
looked_at k NoHead held = record held { stage = Awaiting k }
looked_at k (BadHead status) held = record held { stage = Asking k (Refused status) }
looked_at k (HasHead head rest) held = record held { stage = Heading k head; input = rest }

abbrev pub looked : ℕ → Held → Held
looked k held = looked_at k (front_of held.input) held

-- by what is answered behind the bytes of a body
abbrev pub fed_at : ℕ → Head → Result BodyState BodyRefusal → Standing → List ℕ → Stage
fed_at k head (Ok body.NeedMore) s content = Taking k head s content
fed_at k head (Ok body.Done) s content = Asking k (Complete head content)
fed_at k head (Err refused) s content = Asking k (Declined (body_status refused) head)

-- what came is taken up as far as it belongs to the body
abbrev pub fed : ℕ → Head → Standing → List ℕ → Held → Held
fed k head s content held = record held {
  stage = fed_at k head (answer_from (standing_after s held.input).state) (standing_after s held.input) (content ++ data_in s held.input);
  input = drop (taken_in s held.input) held.input;
}

abbrev pub advanced_at : Stage → Held → Held
advanced_at (Awaiting k) held = looked k held
advanced_at (Heading k head) held = held
advanced_at (Taking k head s content) held = fed k head s content held
advanced_at (Asking k r) held = held
advanced_at (Answering k true) held = held
advanced_at (Answering k false) held = if has_no_items held.owed then looked (k + 1) held else held

-- the step that the bytes which came allow: a head is taken up once it is there and all replies before it were taken, and then the bytes of its body
abbrev pub advanced : Held → Held
advanced held = advanced_at held.stage held

abbrev pub has_no_bytes : List ℕ → Bool
has_no_bytes [] = true
has_no_bytes (b ∷ bytes) = false

-- what came is looked at in this step
abbrev pub looks_at : Stage → List ℕ → List Item → Bool
looks_at (Awaiting k) input owed = true
looks_at (Heading k head) input owed = false
looks_at (Taking k head s content) input owed = not (has_no_bytes input) || is_over s.state
looks_at (Asking k r) input owed = false
looks_at (Answering k last) input owed = not last && has_no_items owed

abbrev pub looks : Held → Bool
looks held = looks_at held.stage held.input held.owed

-- what is to be done for it next may want memory: a whole head or a body is taken up, or a request is answered
abbrev pub wants_memory_at : Stage → List ℕ → List Item → Bool
wants_memory_at (Awaiting k) input owed = is_headed (front_of input)
wants_memory_at (Heading k head) input owed = true
wants_memory_at (Taking k head s content) input owed = not (has_no_bytes input) || is_over s.state
wants_memory_at (Asking k r) input owed = has_head r
wants_memory_at (Answering k last) input owed = not last && has_no_items owed && is_headed (front_of input)

abbrev pub wants_memory : Held → Bool
wants_memory held = wants_memory_at held.stage held.input held.owed

-- the body of a request whose head was read is accepted up to a limit, and the client is told so where it waits for that
abbrev pub accepted_at : Stage → ℕ → Held → Held
accepted_at (Heading k head) limit held = record held { stage = Taking k head (begin head.framing limit) []; owed = held.owed ++ map Byte (continue_bytes head limit) }
accepted_at other limit held = held

abbrev pub accepted : Held → ℕ → Held
accepted held limit = accepted_at held.stage limit held

-- the request that is there is answered by these items, of this file, with the last reply or not
abbrev pub answered : Held → List Item → Option ℕ → Bool → Held
answered held items file last = record held { stage = Answering (number_of held.stage) last; owed = held.owed ++ items; file = file }

-- its answer was begun with this file, and memory was wanted
abbrev pub holding : Held → Option ℕ → Held
holding held file = record held { file = file }

-- it took so many bytes
abbrev pub took : Held → ℕ → Held
took held n = record held { owed = drop n held.owed; staged = drop n held.staged }

-- its file is given back
abbrev pub without_file : Held → Held
without_file held = record held { file = None }

-- it took so many bytes, and the file is given back once nothing is owed any more
abbrev pub wrote : Held → ℕ → Held
wrote held n = if has_no_items (drop n held.owed) then without_file (took held n) else took held n

-- these bytes of the front are read from its file
abbrev pub staged : Held → List ℕ → Held
staged held bytes = record held { staged = bytes }

abbrev pub is_done_at : Stage → Bool → Bool
is_done_at (Awaiting k) ended = ended
is_done_at (Heading k head) ended = false
is_done_at (Taking k head s content) ended = ended
is_done_at (Asking k r) ended = false
is_done_at (Answering k last) ended = last

-- nothing is owed, and nothing further can come
abbrev pub is_done : Held → Bool
is_done held = has_no_items held.owed && is_done_at held.stage held.ended

-- further requests can come
abbrev pub reads_after : Request → Bool
reads_after Unfinished = true
reads_after (Refused status) = false
reads_after (Open head) = true
reads_after (Declined status head) = false
reads_after (Complete head content) = true

abbrev pub is_read_at : Stage → Bool
is_read_at (Awaiting k) = true
is_read_at (Heading k head) = true
is_read_at (Taking k head s content) = true
is_read_at (Asking k r) = reads_after r
is_read_at (Answering k last) = not last

-- how many bytes may be read: none where no read is wanted
abbrev pub room_of : Held → ℕ
room_of held = if is_read_at held.stage && not held.ended then input_limit - length held.input else 0

-- a read is wanted
abbrev pub wants_read : Held → Bool
wants_read held = nat_lt 0 (room_of held)

-- no byte of a file is left among these
abbrev pub is_in_memory : List Item → Bool
is_in_memory [] = true
is_in_memory (Byte b ∷ items) = is_in_memory items
is_in_memory (FileByte file at ∷ items) = false

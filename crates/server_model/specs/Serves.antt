-- How what a server keeps stands for a trace and for what the files tell.
use Rattle.std.specs.Prelude.{◌≡◌, ℕ, ◌+◌, ◌<◌, ◌≤◌, List, [], ◌++◌, length, Bool, true, false, Option, Some, None}
use Rattle.lt_world.specs.Acts.{input_of, output_of}
use Rattle.lt_world.specs.declared.files.FileCall.{FileCall}
use Rattle.lt_world.specs.Disk.{Table, Disk}
use Rattle.lt_world.specs.Trace.{Act, Entry}
use Rattle.server_model.specs.Settings.{limit_for}
use Rattle.server_model.specs.Request.{Head, Request, Unfinished, Refused, Open, Declined, Complete, Limits, NoHead, HasHead, front_of, request_of, is_complete, begin_of}
use Rattle.lt_http_body.specs.declared.standing.Standing.{Standing}
use Rattle.lt_http_body.specs.Standings.{is_over}
use Rattle.lt_http_body.specs.Reading.{standing_after, data_in, taken_in}
use Rattle.server_model.specs.World.{World, world_of, call_count}
use Rattle.server_model.specs.Reply.{Whole, continue_of}
use Rattle.server_model.specs.Stream.{Passed, reply_at, left_after, replies_to}
use Rattle.server_model.specs.Deeds.{Deed, own, ours}
use Rattle.server_model.specs.Client.{has_ended, has_failed, is_open, CameFrom, AskedInTurn, AskedWhole, IsFinished, IsServedRight}
use Rattle.chunkqueue.specs.Items.{Item, bytes_of, Shows}
use Rattle.server_model.specs.Held.{Stage, Awaiting, Heading, Taking, Asking, Answering, Held, Serving, kept_at}
use Rattle.server_model.specs.Steps.{has_no_items}
use Rattle.server_model.specs.Open.{open_clients}
use Rattle.server_model.specs.Files.{file_of}

-- the replies before k were taken, and nothing is owed
pub record IsAwaiting (world : World) (held : Held) (acts : List Act) (k : ℕ) : Type 0 where
  pub passed : Passed k (replies_to world (input_of acts)) (output_of acts)
  pub input : held.input ≡ left_after (limit_for world) k (input_of acts)
  pub owed : held.owed ≡ []
  pub staged : held.staged ≡ []
  pub file : held.file ≡ None

-- the replies before k were taken, and of these first bytes of reply k what isn't owed
pub record IsBegun (opened : Table) (world : World) (held : Held) (acts : List Act) (k : ℕ) (bytes : List ℕ) : Type 0 where
  pub before : List ℕ
  pub taken : List ℕ
  pub passed : Passed k (replies_to world (input_of acts)) before
  pub output : output_of acts ≡ before ++ taken
  pub owed : taken ++ bytes_of opened held.owed ≡ bytes
  pub shows : Shows opened held.owed held.staged

-- the replies before k were taken, and the head of request k was read
pub record IsHeading (world : World) (held : Held) (acts : List Act) (k : ℕ) (head : Head) : Type 0 where
  pub passed : Passed k (replies_to world (input_of acts)) (output_of acts)
  pub front : front_of (left_after (limit_for world) k (input_of acts)) ≡ HasHead head held.input
  pub owed : held.owed ≡ []
  pub staged : held.staged ≡ []
  pub file : held.file ≡ None

-- the head of request k was read, and of its body these first bytes
pub record IsTaking (opened : Table) (world : World) (held : Held) (acts : List Act) (k : ℕ) (head : Head) (s : Standing) (content : List ℕ) : Type 0 where
  pub begun : IsBegun opened world held acts k (continue_of (limit_for world) head)
  pub read : List ℕ
  pub front : front_of (left_after (limit_for world) k (input_of acts)) ≡ HasHead head (read ++ held.input)
  pub stands : s ≡ standing_after (begin_of (limit_for world) head) read
  pub content_is : content ≡ data_in (begin_of (limit_for world) head) read
  pub own : taken_in (begin_of (limit_for world) head) read ≡ length read
  pub file : held.file ≡ None

-- what a client is told before the reply to a request
abbrev pub told_first : Limits → Request → List ℕ
told_first limits Unfinished = []
told_first limits (Refused status) = []
told_first limits (Open head) = continue_of limits head
told_first limits (Declined status head) = continue_of limits head
told_first limits (Complete head content) = continue_of limits head

-- request k is there
pub record IsAsking (opened : Table) (world : World) (held : Held) (acts : List Act) (k : ℕ) (r : Request) : Type 0 where
  pub begun : IsBegun opened world held acts k (told_first (limit_for world) r)
  pub request : request_of (limit_for world) (left_after (limit_for world) k (input_of acts)) ≡ r
  pub input : is_complete r ≡ true → held.input ≡ left_after (limit_for world) (k + 1) (input_of acts)
  pub file : held.file ≡ None

-- the replies before k were taken, and of reply k what isn't owed
pub record IsAnswering (opened : Table) (world : World) (held : Held) (acts : List Act) (k : ℕ) (last : Bool) : Type 0 where
  pub before : List ℕ
  pub taken : List ℕ
  pub passed : Passed k (replies_to world (input_of acts)) before
  pub output : output_of acts ≡ before ++ taken
  pub owed : taken ++ bytes_of opened held.owed ≡ (reply_at k (replies_to world (input_of acts))).bytes
  pub shows : Shows opened held.owed held.staged
  pub whole : (reply_at k (replies_to world (input_of acts))).extent ≡ Whole
  pub last_is : (reply_at k (replies_to world (input_of acts))).last ≡ last
  pub input : last ≡ false → held.input ≡ left_after (limit_for world) (k + 1) (input_of acts)

abbrev pub IsAt : Table → World → Held → List Act → Stage → Type 0
IsAt opened world held acts (Awaiting k) = IsAwaiting world held acts k
IsAt opened world held acts (Heading k head) = IsHeading world held acts k head
IsAt opened world held acts (Taking k head s content) = IsTaking opened world held acts k head s content
IsAt opened world held acts (Asking k r) = IsAsking opened world held acts k r
IsAt opened world held acts (Answering k last) = IsAnswering opened world held acts k last

-- the first request for which no call on files was made
abbrev pub first_unasked : Stage → ℕ
first_unasked (Awaiting k) = k
first_unasked (Heading k head) = k
first_unasked (Taking k head s content) = k
first_unasked (Asking k r) = k
first_unasked (Answering k last) = k + 1

-- what is kept is what the client's acts and its world determine
pub record Matches (opened : Table) (world : World) (held : Held) (acts : List Act) : Type 0 where
  pub is_open : is_open acts ≡ true
  pub sound : has_failed acts ≡ false
  pub came : CameFrom held.peer held.local acts
  pub ended : held.ended ≡ has_ended acts
  pub at : IsAt opened world held acts held.stage
  pub in_turn : AskedInTurn world acts
  pub unasked : (k : ℕ) (what : FileCall) → first_unasked held.stage ≤ k → call_count world k what ≡ 0
  -- where calls were made they are exactly those of the plan
  pub asked : (k : ℕ) (what : FileCall) → 0 < call_count world k what → AskedWhole world acts k

-- no request is to be answered, all that came of a body was taken up, and of a reply that was given something is owed
abbrev pub IsWaitingAt : Stage → List ℕ → List Item → Type 0
IsWaitingAt (Awaiting k) input owed = front_of input ≡ NoHead
IsWaitingAt (Heading k head) input owed = ⊥
IsWaitingAt (Taking k head s content) input owed = (input ≡ []) × (is_over s.state ≡ false)
IsWaitingAt (Asking k r) input owed = ⊥
IsWaitingAt (Answering k last) input owed = has_no_items owed ≡ false

abbrev pub IsWaiting : Held → Type 0
IsWaiting held = IsWaitingAt held.stage held.input held.owed

-- and nothing is left to do
pub record Stands (opened : Table) (world : World) (held : Held) (acts : List Act) : Type 0 where
  pub matches : Matches opened world held acts
  pub waiting : IsWaiting held
  pub unfinished : IsFinished world acts → ⊥

-- it isn't open, and what it got was right
pub record IsGone (world : World) (deeds : List Deed) : Type 0 where
  pub shut : is_open (ours deeds) ≡ false
  pub right : IsServedRight world deeds

-- what is kept for a client, or that nothing is, stands for its deeds
abbrev pub StandsFor : Table → World → Option Held → List Deed → Type 0
StandsFor opened world None deeds = IsGone world deeds
StandsFor opened world (Some held) deeds = Stands opened world held (ours deeds)

-- for each link the table stands for what was done for it, as many clients are kept as are open, and just the files that clients keep are open
pub record Serves (disk : Disk) (server : Serving) (trace : List Entry) : Type 0 where
  pub each : (link : ℕ) → StandsFor disk.table (world_of server.site disk link (own link trace)) (kept_at link server.table) (own link trace)
  pub count : open_clients trace ≡ length server.table
  pub opened : (file : ℕ) (bytes : List ℕ) → disk.table file ≡ Some bytes → (link : ℕ) × (file_of (kept_at link server.table) ≡ Some file)

-- What the fields of a connection stand for.
use Rattle.std.specs.Prelude.{◌≡◌, ℕ, ◌≤◌, ◌<◌, ◌^◌, ◌-◌, ◌++◌, List, [], length, true, false, Option, None}
use Rattle.lt_world.specs.declared.files.FileId.{FileId}
use Rattle.chunkqueue.specs.Items.{Contents, items_of, count_of, staged_of, front_of, memory_front}
use Rattle.http_head.specs.Scan.{IsScan}
use Rattle.server_model.specs.Request.{Refused, Declined, Complete}
use Rattle.server_model.specs.Client.{input_limit}
use Rattle.server_model.specs.Held as model
use Rattle.server_model.specs.Steps.{is_in_memory}
use Rattle.connection.specs.Connection.{Connected, file_number, offers_of}
use Rattle.connection.specs.declared.progress.Progress.{Progress}
use Rattle.connection.specs.declared.progress.Progress.TheVariants as progress
use Rattle.connection.specs.declared.connection.Conn.TheInside.{Inside}

-- by the content so far
abbrev pub stage_by : ℕ → Progress → List ℕ → model.Stage
stage_by number (progress.Awaiting scan) content = model.Awaiting number
stage_by number (progress.Heading request) content = model.Heading number request
stage_by number (progress.Taking request s) content = model.Taking number request s content
stage_by number (progress.Whole request) content = model.Asking number (Complete request content)
stage_by number (progress.Refused status) content = model.Asking number (Refused status)
stage_by number (progress.Declined status request) content = model.Asking number (Declined status request)
stage_by number (progress.Answering last) content = model.Answering number last

abbrev pub connected_of : Inside → Connected
connected_of c = record {
  held = record {
    link = c.link.0;
    peer = c.peer;
    local = c.local;
    input = memory_front (items_of c.input);
    stage = stage_by c.number c.progress (memory_front (items_of c.body));
    owed = items_of c.output;
    staged = staged_of c.output;
    file = file_number c.file;
    ended = c.ended;
  };
  front = front_of c.output;
  offers = offers_of c.output;
  numbers = c.input.numbers ++ (c.body.numbers ++ c.output.numbers);
}

-- bytes of 100 (Continue), which alone may be owed before a request is answered
abbrev pub continue_size : ℕ
continue_size = 25

-- bytes of a body's content, at most: far above every machine's memory
abbrev pub content_limit : ℕ
content_limit = 2 ^ 62

-- what is owed before a request is answered; a file is kept only for what is owed, and a reply with the greatest number is the last
abbrev pub IsAt : ℕ → Progress → Contents → Option FileId → Type 0
IsAt number (progress.Awaiting scan) output file = (items_of output ≡ []) × (file ≡ None)
IsAt number (progress.Heading request) output file = (items_of output ≡ []) × (file ≡ None)
IsAt number (progress.Taking request s) output file = (count_of output ≤ continue_size) × (file ≡ None)
IsAt number (progress.Answering last) output file = (items_of output ≡ [] → file ≡ None) × (last ≡ false → number < 2 ^ 32 - 1)
IsAt number asking output file = count_of output ≤ continue_size

-- content is held only of a body that is read, is whole or is refused
abbrev pub IsContentAt : Progress → Contents → Type 0
IsContentAt (progress.Awaiting scan) body = items_of body ≡ []
IsContentAt (progress.Heading request) body = items_of body ≡ []
IsContentAt (progress.Refused status) body = items_of body ≡ []
IsContentAt (progress.Answering last) body = items_of body ≡ []
IsContentAt with_body body = Unit {0}

-- a head that is awaited was looked for in all that came
abbrev pub IsSeen : Progress → Contents → Type 0
IsSeen (progress.Awaiting scan) input = IsScan (memory_front (items_of input)) scan
IsSeen other input = Unit {0}

pub record IsConn (c : Inside) : Type 0 where
  pub memory : is_in_memory (items_of c.input) ≡ true
  pub within : count_of c.input ≤ input_limit
  pub seen : IsSeen c.progress c.input
  pub staged : length (staged_of c.output) ≤ count_of c.output
  pub rests : IsAt c.number c.progress c.output c.file
  pub content : is_in_memory (items_of c.body) ≡ true
  pub few : count_of c.body < content_limit
  pub empty : IsContentAt c.progress c.body

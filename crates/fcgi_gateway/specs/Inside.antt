-- What the fields of a task stand for.
use Rattle.std.specs.Prelude.{◌≡◌, ℕ, List, ◌++◌, drop}
use Rattle.chunkqueue.specs.Items.{Contents, items_of, front_of}
use Rattle.cgi_text.specs.declared.head.CgiHead.{CgiHead}
use Rattle.cgi_text.specs.Attempts as heard
use Rattle.fcgi_records.specs.Feeding.{AllInMemory, bytes_of}
use Rattle.fcgi_gateway.specs.Task.{Task}
use Rattle.fcgi_gateway.specs.Sending.{unsent_of, offer_of, IsSoundSending}
use Rattle.fcgi_gateway.specs.Progress.{heard_at}
use Rattle.fcgi_gateway.specs.declared.task.FcgiTask.TheInside.{Inside}

abbrev pub task_of : Inside → Task
task_of t = record {
  unsent = unsent_of t.lead (bytes_of t.body) t.sending;
  offer = offer_of t.lead (front_of t.body) t.sending;
  begun = t.begun;
  over = t.over;
  stands = t.reader;
  stdout = bytes_of t.out;
  heard = heard_at (bytes_of t.out) t.progress;
  numbers = t.body.numbers ++ t.out.numbers;
}

pub record IsTask (t : Inside) : Type 0 where
  pub body : AllInMemory (items_of t.body)
  pub out : AllInMemory (items_of t.out)
  pub sending : IsSoundSending t.lead (bytes_of t.body) t.sending

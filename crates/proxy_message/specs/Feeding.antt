-- What a call makes of an answer and its queues.
use Rattle.std.specs.Prelude.{◌≡◌, ℕ, ◌+◌, ◌<◌, ◌≤◌, Bool, List, ◌++◌, map, take, drop, length, Result, Ok, Err}
use Rattle.chunkqueue.specs.Items.{Byte, Contents, items_of, count_of}
use Rattle.lt_http_body.specs.Feeding.{bytes_of}
use Rattle.http_head.specs.declared.ends.HeadEnd.TheVariants.{NotYet}
use Rattle.http_head.specs.Ends.{head_end}
use Rattle.proxy_message.specs.declared.progress.Progress.{Progress}
use Rattle.proxy_message.specs.declared.refusal.AnswerState.{AnswerState}
use Rattle.proxy_message.specs.declared.refusal.AnswerRefusal.{AnswerRefusal}
use Rattle.proxy_message.specs.declared.refusal.AnswerRefusal.TheVariants as refused
use Rattle.proxy_message.specs.declared.stage.Stage.{Stage}
use Rattle.proxy_message.specs.declared.stage.Stage.TheVariants as stage
use Rattle.proxy_message.specs.Progress.{before}
use Rattle.proxy_message.specs.Reading.{progress_after, content_in, taken_in, Passes}

-- first items of the input are gone, and what is left of it is to the answer as it stands now what it was, but for the bytes of the body that were moved
pub record Reads (old : Progress) (input : Contents) (new : Progress) (input' : Contents) (moved : List ℕ) : Type 0 where
  pub count : ℕ
  pub within : count ≤ count_of input
  pub carries : length moved ≤ count
  pub rest : items_of input' ≡ drop count (items_of input)
  pub stands : progress_after old (bytes_of input) ≡ progress_after new (bytes_of input')
  pub reads : content_in old (bytes_of input) ≡ moved ++ content_in new (bytes_of input')
  pub counts : taken_in old (bytes_of input) ≡ count + taken_in new (bytes_of input')

-- the bytes that were moved stand behind the body's
pub record Takes (old : Progress) (input body : Contents) (new : Progress) (input' body' : Contents) : Type 0 where
  pub moved : List ℕ
  pub reads : Reads old input new input' moved
  pub gained : items_of body' ≡ items_of body ++ map Byte moved

-- p, unless memory was missing
abbrev pub UnlessNoMemory : Result AnswerState AnswerRefusal → Type 0 → Type 0
UnlessNoMemory (Ok answer) p = p
UnlessNoMemory (Err refused.BadAnswer) p = p
UnlessNoMemory (Err refused.TooLarge) p = p
UnlessNoMemory (Err refused.NoMemory) p = Unit {0}

-- a head that is read has not ended
abbrev pub IsSoundStage : Stage → Type 0
IsSoundStage (stage.Head bytes) = head_end bytes ≡ NotYet
IsSoundStage other = Unit {0}

-- the first n bytes, behind those of a head that came before, are the answer's own, and it stands there behind them
pub record IsHeaded (head_only : Bool) (held bytes : List ℕ) (behind : Progress) (n : ℕ) : Type 0 where
  pub some : 0 < n
  pub within : n ≤ length bytes
  pub passes : Passes (before head_only (stage.Head held)) (take n bytes) behind
  pub sound : IsSoundStage behind.stage

-- What a call makes of a body and its queues.
use Rattle.std.specs.Prelude.{◌≡◌, ℕ, ◌+◌, ◌≤◌, List, [], ◌∷◌, ◌++◌, map, drop, length, Result, Ok, Err}
use Rattle.chunkqueue.specs.Items.{Item, Byte, FileByte, Contents, items_of, count_of, memory_front}
use Rattle.lt_http_body.specs.declared.body.BodyState.{BodyState}
use Rattle.lt_http_body.specs.declared.body.BodyRefusal.{BodyRefusal}
use Rattle.lt_http_body.specs.declared.body.BodyRefusal.TheVariants as refused
use Rattle.lt_http_body.specs.declared.standing.Standing.{Standing}
use Rattle.lt_http_body.specs.Reading.{standing_after, data_in, taken_in}

-- no item is the byte of a file
abbrev pub AllInMemory : List Item → Type 0
AllInMemory [] = Unit {0}
AllInMemory (Byte byte ∷ items) = AllInMemory items
AllInMemory (FileByte file place ∷ items) = ⊥

-- the bytes of a queue without ranges of files
abbrev pub bytes_of : Contents → List ℕ
bytes_of queue = memory_front (items_of queue)

-- first items of the input are gone, and what is left of it is to the body as it stands now what it was, but for the data that was moved
pub record Reads (old : Standing) (input : Contents) (new : Standing) (input' : Contents) (moved : List ℕ) : Type 0 where
  pub count : ℕ
  pub within : count ≤ count_of input
  pub carries : length moved ≤ count
  pub rest : items_of input' ≡ drop count (items_of input)
  pub stands : standing_after old (bytes_of input) ≡ standing_after new (bytes_of input')
  pub reads : data_in old (bytes_of input) ≡ moved ++ data_in new (bytes_of input')
  pub counts : taken_in old (bytes_of input) ≡ count + taken_in new (bytes_of input')

-- the data that was moved stands behind the body's
pub record Takes (old : Standing) (input body : Contents) (new : Standing) (input' body' : Contents) : Type 0 where
  pub moved : List ℕ
  pub reads : Reads old input new input' moved
  pub gained : items_of body' ≡ items_of body ++ map Byte moved

-- p, unless memory was missing
abbrev pub UnlessNoMemory : Result BodyState BodyRefusal → Type 0 → Type 0
UnlessNoMemory (Ok answer) p = p
UnlessNoMemory (Err refused.BadChunk) p = p
UnlessNoMemory (Err refused.TooLarge) p = p
UnlessNoMemory (Err refused.NoMemory) p = Unit {0}

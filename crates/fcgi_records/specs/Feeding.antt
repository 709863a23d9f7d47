-- What a call makes of a reader and its queues.
use Rattle.std.specs.Prelude.{◌≡◌, ℕ, ◌+◌, ◌≤◌, List, [], ◌∷◌, ◌++◌, map, drop, length, Result, Err}
use Rattle.chunkqueue.specs.Items.{Item, Byte, FileByte, Contents, items_of, count_of, memory_front}
use Rattle.fcgi_records.specs.declared.reader.ReaderState.{ReaderState}
use Rattle.fcgi_records.specs.declared.reader.RecordFault.{RecordFault}
use Rattle.fcgi_records.specs.declared.reader.RecordFault.TheVariants as fault
use Rattle.fcgi_records.specs.declared.state.State.{State}
use Rattle.fcgi_records.specs.Reading.{state_after, stdout_in, taken_in}

-- no item is the byte of a file
abbrev pub AllInMemory : List Item → Type 0
AllInMemory [] = Unit {0}
AllInMemory (Byte byte ∷ items) = AllInMemory items
AllInMemory (FileByte file place ∷ items) = ⊥

-- the bytes of a queue without ranges of files
abbrev pub bytes_of : Contents → List ℕ
bytes_of queue = memory_front (items_of queue)

-- first items of the input are gone, and what is left of it is to the reader as it stands now what it was, but for the content that was moved
pub record Reads (old : State) (input : Contents) (new : State) (input' : Contents) (moved : List ℕ) : Type 0 where
  pub count : ℕ
  pub within : count ≤ count_of input
  pub carries : length moved ≤ count
  pub rest : items_of input' ≡ drop count (items_of input)
  pub stands : state_after old (bytes_of input) ≡ state_after new (bytes_of input')
  pub reads : stdout_in old (bytes_of input) ≡ moved ++ stdout_in new (bytes_of input')
  pub counts : taken_in old (bytes_of input) ≡ count + taken_in new (bytes_of input')

-- the content that was moved stands behind what was there
pub record Takes (old : State) (input out : Contents) (new : State) (input' out' : Contents) : Type 0 where
  pub moved : List ℕ
  pub reads : Reads old input new input' moved
  pub gained : items_of out' ≡ items_of out ++ map Byte moved

-- p, unless memory was missing
abbrev pub UnlessNoMemory : Result ReaderState RecordFault → Type 0 → Type 0
UnlessNoMemory (Err fault.NoMemory) p = Unit {0}
UnlessNoMemory other p = p

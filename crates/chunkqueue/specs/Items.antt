-- What waits in a chunk queue: items, in chunks (lighttpd's chunk queue, chunk.c).
use Rattle.std.specs.Prelude.{zero, suc, ◌≡◌, ℕ, ◌+◌, ◌≤◌, ◌<◌, min, List, [], ◌∷◌, ◌++◌, length, map, take, get_or, unwrap_or, Some}
use Rattle.lt_world.specs.Disk.{Table}
use Rattle.buffer_pool.specs.declared.buffer.TheConstants.{BUFFER_SIZE}

-- one item: a byte, or the byte at a position of an opened file
pub data Item : Type 0 where
  Byte : ℕ → Item
  FileByte : ℕ → ℕ → Item

-- a chunk: bytes in memory, or what is left of a range of an opened file (its number, the position and the number of bytes), with those of its first bytes that are staged
pub data Chunk : Type 0 where
  Memory : List ℕ → Chunk
  Range : ℕ → ℕ → ℕ → List ℕ → Chunk

-- what a queue is to its callers: its chunks, and the numbers of the nodes that hold them
pub record Contents : Type 0 where
  pub chunks : List Chunk
  pub numbers : List ℕ

abbrev pub empty : Contents
empty = record { chunks = []; numbers = [] }

-- the items of a range of a file
abbrev pub range : ℕ → ℕ → ℕ → List Item
range file start zero = []
range file start (suc len) = FileByte file start ∷ range file (start + 1) len

abbrev pub chunk_items : Chunk → List Item
chunk_items (Memory bytes) = map Byte bytes
chunk_items (Range file start len staged) = range file start len

abbrev pub items_in : List Chunk → List Item
items_in [] = []
items_in (chunk ∷ chunks) = chunk_items chunk ++ items_in chunks

-- the items of a queue, the first to leave it first
abbrev pub items_of : Contents → List Item
items_of queue = items_in queue.chunks

-- how many items the queue has
abbrev pub count_of : Contents → ℕ
count_of queue = length (items_of queue)

abbrev pub staged_in : List Chunk → List ℕ
staged_in [] = []
staged_in (Memory bytes ∷ chunks) = []
staged_in (Range file start len staged ∷ chunks) = staged

-- the bytes that were read from the file whose range stands first
abbrev pub staged_of : Contents → List ℕ
staged_of queue = staged_in queue.chunks

abbrev pub front_in : List Chunk → List ℕ
front_in [] = []
front_in (Memory bytes ∷ chunks) = take BUFFER_SIZE bytes
front_in (Range file start len staged ∷ chunks) = staged

-- the bytes that can leave the queue now
abbrev pub front_of : Contents → List ℕ
front_of queue = front_in queue.chunks

-- how many bytes of a range are staged, once it is staged
abbrev pub staging_by : ℕ → List ℕ → ℕ
staging_by len [] = min len BUFFER_SIZE
staging_by len (byte ∷ staged) = length (byte ∷ staged)

abbrev pub staging_in : List Chunk → ℕ
staging_in [] = 0
staging_in (Memory bytes ∷ chunks) = 0
staging_in (Range file start len staged ∷ chunks) = staging_by len staged

-- how many bytes of the first range are staged, once it is staged
abbrev pub staging_of : Contents → ℕ
staging_of queue = staging_in queue.chunks

-- the bytes in memory that stand before any range
abbrev pub memory_front : List Item → List ℕ
memory_front [] = []
memory_front (Byte byte ∷ items) = byte ∷ memory_front items
memory_front (FileByte file at ∷ items) = []

-- front stands first: bytes in memory, up to BUFFER_SIZE of them, or what is staged
abbrev pub Leads : List Item → List ℕ → List ℕ → Type 0
Leads [] staged front = front ≡ []
Leads (Byte byte ∷ items) staged front = (1 ≤ length front) × (map Byte front ≡ take (length front) (Byte byte ∷ items))
Leads (FileByte file at ∷ items) staged front = front ≡ staged

-- what is staged where a queue comes behind another one
abbrev pub staged_behind : List Item → List ℕ → List ℕ → List ℕ
staged_behind [] staged behind = behind
staged_behind (item ∷ items) staged behind = staged

-- each byte of a file lies in the opened file
abbrev pub AllLie : Table → List Item → Type 0
AllLie table [] = Unit {0}
AllLie table (Byte byte ∷ items) = AllLie table items
AllLie table (FileByte file at ∷ items) = ((bytes : List ℕ) × (table file ≡ Some bytes) × (at < length bytes)) × AllLie table items

-- the byte that an item is, where these files are open
abbrev pub item_byte : Table → Item → ℕ
item_byte table (Byte byte) = byte
item_byte table (FileByte file at) = get_or (unwrap_or (table file) []) at 0

abbrev pub bytes_of : Table → List Item → List ℕ
bytes_of table items = map (item_byte table) items

-- these are the bytes of the first items
abbrev pub Shows : Table → List Item → List ℕ → Type 0
Shows table items bytes = bytes ≡ take (length bytes) (bytes_of table items)

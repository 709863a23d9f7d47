-- What a connection is to its callers.
use Rattle.std.specs.Prelude.{◌≡◌, ℕ, List, [], ◌∷◌, length, true, Option, Some, None}
use Rattle.lt_world.specs.declared.files.FileId.{FileId}
use Rattle.chunkqueue.specs.Items.{Item, Byte, FileByte, Contents, items_of, front_of, staging_of}
use Rattle.server_model.specs.Request.{Head, Request, Unfinished, Refused, Open, Declined, Complete}
use Rattle.server_model.specs.Held.{Stage, Awaiting, Heading, Taking, Asking, Answering, Held}
use Rattle.server_model.specs.Steps.{is_in_memory}

-- what is held for the client, what can leave its queue now, how many bytes the next write offers, and the numbers of the buffers that it holds
pub record Connected : Type 0 where
  pub held : Held
  pub front : List ℕ
  pub offers : ℕ
  pub numbers : List ℕ

-- how many bytes a queue of these items offers to a write: all unread bytes of the chunk in memory that stands first, or all that is staged of a range once it is staged
abbrev pub offers_by : List Item → Contents → ℕ
offers_by [] queue = length (front_of queue)
offers_by (Byte b ∷ items) queue = length (front_of queue)
offers_by (FileByte file at ∷ items) queue = staging_of queue

abbrev pub offers_of : Contents → ℕ
offers_of queue = offers_by (items_of queue) queue

abbrev pub file_number : Option FileId → Option ℕ
file_number None = None
file_number (Some file) = Some file.0

-- the head of a request, where one was read
abbrev pub head_in : Request → Option Head
head_in Unfinished = None
head_in (Refused status) = None
head_in (Open head) = Some head
head_in (Declined status head) = Some head
head_in (Complete head content) = Some head

-- the head of the request that is read or to be answered
abbrev pub head_at : Stage → Option Head
head_at (Awaiting k) = None
head_at (Heading k head) = Some head
head_at (Taking k head s content) = Some head
head_at (Asking k r) = head_in r
head_at (Answering k last) = None

-- the content of a request that is whole
abbrev pub content_in : Request → List ℕ
content_in Unfinished = []
content_in (Refused status) = []
content_in (Open head) = []
content_in (Declined status head) = []
content_in (Complete head content) = content

abbrev pub content_at : Stage → List ℕ
content_at (Awaiting k) = []
content_at (Heading k head) = []
content_at (Taking k head s content) = []
content_at (Asking k r) = content_in r
content_at (Answering k last) = []

-- the request whose content was taken
abbrev pub without_content_in : Request → Request
without_content_in Unfinished = Unfinished
without_content_in (Refused status) = Refused status
without_content_in (Open head) = Open head
without_content_in (Declined status head) = Declined status head
without_content_in (Complete head content) = Complete head []

abbrev pub without_content_at : Stage → Stage
without_content_at (Awaiting k) = Awaiting k
without_content_at (Heading k head) = Heading k head
without_content_at (Taking k head s content) = Taking k head s content
without_content_at (Asking k r) = Asking k (without_content_in r)
without_content_at (Answering k last) = Answering k last

abbrev pub without_content : Held → Held
without_content held = record held { stage = without_content_at held.stage }

-- how far the body was read may differ, and nothing else
abbrev pub IsHeldUp : Held → Held → Type 0
IsHeldUp old new = new ≡ record old { stage = new.stage; input = new.input }

-- the last of these items is a byte of the file, and every byte of a file is one of it
abbrev pub EndsInFile : ℕ → List Item → Type 0
EndsInFile file [] = ⊥
EndsInFile file (Byte b ∷ []) = ⊥
EndsInFile file (FileByte from at ∷ []) = from ≡ file
EndsInFile file (Byte b ∷ item ∷ items) = EndsInFile file (item ∷ items)
EndsInFile file (FileByte from at ∷ item ∷ items) = (from ≡ file) × EndsInFile file (item ∷ items)

-- a body in memory, or one that ends in the file that is given with it
abbrev pub IsBodyOf : Option ℕ → List Item → Type 0
IsBodyOf None items = is_in_memory items ≡ true
IsBodyOf (Some file) items = EndsInFile file items

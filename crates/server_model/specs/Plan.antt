-- What is planned for a request, step by step: it is rewritten, its place below the document root is looked for, a directory leads to its index, and a file is refused or opened. Settings are found anew for each target and place (lighttpd documentation, mod_rewrite, mod_indexfile, mod_staticfile; RFC 9110, sections 9.3.1, 9.3.2 and 15).
use Rattle.std.specs.Prelude.{ℕ, ◌+◌, List, [], ◌∷◌, ◌++◌, length, take, drop, Bool, true, false, ◌||◌, Option, Some, None, if◌then◌else◌, bytes_eq, codes}
use Rattle.conf_value.specs.declared.block.Block.{Block}
use Rattle.http_target.specs.declared.read.Target.{Target}
use Rattle.http_reply.specs.FieldLines.{FieldLines}
use Rattle.lt_world.specs.declared.files.FileCall.{FileCall}
use Rattle.lt_world.specs.declared.files.FileCall.TheVariants as call
use Rattle.lt_world.specs.Disk.{Node, Missing, Directory, File, Tree, ends_in_slash}
use Rattle.rewrite.specs.declared.rewriting.Rewritten.{Rewritten}
use Rattle.rewrite.specs.declared.rewriting.Rewritten.TheVariants as rewritten
use Rattle.static_files.specs.Texts.{texts_of}
use Rattle.static_files.specs.Places.{is_file, index_place}
use Rattle.static_files.specs.MediaTypes.{mime}
use Rattle.static_files.specs.declared.places.Place.{Place}
use Rattle.static_files.specs.declared.places.Place.TheVariants as place
use Rattle.file_reply.specs.Answers.{answer}
use Rattle.file_reply.specs.Refusals.{plain, moved, refusal}
use Rattle.file_reply.specs.declared.answers.Answer.{Answer}
use Rattle.file_reply.specs.declared.answers.Content as of_file
use Rattle.file_reply.specs.declared.answers.Content.TheVariants as content
use Rattle.server_model.specs.Attributes.{attributes_at, seen_at}
use Rattle.server_model.specs.Request.{Head}
use Rattle.server_model.specs.Rewrites.{rewriting}
use Rattle.server_model.specs.Settings.{Settings, settings_on}
use Rattle.server_model.specs.World.{Arrival, World, has_failed_call}

pub data Content : Type 0 where
  -- a reply that says its status alone
  Nothing : Content
  -- these bytes of a file, or none of them where the status has no content
  Bytes : List ℕ → Content

pub record Outcome : Type 0 where
  -- those that were last used
  pub settings : Settings
  pub status : ℕ
  pub fields : FieldLines
  pub content : Content

-- all that a plan depends on
pub record Basis : Type 0 where
  pub blocks : List Block
  pub arrival : Option Arrival
  pub head : Head
  pub tree : Tree
  -- the find with this number fails, counted from 0
  pub find_fails : ℕ → Bool
  -- the open fails
  pub open_fails : Bool

-- what is planned, and how many calls on files it takes
pub record Course : Type 0 where
  pub outcome : Outcome
  pub finds : ℕ
  pub opens : ℕ

-- ---- what is answered

-- the part of a file that an answer asks for
abbrev pub content_of : of_file.Content → List ℕ → Content
content_of content.Phrase bytes = Nothing
content_of (content.Part start len) bytes = Bytes (take len (drop start bytes))

-- an answer of a file with these bytes
abbrev pub answered_with : Settings → Answer → List ℕ → Outcome
answered_with settings said bytes = record { settings = settings; status = said.status; fields = said.fields; content = content_of said.content bytes }

-- an answer before any file was opened
abbrev pub ends_with : Settings → Answer → ℕ → Course
ends_with settings said finds = record { outcome = answered_with settings said []; finds = finds; opens = 0 }

-- ---- settings, anew at each step

abbrev pub on_target : Basis → Target → Settings
on_target b target = settings_on b.blocks (attributes_at b.arrival b.head target)

abbrev pub on_place : Basis → Target → List ℕ → List ℕ → Settings
on_place b target path physical = settings_on b.blocks (seen_at b.arrival b.head target path physical)

-- ---- the steps, the last one first

-- a file is opened, and answers by its media type, its size and its time; an open that fails is the server's fault
abbrev pub opened_to : Bool → Basis → Settings → List ℕ → List ℕ → ℕ → Outcome
opened_to true b settings path bytes time = answered_with settings (plain 500) []
opened_to false b settings path bytes time = answered_with settings (answer (mime settings.types path) b.head.method b.head.fields (length bytes) time) bytes

abbrev pub file_by : Option Answer → Basis → Settings → List ℕ → List ℕ → ℕ → ℕ → Course
file_by (Some refused) b settings path bytes time finds = ends_with settings refused finds
file_by None b settings path bytes time finds = record { outcome = opened_to b.open_fails b settings path bytes time; finds = finds; opens = 1 }

-- a file stands at the place of this path, found by so many finds: its end may be excluded, then another method be asked for than a file answers
unfoldable pub at_file : Basis → Target → List ℕ → List ℕ → List ℕ → ℕ → ℕ → Course
at_file b target path physical bytes time finds =
    file_by (refusal (on_place b target path physical).excluded path b.head.method) b (on_place b target path physical) path bytes time finds

-- how many index names are looked for: up to a find that fails, or to the first file
abbrev pub index_finds : (ℕ → Bool) → Tree → ℕ → List ℕ → List (List ℕ) → ℕ
index_finds fails tree n physical [] = 0
index_finds fails tree n physical (name ∷ names) = if fails n || is_file (tree (physical ++ name)) then 1 else index_finds fails tree (n + 1) physical names + 1

-- what stands at the place of an index name
abbrev pub at_index : Basis → Target → Settings → List ℕ → List ℕ → Node → ℕ → Course
at_index b target settings path physical (File bytes time) finds = at_file b target path physical bytes time finds
at_index b target settings path physical other finds = ends_with settings (plain 404) finds

-- 500 where a find failed, 403 where none of the names is there
abbrev pub indexed : Basis → Target → Settings → Place → ℕ → Course
indexed b target settings (place.Status status) finds = ends_with settings (plain status) finds
indexed b target settings (place.File path physical) finds = at_index b target settings path physical (b.tree physical) finds

abbrev pub index_by : Basis → Target → List ℕ → Settings → Course
index_by b target physical settings =
    indexed b target settings (index_place b.find_fails b.tree 1 target.path physical (texts_of settings.index_names)) (index_finds b.find_fails b.tree 1 physical (texts_of settings.index_names) + 1)

-- a directory whose path has its final slash: its index names are tried in their order
unfoldable pub at_directory : Basis → Target → List ℕ → Course
at_directory b target physical = index_by b target physical (on_place b target target.path physical)

-- by whether the find failed, and by what stands there; the path of a directory without its final slash is told with it
abbrev pub found_by : Bool → Node → Basis → Target → List ℕ → Settings → Course
found_by true node b target physical settings = ends_with settings (plain 500) 1
found_by false Missing b target physical settings = ends_with settings (plain 404) 1
found_by false Directory b target physical settings = if ends_in_slash target.path then at_directory b target physical else ends_with settings (moved target.path target.query) 1
found_by false (File bytes time) b target physical settings = at_file b target target.path physical bytes time 1

-- a target that is rewritten no further: its place is the root and the path
abbrev pub place_on : Settings → Target → List ℕ
place_on settings target = settings.root ++ target.path

unfoldable pub at_target : Basis → Target → Course
at_target b target = found_by (b.find_fails 0) (b.tree (place_on (on_target b target) target)) b target (place_on (on_target b target) target) (on_target b target)

-- rewriting that doesn't end is the server's fault, a bad new target the client's
abbrev pub rewritten_by : Rewritten → Basis → Target → Course
rewritten_by rewritten.Same b target = at_target b target
rewritten_by rewritten.New b target = at_target b target
rewritten_by rewritten.Loop b target = ends_with (on_target b target) (plain 500) 0
rewritten_by rewritten.Bad b target = ends_with (on_target b target) (plain 400) 0

-- the whole course of a request
unfoldable pub course : Basis → Course
course b = rewritten_by (rewriting b.blocks b.arrival b.head).answer b (rewriting b.blocks b.arrival b.head).target

-- ---- the plan in a client's world

abbrev pub basis_of : World → ℕ → Head → Basis
basis_of world k head = record { blocks = world.site.blocks; arrival = world.side.arrival; head = head; tree = world.tree; find_fails = has_failed_call world k call.Find; open_fails = has_failed_call world k call.Open 0 }

-- the plan of request k
abbrev pub plan : World → ℕ → Head → Outcome
plan world k head = (course (basis_of world k head)).outcome

-- how many calls of each kind a course makes
abbrev pub calls_in : Course → FileCall → ℕ
calls_in c call.Find = c.finds
calls_in c call.Open = c.opens
calls_in c call.Read = 0

-- and the plan of request k
abbrev pub calls_of : World → ℕ → Head → FileCall → ℕ
calls_of world k head what = calls_in (course (basis_of world k head)) what

-- only the head of the reply is asked for (RFC 9110, section 9.3.2)
abbrev pub is_head : List ℕ → Bool
is_head method = bytes_eq method (codes "HEAD")

-- What a reply is made of, by what is planned for its request.
use Rattle.std.specs.Prelude.{◌≡◌, ℕ, List, [], map, Bool, Option, Some, None}
use Rattle.lt_world.specs.declared.net.Ending.{Ending}
use Rattle.lt_world.specs.declared.net.Ending.TheVariants as ending
use Rattle.lt_world.specs.Disk.{Disk}
use Rattle.chunkqueue.specs.Items.{Item, Byte, range}
use Rattle.http_reply.specs.FieldLines.{FieldLines}
use Rattle.server_model.specs.Files.{Drops}
use Rattle.server_model.specs.Held.{Asking, Held}
use Rattle.server_model.specs.Reply.{error_bytes, content_head}
use Rattle.server_model.specs.Request.{Head, Complete}
use Rattle.server_model.specs.Settings.{Settings}
use Rattle.server_model.specs.Steps.{number_of}
use Rattle.request_plan.specs.declared.form.Form.{Form}
use Rattle.request_plan.specs.Form.{form_of}
use Rattle.request_plan.specs.declared.chosen.Content.{Content}
use Rattle.request_plan.specs.declared.chosen.Content.TheVariants.{Phrase, File, Unsent}
use Rattle.server_core.specs.Steps.{GivenBy}

-- a status in words, or the head before so many bytes
abbrev pub spelled_for : Content → List ℕ → Form → ℕ → FieldLines → List ℕ
spelled_for Phrase tag form status fields = error_bytes tag form.minor status fields form.last form.head_only
spelled_for (File file start len) tag form status fields = content_head tag form.minor status fields len form.last
spelled_for (Unsent len) tag form status fields = content_head tag form.minor status fields len form.last

-- what comes behind that
abbrev pub items_for : Content → List Item
items_for Phrase = []
items_for (File file start len) = range file.0 start len
items_for (Unsent len) = []

-- the file that it comes from
abbrev pub file_for : Content → Option ℕ
file_for Phrase = None
file_for (File file start len) = Some file.0
file_for (Unsent len) = None

-- what a refused request is answered
abbrev pub refusal_items : List ℕ → Form → ℕ → List Item
refusal_items tag form status = map Byte (error_bytes tag form.minor status [] form.last form.head_only)

-- the form and the tag are those of the reply to the request that is there, by its settings
pub record IsReplyTo (form : Form) (tag : List ℕ) (settings : Settings) (held : Held) (head : Head) : Type 0 where
  pub content : List ℕ
  pub asking : held.stage ≡ Asking (number_of held.stage) (Complete head content)
  pub form_is : form ≡ form_of settings.request_limit (number_of held.stage) head
  pub tag_is : tag ≡ settings.tag

-- a request is answered by these items, of this file; or memory was wanted before that, and the file was given back
pub data Sent (held new : Held) (result : Option Ending) (items : List Item) (file : Option ℕ) (last : Bool) (files : Type 0) (before after : Disk) : Type 0 where
  Given : GivenBy result held new items file last → (files → after ≡ before) → Sent held new result items file last files before after
  GivenBack : result ≡ Some ending.NoMemory → new ≡ held → (files → Drops file before after) → Sent held new result items file last files before after

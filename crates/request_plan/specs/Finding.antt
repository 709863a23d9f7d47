-- Where a plan stands while its calls on files are made.
use Rattle.std.specs.Prelude.{◌≡◌, ◌⊎◌, ℕ, List, Option, true}
use Rattle.http_target.specs.declared.read.Target.{Target}
use Rattle.lt_world.specs.declared.net.Owner.{Owner}
use Rattle.lt_world.specs.Disk.{Disk, File, released}
use Rattle.settings.specs.Used.{pairs_or_none, setting_at}
use Rattle.request_settings.specs.declared.values.SettingsNow.{SettingsNow}
use Rattle.server_model.specs.World.{Arrival}
use Rattle.server_model.specs.Site.{Site}
use Rattle.server_model.specs.Request.{Head}
use Rattle.server_model.specs.Plan.{at_directory, at_file, is_head}
use Rattle.server_model.specs.Made.{Made, Leads}
use Rattle.file_reply.specs.declared.answers.Answer.{Answer}
use Rattle.server_model.specs.Settings.{Settings}
use Rattle.request_plan.specs.Lent.{lent}
use Rattle.request_plan.specs.declared.chosen.Chosen.{Chosen}
use Rattle.request_plan.specs.declared.chosen.Content.{Content}
use Rattle.request_plan.specs.declared.chosen.Content.TheVariants as content

-- a directory was found at the place of a target, by one find
pub record AtDirectory (site : Site) (arrival : Option Arrival) (head : Head) (owner : Owner) (target : Target) (physical : List ℕ) (before disk : Disk) : Type 0 where
  pub made : Made owner before 1 0 disk
  pub leads : Leads site arrival head before.tree 1 (λ b. at_directory b target physical)

-- a file was found, by so many finds
pub record AtFile (site : Site) (arrival : Option Arrival) (head : Head) (owner : Owner) (target : Target) (path physical : List ℕ) (before disk : Disk) : Type 0 where
  pub finds : ℕ
  pub made : Made owner before finds 0 disk
  pub bytes : List ℕ
  pub time : ℕ
  pub there : before.tree physical ≡ File bytes time
  pub leads : Leads site arrival head before.tree finds (λ b. at_file b target path physical bytes time finds)

-- the media types among settings are those of this place
abbrev pub HasTypes : Site → SettingsNow → Type 0
HasTypes site now = now.settings.mimetype_assign.now ≡ pairs_or_none (setting_at site.blocks now.types_at)

-- of an opened file a part is kept, and the file with it, or its length alone, where none of its bytes is sent
abbrev pub KeepsPart : Content → List ℕ → ℕ → ℕ → ℕ → Disk → Disk → Type 0
KeepsPart (content.File f s n) method file start len before after = (f.0 ≡ file) × (s ≡ start) × (n ≡ len) × (after ≡ before)
KeepsPart (content.Unsent n) method file start len before after = (n ≡ len) × ((len ≡ 0) ⊎ (is_head method ≡ true)) × (after ≡ released file before)
KeepsPart content.Phrase method file start len before after = ⊥

-- an answer in words, with these settings
pub record IsInWords (settings : Settings) (said : Answer) (chosen : Chosen) : Type 0 where
  pub settings_are : lent chosen.settings ≡ settings
  pub status_is : chosen.status ≡ said.status
  pub fields_are : chosen.fields ≡ said.fields
  pub content_is : chosen.content ≡ content.Phrase

-- What the open of a file that was found leads to.
use Rattle.std.proofs.Common.{◌≡◌, ℕ, true, false, List, [], length, Option, Some, None, sym, ◌∙◌, ap, subst}
use Rattle.file_reply.specs.declared.answers.Answer.{Answer}
use Rattle.file_reply.specs.Answers.{answer}
use Rattle.file_reply.specs.Refusals.{plain, refusal}
use Rattle.http_target.specs.declared.read.Target.{Target}
use Rattle.lt_world.proofs.Disks.{opened_own}
use Rattle.lt_world.specs.declared.files.FileCall.TheVariants as call
use Rattle.lt_world.specs.declared.net.Owner.{Owner}
use Rattle.lt_world.specs.Disk.{Disk, Tree, File, asked, opened}
use Rattle.lt_world.specs.FileAnswers.{OpensFile}
use Rattle.static_files.specs.MediaTypes.{mime}
use Rattle.server_model.specs.Attributes.{seen_at}
use Rattle.server_model.specs.Plan.{answered_with}
use Rattle.server_model.specs.Planning.{CallsFor, Plans}
use Rattle.server_model.specs.Request.{Head}
use Rattle.server_model.specs.Settings.{Settings, settings_on}
use Rattle.server_model.specs.Site.{Site}
use Rattle.server_model.specs.World.{Arrival}
use Rattle.server_model.proofs.Planned.{calls_file, plans_refused, plans_unopened, plans_sent}
use Rattle.request_plan.specs.Finding.{AtFile}
use Rattle.request_plan.proofs.Finding.{made_tree}

module _ (site : Site) (arrival : Option Arrival) (owner : Owner) (head : Head) (before disk : Disk) (target : Target) (path physical : List ℕ) (here : AtFile site arrival head owner target path physical before disk) where
  pub stands_there : disk.tree physical ≡ File here.bytes here.time
  stands_there = ap (λ (t : Tree). t physical) (made_tree owner here.finds before disk here.made) ∙ here.there

  -- memory is wanted before the file is opened
  pub file_calls : CallsFor site arrival owner.conn owner.request head None before disk
  file_calls = calls_file site arrival owner head before target path physical here.bytes here.time here.finds here.leads disk here.made

  module _ (settings : Settings) (current : settings ≡ settings_on site.blocks (seen_at arrival head target path physical)) where
    abbrev its : Settings
    its = settings_on site.blocks (seen_at arrival head target path physical)

    refused_by : (o : Option Answer) → refusal settings.excluded path head.method ≡ o → refusal its.excluded path head.method ≡ o
    refused_by o is = ap (λ (s : Settings). refusal s.excluded path head.method) (sym current) ∙ is

    pub refused_plans : (said : Answer) → refusal settings.excluded path head.method ≡ Some said → Plans (answered_with settings said []) None site arrival owner.conn owner.request head before disk
    refused_plans said is = subst (λ (s : Settings). Plans (answered_with s said []) None site arrival owner.conn owner.request head before disk) (sym current)
        (plans_refused site arrival owner head before target path physical here.bytes here.time here.finds here.leads disk here.made said (refused_by (Some said) is))

    module _ (is : refusal settings.excluded path head.method ≡ None) where
      pub unopened_plans : (after : Disk) → after ≡ asked call.Open owner true disk → Plans (answered_with settings (plain 500) []) None site arrival owner.conn owner.request head before after
      unopened_plans after made = subst (λ (s : Settings). Plans (answered_with s (plain 500) []) None site arrival owner.conn owner.request head before after) (sym current)
          (subst (Plans (answered_with its (plain 500) []) None site arrival owner.conn owner.request head before) (sym made)
          (plans_unopened site arrival owner head before target path physical here.bytes here.time here.finds here.leads disk here.made (refused_by None is)))

      -- what was opened is what was found
      pub record Sent (media_type : List ℕ) (file size time : ℕ) (after : Disk) : Type 0 where
        pub bytes : List ℕ
        pub opened_is : after.table file ≡ Some bytes
        pub has_size : length bytes ≡ size
        pub plans : Plans (answered_with settings (answer media_type head.method head.fields size time) bytes) (Some file) site arrival owner.conn owner.request head before after

      pub sent : (media_type : List ℕ) (file size time : ℕ) (after : Disk) → media_type ≡ mime settings.types path → OpensFile file size time owner physical disk after → Sent media_type file size time after
      sent media_type file size time after types o =
          let same : File here.bytes here.time ≡ File o.bytes time = sym stands_there ∙ o.is_there in
          let bytes_are : here.bytes ≡ o.bytes = cc in
          let time_is : here.time ≡ time = cc in
          let after_is : opened file here.bytes (asked call.Open owner false disk) ≡ after = ap (λ (b : List ℕ). opened file b (asked call.Open owner false disk)) bytes_are ∙ sym o.after_is in
          let size_is : length here.bytes ≡ size = ap length bytes_are ∙ o.has_size in
          let types_are : mime its.types path ≡ media_type = ap (λ (s : Settings). mime s.types path) (sym current) ∙ sym types in
          record {
            bytes = here.bytes;
            opened_is = ap (λ (d : Disk). d.table file) (sym after_is) ∙ opened_own file here.bytes disk.table;
            has_size = size_is;
            plans = subst (λ (x : Settings × (List ℕ × (ℕ × (ℕ × Disk)))). Plans (answered_with x.0 (answer x.1.0 head.method head.fields x.1.1.0 x.1.1.1.0) here.bytes) (Some file) site arrival owner.conn owner.request head before x.1.1.1.1)
                (λ i. (sym current i, (types_are i, (size_is i, (time_is i, after_is i)))))
                (plans_sent site arrival owner head before target path physical here.bytes here.time here.finds here.leads disk here.made file (refused_by None is) o.fresh);
          }

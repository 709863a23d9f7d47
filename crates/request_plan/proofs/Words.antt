-- Answers in words.
use Rattle.std.proofs.Common.{◌≡◌, ℕ, Bool, true, false, cond, List, [], Option, Some, None, Result, Ok, Err, sym, ap, subst}
use Rattle.std.specs.Prelude.{IfOk}
use Rattle.lt_bytes.specs.declared.memory.NoMemory.{NoMemory}
use Rattle.std.proofs.lemmas.Option.{none-some, same_Some}
use Rattle.conf_value.specs.declared.value.Pair.{Pair}
use Rattle.file_reply.specs.declared.answers.Answer.{Answer}
use Rattle.file_reply.specs.declared.answers.Content as of_file
use Rattle.file_reply.specs.declared.answers.Content.TheVariants as said_content
use Rattle.file_reply.specs.Refusals.{plain, not_allowed, is_served, refusal}
use Rattle.http_reply.specs.FieldLines.{FieldLines}
use Rattle.lt_world.specs.Disk.{Disk}
use Rattle.static_files.specs.Locations.{is_excluded}
use Rattle.static_files.specs.Texts.{texts_of}
use Rattle.server_model.specs.Plan.{answered_with, content_of}
use Rattle.server_model.specs.Planning.{Plans}
use Rattle.server_model.specs.Request.{Head}
use Rattle.server_model.specs.Settings.{Settings}
use Rattle.server_model.specs.Site.{Site}
use Rattle.server_model.specs.World.{Arrival}
use Rattle.request_plan.specs.declared.chosen.Chosen.{Chosen}
use Rattle.request_plan.specs.declared.chosen.Content.{Content}
use Rattle.request_plan.specs.Finding.{IsInWords}
use Rattle.request_plan.specs.Planned.{PlansContent, PlansChosen, PlansBy}

-- an answer in words that is planned is what was chosen
pub words_planned : (chosen : Chosen) (settings : Settings) (said : Answer) (site : Site) (arrival : Option Arrival) (client k : ℕ) (head : Head) (before after : Disk) → IsInWords settings said chosen → said.content ≡ said_content.Phrase
    → Plans (answered_with settings said []) None site arrival client k head before after → PlansChosen chosen site arrival client k head before after
words_planned chosen settings said site arrival client k head before after words phrase plans =
    subst (λ (x : Content × (Settings × (ℕ × FieldLines))). PlansContent x.0 x.1.0 x.1.1.0 x.1.1.1 site arrival client k head before after)
    (sym (λ i. (words.content_is i, (words.settings_are i, (words.status_is i, words.fields_are i)))))
    (subst (λ (c : of_file.Content). Plans (record { settings = settings; status = said.status; fields = said.fields; content = content_of c [] }) None site arrival client k head before after) phrase plans)

-- the same answer
pub words_of : (settings : Settings) (said other : Answer) (chosen : Chosen) → said ≡ other → IsInWords settings said chosen → IsInWords settings other chosen
words_of settings said other chosen same words = subst (λ (a : Answer). IsInWords settings a chosen) same words

-- a file is refused in words
pub refused_in_words : (excluded : List Pair) (path method : List ℕ) (said : Answer) → refusal excluded path method ≡ Some said → said.content ≡ said_content.Phrase
refused_in_words excluded path method said = by (is_excluded (texts_of excluded) path) (is_served method)
  where
    by : (e s : Bool) → cond e (Some (plain 403)) (cond s None (Some not_allowed)) ≡ Some said → said.content ≡ said_content.Phrase
    by true s is = sym (ap (λ (a : Answer). a.content) (same_Some (plain 403) said is))
    by false true is = absurd (none-some said is)
    by false false is = sym (ap (λ (a : Answer). a.content) (same_Some not_allowed said is))

-- the same result, on the same disk
pub plans_as : (result other : Result Chosen NoMemory) (site : Site) (arrival : Option Arrival) (client k : ℕ) (head : Head) (before after end : Disk) → result ≡ other → end ≡ after → PlansBy other site arrival client k head before after → PlansBy result site arrival client k head before end
plans_as result other site arrival client k head before after end same there plans =
    subst (λ (x : Result Chosen NoMemory × Disk). PlansBy x.0 site arrival client k head before x.1) (sym (λ i. (same i, there i))) plans

-- or memory is wanted
pub words_by : (r : Result Chosen NoMemory) (settings : Settings) (said : Answer) (site : Site) (arrival : Option Arrival) (client k : ℕ) (head : Head) (before after : Disk) → IfOk r (IsInWords settings said) → said.content ≡ said_content.Phrase
    → Plans (answered_with settings said []) None site arrival client k head before after → PlansBy r site arrival client k head before after
words_by (Ok chosen) settings said site arrival client k head before after words phrase plans = words_planned chosen settings said site arrival client k head before after words phrase plans
words_by (Err e) settings said site arrival client k head before after words phrase plans = plans.calls

-- What is kept of an opened file.
use Rattle.std.proofs.Common.{◌≡◌, ◌⊎◌, inl, inr, ℕ, ◌+◌, ◌≤◌, Bool, true, false, if◌then◌else◌, List, [], length, take, drop, Option, Some, refl, sym, ◌∙◌, ap, subst, arith}
use Rattle.std.proofs.lemmas.List.{length-take, length-drop}
use Rattle.file_reply.specs.declared.answers.Answer.{Answer}
use Rattle.file_reply.specs.declared.answers.Content as of_file
use Rattle.file_reply.specs.declared.answers.Content.TheVariants as said_content
use Rattle.http_reply.specs.FieldLines.{FieldLines}
use Rattle.lt_world.specs.Disk.{Disk}
use Rattle.server_model.specs.Plan.{answered_with, content_of, is_head, Bytes}
use Rattle.server_model.specs.Planning.{Plans, PlansFile, outcome_of}
use Rattle.server_model.specs.Reply.{body_for}
use Rattle.server_model.specs.Request.{Head}
use Rattle.server_model.specs.Settings.{Settings}
use Rattle.server_model.specs.Site.{Site}
use Rattle.server_model.specs.World.{Arrival}
use Rattle.server_model.proofs.Planned.{released_plans}
use Rattle.request_plan.specs.declared.chosen.Content.{Content}
use Rattle.request_plan.specs.declared.chosen.Content.TheVariants as content
use Rattle.request_plan.specs.Finding.{KeepsPart}
use Rattle.request_plan.specs.Planned.{PlansContent}

-- no byte is sent
nothing : (head : Bool) (none : List ℕ) → (if head then none else none) ≡ none
nothing true none = refl
nothing false none = refl

unsent : (method : List ℕ) (len : ℕ) (bytes : List ℕ) → (len ≡ 0) ⊎ (is_head method ≡ true) → body_for method (take len bytes) ≡ []
unsent method len bytes (inl none) = ap (λ (n : ℕ). body_for method (take n bytes)) none ∙ nothing (is_head method) []
unsent method len bytes (inr asked) = ap (λ (h : Bool). if h then [] else take len bytes) asked

part_length : (start len : ℕ) (bytes : List ℕ) → start + len ≤ length bytes → length (take len (drop start bytes)) ≡ len
part_length start len bytes within = simp (length-take, length-drop) (omega arith)

-- what is kept of a part that is planned
pub part_planned : (kept : Content) (file start len : ℕ) (bytes : List ℕ) (settings : Settings) (status : ℕ) (fields : FieldLines) (site : Site) (arrival : Option Arrival) (client k : ℕ) (head : Head) (before between after : Disk)
    → KeepsPart kept head.method file start len between after → start + len ≤ length bytes → between.table file ≡ Some bytes
    → Plans (outcome_of settings status fields (Bytes (take len (drop start bytes)))) (Some file) site arrival client k head before between → PlansContent kept settings status fields site arrival client k head before after
part_planned (content.File f s n) file start len bytes settings status fields site arrival client k head before between after (its, from, many, same) within opened plans =
    subst (λ (x : ℕ × (ℕ × (ℕ × Disk))). PlansFile x.0 x.1.0 x.1.1.0 settings status fields site arrival client k head before x.1.1.1) (sym (λ i. (its i, (from i, (many i, same i)))))
    (record { bytes = bytes; opened = opened; within = within; plans = plans })
part_planned (content.Unsent n) file start len bytes settings status fields site arrival client k head before between after (many, none, same) within opened plans =
    record {
      bytes = take len (drop start bytes);
      has_length = part_length start len bytes within ∙ sym many;
      unsent = unsent head.method len (drop start bytes) none;
      plans = released_plans site client k head file before between after same (outcome_of settings status fields (Bytes (take len (drop start bytes)))) arrival plans;
    }
part_planned content.Phrase file start len bytes settings status fields site arrival client k head before between after keeps within opened plans = absurd keeps

-- a part that an answer asks for
pub answer_part : (said : Answer) (start len : ℕ) (bytes : List ℕ) (settings : Settings) (site : Site) (arrival : Option Arrival) (client k : ℕ) (head : Head) (file : Option ℕ) (before between : Disk) → said.content ≡ said_content.Part start len
    → Plans (answered_with settings said bytes) file site arrival client k head before between → Plans (outcome_of settings said.status said.fields (Bytes (take len (drop start bytes)))) file site arrival client k head before between
answer_part said start len bytes settings site arrival client k head file before between is plans =
    subst (λ (c : of_file.Content). Plans (record { settings = settings; status = said.status; fields = said.fields; content = content_of c bytes }) file site arrival client k head before between) is plans

pub answer_phrase : (said : Answer) (bytes : List ℕ) (settings : Settings) (site : Site) (arrival : Option Arrival) (client k : ℕ) (head : Head) (file : Option ℕ) (before between : Disk) → said.content ≡ said_content.Phrase
    → Plans (answered_with settings said bytes) file site arrival client k head before between → Plans (answered_with settings said []) file site arrival client k head before between
answer_phrase said bytes settings site arrival client k head file before between is plans =
    subst (λ (c : of_file.Content). Plans (record { settings = settings; status = said.status; fields = said.fields; content = content_of c [] }) file site arrival client k head before between) (sym is)
    (subst (λ (c : of_file.Content). Plans (record { settings = settings; status = said.status; fields = said.fields; content = content_of c bytes }) file site arrival client k head before between) is plans)

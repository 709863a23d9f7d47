-- How a request that is answered settles.
use Rattle.std.proofs.Common.{◌≡◌, ◌≢◌, ℕ, zero, suc, ◌+◌, ◌-◌, ◌≤◌, ◌<◌, List, [], ◌∷◌, ◌++◌, length, take, drop, map, Bool, true, false, ◌&&◌, ◌||◌, Option, Some, None, if◌then◌else◌, refl, sym, ◌∙◌, ap, subst, append-nil, arith, length-take, length-drop}
use Rattle.std.proofs.lemmas.List.{map-append, length-take-le}
use Rattle.lt_world.specs.declared.net.Ending.{Ending}
use Rattle.lt_world.specs.declared.net.Ending.TheVariants as ending
use Rattle.lt_world.specs.Disk.{Disk, Table}
use Rattle.chunkqueue.specs.Items.{Item, Byte, FileByte, Contents, empty, items_of, item_byte, count_of, bytes_of, range}
use Rattle.buffer_pool.specs.State.{PoolState}
use Rattle.buffer_pool.specs.Kept.{Kept}
use Rattle.buffer_pool.proofs.Keeping.{kept_both, kept_beside}
use Rattle.chunkqueue.proofs.Ranges.{length-range, bytes_of-range}
use Rattle.http_reply.specs.FieldLines.{FieldLines}
use Rattle.server_model.specs.Deeds.{Deed, ours}
use Rattle.server_model.specs.Settings.{Settings, settings_at, is_last_request}
use Rattle.server_model.specs.Site.{Site}
use Rattle.server_model.specs.Request.{Head, Complete}
use Rattle.server_model.specs.World.{Arrival, world_of}
use Rattle.server_model.specs.Plan.{Outcome, Nothing, Bytes, is_head}
use Rattle.server_model.specs.Reply.{error_bytes, content_head, body_for, final_bytes}
use Rattle.server_model.specs.Held.{Stage, Asking, Held, Heading, arrival_of}
use Rattle.server_model.specs.Steps.{number_of, advanced, wants_memory, accepted, answered, holding, has_no_items, is_done}
use Rattle.server_model.specs.Files.{IsOpened, AllFit, Fits, FileStep, Drops}
use Rattle.server_model.specs.Planning.{CallsFor, CallsWhole, PlansTo, outcome_of, PlansFile, PlansUnsent}
use Rattle.server_model.specs.Serves.{Matches}
use Rattle.server_model.specs.Settling.{SettlesOn, SettlesTo}
use Rattle.server_model.proofs.FileSteps.{same_files}
use Rattle.server_model.proofs.Clients.{advanced_link, accepted_link}
use Rattle.server_model.proofs.Planned.{memory_bytes, memory_fits, range_fits, release_calls}
use Rattle.server_model.proofs.Standing.{matches_stands}
use Rattle.server_model.proofs.SettleSteps.{settle_rests, settle_finishes, settle_yields, settle_more, advance_then, accepted_fits, accept_then, answer_by, refuse_by, decline_by, plan_yields}
use Rattle.connection.specs.Connection.{head_at, EndsInFile}
use Rattle.connection.specs.Stages.{stage_of, is_asking}
use Rattle.connection.specs.declared.stage.Stage.TheVariants as next
use Rattle.request_plan.specs.declared.form.Form.{Form}
use Rattle.request_plan.specs.declared.chosen.Content.{Content}
use Rattle.request_plan.specs.declared.chosen.Content.TheVariants.{Phrase, File, Unsent}
use Rattle.request_plan.specs.Form.{form_of, refused_form}
use Rattle.request_plan.specs.Planned.{PlansContent, PlansOpen, SendsTo}
use Rattle.server_core.specs.Sending.{spelled_for, items_for, file_for, refusal_items, IsReplyTo, Sent}
use Rattle.server_core.specs.Steps.{is_idle, IsFree, IsAdvanced, IsResting, WaitsOn, GivenBy}
use Rattle.server_core.proofs.Advancing.{IsRefused, Rests, free_freed, advanced_fits, step_settled, headed, refused_wants, asks_wants, accepted_idle, accepted_free, accepted_reads}

-- bytes in memory fit any files
pub all_memory : (table : Table) (file : Option ℕ) (bytes : List ℕ) → AllFit table file (map Byte bytes)
all_memory table file [] = tt
all_memory table file (b ∷ bytes) = all_memory table file bytes

-- items of a file fit behind what is in memory
all_behind : (before after : Table) (file : Option ℕ) (owed items : List Item) → AllFit before None owed → AllFit after file items → AllFit after file (owed ++ items)
all_behind before after file [] items here fit = fit
all_behind before after file (Byte b ∷ owed) items here fit = all_behind before after file owed items here fit
all_behind before after file (FileByte from at ∷ owed) items here fit = absurd (cc (here.0))

some_behind : (xs ys : List Item) → has_no_items ys ≡ false → has_no_items (xs ++ ys) ≡ false
some_behind [] ys some = some
some_behind (x ∷ xs) ys some = refl

some_append : (xs ys : List Item) → has_no_items xs ≡ false → has_no_items (xs ++ ys) ≡ false
some_append [] ys some = absurd (cc (some))
some_append (x ∷ xs) ys some = refl

-- items and a reply that is the last or not
module _ (site : Site) (held : Held) (tells : Type 0) (before after : Disk) (none : held.file ≡ None) (here : tells → Fits before.table held) where
  answered_fits : (items : List Item) (file : Option ℕ) (last : Bool) → (tells → IsOpened after.table file) → (tells → AllFit after.table file items) → tells → Fits after.table (answered held items file last)
  answered_fits items file last opened fit f = record {
    is_open = opened f;
    owed = all_behind before.table after.table file held.owed items (subst (λ (o : Option ℕ). AllFit before.table o held.owed) none (here f).owed) (fit f);
  }

  -- it is answered
  gives_on : (items : List Item) (file : Option ℕ) (last : Bool) (new : Held) → new ≡ answered held items file last → has_no_items items ≡ false → (tells → FileStep held.link None file before after) → (tells → IsOpened after.table file) → (tells → AllFit after.table file items)
      → (tells → (past : List Deed) → Matches before.table (world_of site before held.link past) held (ours past) → Matches after.table (world_of site after held.link past) (answered held items file last) (ours past)) → SettlesOn site held new tells before after
  gives_on items file last new is some files opened fit matches =
      let owes : has_no_items (held.owed ++ items) ≡ false = some_behind held.owed items some in
      subst (λ (h : Held). SettlesOn site held h tells before after) (sym is) (record {
        link = refl;
        does = λ f. subst (λ (o : Option ℕ). FileStep held.link o file before after) (sym none) (files f);
        fits = answered_fits items file last opened fit;
        keeps = λ f past m. matches_stands after.table (world_of site after held.link past) (answered held items file last) (ours past) (matches f past m) owes (ap (λ (b : Bool). b && last) owes);
      })

-- what a content is made of, in bytes
module _ (table : Table) (text : List ℕ) where
  alone_bytes : bytes_of table (map Byte text ++ []) ≡ text
  alone_bytes = ap (bytes_of table) (append-nil (map Byte text)) ∙ memory_bytes table text

  part_bytes : (file start len : ℕ) (bytes : List ℕ) → table file ≡ Some bytes → start + len ≤ length bytes → bytes_of table (map Byte text ++ range file start len) ≡ text ++ take len (drop start bytes)
  part_bytes file start len bytes is within =
      map-append (item_byte table) (map Byte text) (range file start len)
      ∙ (λ i. memory_bytes table text i ++ bytes_of-range table file start len bytes is within i)

part_length : (start len : ℕ) (bytes : List ℕ) → start + len ≤ length bytes → length (take len (drop start bytes)) ≡ len
part_length start len bytes within = omega (arith, within, length-take len (drop start bytes), length-drop start bytes)

-- a text that says something
text_some : (content : Content) (tag : List ℕ) (form : Form) (status : ℕ) (fields : FieldLines) → has_no_items (map Byte (spelled_for content tag form status fields)) ≡ false
text_some Phrase tag form status fields = refl
text_some (File file start len) tag form status fields = refl
text_some (Unsent len) tag form status fields = refl

-- a file is given back, or there is none
dropped_calls : (content : Content) (settings : Settings) (status : ℕ) (fields : FieldLines) (site : Site) (arrival : Option Arrival) (client k : ℕ) (head : Head) (before between after : Disk) → Drops (file_for content) between after → PlansContent content settings status fields site arrival client k head before between → CallsFor site arrival client k head None before after
dropped_calls Phrase settings status fields site arrival client k head before between after same plans = subst (λ (d : Disk). CallsFor site arrival client k head None before d) (sym same) plans.calls
dropped_calls (File file start len) settings status fields site arrival client k head before between after same plans = release_calls site client k head file.0 before between after same arrival plans.plans.calls
dropped_calls (Unsent len) settings status fields site arrival client k head before between after same plans = subst (λ (d : Disk). CallsFor site arrival client k head None before d) (sym same) plans.plans.calls

module _ (site : Site) (held : Held) (tells : Type 0) (before after : Disk) (head : Head) (bytes : List ℕ) (asking : held.stage ≡ Asking (number_of held.stage) (Complete head bytes)) (none : held.file ≡ None) (here : tells → Fits before.table held) where
  -- memory is wanted for the plan itself
  pub settles_unplanned : (tells → CallsFor site (Some (arrival_of held)) held.link (number_of held.stage) head None before after) → SettlesTo true site held held (Some ending.NoMemory) tells before after
  settles_unplanned calls = plan_yields site held held tells before after head bytes None asking refl none none calls

  module _ (settings : Settings) where
    abbrev last : Bool
    last = is_last_request settings.request_limit (number_of held.stage) head

    -- it is answered as is planned
    answers_on : (items : List Item) (file : Option ℕ) (new : Held) → new ≡ answered held items file last → has_no_items items ≡ false
        → (tells → CallsFor site (Some (arrival_of held)) held.link (number_of held.stage) head file before after)
        → (tells → CallsWhole site (Some (arrival_of held)) held.link (number_of held.stage) head before after)
        → (tells → (o : Outcome) × (is_last_request o.settings.request_limit (number_of held.stage) head ≡ last) × PlansTo o site (Some (arrival_of held)) held.link (number_of held.stage) head before after × (bytes_of after.table items ≡ final_bytes head last o))
        → (tells → IsOpened after.table file) → (tells → AllFit after.table file items) → SettlesOn site held new tells before after
    answers_on items file new is some calls whole plans opened fit = gives_on site held tells before after none here items file last new is some (λ f. (calls f).files) opened fit
        (λ f past m.
        let p = plans f in
        subst (λ (l : Bool). Matches after.table (world_of site after held.link past) (answered held items file l) (ours past)) p.1
        (answer_by site held before after past head bytes file asking p.0 items (calls f) (whole f) p.2 (p.3 ∙ ap (λ (l : Bool). final_bytes head l p.0) (sym p.1)) (here f) m))

    gone : (file : Option ℕ) (new : Held) (e : Ending) → (e ≡ ending.NoMemory) × (new ≡ holding held file)
        → (tells → CallsFor site (Some (arrival_of held)) held.link (number_of held.stage) head file before after) → SettlesTo true site held new (Some e) tells before after
    gone file new e is calls = subst (λ (x : Ending). SettlesTo true site held new (Some x) tells before after) (sym is.0)
        (plan_yields site held new tells before after head bytes file asking (ap (λ (h : Held). h.link) is.1) none (ap (λ (h : Held). h.file) is.1) calls)

    abbrev form : Form
    form = form_of settings.request_limit (number_of held.stage) head

    abbrev text : Content → ℕ → FieldLines → List ℕ
    text content status fields = spelled_for content settings.tag form status fields

    abbrev Given : Content → ℕ → FieldLines → Held → Option Ending → Type 0
    Given content status fields new result = GivenBy result held new (map Byte (text content status fields) ++ items_for content) (file_for content) last

    abbrev Planned : Content → ℕ → FieldLines → Type 0
    Planned content status fields = PlansContent content settings status fields site (Some (arrival_of held)) held.link (number_of held.stage) head before after

    settles_given : (content : Content) (status : ℕ) (fields : FieldLines) (new : Held) (result : Option Ending) → SendsTo head.method content → Given content status fields new result → (tells → Planned content status fields) → SettlesTo true site held new result tells before after
    settles_given Phrase status fields new None sends is plans = answers_on (map Byte (text Phrase status fields) ++ []) None new is (some_append (map Byte (text Phrase status fields)) [] (text_some Phrase settings.tag form status fields))
        (λ f. (plans f).calls) (λ f. (plans f).whole)
        (λ f. (outcome_of settings status fields Nothing, refl, (plans f).plans, alone_bytes after.table (text Phrase status fields)))
        (λ f. tt) (λ f. memory_fits after.table None (text Phrase status fields) [] tt)
    settles_given Phrase status fields new (Some e) sends is plans = gone None new e is (λ f. (plans f).calls)
    settles_given (File file start len) status fields new None get is plans = answers_on (map Byte (text (File file start len) status fields) ++ range file.0 start len) (Some file.0) new is
        (some_append (map Byte (text (File file start len) status fields)) (range file.0 start len) (text_some (File file start len) settings.tag form status fields))
        (λ f. (plans f).plans.calls) (λ f. (plans f).plans.whole)
        (λ f. let p = plans f in (
          outcome_of settings status fields (Bytes (take len (drop start p.bytes))),
          refl,
          p.plans.plans,
          part_bytes after.table (text (File file start len) status fields) file.0 start len p.bytes p.opened p.within
              ∙ ap (λ (n : ℕ). content_head settings.tag head.minor status fields n last ++ take len (drop start p.bytes)) (sym (part_length start len p.bytes p.within))
              ∙ ap (λ (t : Bool). content_head settings.tag head.minor status fields (length (take len (drop start p.bytes))) last ++ (if t then [] else take len (drop start p.bytes))) (sym get),
        ))
        (λ f. ((plans f).bytes, (plans f).opened))
        (λ f. let p = plans f in memory_fits after.table (Some file.0) (text (File file start len) status fields) (range file.0 start len) (range_fits after.table file.0 p.bytes p.opened start len p.within))
    settles_given (File file start len) status fields new (Some e) get is plans = gone (Some file.0) new e is (λ f. (plans f).plans.calls)
    settles_given (Unsent len) status fields new None sends is plans = answers_on (map Byte (text (Unsent len) status fields) ++ []) None new is (some_append (map Byte (text (Unsent len) status fields)) [] (text_some (Unsent len) settings.tag form status fields))
        (λ f. (plans f).plans.calls) (λ f. (plans f).plans.whole)
        (λ f. let p = plans f in (
          outcome_of settings status fields (Bytes p.bytes),
          refl,
          p.plans.plans,
          alone_bytes after.table (text (Unsent len) status fields)
              ∙ ap (λ (n : ℕ). content_head settings.tag head.minor status fields n last) (sym p.has_length)
              ∙ sym (append-nil (content_head settings.tag head.minor status fields (length p.bytes) last))
              ∙ ap (λ (l : List ℕ). content_head settings.tag head.minor status fields (length p.bytes) last ++ l) (sym p.unsent),
        ))
        (λ f. tt) (λ f. memory_fits after.table None (text (Unsent len) status fields) [] tt)
    settles_given (Unsent len) status fields new (Some e) sends is plans = gone None new e is (λ f. (plans f).plans.calls)

-- what was sent settles as is planned
pub settles_sent : (site : Site) (held new : Held) (result : Option Ending) (tells : Type 0) (before between after : Disk) (head : Head) (settings : Settings) (form : Form) (tag text : List ℕ) (content : Content) (status : ℕ) (fields : FieldLines)
    → held.file ≡ None → IsReplyTo form tag settings held head → SendsTo head.method content → (tells → Fits before.table held) → (tells → PlansContent content settings status fields site (Some (arrival_of held)) held.link (number_of held.stage) head before between)
    → text ≡ spelled_for content tag form status fields → Sent held new result (map Byte text ++ items_for content) (file_for content) form.last tells between after → SettlesTo true site held new result tells before after
settles_sent site held new result tells before between after head settings form tag text content status fields none reply sends here plans is (Sent.Given given same) =
    settles_given site held tells before after head reply.content reply.asking none here settings content status fields new result sends
    (subst (λ (l : Bool). GivenBy result held new (map Byte (spelled_for content settings.tag (form_of settings.request_limit (number_of held.stage) head) status fields) ++ items_for content) (file_for content) l) (ap (λ (f : Form). f.last) reply.form_is)
    (subst (λ (t : List ℕ). GivenBy result held new (map Byte t ++ items_for content) (file_for content) form.last) (is ∙ (λ i. spelled_for content (reply.tag_is i) (reply.form_is i) status fields)) given))
    (λ f. subst (PlansContent content settings status fields site (Some (arrival_of held)) held.link (number_of held.stage) head before) (sym (same f)) (plans f))
settles_sent site held new result tells before between after head settings form tag text content status fields none reply sends here plans is (Sent.GivenBack wanted kept drops) =
    let P : Option Ending → Held → Type 0 = λ r h. SettlesTo true site held h r tells before after in
    subst (λ (r : Option Ending). P r new) (sym wanted) (subst (P (Some ending.NoMemory)) (sym kept)
    (settles_unplanned site held tells before after head reply.content reply.asking none here (λ f. dropped_calls content settings status fields site (Some (arrival_of held)) held.link (number_of held.stage) head before between after (drops f) (plans f))))

-- what a refused request is answered
abbrev pub refused_text : List ℕ → ℕ → ℕ → Bool → Bool → List ℕ
refused_text tag minor status last head_only = error_bytes tag minor status [] last head_only

refused_some : (tag : List ℕ) (minor status : ℕ) (last head_only : Bool) → has_no_items (map Byte (refused_text tag minor status last head_only)) ≡ false
refused_some tag minor status last head_only = refl

-- nothing was begun
pub holds_none : (held : Held) → held.file ≡ None → held ≡ holding held None
holds_none held none = ap (λ (o : Option ℕ). record held { file = o }) none

-- a refused request gets the last reply
pub refused_given : (held new : Held) (result : Option Ending) (tag : List ℕ) (head : Option Head) (status : ℕ) → GivenBy result held new (refusal_items tag (refused_form head) status) None true → GivenBy result held new (refusal_items tag (refused_form head) status) None (refused_form head).last
refused_given held new result tag None status given = given
refused_given held new result tag (Some head) status given = given

-- a request that is refused
module _ (site : Site) (held : Held) (tells : Type 0) (disk : Disk) (none : held.file ≡ None) (here : tells → Fits disk.table held) (status : ℕ) where
  no_memory : IsRefused held.stage status → (form : Form) (new : Held) (e : Ending) → (e ≡ ending.NoMemory) × (new ≡ holding held None) → SettlesTo true site held new (Some e) tells disk disk
  no_memory refused form new e is = subst (λ (x : Ending). SettlesTo true site held new (Some x) tells disk disk) (sym is.0) (settle_yields site held tells disk new (refused_wants held status refused) (ap (λ (h : Held). h.link) is.1) (ap (λ (h : Held). h.file) is.1 ∙ sym none))

  refused_by : (tag : List ℕ) (form : Form) (new : Held) (result : Option Ending) → IsRefused held.stage status → tag ≡ (settings_at site (Some (arrival_of held)) (head_at held.stage)).tag → form ≡ refused_form (head_at held.stage) → GivenBy result held new (refusal_items tag form status) None form.last → SettlesTo true site held new result tells disk disk
  refused_by tag form new (Some e) refused called is given = no_memory refused form new e given
  refused_by tag form new None (IsRefused.Unread at) called is given =
      let tag_is : tag ≡ (settings_at site (Some (arrival_of held)) None).tag = called ∙ ap (λ (s : Stage). (settings_at site (Some (arrival_of held)) (head_at s)).tag) at in
      let form_is : form ≡ refused_form None = is ∙ ap (λ (s : Stage). refused_form (head_at s)) at in
      gives_on site held tells disk disk none here (map Byte (refused_text (settings_at site (Some (arrival_of held)) None).tag 1 status true false)) None true new
      (given ∙ (λ i. answered held (map Byte (refused_text (tag_is i) (form_is i).minor status (form_is i).last (form_is i).head_only)) None (form_is i).last)) (refused_some (settings_at site (Some (arrival_of held)) None).tag 1 status true false)
      (λ f. same_files held.link disk None) (λ f. tt) (λ f. all_memory disk.table None (refused_text (settings_at site (Some (arrival_of held)) None).tag 1 status true false))
      (λ f past m. refuse_by site held disk past status (map Byte (refused_text (settings_at site (Some (arrival_of held)) None).tag 1 status true false)) at (memory_bytes disk.table (refused_text (settings_at site (Some (arrival_of held)) None).tag 1 status true false)) m)
  refused_by tag form new None (IsRefused.Read head at) called is given =
      let tag_is : tag ≡ (settings_at site (Some (arrival_of held)) (Some head)).tag = called ∙ ap (λ (s : Stage). (settings_at site (Some (arrival_of held)) (head_at s)).tag) at in
      let form_is : form ≡ refused_form (Some head) = is ∙ ap (λ (s : Stage). refused_form (head_at s)) at in
      gives_on site held tells disk disk none here (map Byte (refused_text (settings_at site (Some (arrival_of held)) (Some head)).tag head.minor status true (is_head head.method))) None true new
      (given ∙ (λ i. answered held (map Byte (refused_text (tag_is i) (form_is i).minor status (form_is i).last (form_is i).head_only)) None (form_is i).last)) (refused_some (settings_at site (Some (arrival_of held)) (Some head)).tag head.minor status true (is_head head.method))
      (λ f. same_files held.link disk None) (λ f. tt) (λ f. all_memory disk.table None (refused_text (settings_at site (Some (arrival_of held)) (Some head)).tag head.minor status true (is_head head.method)))
      (λ f past m. decline_by site held disk past status (map Byte (refused_text (settings_at site (Some (arrival_of held)) (Some head)).tag head.minor status true (is_head head.method))) head at (memory_bytes disk.table (refused_text (settings_at site (Some (arrival_of held)) (Some head)).tag head.minor status true (is_head head.method))) m)

  pub settles_refused : (tag : List ℕ) (form : Form) (new : Held) (result : Option Ending) → IsRefused held.stage status → tag ≡ (settings_at site (Some (arrival_of held)) (head_at held.stage)).tag → form ≡ refused_form (head_at held.stage) → GivenBy result held new (refusal_items tag form status) None form.last → SettlesTo true site held new result tells disk disk
  settles_refused tag form new result refused called is given = refused_by tag form new result refused called is given

-- one that goes on by where it stands
module _ (may : Bool) (site : Site) (held : Held) (tells : Type 0) (disk : Disk) where
  pub goes_rests : (tells → Fits disk.table held) → Rests held → SettlesTo may site held held None tells disk disk
  goes_rests fits rests = settle_rests site held tells disk rests.0 rests.1 fits

  pub goes_finishes : IsAdvanced held → is_done held ≡ true → SettlesTo may site held held (Some ending.Clean) tells disk disk
  goes_finishes step done = settle_finishes site held tells disk may (step_settled held step) done

  pub goes_answers : (new : Held) (after : Disk) (result : Option Ending) → may ≡ true → SettlesTo true site held new result tells disk after → SettlesTo may site held new result tells disk after
  goes_answers new after result allowed settles = subst (λ (b : Bool). SettlesTo b site held new result tells disk after) (sym allowed) settles

-- by the same site
pub settles_site : (a b : Site) → a ≡ b → (may : Bool) (held new : Held) (tells : Type 0) (before after : Disk) (result : Option Ending) → SettlesTo may a held new result tells before after → SettlesTo may b held new result tells before after
settles_site a b same may held new tells before after result settles = subst (λ (s : Site). SettlesTo may s held new result tells before after) same settles

-- the step that what came allows, and then what follows
module _ (site : Site) (held mid : Held) (tells : Type 0) (disk : Disk) (free : IsFree held) (is : mid ≡ advanced held) where
  pub step_then : (may : Bool) (new : Held) (after : Disk) (result : Option Ending) → SettlesTo may site mid new result tells disk after → SettlesTo may site held new result tells disk after
  step_then may new after result settles = advance_then may site held new tells disk after result (free_freed held free)
      (subst (λ (h : Held). SettlesTo may site h new result tells disk after) is settles)

  pub step_goes : is_idle held.stage ≡ true → (new : Held) (after : Disk) (result : Option Ending) → SettlesTo (is_asking mid.stage) site mid new result tells disk after → SettlesTo (wants_memory held) site held new result tells disk after
  step_goes idle new after result settles = step_then (wants_memory held) new after result (settle_more (is_asking mid.stage) (wants_memory held) site mid new tells disk after result (asks_wants held mid is idle) settles)

  pub step_reads : wants_memory held ≡ true → (new : Held) (after : Disk) (result : Option Ending) → SettlesTo true site mid new result tells disk after → SettlesTo (wants_memory held) site held new result tells disk after
  step_reads wants new after result settles = step_then (wants_memory held) new after result (goes_answers (wants_memory held) site mid tells disk new after result wants settles)

  pub step_link : mid.link ≡ held.link
  step_link = ap (λ (h : Held). h.link) is ∙ advanced_link held

  pub step_fits : (tells → Fits disk.table held) → tells → Fits disk.table mid
  step_fits fits f = subst (Fits disk.table) (sym is) (advanced_fits disk.table held (fits f))

-- without memory nothing is taken up
pub settles_unlooked : (site : Site) (held new : Held) (tells : Type 0) (disk : Disk) → new.link ≡ held.link → new.file ≡ held.file → wants_memory held ≡ true → SettlesTo (wants_memory held) site held new (Some ending.NoMemory) tells disk disk
settles_unlooked site held new tells disk link file wants = goes_answers (wants_memory held) site held tells disk new disk (Some ending.NoMemory) wants (settle_yields site held tells disk new wants link file)

pub settles_unread : (site : Site) (held new : Held) (tells : Type 0) (disk : Disk) → wants_memory held ≡ true → new.link ≡ held.link → new.file ≡ held.file → SettlesTo true site held new (Some ending.NoMemory) tells disk disk
settles_unread site held new tells disk wants link file = settle_yields site held tells disk new wants link file

-- the limit is that of the head which was read
pub body_limit : (site : Site) (held : Held) (limit : ℕ) (arrival : Arrival) (given : Head) → arrival ≡ arrival_of held → Some given ≡ head_at held.stage → limit ≡ (settings_at site (Some arrival) (Some given)).body_limit
    → (k : ℕ) (head : Head) → held.stage ≡ Heading k head → limit ≡ (settings_at site (Some (arrival_of held)) (Some head)).body_limit
body_limit site held limit arrival given came here is k head at =
    is ∙ (λ i. (settings_at site (Some (came i)) ((here ∙ ap head_at at) i)).body_limit)

-- the body of its request is accepted, and then what follows
module _ (site : Site) (held mid : Held) (tells : Type 0) (disk : Disk) (limit : ℕ) (same : (k : ℕ) (head : Head) → held.stage ≡ Heading k head → limit ≡ (settings_at site (Some (arrival_of held)) (Some head)).body_limit) (heading : stage_of held ≡ next.Head) (free : IsFree held) (is : mid ≡ accepted held limit) where
  pub body_link : mid.link ≡ held.link
  body_link = ap (λ (h : Held). h.link) is ∙ accepted_link held limit

  pub body_idle : is_idle mid.stage ≡ true
  body_idle = ap (λ (h : Held). is_idle h.stage) is ∙ accepted_idle held limit (headed held heading)

  pub body_free : IsFree mid
  body_free = subst IsFree (sym is) (accepted_free held limit (headed held heading) free)

  pub body_fits : (tells → Fits disk.table held) → tells → Fits disk.table mid
  body_fits fits f = subst (Fits disk.table) (sym is) (accepted_fits disk.table held limit (fits f))

  pub body_read : stage_of (advanced mid) ≡ next.Head → ⊥
  body_read at = accepted_reads held limit (headed held heading) (ap (λ (h : Held). stage_of (advanced h)) (sym is) ∙ at)

  pub body_then : (new : Held) (after : Disk) (result : Option Ending) → SettlesTo true site mid new result tells disk after → SettlesTo true site held new result tells disk after
  body_then new after result settles = accept_then true site held new tells disk after result limit same (subst (λ (h : Held). SettlesTo true site h new result tells disk after) is settles)

  pub body_goes : (now new : Held) (after : Disk) (result : Option Ending) → now ≡ advanced mid → SettlesTo (is_asking now.stage) site now new result tells disk after → SettlesTo true site held new result tells disk after
  body_goes now new after result now_is settles = body_then new after result
      (step_then site mid now tells disk body_free now_is true new after result (settle_more (is_asking now.stage) true site now new tells disk after result (λ e. refl) settles))

-- one that is answered rests
pub given_waits : (result : Option Ending) (old new : Held) (items : List Item) (file : Option ℕ) (last : Bool) → has_no_items items ≡ false → GivenBy result old new items file last → WaitsOn result new
given_waits None old new items file last some given = let owes : has_no_items (old.owed ++ items) ≡ false = some_behind old.owed items some in subst IsResting (sym given) (owes, λ none. absurd (cc (owes, none)))
given_waits (Some e) old new items file last some given = tt

pub bytes_some : (head : List ℕ) (items : List Item) → 0 < length head → has_no_items (map Byte head ++ items) ≡ false
bytes_some [] items some = absurd (omega (arith, some))
bytes_some (b ∷ head) items some = refl

-- a file that has bytes ends a body
range_body : (file start n : ℕ) → 0 < n → EndsInFile file (range file start n)
range_body file start zero some = absurd (omega (arith, some))
range_body file start (suc zero) some = refl
range_body file start (suc (suc n)) some = (refl, range_body file (start + 1) (suc n) (omega arith))

pub body_ends : (none body : Contents) (file start len : ℕ) → none ≡ empty → items_of body ≡ items_of none ++ range file start len → 0 < len → EndsInFile file (items_of body)
body_ends none body file start len nothing pushed some = subst (EndsInFile file) (sym (pushed ∙ ap (λ (b : Contents). items_of b ++ range file start len) nothing)) (range_body file start len some)

pub body_count : (none body : Contents) (file start len : ℕ) → none ≡ empty → items_of body ≡ items_of none ++ range file start len → count_of body ≡ len
body_count none body file start len nothing pushed = ap length (pushed ∙ ap (λ (b : Contents). items_of b ++ range file start len) nothing) ∙ length-range file start len

-- the items behind a head
pub given_part : (result : Option Ending) (old new : Held) (head : List ℕ) (none body : Contents) (file start len : ℕ) (last : Bool) → none ≡ empty → items_of body ≡ items_of none ++ range file start len
    → GivenBy result old new (map Byte head ++ items_of body) (Some file) last → GivenBy result old new (map Byte head ++ range file start len) (Some file) last
given_part result old new head none body file start len last nothing pushed given = subst (λ (items : List Item). GivenBy result old new (map Byte head ++ items) (Some file) last)
    (pushed ∙ ap (λ (b : Contents). items_of b ++ range file start len) nothing) given

pub given_alone : (result : Option Ending) (old new : Held) (head : List ℕ) (body : Contents) (last : Bool) → body ≡ empty → GivenBy result old new (map Byte head ++ items_of body) None last → GivenBy result old new (map Byte head ++ []) None last
given_alone result old new head body last none given = subst (λ (b : Contents). GivenBy result old new (map Byte head ++ items_of b) None last) none given

pub given_text : (result : Option Ending) (old new : Held) (bytes text : List ℕ) (body : Contents) (last : Bool) → body ≡ empty → bytes ≡ text → GivenBy result old new (map Byte bytes ++ items_of body) None last → GivenBy result old new (map Byte text) None last
given_text result old new bytes text body last none same given = subst (λ (items : List Item). GivenBy result old new items None last)
    (ap (λ (b : Contents). map Byte bytes ++ items_of b) none ∙ append-nil (map Byte bytes) ∙ ap (map Byte) same) given

-- buffers of a new body
pub kept_with : (p q r : PoolState) (none : Contents) (l body m : List ℕ) → none ≡ empty → Kept p none.numbers q body → Kept q (l ++ body) r m → Kept p l r m
kept_with p q r none l body m nothing pushed given = subst (λ (g : List ℕ). Kept p g r m) (append-nil l)
    (kept_both p q r (l ++ []) (l ++ body) m (kept_beside p q l [] body (subst (λ (b : Contents). Kept p b.numbers q body) nothing pushed)) given)

-- the plan of the code is that of the client's request
pub plans_at : (content : Content) (settings : Settings) (status : ℕ) (fields : FieldLines) (site : Site) (a b : Arrival) (m n j k : ℕ) (g h : Head) (before after : Disk) → a ≡ b → m ≡ n → j ≡ k → g ≡ h → PlansContent content settings status fields site (Some a) m j g before after → PlansContent content settings status fields site (Some b) n k h before after
plans_at content settings status fields site a b m n j k g h before after came client number head plans = subst (λ (x : Arrival). PlansContent content settings status fields site (Some x) n k h before after) came
    (subst (λ (c : ℕ). PlansContent content settings status fields site (Some a) c k h before after) client
    (subst (λ (i : ℕ). PlansContent content settings status fields site (Some a) m i h before after) number
    (subst (λ (x : Head). PlansContent content settings status fields site (Some a) m j x before after) head plans)))

-- a file that is planned is open
pub plans_open : (content : Content) (settings : Settings) (status : ℕ) (fields : FieldLines) (site : Site) (arrival : Option Arrival) (client k : ℕ) (head : Head) (before after : Disk) → PlansContent content settings status fields site arrival client k head before after → PlansOpen content after
plans_open Phrase settings status fields site arrival client k head before after plans = tt
plans_open (File file start len) settings status fields site arrival client k head before after plans = (plans.bytes, plans.opened)
plans_open (Unsent len) settings status fields site arrival client k head before after plans = tt

-- without memory for its plan
pub calls_at : (site : Site) (a b : Arrival) (m n j k : ℕ) (g h : Head) (before after : Disk) → a ≡ b → m ≡ n → j ≡ k → g ≡ h → CallsFor site (Some a) m j g None before after → CallsFor site (Some b) n k h None before after
calls_at site a b m n j k g h before after came client number head calls = subst (λ (x : Arrival). CallsFor site (Some x) n k h None before after) came
    (subst (λ (c : ℕ). CallsFor site (Some a) c k h None before after) client (subst (λ (i : ℕ). CallsFor site (Some a) m i h None before after) number (subst (λ (x : Head). CallsFor site (Some a) m j x None before after) head calls)))

-- the head that was read is the one of the request
pub same_head : (g h : Head) (o : Option Head) → Some g ≡ o → o ≡ Some h → g ≡ h
same_head g h o a b = let s : Some g ≡ Some h = a ∙ b in cc (s)

-- what another call gave is given back at once
pub kept_closed : (p q r : PoolState) (g l m : List ℕ) → Kept p g q (l ++ m) → Kept q m r [] → Kept p g r l
kept_closed p q r g l m one two = subst (λ (k : List ℕ). Kept p g r k) (append-nil l) (kept_both p q r g (l ++ m) (l ++ []) one (kept_beside q r l m [] two))

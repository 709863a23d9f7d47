-- How many conditions are compared for a client: those of the request that is planned for it.
use Rattle.std.proofs.Common.{◌≡◌, ℕ, zero, suc, ◌+◌, ◌*◌, ◌≤◌, ◌<◌, List, [], ◌∷◌, ◌++◌, length, Bool, true, false, ◌&&◌, nat_lt, nat_le, Option, Some, None, if◌then◌else◌, Result, Ok, Err, refl, sym, ◌∙◌, ap, subst, arith, length-append}
use Rattle.std.proofs.Math.Nat.{mul-le-mul_right}
use Rattle.std.proofs.lemmas.Bool.Decides.{nat_tests}
use Rattle.lt_world.specs.Acts.{input_of, output_of}
use Rattle.lt_world.specs.declared.net.Ending.{Ending}
use Rattle.lt_world.specs.declared.net.Ending.TheVariants as ending
use Rattle.lt_world.specs.Disk.{Disk, Table}
use Rattle.lt_world.specs.Trace.{Act, Entry}
use Rattle.lt_http_body.specs.declared.standing.Standing.{Standing}
use Rattle.lt_http_body.specs.declared.body.BodyState.{BodyState}
use Rattle.lt_http_body.specs.declared.body.BodyState.TheVariants as body
use Rattle.lt_http_body.specs.declared.body.BodyRefusal.{BodyRefusal}
use Rattle.lt_http_body.specs.Standings.{begin, answer_from}
use Rattle.lt_http_body.specs.Reading.{standing_after, data_in}
use Rattle.chunkqueue.specs.Items.{bytes_of}
use Rattle.server_model.specs.Client.{current, current_request, request_at}
use Rattle.server_model.specs.Comparing.{comparisons, comparison_limit, planned_count, passes_of, passes_between}
use Rattle.server_model.specs.Deeds.{Deed, Ours, ours, told}
use Rattle.server_model.specs.Held.{Stage, Awaiting, Heading, Taking, Asking, Answering, Held, arrival_of}
use Rattle.server_model.specs.Request.{Head, Request, Unfinished, Refused, Open, Declined, Complete, Front, NoHead, BadHead, HasHead, Limits, front_of, request_of, is_complete, has_head, is_open_body}
use Rattle.server_model.specs.Rewrites.{rewriting}
use Rattle.server_model.specs.Serves.{IsAwaiting, IsTaking, IsAsking, IsAt, IsWaitingAt, told_first, first_unasked, Matches, Stands}
use Rattle.server_model.specs.Settings.{settings_at, limit_for}
use Rattle.server_model.specs.Site.{Site}
use Rattle.server_model.specs.Steps.{number_of, has_no_items, looked_at, looked, fed_at, advanced_at, advanced, accepted_at, accepted}
use Rattle.server_model.specs.Stream.{is_followed, Place, place, left_after, replies_to}
use Rattle.server_model.specs.Reply.{reply}
use Rattle.server_model.specs.World.{Arrival, Side, World, world_of, side_of, side_after}
use Rattle.server_model.proofs.Advances.{matches_advanced, matches_accepted}
use Rattle.server_model.proofs.Bounded.{rewriting_within}
use Rattle.server_model.proofs.Calls.{and_false}
use Rattle.server_model.proofs.Clients.{IsFreed, by_front, accepted_stays, advanced_freed, accepted_freed}
use Rattle.server_model.proofs.Replying.{next_request, next_reply, passed_place}
use Rattle.server_model.proofs.Requests.{nohead_unfinished}
use Rattle.server_model.proofs.Settled.{open_now}
use Rattle.server_model.proofs.Sides.{came_side}
use Rattle.server_model.proofs.Standing.{stands_number}
use Rattle.server_model.proofs.Wanting.{more_told}
use Rattle.cond_cache.specs.Kept.{conditions_in}
use Rattle.connection.specs.Connection.{head_at}
use Rattle.connection.specs.Stages.{stage_at, stage_of}
use Rattle.connection.specs.declared.stage.Stage.TheVariants as next
use Rattle.request_plan.specs.Kept.{Kept, IsRightFor}
use Rattle.server_core.proofs.Advancing.{IsHeaded, headed}
use Rattle.server_core.specs.Compared.{wants}
use Rattle.server_core.specs.Passes.{passes_for, passes_at, taken_on_at, taken_on, passes_on, passes_after, ComparesBy}

-- ---- which request is planned

module _ (opened : Table) (world : World) (held : Held) (acts : List Act) where
  -- a request that is there is the current one, since its reply says more than what was told first
  asking_number : (k : ℕ) (r : Request) → has_head r ≡ true → is_open_body r ≡ false → IsAsking opened world held acts k r → (current world acts).number ≡ k
  asking_number k r has shut at =
      let b = at.begun in
      let is : next_reply world (input_of acts) k ≡ reply world k r = ap (reply world k) at.request in
      let taken : length b.taken ≤ length (told_first (limit_for world) r) = omega (arith, ap length b.owed, length-append b.taken (bytes_of opened held.owed)) in
      let more : length (told_first (limit_for world) r) < length (reply world k r).bytes = more_told world k r has shut in
      let short : nat_le (length (reply world k r).bytes) (length b.taken) ≡ false = grind (arith, nat_tests, taken, more) in
      let len : length (output_of acts) ≡ length b.before + length b.taken = omega (arith, ap length b.output, length-append b.before b.taken) in
      ap (λ (p : Place). p.number)
      (ap (λ (n : ℕ). place 0 n (replies_to world (input_of acts))) len
      ∙ passed_place world (input_of acts) k b.before b.passed (length b.taken)
      (ap (λ q. is_followed q && nat_le (length q.bytes) (length b.taken)) is ∙ ap (λ t. is_followed (reply world k r) && t) short ∙ and_false (is_followed (reply world k r))))

  module _ (k : ℕ) (head : Head) (content : List ℕ) (asking : held.stage ≡ Asking k (Complete head content)) (m : Matches opened world held acts) where
    asks : IsAsking opened world held acts k (Complete head content)
    asks = subst (IsAt opened world held acts) asking m.at

    number : (current world acts).number ≡ k
    number = asking_number k (Complete head content) refl refl asks

    request_now : current_request world acts ≡ Complete head content
    request_now = ap (λ (n : ℕ). request_at world acts n) number ∙ asks.request

    planned_now : planned_count world acts ≡ k + 1
    planned_now = ap (λ (r : Request). if is_complete r then (current world acts).number + 1 else (current world acts).number) request_now ∙ ap (λ (n : ℕ). n + 1) number

  -- before its event the client had no further request planned
  pub planned_before : Stands opened world held acts → planned_count world acts ≤ first_unasked held.stage
  planned_before s = by held.stage s.matches.at s.waiting (stands_number opened world held acts s)
    where
      counts : (k : ℕ) (r : Request) → (current world acts).number ≡ k → request_at world acts k ≡ r → is_complete r ≡ false → planned_count world acts ≤ k
      counts k r is here none =
          let now : is_complete (current_request world acts) ≡ false = ap (λ (n : ℕ). is_complete (request_at world acts n)) is ∙ ap is_complete here ∙ none in
          let same : planned_count world acts ≡ k = ap (λ (t : Bool). if t then (current world acts).number + 1 else (current world acts).number) now ∙ is in
          omega (arith, same)

      most : (t : Bool) (n : ℕ) → (if t then n + 1 else n) ≤ n + 1
      most true n = omega arith
      most false n = omega arith

      by : (s : Stage) → IsAt opened world held acts s → IsWaitingAt s held.input held.owed → (current world acts).number ≡ number_of s → planned_count world acts ≤ first_unasked s
      by (Awaiting k) at waiting is = counts k Unfinished is (ap (request_of (limit_for world)) (sym at.input) ∙ nohead_unfinished (limit_for world) held.input waiting) refl
      by (Heading k head) at waiting is = absurd waiting
      by (Taking k head s content) at waiting is = counts k (Open head) is (open_now opened world held acts k head s content at waiting) refl
      by (Asking k r) at waiting is = absurd waiting
      by (Answering k last) at waiting is = let n = most (is_complete (current_request world acts)) (current world acts).number in omega (arith, is, n)

-- ---- a step takes up one request at most

advanced_first : (held : Held) → first_unasked (advanced held).stage ≡ first_unasked held.stage
advanced_first held = by held.stage refl
  where
    at : (k : ℕ) (f : Front) → first_unasked (looked_at k f held).stage ≡ k
    at k NoHead = refl
    at k (BadHead status) = refl
    at k (HasHead head rest) = refl

    takes : (k : ℕ) (head : Head) (a : Result BodyState BodyRefusal) (s : Standing) (content : List ℕ) → first_unasked (fed_at k head a s content) ≡ k
    takes k head (Ok body.NeedMore) s content = refl
    takes k head (Ok body.Done) s content = refl
    takes k head (Err refused) s content = refl

    answering : (k : ℕ) (t : Bool) → held.stage ≡ Answering k false → first_unasked (if t then looked (k + 1) held else held).stage ≡ k + 1
    answering k true is = at (k + 1) (front_of held.input)
    answering k false is = ap first_unasked is

    by : (s : Stage) → held.stage ≡ s → first_unasked (advanced_at s held).stage ≡ first_unasked s
    by (Awaiting k) is = at k (front_of held.input)
    by (Heading k head) is = ap first_unasked is
    by (Taking k head s content) is = takes k head (answer_from (standing_after s held.input).state) (standing_after s held.input) (content ++ data_in s held.input)
    by (Asking k r) is = ap first_unasked is
    by (Answering k true) is = ap first_unasked is
    by (Answering k false) is = answering k (has_no_items held.owed) is

accepted_first : (held : Held) (limit : ℕ) → first_unasked (accepted held limit).stage ≡ first_unasked held.stage
accepted_first held limit = by held.stage refl
  where
    by : (s : Stage) → held.stage ≡ s → first_unasked (accepted_at s limit held).stage ≡ first_unasked s
    by (Awaiting k) is = ap first_unasked is
    by (Heading k head) is = refl
    by (Taking k head s content) is = ap first_unasked is
    by (Asking k r) is = ap first_unasked is
    by (Answering k last) is = ap first_unasked is

taken_first : (site : Site) (held : Held) → first_unasked (taken_on site held).stage ≡ first_unasked held.stage
taken_first site held = by held.stage
  where
    by : (s : Stage) → first_unasked (taken_on_at s site held).stage ≡ first_unasked held.stage
    by (Awaiting k) = refl
    by (Heading k head) =
        let limit = (settings_at site (Some (arrival_of held)) (Some head)).body_limit in
        advanced_first (accepted held limit) ∙ accepted_first held limit
    by (Taking k head s content) = refl
    by (Asking k r) = refl
    by (Answering k last) = refl

-- its client stays where it came from
pub advanced_arrival : (held : Held) → arrival_of (advanced held) ≡ arrival_of held
advanced_arrival held = by_front (λ h. arrival_of h ≡ arrival_of held) held (λ k f. at k f) (λ k head s content. refl) refl
  where
    at : (k : ℕ) (f : Front) → arrival_of (looked_at k f held) ≡ arrival_of held
    at k NoHead = refl
    at k (BadHead status) = refl
    at k (HasHead head rest) = refl

pub accepted_arrival : (held : Held) (limit : ℕ) → arrival_of (accepted held limit) ≡ arrival_of held
accepted_arrival held limit = accepted_stays (λ h. arrival_of h ≡ arrival_of held) held limit (λ k head. refl) refl

-- a head that is at hand is the one of the stage
same_heading : (k j : ℕ) (g h : Head) (s : Stage) → s ≡ Heading k g → s ≡ Heading j h → g ≡ h
same_heading k j g h s a b = let e : Heading k g ≡ Heading j h = sym a ∙ b in cc (e)

module _ (site : Site) (opened : Table) (world : World) (mid : Held) (acts : List Act) (here : world.site ≡ site) (came : world.side.arrival ≡ Some (arrival_of mid)) where
  -- what stood for the acts does so once it was taken up
  taken_matches : (held : Held) → arrival_of held ≡ arrival_of mid → IsFreed held → Matches opened world held acts → Matches opened world (taken_on site held) acts
  taken_matches held from freed m = by held.stage refl
    where
      limit : Head → ℕ
      limit head = (settings_at site (Some (arrival_of held)) (Some head)).body_limit

      limit_is : (head : Head) → limit head ≡ limit_for world head
      limit_is head =
          ap (λ (a : Arrival). (settings_at site (Some a) (Some head)).body_limit) from
          ∙ (λ i. (settings_at (sym here i) (sym came i) (Some head)).body_limit)

      by : (s : Stage) → held.stage ≡ s → Matches opened world (taken_on_at s site held) acts
      by (Awaiting k) is = m
      by (Heading k head) is = matches_advanced opened world (accepted held (limit head)) acts (accepted_freed held (limit head) freed)
          (matches_accepted opened world held acts (limit head) (λ j h at. ap limit (same_heading k j head h held.stage is at) ∙ limit_is h) m)
      by (Taking k head s content) is = m
      by (Asking k r) is = m
      by (Answering k last) is = m

  -- the new targets are those of the request that is planned
  module _ (was : World) (past : List Act) (before : planned_count was past ≤ first_unasked mid.stage) (freed : IsFreed mid) (m : Matches opened world mid acts) where
    abbrev up : Held
    up = taken_on site (advanced mid)

    up_matches : Matches opened world up acts
    up_matches = taken_matches (advanced mid) (advanced_arrival mid) (advanced_freed mid freed) (matches_advanced opened world mid acts freed m)

    up_first : first_unasked up.stage ≡ first_unasked mid.stage
    up_first = taken_first site (advanced mid) ∙ advanced_first mid

    complete_passes : (k : ℕ) (head : Head) (content : List ℕ) → up.stage ≡ Asking k (Complete head content) → (rewriting site.blocks (Some (arrival_of (advanced mid))) head).passes ≡ passes_between was past world acts
    complete_passes k head content is =
        let less : planned_count was past < planned_count world acts = omega (arith, before, up_first, ap first_unasked is, planned_now opened world up acts k head content is up_matches) in
        let yes : nat_lt (planned_count was past) (planned_count world acts) ≡ true = grind (arith, nat_tests, less) in
        (λ i. (rewriting (sym here i).blocks ((ap (λ (a : Arrival). Some a) (advanced_arrival mid) ∙ sym came) i) head).passes)
        ∙ sym (ap (passes_of world) (request_now opened world up acts k head content is up_matches))
        ∙ ap (λ (t : Bool). if t then passes_of world (current_request world acts) else 0) (sym yes)

    pub few_passes : passes_after site mid ≤ passes_between was past world acts
    few_passes = by up.stage refl
      where
        none : 0 ≤ passes_between was past world acts
        none = omega arith

        by : (s : Stage) → up.stage ≡ s → passes_at site (Some (arrival_of (advanced mid))) s ≤ passes_between was past world acts
        by (Awaiting k) is = none
        by (Heading k head) is = none
        by (Taking k head s content) is = none
        by (Asking k Unfinished) is = none
        by (Asking k (Refused status)) is = none
        by (Asking k (Open head)) is = none
        by (Asking k (Declined status head)) is = none
        by (Asking k (Complete head content)) is = omega (arith, complete_passes k head content is)
        by (Answering k last) is = none

-- ---- counts

pub more_comparisons : (site : Site) (a b : ℕ) → a ≤ b → comparisons site a ≤ comparisons site b
more_comparisons site a b le = mul-le-mul_right (conditions_in site.blocks) (omega (arith, le))

-- each condition is compared once at least
one_comparison : (site : Site) (n : ℕ) → conditions_in site.blocks ≤ comparisons site n
one_comparison site n =
    let one : 1 * conditions_in site.blocks ≤ (3 + n) * conditions_in site.blocks = mul-le-mul_right (conditions_in site.blocks) (omega arith) in
    omega (arith, one)

passes_limited : (site : Site) (arrival : Option Arrival) (s : Stage) → passes_at site arrival s ≤ 100
passes_limited site arrival (Awaiting k) = omega arith
passes_limited site arrival (Heading k head) = omega arith
passes_limited site arrival (Taking k head s content) = omega arith
passes_limited site arrival (Asking k Unfinished) = omega arith
passes_limited site arrival (Asking k (Refused status)) = omega arith
passes_limited site arrival (Asking k (Open head)) = omega arith
passes_limited site arrival (Asking k (Declined status head)) = omega arith
passes_limited site arrival (Asking k (Complete head content)) = rewriting_within site.blocks arrival head
passes_limited site arrival (Answering k last) = omega arith

pub limited : (site : Site) (held : Held) (w before after : ℕ) → after ≤ before + comparisons site (passes_after site held) + w → after ≤ before + comparison_limit site + w
limited site held w before after within =
    let few : comparisons site (passes_after site held) ≤ comparisons site 100 = more_comparisons site (passes_after site held) 100 (passes_limited site (Some (arrival_of (advanced held))) (taken_on site (advanced held)).stage) in
    omega (arith, within, few)

-- ---- what is compared as a request is taken up

-- without a head that waits nothing is taken up
not_taken : (site : Site) (held : Held) → (stage_of held ≡ next.Head → ⊥) → taken_on site held ≡ held
not_taken site held isnt = by held.stage refl
  where
    by : (s : Stage) → held.stage ≡ s → taken_on_at s site held ≡ held
    by (Awaiting k) is = refl
    by (Heading k head) is = absurd (isnt (ap (λ (s : Stage). stage_at s held.owed held.ended) is))
    by (Taking k head s content) is = refl
    by (Asking k r) is = refl
    by (Answering k last) is = refl

-- the same by the site and by what is kept before the step
module _ (a b : Site) (same : a ≡ b) (mid held : Held) (is : mid ≡ advanced held) (before after w : ℕ) where
  pub compares_body : after ≤ before + comparisons a (passes_on a mid) + w → after ≤ before + comparisons b (passes_after b held) + w
  compares_body within = subst (λ (s : Site). after ≤ before + comparisons s (passes_after s held) + w) same (subst (λ (h : Held). after ≤ before + comparisons a (passes_on a h) + w) is within)

  pub compares_on : (asked : ℕ) → (stage_of mid ≡ next.Head → ⊥) → after + asked ≤ before + comparisons a (passes_at a (Some (arrival_of mid)) mid.stage) + w → after ≤ before + comparisons b (passes_after b held) + w
  compares_on asked isnt within = compares_body
      (subst (λ (h : Held). after ≤ before + comparisons a (passes_at a (Some (arrival_of mid)) h.stage) + w) (sym (not_taken a mid isnt)) (omega (arith, within)))

-- a head that waits, and its body as far as it came
read_head : (held : Held) (limit : ℕ) (k : ℕ) (head : Head) → held.stage ≡ Heading k head → head_at (advanced (accepted held limit)).stage ≡ Some head
read_head held limit k head is = subst (λ (s : Stage). head_at (advanced (accepted_at s limit held)).stage ≡ Some head) (sym is) (by (answer_from (standing_after (begin head.framing limit) held.input).state))
  where
    by : (a : Result BodyState BodyRefusal) → head_at (fed_at k head a (standing_after (begin head.framing limit) held.input) ([] ++ data_in (begin head.framing limit) held.input)) ≡ Some head
    by (Ok body.NeedMore) = refl
    by (Ok body.Done) = refl
    by (Err refused) = refl

some_same : (g h : Head) → Some g ≡ Some h → g ≡ h
some_same g h is = cc (is)

module _ (site : Site) (held mid now : Held) (arrival : Arrival) (given : Head) (limit : ℕ) (came : arrival ≡ arrival_of held) (here : Some given ≡ head_at held.stage) (heading : stage_of held ≡ next.Head)
    (limit_is : limit ≡ (settings_at site (Some arrival) (Some given)).body_limit) (mid_is : mid ≡ accepted held limit) (now_is : now ≡ advanced mid) where
  now_arrival : arrival ≡ arrival_of now
  now_arrival = came ∙ sym (accepted_arrival held limit) ∙ ap arrival_of (sym mid_is) ∙ sym (advanced_arrival mid) ∙ ap arrival_of (sym now_is)

  now_stage : now.stage ≡ (advanced (accepted held limit)).stage
  now_stage = ap (λ (h : Held). h.stage) now_is ∙ ap (λ (h : Held). (advanced h).stage) mid_is

  -- what was found for the head is right for the request that is there then
  pub read_right : (p : Kept) → IsRightFor arrival given p → (head : Head) → head_at now.stage ≡ Some head → IsRightFor (arrival_of now) head p
  read_right p right head at = by (headed held heading)
    where
      by : IsHeaded held.stage → IsRightFor (arrival_of now) head p
      by (IsHeaded.Headed k h is) =
          let one : given ≡ h = some_same given h (here ∙ ap head_at is) in
          let two : h ≡ head = some_same h head (sym (read_head held limit k h is) ∙ ap head_at (sym now_stage) ∙ at) in
          subst (λ (x : Head). IsRightFor (arrival_of now) x p) (one ∙ two) (subst (λ (x : Arrival). IsRightFor x given p) now_arrival right)

  -- and it is the one by which its new targets are counted
  taken_now : taken_on site held ≡ advanced (accepted held limit)
  taken_now = by (headed held heading)
    where
      by : IsHeaded held.stage → taken_on site held ≡ advanced (accepted held limit)
      by (IsHeaded.Headed k h is) =
          let one : given ≡ h = some_same given h (here ∙ ap head_at is) in
          let same : (settings_at site (Some (arrival_of held)) (Some h)).body_limit ≡ limit = (λ i. (settings_at site (Some (sym came i)) (Some (sym one i))).body_limit) ∙ sym limit_is in
          ap (λ (s : Stage). taken_on_at s site held) is ∙ ap (λ (l : ℕ). advanced (accepted held l)) same

  pub read_passes : passes_at site (Some (arrival_of now)) now.stage ≡ passes_on site held
  read_passes =
      (λ i. passes_at site (Some ((sym now_arrival ∙ came) i)) now.stage)
      ∙ ap (passes_at site (Some (arrival_of held))) (now_stage ∙ ap (λ (h : Held). h.stage) (sym taken_now))

  pub compares_read : (other : Site) → other ≡ site → (before between after first asked w : ℕ) → between + first ≤ before + asked → after + asked ≤ between + comparisons other (passes_at other (Some (arrival_of now)) now.stage) + w → after ≤ before + comparisons site (passes_on site held) + w
  compares_read other same before between after first asked w one two =
      let here : after + asked ≤ between + comparisons site (passes_at site (Some (arrival_of now)) now.stage) + w = subst (λ (s : Site). after + asked ≤ between + comparisons s (passes_at s (Some (arrival_of now)) now.stage) + w) same two in
      let there : after + asked ≤ between + comparisons site (passes_on site held) + w = subst (λ (n : ℕ). after + asked ≤ between + comparisons site n + w) read_passes here in
      omega (arith, one, there)

-- what was compared for the limit alone
pub compares_limit : (site : Site) (n before after first asked : ℕ) → after + first ≤ before + asked + 1 → asked ≤ conditions_in site.blocks → after ≤ before + comparisons site n + 1
compares_limit site n before after first asked within few = let one = one_comparison site n in omega (arith, within, few, one)

-- or for nothing
pub compares_none : (site : Site) (n before asked w : ℕ) → asked ≤ conditions_in site.blocks → before + asked ≤ before + comparisons site n + w
compares_none site n before asked w few = let one = one_comparison site n in omega (arith, few, one)

pub compares_refused : (site : Site) (n before after asked w : ℕ) → after + asked ≤ before + conditions_in site.blocks + w → after + asked ≤ before + comparisons site n + w
compares_refused site n before after asked w within = let one = one_comparison site n in omega (arith, within, one)

-- the plan of a request that is there
module _ (site : Site) (held : Held) (arrival : Arrival) (given head : Head) (content : List ℕ) (came : arrival ≡ arrival_of held) (same : given ≡ head) (asking : held.stage ≡ Asking (number_of held.stage) (Complete head content)) where
  planned_passes : (rewriting site.blocks (Some arrival) given).passes ≡ passes_at site (Some (arrival_of held)) held.stage
  planned_passes = (λ i. (rewriting site.blocks (Some (came i)) (same i)).passes) ∙ ap (passes_at site (Some (arrival_of held))) (sym asking)

  pub compares_plan : (before after asked v w : ℕ) → v ≤ w → after + asked ≤ before + comparisons site (rewriting site.blocks (Some arrival) given).passes + v → after + asked ≤ before + comparisons site (passes_at site (Some (arrival_of held)) held.stage) + w
  compares_plan before after asked v w less within =
      let here : after + asked ≤ before + comparisons site (passes_at site (Some (arrival_of held)) held.stage) + v = subst (λ (n : ℕ). after + asked ≤ before + comparisons site n + v) planned_passes within in
      omega (arith, here, less)

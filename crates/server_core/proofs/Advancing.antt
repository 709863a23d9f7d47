-- What the answer to a step of a connection says of what is held.
use Rattle.std.proofs.Common.{◌≡◌, ℕ, ◌+◌, List, [], ◌++◌, Bool, true, false, ◌&&◌, Option, None, if◌then◌else◌, refl, sym, ◌∙◌, ap, subst}
use Rattle.std.specs.Prelude.{Result, Ok, Err}
use Rattle.lt_world.specs.Disk.{Table}
use Rattle.chunkqueue.specs.Items.{Item}
use Rattle.lt_http_body.specs.declared.standing.Standing.{Standing}
use Rattle.lt_http_body.specs.declared.body.BodyState.{BodyState}
use Rattle.lt_http_body.specs.declared.body.BodyState.TheVariants as body
use Rattle.lt_http_body.specs.declared.body.BodyRefusal.{BodyRefusal}
use Rattle.lt_http_body.specs.Standings.{begin, answer_from}
use Rattle.lt_http_body.specs.Reading.{standing_after, data_in}
use Rattle.server_model.specs.Request.{Head, Request, Unfinished, Refused, Open, Declined, Complete, Front, NoHead, BadHead, HasHead, is_headed, front_of}
use Rattle.server_model.specs.Held.{Stage, Awaiting, Heading, Taking, Asking, Answering, Held}
use Rattle.server_model.specs.Steps.{number_of, has_no_items, looked_at, looked, fed_at, advanced_at, advanced, looks_at, looks, wants_memory_at, wants_memory, accepted_at, accepted, is_done_at, is_done}
use Rattle.server_model.specs.Files.{Fits}
use Rattle.server_model.specs.Serves.{IsWaitingAt, IsWaiting}
use Rattle.server_model.proofs.Clients.{IsSettledAt, IsFreedAt, IsFreed, by_front, advanced_settled, looks_advanced}
use Rattle.connection.specs.Stages.{stage_at, stage_of, is_heading, is_asking}
use Rattle.connection.specs.declared.stage.Stage as declared
use Rattle.connection.specs.declared.stage.Stage.TheVariants as next
use Rattle.server_core.specs.Steps.{is_idle, IsFreeAt, IsFree, IsAdvanced}

abbrev pub Next : Type 0
Next = declared.Stage

-- what is answered behind the bytes of a body
abbrev BodyAnswer : Type 0
BodyAnswer = Result BodyState BodyRefusal

-- a request that is there is one that gets an answer
abbrev pub IsAnswered : Request → Type 0
IsAnswered Unfinished = ⊥
IsAnswered (Refused status) = Unit {0}
IsAnswered (Open head) = ⊥
IsAnswered (Declined status head) = Unit {0}
IsAnswered (Complete head content) = Unit {0}

abbrev pub IsTakenUp : Stage → Type 0
IsTakenUp (Awaiting k) = Unit {0}
IsTakenUp (Heading k head) = Unit {0}
IsTakenUp (Taking k head s content) = Unit {0}
IsTakenUp (Asking k r) = IsAnswered r
IsTakenUp (Answering k last) = Unit {0}

-- a step takes up whole requests
advanced_up : (held : Held) → is_idle held.stage ≡ true → IsTakenUp (advanced held).stage
advanced_up held idle = by_front (λ h. IsTakenUp h.stage) held (λ k f. at k f) (λ k head s content. takes k head (answer_from (standing_after s held.input).state) (standing_after s held.input) (content ++ data_in s held.input)) (still held.stage idle)
  where
    still : (s : Stage) → is_idle s ≡ true → IsTakenUp s
    still (Awaiting k) e = tt
    still (Heading k head) e = tt
    still (Taking k head s content) e = tt
    still (Asking k r) e = absurd (cc (e))
    still (Answering k last) e = tt

    at : (k : ℕ) (f : Front) → IsTakenUp (looked_at k f held).stage
    at k NoHead = tt
    at k (BadHead status) = tt
    at k (HasHead head rest) = tt

    takes : (k : ℕ) (head : Head) (a : BodyAnswer) (s : Standing) (content : List ℕ) → IsTakenUp (fed_at k head a s content)
    takes k head (Ok body.NeedMore) s content = tt
    takes k head (Ok body.Done) s content = tt
    takes k head (Err refused) s content = tt

pub free_freed : (held : Held) → IsFree held → IsFreed held
free_freed held free = by held.stage free
  where
    by : (s : Stage) → IsFreeAt s held.owed held.file → IsFreedAt s held.owed held.file
    by (Awaiting k) f = tt
    by (Heading k head) f = tt
    by (Taking k head s content) f = tt
    by (Asking k r) f = tt
    by (Answering k last) f = f

pub advanced_fits : (table : Table) (held : Held) → Fits table held → Fits table (advanced held)
advanced_fits table held fits = by_front (Fits table) held (λ k f. at k f) (λ k head s content. record { is_open = fits.is_open; owed = fits.owed }) fits
  where
    at : (k : ℕ) (f : Front) → Fits table (looked_at k f held)
    at k NoHead = record { is_open = fits.is_open; owed = fits.owed }
    at k (BadHead status) = record { is_open = fits.is_open; owed = fits.owed }
    at k (HasHead head rest) = record { is_open = fits.is_open; owed = fits.owed }

-- nothing is to be done now
at_rest : (over none : Bool) → (if none then (if over then next.Finished else next.Waiting) else next.Writing) ≡ next.Waiting → (none ≡ true) × (over ≡ false)
at_rest true true is = absurd (cc (is))
at_rest false true is = (refl, refl)
at_rest over false is = absurd (cc (is))

at_work : (over none : Bool) → (if none then (if over then next.Finished else next.Waiting) else next.Writing) ≡ next.Writing → none ≡ false
at_work true true is = absurd (cc (is))
at_work false true is = absurd (cc (is))
at_work over false is = refl

at_end : (over none : Bool) → (if none then (if over then next.Finished else next.Waiting) else next.Writing) ≡ next.Finished → (none && over) ≡ true
at_end true true is = refl
at_end false true is = absurd (cc (is))
at_end over false is = absurd (cc (is))

not_over : (none over : Bool) → over ≡ false → (none && over) ≡ false
not_over true over is = is
not_over false over is = refl

some_undone : (none over : Bool) → none ≡ false → (none && over) ≡ false
some_undone none over is = ap (λ (t : Bool). t && over) is

waiting_at : (s : Stage) (input : List ℕ) (owed : List Item) (ended : Bool) → IsSettledAt s input owed → IsTakenUp s → stage_at s owed ended ≡ next.Waiting → IsWaitingAt s input owed × ((has_no_items owed && is_done_at s ended) ≡ false)
waiting_at (Awaiting k) input owed ended settled up is = (settled, not_over (has_no_items owed) ended (at_rest ended (has_no_items owed) is).1)
waiting_at (Heading k head) input owed ended settled up is = absurd (cc (is))
waiting_at (Taking k head s content) input owed ended settled up is = (settled, not_over (has_no_items owed) ended (at_rest ended (has_no_items owed) is).1)
waiting_at (Asking k Unfinished) input owed ended settled up is = absurd up
waiting_at (Asking k (Refused status)) input owed ended settled up is = absurd (cc (is))
waiting_at (Asking k (Open head)) input owed ended settled up is = absurd up
waiting_at (Asking k (Declined status head)) input owed ended settled up is = absurd (cc (is))
waiting_at (Asking k (Complete head content)) input owed ended settled up is = absurd (cc (is))
waiting_at (Answering k last) input owed ended settled up is = let r = at_rest last (has_no_items owed) is in let some = settled r.1 in absurd (cc (r.0, some))

writing_at : (s : Stage) (input : List ℕ) (owed : List Item) (ended : Bool) → IsSettledAt s input owed → stage_at s owed ended ≡ next.Writing → IsWaitingAt s input owed × ((has_no_items owed && is_done_at s ended) ≡ false)
writing_at (Awaiting k) input owed ended settled is = (settled, some_undone (has_no_items owed) ended (at_work ended (has_no_items owed) is))
writing_at (Heading k head) input owed ended settled is = absurd (cc (is))
writing_at (Taking k head s content) input owed ended settled is = (settled, some_undone (has_no_items owed) ended (at_work ended (has_no_items owed) is))
writing_at (Asking k Unfinished) input owed ended settled is = absurd (cc (is))
writing_at (Asking k (Refused status)) input owed ended settled is = absurd (cc (is))
writing_at (Asking k (Open head)) input owed ended settled is = absurd (cc (is))
writing_at (Asking k (Declined status head)) input owed ended settled is = absurd (cc (is))
writing_at (Asking k (Complete head content)) input owed ended settled is = absurd (cc (is))
writing_at (Answering k last) input owed ended settled is = let some = at_work last (has_no_items owed) is in (some, some_undone (has_no_items owed) last some)

finished_at : (s : Stage) (owed : List Item) (ended : Bool) → stage_at s owed ended ≡ next.Finished → (has_no_items owed && is_done_at s ended) ≡ true
finished_at (Awaiting k) owed ended is = at_end ended (has_no_items owed) is
finished_at (Heading k head) owed ended is = absurd (cc (is))
finished_at (Taking k head s content) owed ended is = at_end ended (has_no_items owed) is
finished_at (Asking k Unfinished) owed ended is = absurd (cc (is))
finished_at (Asking k (Refused status)) owed ended is = absurd (cc (is))
finished_at (Asking k (Open head)) owed ended is = absurd (cc (is))
finished_at (Asking k (Declined status head)) owed ended is = absurd (cc (is))
finished_at (Asking k (Complete head content)) owed ended is = absurd (cc (is))
finished_at (Answering k last) owed ended is = at_end last (has_no_items owed) is

status_is : (a b : ℕ) → next.Refused a ≡ next.Refused b → a ≡ b
status_is a b is = cc (is)

-- it waits for more, or has something to send
abbrev pub Rests : Held → Type 0
Rests held = IsWaiting held × (is_done held ≡ false)

-- a file is kept only for what is owed of it, after a step too
pub advanced_free : (held : Held) → IsFree held → IsFree (advanced held)
advanced_free held free = by held.stage refl free
  where
    at : (k : ℕ) (f : Front) → held.file ≡ None → IsFree (looked_at k f held)
    at k NoHead none = none
    at k (BadHead status) none = none
    at k (HasHead head rest) none = none

    takes : (k : ℕ) (head : Head) (a : BodyAnswer) (s : Standing) (content : List ℕ) → held.file ≡ None → IsFreeAt (fed_at k head a s content) held.owed held.file
    takes k head (Ok body.NeedMore) s content none = none
    takes k head (Ok body.Done) s content none = none
    takes k head (Err refused) s content none = none

    answering : (k : ℕ) (t : Bool) → has_no_items held.owed ≡ t → (has_no_items held.owed ≡ true → held.file ≡ None) → IsFree (if t then looked (k + 1) held else held)
    answering k true none f = at (k + 1) (front_of held.input) (f none)
    answering k false some f = free

    by : (s : Stage) → held.stage ≡ s → IsFreeAt s held.owed held.file → IsFree (advanced_at s held)
    by (Awaiting k) is f = at k (front_of held.input) f
    by (Heading k head) is f = free
    by (Taking k head s content) is f = takes k head (answer_from (standing_after s held.input).state) (standing_after s held.input) (content ++ data_in s held.input) f
    by (Asking k r) is f = free
    by (Answering k true) is f = free
    by (Answering k false) is f = answering k (has_no_items held.owed) refl f

-- before a request is answered no file is kept
asking_free : (s : Stage) (owed : List Item) (file : Option ℕ) → is_asking s ≡ true → IsFreeAt s owed file → file ≡ None
asking_free (Awaiting k) owed file asks f = absurd (cc (asks))
asking_free (Heading k head) owed file asks f = absurd (cc (asks))
asking_free (Taking k head s content) owed file asks f = absurd (cc (asks))
asking_free (Asking k r) owed file asks f = f
asking_free (Answering k last) owed file asks f = absurd (cc (asks))

-- what it was before the step
module _ (held : Held) (step : IsAdvanced held) where
  settled : IsSettledAt held.stage held.input held.owed
  settled = subst (λ (h : Held). IsSettledAt h.stage h.input h.owed) (sym step.is) (advanced_settled step.before)

  taken_up : IsTakenUp held.stage
  taken_up = subst (λ (h : Held). IsTakenUp h.stage) (sym step.is) (advanced_up step.before step.idle)

  pub step_waits : stage_of held ≡ next.Waiting → Rests held
  step_waits is = waiting_at held.stage held.input held.owed held.ended settled taken_up is

  pub step_writes : stage_of held ≡ next.Writing → Rests held
  step_writes is = writing_at held.stage held.input held.owed held.ended settled is

  pub step_settled : IsSettledAt held.stage held.input held.owed
  step_settled = settled

  pub step_ends : stage_of held ≡ next.Finished → is_done held ≡ true
  step_ends is = finished_at held.stage held.owed held.ended is

  pub step_free : IsFree held
  step_free = subst IsFree (sym step.is) (advanced_free step.before step.free)

  pub step_none : is_asking held.stage ≡ true → held.file ≡ None
  step_none asks = asking_free held.stage held.owed held.file asks step_free

-- a request is there
no_whole : (over none : Bool) → (if none then (if over then next.Finished else next.Waiting) else next.Writing) ≡ next.Whole → ⊥
no_whole true true is = cc (is)
no_whole false true is = cc (is)
no_whole over false is = cc (is)

no_refused : (status : ℕ) (over none : Bool) → (if none then (if over then next.Finished else next.Waiting) else next.Writing) ≡ next.Refused status → ⊥
no_refused status true true is = cc (is)
no_refused status false true is = cc (is)
no_refused status over false is = cc (is)

no_head : (over none : Bool) → (if none then (if over then next.Finished else next.Waiting) else next.Writing) ≡ next.Head → ⊥
no_head true true is = cc (is)
no_head false true is = cc (is)
no_head over false is = cc (is)

whole_at : (s : Stage) (owed : List Item) (ended : Bool) → stage_at s owed ended ≡ next.Whole → (head : Head) × (content : List ℕ) × (s ≡ Asking (number_of s) (Complete head content))
whole_at (Awaiting k) owed ended is = absurd (no_whole ended (has_no_items owed) is)
whole_at (Heading k head) owed ended is = absurd (cc (is))
whole_at (Taking k head s content) owed ended is = absurd (no_whole ended (has_no_items owed) is)
whole_at (Asking k Unfinished) owed ended is = absurd (cc (is))
whole_at (Asking k (Refused status)) owed ended is = absurd (cc (is))
whole_at (Asking k (Open head)) owed ended is = absurd (cc (is))
whole_at (Asking k (Declined status head)) owed ended is = absurd (cc (is))
whole_at (Asking k (Complete head content)) owed ended is = (head, content, refl)
whole_at (Answering k last) owed ended is = absurd (no_whole last (has_no_items owed) is)

-- it is refused, and its head was read or not
pub data IsRefused (s : Stage) (status : ℕ) : Type 0 where
  Unread : s ≡ Asking (number_of s) (Refused status) → IsRefused s status
  Read : (head : Head) → s ≡ Asking (number_of s) (Declined status head) → IsRefused s status

refused_at : (status : ℕ) (s : Stage) (owed : List Item) (ended : Bool) → stage_at s owed ended ≡ next.Refused status → IsRefused s status
refused_at status (Awaiting k) owed ended is = absurd (no_refused status ended (has_no_items owed) is)
refused_at status (Heading k head) owed ended is = absurd (cc (is))
refused_at status (Taking k head s content) owed ended is = absurd (no_refused status ended (has_no_items owed) is)
refused_at status (Asking k Unfinished) owed ended is = absurd (cc (is))
refused_at status (Asking k (Open head)) owed ended is = absurd (cc (is))
refused_at status (Asking k (Refused st)) owed ended is = IsRefused.Unread (ap (λ (n : ℕ). Asking k (Refused n)) (status_is st status is))
refused_at status (Asking k (Declined st head)) owed ended is = IsRefused.Read head (ap (λ (n : ℕ). Asking k (Declined n head)) (status_is st status is))
refused_at status (Asking k (Complete head content)) owed ended is = absurd (cc (is))
refused_at status (Answering k last) owed ended is = absurd (no_refused status last (has_no_items owed) is)

module _ (held : Held) where
  pub whole_head : stage_of held ≡ next.Whole → (head : Head) × (content : List ℕ) × (held.stage ≡ Asking (number_of held.stage) (Complete head content))
  whole_head is = whole_at held.stage held.owed held.ended is

  pub refused_head : (status : ℕ) → stage_of held ≡ next.Refused status → IsRefused held.stage status
  refused_head status is = refused_at status held.stage held.owed held.ended is

  pub whole_asks : stage_of held ≡ next.Whole → is_asking held.stage ≡ true
  whole_asks is = ap is_asking (whole_head is).2

  pub refused_asks : (status : ℕ) → stage_of held ≡ next.Refused status → is_asking held.stage ≡ true
  refused_asks status is = by (refused_head status is)
    where
      by : IsRefused held.stage status → is_asking held.stage ≡ true
      by (IsRefused.Unread is) = ap is_asking is
      by (IsRefused.Read head is) = ap is_asking is

-- its answer may want memory
pub refused_wants : (held : Held) (status : ℕ) → IsRefused held.stage status → wants_memory held ≡ true
refused_wants held status (IsRefused.Unread at) = ap (λ (s : Stage). wants_memory_at s held.input held.owed) at
refused_wants held status (IsRefused.Read head at) = ap (λ (s : Stage). wants_memory_at s held.input held.owed) at

-- a head was read
pub data IsHeaded (s : Stage) : Type 0 where
  Headed : (k : ℕ) (head : Head) → s ≡ Heading k head → IsHeaded s

headed_at : (s : Stage) (owed : List Item) (ended : Bool) → stage_at s owed ended ≡ next.Head → IsHeaded s
headed_at (Awaiting k) owed ended is = absurd (no_head ended (has_no_items owed) is)
headed_at (Heading k head) owed ended is = IsHeaded.Headed k head refl
headed_at (Taking k head s content) owed ended is = absurd (no_head ended (has_no_items owed) is)
headed_at (Asking k Unfinished) owed ended is = absurd (cc (is))
headed_at (Asking k (Refused status)) owed ended is = absurd (cc (is))
headed_at (Asking k (Open head)) owed ended is = absurd (cc (is))
headed_at (Asking k (Declined status head)) owed ended is = absurd (cc (is))
headed_at (Asking k (Complete head content)) owed ended is = absurd (cc (is))
headed_at (Answering k last) owed ended is = absurd (no_head last (has_no_items owed) is)

pub headed : (held : Held) → stage_of held ≡ next.Head → IsHeaded held.stage
headed held is = headed_at held.stage held.owed held.ended is

pub headed_wants : (held : Held) → stage_of held ≡ next.Head → wants_memory held ≡ true
headed_wants held is = by (headed held is)
  where
    by : IsHeaded held.stage → wants_memory held ≡ true
    by (IsHeaded.Headed k head at) = ap (λ (s : Stage). wants_memory_at s held.input held.owed) at

pub headed_heading : (held : Held) → stage_of held ≡ next.Head → is_heading held.stage ≡ true
headed_heading held is = by (headed held is)
  where
    by : IsHeaded held.stage → is_heading held.stage ≡ true
    by (IsHeaded.Headed k head at) = ap is_heading at

-- a head or a request is taken up only where that may want memory
busy_front : (k : ℕ) (f : Front) (held : Held) → is_idle (looked_at k f held).stage ≡ false → is_headed f ≡ true
busy_front k NoHead held busy = absurd (cc (busy))
busy_front k (BadHead status) held busy = refl
busy_front k (HasHead head rest) held busy = refl

busy_at : (s : Stage) (held : Held) → held.stage ≡ s → is_idle s ≡ true → is_idle (advanced_at s held).stage ≡ false → wants_memory_at s held.input held.owed ≡ true
busy_at (Awaiting k) held at idle busy = busy_front k (front_of held.input) held busy
busy_at (Heading k head) held at idle busy = refl
busy_at (Taking k head s content) held at idle busy = by (looks held) refl
  where
    by : (t : Bool) → looks held ≡ t → looks_at (Taking k head s content) held.input held.owed ≡ true
    by true is = ap (λ (x : Stage). looks_at x held.input held.owed) (sym at) ∙ is
    by false is =
        let same : advanced_at (Taking k head s content) held ≡ held = ap (λ (x : Stage). advanced_at x held) (sym at) ∙ looks_advanced held is in
        let idles : is_idle (advanced_at (Taking k head s content) held).stage ≡ true = ap (λ (h : Held). is_idle h.stage) same ∙ ap is_idle at in
        absurd (cc (idles, busy))
busy_at (Asking k r) held at idle busy = absurd (cc (idle))
busy_at (Answering k true) held at idle busy = let idles : is_idle held.stage ≡ true = ap is_idle at in absurd (cc (idles, busy))
busy_at (Answering k false) held at idle busy = by (has_no_items held.owed) refl busy
  where
    by : (t : Bool) → has_no_items held.owed ≡ t → is_idle (if t then looked (k + 1) held else held).stage ≡ false → (t && is_headed (front_of held.input)) ≡ true
    by true none b = busy_front (k + 1) (front_of held.input) held b
    by false some b = let idles : is_idle held.stage ≡ true = ap is_idle at in absurd (cc (idles, b))

busy_wants : (held : Held) → is_idle held.stage ≡ true → is_idle (advanced held).stage ≡ false → wants_memory held ≡ true
busy_wants held idle busy = busy_at held.stage held refl idle busy

asking_busy : (s : Stage) → is_asking s ≡ true → is_idle s ≡ false
asking_busy (Awaiting k) asks = absurd (cc (asks))
asking_busy (Heading k head) asks = absurd (cc (asks))
asking_busy (Taking k head s content) asks = absurd (cc (asks))
asking_busy (Asking k r) asks = refl
asking_busy (Answering k last) asks = absurd (cc (asks))

headed_busy : (s : Stage) → IsHeaded s → is_idle s ≡ false
headed_busy s (IsHeaded.Headed k head is) = ap is_idle is

module _ (held mid : Held) (is : mid ≡ advanced held) (idle : is_idle held.stage ≡ true) where
  pub asks_wants : is_asking mid.stage ≡ true → wants_memory held ≡ true
  asks_wants asks = busy_wants held idle (ap (λ (h : Held). is_idle h.stage) (sym is) ∙ asking_busy mid.stage asks)

  pub heads_wants : stage_of mid ≡ next.Head → wants_memory held ≡ true
  heads_wants at = busy_wants held idle (ap (λ (h : Held). is_idle h.stage) (sym is) ∙ headed_busy mid.stage (headed mid at))

-- the body of its request is accepted
module _ (held : Held) (limit : ℕ) where
  accepted_by : (P : Stage → Held → Type 0) → ((k : ℕ) (head : Head) → P (Heading k head) (accepted_at (Heading k head) limit held)) → IsHeaded held.stage → P held.stage (accepted held limit)
  accepted_by P accepts (IsHeaded.Headed k head is) = subst (λ (s : Stage). P s (accepted_at s limit held)) (sym is) (accepts k head)

  pub accepted_idle : IsHeaded held.stage → is_idle (accepted held limit).stage ≡ true
  accepted_idle at = accepted_by (λ s h. is_idle h.stage ≡ true) (λ k head. refl) at

  pub accepted_free : IsHeaded held.stage → IsFree held → IsFree (accepted held limit)
  accepted_free at free = accepted_by (λ s h. IsFreeAt s held.owed held.file → IsFree h) (λ k head none. none) at free

  -- no further head is read then
  fed_reads : (k : ℕ) (head : Head) (a : BodyAnswer) (s : Standing) (content : List ℕ) (owed : List Item) (ended : Bool) → stage_at (fed_at k head a s content) owed ended ≡ next.Head → ⊥
  fed_reads k head (Ok body.NeedMore) s content owed ended is = no_head ended (has_no_items owed) is
  fed_reads k head (Ok body.Done) s content owed ended is = cc (is)
  fed_reads k head (Err refused) s content owed ended is = cc (is)

  pub accepted_reads : IsHeaded held.stage → stage_of (advanced (accepted held limit)) ≡ next.Head → ⊥
  accepted_reads at = accepted_by (λ s h. stage_of (advanced h) ≡ next.Head → ⊥)
      (λ k head. let s = begin head.framing limit in fed_reads k head (answer_from (standing_after s held.input).state) (standing_after s held.input) ([] ++ data_in s held.input) (accepted_at (Heading k head) limit held).owed held.ended) at

-- a body is accepted before a further byte of it is taken
pub accepted_input : (held : Held) (limit : ℕ) → (accepted held limit).input ≡ held.input
accepted_input held limit = by held.stage
  where
    by : (s : Stage) → (accepted_at s limit held).input ≡ held.input
    by (Awaiting k) = refl
    by (Heading k head) = refl
    by (Taking k head s content) = refl
    by (Asking k r) = refl
    by (Answering k last) = refl

-- What an event makes of the game, and of what a net tells.
use Rattle.std.proofs.Common.{◌≡◌, ℕ, zero, suc, ◌+◌, ◌-◌, ◌<◌, ◌≤◌, if◌then◌else◌, nat_lt, max, Bool, true, false, List, [], ◌∷◌, length, refl, ap, sym, subst, ◌∙◌, arith, le_refl, length-append}
use Rattle.std.proofs.lemmas.Bool.Decides.{nat_tests}
use Rattle.std.proofs.Math.ListN.{length-set}
use Rattle.lt_world.specs.declared.net.Event.{Event}
use Rattle.lt_world.specs.declared.net.Event.TheVariants.{Arrived, Readable, Writable, Idle, Over, NoMemory}
use Rattle.lt_world.specs.Answers.{event_tells, UsesEvent, IsFresh, IsNumbered}
use Rattle.lt_world.specs.Trace.{Entry, names}
use Rattle.lt_script.specs.declared.script.Name.{Name}
use Rattle.lt_script.specs.declared.script.Step.{Step}
use Rattle.lt_script.specs.declared.script.Step.TheVariants as step
use Rattle.script_net.specs.Sides.{Side, side_at, fresh_side}
use Rattle.script_net.specs.Steps.{link_of, is_due, skip, event_of, sides_after, taker_of, less, events_left, lowered, steps_from}
use Rattle.script_net.specs.Calls.{Game, Call, Next, Reads, Writes, Connects, Closes, Turns, answer_of, begin, after}
use Rattle.script_net.specs.Playing.{Playing, IsLater}

-- a step of which some events were played does what the step does

lowered_due : (played : ℕ) (first : Step) (sides : List Side) → is_due (lowered played first) sides ≡ is_due first sides
lowered_due played (step.Accept peer local) sides = refl
lowered_due played (step.Bytes name bytes) sides = refl
lowered_due played (step.Pour name size) sides = refl
lowered_due played (step.End name) sides = refl
lowered_due played (step.Ready name count) sides = refl
lowered_due played (step.ReadFail name) sides = refl
lowered_due played (step.WriteFail name) sides = refl
lowered_due played step.Idle sides = refl
lowered_due played (step.Take name size count) sides = refl

pub lowered_event : (played : ℕ) (first : Step) (links : ℕ) → event_of (lowered played first) links ≡ event_of first links
lowered_event played (step.Accept peer local) links = refl
lowered_event played (step.Bytes name bytes) links = refl
lowered_event played (step.Pour name size) links = refl
lowered_event played (step.End name) links = refl
lowered_event played (step.Ready name count) links = refl
lowered_event played (step.ReadFail name) links = refl
lowered_event played (step.WriteFail name) links = refl
lowered_event played step.Idle links = refl
lowered_event played (step.Take name size count) links = refl

pub lowered_sides : (played : ℕ) (first : Step) (sides : List Side) → sides_after (lowered played first) sides ≡ sides_after first sides
lowered_sides played (step.Accept peer local) sides = refl
lowered_sides played (step.Bytes name bytes) sides = refl
lowered_sides played (step.Pour name size) sides = refl
lowered_sides played (step.End name) sides = refl
lowered_sides played (step.Ready name count) sides = refl
lowered_sides played (step.ReadFail name) sides = refl
lowered_sides played (step.WriteFail name) sides = refl
lowered_sides played step.Idle sides = refl
lowered_sides played (step.Take name size count) sides = refl

pub lowered_taker : (played : ℕ) (first : Step) (links : ℕ) → taker_of (lowered played first) links ≡ taker_of first links
lowered_taker played (step.Accept peer local) links = refl
lowered_taker played (step.Bytes name bytes) links = refl
lowered_taker played (step.Pour name size) links = refl
lowered_taker played (step.End name) links = refl
lowered_taker played (step.Ready name count) links = refl
lowered_taker played (step.ReadFail name) links = refl
lowered_taker played (step.WriteFail name) links = refl
lowered_taker played step.Idle links = refl
lowered_taker played (step.Take name size count) links = refl

lowered_none : (first : Step) → lowered 0 first ≡ first
lowered_none (step.Accept peer local) = refl
lowered_none (step.Bytes name bytes) = refl
lowered_none (step.Pour name size) = refl
lowered_none (step.End name) = refl
lowered_none (step.Ready name count) = let e : count - 0 ≡ count = omega arith in rw e refl
lowered_none (step.ReadFail name) = refl
lowered_none (step.WriteFail name) = refl
lowered_none step.Idle = refl
lowered_none (step.Take name size count) = let e : count - 0 ≡ count = omega arith in rw e refl

pub rest_none : (steps : List Step) → steps_from 0 steps ≡ steps
rest_none [] = refl
rest_none (first ∷ steps) = ap (λ (s : Step). s ∷ steps) (lowered_none first)

skip_by : (t : Bool) (played : ℕ) (first : Step) (steps : List Step) (sides : List Side) → is_due first sides ≡ t
    → skip sides (steps_from played (first ∷ steps)) ≡ (if t then lowered played first ∷ steps else skip sides steps)
skip_by true played first steps sides due = rw (lowered_due played first sides, due) refl
skip_by false played first steps sides due = rw (lowered_due played first sides, due) refl

-- the next step that is due is the one that was begun
pub skip_here : (played : ℕ) (steps : List Step) (sides : List Side) → skip sides steps ≡ steps → skip sides (steps_from played steps) ≡ steps_from played steps
skip_here played [] sides same = refl
skip_here played (first ∷ steps) sides same = here (is_due first sides) refl same
  where
    longer : (sides : List Side) (steps : List Step) → length (skip sides steps) ≤ length steps
    longer sides [] = le_refl 0
    longer sides (first ∷ steps) = grind (arith, longer sides steps)

    here : (t : Bool) → is_due first sides ≡ t → (if t then first ∷ steps else skip sides steps) ≡ first ∷ steps → skip sides (steps_from played (first ∷ steps)) ≡ steps_from played (first ∷ steps)
    here true due same = skip_by true played first steps sides due
    here false due same = absurd (omega (arith, ap length same, longer sides steps))

-- the next step that is due is a later one
pub skip_later : (played : ℕ) (steps rest : List Step) (sides : List Side) → skip sides steps ≡ rest → length rest < length steps → skip sides (steps_from played steps) ≡ steps_from 0 rest
skip_later played [] rest sides same shorter = absurd (omega arith)
skip_later played (first ∷ steps) rest sides same shorter = there (is_due first sides) refl same
  where
    there : (t : Bool) → is_due first sides ≡ t → (if t then first ∷ steps else skip sides steps) ≡ rest → skip sides (steps_from played (first ∷ steps)) ≡ steps_from 0 rest
    there true due same = absurd (omega (arith, ap length same))
    there false due same = skip_by false played first steps sides due ∙ same ∙ sym (rest_none rest)

-- what holds of the answer that is due, and of want of memory, holds of each answer

turned : (P : Event → Game → Game → Type 0) (event : Event) (old new : Game) → ((old : Game) → P NoMemory old old) → ((old : Game) → P (answer_of (skip old.sides old.left) old.sides) old (after Next old)) → Turns event old new → P event old new
turned P NoMemory old new none some turns = subst (λ (g : Game). P NoMemory old g) (sym turns) (none old)
turned P (Arrived link peer local) old new none some turns = subst (λ (g : Game). P (Arrived link peer local) old g) (sym turns.1) (subst (λ (e : Event). P e old (after Next old)) (sym turns.0) (some old))
turned P (Readable link) old new none some turns = subst (λ (g : Game). P (Readable link) old g) (sym turns.1) (subst (λ (e : Event). P e old (after Next old)) (sym turns.0) (some old))
turned P (Writable link) old new none some turns = subst (λ (g : Game). P (Writable link) old g) (sym turns.1) (subst (λ (e : Event). P e old (after Next old)) (sym turns.0) (some old))
turned P Idle old new none some turns = subst (λ (g : Game). P Idle old g) (sym turns.1) (subst (λ (e : Event). P e old (after Next old)) (sym turns.0) (some old))
turned P Over old new none some turns = subst (λ (g : Game). P Over old g) (sym turns.1) (subst (λ (e : Event). P e old (after Next old)) (sym turns.0) (some old))

-- the trace gains the event

begin_tells : (steps : List Step) (game : Game) → (begin steps game).trace ≡ event_tells (answer_of steps game.sides) game.trace
begin_tells [] game = refl
begin_tells (first ∷ rest) game = refl

pub turned_trace : (event : Event) (old new : Game) → Turns event old new → new.trace ≡ event_tells event old.trace
turned_trace event old new turns = turned (λ e a b. b.trace ≡ event_tells e a.trace) event old new (λ a. refl) (λ a. begin_tells (skip a.sides a.left) a) turns

-- an event less is left

pub skip_left : (sides : List Side) (steps : List Step) → events_left (skip sides steps) ≤ events_left steps
skip_left sides [] = le_refl 0
skip_left sides (first ∷ steps) = grind (arith, skip_left sides steps)

lowers : (name : Name) (size count : ℕ) (rest : List Step) → events_left (if nat_lt 1 count then step.Take name size (count - 1) ∷ rest else rest) < max count 1 + events_left rest
lowers name size count rest = grind (arith, nat_tests)

lowers_ready : (name : Name) (count : ℕ) (rest : List Step) → events_left (if nat_lt 1 count then step.Ready name (count - 1) ∷ rest else rest) < max count 1 + events_left rest
lowers_ready name count rest = grind (arith, nat_tests)

step_uses : (first : Step) (rest : List Step) (links : ℕ) → UsesEvent (event_of first links) (events_left (first ∷ rest)) (events_left (less first rest))
step_uses (step.Accept peer local) rest links = omega arith
step_uses (step.Bytes name bytes) rest links = omega arith
step_uses (step.Pour name size) rest links = omega arith
step_uses (step.End name) rest links = omega arith
step_uses (step.Ready name count) rest links = lowers_ready name count rest
step_uses (step.ReadFail name) rest links = omega arith
step_uses (step.WriteFail name) rest links = omega arith
step_uses step.Idle rest links = omega arith
step_uses (step.Take name size count) rest links = lowers name size count rest

-- an event takes nothing back
pub step_less : (first : Step) (rest : List Step) → events_left (less first rest) ≤ events_left (first ∷ rest)
step_less (step.Accept peer local) rest = omega arith
step_less (step.Bytes name bytes) rest = omega arith
step_less (step.Pour name size) rest = omega arith
step_less (step.End name) rest = omega arith
step_less (step.Ready name count) rest = omega (arith, lowers_ready name count rest)
step_less (step.ReadFail name) rest = omega arith
step_less (step.WriteFail name) rest = omega arith
step_less step.Idle rest = omega arith
step_less (step.Take name size count) rest = omega (arith, lowers name size count rest)

uses_more : (first : Step) (links few many now : ℕ) → few ≤ many → UsesEvent (event_of first links) few now → UsesEvent (event_of first links) many now
uses_more (step.Accept peer local) links few many now more uses = omega arith
uses_more (step.Bytes name bytes) links few many now more uses = omega arith
uses_more (step.Pour name size) links few many now more uses = omega arith
uses_more (step.End name) links few many now more uses = omega arith
uses_more (step.Ready name count) links few many now more uses = omega arith
uses_more (step.ReadFail name) links few many now more uses = omega arith
uses_more (step.WriteFail name) links few many now more uses = omega arith
uses_more step.Idle links few many now more uses = omega arith
uses_more (step.Take name size count) links few many now more uses = omega arith

begin_uses : (steps : List Step) (game : Game) (many : ℕ) → events_left steps ≤ many → UsesEvent (answer_of steps game.sides) many (events_left (begin steps game).left)
begin_uses [] game many more = refl
begin_uses (first ∷ rest) game many more = uses_more first (length game.sides) _ _ _ more (step_uses first rest (length game.sides))

pub turned_left : (event : Event) (old new : Game) → Turns event old new → UsesEvent event (events_left old.left) (events_left new.left)
turned_left event old new turns =
    turned (λ e a b. UsesEvent e (events_left a.left) (events_left b.left)) event old new (λ a. refl)
    (λ a. begin_uses (skip a.sides a.left) a (events_left a.left) (skip_left a.sides a.left)) turns

-- links are numbered upwards

abbrev FirstIsDue : List Side → List Step → Type 0
FirstIsDue sides [] = Unit {0}
FirstIsDue sides (first ∷ rest) = is_due first sides ≡ true

skip_by_due : (t : Bool) (sides : List Side) (first : Step) (steps : List Step) → is_due first sides ≡ t → FirstIsDue sides (skip sides steps) → FirstIsDue sides (if t then first ∷ steps else skip sides steps)
skip_by_due true sides first steps due rest = due
skip_by_due false sides first steps due rest = rest

skip_due : (sides : List Side) (steps : List Step) → FirstIsDue sides (skip sides steps)
skip_due sides [] = tt
skip_due sides (first ∷ steps) = skip_by_due (is_due first sides) sides first steps refl (skip_due sides steps)

pub open_known : (sides : List Side) (link : ℕ) → (side_at link sides).is_open ≡ true → link < length sides
open_known [] link is = absurd (cc is)
open_known (side ∷ sides) zero is = omega arith
open_known (side ∷ sides) (suc link) is = omega (arith, open_known sides link is)

step_numbered : (first : Step) (sides : List Side) → is_due first sides ≡ true → IsNumbered (event_of first (length sides)) (length sides) (length (sides_after first sides))
step_numbered (step.Accept peer local) sides due = (le_refl (length sides), omega (arith, length-append sides (fresh_side ∷ [])))
step_numbered (step.Bytes name bytes) sides due = (open_known sides (link_of name (length sides)) due, length-set sides (link_of name (length sides)) _)
step_numbered (step.Pour name size) sides due = (open_known sides (link_of name (length sides)) due, length-set sides (link_of name (length sides)) _)
step_numbered (step.End name) sides due = (open_known sides (link_of name (length sides)) due, length-set sides (link_of name (length sides)) _)
step_numbered (step.Ready name count) sides due = (open_known sides (link_of name (length sides)) due, refl)
step_numbered (step.ReadFail name) sides due = (open_known sides (link_of name (length sides)) due, length-set sides (link_of name (length sides)) _)
step_numbered (step.WriteFail name) sides due = (open_known sides (link_of name (length sides)) due, length-set sides (link_of name (length sides)) _)
step_numbered step.Idle sides due = refl
step_numbered (step.Take name size count) sides due = (open_known sides (link_of name (length sides)) due, refl)

begin_numbered : (steps : List Step) (game : Game) → FirstIsDue game.sides steps → IsNumbered (answer_of steps game.sides) (length game.sides) (length (begin steps game).sides)
begin_numbered [] game due = refl
begin_numbered (first ∷ rest) game due = step_numbered first game.sides due

pub turned_links : (event : Event) (old new : Game) → Turns event old new → IsNumbered event (length old.sides) (length new.sides)
turned_links event old new turns =
    turned (λ e a b. IsNumbered e (length a.sides) (length b.sides)) event old new (λ a. refl) (λ a. begin_numbered (skip a.sides a.left) a (skip_due a.sides a.left)) turns

-- a link that arrives was not named

step_fresh : (first : Step) (links : ℕ) (trace : List Entry) → names links trace ≡ false → IsFresh (event_of first links) trace
step_fresh (step.Accept peer local) links trace fresh = fresh
step_fresh (step.Bytes name bytes) links trace fresh = tt
step_fresh (step.Pour name size) links trace fresh = tt
step_fresh (step.End name) links trace fresh = tt
step_fresh (step.Ready name count) links trace fresh = tt
step_fresh (step.ReadFail name) links trace fresh = tt
step_fresh (step.WriteFail name) links trace fresh = tt
step_fresh step.Idle links trace fresh = tt
step_fresh (step.Take name size count) links trace fresh = tt

begin_fresh : (steps : List Step) (game : Game) → names (length game.sides) game.trace ≡ false → IsFresh (answer_of steps game.sides) game.trace
begin_fresh [] game fresh = tt
begin_fresh (first ∷ rest) game fresh = step_fresh first (length game.sides) game.trace fresh

pub turned_fresh : (event : Event) (old new : Game) → Turns event old new → names (length old.sides) old.trace ≡ false → IsFresh event old.trace
turned_fresh event old new turns =
    turned (λ e a b. names (length a.sides) a.trace ≡ false → IsFresh e a.trace) event old new (λ a h. tt) (λ a h. begin_fresh (skip a.sides a.left) a h) turns

-- each call leaves no more events

begin_left : (steps : List Step) (game : Game) → events_left (begin steps game).left ≤ events_left steps
begin_left [] game = le_refl 0
begin_left (first ∷ rest) game = step_less first rest

pub after_left : (call : Call) (game : Game) → events_left (after call game).left ≤ events_left game.left
after_left Next game = omega (arith, begin_left (skip game.sides game.left) game, skip_left game.sides game.left)
after_left (Reads link size) game = le_refl (events_left game.left)
after_left (Writes link bytes) game = le_refl (events_left game.left)
after_left (Connects owner to) game = le_refl (events_left game.left)
after_left (Closes link ending) game = le_refl (events_left game.left)

-- what some call makes of a net is later
pub by_call : (call : Call) (a b : Playing) → b.script ≡ a.script → b.game ≡ after call a.game → b.waited ≡ a.waited → a.faults ≤ b.faults → IsLater a b
by_call call a b same made waited more = record {
  same = same;
  calls = call ∷ [];
  plays = made;
  waited = waited;
  faults = more;
  left = omega (arith, ap (λ (g : Game). events_left g.left) made, after_left call a.game);
}

-- and so is what an answer of `next` makes of it
pub turned_later : (event : Event) (a b : Playing) → b.script ≡ a.script → Turns event a.game b.game → b.waited ≡ a.waited → b.faults ≡ a.faults → IsLater a b
turned_later NoMemory a b same turns waited kept = record { same = same; calls = []; plays = turns; waited = waited; faults = omega (arith, kept); left = omega (arith, ap (λ (g : Game). events_left g.left) turns) }
turned_later (Arrived link peer local) a b same turns waited kept = by_call Next a b same turns.1 waited (omega (arith, kept))
turned_later (Readable link) a b same turns waited kept = by_call Next a b same turns.1 waited (omega (arith, kept))
turned_later (Writable link) a b same turns waited kept = by_call Next a b same turns.1 waited (omega (arith, kept))
turned_later Idle a b same turns waited kept = by_call Next a b same turns.1 waited (omega (arith, kept))
turned_later Over a b same turns waited kept = by_call Next a b same turns.1 waited (omega (arith, kept))

-- Whole runs of a script.
use Rattle.std.proofs.Common.{◌≡◌, ℕ, zero, suc, ◌+◌, ◌-◌, ◌<◌, ◌≤◌, min, Bool, true, false, List, [], ◌∷◌, ◌++◌, length, take, drop, refl, ap, sym, subst, ◌∙◌, arith, le_refl, append_assoc, append-nil, take-append-drop, length-append, length-drop, None, if◌then◌else◌, ◌==◌, nat_lt}
use Rattle.std.proofs.lemmas.Bool.Decides.{nat_tests}
use Rattle.std.proofs.lemmas.List.{get_or-set_same, get_or-set_other, get_or_past, set_past, take-append-le, take_min}
use Rattle.lt_world.specs.Trace.{Act, Entry, Accepted, Readable, Writable, Failed, Reading, Connect, Close, Extends, own}
use Rattle.lt_script.specs.declared.script.Step.{Step}
use Rattle.lt_script.specs.declared.script.Step.TheVariants as step
use Rattle.script_net.specs.Letters.{letters}
use Rattle.script_net.specs.Sides.{Side, side_at, no_side, fresh_side, unread, some_read, gives, with_read, with_bytes, with_end, with_failing_reads, with_failing_writes, with_close}
use Rattle.script_net.specs.Steps.{allowed, change, skip, events_left, link_of}
use Rattle.lt_world.specs.Acts.{input_of}
use Rattle.script_net.specs.Calls.{Game, Call, Next, Reads, Writes, Connects, Closes, start, after, begin, tell, takes, some_taken}
use Rattle.script_net.specs.Plays.{played}
use Rattle.script_net.specs.Laws.{LaterPlays, LaterGrows, GivenIsRead, NoneLeft}
use Rattle.script_net.proofs.Turning.{after_left}

pub plays_later : LaterPlays
plays_later a b new later =
    let same : b.game ≡ played later.calls (start b.script) =
    later.plays ∙ ap (λ (g : Game). played later.calls g) (new ∙ ap start (sym later.same)) in
    record { calls = later.calls; told = ap (λ (g : Game). g.trace) (sym same); rest = ap (λ (g : Game). g.left) (sym same) }

pub none_left : NoneLeft
none_left [] none = refl
none_left (first ∷ steps) none = absurd (omega arith)

-- each call tells more, and leaves no more events

extends_more : (a b c : List Entry) → Extends a b → Extends b c → Extends a c
extends_more a b c ab bc = (bc.0 ++ ab.0, bc.1 ∙ ap (λ t. bc.0 ++ t) ab.1 ∙ sym (append_assoc bc.0 ab.0 a))

begin_extends : (steps : List Step) (game : Game) → Extends game.trace (begin steps game).trace
begin_extends [] game = ([], refl)
begin_extends (step.Accept peer local ∷ rest) game = (_ ∷ [], refl)
begin_extends (step.Bytes name bytes ∷ rest) game = (_ ∷ [], refl)
begin_extends (step.Pour name size ∷ rest) game = (_ ∷ [], refl)
begin_extends (step.End name ∷ rest) game = (_ ∷ [], refl)
begin_extends (step.Ready name count ∷ rest) game = (_ ∷ [], refl)
begin_extends (step.ReadFail name ∷ rest) game = (_ ∷ [], refl)
begin_extends (step.WriteFail name ∷ rest) game = (_ ∷ [], refl)
begin_extends (step.Idle ∷ rest) game = ([], refl)
begin_extends (step.Take name size count ∷ rest) game = (_ ∷ [], refl)

after_extends : (call : Call) (game : Game) → Extends game.trace (after call game).trace
after_extends Next game = begin_extends (skip game.sides game.left) game
after_extends (Reads link size) game = (_ ∷ [], refl)
after_extends (Writes link bytes) game = (_ ∷ [], refl)
after_extends (Connects owner to) game = (_ ∷ [], refl)
after_extends (Closes link ending) game = (_ ∷ [], refl)

played_grows : (calls : List Call) (game : Game) → Extends game.trace (played calls game).trace × (events_left (played calls game).left ≤ events_left game.left)
played_grows [] game = (([], refl), le_refl (events_left game.left))
played_grows (call ∷ calls) game =
    let before = played_grows calls game in
    (extends_more game.trace (played calls game).trace (played (call ∷ calls) game).trace before.0 (after_extends call (played calls game)), omega (arith, before.1, after_left call (played calls game)))

pub later_grows : LaterGrows
later_grows a b later =
    subst (λ (g : Game). Extends a.game.trace g.trace × (events_left g.left ≤ events_left a.game.left)) (sym later.plays) (played_grows later.calls a.game)

-- what was read is the front of what was given

record FrontRead (side : Side) (acts : List Act) : Type 0 where
  read : input_of acts ≡ take side.seen side.given
  within : side.seen ≤ length side.given

abbrev AllRead : Game → Type 0
AllRead game = (link : ℕ) → FrontRead (side_at link game.sides) (own link game.trace)

-- an act that brings no bytes
told_by : (t : Bool) (side : Side) (act : Act) (acts : List Act) → input_of (act ∷ acts) ≡ input_of acts → FrontRead side acts → FrontRead side (if t then act ∷ acts else acts)
told_by true side act acts none front = record { read = none ∙ front.read; within = front.within }
told_by false side act acts none front = front

tell_read : (game : Game) (link : ℕ) (act : Act) → ((acts : List Act) → input_of (act ∷ acts) ≡ input_of acts) → AllRead game → AllRead (tell link act game)
tell_read game link act none all = λ other. told_by (link == other) (side_at other game.sides) act (own other game.trace) (none (own other game.trace)) (all other)

-- a change that gives, but reads nothing
change_by : (t : Bool) (sides : List Side) (link other : ℕ) (f : Side → Side) (acts : List Act) → (other == link) ≡ t
    → ((side : Side) → FrontRead side acts → FrontRead (f side) acts) → FrontRead (side_at other sides) acts → FrontRead (side_at other (change link f sides)) acts
change_by true sides link other f acts test keeps front = here (nat_lt link (length sides)) refl
  where
    same : other ≡ link
    same = grind (arith, nat_tests, test)

    here : (u : Bool) → nat_lt link (length sides) ≡ u → FrontRead (side_at other (change link f sides)) acts
    here true below =
        let inside : link < length sides = grind (arith, nat_tests, below) in
        subst (λ (k : ℕ). FrontRead (side_at k (change link f sides)) acts) (sym same)
        (subst (λ (s : Side). FrontRead s acts) (sym (get_or-set_same sides link (f (side_at link sides)) no_side inside)) (keeps (side_at link sides) (subst (λ (k : ℕ). FrontRead (side_at k sides) acts) same front)))
    here false below =
        let outside : change link f sides ≡ sides = set_past sides link (f (side_at link sides)) (grind (arith, nat_tests, below)) in
        subst (λ (ss : List Side). FrontRead (side_at other ss) acts) (sym outside) front
change_by false sides link other f acts test keeps front =
    subst (λ (s : Side). FrontRead s acts) (sym (get_or-set_other sides link other (f (side_at link sides)) no_side (grind (arith, nat_tests, test)))) front

change_read : (game : Game) (link : ℕ) (f : Side → Side) → ((side : Side) (acts : List Act) → FrontRead side acts → FrontRead (f side) acts) → AllRead game → AllRead (record game { sides = change link f game.sides })
change_read game link f keeps all = λ other. change_by (other == link) game.sides link other f (own other game.trace) refl (λ side front. keeps side (own other game.trace) front) (all other)

given_more : (bytes : List ℕ) (side : Side) (acts : List Act) → FrontRead side acts → FrontRead (with_bytes bytes side) acts
given_more bytes side acts front = record {
  read = front.read ∙ sym (take-append-le side.seen side.given bytes front.within);
  within = omega (arith, front.within, length-append side.given bytes);
}

same_bytes : (f : Side → Side) → ((side : Side) → (f side).given ≡ side.given) → ((side : Side) → (f side).seen ≡ side.seen) → (side : Side) (acts : List Act) → FrontRead side acts → FrontRead (f side) acts
same_bytes f given seen side acts front = record {
  read = front.read ∙ ap (λ n. take n side.given) (sym (seen side)) ∙ ap (take (f side).seen) (sym (given side));
  within = omega (arith, front.within, seen side, ap length (given side));
}

-- a link that arrives has nothing to read
arrived : (sides : List Side) (link : ℕ) (acts : List Act) → FrontRead (side_at link sides) acts → FrontRead (side_at link (sides ++ fresh_side ∷ [])) acts
arrived [] zero acts front = record { read = front.read; within = front.within }
arrived [] (suc link) acts front = record { read = front.read; within = front.within }
arrived (side ∷ sides) zero acts front = record { read = front.read; within = front.within }
arrived (side ∷ sides) (suc link) acts front = arrived sides link acts front

begin_read : (steps : List Step) (game : Game) → AllRead game → AllRead (begin steps game)
begin_read [] game all = all
begin_read (step.Accept peer local ∷ rest) game all = λ other. told_by (length game.sides == other) _ (Accepted peer local) (own other game.trace) refl (arrived game.sides other (own other game.trace) (all other))
begin_read (step.Bytes name bytes ∷ rest) game all =
    let link = link_of name (length game.sides) in
    λ other. told_by (link == other) _ Readable (own other game.trace) refl (change_read game link (with_bytes bytes) (given_more bytes) all other)
begin_read (step.Pour name size ∷ rest) game all =
    let link = link_of name (length game.sides) in
    λ other. told_by (link == other) _ Readable (own other game.trace) refl (change_read game link (with_bytes (letters size)) (given_more (letters size)) all other)
begin_read (step.End name ∷ rest) game all =
    let link = link_of name (length game.sides) in
    λ other. told_by (link == other) _ Readable (own other game.trace) refl (change_read game link with_end (same_bytes with_end (λ s. refl) (λ s. refl)) all other)
begin_read (step.Ready name count ∷ rest) game all =
    λ other. told_by (link_of name (length game.sides) == other) _ Readable (own other game.trace) refl (all other)
begin_read (step.ReadFail name ∷ rest) game all =
    let link = link_of name (length game.sides) in
    λ other. told_by (link == other) _ Readable (own other game.trace) refl (change_read game link with_failing_reads (same_bytes with_failing_reads (λ s. refl) (λ s. refl)) all other)
begin_read (step.WriteFail name ∷ rest) game all =
    let link = link_of name (length game.sides) in
    λ other. told_by (link == other) _ Writable (own other game.trace) refl (change_read game link with_failing_writes (same_bytes with_failing_writes (λ s. refl) (λ s. refl)) all other)
begin_read (step.Idle ∷ rest) game all = all
begin_read (step.Take name size count ∷ rest) game all =
    λ other. told_by (link_of name (length game.sides) == other) _ Writable (own other game.trace) refl (all other)

-- a read

take_add : (n m : ℕ) (bytes : List ℕ) → take n bytes ++ take m (drop n bytes) ≡ take (n + m) bytes
take_add zero m bytes = let e : zero + m ≡ m = omega arith in rw e refl
take_add (suc n) m [] = take_none m ∙ sym (take_none (suc n + m))
  where
    take_none : (k : ℕ) → take k (let none : List ℕ = [] in none) ≡ []
    take_none zero = refl
    take_none (suc k) = refl
take_add (suc n) m (byte ∷ bytes) = let e : suc n + m ≡ suc (n + m) = omega arith in rw e (ap (λ t. byte ∷ t) (take_add n m bytes))

given_input : (size : ℕ) (bytes : List ℕ) (ended : Bool) (acts : List Act) → input_of (some_read size bytes ended ∷ acts) ≡ input_of acts ++ bytes
given_input size [] true acts = sym (append-nil (input_of acts))
given_input size [] false acts = sym (append-nil (input_of acts))
given_input size (byte ∷ bytes) ended acts = refl

read_front : (size : ℕ) (side : Side) (acts : List Act) → FrontRead side acts → FrontRead (with_read size side) (gives size side ∷ acts)
read_front size side acts front = by side.reads_fail
  where
    count : ℕ
    count = min size (length side.given - side.seen)

    rest : List ℕ
    rest = unread side

    by : (fails : Bool) → FrontRead (record side { seen = if fails then side.seen else side.seen + count }) ((if fails then Failed Reading else some_read size (take size rest) side.ended) ∷ acts)
    by true = record { read = front.read; within = front.within }
    by false =
        let left : length rest ≡ length side.given - side.seen = length-drop side.seen side.given in
        record {
          read = given_input size (take size rest) side.ended acts ∙ ap (λ t. t ++ take size rest) front.read
              ∙ ap (λ t. take side.seen side.given ++ t) (sym (take_min size rest) ∙ ap (λ n. take (min size n) rest) left) ∙ take_add side.seen count side.given;
          within = omega (arith, front.within);
        }

nothing_read : (side : Side) (acts : List Act) → side.given ≡ [] → FrontRead side acts → FrontRead no_side acts
nothing_read side acts none front =
    let seen : side.seen ≡ 0 = omega (arith, front.within, ap length none) in
    record { read = front.read ∙ ap (λ n. take n side.given) seen; within = le_refl 0 }

reads_by : (t : Bool) (game : Game) (link other size : ℕ) → (link == other) ≡ t → AllRead game
    → FrontRead (side_at other (change link (with_read size) game.sides)) (if t then gives size (side_at link game.sides) ∷ own other game.trace else own other game.trace)
reads_by true game link other size test all = subst (λ (k : ℕ). FrontRead (side_at k (change link (with_read size) game.sides)) (gives size (side_at link game.sides) ∷ own k game.trace)) same (here (nat_lt link (length game.sides)) refl)
  where
    same : link ≡ other
    same = grind (arith, nat_tests, test)

    here : (u : Bool) → nat_lt link (length game.sides) ≡ u → FrontRead (side_at link (change link (with_read size) game.sides)) (gives size (side_at link game.sides) ∷ own link game.trace)
    here true below =
        let inside : link < length game.sides = grind (arith, nat_tests, below) in
        subst (λ (s : Side). FrontRead s (gives size (side_at link game.sides) ∷ own link game.trace)) (sym (get_or-set_same game.sides link (with_read size (side_at link game.sides)) no_side inside))
        (read_front size (side_at link game.sides) (own link game.trace) (all link))
    here false below =
        let beyond : length game.sides ≤ link = grind (arith, nat_tests, below) in
        let outside : change link (with_read size) game.sides ≡ game.sides = set_past game.sides link (with_read size (side_at link game.sides)) beyond in
        let none : side_at link game.sides ≡ no_side = get_or_past game.sides link no_side beyond in
        subst (λ (s : Side). FrontRead s (gives size (side_at link game.sides) ∷ own link game.trace)) (sym (ap (side_at link) outside ∙ none))
        (nothing_read (with_read size (side_at link game.sides)) _ (ap (λ (s : Side). s.given) none) (read_front size (side_at link game.sides) (own link game.trace) (all link)))
reads_by false game link other size test all =
    let apart : (other == link) ≡ false = grind (arith, nat_tests, test) in
    subst (λ (s : Side). FrontRead s (own other game.trace)) (sym (get_or-set_other game.sides link other (with_read size (side_at link game.sides)) no_side (grind (arith, nat_tests, apart)))) (all other)

-- a write brings nothing
taken_input : (n : ℕ) (bytes : List ℕ) (acts : List Act) → input_of (some_taken n bytes ∷ acts) ≡ input_of acts
taken_input zero bytes acts = refl
taken_input (suc n) bytes acts = refl

takes_input : (fails : Bool) (most : ℕ) (bytes : List ℕ) (acts : List Act) → input_of (takes fails most bytes ∷ acts) ≡ input_of acts
takes_input true most bytes acts = refl
takes_input false most bytes acts = taken_input (min most (length bytes)) bytes acts

after_read : (call : Call) (game : Game) → AllRead game → AllRead (after call game)
after_read Next game all = begin_read (skip game.sides game.left) game all
after_read (Reads link size) game all = λ other. reads_by (link == other) game link other size refl all
after_read (Writes link bytes) game all =
    let fails = (side_at link game.sides).writes_fail in
    tell_read game link (takes fails (allowed game.taker link) bytes) (λ acts. takes_input fails (allowed game.taker link) bytes acts) all
after_read (Connects owner to) game all = tell_read game owner.conn (Connect owner to None) (λ acts. refl) all
after_read (Closes link ending) game all =
    tell_read (record game { sides = change link with_close game.sides }) link (Close ending) (λ acts. refl) (change_read game link with_close (same_bytes with_close (λ s. refl) (λ s. refl)) all)

played_read : (calls : List Call) (steps : List Step) → AllRead (played calls (start steps))
played_read [] steps = λ link. record { read = refl; within = le_refl 0 }
played_read (call ∷ calls) steps = after_read call (played calls (start steps)) (played_read calls steps)

pub given_is_read : GivenIsRead
given_is_read steps calls link =
    let front = played_read calls steps link in
    let side = side_at link (played calls (start steps)).sides in
    ap (λ t. t ++ unread side) front.read ∙ take-append-drop side.seen side.given

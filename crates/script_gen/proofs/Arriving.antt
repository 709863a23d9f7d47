-- As many clients arrive by a script that is played to its end as it lets arrive.
use Rattle.std.proofs.Common.{◌≡◌, ℕ, zero, suc, ◌+◌, ◌<◌, ◌≤◌, min, Bool, true, false, cond, List, [], ◌∷◌, ◌++◌, length, flat_map, refl, ap, sym, subst, ◌∙◌, arith, length-append, le_refl, if◌then◌else◌, ◌==◌, nat_lt}
use Rattle.std.specs.List.{range_with_len, count_by}
use Rattle.std.proofs.lemmas.Bool.Decides.{nat_tests}
use Rattle.std.proofs.lemmas.List.Sums.{sum_by-cons}
use Rattle.std.proofs.Math.ListN.{length-set}
use Rattle.lt_world.specs.declared.net.Address.{Address}
use Rattle.lt_world.specs.Trace.{Act, Entry, Accepted, Readable, Writable, Failed, Reading, Writing, Connect, Close, own, said, link_bound}
use Rattle.lt_script.specs.declared.script.Step.{Step}
use Rattle.lt_script.specs.declared.script.Step.TheVariants as step
use Rattle.script_net.specs.Arrivals.{has_arrived}
use Rattle.script_net.specs.Letters.{letters}
use Rattle.script_net.specs.Sides.{Side, side_at, fresh_side, some_read, gives, with_read, with_bytes, with_end, with_failing_reads, with_failing_writes, with_close, unread}
use Rattle.script_net.specs.Steps.{allowed, change, skip, less, link_of, is_open_at}
use Rattle.script_net.specs.Calls.{Game, Call, Next, Reads, Writes, Connects, Closes, start, after, begin, some_taken, takes}
use Rattle.script_net.specs.Plays.{Plays, played}
use Rattle.script_net.proofs.Noting.{unarrived}
use Rattle.script_gen.specs.Draws.{drawn}
use Rattle.script_gen.specs.Generated.{client, clients_below, generated}
use Rattle.script_gen.specs.Totals.{arrived_below}
use Rattle.script_gen.specs.Laws.{EveryClientArrives}

-- how many clients steps let arrive
accepts : List Step → ℕ
accepts [] = 0
accepts (step.Accept peer local ∷ rest) = accepts rest + 1
accepts (other ∷ rest) = accepts rest

-- the links that are there arrived, and with those that are still to come they are so many
record HaveCome (total : ℕ) (game : Game) : Type 0 where
  each : (link : ℕ) → has_arrived (own link game.trace) ≡ nat_lt link (length game.sides)
  all : accepts game.left + length game.sides ≡ total

-- ---- what a step leaves of those that are to come

skipped : (t : Bool) (first : Step) (sides : List Side) (rest : List Step) → accepts (first ∷ rest) ≡ accepts rest → accepts (skip sides rest) ≡ accepts rest → accepts (if t then first ∷ rest else skip sides rest) ≡ accepts (first ∷ rest)
unfolding accepts
skipped true first sides rest none before = refl
skipped false first sides rest none before = before ∙ sym none

skip_accepts : (sides : List Side) (steps : List Step) → accepts (skip sides steps) ≡ accepts steps
unfolding accepts
skip_accepts sides [] = refl
skip_accepts sides (step.Accept peer local ∷ rest) = refl
skip_accepts sides (step.Bytes name bytes ∷ rest) = skipped (is_open_at name sides) (step.Bytes name bytes) sides rest refl (skip_accepts sides rest)
skip_accepts sides (step.Pour name size ∷ rest) = skipped (is_open_at name sides) (step.Pour name size) sides rest refl (skip_accepts sides rest)
skip_accepts sides (step.End name ∷ rest) = skipped (is_open_at name sides) (step.End name) sides rest refl (skip_accepts sides rest)
skip_accepts sides (step.Ready name count ∷ rest) = skipped (is_open_at name sides) (step.Ready name count) sides rest refl (skip_accepts sides rest)
skip_accepts sides (step.ReadFail name ∷ rest) = skipped (is_open_at name sides) (step.ReadFail name) sides rest refl (skip_accepts sides rest)
skip_accepts sides (step.Take name size count ∷ rest) = skipped (is_open_at name sides) (step.Take name size count) sides rest refl (skip_accepts sides rest)
skip_accepts sides (step.WriteFail name ∷ rest) = skipped (is_open_at name sides) (step.WriteFail name) sides rest refl (skip_accepts sides rest)
skip_accepts sides (step.Idle ∷ rest) = refl

less_by : (t : Bool) (first : Step) (rest : List Step) → accepts (first ∷ rest) ≡ accepts rest → accepts (if t then first ∷ rest else rest) ≡ accepts rest
less_by true first rest none = none
less_by false first rest none = refl

-- ---- one act more

-- an act that is no arrival
still : (t : Bool) (act : Act) (acts : List Act) → has_arrived (act ∷ acts) ≡ has_arrived acts → has_arrived (if t then act ∷ acts else acts) ≡ has_arrived acts
still true act acts none = none
still false act acts none = refl

told : (total link : ℕ) (act : Act) (game now : Game) → now.trace ≡ said link (act ∷ []) game.trace → ((acts : List Act) → has_arrived (act ∷ acts) ≡ has_arrived acts)
    → length now.sides ≡ length game.sides → accepts now.left ≡ accepts game.left → HaveCome total game → HaveCome total now
told total link act game now trace none sides left come = record {
  each = λ other. ap (λ (t : List Entry). has_arrived (own other t)) trace ∙ still (link == other) act (own other game.trace) (none (own other game.trace)) ∙ come.each other ∙ ap (nat_lt other) (sym sides);
  all = omega (arith, come.all, sides, left);
}

-- the next link is the one that arrives
one_past : (u : Bool) (n link : ℕ) → nat_lt link n ≡ u → (n == link) ≡ false → u ≡ nat_lt link (n + 1)
one_past true n link test other = sym (grind (arith, nat_tests, test))
one_past false n link test other = sym (grind (arith, nat_tests, test, other))

arrives_by : (t : Bool) (n link : ℕ) (peer local : Address) (acts : List Act) → (n == link) ≡ t → has_arrived acts ≡ nat_lt link n → has_arrived (if t then Accepted peer local ∷ acts else acts) ≡ nat_lt link (n + 1)
arrives_by true n link peer local acts test before = sym (grind (arith, nat_tests, test))
arrives_by false n link peer local acts test before = before ∙ one_past (nat_lt link n) n link refl test

arrives : (total : ℕ) (peer local : Address) (rest : List Step) (game : Game) → HaveCome total (record game { left = step.Accept peer local ∷ rest }) → HaveCome total (begin (step.Accept peer local ∷ rest) game)
unfolding accepts
arrives total peer local rest game come =
    let len : length (game.sides ++ fresh_side ∷ []) ≡ length game.sides + 1 = length-append game.sides (fresh_side ∷ []) in
    record {
      each = λ link. arrives_by (length game.sides == link) (length game.sides) link peer local (own link game.trace) refl (come.each link) ∙ ap (nat_lt link) (sym len);
      all = omega (arith, come.all, len);
    }

-- ---- a call more

changed : (link : ℕ) (f : Side → Side) (sides : List Side) → length (change link f sides) ≡ length sides
changed link f sides = length-set {A = Side} sides link (f (side_at link sides))

begin_come : (total : ℕ) (steps : List Step) (game : Game) → HaveCome total (record game { left = steps }) → HaveCome total (begin steps game)
unfolding accepts
begin_come total [] game come = record { each = come.each; all = come.all }
begin_come total (step.Accept peer local ∷ rest) game come = arrives total peer local rest game come
begin_come total (step.Bytes name bytes ∷ rest) game come = told total _ Readable (record game { left = step.Bytes name bytes ∷ rest }) _ refl (λ acts. refl) (changed (link_of name (length game.sides)) (with_bytes bytes) game.sides) refl come
begin_come total (step.Pour name size ∷ rest) game come = told total _ Readable (record game { left = step.Pour name size ∷ rest }) _ refl (λ acts. refl) (changed (link_of name (length game.sides)) (with_bytes (letters size)) game.sides) refl come
begin_come total (step.End name ∷ rest) game come = told total _ Readable (record game { left = step.End name ∷ rest }) _ refl (λ acts. refl) (changed (link_of name (length game.sides)) with_end game.sides) refl come
begin_come total (step.Ready name count ∷ rest) game come = told total _ Readable (record game { left = step.Ready name count ∷ rest }) _ refl (λ acts. refl) refl (less_by (nat_lt 1 count) _ rest refl) come
begin_come total (step.ReadFail name ∷ rest) game come = told total _ Readable (record game { left = step.ReadFail name ∷ rest }) _ refl (λ acts. refl) (changed (link_of name (length game.sides)) with_failing_reads game.sides) refl come
begin_come total (step.Take name size count ∷ rest) game come = told total _ Writable (record game { left = step.Take name size count ∷ rest }) _ refl (λ acts. refl) refl (less_by (nat_lt 1 count) _ rest refl) come
begin_come total (step.WriteFail name ∷ rest) game come = told total _ Writable (record game { left = step.WriteFail name ∷ rest }) _ refl (λ acts. refl) (changed (link_of name (length game.sides)) with_failing_writes game.sides) refl come
begin_come total (step.Idle ∷ rest) game come = record { each = come.each; all = come.all }

no_arrival_read : (fails ended : Bool) (size : ℕ) (bytes : List ℕ) (acts : List Act) → has_arrived ((if fails then Failed Reading else some_read size bytes ended) ∷ acts) ≡ has_arrived acts
no_arrival_read true ended size bytes acts = refl
no_arrival_read false true size [] acts = refl
no_arrival_read false false size [] acts = refl
no_arrival_read false ended size (byte ∷ bytes) acts = refl

no_arrival_write : (fails : Bool) (n : ℕ) (bytes : List ℕ) (acts : List Act) → has_arrived ((if fails then Failed Writing else some_taken n bytes) ∷ acts) ≡ has_arrived acts
no_arrival_write true n bytes acts = refl
no_arrival_write false zero bytes acts = refl
no_arrival_write false (suc n) bytes acts = refl

after_come : (total : ℕ) (call : Call) (game : Game) → HaveCome total game → HaveCome total (after call game)
after_come total Next game come =
    begin_come total (skip game.sides game.left) game (record { each = come.each; all = omega (arith, come.all, skip_accepts game.sides game.left) })
after_come total (Reads link size) game come =
    let side = side_at link game.sides in
    told total link (gives size side) game _ refl (no_arrival_read side.reads_fail side.ended size _) (changed link (with_read size) game.sides) refl come
after_come total (Writes link bytes) game come =
    told total link (takes (side_at link game.sides).writes_fail (allowed game.taker link) bytes) game _ refl (no_arrival_write (side_at link game.sides).writes_fail (min (allowed game.taker link) (length bytes)) bytes) refl refl come
after_come total (Connects owner to) game come = told total _ _ game _ refl (λ acts. refl) refl refl come
after_come total (Closes link ending) game come = told total link (Close ending) game _ refl (λ acts. refl) (changed link with_close game.sides) refl come

played_come : (total : ℕ) (calls : List Call) (game : Game) → HaveCome total game → HaveCome total (played calls game)
played_come total [] game come = come
played_come total (call ∷ calls) game come = after_come total call (played calls game) (played_come total calls game come)

-- ---- the links that arrived

one : Bool → ℕ
one t = cond t 1 0

none_past : (m at n : ℕ) (test : ℕ → Bool) → ((k : ℕ) → test k ≡ nat_lt k m) → m ≤ at → count_by test (range_with_len at n) ≡ 0
unfolding one
none_past m at zero test is past = refl
none_past m at (suc n) test is past =
    let no : test at ≡ false = is at ∙ grind (arith, nat_tests, past) in
    sum_by-cons (λ k. one (test k)) at (range_with_len (at + 1) n) ∙ omega (arith, ap one no, none_past m (at + 1) n test is (omega (arith, past)))

count_all : (m at n : ℕ) (test : ℕ → Bool) → ((k : ℕ) → test k ≡ nat_lt k m) → at ≤ m → m ≤ at + n → count_by test (range_with_len at n) + at ≡ m
unfolding one
count_all m at zero test is low high = omega (arith, low, high)
count_all m at (suc n) test is low high = by (λ more. count_all m (at + 1) n test is more (omega (arith, high))) (nat_lt at m) refl
  where
    by : (at + 1 ≤ m → count_by test (range_with_len (at + 1) n) + (at + 1) ≡ m) → (t : Bool) → nat_lt at m ≡ t → count_by test (range_with_len at (suc n)) + at ≡ m
    by rest true below =
        let yes : test at ≡ true = is at ∙ below in
        let more : at < m = grind (arith, nat_tests, below) in
        omega (arith, sum_by-cons (λ k. one (test k)) at (range_with_len (at + 1) n), ap one yes, rest (omega (arith, more)))
    by rest false past =
        let same : m ≤ at = grind (arith, nat_tests, past) in
        omega (arith, none_past m at (suc n) test is same, same, low)

-- the links that arrived are below the bound
within : (trace : List Entry) (m : ℕ) → ((link : ℕ) → has_arrived (own link trace) ≡ nat_lt link m) → m ≤ link_bound trace
within trace m each = by (nat_lt (link_bound trace) m) refl
  where
    by : (t : Bool) → nat_lt (link_bound trace) m ≡ t → m ≤ link_bound trace
    by true below = absurd (cc (sym below ∙ sym (each (link_bound trace)) ∙ unarrived (link_bound trace) trace (le_refl (link_bound trace))))
    by false past = grind (arith, nat_tests, past)

accepts_clients : (clients at n : ℕ) → accepts (flat_map (λ number. client number (drawn clients (number + 1))) (range_with_len at n)) ≡ n
unfolding accepts
accepts_clients clients at zero = refl
accepts_clients clients at (suc n) = omega (arith, accepts_clients clients (at + 1) n)

none_yet : (link : ℕ) → false ≡ nat_lt link 0
none_yet link = sym (grind (arith, nat_tests))

pub all_arrive : EveryClientArrives
unfolding accepts
all_arrive clients trace plays =
    let steps = (generated clients).steps in
    let last : Game = played plays.calls (start steps) in
    let come : HaveCome (accepts steps) last = played_come (accepts steps) plays.calls (start steps) (record { each = none_yet; all = omega arith }) in
    let m = length last.sides in
    let so_many : m ≡ clients = omega (arith, come.all, ap accepts plays.rest, accepts_clients clients 0 clients) in
    let each : (link : ℕ) → has_arrived (own link trace) ≡ nat_lt link m = λ link. ap (λ (t : List Entry). has_arrived (own link t)) (sym plays.told) ∙ come.each link in
    omega (arith, count_all m 0 (link_bound trace) (λ link. has_arrived (own link trace)) each (omega arith) (omega (arith, within trace m each)), so_many)

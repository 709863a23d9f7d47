-- Where no step makes a read or a write fail, none fails.
use Rattle.std.proofs.Common.{◌≡◌, ℕ, zero, suc, min, Bool, true, false, List, [], ◌∷◌, ◌++◌, length, take, set, refl, if◌then◌else◌, ◌||◌, nat_lt}
use Rattle.std.specs.List.{list_any}
use Rattle.lt_world.specs.Trace.{Act, Entry, Failed, Reading}
use Rattle.lt_script.specs.declared.script.Step.{Step}
use Rattle.lt_script.specs.declared.script.Step.TheVariants as step
use Rattle.script_net.specs.Letters.{letters}
use Rattle.script_net.specs.Sides.{Side, side_at, fresh_side, unread, some_read, gives, with_read, with_bytes, with_end, with_close}
use Rattle.script_net.specs.Steps.{allowed, change, is_due, skip, link_of}
use Rattle.script_net.specs.Calls.{Game, Call, Next, Reads, Writes, Connects, Closes, start, after, begin, takes, some_taken}
use Rattle.script_net.specs.Plays.{played}
use Rattle.script_net.specs.Failing.{makes_fail, IsCalm, is_failure, NoneFailed}
use Rattle.script_net.specs.Laws.{CalmNeverFails}

-- reads and writes of the link don't fail
record IsSound (side : Side) : Type 0 where
  reads : side.reads_fail ≡ false
  writes : side.writes_fail ≡ false

abbrev AllSound : List Side → Type 0
AllSound [] = Unit {0}
AllSound (side ∷ sides) = IsSound side × AllSound sides

fresh_sound : IsSound fresh_side
fresh_sound = record { reads = refl; writes = refl }

sound_at : (link : ℕ) (sides : List Side) → AllSound sides → IsSound (side_at link sides)
sound_at link [] all = record { reads = refl; writes = refl }
sound_at zero (side ∷ sides) all = all.0
sound_at (suc link) (side ∷ sides) all = sound_at link sides all.1

sound_set : (sides : List Side) (link : ℕ) (side : Side) → IsSound side → AllSound sides → AllSound (set sides link side)
sound_set [] link side sound all = tt
sound_set (first ∷ sides) zero side sound all = (sound, all.1)
sound_set (first ∷ sides) (suc link) side sound all = (all.0, sound_set sides link side sound all.1)

sound_more : (sides : List Side) → AllSound sides → AllSound (sides ++ fresh_side ∷ [])
sound_more [] all = (fresh_sound, tt)
sound_more (side ∷ sides) all = (all.0, sound_more sides all.1)

-- a change that makes nothing fail
sound_change : (f : Side → Side) → ((side : Side) → IsSound side → IsSound (f side)) → (link : ℕ) (sides : List Side) → AllSound sides → AllSound (change link f sides)
sound_change f keeps link sides all = sound_set sides link (f (side_at link sides)) (keeps (side_at link sides) (sound_at link sides all)) all

bytes_sound : (bytes : List ℕ) (side : Side) → IsSound side → IsSound (with_bytes bytes side)
bytes_sound bytes side sound = record { reads = sound.reads; writes = sound.writes }

end_sound : (side : Side) → IsSound side → IsSound (with_end side)
end_sound side sound = record { reads = sound.reads; writes = sound.writes }

read_sound : (size : ℕ) (side : Side) → IsSound side → IsSound (with_read size side)
read_sound size side sound = record { reads = sound.reads; writes = sound.writes }

close_sound : (side : Side) → IsSound side → IsSound (with_close side)
close_sound side sound = record { reads = sound.reads; writes = sound.writes }

-- what is left of calm steps is calm

skip_by : (t : Bool) (sides : List Side) (first : Step) (rest : List Step) → IsCalm (first ∷ rest) → (IsCalm rest → IsCalm (skip sides rest)) → IsCalm (if t then first ∷ rest else skip sides rest)
skip_by true sides first rest calm next = calm
skip_by false sides first rest calm next = next (rest_calm first rest calm)
  where
    rest_calm : (first : Step) (rest : List Step) → IsCalm (first ∷ rest) → IsCalm rest
    rest_calm (step.Accept peer local) rest calm = calm
    rest_calm (step.Bytes name bytes) rest calm = calm
    rest_calm (step.Pour name size) rest calm = calm
    rest_calm (step.End name) rest calm = calm
    rest_calm (step.Ready name count) rest calm = calm
    rest_calm (step.ReadFail name) rest calm = absurd (cc (calm))
    rest_calm (step.Take name size count) rest calm = calm
    rest_calm (step.WriteFail name) rest calm = absurd (cc (calm))
    rest_calm step.Idle rest calm = calm

skip_calm : (sides : List Side) (steps : List Step) → IsCalm steps → IsCalm (skip sides steps)
skip_calm sides [] calm = calm
skip_calm sides (first ∷ rest) calm = skip_by (is_due first sides) sides first rest calm (skip_calm sides rest)

-- a counted step, or what follows it
counted_calm : (t : Bool) (again : Step) (rest : List Step) → makes_fail again ≡ false → IsCalm rest → IsCalm (if t then again ∷ rest else rest)
counted_calm true again rest calm others = rw calm others
counted_calm false again rest calm others = others

-- the game has nothing that fails, and nothing failed in it
record CalmGame (game : Game) : Type 0 where
  left : IsCalm game.left
  sides : AllSound game.sides
  trace : NoneFailed game.trace

begin_calm : (steps : List Step) (game : Game) → IsCalm steps → AllSound game.sides → NoneFailed game.trace → CalmGame (begin steps game)
begin_calm [] game calm sound none = record { left = refl; sides = sound; trace = none }
begin_calm (step.Accept peer local ∷ rest) game calm sound none = record { left = calm; sides = sound_more game.sides sound; trace = none }
begin_calm (step.Bytes name bytes ∷ rest) game calm sound none =
    record { left = calm; sides = sound_change (with_bytes bytes) (bytes_sound bytes) (link_of name (length game.sides)) game.sides sound; trace = none }
begin_calm (step.Pour name size ∷ rest) game calm sound none =
    record { left = calm; sides = sound_change (with_bytes (letters size)) (bytes_sound (letters size)) (link_of name (length game.sides)) game.sides sound; trace = none }
begin_calm (step.End name ∷ rest) game calm sound none = record { left = calm; sides = sound_change with_end end_sound (link_of name (length game.sides)) game.sides sound; trace = none }
begin_calm (step.Ready name count ∷ rest) game calm sound none = record { left = counted_calm (nat_lt 1 count) _ rest refl calm; sides = sound; trace = none }
begin_calm (step.ReadFail name ∷ rest) game calm sound none = absurd (cc (calm))
begin_calm (step.WriteFail name ∷ rest) game calm sound none = absurd (cc (calm))
begin_calm (step.Idle ∷ rest) game calm sound none = record { left = calm; sides = sound; trace = none }
begin_calm (step.Take name size count ∷ rest) game calm sound none = record { left = counted_calm (nat_lt 1 count) _ rest refl calm; sides = sound; trace = none }

-- the answers of reads and writes

given_sound : (size : ℕ) (bytes : List ℕ) (ended : Bool) → is_failure (some_read size bytes ended) ≡ false
given_sound size [] true = refl
given_sound size [] false = refl
given_sound size (byte ∷ bytes) ended = refl

gives_by : (fails : Bool) (size : ℕ) (side : Side) → fails ≡ false → is_failure (if fails then Failed Reading else some_read size (take size (unread side)) side.ended) ≡ false
gives_by true size side sound = absurd (cc (sound))
gives_by false size side sound = given_sound size (take size (unread side)) side.ended

taken_sound : (n : ℕ) (bytes : List ℕ) → is_failure (some_taken n bytes) ≡ false
taken_sound zero bytes = refl
taken_sound (suc n) bytes = refl

takes_by : (fails : Bool) (most : ℕ) (bytes : List ℕ) → fails ≡ false → is_failure (takes fails most bytes) ≡ false
takes_by true most bytes sound = absurd (cc (sound))
takes_by false most bytes sound = taken_sound (min most (length bytes)) bytes

-- an act that is no failure, on top
none_more : (act : Act) (trace : List Entry) → is_failure act ≡ false → NoneFailed trace → (is_failure act || list_any (λ entry. is_failure entry.act) trace) ≡ false
none_more act trace sound none = rw sound none

after_calm : (call : Call) (game : Game) → CalmGame game → CalmGame (after call game)
after_calm Next game calm = begin_calm (skip game.sides game.left) game (skip_calm game.sides game.left calm.left) calm.sides calm.trace
after_calm (Reads link size) game calm = record {
  left = calm.left;
  sides = sound_change (with_read size) (read_sound size) link game.sides calm.sides;
  trace = none_more (gives size (side_at link game.sides)) game.trace (gives_by (side_at link game.sides).reads_fail size (side_at link game.sides) (sound_at link game.sides calm.sides).reads) calm.trace;
}
after_calm (Writes link bytes) game calm = record {
  left = calm.left;
  sides = calm.sides;
  trace = none_more _ game.trace (takes_by (side_at link game.sides).writes_fail (allowed game.taker link) bytes (sound_at link game.sides calm.sides).writes) calm.trace;
}
after_calm (Connects owner to) game calm = record { left = calm.left; sides = calm.sides; trace = calm.trace }
after_calm (Closes link ending) game calm = record { left = calm.left; sides = sound_change with_close close_sound link game.sides calm.sides; trace = calm.trace }

played_calm : (calls : List Call) (steps : List Step) → IsCalm steps → CalmGame (played calls (start steps))
played_calm [] steps calm = record { left = calm; sides = tt; trace = refl }
played_calm (call ∷ calls) steps calm = after_calm call (played calls (start steps)) (played_calm calls steps calm)

pub calm_never_fails : CalmNeverFails
calm_never_fails steps calls calm = (played_calm calls steps calm).trace

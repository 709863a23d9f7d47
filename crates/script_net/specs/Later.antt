-- For proofs alone: a net that plays a script is later than itself, and later than what its past was later than.
use Rattle.std.specs.Prelude.{◌≡◌, ◌≤◌, List, [], ◌∷◌, ◌++◌}
use Rattle.std.proofs.Common.{refl, ◌∙◌, ap, sym, le_refl, le_trans}
use Rattle.script_net.specs.Steps.{events_left}
use Rattle.script_net.specs.Calls.{Game, Call, after}
use Rattle.script_net.specs.Plays.{played}
use Rattle.script_net.specs.Waited.{Waited}
use Rattle.script_net.specs.Playing.{Playing, IsLater}

-- calls after calls are calls
pub played-append : (more calls : List Call) (game : Game) → played (more ++ calls) game ≡ played more (played calls game)
played-append [] calls game = refl
played-append (call ∷ more) calls game = ap (after call) (played-append more calls game)

-- a net is later than itself
pub IsLater-same : (a : Playing) → IsLater a a
IsLater-same a = record { same = refl; calls = []; plays = refl; waited = refl; faults = le_refl a.faults; left = le_refl (events_left a.game.left) }

-- what is later than something later is later
pub IsLater-more : (a b c : Playing) → IsLater a b → IsLater b c → IsLater a c
IsLater-more a b c ab bc = record {
  same = bc.same ∙ ab.same;
  calls = bc.calls ++ ab.calls;
  plays = bc.plays ∙ ap (λ (g : Game). played bc.calls g) ab.plays ∙ sym (played-append bc.calls ab.calls a.game);
  waited = bc.waited ∙ ab.waited;
  faults = le_trans ab.faults bc.faults;
  left = le_trans bc.left ab.left;
}

-- the laws that the trait asks for
pub IsLater-faults : (a b : Playing) → IsLater a b → a.faults ≤ b.faults
IsLater-faults a b later = later.faults

-- no call of `listen` or `wait` is made
pub IsLater-waits : (a b : Playing) → IsLater a b → b.waited.faults ≡ a.waited.faults
IsLater-waits a b later = ap (λ (w : Waited). w.faults) later.waited

-- and no more events are left
pub IsLater-left : (a b : Playing) → IsLater a b → events_left b.game.left ≤ events_left a.game.left
IsLater-left a b later = later.left

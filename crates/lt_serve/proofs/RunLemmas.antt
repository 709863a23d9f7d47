-- A run, turn by turn, and what it means.
use Rattle.std.proofs.Common.{◌≡◌, ◌≤◌, ℕ, List, [], ◌∷◌, refl, sym, subst, ◌∙◌, arith, le_refl, inl, inr}
use Rattle.std.specs.Prelude.{Option, Some, None}
use Rattle.lt_world.specs.declared.files.Call.{Call}
use Rattle.lt_world.specs.Causes.{Rose}
use Rattle.lt_world.specs.Disk.{Disk, Tree, own_calls}
use Rattle.lt_world.specs.Trace.{Entry}
use Rattle.server_model.specs.Site.{Site}
use Rattle.server_model.specs.World.{side_of, world_of}
use Rattle.server_model.specs.Deeds.{own}
use Rattle.server_model.specs.Client.{stream, IsServedRight}
use Rattle.server_model.specs.Held.{Held, Serving, kept_at}
use Rattle.server_model.specs.Serves.{Serves}
use Rattle.server_model.specs.Turns.{Seen, IsTurn}
use Rattle.server_model.specs.Runs.{Told, IsRun, none, more}
use Rattle.server_model.proofs.Settled.{stands_right}
use Rattle.server_model.proofs.Endings.{run_ends, cause_stays}
use Rattle.server_model.proofs.Running.{run_grows}
use Rattle.server_core.specs.Table.{freed, all_freed}
use Rattle.lt_serve.specs.Served.{told_at, ServesRight, IsGivenBack, Served}

-- a turn more, by a server of the same configuration
pub did : (site same : Site) (spare : ℕ) (start : Told) (before after : Seen) (old now : List Entry) → same ≡ site → IsRun site start (told_at before old) → IsTurn same spare before after old now → IsRun site start (told_at after now)
did site same spare start before after old now is run one = more run (subst (λ (s : Site). IsTurn s spare before after old now) is one)

-- nothing was told, and nothing is seen otherwise
pub rested : (site : Site) (start : Told) (before after : Seen) (old now : List Entry) → IsRun site start (told_at before old) → after ≡ before → now ≡ old → IsRun site start (told_at after now)
rested site start before after old now run seen trace =
    subst (λ (s : Seen). IsRun site start (told_at s now)) (sym seen) (subst (λ (t : List Entry). IsRun site start (told_at before t)) (sym trace) run)

pub served_still : (disk same : Disk) (server other : Serving) (old now : List Entry) → Serves disk server old → same ≡ disk → other ≡ server → now ≡ old → Serves same other now
served_still disk same server other old now serves disk_is server_is trace_is =
    subst (λ (d : Disk). Serves d other now) (sym disk_is) (subst (λ (s : Serving). Serves disk s now) (sym server_is) (subst (λ (t : List Entry). Serves disk server t) (sym trace_is) serves))

freed_calls : (file : Option ℕ) (disk : Disk) → (freed file disk).calls ≡ disk.calls
freed_calls None disk = refl
freed_calls (Some file) disk = refl

-- giving files back makes no call of `find` or `open`
pub all_freed-calls : (table : List Held) (disk : Disk) → (all_freed table disk).calls ≡ disk.calls
all_freed-calls [] disk = refl
all_freed-calls (held ∷ table) disk = freed_calls held.file (all_freed table disk) ∙ all_freed-calls table disk

-- a server that serves served each client right, by the tree and the calls on files alone
serves_right : (disk : Disk) (server : Serving) (trace : List Entry) (site : Site) (tree : Tree) (calls : List Call) → Serves disk server trace → server.site ≡ site → disk.tree ≡ tree → disk.calls ≡ calls → ServesRight site tree calls trace
serves_right disk server trace site tree calls serves site_is tree_is calls_are link =
    let right = stands_right disk.table (world_of server.site disk link (own link trace)) (kept_at link server.table) (own link trace) (serves.each link) in
    let rooted = subst (λ (s : Site). IsServedRight (record { client = link; site = s; side = side_of (own link trace); tree = disk.tree; calls = own_calls link disk.calls }) (own link trace)) site_is right in
    let wooded = subst (λ (t : Tree). IsServedRight (record { client = link; site = site; side = side_of (own link trace); tree = t; calls = own_calls link disk.calls }) (own link trace)) tree_is rooted in
    subst (λ (c : List Call). IsServedRight (record { client = link; site = site; side = side_of (own link trace); tree = tree; calls = own_calls link c }) (own link trace)) calls_are wooded

rose_more : (a b c : ℕ) → b ≤ c → Rose a b → Rose a c
rose_more a b c above rose = grind (arith, above, rose)

-- a run after which the server serves, and files that were given back
pub served_all : (server : Serving) (site : Site) (before last after : Seen) (old trace : List Entry) → old ≡ [] → Serves last.disk server trace → server.site ≡ site
    → IsRun site (told_at before old) (told_at last trace) → IsGivenBack last after → Served site before after trace
served_all server site before last after old trace untold serves site_is run back =
    let grows = run_grows site (told_at before old) (told_at last trace) run in
    let from_none : IsRun site (told_at before []) (told_at last trace) = subst (λ (t : List Entry). IsRun site (told_at before t) (told_at last trace)) untold run in
    record {
      right = serves_right last.disk server trace site before.disk.tree after.disk.calls serves site_is grows.tree (sym back.calls);
      last = last;
      run = from_none;
      given_back = back;
      caused = λ link e is. elim (run_ends site (told_at before []) (told_at last trace) from_none link e is) [
        | inl was ↦ absurd (cc was)
        | inr cause ↦ cause_stays e (own link trace) (Rose before.faults last.faults) (Rose before.faults after.faults) (rose_more before.faults last.faults after.faults back.faults) cause
      ];
    }

-- ---- calls that ran nothing

quiet_right : (site : Site) (tree : Tree) → ServesRight site tree [] []
quiet_right site tree link = record {
  right = record {
    prefix = (stream (record { client = link; site = site; side = side_of []; tree = tree; calls = [] }) [], refl);
    in_turn = λ k what asked. absurd (omega arith);
  };
  clean = λ ended. absurd (cc);
}

unserved_quiet : (site : Site) (before : Seen) → before.disk.calls ≡ [] → Served site before before []
unserved_quiet site before uncalled = record {
  right = subst (λ (c : List Call). ServesRight site before.disk.tree c []) (sym uncalled) (quiet_right site before.disk.tree);
  last = before;
  run = none;
  given_back = record { calls = refl; reads = refl; faults = le_refl before.faults };
  caused = λ link e is. absurd (cc is);
}

-- where no event came and no file was asked for, each client was served right
pub unserved : (site : Site) (before : Seen) (trace : List Entry) → before.disk.calls ≡ [] → trace ≡ [] → Served site before before trace
unserved site before trace uncalled untold = subst (λ (t : List Entry). Served site before before t) (sym untold) (unserved_quiet site before uncalled)

-- the same configuration under another name
pub served_as : (site other : Site) (before after : Seen) (trace : List Entry) → Served site before after trace → site ≡ other → Served other before after trace
served_as site other before after trace served is = subst (λ (s : Site). Served s before after trace) is served

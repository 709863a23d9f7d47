-- A run, turn by turn.
use Rattle.std.proofs.Common.{◌≡◌, ℕ, ◌<◌, ◌≤◌, List, [], ◌∷◌, arith, ap, refl, sym, subst, ◌∙◌, inl, inr}
use Rattle.std.specs.Prelude.{Option, Some, None}
use Rattle.lt_world.specs.Acts.{ending_of}
use Rattle.lt_world.specs.declared.files.Call.{Call}
use Rattle.lt_world.specs.Disk.{Disk, Tree, own_calls, Reads}
use Rattle.lt_world.specs.Memory.{no_files}
use Rattle.lt_world.specs.Trace.{Entry}
use Rattle.server_model.specs.Site.{Site}
use Rattle.server_model.specs.World.{side_of, world_of}
use Rattle.server_model.specs.Deeds.{own, ours}
use Rattle.server_model.specs.Client.{stream, IsServedRight}
use Rattle.server_model.specs.Held.{Held, Serving, kept_at}
use Rattle.server_model.specs.Serves.{Serves}
use Rattle.server_model.proofs.Settled.{stands_right}
use Rattle.server_model.proofs.Endings.{run_ends, cause_stays}
use Rattle.lt_world.specs.Causes.{Rose}
use Rattle.server_core.specs.Table.{freed, all_freed}
use Rattle.lt_commands.specs.Runs.{Asked, asked_of, ServesRight, RunsDue, Served, told_as}
use Rattle.server_model.specs.Turns.{Seen, IsTurn}
use Rattle.server_model.specs.Runs.{Told, IsRun, none, more}

abbrev told : Seen → List Entry → Told
told seen trace = record { seen = seen; trace = trace }

-- a turn more, by a server of the same root
pub did : (site same : Site) (spare : ℕ) (start : Told) (before after : Seen) (old now : List Entry) → same ≡ site → IsRun site start (told before old) → IsTurn same spare before after old now → IsRun site start (told after now)
did site same spare start before after old now is run one = more run (subst (λ (s : Site). IsTurn s spare before after old now) is one)

-- nothing was told, and nothing is seen otherwise
pub rested : (site : Site) (start : Told) (before after : Seen) (old now : List Entry) → IsRun site start (told before old) → after ≡ before → now ≡ old → IsRun site start (told after now)
rested site start before after old now run seen trace = subst (λ (s : Seen). IsRun site start (told s now)) (sym seen) (subst (λ (t : List Entry). IsRun site start (told before t)) (sym trace) run)

freed_calls : (file : Option ℕ) (disk : Disk) → (freed file disk).calls ≡ disk.calls
freed_calls None disk = refl
freed_calls (Some file) disk = refl

-- giving files back makes no call of `find` or `open`
pub all_freed-calls : (table : List Held) (disk : Disk) → (all_freed table disk).calls ≡ disk.calls
all_freed-calls [] disk = refl
all_freed-calls (held ∷ table) disk = freed_calls held.file (all_freed table disk) ∙ all_freed-calls table disk

-- a server that serves served each client right, by the tree and the calls on files alone
pub serves_right : (disk : Disk) (server : Serving) (trace : List Entry) (site : Site) (tree : Tree) (calls : List Call) → Serves disk server trace → server.site ≡ site → disk.tree ≡ tree → disk.calls ≡ calls → ServesRight site tree calls trace
serves_right disk server trace site tree calls serves site_is tree_is calls_are link =
    let right = stands_right disk.table (world_of server.site disk link (own link trace)) (kept_at link server.table) (own link trace) (serves.each link) in
    let rooted = subst (λ (s : Site). IsServedRight (record { client = link; site = s; side = side_of (own link trace); tree = disk.tree; calls = own_calls link disk.calls }) (own link trace)) site_is right in
    let wooded = subst (λ (t : Tree). IsServedRight (record { client = link; site = site; side = side_of (own link trace); tree = t; calls = own_calls link disk.calls }) (own link trace)) tree_is rooted in
    subst (λ (c : List Call). IsServedRight (record { client = link; site = site; side = side_of (own link trace); tree = tree; calls = own_calls link c }) (own link trace)) calls_are wooded

abbrev quiet : Tree → Disk
quiet tree = record { tree = tree; table = λ file. None; calls = [] }

-- where nothing happened each client was served right, and nothing was due
unserved_right : (site : Site) (tree : Tree) → ServesRight site tree [] []
unserved_right site tree link = record {
  right = record {
    prefix = (stream (record { client = link; site = site; side = side_of []; tree = tree; calls = [] }) [], refl);
    in_turn = λ k what asked. absurd (omega arith);
  };
  clean = λ ended. absurd (cc);
}

undue : (site : Site) (tree : Tree) → RunsDue site tree (asked_of no_files) []
undue site tree = record {
  first = told (record { disk = quiet tree; faults = 0; reads = record { made = 0; failed = None } }) [];
  final = told (record { disk = quiet tree; faults = 0; reads = record { made = 0; failed = None } }) [];
  begins = refl;
  tree_is = refl;
  uncalled = refl;
  unfailed = refl;
  unread = refl;
  run = none;
  trace_is = refl;
  calls_are = refl;
  faults_are = omega arith;
  reads_are = refl;
}

-- the same of a run that was not begun
pub unserved : (site : Site) (tree : Tree) (left : Asked) (trace : List Entry) → left ≡ asked_of no_files → trace ≡ [] → Served site tree left trace
unserved site tree left trace unasked untold =
    let none_asked : Served site tree (asked_of no_files) [] = record { right = unserved_right site tree; due = undue site tree; caused = λ link e is. absurd (cc (is)) } in
    subst (λ (a : Asked). Served site tree a trace) (sym unasked) (subst (λ (t : List Entry). Served site tree (asked_of no_files) t) (sym untold) none_asked)

-- the same root and tree under other names
pub served_as : (site other : Site) (tree wood : Tree) (left : Asked) (trace : List Entry) → Served site tree left trace → site ≡ other → tree ≡ wood → Served other wood left trace
served_as site other tree wood left trace served site_is tree_is =
    subst (λ (t : Tree). Served other t left trace) tree_is (subst (λ (s : Site). Served s tree left trace) site_is served)

-- a count that rose from none and didn't fall is above none
risen : (before now last : ℕ) → before ≡ 0 → now ≤ last → Rose before now → 0 < last
risen before now last first still rose = grind (arith, first, still, rose)

-- a run after which the server serves, over a tree that stays
pub serves_all : (disk start : Disk) (server : Serving) (site : Site) (tree : Tree) (left : Asked) (faults now_faults : ℕ) (reads now_reads : Reads) (old trace : List Entry)
    → old ≡ [] → faults ≡ 0 → start.tree ≡ tree → start.calls ≡ [] → reads ≡ (asked_of no_files).reads → Serves disk server trace → server.site ≡ site → disk.tree ≡ tree → disk.calls ≡ left.calls → now_faults ≤ left.faults → now_reads ≡ left.reads
    → IsRun site (told_as start faults reads old) (told_as disk now_faults now_reads trace) → Served site tree left trace
serves_all disk start server site tree left faults now_faults reads now_reads old trace untold unfailed start_tree uncalled unread serves site_is tree_is calls_are faults_are reads_are run = record {
  right = serves_right disk server trace site tree left.calls serves site_is tree_is calls_are;
  due = record {
    first = told_as start faults reads old;
    final = told_as disk now_faults now_reads trace;
    begins = untold;
    tree_is = start_tree;
    uncalled = uncalled;
    unfailed = unfailed;
    unread = unread;
    run = run;
    trace_is = refl;
    calls_are = calls_are;
    faults_are = faults_are;
    reads_are = reads_are;
  };
  caused = λ link e is. elim (run_ends site (told_as start faults reads old) (told_as disk now_faults now_reads trace) run link e is) [
    | inl was ↦ absurd (cc (ap (λ (t : List Entry). ending_of (ours (own link t))) untold, was))
    | inr cause ↦ cause_stays e (own link trace) (Rose faults now_faults) (0 < left.faults) (risen faults now_faults left.faults unfailed faults_are) cause
  ];
}

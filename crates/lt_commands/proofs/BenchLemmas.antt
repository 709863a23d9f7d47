-- What a benchmark run means for its clients where none was made.
use Rattle.std.proofs.Common.{◌≡◌, ℕ, List, [], sym, subst}
use Rattle.lt_world.specs.Memory.{no_files}
use Rattle.lt_world.specs.Trace.{Entry}
use Rattle.script_gen.specs.Generated.{generated}
use Rattle.lt_commands.specs.declared.status.Status.{Status}
use Rattle.lt_commands.specs.declared.status.Status.TheVariants as status
use Rattle.lt_commands.specs.Endings.{AllEndCalmly}
use Rattle.lt_commands.specs.Runs.{Asked, asked_of}
use Rattle.lt_commands.specs.Serving.{ServesBench}
use Rattle.lt_commands.proofs.ServingLemmas.{none_closed, unrun}

pub unrun_bench : (clients : ℕ) (answer : Status) (left : Asked) (trace : List Entry) → answer ≡ status.NoMemory → left ≡ asked_of no_files → trace ≡ [] → ServesBench clients answer left trace
unrun_bench clients answer left trace wanted uncalled untold = record {
  serves = λ loaded has. unrun loaded (generated clients) answer left trace uncalled untold (λ done. absurd (cc (wanted, done)));
  calm = subst AllEndCalmly (sym untold) none_closed;
}

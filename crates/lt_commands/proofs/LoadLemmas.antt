-- Whose outcome a configuration is: no other calls on texts and maker come to another one, unless one failed or was refused.
use Rattle.std.proofs.Common.{◌≡◌, ◌⊎◌, inl, inr, ℕ, List, Result, Ok, Err}
use Rattle.lt_world.specs.TextAnswers.{Library}
use Rattle.conf_eval.specs.declared.fault.LoadError.{LoadError}
use Rattle.conf_eval.specs.declared.fault.LoadError.TheVariants as e
use Rattle.conf_eval.specs.declared.fault.Loaded.{Loaded}
use Rattle.conf_eval.specs.Calls.{Calls}
use Rattle.conf_eval.specs.Load as spec
use Rattle.conf_eval.specs.Load.{Ended}
use Rattle.conf_eval.specs.Outcomes.{EndsUnread, EndsRefused}
use Rattle.conf_eval.proofs.Answered.{all_answered}
use Rattle.conf_eval.proofs.Determined.{same_or_unanswered}
use Rattle.lt_commands.specs.declared.status.Status.{Status}
use Rattle.lt_commands.specs.declared.status.Status.TheVariants as status
use Rattle.lt_commands.specs.Loading.{HasConf, EndsAs, IsOnlyConf}

-- a load ends for a text that can't be read, or a pattern that is refused
abbrev EndsOutside : Result Loaded LoadError → Type 0
EndsOutside x = EndsUnread x ⊎ EndsRefused x

module _ (library : Library) where
  -- any other load of the texts comes to that configuration, unless a text can't be read or a pattern is refused
  same_conf : (name : List ℕ) (loaded : Loaded) → HasConf library name loaded → (calls : Calls) (x : Result Loaded LoadError) → spec.load library name calls ≡ Ended x → (Ok loaded ≡ x) ⊎ EndsOutside x
  same_conf name loaded has calls x p = same_or_unanswered library name has.0 calls (Ok loaded) x (all_answered library name has.0 loaded has.1) has.1 p

  are_same : (loaded other : Loaded) → (◌≡◌ {A = Result Loaded LoadError} (Ok loaded) (Ok other)) ⊎ EndsOutside (Ok other) → other ≡ loaded
  are_same loaded other (inl same) = cc (same)
  are_same loaded other (inr (inl none)) = absurd none
  are_same loaded other (inr (inr none)) = absurd none

  outside_alone : (loaded : Loaded) (x : LoadError) → (◌≡◌ {A = Result Loaded LoadError} (Ok loaded) (Err x)) ⊎ EndsOutside (Err x) → EndsOutside (Err x)
  outside_alone loaded x (inl same) = absurd (cc (same))
  outside_alone loaded x (inr outside) = outside

  neither : EndsOutside (Err e.RootMissing) → ⊥
  neither (inl none) = none
  neither (inr none) = none

  -- so it is the only answer
  pub only_conf : (name : List ℕ) (loaded : Loaded) → HasConf library name loaded → (calls : Calls) (answer : Result Loaded Status) → EndsAs (spec.load library name calls) answer → IsOnlyConf loaded answer
  only_conf name loaded has calls (Ok other) ends = are_same loaded other (same_conf name loaded has calls (Ok other) ends)
  only_conf name loaded has calls (Err (status.Conf fault)) ends = outside_alone loaded (e.Conf fault) (same_conf name loaded has calls (Err (e.Conf fault)) ends)
  only_conf name loaded has calls (Err (status.Missing number)) ends = absurd (neither (outside_alone loaded e.RootMissing (same_conf name loaded has calls (Err e.RootMissing) ends.1)))
  only_conf name loaded has calls (Err status.TextFault) ends = tt
  only_conf name loaded has calls (Err status.NoMemory) ends = tt
  only_conf name loaded has calls (Err status.Done) ends = ends
  only_conf name loaded has calls (Err status.Usage) ends = ends
  only_conf name loaded has calls (Err status.ListenFault) ends = ends
  only_conf name loaded has calls (Err status.WaitFault) ends = ends
  only_conf name loaded has calls (Err status.SinkFault) ends = ends
  only_conf name loaded has calls (Err (status.Script line)) ends = ends

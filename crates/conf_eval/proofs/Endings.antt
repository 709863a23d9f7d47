-- How a load ended, by its last reply.
use Rattle.std.proofs.Common.{◌≡◌, ◌⊎◌, inl, inr, List, [], ◌∷◌, Option, Some, None, is_some, unwrap_or, Result, Ok, Err, refl, sym, ap}
use Rattle.lt_world.specs.declared.texts.Fetch.{Fetch}
use Rattle.conditions.specs.declared.made.Asked.{Asked}
use Rattle.conf_eval.specs.declared.fault.LoadError.{LoadError}
use Rattle.conf_eval.specs.declared.fault.Loaded.{Loaded}
use Rattle.conf_eval.specs.Settings.{State}
use Rattle.conf_eval.specs.Calls.{Calls, no_calls}
use Rattle.conf_eval.specs.Parts.{Reply, Went, Stopped, Short, Strayed}
use Rattle.conf_eval.specs.Load.{Outcome, Ended, Unended, Astray, ends, ends_in, closes, has_root}
use Rattle.conf_eval.proofs.Placed.{no}

abbrev answer_of : Outcome → Option (Result Loaded LoadError)
answer_of (Ended x) = Some x
answer_of other = None

pub ended_same : (x y : Result Loaded LoadError) → Ended x ≡ Ended y → x ≡ y
ended_same x y p = ap (λ (o : Option (Result Loaded LoadError)). unwrap_or o x) (ap answer_of p)

unended : {P : Type 0} (x : Result Loaded LoadError) → Unended ≡ Ended x → P
unended x p = no (ap is_some (ap answer_of p))

astray : {P : Type 0} (x : Result Loaded LoadError) → Astray ≡ Ended x → P
astray x p = no (ap is_some (ap answer_of p))

-- all statements were taken, and no call is left
pub record Closed (reply : Reply) (x : Result Loaded LoadError) : Type 0 where
  pub state : State
  pub is : reply ≡ Went state no_calls
  pub answer : closes state (has_root state) ≡ x

-- or something stopped it
pub record Halted (reply : Reply) (x : Result Loaded LoadError) : Type 0 where
  pub why : LoadError
  pub is : reply ≡ Stopped why no_calls
  pub answer : Err why ≡ x

pub ended : (reply : Reply) (x : Result Loaded LoadError) → ends reply ≡ Ended x → Closed reply x ⊎ Halted reply x
ended (Went s calls) x p = by calls.texts calls.makes p
  where
    by : (texts : List Fetch) (makes : List Asked) → ends_in (Ended (closes s (has_root s))) texts makes ≡ Ended x
        → Closed (Went s (record { texts = texts; makes = makes })) x ⊎ Halted (Went s (record { texts = texts; makes = makes })) x
    by [] [] p = inl (record { state = s; is = refl; answer = ended_same (closes s (has_root s)) x p })
    by [] (m ∷ makes) p = astray x p
    by (c ∷ texts) makes p = astray x p
ended (Stopped y calls) x p = by calls.texts calls.makes p
  where
    by : (texts : List Fetch) (makes : List Asked) → ends_in (Ended (Err y)) texts makes ≡ Ended x
        → Closed (Stopped y (record { texts = texts; makes = makes })) x ⊎ Halted (Stopped y (record { texts = texts; makes = makes })) x
    by [] [] p = inr (record { why = y; is = refl; answer = ended_same (Err y) x p })
    by [] (m ∷ makes) p = astray x p
    by (c ∷ texts) makes p = astray x p
ended Short x p = unended x p
ended Strayed x p = astray x p

-- A part that was given no call is on its course: nothing was asked for that is not due.
use Rattle.std.proofs.Common.{◌≡◌, List, [], ◌∷◌, refl, sym, subst}
use Rattle.lt_world.specs.declared.texts.Fetch.{Fetch}
use Rattle.conditions.specs.declared.made.Asked.{Asked}
use Rattle.conf_eval.specs.Settings.{State}
use Rattle.conf_eval.specs.Calls.{Calls, no_calls}
use Rattle.conf_eval.specs.Parts.{Part, Reply, Went, Stopped, Short, Strayed, goes_on}
use Rattle.conf_eval.specs.Load.{Outcome, ends, ends_in}
use Rattle.conf_eval.specs.Answers.{OnCourse}
use Rattle.conf_eval.proofs.Induction.{Run, IsKept}

-- the run begins well: with no call it is on its course
abbrev pub BeginsBy : Run → Type 0
BeginsBy run = OnCourse (ends (run no_calls))

-- with no call, whatever was loaded before
abbrev pub Begins : Part → Type 0
Begins part = (s : State) → BeginsBy (part s)

pub is_on_course : {a b : Reply} → a ≡ b → OnCourse (ends b) → OnCourse (ends a)
is_on_course p h = subst (λ (r : Reply). OnCourse (ends r)) (sym p) h

-- a part on its course, and what comes after it
pub goes_course : (next : Part) → Begins next → (r : Reply) → OnCourse (ends r) → OnCourse (ends (goes_on r next))
goes_course next begins (Went s calls) h = by calls.texts calls.makes h
  where
    by : (texts : List Fetch) (makes : List Asked) → OnCourse (ends (Went s (record { texts = texts; makes = makes }))) → OnCourse (ends (next s (record { texts = texts; makes = makes })))
    by [] [] h = begins s
    by [] (m ∷ makes) h = absurd h
    by (c ∷ texts) makes h = absurd h
goes_course next begins (Stopped x calls) h = h
goes_course next begins Short h = tt
goes_course next begins Strayed h = absurd h

-- so each part of a load begins
pub beginning : IsKept BeginsBy
beginning = record {
  went = λ s. tt;
  fails = λ what file line plain. tt;
  goes = λ r next h begins. goes_course next begins (r no_calls) h;
  fetches = λ after held name s file line failed given. tt;
  makes = λ file line rule text s. tt;
}

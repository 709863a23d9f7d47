-- What a read into the room of a buffer leaves.
use Rattle.std.specs.Prelude.{◌≡◌, ℕ, ◌+◌, List, ◌++◌, length, take, drop, Result, OnOk, OnErr}

-- n bytes were asked for. What came is as the source says; `put` has what they make of the old value, which stays where none came
pub record Fills {S E X : Type 0} (reads : Result (Unit {0}) E → List ℕ → S → Type 0) (put : List ℕ → X) (old : X) (n : ℕ) (result : Result (Unit {0}) E) (new : X) (source : S) : Type 0 where
  pub bytes : List ℕ
  pub size : length bytes ≡ n
  pub answers : reads result bytes source
  pub ok : OnOk result (new ≡ put bytes)
  pub err : OnErr result (new ≡ old)

-- n bytes of a list from index `at` on are what was read, and the others are as they were
pub record ReadsInto {S E : Type 0} (reads : Result (Unit {0}) E → List ℕ → S → Type 0) (old : List ℕ) (at n : ℕ) (result : Result (Unit {0}) E) (new : List ℕ) (source : S) : Type 0 where
  pub bytes : List ℕ
  pub size : length bytes ≡ n
  pub answers : reads result bytes source
  pub list : new ≡ take at old ++ (bytes ++ drop (at + n) old)

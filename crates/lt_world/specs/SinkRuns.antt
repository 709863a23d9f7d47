-- What a sink in memory holds, what each write makes of it, and what it may become.
use Rattle.std.specs.Prelude.{◌≡◌, ℕ, ◌-◌, ◌<◌, ◌≤◌, min, List, [], ◌++◌, length, take, Option, Some, None, Bool, true, false, ◌==◌, ◌⊎◌, Result, Ok, Err}
use Rattle.std.proofs.Common.{le_refl, le_trans}
use Rattle.lt_world.specs.declared.fault.Fault.{Fault}
use Rattle.lt_world.specs.Plans.{next}

-- what a sink in memory holds
pub record Poured : Type 0 where
  pub bytes : List ℕ
  pub room : ℕ
  -- the number of the write that fails, and how many were made
  pub fails : Option ℕ
  pub made : ℕ
  pub faults : ℕ

-- a sink of this room, to which nothing was written
abbrev pub empty_sink : ℕ → Poured
empty_sink room = record { bytes = []; room = room; fails = None; made = 0; faults = 0 }

-- the write with this number is the planned one
abbrev pub due_at : Option ℕ → ℕ → Bool
due_at None made = false
due_at (Some nth) made = nth == made

-- the next write is the one that fails
abbrev pub is_due : Poured → Bool
is_due sink = due_at sink.fails sink.made

-- the sink after a write
abbrev pub after_write : Result ℕ Fault → List ℕ → Poured → Poured
after_write (Ok n) piece s = record s { bytes = s.bytes ++ take n piece; made = next s.made }
after_write (Err fault) piece s = record s { made = next s.made; faults = next s.faults }

-- a write takes what there is room for, and fails where its plan says so or a piece meets a full room
abbrev pub WritePlanned : Result ℕ Fault → ℕ → Poured → Type 0
WritePlanned (Ok n) size s = (is_due s ≡ false) × (n ≡ min (s.room - length s.bytes) size) × (0 < size → 0 < n)
WritePlanned (Err fault) size s = (is_due s ≡ true) ⊎ ((0 < size) × (s.room ≤ length s.bytes))

-- the writes that lead from a sink to another
pub data Pours : Poured → Poured → Type 0 where
  same : {a : Poured} → Pours a a
  writes : {a b : Poured} → Pours a b → (answer : Result ℕ Fault) (piece : List ℕ) → WritePlanned answer (length piece) b → Pours a (after_write answer piece b)

-- writes after writes are writes
pub Pours-more : (a b c : Poured) → Pours a b → Pours b c → Pours a c
Pours-more a b c ab same = ab
Pours-more a b c ab (writes bc answer piece planned) = writes (Pours-more _ _ _ ab bc) answer piece planned

-- what a sink in memory may become: some writes lead there, and its count of failures never falls
pub record SinkLater (a b : Poured) : Type 0 where
  pub leads : Pours a b
  pub faults : a.faults ≤ b.faults

-- a sink is later than itself
pub SinkLater-same : (a : Poured) → SinkLater a a
SinkLater-same a = record { leads = same; faults = le_refl a.faults }

-- what is later than something later is later
pub SinkLater-more : (a b c : Poured) → SinkLater a b → SinkLater b c → SinkLater a c
SinkLater-more a b c ab bc = record { leads = Pours-more a b c ab.leads bc.leads; faults = le_trans ab.faults bc.faults }

-- the law that the trait asks for
pub SinkLater-faults : (a b : Poured) → SinkLater a b → a.faults ≤ b.faults
SinkLater-faults a b later = later.faults

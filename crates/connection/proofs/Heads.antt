-- What bytes begin with is seen in the first of them.
use Rattle.std.proofs.Common.{◌≡◌, ℕ, ◌≤◌, List, length, take, drop, refl, ap, sym, ◌∙◌, subst, arith}
use Rattle.std.specs.Prelude.{Result, Ok, Err, IfOk}
use Rattle.std.proofs.lemmas.List.{length-take}
use Rattle.lt_bytes.specs.declared.memory.NoMemory.{NoMemory}
use Rattle.http_head.specs.declared.ends.HeadEnd.{HeadEnd}
use Rattle.http_head.specs.declared.ends.HeadEnd.TheVariants as end
use Rattle.http_head.specs.declared.refusal.HeadRefusal.{HeadRefusal}
use Rattle.http_head.specs.Ends.{head_end, IsWithin}
use Rattle.http_head.specs.Head.{head_of}
use Rattle.server_model.specs.Request.{Head, front_of, front_at, front_by}
use Rattle.connection.specs.declared.looking.Looked.{Looked}
use Rattle.connection.specs.declared.looking.Looked.TheVariants as looked
use Rattle.connection.specs.Looking.{looked_by, looked_at, front_with, taken_in, IsLooked}

-- what was found is what the bytes begin with
pub front_found : (e : HeadEnd) (bytes : List ℕ) → front_at e bytes ≡ front_with (looked_at e bytes) (drop (taken_in (looked_at e bytes)) bytes)
front_found end.NotYet bytes = refl
front_found end.TooLarge bytes = refl
front_found (end.At n) bytes = by (head_of (take n bytes))
  where
    by : (r : Result Head HeadRefusal) → front_by r (drop n bytes) ≡ front_with (looked_by n r) (drop (taken_in (looked_by n r)) bytes)
    by (Err refused) = refl
    by (Ok head) = refl

pub taken_within : (e : HeadEnd) (len : ℕ) (bytes : List ℕ) → IsWithin len e → taken_in (looked_at e bytes) ≤ len
taken_within end.NotYet len bytes within = omega arith
taken_within end.TooLarge len bytes within = omega arith
taken_within (end.At n) len bytes within = by (head_of (take n bytes))
  where
    by : (r : Result Head HeadRefusal) → taken_in (looked_by n r) ≤ len
    by (Err refused) = omega arith
    by (Ok head) = within.1

-- a head of n bytes
pub headed_by : (bytes part : List ℕ) (n : ℕ) (result : Result Looked NoMemory) → part ≡ take n bytes → n ≤ length bytes → IfOk result (λ found. found ≡ looked_by (length part) (head_of part))
    → IfOk result (λ found. found ≡ looked_by n (head_of (take n bytes)))
headed_by bytes part n (Err error) is fits found = tt
headed_by bytes part n (Ok x) is fits found =
    found ∙ ap (λ (l : List ℕ). looked_by (length l) (head_of l)) is ∙ ap (λ (m : ℕ). looked_by m (head_of (take n bytes))) (omega (arith, fits, length-take n bytes))

is_looked_at : (bytes : List ℕ) (e : HeadEnd) (found : Looked) → e ≡ head_end bytes → IsWithin (length bytes) e → found ≡ looked_at e bytes → IsLooked bytes found
unfolding front_of
is_looked_at bytes e found same within is =
    subst (IsLooked bytes) (sym is) (record { front = ap (λ (at : HeadEnd). front_at at bytes) (sym same) ∙ front_found e bytes; within = taken_within e (length bytes) bytes within })

-- without a head
pub looked_none : (bytes : List ℕ) (e : HeadEnd) → e ≡ head_end bytes → end.NotYet ≡ e → IsLooked bytes looked.Unfinished
looked_none bytes e same is = is_looked_at bytes end.NotYet looked.Unfinished (is ∙ same) tt refl

pub looked_large : (bytes : List ℕ) (e : HeadEnd) → e ≡ head_end bytes → end.TooLarge ≡ e → IsLooked bytes (looked.Refused 431)
looked_large bytes e same is = is_looked_at bytes end.TooLarge (looked.Refused 431) (is ∙ same) tt refl

-- a whole head
pub looked_whole : (bytes : List ℕ) (n : ℕ) (result : Result Looked NoMemory) → end.At n ≡ head_end bytes → IsWithin (length bytes) (end.At n) → IfOk result (λ found. found ≡ looked_by n (head_of (take n bytes)))
    → IfOk result (IsLooked bytes)
looked_whole bytes n (Err error) same within found = tt
looked_whole bytes n (Ok x) same within found = is_looked_at bytes (end.At n) x same within found

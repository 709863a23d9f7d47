-- What calls of files make of the table of opened files, and what the list of calls says.
use Rattle.std.proofs.Common.{◌≡◌, ◌≢◌, ℕ, ◌+◌, ◌<◌, List, [], ◌∷◌, Bool, true, false, Some, None, if◌then◌else◌, ◌&&◌, ◌==◌, refl, sym, ◌∙◌, ap, arith}
use Rattle.std.proofs.lemmas.Bool.Decides.{nat_tests}
use Rattle.lt_world.specs.declared.files.FileCall.{FileCall}
use Rattle.lt_world.specs.declared.files.FileCall.TheVariants as call
use Rattle.lt_world.specs.declared.files.Call.{Call}
use Rattle.lt_world.specs.declared.net.Owner.{Owner}
use Rattle.lt_world.specs.Disk.{Table, Disk, with_file, without_file, opened, released, HasRange, is_kind, is_owner, count, Logged, log_of, is_logged, own_calls}

pub opened_own : (file : ℕ) (bytes : List ℕ) (table : Table) → with_file file bytes table file ≡ Some bytes
opened_own file bytes table = grind (arith, nat_tests)

pub opened_other : (file other : ℕ) (bytes : List ℕ) (table : Table) → other ≢ file → with_file file bytes table other ≡ table other
opened_other file other bytes table apart = grind (arith, nat_tests)

pub released_own : (file : ℕ) (table : Table) → without_file file table file ≡ None
released_own file table = grind (arith, nat_tests)

pub released_other : (file other : ℕ) (table : Table) → other ≢ file → without_file file table other ≡ table other
released_other file other table apart = grind (arith, nat_tests)

-- opened under a number that was free, and released: as before
pub released-opened : (file : ℕ) (bytes : List ℕ) (table : Table) → table file ≡ None → without_file file (with_file file bytes table) ≡ table
released-opened file bytes table free = λ i other. at other i
  where
    at : (other : ℕ) → without_file file (with_file file bytes table) other ≡ table other
    at other = grind (arith, nat_tests, free)

-- a range of one file stays where another is opened or released
pub range_opened : (disk : Disk) (file other : ℕ) (bytes : List ℕ) (start len : ℕ) → other ≢ file → HasRange disk other start len → HasRange (opened file bytes disk) other start len
range_opened disk file other bytes start len apart has = (has.0, opened_other file other bytes disk.table apart ∙ has.1, has.2)

pub range_released : (disk : Disk) (file other : ℕ) (start len : ℕ) → other ≢ file → HasRange disk other start len → HasRange (released file disk) other start len
range_released disk file other start len apart has = (has.0, released_other file other disk.table apart ∙ has.1, has.2)

-- a failed call is logged under the number of the calls before it
pub logged_own : (what : FileCall) (owner : Owner) (calls : List Call)
    → is_logged what owner (count what owner calls) (log_of (record { kind = what; owner = owner; failed = true } ∷ calls)) ≡ true
logged_own what owner calls = ap (λ b. if b then true else is_logged what owner (count what owner calls) (log_of calls)) (both (is_kind what what) (is_owner owner owner) (count what owner calls == count what owner calls) (kind_same what) (owner_same owner) (grind (arith, nat_tests)))
  where
    both : (a b c : Bool) → a ≡ true → b ≡ true → c ≡ true → (a && b && c) ≡ true
    both true true true x y z = refl
    both false b c x y z = absurd (cc (x))
    both true false c x y z = absurd (cc (y))
    both true true false x y z = absurd (cc (z))

    kind_same : (what : FileCall) → is_kind what what ≡ true
    kind_same call.Find = refl
    kind_same call.Open = refl
    kind_same call.Read = refl

    owner_same : (owner : Owner) → is_owner owner owner ≡ true
    owner_same owner = grind (arith, nat_tests)

kind_is : (a b : FileCall) → is_kind a b ≡ true → a ≡ b
kind_is call.Find call.Find is = refl
kind_is call.Open call.Open is = refl
kind_is call.Read call.Read is = refl
kind_is call.Find call.Open is = absurd (cc (is))
kind_is call.Find call.Read is = absurd (cc (is))
kind_is call.Open call.Find is = absurd (cc (is))
kind_is call.Open call.Read is = absurd (cc (is))
kind_is call.Read call.Find is = absurd (cc (is))
kind_is call.Read call.Open is = absurd (cc (is))

number_is : (a b : ℕ) → (a == b) ≡ true → a ≡ b
number_is a b is = grind (arith, nat_tests, is)

owner_is : (a b : Owner) → is_owner a b ≡ true → a ≡ b
owner_is a b is = both (a.conn == b.conn) (a.request == b.request) is (number_is a.conn b.conn) (number_is a.request b.request)
  where
    both : (x y : Bool) → (x && y) ≡ true → (x ≡ true → a.conn ≡ b.conn) → (y ≡ true → a.request ≡ b.request) → a ≡ b
    both true true is f g = λ i. record { conn = f refl i; request = g refl i }
    both true false is f g = absurd (cc (is))
    both false y is f g = absurd (cc (is))

-- a call of this kind and owner, or none
count_same : (c : Call) (what : FileCall) (owner : Owner) (calls : List Call) → is_kind c.kind what ≡ true → is_owner c.owner owner ≡ true → count c.kind c.owner calls ≡ count what owner calls
count_same c what owner calls k o = λ i. count (kind_is c.kind what k i) (owner_is c.owner owner o i) calls

out_logged : (f : Bool) (what : FileCall) (owner : Owner) (nth : ℕ) (e : Logged) (log : List Logged) → is_logged what owner nth (if f then e ∷ log else log) ≡ (if f then is_logged what owner nth (e ∷ log) else is_logged what owner nth log)
out_logged true what owner nth e log = refl
out_logged false what owner nth e log = refl

below_by : (f k o : Bool) (m n nth : ℕ) (old : Bool) → (k ≡ true → o ≡ true → m ≡ n) → (old ≡ true → nth < n)
    → (if f then (if k && o && m == nth then true else old) else old) ≡ true → nth < (if k && o then n + 1 else n)
below_by true true true m n nth old same below is = last (m == nth) (number_is m nth) is
  where
    last : (b : Bool) → (b ≡ true → m ≡ nth) → (if b then true else old) ≡ true → nth < n + 1
    last true h is = omega (arith, h refl, same refl refl)
    last false h is = omega (arith, below is)
below_by true true false m n nth old same below is = below is
below_by true false o m n nth old same below is = below is
below_by false true true m n nth old same below is = omega (arith, below is)
below_by false true false m n nth old same below is = below is
below_by false false o m n nth old same below is = below is

-- only calls that were counted are in the log, each under a number below the count
pub logged_below : (what : FileCall) (owner : Owner) (nth : ℕ) (calls : List Call) → is_logged what owner nth (log_of calls) ≡ true → nth < count what owner calls
logged_below what owner nth [] is = absurd (cc (is))
logged_below what owner nth (c ∷ calls) is =
    below_by c.failed (is_kind c.kind what) (is_owner c.owner owner) (count c.kind c.owner calls) (count what owner calls) nth (is_logged what owner nth (log_of calls)) (count_same c what owner calls) (logged_below what owner nth calls)
    (sym (out_logged c.failed what owner nth (record { owner = c.owner; kind = c.kind; nth = count c.kind c.owner calls }) (log_of calls)) ∙ is)

count_if : (b k r : Bool) (what : FileCall) (owner : Owner) (c : Call) (calls : List Call) (n : ℕ) → (is_kind c.kind what && is_owner c.owner owner) ≡ (k && (b && r)) → count what owner calls ≡ n
    → count what owner (if b then c ∷ calls else calls) ≡ (if k && (b && r) then n + 1 else n)
count_if true k r what owner c calls n is same = λ i. if is i then same i + 1 else same i
count_if false true r what owner c calls n is same = same
count_if false false r what owner c calls n is same = same

-- the calls for a client say all of its own counts
pub count-own : (what : FileCall) (owner : Owner) (calls : List Call) → count what owner (own_calls owner.conn calls) ≡ count what owner calls
count-own what owner [] = refl
count-own what owner (c ∷ calls) = count_if (c.owner.conn == owner.conn) (is_kind c.kind what) (c.owner.request == owner.request) what owner c (own_calls owner.conn calls) (count what owner calls) refl (count-own what owner calls)

own_if : (b : Bool) (what : FileCall) (owner : Owner) (nth : ℕ) (c : Call) (calls : List Call) → is_logged what owner nth (log_of (if b then c ∷ calls else calls)) ≡ (if b then is_logged what owner nth (log_of (c ∷ calls)) else is_logged what owner nth (log_of calls))
own_if true what owner nth c calls = refl
own_if false what owner nth c calls = refl

log_by : (f k b r : Bool) (x y nth : ℕ) (old : Bool) → (b ≡ true → x ≡ y)
    → (if b then (if f then (if (k && (b && r)) && x == nth then true else old) else old) else old) ≡ (if f then (if (k && (b && r)) && y == nth then true else old) else old)
log_by true true true true x y nth old same = ap (λ (n : ℕ). if n == nth then true else old) (same refl)
log_by true true true false x y nth old same = refl
log_by true false true r x y nth old same = refl
log_by true true false r x y nth old same = refl
log_by true false false r x y nth old same = refl
log_by false k true r x y nth old same = refl
log_by false k false r x y nth old same = refl

logged_if : (what : FileCall) (owner : Owner) (nth : ℕ) (c : Call) (calls : List Call) (old : Bool) → is_logged what owner nth (log_of calls) ≡ old
    → is_logged what owner nth (log_of (c ∷ calls)) ≡ (if c.failed then (if (is_kind c.kind what && is_owner c.owner owner) && count c.kind c.owner calls == nth then true else old) else old)
logged_if what owner nth c calls old is =
    out_logged c.failed what owner nth (record { owner = c.owner; kind = c.kind; nth = count c.kind c.owner calls }) (log_of calls)
    ∙ ap (λ l. if c.failed then (if (is_kind c.kind what && is_owner c.owner owner) && count c.kind c.owner calls == nth then true else l) else l) is

-- and all of its own log
pub log-own : (what : FileCall) (owner : Owner) (nth : ℕ) (calls : List Call) → is_logged what owner nth (log_of (own_calls owner.conn calls)) ≡ is_logged what owner nth (log_of calls)
log-own what owner nth [] = refl
log-own what owner nth (c ∷ calls) =
    own_if (c.owner.conn == owner.conn) what owner nth c (own_calls owner.conn calls)
    ∙ (λ i. if c.owner.conn == owner.conn then logged_if what owner nth c (own_calls owner.conn calls) (is_logged what owner nth (log_of calls)) (log-own what owner nth calls) i else log-own what owner nth calls i)
    ∙ log_by c.failed (is_kind c.kind what) (c.owner.conn == owner.conn) (c.owner.request == owner.request) (count c.kind c.owner (own_calls owner.conn calls)) (count c.kind c.owner calls) nth (is_logged what owner nth (log_of calls))
    (λ same. (λ i. count c.kind c.owner (own_calls (sym (number_is c.owner.conn owner.conn same) i) calls)) ∙ count-own c.kind c.owner calls)
    ∙ sym (logged_if what owner nth c calls (is_logged what owner nth (log_of calls)) refl)

-- nothing is logged where nothing was counted
pub quiet : (what : FileCall) (owner : Owner) (nth : ℕ) (calls : List Call) → count what owner calls ≡ 0 → is_logged what owner nth (log_of calls) ≡ false
quiet what owner nth calls none = off (is_logged what owner nth (log_of calls)) (logged_below what owner nth calls)
  where
    off : (b : Bool) → (b ≡ true → nth < count what owner calls) → b ≡ false
    off false h = refl
    off true h = absurd (omega (arith, h refl, none))

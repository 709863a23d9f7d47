-- What a further call on files changes of what the calls say: nothing but for its own request.
use Rattle.std.proofs.Common.{◌≡◌, ◌≢◌, ℕ, ◌+◌, ◌<◌, ◌≤◌, List, ◌∷◌, Bool, true, false, ◌&&◌, ◌==◌, if◌then◌else◌, refl, ◌∙◌, ap, arith}
use Rattle.std.proofs.lemmas.Bool.Decides.{nat_tests}
use Rattle.lt_world.specs.declared.files.Call.{Call}
use Rattle.lt_world.specs.declared.files.FileCall.{FileCall}
use Rattle.lt_world.specs.declared.files.FileCall.TheVariants as call
use Rattle.lt_world.specs.declared.net.Owner.{Owner}
use Rattle.lt_world.specs.Disk.{Disk, asked, is_kind, is_owner, count, own_calls, Logged, log_of, is_logged}
use Rattle.lt_world.proofs.Disks.{logged_below}
use Rattle.server_model.specs.Site.{Site}
use Rattle.server_model.specs.World.{Side, World, world_at, owner_at, call_count, has_failed_call, with_call}

pub own_same : (client : ℕ) (c : Call) (calls : List Call) → c.owner.conn ≡ client → own_calls client (c ∷ calls) ≡ c ∷ own_calls client calls
own_same client c calls is = grind (arith, nat_tests, is)

pub own_other : (client : ℕ) (c : Call) (calls : List Call) → c.owner.conn ≢ client → own_calls client (c ∷ calls) ≡ own_calls client calls
own_other client c calls apart = grind (arith, nat_tests, apart)

pub same_owner : (owner : Owner) → is_owner owner owner ≡ true
same_owner owner = grind (arith, nat_tests)

pub other_owner : (owner : Owner) (client k : ℕ) → owner.request ≢ k → is_owner owner (record { conn = client; request = k }) ≡ false
other_owner owner client k apart = grind (arith, nat_tests, apart)

pub and_false : (b : Bool) → (b && false) ≡ false
and_false true = refl
and_false false = refl

module _ (what : FileCall) (owner : Owner) (nth : ℕ) where
  log_by : Bool → Logged → List Logged → Bool
  log_by failed e log = is_logged what owner nth (if failed then e ∷ log else log)

  -- a call that isn't such a one
  pub unlogged : (c : Call) (calls : List Call) → (is_kind c.kind what && is_owner c.owner owner) ≡ false → is_logged what owner nth (log_of (c ∷ calls)) ≡ is_logged what owner nth (log_of calls)
  unlogged c calls isnt = by c.failed
    where
      by : (failed : Bool) → is_logged what owner nth (if failed then record { owner = c.owner; kind = c.kind; nth = count c.kind c.owner calls } ∷ log_of calls else log_of calls) ≡ is_logged what owner nth (log_of calls)
      by true = ap (λ t. if t && count c.kind c.owner calls == nth then true else is_logged what owner nth (log_of calls)) isnt
      by false = refl

same_number : (n : ℕ) → (n == n) ≡ true
same_number n = grind (arith, nat_tests)

-- no call with this number was made yet
pub unlogged_yet : (what : FileCall) (owner : Owner) (nth : ℕ) (calls : List Call) → count what owner calls ≤ nth → is_logged what owner nth (log_of calls) ≡ false
unlogged_yet what owner nth calls few = off (is_logged what owner nth (log_of calls)) (logged_below what owner nth calls)
  where
    off : (b : Bool) → (b ≡ true → nth < count what owner calls) → b ≡ false
    off false h = refl
    off true h = absurd (omega (arith, h refl, few))

-- the newest call, where so many of its kind came before it for its owner
pub newest : (what : FileCall) (owner : Owner) (failed : Bool) (n : ℕ) (calls : List Call) → is_kind what what ≡ true → count what owner calls ≡ n → is_logged what owner n (log_of (record { kind = what; owner = owner; failed = failed } ∷ calls)) ≡ failed
newest what owner true n calls kind is =
    (λ i. if kind i && same_owner owner i && is i == n then true else is_logged what owner n (log_of calls))
    ∙ ap (λ t. if t then true else is_logged what owner n (log_of calls)) (same_number n)
newest what owner false n calls kind is = unlogged_yet what owner n calls (omega (arith, is))

-- a call that the files tell is one of the client's world
pub asked_is : (site : Site) (disk : Disk) (client k : ℕ) (side : Side) (what : FileCall) (owner : Owner) (failed : Bool) → owner.conn ≡ client → owner.request ≡ k
    → world_at site (asked what owner failed disk) client side ≡ with_call what k failed (world_at site disk client side)
asked_is site disk client k side what owner failed conn request =
    ap (λ (calls : List Call). record { client = client; site = site; side = side; tree = disk.tree; calls = calls }) (own_same client (record { kind = what; owner = owner; failed = failed }) disk.calls conn)
    ∙ (λ i. record { client = client; site = site; side = side; tree = disk.tree; calls = record { kind = what; owner = record { conn = conn i; request = request i }; failed = failed } ∷ own_calls client disk.calls })

pub asked_other : (site : Site) (disk : Disk) (client : ℕ) (side : Side) (what : FileCall) (owner : Owner) (failed : Bool) → owner.conn ≢ client → world_at site (asked what owner failed disk) client side ≡ world_at site disk client side
asked_other site disk client side what owner failed apart =
    ap (λ (calls : List Call). record { client = client; site = site; side = side; tree = disk.tree; calls = calls }) (own_other client (record { kind = what; owner = owner; failed = failed }) disk.calls apart)

module _ (world : World) (k : ℕ) where
  pub count_other : (made : FileCall) (failed : Bool) (j : ℕ) (what : FileCall) → k ≢ j → call_count (with_call made k failed world) j what ≡ call_count world j what
  count_other made failed j what apart =
      ap (λ t. if is_kind made what && t then call_count world j what + 1 else call_count world j what) (other_owner (owner_at world k) world.client j apart)
      ∙ ap (λ t. if t then call_count world j what + 1 else call_count world j what) (and_false (is_kind made what))

  -- one more call for it
  pub count_more : (what : FileCall) (failed : Bool) → is_kind what what ≡ true → call_count (with_call what k failed world) k what ≡ call_count world k what + 1
  count_more what failed kind = (λ i. if kind i && same_owner (owner_at world k) i then call_count world k what + 1 else call_count world k what)

  -- after a find behind so many others
  pub find_failed : (n : ℕ) (failed : Bool) → call_count world k call.Find ≡ n → has_failed_call (with_call call.Find k failed world) k call.Find n ≡ failed
  find_failed n failed is = newest call.Find (owner_at world k) failed n world.calls refl is

  pub unopened : (n : ℕ) (failed : Bool) → call_count world k call.Open ≡ n → has_failed_call (with_call call.Find k failed world) k call.Open n ≡ false
  unopened n failed is =
      unlogged call.Open (owner_at world k) n (record { kind = call.Find; owner = owner_at world k; failed = failed }) world.calls refl
      ∙ unlogged_yet call.Open (owner_at world k) n world.calls (omega (arith, is))

  pub still_unopened : (failed : Bool) → call_count (with_call call.Find k failed world) k call.Open ≡ call_count world k call.Open
  still_unopened failed = refl

  -- and after an open
  pub open_failed : (n : ℕ) (failed opened : Bool) → call_count world k call.Open ≡ n → has_failed_call (with_call call.Open k opened (with_call call.Find k failed world)) k call.Open n ≡ opened
  open_failed n failed opened is = newest call.Open (owner_at world k) opened n (with_call call.Find k failed world).calls refl is

  pub find_stays : (n : ℕ) (failed opened : Bool) → call_count world k call.Find ≡ n → has_failed_call (with_call call.Open k opened (with_call call.Find k failed world)) k call.Find n ≡ failed
  find_stays n failed opened is = unlogged call.Find (owner_at world k) n (record { kind = call.Open; owner = owner_at world k; failed = opened }) (with_call call.Find k failed world).calls refl ∙ find_failed n failed is

-- The bytes of all clients are those of all writes to them.
use Rattle.std.proofs.Common.{◌≡◌, ℕ, zero, suc, ◌+◌, ◌<◌, ◌≤◌, Bool, true, false, List, [], ◌∷◌, length, refl, ap, sym, ◌∙◌, arith, length-append, ◌==◌, if◌then◌else◌}
use Rattle.std.specs.List.{range_with_len, sum_by}
use Rattle.std.proofs.lemmas.Bool.Decides.{nat_tests}
use Rattle.std.proofs.lemmas.List.Sums.{sum_by-cons}
use Rattle.lt_world.specs.Trace.{Act, Entry, own, link_bound, Accepted, Readable, Writable, Read, ReadEnd, NotYet, Failed, Wrote, Connect, Close}
use Rattle.lt_world.specs.Acts.{output_of}
use Rattle.script_gen.specs.Laws.{taken_by, BytesAreOfAllWrites}
use Rattle.script_net.specs.Arrivals.{has_arrived}

-- an act adds what it took
output_more : (act : Act) (acts : List Act) → length (output_of (act ∷ acts)) ≡ length (output_of acts) + taken_by act
output_more (Wrote offered bytes) acts = length-append (output_of acts) bytes
output_more (Accepted peer local) acts = omega arith
output_more Readable acts = omega arith
output_more Writable acts = omega arith
output_more (Read asked bytes) acts = omega arith
output_more ReadEnd acts = omega arith
output_more (NotYet way) acts = omega arith
output_more (Failed way) acts = omega arith
output_more (Connect owner to link) acts = omega arith
output_more (Close ending) acts = omega arith

-- two sums whose terms differ at one number alone

abbrev DifferAt : ℕ → ℕ → (ℕ → ℕ) → (ℕ → ℕ) → Type 0
DifferAt at more f g = (k : ℕ) → f k ≡ (if at == k then g k + more else g k)

sum_past : (first n at more : ℕ) (f g : ℕ → ℕ) → DifferAt at more f g → at < first → sum_by f (range_with_len first n) ≡ sum_by g (range_with_len first n)
sum_past first zero at more f g differ past = refl
sum_past first (suc n) at more f g differ past =
    let other : (at == first) ≡ false = grind (arith, nat_tests, past) in
    let here : f first ≡ g first = differ first ∙ ap (λ (t : Bool). if t then g first + more else g first) other in
    sum_by-cons f first (range_with_len (first + 1) n) ∙ omega (arith, here, sum_past (first + 1) n at more f g differ (omega (arith, past))) ∙ sym (sum_by-cons g first (range_with_len (first + 1) n))

sum_by_test : (t : Bool) (first n at more : ℕ) (f g : ℕ → ℕ) → (at == first) ≡ t → DifferAt at more f g → first ≤ at → at < first + suc n
    → (first + 1 ≤ at → sum_by f (range_with_len (first + 1) n) ≡ sum_by g (range_with_len (first + 1) n) + more)
    → sum_by f (range_with_len first (suc n)) ≡ sum_by g (range_with_len first (suc n)) + more
sum_by_test true first n at more f g test differ low high rest =
    let here : f first ≡ g first + more = differ first ∙ ap (λ (t : Bool). if t then g first + more else g first) test in
    let same : at ≡ first = grind (arith, nat_tests, test) in
    sum_by-cons f first (range_with_len (first + 1) n) ∙ omega (arith, here, sum_past (first + 1) n at more f g differ (omega (arith, same)), sum_by-cons g first (range_with_len (first + 1) n))
sum_by_test false first n at more f g test differ low high rest =
    let here : f first ≡ g first = differ first ∙ ap (λ (t : Bool). if t then g first + more else g first) test in
    let above : first + 1 ≤ at = grind (arith, nat_tests, test, low) in
    sum_by-cons f first (range_with_len (first + 1) n) ∙ omega (arith, here, rest above, sum_by-cons g first (range_with_len (first + 1) n))

sum_at : (first n at more : ℕ) (f g : ℕ → ℕ) → DifferAt at more f g → first ≤ at → at < first + n → sum_by f (range_with_len first n) ≡ sum_by g (range_with_len first n) + more
sum_at first zero at more f g differ low high = absurd (omega (arith, low, high))
sum_at first (suc n) at more f g differ low high =
    sum_by_test (at == first) first n at more f g refl differ low high (λ above. sum_at (first + 1) n at more f g differ above (omega (arith, high)))

-- one entry more, where the links count that this picks

abbrev only : Bool → ℕ → ℕ
only b n = if b then n else 0

own_by : (b t : Bool) (act : Act) (acts : List Act) → only b (length (output_of (if t then act ∷ acts else acts))) ≡ (if t then only b (length (output_of acts)) + only b (taken_by act) else only b (length (output_of acts)))
own_by true true act acts = output_more act acts
own_by true false act acts = refl
own_by false true act acts = refl
own_by false false act acts = refl

differ_by : (picks : ℕ → Bool) (entry : Entry) (acts : List Act) (k : ℕ) (t : Bool) → (entry.link == k) ≡ t
    → only (picks k) (length (output_of (if t then entry.act ∷ acts else acts))) ≡ (if t then only (picks k) (length (output_of acts)) + only (picks entry.link) (taken_by entry.act) else only (picks k) (length (output_of acts)))
differ_by picks entry acts k true test =
    let same : k ≡ entry.link = grind (arith, nat_tests, test) in
    own_by (picks k) true entry.act acts ∙ ap (λ (at : ℕ). only (picks k) (length (output_of acts)) + only (picks at) (taken_by entry.act)) same
differ_by picks entry acts k false test = refl

only_none : (b : Bool) → only b 0 ≡ 0
only_none true = refl
only_none false = refl

none_below : (picks : ℕ → Bool) (first n : ℕ) → sum_by (λ (link : ℕ). only (picks link) 0) (range_with_len first n) ≡ 0
none_below picks first zero = refl
none_below picks first (suc n) = sum_by-cons (λ (link : ℕ). only (picks link) 0) first (range_with_len (first + 1) n) ∙ omega (arith, none_below picks (first + 1) n, only_none (picks first))

all_below : (picks : ℕ → Bool) (trace : List Entry) (n : ℕ) → link_bound trace ≤ n
    → sum_by (λ (link : ℕ). only (picks link) (length (output_of (own link trace)))) (range_with_len 0 n) ≡ sum_by (λ (entry : Entry). only (picks entry.link) (taken_by entry.act)) trace
all_below picks [] n few = none_below picks 0 n
all_below picks (entry ∷ trace) n few =
    sum_at 0 n entry.link (only (picks entry.link) (taken_by entry.act)) (λ link. only (picks link) (length (output_of (own link (entry ∷ trace))))) (λ link. only (picks link) (length (output_of (own link trace))))
    (λ link. differ_by picks entry (own link trace) link (entry.link == link) refl) (omega arith) (grind (arith, few))
    ∙ omega (arith, all_below picks trace n (grind (arith, few)), sum_by-cons (λ (e : Entry). only (picks e.link) (taken_by e.act)) entry trace)

pub of_all_writes : BytesAreOfAllWrites
of_all_writes trace = all_below (λ link. has_arrived (own link trace)) trace (link_bound trace) (omega arith)

-- The numbers of the buffers of three queues, where a call changes some of them.
use Rattle.std.proofs.Common.{◌≡◌, ℕ, ◌+◌, List, [], ◌++◌, length, length-append, subst, sym, arith}
use Rattle.std.proofs.lemmas.List.{append-nil}
use Rattle.buffer_pool.specs.State.{PoolState}
use Rattle.buffer_pool.specs.Kept.{Kept, places}
use Rattle.buffer_pool.proofs.Keeping.{places_append, kept_both}

-- all numbers are these and those, in whichever order
record Joins (beside part all : List ℕ) : Type 0 where
  long : length all ≡ length beside + length part
  same : (n : ℕ) → places n all ≡ places n beside + places n part

-- a part of all numbers is changed
kept_part : (p q : PoolState) (beside part new all after : List ℕ) → Kept p part q new → Joins beside part all → Joins beside new after → Kept p all q after
kept_part p q beside part new all after one was is = record {
  rises = one.rises;
  counts = λ n. omega (arith, one.counts n, was.same n, is.same n);
  total = omega (arith, one.total, was.long, is.long);
}

joins_first : (a b c : List ℕ) → Joins (b ++ c) a (a ++ (b ++ c))
joins_first a b c = record {
  long = omega (arith, length-append a (b ++ c));
  same = λ n. omega (arith, places_append n a (b ++ c));
}

joins_two : (a b : List ℕ) → Joins b a (a ++ b)
joins_two a b = record {
  long = omega (arith, length-append a b);
  same = λ n. omega (arith, places_append n a b);
}

joins_third : (a b c : List ℕ) → Joins (a ++ b) c (a ++ (b ++ c))
joins_third a b c = record {
  long = omega (arith, length-append a (b ++ c), length-append b c, length-append a b);
  same = λ n. omega (arith, places_append n a (b ++ c), places_append n b c, places_append n a b);
}

-- the second before the first
joins_both : (a b c : List ℕ) → Joins c (b ++ a) (a ++ (b ++ c))
joins_both a b c = record {
  long = omega (arith, length-append a (b ++ c), length-append b c, length-append b a);
  same = λ n. omega (arith, places_append n a (b ++ c), places_append n b c, places_append n b a);
}

-- the first queue is changed, of all numbers that are held
pub first_kept : (p q : PoolState) (all a b c new : List ℕ) → a ++ (b ++ c) ≡ all → Kept p a q new → Kept p all q (new ++ (b ++ c))
first_kept p q all a b c new is one =
    subst (λ (ns : List ℕ). Kept p ns q (new ++ (b ++ c))) is (kept_part p q (b ++ c) a new (a ++ (b ++ c)) (new ++ (b ++ c)) one (joins_first a b c) (joins_first new b c))

-- the third
pub third_kept : (p q : PoolState) (all a b c new : List ℕ) → a ++ (b ++ c) ≡ all → Kept p c q new → Kept p all q (a ++ (b ++ new))
third_kept p q all a b c new is one =
    subst (λ (ns : List ℕ). Kept p ns q (a ++ (b ++ new))) is (kept_part p q (a ++ b) c new (a ++ (b ++ c)) (a ++ (b ++ new)) one (joins_third a b c) (joins_third a b new))

-- the second takes from the first
pub fed_kept : (p q : PoolState) (all a b c a' b' : List ℕ) → a ++ (b ++ c) ≡ all → Kept p (b ++ a) q (b' ++ a') → Kept p all q (a' ++ (b' ++ c))
fed_kept p q all a b c a' b' is one =
    subst (λ (ns : List ℕ). Kept p ns q (a' ++ (b' ++ c))) is (kept_part p q c (b ++ a) (b' ++ a') (a ++ (b ++ c)) (a' ++ (b' ++ c)) one (joins_both a b c) (joins_both a' b' c))

-- another queue takes all of the second
joins_taken : (a b c into : List ℕ) → Joins (a ++ c) (into ++ b) ((a ++ (b ++ c)) ++ into)
joins_taken a b c into = record {
  long = omega (arith, length-append (a ++ (b ++ c)) into, length-append a (b ++ c), length-append b c, length-append a c, length-append into b);
  same = λ n. omega (arith, places_append n (a ++ (b ++ c)) into, places_append n a (b ++ c), places_append n b c, places_append n a c, places_append n into b);
}

pub taken_kept : (p q : PoolState) (all a b c into b' into' : List ℕ) → a ++ (b ++ c) ≡ all → Kept p (into ++ b) q into' → b' ≡ [] → Kept p (all ++ into) q ((a ++ (b' ++ c)) ++ into')
taken_kept p q all a b c into b' into' is one none =
    subst (λ (ns : List ℕ). Kept p (ns ++ into) q ((a ++ (b' ++ c)) ++ into')) is
    (subst (λ (ns : List ℕ). Kept p ((a ++ (b ++ c)) ++ into) q ((a ++ (ns ++ c)) ++ into')) (sym none)
    (kept_part p q (a ++ c) (into ++ b) (into' ++ []) ((a ++ (b ++ c)) ++ into) ((a ++ ([] ++ c)) ++ into') (subst (λ (ns : List ℕ). Kept p (into ++ b) q ns) (sym (append-nil into')) one) (joins_taken a b c into) (joins_taken a [] c into')))

-- bytes come behind the third, and then a whole queue
joins_pushed : (a b c given : List ℕ) → Joins ((a ++ b) ++ given) c ((a ++ (b ++ c)) ++ given)
joins_pushed a b c given = record {
  long = omega (arith, length-append (a ++ (b ++ c)) given, length-append a (b ++ c), length-append b c, length-append (a ++ b) given, length-append a b);
  same = λ n. omega (arith, places_append n (a ++ (b ++ c)) given, places_append n a (b ++ c), places_append n b c, places_append n (a ++ b) given, places_append n a b);
}

joins_joined : (a b c given : List ℕ) → Joins (a ++ b) (c ++ given) ((a ++ (b ++ c)) ++ given)
joins_joined a b c given = record {
  long = omega (arith, length-append (a ++ (b ++ c)) given, length-append a (b ++ c), length-append b c, length-append a b, length-append c given);
  same = λ n. omega (arith, places_append n (a ++ (b ++ c)) given, places_append n a (b ++ c), places_append n b c, places_append n a b, places_append n c given);
}

joins_emptied : (a b c given : List ℕ) → Joins ((a ++ c) ++ given) b ((a ++ (b ++ c)) ++ given)
joins_emptied a b c given = record {
  long = omega (arith, length-append (a ++ (b ++ c)) given, length-append a (b ++ c), length-append b c, length-append (a ++ c) given, length-append a c);
  same = λ n. omega (arith, places_append n (a ++ (b ++ c)) given, places_append n a (b ++ c), places_append n b c, places_append n (a ++ c) given, places_append n a c);
}

pub pushed_kept : (p q : PoolState) (all a b c given c' : List ℕ) → a ++ (b ++ c) ≡ all → Kept p c q c' → Kept p (all ++ given) q ((a ++ (b ++ c')) ++ given)
pushed_kept p q all a b c given c' is one =
    subst (λ (ns : List ℕ). Kept p (ns ++ given) q ((a ++ (b ++ c')) ++ given)) is
    (kept_part p q ((a ++ b) ++ given) c c' ((a ++ (b ++ c)) ++ given) ((a ++ (b ++ c')) ++ given) one (joins_pushed a b c given) (joins_pushed a b c' given))

-- and the second is emptied
pub answer_kept : (p q r t : PoolState) (all a b c given c' joined left b' : List ℕ) → a ++ (b ++ c) ≡ all → Kept p c q c' → Kept q (c' ++ given) r joined → left ≡ [] → Kept r b t [] → b' ≡ []
    → Kept p (all ++ given) t ((a ++ (b' ++ joined)) ++ left)
answer_kept p q r t all a b c given c' joined left b' is push join none gone empty =
    subst (λ (ns : List ℕ). Kept p (all ++ given) t ((a ++ (b' ++ joined)) ++ ns)) (sym none)
    (subst (λ (ns : List ℕ). Kept p (all ++ given) t ((a ++ (ns ++ joined)) ++ [])) (sym empty)
    (kept_both p q t (all ++ given) ((a ++ (b ++ c')) ++ given) ((a ++ ([] ++ joined)) ++ []) (pushed_kept p q all a b c given c' is push)
    (kept_both q r t ((a ++ (b ++ c')) ++ given) ((a ++ (b ++ joined)) ++ []) ((a ++ ([] ++ joined)) ++ [])
    (kept_part q r (a ++ b) (c' ++ given) (joined ++ []) ((a ++ (b ++ c')) ++ given) ((a ++ (b ++ joined)) ++ []) (subst (λ (ns : List ℕ). Kept q (c' ++ given) r ns) (sym (append-nil joined)) join) (joins_joined a b c' given) (joins_joined a b joined []))
    (kept_part r t ((a ++ joined) ++ []) b [] ((a ++ (b ++ joined)) ++ []) ((a ++ ([] ++ joined)) ++ []) gone (joins_emptied a b joined []) (joins_emptied a [] joined [])))))

-- all three are closed
pub closed_kept : (p q r t : PoolState) (all a b c : List ℕ) → a ++ (b ++ c) ≡ all → Kept p a q [] → Kept q b r [] → Kept r c t [] → Kept p all t []
closed_kept p q r t all a b c is one two three =
    subst (λ (ns : List ℕ). Kept p ns t []) is
    (kept_both p q t (a ++ (b ++ c)) (b ++ c) [] (kept_part p q (b ++ c) a [] (a ++ (b ++ c)) (b ++ c) one (joins_first a b c) (joins_first [] b c))
    (kept_both q r t (b ++ c) c [] (kept_part q r c b [] (b ++ c) c two (joins_two b c) (joins_two [] c)) three))

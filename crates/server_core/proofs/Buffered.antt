-- The buffers of all clients, where one client's queues change.
use Rattle.std.proofs.Common.{◌≡◌, ℕ, ◌+◌, ◌<◌, cond, nat_lt, List, [], ◌∷◌, ◌++◌, length, map, drop, get_or, length-append, append-nil, append_assoc, refl, sym, ◌∙◌, ap, subst, arith}
use Rattle.std.proofs.lemmas.List.{drop_more}
use Rattle.buffer_pool.specs.State.{PoolState}
use Rattle.buffer_pool.specs.Kept.{Kept, HeldWithin, places}
use Rattle.buffer_pool.proofs.Keeping.{places_append, kept_both, kept_from_new}
use Rattle.chunkqueue.specs.Store.{unused}
use Rattle.connection.specs.Connection.{Connected}
use Rattle.server_core.specs.Table.{numbers_of, held_count}
use Rattle.server_core.specs.Within.{joined}

numbers_append : (xs ys : List Connected) → numbers_of (xs ++ ys) ≡ numbers_of xs ++ numbers_of ys
numbers_append [] ys = refl
numbers_append (c ∷ xs) ys = ap (λ (l : List ℕ). c.numbers ++ l) (numbers_append xs ys) ∙ sym (append_assoc c.numbers (numbers_of xs) (numbers_of ys))

kept_between : (p q : PoolState) (xs c d ys : List ℕ) → Kept p c q d → Kept p (xs ++ (c ++ ys)) q (xs ++ (d ++ ys))
kept_between p q xs c d ys one = record {
  rises = one.rises;
  counts = λ n. omega (arith, one.counts n, places_append n xs (c ++ ys), places_append n c ys, places_append n xs (d ++ ys), places_append n d ys);
  total = omega (arith, one.total, length-append xs (c ++ ys), length-append c ys, length-append xs (d ++ ys), length-append d ys);
}

module _ (store next : PoolState) (conns xs ys : List Connected) (c : Connected) (is : conns ≡ xs ++ c ∷ ys) (had : Kept unused [] store (numbers_of conns)) where
  each_here : Kept unused [] store (numbers_of xs ++ (c.numbers ++ numbers_of ys))
  each_here = subst (λ (l : List ℕ). Kept unused [] store l) (ap numbers_of is ∙ numbers_append xs (c ∷ ys)) had

  pub each_within : HeldWithin store (length c.numbers)
  each_within = omega (arith, each_here.total, length-append (numbers_of xs) (c.numbers ++ numbers_of ys), length-append c.numbers (numbers_of ys))

  -- its queues changed
  pub each_changed : (new : Connected) → Kept store c.numbers next new.numbers → (after : List Connected) → after ≡ xs ++ new ∷ ys → Kept unused [] next (numbers_of after)
  each_changed new kept after same =
      subst (λ (l : List ℕ). Kept unused [] next l) (sym (ap numbers_of same ∙ numbers_append xs (new ∷ ys)))
      (kept_both unused store next [] (numbers_of xs ++ (c.numbers ++ numbers_of ys)) (numbers_of xs ++ (new.numbers ++ numbers_of ys)) each_here
      (kept_between store next (numbers_of xs) c.numbers new.numbers (numbers_of ys) kept))

  -- it was closed
  pub each_removed : Kept store c.numbers next [] → (after : List Connected) → after ≡ xs ++ ys → Kept unused [] next (numbers_of after)
  each_removed kept after same =
      subst (λ (l : List ℕ). Kept unused [] next l) (sym (ap numbers_of same ∙ numbers_append xs ys))
      (kept_both unused store next [] (numbers_of xs ++ (c.numbers ++ numbers_of ys)) (numbers_of xs ++ numbers_of ys) each_here
      (kept_between store next (numbers_of xs) c.numbers [] (numbers_of ys) kept))

-- one that holds none came
pub each_pushed : (store : PoolState) (conns after : List Connected) (new : Connected) → new.numbers ≡ [] → after ≡ conns ++ new ∷ [] → Kept unused [] store (numbers_of conns) → Kept unused [] store (numbers_of after)
each_pushed store conns after new none same had =
    subst (λ (l : List ℕ). Kept unused [] store l)
    (sym (ap numbers_of same ∙ numbers_append conns (new ∷ []) ∙ ap (λ (l : List ℕ). numbers_of conns ++ (l ++ [])) none ∙ append-nil (numbers_of conns))) had

joined_is : (conns : List Connected) → joined (map (λ (c : Connected). c.numbers) conns) ≡ numbers_of conns
joined_is [] = refl
joined_is (c ∷ conns) = ap (λ (l : List ℕ). c.numbers ++ l) (joined_is conns)

-- each buffer is in one place
pub each_once : (store : PoolState) (conns : List Connected) → Kept unused [] store (numbers_of conns) → (n : ℕ) → places n store.free + places n (joined (map (λ (c : Connected). c.numbers) conns)) ≡ cond (nat_lt n store.made) 1 0
each_once store conns had n = ap (λ (l : List ℕ). places n store.free + places n l) (joined_is conns) ∙ (kept_from_new store (numbers_of conns) 0 had).0 n

-- and the spare ones and those in queues are all
pub each_counted : (store : PoolState) (conns : List Connected) → Kept unused [] store (numbers_of conns) → length store.free + length (joined (map (λ (c : Connected). c.numbers) conns)) ≡ store.made
each_counted store conns had = ap (λ (l : List ℕ). length store.free + length l) (joined_is conns) ∙ (kept_from_new store (numbers_of conns) 0 had).1

-- the number of all that are in queues
pub count_joined : (conns : List Connected) → held_count conns ≡ length (joined (map (λ (c : Connected). c.numbers) conns))
count_joined [] = refl
count_joined (c ∷ conns) = omega (arith, count_joined conns, length-append c.numbers (joined (map (λ (x : Connected). x.numbers) conns)))

-- the count of those from a place on
pub count_next : (conns : List Connected) (i : ℕ) (c : Connected) → i < length conns → c ≡ get_or conns i c → held_count (drop i conns) ≡ length c.numbers + held_count (drop (i + 1) conns)
count_next conns i c below is = ap held_count (drop_more conns i c below ∙ ap (λ (h : Connected). h ∷ drop (i + 1) conns) (sym is))

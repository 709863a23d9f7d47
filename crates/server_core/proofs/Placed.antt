-- Places that clients have, and places that are free.
use Rattle.std.proofs.Common.{◌≡◌, ℕ, ◌+◌, ◌<◌, List, [], ◌∷◌, ◌++◌, length, take, drop, set, length-append, sym, ap, subst, arith}
use Rattle.std.proofs.lemmas.List.{length-set, length-take, length-drop}
use Rattle.buffer_pool.specs.State.{PoolState}
use Rattle.buffer_pool.specs.Kept.{Kept, HeldWithin}
use Rattle.buffer_pool.proofs.Keeping.{kept_both}
use Rattle.connection.specs.Connection.{Connected}
use Rattle.chunkqueue.specs.Store.{unused}
use Rattle.server_core.specs.Places.{AllFree, ArePlaces}
use Rattle.server_core.specs.Table.{numbers_of, IsKept}

pub free_append : (xs ys : List Connected) → AllFree xs → AllFree ys → AllFree (xs ++ ys)
free_append [] ys one two = two
free_append (c ∷ xs) ys one two = (one.0, free_append xs ys one.1 two)

pub free_front : (xs ys : List Connected) → AllFree (xs ++ ys) → AllFree xs
free_front [] ys free = tt
free_front (c ∷ xs) ys free = (free.0, free_front xs ys free.1)

pub free_last : (xs : List Connected) (c : Connected) → AllFree (xs ++ c ∷ []) → c.numbers ≡ []
free_last [] c free = free.0
free_last (x ∷ xs) c free = free_last xs c free.1

-- another is in a place
pub places_set : (clients places : List Connected) (i : ℕ) (c : Connected) (a b : ℕ) → ArePlaces clients places a b → ArePlaces (set clients i c) places a b
places_set clients places i c a b is = record { all = omega (arith, is.all, length-set clients i c); clients_fit = is.clients_fit; places_fit = is.places_fit; free = is.free }

-- one was taken out
pub places_taken : (clients places next more : List Connected) (i : ℕ) (c : Connected) (a b a' b' : ℕ) → ArePlaces clients places a b → i < length clients → next ≡ take i clients ++ drop (i + 1) clients → more ≡ places ++ c ∷ [] → c.numbers ≡ [] → a' ≡ a → b' ≡ b
    → ArePlaces next more a' b'
places_taken clients places next more i c a b a' b' is within taken given none same_a same_b = record {
  all = omega (arith, is.all, within, ap length taken, length-append (take i clients) (drop (i + 1) clients), length-take i clients, length-drop (i + 1) clients, ap length given, length-append places (c ∷ []));
  clients_fit = omega (arith, is.clients_fit, same_a);
  places_fit = omega (arith, is.places_fit, same_b);
  free = subst AllFree (sym given) (free_append places (c ∷ []) is.free (none, tt));
}

-- one was put in
pub places_put : (clients places next fewer : List Connected) (c gone : Connected) (a b a' b' : ℕ) → ArePlaces clients places a b → next ≡ clients ++ c ∷ [] → places ≡ fewer ++ gone ∷ [] → a' ≡ a → b' ≡ b → ArePlaces next fewer a' b'
places_put clients places next fewer c gone a b a' b' is put popped same_a same_b = record {
  all = omega (arith, is.all, ap length put, length-append clients (c ∷ []), ap length popped, length-append fewer (gone ∷ []));
  clients_fit = omega (arith, is.clients_fit, same_a);
  places_fit = omega (arith, is.places_fit, same_b);
  free = free_front fewer (gone ∷ []) (subst AllFree popped is.free);
}

-- what is closed holds no buffer
pub none_within : (store : PoolState) (c : Connected) → c.numbers ≡ [] → HeldWithin store 0 → HeldWithin store (length c.numbers)
none_within store c none within = subst (λ (l : List ℕ). HeldWithin store (length l)) (sym none) within

pub none_kept : (store next : PoolState) (c : Connected) → c.numbers ≡ [] → Kept store c.numbers next [] → Kept store [] next []
none_kept store next c none kept = subst (λ (l : List ℕ). Kept store l next []) none kept

-- so all others stand as they did
pub store_kept : (store next : PoolState) (conns : List Connected) → Kept store [] next [] → IsKept store conns → IsKept next conns
store_kept store next conns one kept = record {
  counted = omega (arith, kept.counted, one.total, one.rises);
  each = kept_both unused store next [] (numbers_of conns) (numbers_of conns) kept.each (record { rises = one.rises; counts = λ n. omega (arith, one.counts n); total = omega (arith, one.total) });
  rising = kept.rising;
  resting = kept.resting;
}

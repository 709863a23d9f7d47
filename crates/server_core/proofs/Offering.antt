-- How many bytes writes offer.
use Rattle.std.proofs.Common.{◌≡◌, ◌≢◌, ℕ, ◌+◌, ◌<◌, List, [], ◌∷◌, ◌++◌, take, drop, get_or, Some, refl, sym, ◌∙◌, ap, subst, arith, append_assoc}
use Rattle.std.proofs.lemmas.Bool.Decides.{nat_tests}
use Rattle.lt_world.specs.Trace.{Act, Accepted, Readable, Writable, Read, ReadEnd, NotYet, Failed, Wrote, Connect, Close, Entry, said}
use Rattle.server_model.specs.Held.{Held, IsPlace}
use Rattle.connection.specs.Connection.{Connected}
use Rattle.server_core.specs.Offers.{offer_at, WritesAs, AllAs, GainsAs, GainsWrites, OffersOn, OffersIn}
use Rattle.server_core.specs.Table.{helds, offers_of, AllAbove, Rising}
use Rattle.server_core.proofs.Listed.{split}

module _ (Says : ℕ → Act → Type 0) where
  all_append : (more entries : List Entry) → AllAs Says more → AllAs Says entries → AllAs Says (more ++ entries)
  all_append [] entries one two = two
  all_append (entry ∷ more) entries one two = (one.0, all_append more entries one.1 two)

  -- nothing was told
  pub as_none : (old now : List Entry) → now ≡ old → GainsAs Says old now
  as_none old now same = record { more = []; gains = same; each = tt }

  -- one act was
  pub as_one : (link : ℕ) (act : Act) (old now : List Entry) → now ≡ said link (act ∷ []) old → Says link act → GainsAs Says old now
  as_one link act old now told is = record { more = record { link = link; act = act } ∷ []; gains = told; each = (is, tt) }

  -- and then more
  pub as_both : (old mid now : List Entry) → GainsAs Says old mid → GainsAs Says mid now → GainsAs Says old now
  as_both old mid now one two = record {
    more = two.more ++ one.more;
    gains = two.gains ∙ ap (λ (l : List Entry). two.more ++ l) one.gains ∙ sym (append_assoc two.more one.more old);
    each = all_append two.more one.more two.each one.each;
  }

-- the same of writes
module _ (Offers : ℕ → ℕ → Type 0) where
  pub gains_none : (old now : List Entry) → now ≡ old → GainsWrites Offers old now
  gains_none old now same = as_none (WritesAs Offers) old now same

  pub gains_one : (link : ℕ) (act : Act) (old now : List Entry) → now ≡ said link (act ∷ []) old → WritesAs Offers link act → GainsWrites Offers old now
  gains_one link act old now told is = as_one (WritesAs Offers) link act old now told is

  pub gains_both : (old mid now : List Entry) → GainsWrites Offers old mid → GainsWrites Offers mid now → GainsWrites Offers old now
  gains_both old mid now one two = as_both (WritesAs Offers) old mid now one two

by_act : (P Q : ℕ → ℕ → Type 0) → ((l n : ℕ) → P l n → Q l n) → (link : ℕ) (act : Act) → WritesAs P link act → WritesAs Q link act
by_act P Q gives link (Accepted peer local) is = tt
by_act P Q gives link Readable is = tt
by_act P Q gives link Writable is = tt
by_act P Q gives link (Read asked bytes) is = tt
by_act P Q gives link ReadEnd is = tt
by_act P Q gives link (NotYet way) is = tt
by_act P Q gives link (Failed way) is = tt
by_act P Q gives link (Wrote offered bytes) is = gives link offered is
by_act P Q gives link (Connect owner to dialled) is = tt
by_act P Q gives link (Close e) is = tt

all_as : (P Q : ℕ → Act → Type 0) → ((l : ℕ) (act : Act) → P l act → Q l act) → (entries : List Entry) → AllAs P entries → AllAs Q entries
all_as P Q gives [] is = tt
all_as P Q gives (entry ∷ entries) is = (gives entry.link entry.act is.0, all_as P Q gives entries is.1)

pub gains_as : (P Q : ℕ → Act → Type 0) → ((l : ℕ) (act : Act) → P l act → Q l act) → (old now : List Entry) → GainsAs P old now → GainsAs Q old now
gains_as P Q gives old now had = record { more = had.more; gains = had.gains; each = all_as P Q gives had.more had.each }

offer_first : (link n : ℕ) (held : Held) (table : List Held) (offers : List ℕ) → held.link ≡ link → offer_at link (held ∷ table) (n ∷ offers) ≡ n
offer_first link n held table offers is = grind (arith, nat_tests)

offer_past : (link n : ℕ) (held : Held) (table : List Held) (offers : List ℕ) → held.link ≢ link → offer_at link (held ∷ table) (n ∷ offers) ≡ offer_at link table offers
offer_past link n held table offers apart = grind (arith, nat_tests)

pub above_here : (n : ℕ) (xs ys : List Connected) (c : Connected) → AllAbove n (helds (xs ++ c ∷ ys)) → n < c.held.link
above_here n [] ys c above = above.0
above_here n (x ∷ xs) ys c above = above_here n xs ys c above.1

offer_here : (xs ys : List Connected) (c : Connected) → Rising (helds (xs ++ c ∷ ys)) → offer_at c.held.link (helds (xs ++ c ∷ ys)) (offers_of (xs ++ c ∷ ys)) ≡ c.offers
offer_here [] ys c rising = offer_first c.held.link c.offers c.held (helds ys) (offers_of ys) refl
offer_here (x ∷ xs) ys c rising =
    offer_past c.held.link x.offers x.held (helds (xs ++ c ∷ ys)) (offers_of (xs ++ c ∷ ys)) (λ e. omega (arith, e, above_here x.held.link xs ys c rising.0))
    ∙ offer_here xs ys c rising.1

-- what a step of one client says of its writes, as the table says it
module _ (link : ℕ) (conns : List Connected) (i : ℕ) (c : Connected) (place : IsPlace link (helds conns) (Some i)) (is : c ≡ get_or conns i c) (rising : Rising (helds conns)) where
  offer_is : offer_at c.held.link (helds conns) (offers_of conns) ≡ c.offers
  offer_is =
      subst (λ (cs : List Connected). offer_at c.held.link (helds cs) (offers_of cs) ≡ c.offers) (sym (split link conns i c place is))
      (offer_here (take i conns) (drop (i + 1) conns) c (subst (λ (cs : List Connected). Rising (helds cs)) (split link conns i c place is) rising))

  pub place_offers : (old now : List Entry) → GainsWrites (OffersOn c.held.link c.offers) old now → GainsWrites (OffersIn (helds conns) (offers_of conns)) old now
  place_offers old now had =
      gains_as (WritesAs (OffersOn c.held.link c.offers)) (WritesAs (OffersIn (helds conns) (offers_of conns)))
      (by_act (OffersOn c.held.link c.offers) (OffersIn (helds conns) (offers_of conns)) (λ (l n : ℕ) on. on.1 ∙ sym offer_is ∙ ap (λ (k : ℕ). offer_at k (helds conns) (offers_of conns)) (sym on.0))) old now had

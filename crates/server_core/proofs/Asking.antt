-- How many bytes reads ask for.
use Rattle.std.proofs.Common.{◌≡◌, ◌≢◌, ℕ, ◌+◌, ◌<◌, List, [], ◌∷◌, ◌++◌, take, drop, get_or, Some, refl, sym, ◌∙◌, ap, subst, arith}
use Rattle.std.proofs.lemmas.Bool.Decides.{nat_tests}
use Rattle.lt_world.specs.Trace.{Act, Accepted, Readable, Writable, Read, ReadEnd, NotYet, Failed, Wrote, Connect, Close, Entry, said}
use Rattle.server_model.specs.Held.{Held, IsPlace}
use Rattle.connection.specs.Connection.{Connected}
use Rattle.server_core.specs.Asks.{asked_of, asked_at, ReadsAs, GainsReads, AsksOn, AsksIn}
use Rattle.server_core.specs.Table.{helds, AllAbove, Rising}
use Rattle.server_core.proofs.Listed.{split}
use Rattle.server_core.proofs.Offering.{as_none, as_one, as_both, gains_as, above_here}

module _ (Asks : ℕ → ℕ → Type 0) where
  pub asks_none : (old now : List Entry) → now ≡ old → GainsReads Asks old now
  asks_none old now same = as_none (ReadsAs Asks) old now same

  pub asks_one : (link : ℕ) (act : Act) (old now : List Entry) → now ≡ said link (act ∷ []) old → ReadsAs Asks link act → GainsReads Asks old now
  asks_one link act old now told is = as_one (ReadsAs Asks) link act old now told is

  pub asks_both : (old mid now : List Entry) → GainsReads Asks old mid → GainsReads Asks mid now → GainsReads Asks old now
  asks_both old mid now one two = as_both (ReadsAs Asks) old mid now one two

by_act : (P Q : ℕ → ℕ → Type 0) → ((l n : ℕ) → P l n → Q l n) → (link : ℕ) (act : Act) → ReadsAs P link act → ReadsAs Q link act
by_act P Q gives link (Accepted peer local) is = tt
by_act P Q gives link Readable is = tt
by_act P Q gives link Writable is = tt
by_act P Q gives link (Read asked bytes) is = gives link asked is
by_act P Q gives link ReadEnd is = tt
by_act P Q gives link (NotYet way) is = tt
by_act P Q gives link (Failed way) is = tt
by_act P Q gives link (Wrote offered bytes) is = tt
by_act P Q gives link (Connect owner to dialled) is = tt
by_act P Q gives link (Close e) is = tt

asked_first : (link : ℕ) (held : Held) (table : List Held) → held.link ≡ link → asked_at link (held ∷ table) ≡ asked_of held
asked_first link held table is = grind (arith, nat_tests)

asked_past : (link : ℕ) (held : Held) (table : List Held) → held.link ≢ link → asked_at link (held ∷ table) ≡ asked_at link table
asked_past link held table apart = grind (arith, nat_tests)

asked_here : (xs ys : List Connected) (c : Connected) → Rising (helds (xs ++ c ∷ ys)) → asked_at c.held.link (helds (xs ++ c ∷ ys)) ≡ asked_of c.held
asked_here [] ys c rising = asked_first c.held.link c.held (helds ys) refl
asked_here (x ∷ xs) ys c rising =
    asked_past c.held.link x.held (helds (xs ++ c ∷ ys)) (λ e. omega (arith, e, above_here x.held.link xs ys c rising.0))
    ∙ asked_here xs ys c rising.1

-- what a step of one client says of its reads, as the table says it
module _ (link : ℕ) (conns : List Connected) (i : ℕ) (c : Connected) (place : IsPlace link (helds conns) (Some i)) (is : c ≡ get_or conns i c) (rising : Rising (helds conns)) where
  asked_is : asked_at c.held.link (helds conns) ≡ asked_of c.held
  asked_is =
      subst (λ (cs : List Connected). asked_at c.held.link (helds cs) ≡ asked_of c.held) (sym (split link conns i c place is))
      (asked_here (take i conns) (drop (i + 1) conns) c (subst (λ (cs : List Connected). Rising (helds cs)) (split link conns i c place is) rising))

  pub place_asks : (old now : List Entry) → GainsReads (AsksOn c.held.link (asked_of c.held)) old now → GainsReads (AsksIn (helds conns)) old now
  place_asks old now had =
      gains_as (ReadsAs (AsksOn c.held.link (asked_of c.held))) (ReadsAs (AsksIn (helds conns)))
      (by_act (AsksOn c.held.link (asked_of c.held)) (AsksIn (helds conns)) (λ (l n : ℕ) on. on.1 ∙ sym asked_is ∙ ap (λ (k : ℕ). asked_at k (helds conns)) (sym on.0))) old now had

-- What a chosen host is.
use Rattle.std.proofs.Common.{◌≡◌, ℕ, ◌+◌, ◌-◌, ◌<◌, ◌≤◌, Bool, true, false, not, nat_lt, List, length, take, drop, get_or, Option, Some, None, refl, ap, sym, ◌∙◌, subst, length-take, length-drop, arith}
use Rattle.std.proofs.lemmas.Bool.{cond_both, cond-true, cond-false, false≢true, ltb-true, ltb-false, lt-ltb, le-ltb}
use Rattle.std.proofs.lemmas.List.{get_or-drop, get_or-take, get_or_past}
use Rattle.std.proofs.lemmas.List.Sums.{fails_before_first}
use Rattle.std.proofs.lemmas.List.Quantifiers.{position-Some}
use Rattle.std.specs.List.{position, position_or_len}
use Rattle.gate_hosts.specs.declared.choosing.Host.{Host}
use Rattle.gate_hosts.specs.declared.choosing.Policy.{Policy}
use Rattle.gate_hosts.specs.declared.choosing.Policy.TheVariants.{Fair, RoundRobin}
use Rattle.gate_hosts.specs.Choices.{fewest_from, place_of, behind, first_from, choice}
use Rattle.gate_hosts.specs.Laws.{IsUntried, distance}
use Rattle.gate_hosts.proofs.Best.{Best, best_of, none_untried}

false_of_not : (b : Bool) → not b ≡ true → b ≡ false
false_of_not true e = cc
false_of_not false e = refl

true_of_not : (b : Bool) → not b ≡ false → b ≡ true
true_of_not true e = refl
true_of_not false e = cc

-- no place where there is none
none_at : (xs : List Bool) (k : ℕ) → position not xs ≡ None → get_or xs k true ≡ false → ⊥
none_at xs k none untried =
    cond_both (nat_lt (position_or_len not xs) (length xs)) (Some (position_or_len not xs)) None (λ (r : Option ℕ). r ≡ None → ⊥)
    (λ low e. cc)
    (λ high e. by (ltb-false (position_or_len not xs) (length xs) high)) none
  where
    by : length xs ≤ position_or_len not xs → ⊥
    by all =
        elim_past (nat_lt k (length xs)) refl
      where
        elim_past : (t : Bool) → nat_lt k (length xs) ≡ t → ⊥
        elim_past true low =
            let inside : k < length xs = ltb-true k (length xs) low in
            false≢true (sym untried ∙ true_of_not (get_or xs k true) (fails_before_first not xs k true (omega (arith, inside, all))))
        elim_past false high = false≢true (sym untried ∙ get_or_past xs k true (ltb-false k (length xs) high))

-- the first untried one of a part of the list
record First (xs : List Bool) (k : ℕ) : Type 0 where
  inside : k < length xs
  untried : get_or xs k true ≡ false
  before : (i : ℕ) → get_or xs i true ≡ false → k ≤ i

first_at : (xs : List Bool) (k : ℕ) → position not xs ≡ Some k → First xs k
first_at xs k is =
    let p = position-Some not xs k true is in
    record {
      inside = p.0;
      untried = false_of_not (get_or xs k true) p.1;
      before = λ i e. by i e (nat_lt i k) refl (λ low. true_of_not (get_or xs i true) (p.2 i low));
    }
  where
    by : (i : ℕ) → get_or xs i true ≡ false → (t : Bool) → nat_lt i k ≡ t → (i < k → get_or xs i true ≡ true) → k ≤ i
    by i e true low next = absurd (false≢true (sym e ∙ next (ltb-true i k low)))
    by i e false high next = ltb-false i k high

-- the chosen host of a round
record Next (next : ℕ) (tried : List Bool) (place : ℕ) : Type 0 where
  untried : get_or tried place true ≡ false
  nearest : (i : ℕ) → next < length tried → get_or tried i true ≡ false → distance next (length tried) place ≤ distance next (length tried) i

far : (next n place : ℕ) → place < next → distance next n place ≡ place + n - next
far next n place low = cond-true (nat_lt place next) (place + n - next) (place - next) (lt-ltb place next low)

near : (next n place : ℕ) → next ≤ place → distance next n place ≡ place - next
near next n place high = cond-false (nat_lt place next) (place + n - next) (place - next) (le-ltb place next high)

below : (i n : ℕ) (P : Type 0) → (i < n → P) → (n ≤ i → P) → P
below i n P low high = by (nat_lt i n) refl
  where
    by : (t : Bool) → nat_lt i n ≡ t → P
    by true e = low (ltb-true i n e)
    by false e = high (ltb-false i n e)

-- what was tried behind the position, by the part of the list
at_drop : (next i : ℕ) (tried : List Bool) → next ≤ i → get_or tried i true ≡ get_or (drop next tried) (i - next) true
at_drop next i tried high = let sum : next + (i - next) ≡ i = omega (arith, high) in sym (get_or-drop next tried (i - next) true ∙ ap (λ (k : ℕ). get_or tried k true) sum)

inside_of : (xs : List Bool) (i : ℕ) → get_or xs i true ≡ false → i < length xs
inside_of xs i untried = below i (length xs) (i < length xs) (λ low. low) (λ high. absurd (false≢true (sym untried ∙ get_or_past xs i true high)))

next_behind : (next steps : ℕ) (tried : List Bool) → First (drop next tried) steps → Next next tried (next + steps)
next_behind next steps tried f =
    let long : length (drop next tried) ≡ length tried - next = length-drop next tried in
    record {
      untried = sym (get_or-drop next tried steps true) ∙ f.untried;
      nearest = λ i inside e. below i next (distance next (length tried) (next + steps) ≤ distance next (length tried) i)
          (λ low. let a = near next (length tried) (next + steps) (omega arith) in let b = far next (length tried) i low in let c = f.inside in omega (arith, a, b, c, long, inside))
          (λ high. let a = near next (length tried) (next + steps) (omega arith) in let b = near next (length tried) i high in
          let c : steps ≤ i - next = f.before (i - next) (sym (at_drop next i tried high) ∙ e) in omega (arith, a, b, c, high));
    }

next_before : (next place : ℕ) (tried : List Bool) → position not (drop next tried) ≡ None → First (take next tried) place → Next next tried place
next_before next place tried none f =
    let long = length-take next tried in
    let low : place < next = omega (arith, f.inside, long) in
    record {
      untried = sym (get_or-take next tried place true low) ∙ f.untried;
      nearest = λ i inside e. below i next (distance next (length tried) place ≤ distance next (length tried) i)
          (λ before. let a = far next (length tried) place low in let b = far next (length tried) i before in
          let c : place ≤ i = f.before i (get_or-take next tried i true before ∙ e) in omega (arith, a, b, c))
          (λ high. absurd (none_at (drop next tried) (i - next) none (sym (at_drop next i tried high) ∙ e)));
    }

next_of : (next place : ℕ) (tried : List Bool) → first_from next tried ≡ Some place → Next next tried place
next_of next place tried is = by (position not (drop next tried)) refl is
  where
    by : (r : Option ℕ) → position not (drop next tried) ≡ r → behind next r (position not (take next tried)) ≡ Some place → Next next tried place
    by None none e = next_before next place tried none (first_at (take next tried) place e)
    by (Some steps) some e =
        let same : next + steps ≡ place = cc in
        subst (λ (p : ℕ). Next next tried p) same (next_behind next steps tried (first_at (drop next tried) steps some))

none_next : (next i : ℕ) (tried : List Bool) → first_from next tried ≡ None → get_or tried i true ≡ false → ⊥
none_next next i tried is untried = by (position not (drop next tried)) refl is
  where
    by : (r : Option ℕ) → position not (drop next tried) ≡ r → behind next r (position not (take next tried)) ≡ None → ⊥
    by None none e =
        below i next ⊥ (λ low. none_at (take next tried) i e (get_or-take next tried i true low ∙ untried))
        (λ high. none_at (drop next tried) (i - next) none (sym (at_drop next i tried high) ∙ untried))
    by (Some steps) some e = cc

-- the chosen host of a fair choice
record Fairest (links : List ℕ) (tried : List Bool) (place : ℕ) : Type 0 where
  host : Host
  is : host.place ≡ place
  best : Best 0 links tried host

fairest : (links : List ℕ) (tried : List Bool) (place : ℕ) → length links ≡ length tried → place_of (fewest_from 0 links tried) ≡ Some place → Fairest links tried place
fairest links tried place same is = by (fewest_from 0 links tried) refl is
  where
    by : (r : Option Host) → fewest_from 0 links tried ≡ r → place_of r ≡ Some place → Fairest links tried place
    by None none e = cc
    by (Some h) some e = record { host = h; is = cc; best = best_of 0 links tried h same some }

steps_are : (links : List ℕ) (tried : List Bool) (place : ℕ) → (f : Fairest links tried place) → f.best.steps ≡ place
steps_are links tried place f = omega (arith, f.is, f.best.stands)

pub chosen_untried : (policy : Policy) (next place : ℕ) (links : List ℕ) (tried : List Bool) → length links ≡ length tried → choice policy next links tried ≡ Some place → IsUntried tried place
chosen_untried Fair next place links tried same is =
    let f = fairest links tried place same is in
    sym (ap (λ (k : ℕ). get_or tried k true) (steps_are links tried place f)) ∙ f.best.untried
chosen_untried RoundRobin next place links tried same is = (next_of next place tried is).untried

pub none_all : (policy : Policy) (next place : ℕ) (links : List ℕ) (tried : List Bool) → length links ≡ length tried → choice policy next links tried ≡ None → IsUntried tried place → ⊥
none_all Fair next place links tried same is untried = by (fewest_from 0 links tried) refl is
  where
    by : (r : Option Host) → fewest_from 0 links tried ≡ r → place_of r ≡ None → ⊥
    by None none e = false≢true (sym untried ∙ none_untried 0 links tried same none place)
    by (Some h) some e = cc
none_all RoundRobin next place links tried same is untried = none_next next place tried is untried

pub all_none : (policy : Policy) (next : ℕ) (links : List ℕ) (tried : List Bool) → length links ≡ length tried → ((place : ℕ) → IsUntried tried place → ⊥) → choice policy next links tried ≡ None
all_none policy next links tried same all = by (choice policy next links tried) refl
  where
    by : (r : Option ℕ) → choice policy next links tried ≡ r → choice policy next links tried ≡ None
    by None e = e
    by (Some place) e = absurd (all place (chosen_untried policy next place links tried same e))

pub fair_fewest : (next place other : ℕ) (links : List ℕ) (tried : List Bool) → length links ≡ length tried → choice Fair next links tried ≡ Some place → IsUntried tried other → get_or links place 0 ≤ get_or links other 0
fair_fewest next place other links tried same is untried =
    let f = fairest links tried place same is in
    let least = f.best.least other untried in
    let has : get_or links place 0 ≡ f.host.links = sym (ap (λ (k : ℕ). get_or links k 0) (steps_are links tried place f)) ∙ f.best.has in
    omega (arith, least, has)

pub fair_first : (next place other : ℕ) (links : List ℕ) (tried : List Bool) → length links ≡ length tried → choice Fair next links tried ≡ Some place → IsUntried tried other → other < place → get_or links place 0 < get_or links other 0
fair_first next place other links tried same is untried before =
    let f = fairest links tried place same is in
    let low : other < f.best.steps = omega (arith, before, steps_are links tried place f) in
    let first = f.best.first other low untried in
    let has : get_or links place 0 ≡ f.host.links = sym (ap (λ (k : ℕ). get_or links k 0) (steps_are links tried place f)) ∙ f.best.has in
    omega (arith, first, has)

pub round_next : (next place other : ℕ) (links : List ℕ) (tried : List Bool) → next < length tried → choice RoundRobin next links tried ≡ Some place → IsUntried tried other → distance next (length tried) place ≤ distance next (length tried) other
round_next next place other links tried inside is untried = (next_of next place tried is).nearest other inside untried

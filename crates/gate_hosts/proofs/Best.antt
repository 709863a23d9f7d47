-- The untried host with the fewest open links.
use Rattle.std.proofs.Common.{◌≡◌, zero, suc, ℕ, ◌+◌, ◌<◌, ◌≤◌, Bool, true, false, cond, nat_lt, List, [], ◌∷◌, length, drop, get_or, Option, Some, None, refl, ap, sym, ◌∙◌, subst, drop-cons, drop_of_length-le, arith}
use Rattle.std.proofs.lemmas.Bool.{false≢true, ltb-true, ltb-false}
use Rattle.gate_hosts.specs.declared.choosing.Host.{Host}
use Rattle.gate_hosts.specs.Choices.{candidate, better, fewest_from}

better_none : (a : Option Host) → better a None ≡ a
better_none None = refl
better_none (Some a) = refl

-- of three, two and two
better_three : (a b c : Host) → better (better (Some a) (Some b)) (Some c) ≡ better (Some a) (better (Some b) (Some c))
better_three a b c = by (nat_lt b.links a.links) (nat_lt c.links b.links) (nat_lt c.links a.links) refl refl refl
  where
    by : (t u v : Bool) → nat_lt b.links a.links ≡ t → nat_lt c.links b.links ≡ u → nat_lt c.links a.links ≡ v
        → better (cond (nat_lt b.links a.links) (Some b) (Some a)) (Some c) ≡ better (Some a) (cond (nat_lt c.links b.links) (Some c) (Some b))
    by true true true p q r = rw (p, q, r) refl
    by true true false p q r = let low = ltb-true b.links a.links p in let lower = ltb-true c.links b.links q in let high = ltb-false c.links a.links r in absurd (omega arith)
    by true false v p q r = rw (p, q) (rw p refl)
    by false true v p q r = rw (p, q) refl
    by false false true p q r = let low = ltb-false b.links a.links p in let lower = ltb-false c.links b.links q in let high = ltb-true c.links a.links r in absurd (omega arith)
    by false false false p q r = rw (p, q) (rw (r, p) refl)

better_all : (a b c : Option Host) → better (better a b) c ≡ better a (better b c)
better_all None b c = refl
better_all (Some a) None c = refl
better_all (Some a) (Some b) None = better_none (better (Some a) (Some b))
better_all (Some a) (Some b) (Some c) = better_three a b c

-- one host further
pub fewest_turn : (links : List ℕ) (tried : List Bool) (place : ℕ) (best host next : Option Host) (d : Bool) → place < length links → length links ≡ length tried → host ≡ candidate place (get_or links place 0) (get_or tried place d)
    → next ≡ better best host → fewest_from 0 links tried ≡ better best (fewest_from place (drop place links) (drop place tried))
    → fewest_from 0 links tried ≡ better next (fewest_from (place + 1) (drop (place + 1) links) (drop (place + 1) tried))
fewest_turn links tried place best host next d inside same is takes so_far =
    let n : ℕ = get_or links place 0 in
    let t : Bool = get_or tried place d in
    let tried_inside : place < length tried = omega (arith, inside, same) in
    let front : drop place links ≡ n ∷ drop (suc place) links = drop-cons links place 0 inside in
    let back : drop place tried ≡ t ∷ drop (suc place) tried = drop-cons tried place d tried_inside in
    let one : suc place ≡ place + 1 = omega arith in
    so_far ∙ ap (λ (l : List ℕ). better best (fewest_from place l (drop place tried))) front ∙ ap (λ (l : List Bool). better best (fewest_from place (n ∷ drop (suc place) links) l)) back
    ∙ sym (better_all best (candidate place n t) (fewest_from (place + 1) (drop (suc place) links) (drop (suc place) tried)))
    ∙ ap (λ (h : Option Host). better (better best h) (fewest_from (place + 1) (drop (suc place) links) (drop (suc place) tried))) (sym is)
    ∙ ap (λ (h : Option Host). better h (fewest_from (place + 1) (drop (suc place) links) (drop (suc place) tried))) (sym takes)
    ∙ ap (λ (k : ℕ). better next (fewest_from (place + 1) (drop k links) (drop k tried))) one

-- behind the last host
pub fewest_end : (links : List ℕ) (tried : List Bool) (place : ℕ) (best : Option Host) → length links ≤ place → fewest_from 0 links tried ≡ better best (fewest_from place (drop place links) (drop place tried)) → best ≡ fewest_from 0 links tried
fewest_end links tried place best all so_far =
    sym (so_far ∙ ap (λ (l : List ℕ). better best (fewest_from place l (drop place tried))) (drop_of_length-le links {i = place} all) ∙ better_none best)

-- where none is chosen all were tried
pub none_untried : (place : ℕ) (links : List ℕ) (tried : List Bool) → length links ≡ length tried → fewest_from place links tried ≡ None → (i : ℕ) → get_or tried i true ≡ true
none_untried place [] [] same none i = refl
none_untried place [] (t ∷ tried) same none i = absurd (omega (arith, same))
none_untried place (n ∷ links) [] same none i = refl
none_untried place (n ∷ links) (true ∷ tried) same none zero = refl
none_untried place (n ∷ links) (true ∷ tried) same none (suc i) = none_untried (place + 1) links tried (omega (arith, same)) none i
none_untried place (n ∷ links) (false ∷ tried) same none i = by (fewest_from (place + 1) links tried) none
  where
    by : (r : Option Host) → better (Some (record { place = place; links = n })) r ≡ None → get_or (false ∷ tried) i true ≡ true
    by None e = cc
    by (Some b) e = cond_is (nat_lt b.links n) b e
      where
        cond_is : (t : Bool) (b : Host) → cond t (Some b) (Some (record { place = place; links = n })) ≡ None → get_or (false ∷ tried) i true ≡ true
        cond_is true b e = cc
        cond_is false b e = cc

-- the host at this distance behind the place is untried, and none untried has fewer links, nor as few before it
pub record Best (place : ℕ) (links : List ℕ) (tried : List Bool) (host : Host) : Type 0 where
  pub steps : ℕ
  pub stands : host.place ≡ place + steps
  pub untried : get_or tried steps true ≡ false
  pub has : get_or links steps 0 ≡ host.links
  pub least : (i : ℕ) → get_or tried i true ≡ false → host.links ≤ get_or links i 0
  pub first : (i : ℕ) → i < steps → get_or tried i true ≡ false → host.links < get_or links i 0

-- a host behind one that was tried
best_behind : (place n : ℕ) (links : List ℕ) (tried : List Bool) (host : Host) → Best (place + 1) links tried host → Best place (n ∷ links) (true ∷ tried) host
best_behind place n links tried host b = record {
  steps = suc b.steps;
  stands = omega (arith, b.stands);
  untried = b.untried;
  has = b.has;
  least = λ i. least i;
  first = λ i. first i;
}
  where
    least : (i : ℕ) → get_or (true ∷ tried) i true ≡ false → host.links ≤ get_or (n ∷ links) i 0
    least zero e = cc
    least (suc i) e = b.least i e

    first : (i : ℕ) → i < suc b.steps → get_or (true ∷ tried) i true ≡ false → host.links < get_or (n ∷ links) i 0
    first zero low e = cc
    first (suc i) low e = b.first i (omega (arith, low)) e

-- the first host, where those behind it are no better
best_here : (place n : ℕ) (links : List ℕ) (tried : List Bool) → ((i : ℕ) → get_or tried i true ≡ false → n ≤ get_or links i 0) → Best place (n ∷ links) (false ∷ tried) (record { place = place; links = n })
best_here place n links tried others = record {
  steps = 0;
  stands = omega arith;
  untried = refl;
  has = refl;
  least = λ i. least i;
  first = λ i low e. absurd (omega (arith, low));
}
  where
    least : (i : ℕ) → get_or (false ∷ tried) i true ≡ false → n ≤ get_or (n ∷ links) i 0
    least zero e = omega arith
    least (suc i) e = others i e

-- a better host behind it
best_later : (place n : ℕ) (links : List ℕ) (tried : List Bool) (host : Host) → host.links < n → Best (place + 1) links tried host → Best place (n ∷ links) (false ∷ tried) host
best_later place n links tried host low b = record {
  steps = suc b.steps;
  stands = omega (arith, b.stands);
  untried = b.untried;
  has = b.has;
  least = λ i. least i;
  first = λ i. first i;
}
  where
    least : (i : ℕ) → get_or (false ∷ tried) i true ≡ false → host.links ≤ get_or (n ∷ links) i 0
    least zero e = omega (arith, low)
    least (suc i) e = b.least i e

    first : (i : ℕ) → i < suc b.steps → get_or (false ∷ tried) i true ≡ false → host.links < get_or (n ∷ links) i 0
    first zero inside e = low
    first (suc i) inside e = b.first i (omega (arith, inside)) e

pub best_of : (place : ℕ) (links : List ℕ) (tried : List Bool) (host : Host) → length links ≡ length tried → fewest_from place links tried ≡ Some host → Best place links tried host
best_of place [] tried host same is = cc
best_of place (n ∷ links) [] host same is = absurd (omega (arith, same))
best_of place (n ∷ links) (true ∷ tried) host same is = best_behind place n links tried host (best_of (place + 1) links tried host (omega (arith, same)) is)
best_of place (n ∷ links) (false ∷ tried) host same is =
    by (fewest_from (place + 1) links tried) refl is (λ h e. best_of (place + 1) links tried h (omega (arith, same)) e)
  where
    by : (r : Option Host) → fewest_from (place + 1) links tried ≡ r → better (Some (record { place = place; links = n })) r ≡ Some host → ((h : Host) → fewest_from (place + 1) links tried ≡ Some h → Best (place + 1) links tried h)
        → Best place (n ∷ links) (false ∷ tried) host
    by None none e next =
        let is_here : record { place = place; links = n } ≡ host = cc in
        subst (λ (h : Host). Best place (n ∷ links) (false ∷ tried) h) is_here
        (best_here place n links tried (λ i untried. absurd (false≢true (sym untried ∙ none_untried (place + 1) links tried (omega (arith, same)) none i))))
    by (Some b) some e next = of (nat_lt b.links n) refl e
      where
        of : (t : Bool) → nat_lt b.links n ≡ t → cond t (Some b) (Some (record { place = place; links = n })) ≡ Some host → Best place (n ∷ links) (false ∷ tried) host
        of true low e =
            let is_b : b ≡ host = cc in
            subst (λ (h : Host). Best place (n ∷ links) (false ∷ tried) h) is_b (best_later place n links tried b (ltb-true b.links n low) (next b some))
        of false high e =
            let is_here : record { place = place; links = n } ≡ host = cc in
            let low : n ≤ b.links = ltb-false b.links n high in
            subst (λ (h : Host). Best place (n ∷ links) (false ∷ tried) h) is_here
            (best_here place n links tried (λ i untried. let least = (next b some).least i untried in omega (arith, low, least)))

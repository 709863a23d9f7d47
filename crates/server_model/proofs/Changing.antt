-- A change of the table at one link.
use Rattle.std.proofs.Common.{◌≡◌, ◌≢◌, ℕ, zero, suc, ◌+◌, ◌≤◌, ◌<◌, List, [], ◌∷◌, ◌++◌, length, take, drop, get_or, set, Option, Some, None, inl, inr, refl, sym, ◌∙◌, ap, subst, arith, add-one, take-append-drop, length-append}
use Rattle.std.proofs.lemmas.Bool.{cases_eq, cases_lt}
use Rattle.std.proofs.lemmas.List.{drop_more, set_split, take-set, drop-set-lt}
use Rattle.server_model.specs.Held.{Held, kept_at, IsEachOnce, IsPlace}
use Rattle.server_model.specs.Files.{IsTable}
use Rattle.server_model.specs.Turns.{open_with}
use Rattle.server_model.proofs.Tables.{kept_at-append, kept_at-first, kept_at-past, kept_at-replace_other, once-replace, kept_at-remove_other, kept_at-remove_same, once-remove, once-push, kept_at-push_other}

-- how many are kept
abbrev pub kept_count : Option Held → ℕ
kept_count None = 0
kept_count (Some held) = 1

pub record Changes (link : ℕ) (table next : List Held) (now : Option Held) : Type 0 where
  pub here : kept_at link next ≡ now
  pub others : (other : ℕ) → other ≢ link → kept_at other next ≡ kept_at other table
  pub once : IsEachOnce table → IsEachOnce next
  pub count : length next + kept_count (kept_at link table) ≡ length table + kept_count now

-- the link is kept between these
pub record IsAt (link : ℕ) (table : List Held) (xs : List Held) (held : Held) (ys : List Held) : Type 0 where
  pub split : table ≡ xs ++ held ∷ ys
  pub link_is : held.link ≡ link
  pub first : kept_at link xs ≡ None

pub at_is : (link : ℕ) (table xs : List Held) (held : Held) (ys : List Held) → IsAt link table xs held ys → kept_at link table ≡ Some held
at_is link table xs held ys at = ap (λ t. kept_at link t) at.split ∙ kept_at-append link xs (held ∷ ys) at.first ∙ kept_at-first link held ys at.link_is

pub replaces : (link : ℕ) (table xs : List Held) (held : Held) (ys : List Held) → IsAt link table xs held ys → (new : Held) (next : List Held) → next ≡ xs ++ new ∷ ys → new.link ≡ held.link → Changes link table next (Some new)
replaces link table xs held ys at new next is same = record {
  here = ap (λ t. kept_at link t) is ∙ kept_at-append link xs (new ∷ ys) at.first ∙ kept_at-first link new ys (same ∙ at.link_is);
  others = λ c apart. ap (λ t. kept_at c t) is ∙ kept_at-replace_other held new ys same c xs (λ e. apart (e ∙ at.link_is)) ∙ ap (λ t. kept_at c t) (sym at.split);
  once = λ o. subst IsEachOnce (sym is) (once-replace held new ys same xs (subst IsEachOnce at.split o));
  count = omega (arith, ap kept_count (at_is link table xs held ys at), ap length is, ap length at.split, length-append xs (new ∷ ys), length-append xs (held ∷ ys));
}

pub removes : (link : ℕ) (table xs : List Held) (held : Held) (ys : List Held) → IsAt link table xs held ys → (next : List Held) → next ≡ xs ++ ys → IsEachOnce table → Changes link table next None
removes link table xs held ys at next is each = record {
  here = ap (λ t. kept_at link t) is ∙ ap (λ l. kept_at l (xs ++ ys)) (sym at.link_is) ∙ kept_at-remove_same held ys xs (subst IsEachOnce at.split each) (ap (λ l. kept_at l xs) at.link_is ∙ at.first);
  others = λ c apart. ap (λ t. kept_at c t) is ∙ kept_at-remove_other held ys c xs (λ e. apart (e ∙ at.link_is)) ∙ ap (λ t. kept_at c t) (sym at.split);
  once = λ o. subst IsEachOnce (sym is) (once-remove held ys xs (subst IsEachOnce at.split o));
  count = omega (arith, ap kept_count (at_is link table xs held ys at), ap length is, ap length at.split, length-append xs ys, length-append xs (held ∷ ys));
}

pub adds : (link : ℕ) (table : List Held) → kept_at link table ≡ None → (new : Held) (next : List Held) → next ≡ table ++ new ∷ [] → new.link ≡ link → Changes link table next (Some new)
adds link table none new next is same = record {
  here = ap (λ t. kept_at link t) is ∙ kept_at-append link table (new ∷ []) none ∙ kept_at-first link new [] same;
  others = λ c apart. ap (λ t. kept_at c t) is ∙ kept_at-push_other c new (λ e. apart (sym e ∙ same)) table;
  once = λ o. subst IsEachOnce (sym is) (once-push table new o (ap (λ l. kept_at l table) same ∙ none));
  count = omega (arith, ap kept_count none, ap length is, length-append table (new ∷ []));
}

pub leaves : (link : ℕ) (table : List Held) → kept_at link table ≡ None → Changes link table table None
leaves link table none = record { here = none; others = λ c apart. refl; once = λ o. o; count = ap (λ (n : ℕ). length table + n) (ap kept_count none) }

-- how many clients are kept by then, where the link was
pub count_now : (link : ℕ) (table next : List Held) (held : Held) (now : Option Held) → kept_at link table ≡ Some held → Changes link table next now → length next ≡ open_with now (length table)
count_now link table next held None kept change = omega (arith, change.count, ap kept_count kept)
count_now link table next held (Some new) kept change = omega (arith, change.count, ap kept_count kept)

-- a table of a net that gave more links by now
pub table_on : (links more link : ℕ) (table next : List Held) (now : Option Held) → IsTable links table → Changes link table next now → links ≤ more → link < more → IsTable more next
table_on links more link table next now is change le below = record {
  once = change.once is.once;
  below = λ other past. change.others other (λ e. omega (arith, e, past, below)) ∙ is.below other (omega (arith, le, past));
}

pub table_same : (links more : ℕ) (table : List Held) → IsTable links table → links ≤ more → IsTable more table
table_same links more table is le = record { once = is.once; below = λ other past. is.below other (omega (arith, le, past)) }

some_link : (o : Option Held) (held : Held) → o ≡ Some held → o ≡ None → ⊥
some_link o held some none = cc (some, none)

-- a link that is kept was given
pub kept_below : (links link : ℕ) (table : List Held) (held : Held) → IsTable links table → kept_at link table ≡ Some held → link < links
kept_below links link table held is kept = elim (cases_lt link links) [
  | inl below ↦ below
  | inr past ↦ absurd (some_link (kept_at link table) held kept (is.below link past))
]

-- a link that stands in the table is kept
kept_somewhere : (link : ℕ) (table : List Held) (i : ℕ) → i < length table → ((other : Held) → (get_or table i other).link ≡ link) → kept_at link table ≡ None → ⊥
kept_somewhere link [] i below is none = absurd (omega (arith, below))
kept_somewhere link (x ∷ table) zero below is none = some_link (kept_at link (x ∷ table)) x (kept_at-first link x table (is x)) none
kept_somewhere link (x ∷ table) (suc i) below is none = elim (cases_eq x.link link) [
  | inl same ↦ some_link (kept_at link (x ∷ table)) x (kept_at-first link x table same) none
  | inr apart ↦ kept_somewhere link table i (omega (arith, below)) is (sym (kept_at-past link x table apart) ∙ none)
]

-- no other is kept before the place of a link
pub none_before : (link : ℕ) (table : List Held) (i : ℕ) → IsEachOnce table → i < length table → ((other : Held) → (get_or table i other).link ≡ link) → kept_at link (take i table) ≡ None
none_before link [] i once below is = absurd (omega (arith, below))
none_before link (x ∷ table) zero once below is = refl
none_before link (x ∷ table) (suc i) once below is =
    let rest = none_before link table i once.1 (omega (arith, below)) is in
    let apart : x.link ≢ link = λ e. kept_somewhere link table i (omega (arith, below)) is (ap (λ (n : ℕ). kept_at n table) (sym e) ∙ once.0) in
    kept_at-past link x (take i table) apart ∙ rest

-- the place of a link
pub place_at : (link : ℕ) (table : List Held) (i : ℕ) (held : Held) → IsEachOnce table → IsPlace link table (Some i) → held ≡ get_or table i held → IsAt link table (take i table) held (drop (i + 1) table)
place_at link table i held once place is = record {
  split = sym (take-append-drop i table) ∙ ap (λ l. take i table ++ l) (drop_more table i held place.0) ∙ ap (λ h. take i table ++ h ∷ drop (i + 1) table) (sym is);
  link_is = ap (λ (h : Held). h.link) is ∙ place.1 held;
  first = none_before link table i once place.0 place.1;
}

pub set_at_place : (table : List Held) (i : ℕ) (new : Held) → i < length table → set table i new ≡ take i table ++ new ∷ drop (i + 1) table
set_at_place table i new below = set_split table i new below ∙ ap (λ (n : ℕ). take i table ++ new ∷ drop n table) (sym (add-one i))

pub removed_at_place : (table : List Held) (i : ℕ) (new : Held) (next : List Held) → next ≡ take i (set table i new) ++ drop (i + 1) (set table i new) → next ≡ take i table ++ drop (i + 1) table
removed_at_place table i new next is =
    is ∙ ap (λ l. l ++ drop (i + 1) (set table i new)) (take-set table i new) ∙ ap (λ l. take i table ++ l) (drop-set-lt (i + 1) table i new (omega arith))

-- The first items of a queue in memory are taken off, some at a time.
use Rattle.std.proofs.Common.{◌≡◌, ℕ, ◌+◌, ◌-◌, ◌≤◌, List, length, drop, ap, sym, ◌∙◌, subst, length-drop, arith}
use Rattle.std.proofs.lemmas.List.{drop-drop}
use Rattle.chunkqueue.specs.Items.{Item}
use Rattle.fcgi_records.specs.Feeding.{AllInMemory}
use Rattle.fcgi_records.proofs.FeedingLemmas.{memory_drop}

pub record Skipped (whole now : List Item) (n left : ℕ) : Type 0 where
  pub memory : AllInMemory now
  pub within : left ≤ length now
  pub items : drop left now ≡ drop n whole

pub skipped : (before after whole : List Item) (taken left n : ℕ) → after ≡ drop taken before → taken ≤ left → AllInMemory before → left ≤ length before → drop left before ≡ drop n whole
    → Skipped whole after n (left - taken)
skipped before after whole taken left n is some memory within items = record {
  memory = subst AllInMemory (sym is) (memory_drop taken before memory);
  within = omega (arith, ap (λ (l : List Item). length l) is, length-drop taken before, some, within);
  items = ap (drop (left - taken)) is ∙ drop-drop (left - taken) taken before ∙ ap (λ (m : ℕ). drop m before) (omega (arith, some)) ∙ items;
}

-- Bytes that lie in several slices, looked at or put together one slice after another.
use Rattle.std.proofs.Common.{◌≡◌, ℕ, ◌+◌, ◌-◌, ◌<◌, ◌≤◌, List, [], ◌∷◌, ◌++◌, length, take, flat_map, ap, sym, ◌∙◌, subst, arith, append-nil, append_assoc}
use Rattle.std.proofs.Math.Seq.{take-append-add}
use Rattle.std.proofs.lemmas.List.{length-append, take-append-le, take_all}
use Rattle.http_head.specs.declared.ends.HeadEnd.{HeadEnd}
use Rattle.http_head.specs.declared.ends.HeadEnd.TheVariants.{NotYet}
use Rattle.http_head.specs.declared.scan.HeadScan.{HeadScan}
use Rattle.http_head.specs.Ends.{head_end}
use Rattle.http_head.specs.Scan.{IsScan}
use Rattle.http_head.proofs.ScanLemmas.{over_stays}

abbrev pub joined : List (List ℕ) → List ℕ
joined slices = flat_map (λ (slice : List ℕ). slice) slices

-- some bytes were looked at, and those of these slices are left
pub record Sees (all : List ℕ) (left : List (List ℕ)) (scan : HeadScan) : Type 0 where
  pub seen : List ℕ
  pub parts : all ≡ seen ++ joined left
  pub is : IsScan seen scan

pub sees_start : (all : List ℕ) (slices : List (List ℕ)) (scan : HeadScan) → joined slices ≡ all → IsScan [] scan → Sees all slices scan
sees_start all slices scan whole is = record { seen = []; parts = sym whole; is = is }

pub sees_more : (all slice : List ℕ) (left rest : List (List ℕ)) (scan next : HeadScan) → Sees all left scan → left ≡ slice ∷ rest → ((before : List ℕ) → IsScan before scan → IsScan (before ++ slice) next) → Sees all rest next
sees_more all slice left rest scan next had steps sees = record {
  seen = had.seen ++ slice;
  parts = had.parts ∙ ap (λ (l : List (List ℕ)). had.seen ++ joined l) steps ∙ sym (append_assoc had.seen slice (joined rest));
  is = sees had.seen had.is;
}

-- what was looked at tells the end
pub sees_over : (all : List ℕ) (left : List (List ℕ)) (scan : HeadScan) (e : HeadEnd) → Sees all left scan → ((bytes : List ℕ) → IsScan bytes scan → e ≡ head_end bytes) → (e ≡ NotYet → ⊥) → IsScan all scan
sees_over all left scan e had value over =
    subst (λ (l : List ℕ). IsScan l scan) (sym had.parts) (over_stays had.seen (joined left) scan had.is (λ not_yet. over (value had.seen had.is ∙ not_yet)))

-- all was looked at
pub sees_all : (all : List ℕ) (left : List (List ℕ)) (scan : HeadScan) → Sees all left scan → left ≡ [] → IsScan all scan
sees_all all left scan had none =
    subst (λ (l : List ℕ). IsScan l scan) (sym (had.parts ∙ ap (λ (l : List (List ℕ)). had.seen ++ joined l) none ∙ append-nil had.seen)) had.is

-- the first bytes were put together, and those of these slices are left
pub record Gathers (all : List ℕ) (left : List (List ℕ)) (n : ℕ) (text : List ℕ) : Type 0 where
  pub parts : all ≡ text ++ joined left
  pub short : length text ≤ n

pub gathers_start : (all text : List ℕ) (slices : List (List ℕ)) (n : ℕ) → joined slices ≡ all → text ≡ [] → Gathers all slices n text
gathers_start all text slices n whole none = record {
  parts = sym whole ∙ ap (λ (l : List ℕ). l ++ joined slices) (sym none);
  short = omega (arith, ap (λ (l : List ℕ). length l) none);
}

pub gathers_more : (all slice text next : List ℕ) (left rest : List (List ℕ)) (n : ℕ) → Gathers all left n text → left ≡ slice ∷ rest → next ≡ text ++ slice → length slice < n - length text → Gathers all rest n next
gathers_more all slice text next left rest n had steps is few = record {
  parts = had.parts ∙ ap (λ (l : List (List ℕ)). text ++ joined l) steps ∙ sym (append_assoc text slice (joined rest)) ∙ ap (λ (l : List ℕ). l ++ joined rest) (sym is);
  short = omega (arith, few, had.short, ap (λ (l : List ℕ). length l) is, length-append text slice);
}

-- the last of them stand in this slice
pub gathered_full : (all slice text next : List ℕ) (left rest : List (List ℕ)) (n : ℕ) → Gathers all left n text → left ≡ slice ∷ rest → next ≡ text ++ take (n - length text) slice → n - length text ≤ length slice → next ≡ take n all
gathered_full all slice text next left rest n had steps is enough =
    is
    ∙ ap (λ (l : List ℕ). text ++ l) (sym (take-append-le (n - length text) slice (joined rest) enough))
    ∙ sym (take-append-add text (slice ++ joined rest) (n - length text))
    ∙ ap (λ (m : ℕ). take m (text ++ (slice ++ joined rest))) (omega (arith, had.short))
    ∙ ap (λ (l : List ℕ). take n l) (sym (had.parts ∙ ap (λ (l : List (List ℕ)). text ++ joined l) steps))

-- all slices were put together
pub gathered_all : (all text : List ℕ) (left : List (List ℕ)) (n : ℕ) → Gathers all left n text → left ≡ [] → n ≤ length all → text ≡ take n all
gathered_all all text left n had none within =
    let is : all ≡ text = had.parts ∙ ap (λ (l : List (List ℕ)). text ++ joined l) none ∙ append-nil text in
    sym is ∙ sym (take_all n all (omega (arith, had.short, ap (λ (l : List ℕ). length l) is)))

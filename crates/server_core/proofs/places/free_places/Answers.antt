use Rattle.std.proofs.Common.{◌≡◌, ℕ, [], ◌∷◌, length, refl, sym, ap, subst, ◌∙◌, arith}
use Rattle.buffer_pool.specs.State.{PoolState}
use Rattle.buffer_pool.specs.Kept.{Kept, HeldWithin}
use Rattle.buffer_pool.proofs.Keeping.{kept_both, kept_moved}
use Rattle.connection.specs.Connection.{Connected}
use Rattle.server_core.specs.Places.{AllFree}
use Rattle.server_core.proofs.Placed.{free_append, none_within, none_kept}
use Rattle.server_core.proofs.places.free_places.Goals as goal

pub loop-alloc-preserved : goal.loop-alloc-preserved
loop-alloc-preserved c = (
  omega (arith, c.push_reserved.ensures.len, c.len.ensures, c.loop-alloc-test.true),
  omega (arith, c.push_reserved.ensures.capacity, c.loop-alloc.invariant.1),
  subst AllFree (sym c.push_reserved.ensures.items)
      (free_append c.loop-alloc.places.items (c.in-Ok-new.place ∷ []) c.loop-alloc.invariant.2 (ap (λ (k : Connected). k.numbers) c.in-Ok-new.ensures.ok ∙ c.nobody.ensures.numbers, tt)),
  c.loop-alloc.invariant.3,
)

pub close-no_file-requires : goal.close-no_file-requires
close-no_file-requires c =
    none_within c.loop-alloc.store c.in-Err.conn (ap (λ (k : Connected). k.numbers) c.in-Err.ensures.err ∙ c.nobody.ensures.numbers)
    (subst (λ (s : PoolState). HeldWithin s 0) (sym c.loop-alloc.invariant.3) c.requires.counted)

pub clear-requires-clause-counted : goal.clear-requires-clause-counted
clear-requires-clause-counted c =
    let one = none_kept c.loop-alloc.store c.close-no_file.new.store c.in-Err.conn (ap (λ (k : Connected). k.numbers) c.in-Err.ensures.err ∙ c.nobody.ensures.numbers) c.close-no_file.ensures.kept in
    let within : HeldWithin c.loop-alloc.store 0 = subst (λ (s : PoolState). HeldWithin s 0) (sym c.loop-alloc.invariant.3) c.requires.counted in
    omega (arith, within, one.total, one.rises)

pub returns-in-Err-clause-kept : goal.returns-in-Err-clause-kept
returns-in-Err-clause-kept c =
    subst (λ (s : PoolState). Kept s [] c.clear.new.store []) c.loop-alloc.invariant.3
    (kept_both c.loop-alloc.store c.close-no_file.new.store c.clear.new.store [] [] []
    (none_kept c.loop-alloc.store c.close-no_file.new.store c.in-Err.conn (ap (λ (k : Connected). k.numbers) c.in-Err.ensures.err ∙ c.nobody.ensures.numbers) c.close-no_file.ensures.kept) c.clear.ensures.kept)

pub returns-in-Err-clause-spare : goal.returns-in-Err-clause-spare
returns-in-Err-clause-spare c =
    let kept = returns-in-Err-clause-kept c in
    omega (arith, kept.total, kept.rises)

pub returns-clause-spare : goal.returns-clause-spare
returns-clause-spare c = let same : length c.loop-alloc.store.free ≡ length c.args.store.now.free = ap (λ (s : PoolState). length s.free) c.loop-alloc.invariant.3 in omega (arith, same)

pub returns-clause-kept : goal.returns-clause-kept
returns-clause-kept c = subst (λ (s : PoolState). Kept c.args.store.now [] s []) (sym c.loop-alloc.invariant.3) (kept_moved c.args.store.now [] [] refl (λ (n : ℕ). refl))

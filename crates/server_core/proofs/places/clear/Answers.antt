use Rattle.std.proofs.Common.{◌++◌, ◌∷◌, [], ◌∙◌, ap, sym, subst, arith}
use Rattle.buffer_pool.proofs.Keeping.{kept_both}
use Rattle.server_core.specs.Places.{AllFree}
use Rattle.server_core.proofs.Placed.{free_front, free_last, none_within, none_kept}
use Rattle.server_core.proofs.places.clear.Goals as goal

pub close-no_file-requires : goal.close-no_file-requires
close-no_file-requires c =
    none_within c.loop-place.store c.into_conn.result
    (free_last c.pop.new.self.items c.into_conn.result (subst AllFree (c.in-Some.ensures.items ∙ ap (λ k. c.pop.new.self.items ++ k ∷ []) (sym c.into_conn.ensures)) c.loop-place.invariant.0)) c.loop-place.invariant.1

pub loop-place-preserved : goal.loop-place-preserved
loop-place-preserved c =
    let free = subst AllFree (c.in-Some.ensures.items ∙ ap (λ k. c.pop.new.self.items ++ k ∷ []) (sym c.into_conn.ensures)) c.loop-place.invariant.0 in
    let kept = none_kept c.loop-place.store c.close-no_file.new.store c.into_conn.result (free_last c.pop.new.self.items c.into_conn.result free) c.close-no_file.ensures.kept in (
      free_front c.pop.new.self.items (c.into_conn.result ∷ []) free,
      omega (arith, c.loop-place.invariant.1, kept.total, kept.rises),
      kept_both c.args.store.now c.loop-place.store c.close-no_file.new.store [] [] [] c.loop-place.invariant.2 kept,
    )

use Rattle.std.proofs.Common.{◌<◌, length, [], sym, subst, arith}
use Rattle.std.specs.Prelude.{Result, Ok, Err, OnErr}
use Rattle.buffer_pool.specs.State.{PoolState}
use Rattle.buffer_pool.specs.Kept.{Kept}
use Rattle.buffer_pool.proofs.Growing.{GrowingTo, growing_from, growing_on, growing_below, growing_done, growing_kept}
use Rattle.buffer_pool.proofs.pool.Pool.reserve.Goals as goal

whatever : {V E : Type 0} (r : Result V E) (P : Type 0) → P → OnErr r P
whatever (Ok v) P p = tt
whatever (Err e) P p = p

pub loop-self-init : goal.loop-self-init
loop-self-init c = growing_from c.args.n c.args.self.now

pub loop-self-preserved : goal.loop-self-preserved
loop-self-preserved c = growing_on c.args.n c.args.self.now c.loop-self.self c.add_one.new.self c.loop-self.invariant (omega arith) c.in_ok-add_one.ensures

pub returns-in_err-add_one-clause-err : goal.returns-in_err-add_one-clause-err
returns-in_err-add_one-clause-err c =
    let so : GrowingTo c.args.n c.args.self.now c.add_one.new.self = subst (λ (s : PoolState). GrowingTo c.args.n c.args.self.now s) (sym c.in_err-add_one.ensures) c.loop-self.invariant in
    let few : length c.add_one.new.self.free < c.args.n = subst (λ (s : PoolState). length s.free < c.args.n) (sym c.in_err-add_one.ensures) (omega arith) in
    whatever c.from_residual.result _ (growing_below c.args.n c.args.self.now c.add_one.new.self so few)

pub returns-in_err-add_one-clause-kept : goal.returns-in_err-add_one-clause-kept
returns-in_err-add_one-clause-kept c =
    subst (λ (s : PoolState). Kept c.args.self.now [] s []) (sym c.in_err-add_one.ensures) (growing_kept c.args.n c.args.self.now c.loop-self.self c.loop-self.invariant)

pub returns-clause-ok : goal.returns-clause-ok
returns-clause-ok c = growing_done c.args.n c.args.self.now c.loop-self.self c.loop-self.invariant (omega arith)

pub returns-clause-kept : goal.returns-clause-kept
returns-clause-kept c = growing_kept c.args.n c.args.self.now c.loop-self.self c.loop-self.invariant

use Rattle.std.proofs.Common.{◌≡◌, refl, ℕ, List, ◌∷◌, Ok, Err, ap, subst, ◌∙◌, drop, ◌+◌, arith}
use Rattle.std.proofs.lemmas.List.{drop_all}
use Rattle.lt_bytes.specs.Memory.{no_memory}
use Rattle.static_files.specs.declared.places.Place.TheVariants as place
use Rattle.static_files.specs.declared.places.Tried.TheVariants as tried
use Rattle.static_files.specs.Places.{TriedTo}
use Rattle.static_files.specs.Texts.{texts_of}
use Rattle.static_files.proofs.TextLists.{with_one}
use Rattle.static_files.proofs.Placing.{found_at, unspelled_at, failed_at, next_at, lacking_at, ended_at}
use Rattle.static_files.proofs.places.find_among.Goals as goal

pub returns-in_default-joined-clause-tries : goal.returns-in_default-joined-clause-tries
returns-in_default-joined-clause-tries g c told =
    c.loop-pair.invariant.tries told (Err no_memory) (g.F.Files.disk c.loop-pair.files) (lacking_at c.args.owner c.args.path.now c.args.physical.now (texts_of (drop c.loop-pair.pair-index c.args.names.now)) (g.F.Files.disk c.loop-pair.files) (g.F.Files.disk c.loop-pair.files) refl)

pub returns-in_default-joined-2-clause-tries : goal.returns-in_default-joined-2-clause-tries
returns-in_default-joined-2-clause-tries g c told =
    let left : texts_of (drop c.loop-pair.pair-index c.args.names.now) ≡ c.in-Some.name.now ∷ texts_of (drop (c.loop-pair.pair-index + 1) c.args.names.now) =
    with_one c.args.names.now c.loop-pair.pair-index c.pair-item.result c.in-Some.name.now c.loop-pair-test.true c.pair-item.is c.in-Some.ensures in
    c.loop-pair.invariant.tries told (Err no_memory) (g.F.Files.disk c.try_at.new.files)
    (unspelled_at c.args.owner c.args.path.now c.args.physical.now (texts_of (drop c.loop-pair.pair-index c.args.names.now)) (texts_of (drop (c.loop-pair.pair-index + 1) c.args.names.now)) c.in-Some.name.now c.in-Ok.stands (g.F.Files.disk c.loop-pair.files) (g.F.Files.disk c.try_at.new.files) left c.in-Ok.ensures
    (subst (λ (z : List ℕ). TriedTo tried.File c.args.owner z (g.F.Files.disk c.loop-pair.files) (g.F.Files.disk c.try_at.new.files)) c.bytes.ensures.value (c.in-File.ensures.tried told)))

pub returns-in-File-clause-tries : goal.returns-in-File-clause-tries
returns-in-File-clause-tries g c told =
    let left : texts_of (drop c.loop-pair.pair-index c.args.names.now) ≡ c.in-Some.name.now ∷ texts_of (drop (c.loop-pair.pair-index + 1) c.args.names.now) =
    with_one c.args.names.now c.loop-pair.pair-index c.pair-item.result c.in-Some.name.now c.loop-pair-test.true c.pair-item.is c.in-Some.ensures in
    c.loop-pair.invariant.tries told (Ok (place.File c.in-Ok-joined.path c.in-Ok.stands)) (g.F.Files.disk c.try_at.new.files)
    (found_at c.args.owner c.args.path.now c.args.physical.now (texts_of (drop c.loop-pair.pair-index c.args.names.now)) (texts_of (drop (c.loop-pair.pair-index + 1) c.args.names.now)) c.in-Some.name.now c.in-Ok-joined.path c.in-Ok.stands (g.F.Files.disk c.loop-pair.files) (g.F.Files.disk c.try_at.new.files) left c.in-Ok-joined.ensures c.in-Ok.ensures
    (subst (λ (z : List ℕ). TriedTo tried.File c.args.owner z (g.F.Files.disk c.loop-pair.files) (g.F.Files.disk c.try_at.new.files)) c.bytes.ensures.value (c.in-File.ensures.tried told)))

pub returns-in-Failed-clause-tries : goal.returns-in-Failed-clause-tries
returns-in-Failed-clause-tries g c told =
    let left : texts_of (drop c.loop-pair.pair-index c.args.names.now) ≡ c.in-Some.name.now ∷ texts_of (drop (c.loop-pair.pair-index + 1) c.args.names.now) =
    with_one c.args.names.now c.loop-pair.pair-index c.pair-item.result c.in-Some.name.now c.loop-pair-test.true c.pair-item.is c.in-Some.ensures in
    c.loop-pair.invariant.tries told (Ok (place.Status 500)) (g.F.Files.disk c.try_at.new.files)
    (failed_at c.args.owner c.args.path.now c.args.physical.now (texts_of (drop c.loop-pair.pair-index c.args.names.now)) (texts_of (drop (c.loop-pair.pair-index + 1) c.args.names.now)) c.in-Some.name.now c.in-Ok.stands (g.F.Files.disk c.loop-pair.files) (g.F.Files.disk c.try_at.new.files) left
    (subst (λ (z : List ℕ). TriedTo tried.Failed c.args.owner z (g.F.Files.disk c.loop-pair.files) (g.F.Files.disk c.try_at.new.files)) c.bytes.ensures.value (c.in-Failed.ensures.tried told)))

pub returns-in-NoMemory-clause-tries : goal.returns-in-NoMemory-clause-tries
returns-in-NoMemory-clause-tries g c told =
    c.loop-pair.invariant.tries told (Err no_memory) (g.F.Files.disk c.try_at.new.files) (lacking_at c.args.owner c.args.path.now c.args.physical.now (texts_of (drop c.loop-pair.pair-index c.args.names.now)) (g.F.Files.disk c.loop-pair.files) (g.F.Files.disk c.try_at.new.files) (c.in-NoMemory.ensures.tried told))

pub loop-pair-preserved : goal.loop-pair-preserved
loop-pair-preserved g c =
    let left : texts_of (drop c.loop-pair.pair-index c.args.names.now) ≡ c.in-Some.name.now ∷ texts_of (drop (c.loop-pair.pair-index + 1) c.args.names.now) =
    with_one c.args.names.now c.loop-pair.pair-index c.pair-item.result c.in-Some.name.now c.loop-pair-test.true c.pair-item.is c.in-Some.ensures in
    record {
      tries = λ told result after more. c.loop-pair.invariant.tries told result after
          (next_at c.args.owner c.args.path.now c.args.physical.now (texts_of (drop c.loop-pair.pair-index c.args.names.now)) (texts_of (drop (c.loop-pair.pair-index + 1) c.args.names.now)) c.in-Some.name.now c.in-Ok.stands (g.F.Files.disk c.loop-pair.files) (g.F.Files.disk c.try_at.new.files) result after left c.in-Ok.ensures
          (subst (λ (z : List ℕ). TriedTo tried.Other c.args.owner z (g.F.Files.disk c.loop-pair.files) (g.F.Files.disk c.try_at.new.files)) c.bytes.ensures.value (c.in-Other.ensures.tried told)) more);
      faults = omega (arith, c.loop-pair.invariant.faults, c.try_at.ensures.faults);
      reads = c.try_at.ensures.reads ∙ c.loop-pair.invariant.reads;
      later = g.met.F.Files.later_later c.args.files.now c.loop-pair.files c.try_at.new.files c.loop-pair.invariant.later c.try_at.ensures.later;
    }

pub returns-clause-tries : goal.returns-clause-tries
returns-clause-tries g c told =
    c.loop-pair.invariant.tries told (Ok (place.Status 403)) (g.F.Files.disk c.loop-pair.files) (ended_at c.args.owner c.args.path.now c.args.physical.now (texts_of (drop c.loop-pair.pair-index c.args.names.now)) (g.F.Files.disk c.loop-pair.files) (ap texts_of (drop_all c.loop-pair.pair-index c.args.names.now c.loop-pair-test.false)))

use Rattle.std.proofs.Common.{arith}
use Rattle.std.proofs.lemmas.List.{take_rest}
use Rattle.http_head.proofs.ScanLemmas.{behind_next}
use Rattle.http_head.proofs.scan.Place.behind.Goals as goal

pub loop-at-preserved : goal.loop-at-preserved
loop-at-preserved c =
    let bytes = c.args.bytes.now in
    let at = c.loop-at.at in
    record {
      within = search (arith);
      some = λ going ended. omega (arith, c.next-next.ensures.further.0);
      ends = behind_next c.args.self c.loop-at.place c.next-next.result.0 bytes _ at c.next-next.result.1 (take_rest bytes at) c.loop-at.invariant.ends c.next-next.ensures.ends;
    }

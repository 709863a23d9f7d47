use Rattle.std.proofs.Common.{ap, ◌∙◌, take}
use Rattle.http_head.proofs.ScanLemmas.{scan_on}
use Rattle.http_head.proofs.scan.HeadScan.see.Goals as goal

pub returns : goal.returns
returns c = record {
  scan = λ before scan. scan_on c.args.self.place c.behind-place.result.0 c.args.self.seen c.behind-place.result.1 before c.args.bytes.now c.first-new.result.now scan
      (c.first-new.ensures.value ∙ ap (λ n. take n c.args.bytes.now) c.saturating_sub.ensures)
      c.behind-place.ensures.within c.behind-place.ensures.whole c.behind-place.ensures.some c.behind-place.ensures.ends;
}

use Rattle.std.proofs.Common.{◌≡◌, ◌∙◌, ◌++◌, ap, arith}
use Rattle.http_head.specs.Scan.{end_behind}
use Rattle.http_head.specs.declared.scan.Place.{Place}
use Rattle.http_head.specs.declared.scan.Place.TheVariants.{Line}
use Rattle.http_head.proofs.ScanLemmas.{byte_passed, line_passed, line_on}
use Rattle.http_head.proofs.scan.Place.next.Goals as goal

pub returns-in-Some-clause-ends : goal.returns-in-Some-clause-ends
returns-in-Some-clause-ends c =
    let line : c.args.self ≡ Line = cc c.in-Line.is in
    λ more. ap (λ (p : Place). end_behind p (c.args.bytes.now ++ more)) line ∙ line_passed c.args.bytes.now c.in-Some.n c.in-Some.ensures.0.high c.in-Some.ensures.0.before c.in-Some.ensures.1 more

pub returns-in-None-clause-ends : goal.returns-in-None-clause-ends
returns-in-None-clause-ends c =
    let line : c.args.self ≡ Line = cc c.in-Line.is in
    λ more. ap (λ (p : Place). end_behind p (c.args.bytes.now ++ more)) line ∙ line_on c.args.bytes.now c.in-None.ensures more

pub returns-in_default : goal.returns-in_default
returns-in_default c = record {
  further = (omega arith, omega (arith, c.requires.some));
  ends = byte_passed c.args.self c.args.bytes.now c.after.result c.requires.some c.requires.going c.after.ensures;
}

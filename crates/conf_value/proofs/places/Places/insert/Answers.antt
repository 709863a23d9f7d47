use Rattle.std.proofs.Common.{◌≡◌, ℕ, List, cond, Some, subst}
use Rattle.std.specs.Prelude.{nat_eq}
use Rattle.std.specs.Cmp.Lexicographic.{pointwise}
use Rattle.conf_value.specs.Places.{place_in}
use Rattle.conf_value.proofs.Placing.{updated}
use Rattle.conf_value.proofs.places.Places.insert.Goals as goal

pub returns : goal.returns
returns c = λ q.
    let whole = updated c.in_ok-key.key.items c.args.self.now.map c.insert.new.self (Some c.args.at) c.in_ok-insert.ensures.updates q in
    subst (λ (bs : List ℕ). place_in (record { map = c.insert.new.self }) q ≡ cond (pointwise nat_eq bs q) (Some c.args.at) (place_in c.args.self.now q)) c.in_ok-key.ensures.items whole

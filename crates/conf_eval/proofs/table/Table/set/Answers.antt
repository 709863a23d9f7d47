use Rattle.std.proofs.Common.{◌≡◌, ◌∙◌, List, Some, slice_set, ap, sym, subst}
use Rattle.conf_value.specs.declared.block.Setting.{Setting}
use Rattle.conf_eval.specs.Forms.{AreGood}
use Rattle.conf_eval.specs.Places.{place_of_setting}
use Rattle.conf_eval.specs.Settings.{with_setting}
use Rattle.conf_eval.proofs.Forms.{good_set}
use Rattle.conf_eval.proofs.Tables.{sets_at}
use Rattle.conf_eval.proofs.table.Table.set.Goals as goal

pub replace-requires : goal.replace-requires
replace-requires c =
    let placed : place_of_setting c.self.inside.settings c.args.setting.key ≡ Some c.in-Some.at = ap (place_of_setting c.self.inside.settings) (sym c.bytes.ensures.value) ∙ sym (c.self.invariant.0 c.bytes.result.now) ∙ sym c.in-Some.ensures in
    (sets_at c.self.inside.settings c.args.setting c.in-Some.at placed).below

pub invariant_of-self : goal.invariant_of-self
invariant_of-self c =
    let ss = c.self.inside.settings in
    let new = c.args.setting in
    let placed : place_of_setting ss new.key ≡ Some c.in-Some.at = ap (place_of_setting ss) (sym c.bytes.ensures.value) ∙ sym (c.self.invariant.0 c.bytes.result.now) ∙ sym c.in-Some.ensures in
    let h = sets_at ss new c.in-Some.at placed in (
      λ q. c.self.invariant.0 q ∙ sym (h.stays q) ∙ ap (λ (l : List Setting). place_of_setting l q) (sym c.replace.ensures.rest),
      subst AreGood (h.put ∙ sym c.replace.ensures.rest) (good_set ss new c.self.invariant.1 c.requires.taken),
    )

pub returns-in-Some-clause-ok : goal.returns-in-Some-clause-ok
returns-in-Some-clause-ok c =
    let ss = c.self.inside.settings in
    let new = c.args.setting in
    let placed : place_of_setting ss new.key ≡ Some c.in-Some.at = ap (place_of_setting ss) (sym c.bytes.ensures.value) ∙ sym (c.self.invariant.0 c.bytes.result.now) ∙ sym c.in-Some.ensures in
    c.replace.ensures.rest ∙ sym (sets_at ss new c.in-Some.at placed).put ∙ ap (λ (l : List Setting). with_setting l new) c.self.view_is

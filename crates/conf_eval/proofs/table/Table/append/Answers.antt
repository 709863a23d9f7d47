use Rattle.std.proofs.Common.{◌≡◌, ◌∙◌, ◌++◌, ◌∷◌, [], ℕ, List, length, Option, Some, ap, sym, subst, if◌then◌else◌}
use Rattle.std.specs.Str.{bytes_eq}
use Rattle.conf_value.specs.declared.block.Setting.{Setting}
use Rattle.conf_eval.specs.Forms.{AreGood}
use Rattle.conf_eval.specs.Places.{place_in, place_of_setting}
use Rattle.conf_eval.specs.Settings.{with_setting}
use Rattle.conf_eval.proofs.Forms.{good_set}
use Rattle.conf_eval.proofs.Tables.{sets_last}
use Rattle.conf_eval.proofs.table.Table.append.Goals as goal

pub invariant_of-self-in-Ok : goal.invariant_of-self-in-Ok
invariant_of-self-in-Ok c =
    let ss = c.self.inside.settings in
    let new = c.args.setting in
    let h = sets_last ss new (ap (λ (l : List Setting). place_of_setting l new.key) c.self.view_is ∙ c.requires.absent) in
    let pushed : c.push.new.self ≡ ss ++ new ∷ [] = c.in_ok-push.ensures.ok in (
      λ q. c.in-Ok.ensures.ok q
          ∙ ap (λ (bs : List ℕ). if bytes_eq bs q then Some c.len-at.result else place_in c.self.inside.places q) (c.in_ok-name.ensures ∙ c.bytes.ensures.value)
          ∙ ap (λ (n : ℕ). if bytes_eq new.key q then Some n else place_in c.self.inside.places q) c.len-at.ensures
          ∙ ap (λ (o : Option ℕ). if bytes_eq new.key q then Some (length ss) else o) (c.self.invariant.0 q)
          ∙ sym (h.placed q) ∙ ap (λ (l : List Setting). place_of_setting l q) (sym pushed),
      subst AreGood (h.put ∙ sym pushed) (good_set ss new c.self.invariant.1 c.requires.taken),
    )

pub returns-in-Ok-clause-ok : goal.returns-in-Ok-clause-ok
returns-in-Ok-clause-ok c =
    let ss = c.self.inside.settings in
    let new = c.args.setting in
    let h = sets_last ss new (ap (λ (l : List Setting). place_of_setting l new.key) c.self.view_is ∙ c.requires.absent) in
    c.in_ok-push.ensures.ok ∙ sym h.put ∙ ap (λ (l : List Setting). with_setting l new) c.self.view_is

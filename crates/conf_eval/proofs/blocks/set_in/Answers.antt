use Rattle.std.proofs.Common.{◌≡◌, ◌∙◌, List, ap, sym, length, slice_set, refl}
use Rattle.std.proofs.lemmas.Option.{slice_get_read}
use Rattle.conf_value.specs.declared.block.Block.{Block}
use Rattle.conf_eval.specs.Settings.{set_to, with_setting}
use Rattle.conf_eval.proofs.Sounds.{set_at, on_ok}
use Rattle.conf_eval.proofs.blocks.set_in.Goals as goal

pub returns-clause-ok : goal.returns-clause-ok
returns-clause-ok c =
    let blocks = c.args.blocks.now.items in
    let old = c.index_mut-block.result.now in
    on_ok c.set.result (λ (p : c.set.new.self ≡ set_to old (with_setting old.settings c.args.setting)). ap (slice_set blocks c.args.at) p
    ∙ set_at blocks c.args.at old c.args.setting (slice_get_read blocks (length blocks) c.args.at old refl c.requires.at c.index_mut-block.ensures.value)) c.set.ensures.ok

use Rattle.std.proofs.Common.{◌≡◌, ◌∙◌, List, Some, None, length, slice_get, ap, sym, refl, subst}
use Rattle.std.proofs.lemmas.Option.{slice_get_read, slice_get_past}
use Rattle.conf_value.specs.declared.block.Block.{Block}
use Rattle.conf_eval.specs.Built.{Built}
use Rattle.conf_eval.specs.Settings.{settings_of, value_of}
use Rattle.conf_eval.proofs.Sounds.{settings_at, settings_none}
use Rattle.conf_eval.proofs.blocks.Blocks.get.Goals as goal

pub returns-in-Some : goal.returns-in-Some
returns-in-Some c =
    let blocks = c.deref.result.now in
    let found = c.in-Some.ensures.lookup in
    c.get-in-Some.ensures ∙ ap (value_of c.args.key.now) (sym (settings_at blocks c.args.block c.in-Some.opened.now (slice_get_read blocks (length blocks) c.args.block c.in-Some.opened.now refl found.3.0 found.1)))
    ∙ ap (λ (l : List Block). value_of c.args.key.now (settings_of c.args.block l)) c.deref.ensures.value
    ∙ ap (λ (b : Built). value_of c.args.key.now (settings_of c.args.block b.blocks)) c.self.view_is

pub returns-in-None : goal.returns-in-None
returns-in-None c =
    let blocks = c.deref.result.now in
    ap (value_of c.args.key.now) (sym (settings_none blocks c.args.block (slice_get_past blocks c.args.block c.in-None.ensures.lookup.3)))
    ∙ ap (λ (l : List Block). value_of c.args.key.now (settings_of c.args.block l)) c.deref.ensures.value
    ∙ ap (λ (b : Built). value_of c.args.key.now (settings_of c.args.block b.blocks)) c.self.view_is

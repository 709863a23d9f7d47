-- A configuration that sets nothing is in form.
use Rattle.std.proofs.Common.{◌≡◌, ℕ, zero, suc, List, [], ◌∷◌, slice_get, Some, is_some, unwrap_or, refl, sym, ap, subst, ◌∙◌, arith}
use Rattle.conf_value.specs.declared.block.Block.{Block}
use Rattle.settings.specs.InForm.{AreGoodSettings, IsGlobal, IsInForm}
use Rattle.conf_eval.specs.Settings.{global, blocks_of}
use Rattle.conf_eval.proofs.Forms.{good_settings}
use Rattle.conf_eval.proofs.Placed.{no}

-- the global block alone
only : (n : ℕ) (b : Block) → slice_get (blocks_of []) n ≡ Some b → (n ≡ 0) × (global [] ≡ b)
only zero b p = (refl, ap (λ o. unwrap_or o (global [])) p)
only (suc n) b p = no (ap is_some p)

pub empty_in_form : IsInForm (record { blocks = blocks_of []; warnings = [] })
empty_in_form = record {
  first = (global [], refl);
  global = λ b p. subst IsGlobal (only 0 b p).1 (record { parent = refl; chain = refl; condition = refl });
  inner = λ n b p other. absurd (other (only n b p).0);
  conditions = λ n b condition p c. no (ap is_some (ap (λ (y : Block). y.condition) (only n b p).1 ∙ c));
  settings = λ n b p. subst (λ (y : Block). AreGoodSettings y.settings) (only n b p).1 (good_settings [] tt);
  few = omega arith;
  lists = omega arith;
}

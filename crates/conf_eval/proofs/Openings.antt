-- How a block opens, by what was found of it.
use Rattle.std.proofs.Common.{◌≡◌, ℕ, List, [], ◌∷◌, ◌++◌, length, slice_get, Option, Some, None, is_some, Bool, true, false, not, if◌then◌else◌, refl, sym, ◌∙◌, ap}
use Rattle.conf_parse.specs.declared.tree.RawCondition.{RawCondition}
use Rattle.conf_value.specs.declared.condition.Condition.{Condition}
use Rattle.conf_value.specs.declared.condition.Field.{Field}
use Rattle.conf_value.specs.declared.condition.Field.TheVariants as field
use Rattle.conf_value.specs.declared.condition.Op.{Op}
use Rattle.conf_value.specs.declared.condition.Op.TheVariants as op
use Rattle.conf_value.specs.Addresses.{network_of}
use Rattle.conditions.specs.Comparing.{HasPattern, tries_pattern}
use Rattle.conditions.specs.Marked.{Marked}
use Rattle.settings.specs.InForm as form
use Rattle.settings.specs.InForm.{IsGoodCondition}
use Rattle.conf_eval.specs.declared.fault.ConfKind.TheVariants as kind
use Rattle.conf_eval.specs.Settings.{State}
use Rattle.conf_eval.specs.Calls.{Calls}
use Rattle.conf_eval.specs.Parts.{fails}
use Rattle.conf_eval.specs.Opening.{is_full, lacks_network, opens_with, opens_by, opens_on, opens_bare, condition_of}
use Rattle.conf_eval.specs.Sound.{HasOwn}
use Rattle.conf_eval.proofs.Heads.{get_last}
use Rattle.conf_eval.proofs.Placed.{no}

module _ (file line : ℕ) (scopes : List ℕ) (s : State) (calls : Calls) where
  pub bare_full : (n : ℕ) → is_full s ≡ true → opens_bare file line scopes (Some n) s calls ≡ fails kind.TooMany file line calls
  bare_full n p = ap (λ (b : Bool). if b then fails kind.TooMany file line calls else opens_with scopes (Some n) None s calls) p

  pub bare_open : (n : ℕ) → is_full s ≡ false → opens_bare file line scopes (Some n) s calls ≡ opens_with scopes (Some n) None s calls
  bare_open n p = ap (λ (b : Bool). if b then fails kind.TooMany file line calls else opens_with scopes (Some n) None s calls) p

  module _ (behind : Option ℕ) (raw : RawCondition) (field : Field) where
    pub on_full : is_full s ≡ true → opens_on file line scopes behind raw (Some field) s calls ≡ fails kind.TooMany file line calls
    on_full p = ap (λ (b : Bool). if b then fails kind.TooMany file line calls
        else (if lacks_network field raw.op raw.text then fails kind.BadValue file line calls else opens_by file line scopes behind raw field (tries_pattern raw.op) s calls)) p

    by_network : is_full s ≡ false → (b : Bool) → lacks_network field raw.op raw.text ≡ b
        → opens_on file line scopes behind raw (Some field) s calls ≡ (if b then fails kind.BadValue file line calls else opens_by file line scopes behind raw field (tries_pattern raw.op) s calls)
    by_network p b q = ap (λ (b : Bool). if b then fails kind.TooMany file line calls
        else (if lacks_network field raw.op raw.text then fails kind.BadValue file line calls else opens_by file line scopes behind raw field (tries_pattern raw.op) s calls)) p
        ∙ ap (λ (b : Bool). if b then fails kind.BadValue file line calls else opens_by file line scopes behind raw field (tries_pattern raw.op) s calls) q

    pub on_bad : is_full s ≡ false → lacks_network field raw.op raw.text ≡ true → opens_on file line scopes behind raw (Some field) s calls ≡ fails kind.BadValue file line calls
    on_bad p q = by_network p true q

    pub on_good : is_full s ≡ false → lacks_network field raw.op raw.text ≡ false
        → opens_on file line scopes behind raw (Some field) s calls ≡ opens_by file line scopes behind raw field (tries_pattern raw.op) s calls
    on_good p q = by_network p false q

-- ---- the condition is good

not_false : (b : Bool) → not b ≡ false → b ≡ true
not_false true p = refl
not_false false p = no (sym p)

has_network : (field : Field) (op : Op) (text : List ℕ) → lacks_network field op text ≡ false → form.HasNetwork field op text
has_network field.RemoteIp op.Equal text p = not_false (is_some (network_of text)) p
has_network field.RemoteIp op.NotEqual text p = not_false (is_some (network_of text)) p
has_network field.RemoteIp op.Match text p = tt
has_network field.RemoteIp op.NoMatch text p = tt
has_network field.RemoteIp op.Prefix text p = tt
has_network field.RemoteIp op.Suffix text p = tt
has_network field.Host op text p = tt
has_network field.Url op text p = tt
has_network field.Query op text p = tt
has_network field.Method op text p = tt
has_network field.Scheme op text p = tt
has_network field.UserAgent op text p = tt
has_network field.Referer op text p = tt
has_network field.Cookie op text p = tt
has_network (field.Header name) op text p = tt
has_network field.Socket op text p = tt
has_network field.Physical op text p = tt

has_pattern : (op : Op) (n : ℕ) → tries_pattern op ≡ true → form.HasPattern op (Some n)
has_pattern op.Equal n p = no p
has_pattern op.NotEqual n p = no p
has_pattern op.Match n p = refl
has_pattern op.NoMatch n p = refl
has_pattern op.Prefix n p = no p
has_pattern op.Suffix n p = no p

-- its pattern is the last that was made
pub own_pattern : (raw : RawCondition) (field : Field) (ps : List Marked) → tries_pattern raw.op ≡ true → lacks_network field raw.op raw.text ≡ false
    → HasOwn (ps ++ (raw.text, false) ∷ []) (Some (condition_of raw field (Some (length ps))))
own_pattern raw field ps tries network = (record { pattern = has_pattern raw.op (length ps) tries; network = has_network field raw.op raw.text network }, get_last ps (raw.text, false))

-- The values at the places that were found.
use Rattle.std.proofs.Common.{◌≡◌, List, Option, ◌∙◌, ap, codes}
use Rattle.conf_value.specs.declared.block.Block.{Block}
use Rattle.conditions.specs.Attributes.{Attributes}
use Rattle.cond_cache.specs.Truths.{truth_of}
use Rattle.settings.specs.declared.counting.Counting.{Counting}
use Rattle.settings.specs.declared.key.Key.{Key}
use Rattle.settings.specs.declared.key.Key.TheVariants.{Modules, RewriteOnce, RewriteRepeat, MaxRequestSize}
use Rattle.settings.specs.declared.key.TheConstants.{KEYS}
use Rattle.settings.specs.declared.places.Place.{Place}
use Rattle.settings.specs.Indexed.{AreDue, place_in, winner}
use Rattle.settings.specs.Kinds.{bytes_of}
use Rattle.settings.specs.Used.{values_at, number_or, setting_at, rules_or_none, of_module, pairs_or_none}
use Rattle.settings.proofs.Due.{all_due}
use Rattle.request_settings.specs.Values.{values_on}

-- with the places of all keys they are those on the attributes
pub values_found : (blocks : List Block) (a : Attributes) (counting : Counting) → AreDue (winner blocks (truth_of blocks a)) KEYS counting → values_at blocks (place_in counting) ≡ values_on blocks a
unfolding values_on
values_found blocks a counting due = ap (values_at blocks) (λ i key. all_due (winner blocks (truth_of blocks a)) counting due key i)

-- the value of one key, by its place
pub size_found : (blocks : List Block) (a : Attributes) (place : Option Place) → place ≡ winner blocks (truth_of blocks a) MaxRequestSize
    → bytes_of (number_or 1024 (setting_at blocks place)) ≡ (values_on blocks a).server_max_request_size
unfolding values_on
size_found blocks a place e = ap (λ p. bytes_of (number_or 1024 (setting_at blocks p))) e

-- a list of rules, by its place and that of the modules
pub once_found : (blocks : List Block) (a : Attributes) (counting : Counting) → place_in counting Modules ≡ winner blocks (truth_of blocks a) Modules → place_in counting RewriteOnce ≡ winner blocks (truth_of blocks a) RewriteOnce
    → (values_at blocks (place_in counting)).url_rewrite_once ≡ (values_on blocks a).url_rewrite_once
unfolding values_on
once_found blocks a counting modules list =
    ap (λ (m : Option Place). rules_or_none (of_module (codes "mod_rewrite") (pairs_or_none (setting_at blocks m)) (setting_at blocks (place_in counting RewriteOnce)))) modules
    ∙ ap (λ (l : Option Place). rules_or_none (of_module (codes "mod_rewrite") (pairs_or_none (setting_at blocks (winner blocks (truth_of blocks a) Modules))) (setting_at blocks l))) list

pub repeat_found : (blocks : List Block) (a : Attributes) (counting : Counting) → place_in counting Modules ≡ winner blocks (truth_of blocks a) Modules → place_in counting RewriteRepeat ≡ winner blocks (truth_of blocks a) RewriteRepeat
    → (values_at blocks (place_in counting)).url_rewrite_repeat ≡ (values_on blocks a).url_rewrite_repeat
unfolding values_on
repeat_found blocks a counting modules list =
    ap (λ (m : Option Place). rules_or_none (of_module (codes "mod_rewrite") (pairs_or_none (setting_at blocks m)) (setting_at blocks (place_in counting RewriteRepeat)))) modules
    ∙ ap (λ (l : Option Place). rules_or_none (of_module (codes "mod_rewrite") (pairs_or_none (setting_at blocks (winner blocks (truth_of blocks a) Modules))) (setting_at blocks l))) list

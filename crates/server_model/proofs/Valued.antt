-- What the settings are, and how they are bounded.
use Rattle.std.proofs.Common.{◌≡◌, ℕ, ◌*◌, ◌≤◌, List, Bool, true, false, ◌||◌, ◌==◌, nat_lt, Option, Some, None, if◌then◌else◌, refl, arith}
use Rattle.std.proofs.lemmas.Bool.Decides.{nat_tests}
use Rattle.conf_value.specs.declared.block.Block.{Block}
use Rattle.conf_value.specs.declared.truth.Truth.{Truth}
use Rattle.conditions.specs.Attributes.{Attributes}
use Rattle.cond_cache.specs.Truths.{truth_of}
use Rattle.settings.specs.declared.key.Key.TheVariants.{MaxRequestSize, MaxKeepAliveRequests}
use Rattle.settings.specs.Indexed.{winner, global_alone}
use Rattle.settings.specs.Kinds.{bytes_of, one_or_more}
use Rattle.settings.specs.Used.{values_where, setting_at, number_or}
use Rattle.server_model.specs.Attributes.{attributes_at}
use Rattle.server_model.specs.Site.{Site}
use Rattle.server_model.specs.Request.{Head}
use Rattle.server_model.specs.World.{Arrival}
use Rattle.server_model.specs.Settings.{settings_on, global_settings, settings_at, settings_from, truths_at}

pub settings_on_is : (blocks : List Block) (a : Attributes) → settings_on blocks a ≡ settings_from (values_where blocks (truth_of blocks a))
unfolding settings_on
settings_on_is blocks a = refl

pub global_settings_is : (blocks : List Block) → global_settings blocks ≡ settings_from (values_where blocks global_alone)
unfolding global_settings
global_settings_is blocks = refl

pub valued : (site : Site) (arrival : Option Arrival) (head : Option Head) → settings_at site arrival head ≡ settings_from (values_where site.blocks (truths_at site arrival head))
valued site arrival None = global_settings_is site.blocks
valued site arrival (Some head) = settings_on_is site.blocks (attributes_at arrival head head.target)

least : (n : ℕ) → 1 ≤ one_or_more n
least n = by (n == 0) refl
  where
    by : (t : Bool) → (n == 0) ≡ t → 1 ≤ (if t then 1 else n)
    by true is = omega arith
    by false is = grind (arith, nat_tests, is)

bytes_within : (n : ℕ) → (1024 ≤ bytes_of n) × (bytes_of n ≤ 4194304)
bytes_within n = by (n == 0 || nat_lt 4096 n) refl
  where
    by : (t : Bool) → (n == 0 || nat_lt 4096 n) ≡ t → (1024 ≤ (if t then 4096 * 1024 else n * 1024)) × ((if t then 4096 * 1024 else n * 1024) ≤ 4194304)
    by true is = (omega arith, omega arith)
    by false is = (grind (arith, nat_tests, is), grind (arith, nat_tests, is))

-- what a key with a number is set to, where the blocks have these truths
abbrev requests_by : List Block → (ℕ → Truth) → ℕ
requests_by blocks truth = number_or 100 (setting_at blocks (winner blocks truth MaxKeepAliveRequests))

abbrev size_by : List Block → (ℕ → Truth) → ℕ
size_by blocks truth = number_or 1024 (setting_at blocks (winner blocks truth MaxRequestSize))

pub requests_on : (blocks : List Block) (a : Attributes) → 1 ≤ (settings_on blocks a).request_limit
unfolding settings_on
requests_on blocks a = least (requests_by blocks (truth_of blocks a))

pub body_on : (blocks : List Block) (a : Attributes) → (1024 ≤ (settings_on blocks a).body_limit) × ((settings_on blocks a).body_limit ≤ 4194304)
unfolding settings_on
body_on blocks a = bytes_within (size_by blocks (truth_of blocks a))

pub requests_least : (site : Site) (arrival : Option Arrival) (head : Option Head) → 1 ≤ (settings_at site arrival head).request_limit
unfolding global_settings
requests_least site arrival None = least (requests_by site.blocks global_alone)
requests_least site arrival (Some head) = requests_on site.blocks (attributes_at arrival head head.target)

pub body_within : (site : Site) (arrival : Option Arrival) (head : Option Head) → (1024 ≤ (settings_at site arrival head).body_limit) × ((settings_at site arrival head).body_limit ≤ 4194304)
unfolding global_settings
body_within site arrival None = bytes_within (size_by site.blocks global_alone)
body_within site arrival (Some head) = body_on site.blocks (attributes_at arrival head head.target)

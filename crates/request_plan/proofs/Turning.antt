-- What a rewriting leads to.
use Rattle.std.proofs.Common.{◌≡◌, ℕ, ◌+◌, ◌*◌, ◌≤◌, Option, Result, Ok, Err, refl, sym, ap, subst, arith}
use Rattle.std.specs.Prelude.{IfOk}
use Rattle.file_reply.specs.Refusals.{plain}
use Rattle.http_target.specs.declared.read.Target.{Target}
use Rattle.lt_bytes.specs.declared.memory.NoMemory.{NoMemory}
use Rattle.lt_world.specs.declared.net.Owner.{Owner}
use Rattle.lt_world.specs.Disk.{Disk, Tree}
use Rattle.rewrite.specs.declared.rewriting.Rewritten.TheVariants as rewritten
use Rattle.server_model.specs.Attributes.{attributes_at}
use Rattle.server_model.specs.Made.{Leads}
use Rattle.server_model.specs.Plan.{at_target, ends_with}
use Rattle.server_model.specs.Request.{Head}
use Rattle.server_model.specs.Rewrites.{rewriting}
use Rattle.server_model.specs.Settings.{Settings, settings_on}
use Rattle.server_model.specs.Site.{Site}
use Rattle.server_model.specs.World.{Arrival}
use Rattle.server_model.proofs.Courses.{leads_same, leads_new, leads_loop, leads_bad}
use Rattle.server_model.proofs.Planned.{plans_ends, calls_none}
use Rattle.request_plan.specs.declared.chosen.Chosen.{Chosen}
use Rattle.request_plan.specs.Finding.{IsInWords}
use Rattle.request_plan.specs.Planned.{PlansBy}
use Rattle.request_plan.proofs.Words.{words_planned}

module _ (site now : Site) (arrival : Option Arrival) (head : Head) (tree : Tree) (target : Target) (same : now ≡ site) (to : (rewriting site.blocks arrival head).target ≡ target) where
  back : Leads site arrival head tree 0 (λ b. at_target b target) → Leads now arrival head tree 0 (λ b. at_target b target)
  back leads = subst (λ (s : Site). Leads s arrival head tree 0 (λ b. at_target b target)) (sym same) leads

  pub same_leads : (rewriting site.blocks arrival head).answer ≡ rewritten.Same → Leads now arrival head tree 0 (λ b. at_target b target)
  same_leads is = back (leads_same site arrival head tree target to is)

  pub new_leads : (rewriting site.blocks arrival head).answer ≡ rewritten.New → Leads now arrival head tree 0 (λ b. at_target b target)
  new_leads is = back (leads_new site arrival head tree target to is)

-- a status in words, where no file was asked for
module _ (result : Result Chosen NoMemory) (site now : Site) (arrival : Option Arrival) (owner : Owner) (head : Head) (disk : Disk) (target : Target) (same : now ≡ site) where
  abbrev its : Settings
  its = settings_on site.blocks (attributes_at arrival head target)

  status_by : (r : Result Chosen NoMemory) (status : ℕ) → IfOk r (IsInWords (settings_on now.blocks (attributes_at arrival head target)) (plain status)) → Leads site arrival head disk.tree 0 (λ b. ends_with its (plain status) 0)
      → PlansBy r site arrival owner.conn owner.request head disk disk
  status_by (Ok chosen) status says leads =
      words_planned chosen its (plain status) site arrival owner.conn owner.request head disk disk
      (subst (λ (s : Settings). IsInWords s (plain status) chosen) (ap (λ (s : Site). settings_on s.blocks (attributes_at arrival head target)) same) says) refl
      (plans_ends site arrival owner head disk its (plain status) 0 disk refl leads)
  status_by (Err e) status says leads = calls_none site arrival owner head disk

  module _ (to : (rewriting site.blocks arrival head).target ≡ target) where
    pub loop_plans : (rewriting site.blocks arrival head).answer ≡ rewritten.Loop → IfOk result (IsInWords (settings_on now.blocks (attributes_at arrival head target)) (plain 500)) → PlansBy result site arrival owner.conn owner.request head disk disk
    loop_plans is says = status_by result 500 says (leads_loop site arrival head disk.tree target to is)

    pub bad_plans : (rewriting site.blocks arrival head).answer ≡ rewritten.Bad → IfOk result (IsInWords (settings_on now.blocks (attributes_at arrival head target)) (plain 400)) → PlansBy result site arrival owner.conn owner.request head disk disk
    bad_plans is says = status_by result 400 says (leads_bad site arrival head disk.tree target to is)

-- what was compared before counts once
pub before_all : (steps asked passes many : ℕ) → asked ≤ many → steps + asked ≤ steps + (3 + passes) * many + 1
before_all steps asked passes many few =
    let all : (3 + passes) * many ≡ 3 * many + passes * many = omega arith in
    omega (arith, few, all)

pub in_rewriting : (new old asked_old asked_new passes many : ℕ) → new + asked_old ≤ old + passes * many + asked_new + 1 → asked_new ≤ many → new + asked_old ≤ old + (3 + passes) * many + 1
in_rewriting new old asked_old asked_new passes many bound few =
    let all : (3 + passes) * many ≡ 3 * many + passes * many = omega arith in
    omega (arith, bound, few, all)

-- The lists that win, as they are lent.
use Rattle.std.proofs.Common.{◌≡◌, ℕ, suc, ◌+◌, List, Result, refl, sym, ◌∙◌, ap, subst}
use Rattle.conf_value.specs.declared.block.Block.{Block}
use Rattle.conf_value.specs.declared.value.Pair.{Pair}
use Rattle.conditions.specs.Attributes.{Attributes}
use Rattle.conditions.specs.Marked.{Marked}
use Rattle.http_head.specs.declared.head.Request.{Request}
use Rattle.http_target.specs.declared.read.Target.{Target}
use Rattle.settings.specs.Used as settings
use Rattle.rewrite.specs.declared.next.Next.{Next}
use Rattle.rewrite.specs.declared.next.Next.TheVariants as next
use Rattle.rewrite.specs.declared.rewriting.Rewritten.TheVariants as answer
use Rattle.rewrite.specs.Rules.{RuleList, Lists, AreNumbered}
use Rattle.rewrite.specs.Rewriting.{Ended, next_of, after, from, rewritten}
use Rattle.request_settings.specs.declared.attributes.Arrival.{Arrival}
use Rattle.request_settings.specs.Attributes.{attributes_on}
use Rattle.request_settings.specs.Lists.{list_on, lists_on, rewriting_on}
use Rattle.request_settings.specs.Values.{values_on}

-- the patterns of a list are there, whatever it is called
pub numbered_as : (old new : List Marked) (won seen : settings.RuleList) (first : ℕ) (pairs : List Pair) → new ≡ old → seen ≡ won → first ≡ seen.first_pattern → pairs ≡ seen.rules
    → AreNumbered old won.first_pattern won.rules → AreNumbered new first pairs
numbered_as old new won seen first pairs patterns same first_is pairs_are h =
    subst (λ (ms : List Marked). AreNumbered ms first pairs) (sym patterns)
    (subst (λ (n : ℕ). AreNumbered old n pairs) (sym (first_is ∙ ap (λ (r : settings.RuleList). r.first_pattern) same))
    (subst (λ (ps : List Pair). AreNumbered old won.first_pattern ps) (sym (pairs_are ∙ ap (λ (r : settings.RuleList). r.rules) same)) h))

-- both lists are those on the attributes
pub both_lists : (blocks : List Block) (a : Attributes) (once repeat : RuleList) → once ≡ list_on blocks a (values_on blocks a).url_rewrite_once → repeat ≡ list_on blocks a (values_on blocks a).url_rewrite_repeat
    → record { once = once; repeat = repeat } ≡ lists_on blocks a
unfolding lists_on
both_lists blocks a once repeat e f =
    let first : record { once = once; repeat = repeat } ≡ record { once = list_on blocks a (values_on blocks a).url_rewrite_once; repeat = repeat } = ap (λ (o : RuleList). record { once = o; repeat = repeat }) e in
    let then : record { once = list_on blocks a (values_on blocks a).url_rewrite_once; repeat = repeat } ≡ record { once = list_on blocks a (values_on blocks a).url_rewrite_once; repeat = list_on blocks a (values_on blocks a).url_rewrite_repeat } =
    ap (λ (r : RuleList). record { once = list_on blocks a (values_on blocks a).url_rewrite_once; repeat = r }) f in
    first ∙ then

-- where no rule makes a new target, the request keeps its own
pub rewriting_kept : (blocks : List Block) (arrival : Arrival) (head : Request) (target : Target) → next_of (lists_on blocks (attributes_on arrival head target)) target.raw ≡ next.Kept
    → rewriting_on blocks arrival head target ≡ record { answer = answer.Same; target = target; passes = 0 }
unfolding rewriting_on rewritten from
rewriting_kept blocks arrival head target e =
    ap (λ (n : Next). after 0 target n (λ new. from (λ t. lists_on blocks (attributes_on arrival head t)) 99 1 new)) e

use Rattle.std.proofs.Common.{ℕ, ◌-◌, List, take, subst, ◌∙◌, ap, sym, arith}
use Rattle.http_head.specs.Ends.{head_end}
use Rattle.proxy_message.specs.Progress.{judged}
use Rattle.proxy_message.specs.Feeding.{IsHeaded}
use Rattle.proxy_message.proofs.HeadedLemmas.{ends_of, open_of, large_of, held_short, end_behind}
use Rattle.proxy_message.proofs.heads.headed.Goals as goal

pub joined-requires : goal.joined-requires
joined-requires c = omega (arith, held_short c.args.held.now c.requires.unfinished)

pub overflow_sub-result : goal.overflow_sub-result
overflow_sub-result c =
    omega (
      arith,
      c.len.ensures,
      end_behind c.args.held.now c.args.bytes.now c.in_ok-whole.whole c.in-At.n c.requires.unfinished c.in_ok-whole.ensures
          (ap head_end (sym c.bytes.ensures.value) ∙ sym c.head_end.ensures.value ∙ c.in-At.is),
    )

pub returns-in_ok-progress-in-At : goal.returns-in_ok-progress-in-At
returns-in_ok-progress-in-At c =
    subst (λ (k : ℕ). IsHeaded c.args.head_only c.args.held.now c.args.bytes.now c.in_ok-progress-in-At.progress (c.in-At.n - k)) (sym c.len.ensures)
    (ends_of c.args.head_only c.args.held.now c.args.bytes.now c.in_ok-whole.whole c.in-At.n c.in_ok-progress-in-At.progress c.requires.unfinished c.in_ok-whole.ensures
    (ap head_end (sym c.bytes.ensures.value) ∙ sym c.head_end.ensures.value ∙ c.in-At.is)
    (c.in_ok-progress-in-At.ensures ∙ ap (judged c.args.head_only) (c.first.ensures ∙ ap (λ (l : List ℕ). take c.in-At.n l) c.bytes-in-At.ensures.value)))

pub returns-in-NotYet : goal.returns-in-NotYet
returns-in-NotYet c =
    open_of c.args.head_only c.args.held.now c.args.bytes.now c.in_ok-whole.whole _ c.before-in-NotYet.result c.requires.unfinished c.requires.some c.in_ok-whole.ensures
    (ap head_end (sym c.bytes.ensures.value) ∙ sym c.head_end.ensures.value ∙ c.in-NotYet.is) c.before-in-NotYet.ensures
    (omega (arith, c.len-in-NotYet.ensures, c.len-in-NotYet-2.ensures))

pub returns-in-TooLarge : goal.returns-in-TooLarge
returns-in-TooLarge c =
    large_of c.args.head_only c.args.held.now c.args.bytes.now c.in_ok-whole.whole _ c.before-in-TooLarge.result c.requires.unfinished c.requires.some c.in_ok-whole.ensures
    (ap head_end (sym c.bytes.ensures.value) ∙ sym c.head_end.ensures.value ∙ c.in-TooLarge.is) c.before-in-TooLarge.ensures
    (omega (arith, c.len-in-TooLarge.ensures, c.len-in-TooLarge-2.ensures))

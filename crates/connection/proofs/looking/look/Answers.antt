use Rattle.std.proofs.Common.{◌≡◌, ℕ, List, length, sym, subst, ◌∙◌}
use Rattle.std.specs.Prelude.{Result, Ok, Err, OnErr}
use Rattle.http_head.specs.declared.ends.HeadEnd.TheVariants as end
use Rattle.http_head.specs.Ends.{IsWithin}
use Rattle.chunkqueue.specs.Items.{memory_front, items_of}
use Rattle.connection.proofs.Heads.{looked_none, looked_large, looked_whole}
use Rattle.connection.proofs.looking.look.Goals as goal

on_err : {V E : Type 0} (r : Result V E) (P : Type 0) → P → OnErr r P
on_err (Ok v) P p = tt
on_err (Err e) P p = p

pub returns-in-NotYet : goal.returns-in-NotYet
returns-in-NotYet c =
    let is : end.NotYet ≡ c.args.end = cc c.in-NotYet.is in
    record { looked = looked_none (memory_front (items_of c.args.input.now)) c.args.end c.requires.end is; wants = tt }

pub returns-in-TooLarge : goal.returns-in-TooLarge
returns-in-TooLarge c =
    let is : end.TooLarge ≡ c.args.end = cc c.in-TooLarge.is in
    record { looked = looked_large (memory_front (items_of c.args.input.now)) c.args.end c.requires.end is; wants = tt }

pub returns-in-At : goal.returns-in-At
returns-in-At c =
    let bytes : List ℕ = memory_front (items_of c.args.input.now) in
    let is : end.At c.in-At.n ≡ c.args.end = cc c.in-At.is in
    record { looked = looked_whole bytes c.in-At.n c.headed.result (is ∙ c.requires.end) (subst (IsWithin (length bytes)) (sym is) c.requires.within) c.headed.ensures.found; wants = on_err c.headed.result _ (c.in-At.n, sym is) }

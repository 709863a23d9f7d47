-- `unlink_front` takes the first node out. Assumes `Logic`.
use Rattle.buffer_pool.proofs.Steps.{◌≡◌, ◌<◌, List, [], ◌∷◌, ◌++◌, length, refl, ap, ◌∙◌, Fn, named, Val, vptr, SProp, ftrue, flft, Env, WpFn, fact, tables, ‵, raw, ◌⊛◌, prop, at_ret, ◌$◌, ◌∵◌, !, qed, move, keep, split, join, rewrite, regoal, fsplit, fsplit3, fjoin, fjoin3, feq_i, feq_l, suffices, frame, done, whole, sub, agg, look_in, store_in, stop, fld, load, of_opd, and_then, no_more, assigns, first, blocks, exec, returns, enter, alloc_all, pass_all, free_all, look_at, get, through, sets, sets_last, is, env, owns, Ptr, block_ptr, ptr_val, MutRef, plain, nothing, heard, says, Stays, stay_ref, walk_of, ends_at, Goes-ref, Ptr-Good, after, proved_at}
use Rattle.buffer_pool.proofs.NodeSteps.{Lr, nodes_opens, nodes_closes, node_opens, node_closes}
use Rattle.buffer_pool.proofs.LooseSteps.{lone_word, lone_good, loose_made}
use Rattle.buffer_pool.proofs.Cells.{has, uncons, first_or-same, last_or-rest}
use Rattle.buffer_pool.specs.declared.node.Node.{Node}
use Rattle.buffer_pool.specs.declared.nodes.Nodes.{Nodes}
use Rattle.buffer_pool.specs.Links.{Cell, states_of, first_or, last_or, links}
use Rattle.buffer_pool.specs.contracts.nodes.Nodes.unlink_front.{ended, clauses}
use Rattle.buffer_pool.specs.contracts.nodes.Nodes.unlink_front.Key.{name as #self}
use Rattle.buffer_pool.proofs.nodes.Nodes.unlink_front.Statement.{statement}
use Rattle.buffer_pool.proofs.nodes.Nodes.unlink_front.Code as code

pub unlink_front_spec : {M : Type 1} → statement M
unlink_front_spec 𝓤 𝓛 𝓜 𝓡 wired =
    let H = 𝓛.H in let 𝓣 = tables 𝓤 H 𝓜 𝓡 𝓡.env in let fn : Fn = code.function in let c = clauses 𝓛 𝓜.mem 𝓡.returns in
    let hs : Stays ended.signature.params ended.kept = (stay_ref (0 ∷ []) tt (plain (λ _. Lr)), tt) in
    proved_at 𝓛 ended hs c 𝓜 𝓡 (Goes-ref 𝓛 1 0 tt (plain (λ _. Lr)), tt) #self fn (code.unfolded 𝓤 H 𝓜 𝓡 wired) (λ z are.
    let Post : Val → SProp 𝓤 = (walk_of 𝓛 ended hs c).post z in
    let κ = z.0.0.0 in let q = z.0.1.0 in let self = z.0.3.0 in let d : Nodes = self.now in
    let rb = self.ref_ptr.0 in let ro = self.ref_ptr.1 in
    let Asks : Type 0 = 0 < length (states_of d.cells) in
    qed 𝓛 (((‵ (flft κ q) ⊛ ‵ ftrue) ⊛ ‵ (owns (MutRef (named 0) κ Lr ∷ []) z.0.3 z.0.4)) ∷ raw (fact 𝓤 Asks) ∷ []) ∵
    move ! (1 ∷ []) $ heard ! Asks (λ ask. let asked = has d.cells ask in split ! $ split ! $ move ! (2 ∷ []) $ fsplit ! $ fsplit3 ! $ feq_l ! (λ at_self.
    -- [obs; the borrow; the token]
    keep ! (0 ∷ 1 ∷ 3 ∷ []) $
    let ns = uncons d.cells asked in
    let m : Cell = ns.0 in
    let next : Ptr = first_or ns.1 d.end in
    let out : Node = record m.1 { next = next } in
    let head_is : d.head ≡ m.0 = d.placed.0 ∙ ap (λ cs. first_or cs d.head) ns.2 in
    let new : Nodes = record {
      head = next;
      tail = d.tail;
      cells = ns.1;
      end = d.end;
      placed = (first_or-same ns.1 d.end, last_or-rest ns.1 m.0 d.tail (d.placed.1 ∙ ap (λ cs. last_or cs d.tail) ns.2));
    } in
    regoal ! (λ (us : List Val). prop (WpFn 𝓤 H 𝓣.C 𝓣.Λ fn us Post)) (λ i. at_self i ++ []) refl $
    enter ! 𝓣.C 𝓣.Λ fn (vptr rb ro ∷ []) Post $ alloc_all ! (λ l. pass_all ! refl ((tt, tt), tt) $
    let Ev : Env 𝓤 H = env fn.locals l in
    nodes_opens ! tt d rb ro $
    rewrite ! 0 (λ (cs : List Cell). ‵ (links cs d.end)) ns.2 refl $ fsplit ! $
    node_opens ! m.0 out (λ b o hv bv gh gb e.
    -- [the first node, in four; the others; the words; the open borrow; obs; auth]
    sets ! (is ! (of_opd ! (load ! (through ! refl (fld ! refl (stop !))) (look_in ! 5 (sub ! 0 refl (whole !))))) (ap ptr_val (head_is ∙ e))) refl (tt, tt) $
    first ! $ blocks ! $ sets_last ! (of_opd ! (load ! (through ! refl (fld ! refl (stop !))) (look_in ! 0 (sub ! 0 refl (whole !))))) refl (Ptr-Good next) $
    exec ! 𝓣.C 𝓣.Λ Ev (after 2 fn.body) (at_ret Ev Post) $
    assigns ! (of_opd ! (get ! refl)) (through ! refl (fld ! refl (stop !))) (store_in ! 5 (sub ! 0 refl (whole !)) (Ptr-Good next)) $
    sets ! (agg ! (and_then ! (get ! refl) (no_more !))) refl (lone_good (block_ptr b o)) $
    node_closes ! b o next hv bv out $ loose_made ! (record { at = block_ptr b o; node = out }) $
    move ! (1 ∷ 2 ∷ 3 ∷ 4 ∷ 5 ∷ []) $ nodes_closes ! tt new rb ro $
    returns ! (look_at ! 0 refl) $ free_all ! refl $ keep ! (0 ∷ 1 ∷ 2 ∷ 3 ∷ []) $
    suffices ! _ (ends_at 𝓛 ended hs c z (lone_word (block_ptr b o)) (record { at = block_ptr b o; node = out }) (new, tt) (tt, tt)) $ says ! (ap states_of ns.2) $
    nothing ! $ move ! (3 ∷ 0 ∷ []) $ join ! $ frame ! $ feq_i ! (List Val) z.0.4.0 (vptr rb ro ∷ []) at_self $ fjoin3 ! $ nothing ! $ move ! (1 ∷ 0 ∷ []) $ fjoin ! $ done !)))))

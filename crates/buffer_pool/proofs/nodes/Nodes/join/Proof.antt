-- `join` lets the last node point to the first of the others. Assumes `Logic`.
use Rattle.buffer_pool.proofs.Steps.{◌≡◌, ◌<◌, List, [], ◌∷◌, ◌++◌, length, refl, sym, ap, ◌∙◌, map-append, Fn, named, Val, vptr, vunit, SProp, ftrue, flft, Env, WpFn, fact, tables, ‵, raw, ◌⊛◌, prop, at_ret, ◌$◌, ◌∵◌, !, qed, move, keep, use1, use2, split, join, rewrite, regoal, fsplit, fsplit3, fjoin, fjoin3, feq_i, feq_l, suffices, frame, done, whole, sub, look_in, store_in, stop, fld, load, unit_lit, of_opd, assigns, assigns_last, first, blocks, exec, returns, enter, alloc_all, pass_all, free_all, look_at, get, get_in, through, sets, is, env, yes, owns, Ptr, ptr_val, MutRef, plain, nothing, heard, says, Stays, stay_dropped, stay_ref, walk_of, ends_at, Goes-ref, Goes-blank, Ptr-Good, after, proved_at}
use Rattle.buffer_pool.proofs.NodeSteps.{Lr, words, two_good, nodes_had, links_append, links_split, nodes_opens, nodes_closes, node_opens, node_closes}
use Rattle.buffer_pool.proofs.Cells.{has, uncons, unsnoc, last_or-append, last_or-snoc, first_or-more}
use Rattle.buffer_pool.specs.declared.nodes.Nodes.{Nodes}
use Rattle.buffer_pool.specs.Links.{Cell, state_of, states_of, owned_at, first_or, last_or, links}
use Rattle.buffer_pool.specs.contracts.nodes.Nodes.join.{ended, clauses}
use Rattle.buffer_pool.specs.contracts.nodes.Nodes.join.Key.{name as #self}
use Rattle.buffer_pool.proofs.nodes.Nodes.join.Statement.{statement}
use Rattle.buffer_pool.proofs.nodes.Nodes.join.Code as code

pub join_spec : {M : Type 1} → statement M
join_spec 𝓤 𝓛 𝓜 𝓡 wired =
    let H = 𝓛.H in let 𝓣 = tables 𝓤 H 𝓜 𝓡 𝓡.env in let fn : Fn = code.function in let c = clauses 𝓛 𝓜.mem 𝓡.returns in
    let hs : Stays ended.signature.params ended.kept = (stay_ref (0 ∷ []) tt (plain (λ _. Lr)), (stay_dropped (plain (λ _. Lr)) yes, tt)) in
    proved_at 𝓛 ended hs c 𝓜 𝓡 (Goes-ref 𝓛 1 0 tt (plain (λ _. Lr)), (Goes-blank 𝓛 1 (plain (λ _. Lr)) yes (λ κs x f. tt), tt)) #self fn (code.unfolded 𝓤 H 𝓜 𝓡 wired) (λ z are.
    let Post : Val → SProp 𝓤 = (walk_of 𝓛 ended hs c).post z in
    let κ = z.0.0.0 in let q = z.0.1.0 in let self = z.0.3.0 in let other : Nodes = z.0.3.1.0 in let d : Nodes = self.now in
    let rb = self.ref_ptr.0 in let ro = self.ref_ptr.1 in let γ = self.ghost_name in
    let Asks : Type 0 = (0 < length (states_of d.cells)) × (0 < length (states_of other.cells)) in
    qed 𝓛 (((‵ (flft κ q) ⊛ ‵ ftrue) ⊛ ‵ (owns (MutRef (named 0) κ Lr ∷ Lr ∷ []) z.0.3 z.0.4)) ∷ raw (fact 𝓤 Asks) ∷ []) ∵
    move ! (1 ∷ []) $ heard ! Asks (λ ask. let asked : (0 < length d.cells) × (0 < length other.cells) = (has d.cells ask.0, has other.cells ask.1) in split ! $ split ! $ move ! (2 ∷ []) $ fsplit3 ! $ fsplit3 ! $ feq_l ! (λ at_self.
    move ! (2 ∷ []) $ nodes_had ! other z.0.4.1.0 (λ vs.
    -- [the other nodes; obs; the borrow; nothing; the token; nothing]
    keep ! (1 ∷ 2 ∷ 4 ∷ 0 ∷ []) $
    let ns = unsnoc d.cells asked.0 in
    let m : Cell = ns.1 in
    let os = uncons other.cells asked.1 in
    let f : Cell = os.0 in
    let tail_is : d.tail ≡ m.0 = d.placed.1 ∙ ap (λ cs. last_or cs d.tail) ns.2 ∙ last_or-snoc ns.0 m d.tail in
    let head_is : other.head ≡ f.0 = other.placed.0 ∙ ap (λ cs. first_or cs other.head) os.2 in
    let new : Nodes = record {
      head = d.head;
      tail = other.tail;
      cells = d.cells ++ other.cells;
      end = other.end;
      placed = (
        d.placed.0 ∙ sym (first_or-more d.cells other.cells d.head asked.0),
        other.placed.1 ∙ ap (λ cs. last_or cs other.tail) os.2 ∙ sym (last_or-append d.cells f os.1 other.tail) ∙ ap (λ cs. last_or (d.cells ++ cs) other.tail) (sym os.2),
      );
    } in
    regoal ! (λ (us : List Val). prop (WpFn 𝓤 H 𝓣.C 𝓣.Λ fn us Post)) (λ i. at_self i ++ (vs i ++ [])) refl $
    enter ! 𝓣.C 𝓣.Λ fn (vptr rb ro ∷ words other.head other.tail ∷ []) Post $ alloc_all ! (λ l. pass_all ! refl ((tt, tt), (two_good other.head other.tail, tt)) $
    let Ev : Env 𝓤 H = env fn.locals l in
    nodes_opens ! tt d rb ro $
    rewrite ! 0 (λ (cs : List Cell). ‵ (links cs d.end)) ns.2 refl $
    use1 𝓛 (‵ (links ns.0 m.0) ⊛ ‵ (links (m ∷ []) d.end)) (links_split 𝓛 ns.0 m [] d.end) $ split ! $ move ! (1 ∷ []) $ fsplit ! $
    node_opens ! m.0 (record m.1 { next = d.end }) (λ tb to th tv gh gb e.
    -- [the last node, in four; nothing; the others; the words; the open borrow; obs; auth; the other nodes]
    sets ! (of_opd ! (get_in ! (fld ! refl (stop !)) (sub ! 0 refl (whole !)))) refl (Ptr-Good other.head) $
    sets ! (of_opd ! (get_in ! (fld ! refl (stop !)) (sub ! 1 refl (whole !)))) refl (Ptr-Good other.tail) $
    sets ! (is ! (of_opd ! (load ! (through ! refl (fld ! refl (stop !))) (look_in ! 6 (sub ! 1 refl (whole !))))) (ap ptr_val (tail_is ∙ e))) refl (tt, tt) $
    first ! $ blocks ! $ assigns_last ! (of_opd ! (get ! refl)) (through ! refl (fld ! refl (stop !))) (store_in ! 0 (sub ! 0 refl (whole !)) (Ptr-Good other.head)) $
    exec ! 𝓣.C 𝓣.Λ Ev (after 4 fn.body) (at_ret Ev Post) $
    assigns ! (of_opd ! (get ! refl)) (through ! refl (fld ! refl (stop !))) (store_in ! 6 (sub ! 1 refl (whole !)) (Ptr-Good other.tail)) $
    sets ! (of_opd ! (unit_lit !)) refl (tt, tt) $
    node_closes ! tb to other.head th tv (record m.1 { next = d.end }) $
    rewrite ! 0 (λ (a : Ptr). ‵ (owned_at a (record m.1 { next = other.head }))) (sym e) refl $
    rewrite ! 0 (λ (a : Ptr). ‵ (owned_at m.0 (record m.1 { next = a }))) head_is refl $
    fjoin ! $ move ! (1 ∷ 0 ∷ []) $ use2 𝓛 (‵ (links (ns.0 ++ m ∷ []) f.0)) (links_append 𝓛 ns.0 m [] f.0) $
    rewrite ! 0 (λ (cs : List Cell). ‵ (links cs f.0)) (sym ns.2) refl $
    move ! (5 ∷ []) $ rewrite ! 0 (λ (cs : List Cell). ‵ (links cs other.end)) os.2 refl $ move ! (1 ∷ 0 ∷ []) $
    use2 𝓛 (‵ (links (d.cells ++ f ∷ os.1) other.end)) (links_append 𝓛 d.cells f os.1 other.end) $
    rewrite ! 0 (λ (cs : List Cell). ‵ (links (d.cells ++ cs) other.end)) (sym os.2) refl $
    nodes_closes ! tt new rb ro $
    returns ! (look_at ! 0 refl) $ free_all ! refl $ keep ! (0 ∷ 1 ∷ 2 ∷ []) $
    suffices ! _ (ends_at 𝓛 ended hs c z vunit tt (new, (tt, tt)) (tt, (tt, tt))) $ says ! (map-append (λ (x : Cell). state_of x.1) d.cells other.cells) $
    nothing ! $ move ! (3 ∷ 0 ∷ []) $ join ! $ frame ! $ feq_i ! (List Val) z.0.4.0 (vptr rb ro ∷ []) at_self $ fjoin3 ! $ nothing ! $ nothing ! $ fjoin ! $ move ! (1 ∷ 0 ∷ []) $ fjoin ! $
    feq_i ! (List Val) (vunit ∷ []) (vunit ∷ []) refl $ move ! (1 ∷ 0 ∷ []) $ done !))))))

-- What the links tell after a change.
use Rattle.std.proofs.Common.{◌≡◌, ℕ, zero, suc, ◌+◌, ◌-◌, ◌<◌, ◌≤◌, Bool, true, false, List, [], ◌∷◌, ◌++◌, length, get_or, set, map, refl, ap, sym, subst, ◌∙◌, arith, ◌==◌, vec_len, vec_capacity}
use Rattle.std.proofs.lemmas.List.{get_or-set_same, get_or-set_other, set-get_or, map-set, map-append, length-map}
use Rattle.std.proofs.Math.ListN.{get_or-map}
use Rattle.std.proofs.lemmas.Bool.Decides.{nat_tests}
use Rattle.lt_world.specs.declared.net.Address.{Address}
use Rattle.lt_world.specs.Trace.{Act, Accepted, said}
use Rattle.script_net.specs.declared.notes.Done.{Done}
use Rattle.script_net.specs.declared.notes.Done.TheVariants as done
use Rattle.script_net.specs.declared.links.Links.TheInside.{Inside}
use Rattle.script_net.specs.Sides.{Side, side_at, no_side, fresh_side}
use Rattle.script_net.specs.Steps.{change}
use Rattle.script_net.specs.PortView.{PortView, kept_at, fresh_kept, no_kept}
use Rattle.script_net.specs.Notes.{act_of, trace_of, told_of, IsTold}
use Rattle.script_net.specs.LinksView.{LinksView, Tells}
use Rattle.script_net.proofs.Noting.{PortGrows, trace_set, trace_push}

pub sides_at : (ports : List PortView) (link : ℕ) → side_at link (map (λ kept. kept.side) ports) ≡ (kept_at link ports).side
sides_at ports link = get_or-map (λ (kept : PortView). kept.side) ports link no_kept

rooms_at : (ports : List PortView) (link : ℕ) → get_or (map (λ kept. kept.room) ports) link 0 ≡ (kept_at link ports).room
rooms_at ports link = get_or-map (λ (kept : PortView). kept.room) ports link no_kept

room_by : (t : Bool) (ports : List PortView) (link other cost : ℕ) (now : PortView) → (other == link) ≡ t → link < length ports → (kept_at link ports).room ≤ now.room + cost
    → (kept_at other ports).room ≤ (kept_at other (set ports link now)).room + cost
room_by true ports link other cost now test below enough =
    let same : link ≡ other = grind (arith, nat_tests, test) in
    subst (λ (k : ℕ). (kept_at k ports).room ≤ (kept_at k (set ports link now)).room + cost) same
    (omega (arith, ap (λ (q : PortView). q.room) (get_or-set_same ports link now no_kept below)))
room_by false ports link other cost now test below enough =
    omega (arith, ap (λ (q : PortView). q.room) (get_or-set_other ports link other now no_kept (grind (arith, nat_tests, test))))

pub rooms_set : (ports : List PortView) (link other cost : ℕ) (now : PortView) → link < length ports → (kept_at link ports).room ≤ now.room + cost
    → get_or (map (λ kept. kept.room) ports) other 0 ≤ get_or (map (λ kept. kept.room) (set ports link now)) other 0 + cost
rooms_set ports link other cost now below enough =
    omega (arith, rooms_at ports other, rooms_at (set ports link now) other, room_by (other == link) ports link other cost now refl below enough)

sides_set : (ports : List PortView) (link : ℕ) (now : PortView) (f : Side → Side) → now.side ≡ f (kept_at link ports).side
    → map (λ kept. kept.side) (set ports link now) ≡ change link f (map (λ kept. kept.side) ports)
sides_set ports link now f is =
    map-set (λ (kept : PortView). kept.side) ports link now ∙ ap (set (map (λ kept. kept.side) ports) link) (is ∙ ap f (sym (sides_at ports link)))

pub tells_set : (a b : Inside) (old : LinksView) (link : ℕ) (what : Done) (now : PortView) (f : Side → Side) (cost : ℕ) → IsTold a.ports.items a.notes.items → told_of a ≡ old → link < length a.ports.items
    → b.ports.items ≡ set a.ports.items link now → b.notes.items ≡ a.notes.items ++ record { link = link; done = what } ∷ []
    → vec_capacity a.notes - vec_len a.notes ≤ vec_capacity b.notes - vec_len b.notes + 1
    → PortGrows (kept_at link a.ports.items) now → now.side ≡ f (kept_at link a.ports.items).side → (kept_at link a.ports.items).room ≤ now.room + cost
    → Tells link (act_of what now) (change link f old.sides) cost old (told_of b)
tells_set a b old link what now f cost told view below ports notes calls grows is enough =
    subst (λ (before : LinksView). Tells link (act_of what now) (change link f before.sides) cost before (told_of b)) view (record {
      sides = ap (map (λ (kept : PortView). kept.side)) ports ∙ sides_set a.ports.items link now f is;
      trace = rw (ports, notes) (trace_set a.ports.items a.notes.items link what now told below grows);
      calls = calls;
      rooms = λ other. rw ports (rooms_set a.ports.items link other cost now below enough);
    })

rooms_push : (ports : List PortView) (other : ℕ) → get_or (map (λ kept. kept.room) (ports ++ fresh_kept ∷ [])) other 0 ≡ get_or (map (λ kept. kept.room) ports) other 0
rooms_push [] zero = refl
rooms_push [] (suc other) = refl
rooms_push (first ∷ ports) zero = refl
rooms_push (first ∷ ports) (suc other) = rooms_push ports other

pub tells_push : (a b : Inside) (old : LinksView) (peer local : Address) → IsTold a.ports.items a.notes.items → told_of a ≡ old
    → b.ports.items ≡ a.ports.items ++ fresh_kept ∷ [] → b.notes.items ≡ a.notes.items ++ record { link = length a.ports.items; done = done.Accepted peer local } ∷ []
    → vec_capacity a.notes - vec_len a.notes ≤ vec_capacity b.notes - vec_len b.notes + 1
    → Tells (length old.sides) (Accepted peer local) (old.sides ++ fresh_side ∷ []) 0 old (told_of b)
tells_push a b old peer local told view ports notes calls =
    subst (λ (before : LinksView). Tells (length before.sides) (Accepted peer local) (before.sides ++ fresh_side ∷ []) 0 before (told_of b)) view (record {
      sides = ap (map (λ (kept : PortView). kept.side)) ports ∙ map-append (λ (kept : PortView). kept.side) a.ports.items (fresh_kept ∷ []);
      trace = rw (ports, notes) (trace_push a.ports.items a.notes.items peer local told ∙ ap (λ n. said n (Accepted peer local ∷ []) (trace_of a.ports.items a.notes.items)) (sym (length-map a.ports.items (λ (kept : PortView). kept.side))));
      calls = calls;
      rooms = λ other. rw ports (omega (arith, rooms_push a.ports.items other));
    })

-- the same links
pub tells_same : (link : ℕ) (act : Act) (sides : List Side) (cost : ℕ) (before after : LinksView) → Tells link act (change link (λ side. side) sides) cost before after → Tells link act sides cost before after
tells_same link act sides cost before after tells =
    record { sides = tells.sides ∙ set-get_or sides link no_side; trace = tells.trace; calls = tells.calls; rooms = tells.rooms }

-- the same act
pub tells_act : (link : ℕ) (act other : Act) (sides : List Side) (cost : ℕ) (before after : LinksView) → act ≡ other → Tells link act sides cost before after → Tells link other sides cost before after
tells_act link act other sides cost before after same tells =
    record { sides = tells.sides; trace = tells.trace ∙ ap (λ (a : Act). said link (a ∷ []) before.trace) same; calls = tells.calls; rooms = tells.rooms }

-- `List` as a type that may hold the type that holds it: what it holds is the list of its items, and it owns,
-- lends and is stored as the `Vec` in it.
use mathlib.Core.Path.{◌≡◌, refl, sym}
use mathlib.Core.List.{List as Listed, []}
use mathlib.Core.Former.{Former, this, list, via, children}
use base.Stored.{code_map}
use denote.RattleType.{RattleType}
use denote.HoleLaws.{Alike}
use denote.HolePlaces.{Recodes, struct_places, laid}
use denote.Hole.Carrier.{listed, list-listed}
use denote.Hole.Fix.{over}
use denote.Param.Weighed.{Weighed, w_list}
use denote.Model.Placed.{view_places}
use Rattle.std.specs.formers.vec.Vec as vec
use Rattle.std.specs.declared.alloc.Global.{Global}
use Rattle.std.specs.contracts.alloc.Global as heap
use Rattle.std.specs.contracts.impls.GlobalAllocator.TheImpl.{ghosts}
use Rattle.lt_bytes.specs.declared.list.List.TheInside.{Inside}
use Rattle.lt_bytes.specs.declared.list.List.TheView.{view, invariant}
use Rattle.lt_bytes.specs.contracts.list.List as C
use Rattle.lt_bytes.specs.contracts.list.List.TheInside as I

abbrev pub the_former : Former {0} → Former {0}
the_former g = list g

abbrev pub the_weighed : {g : Former {0}} → Weighed g → Weighed (the_former g)
the_weighed w = w_list w

-- an empty list holds nothing
pub the_empty : Listed ⊥
the_empty = []

abbrev pub the_items : (X : Type 0) → Listed X → Listed X
the_items X items = items

pub the_items_listed : (X : Type 0) (items : Listed X) → listed _ (children (the_former this) X items) ≡ the_items X items
the_items_listed X items = list-listed X items

-- the fields hold the items of the `Vec`
abbrev in_fields : Former {0}
in_fields = via (vec.the_former this Global) Inside (λ X a. a.items) (λ X v. record { items = v }) (λ X a. refl) (λ X v. refl)

module _ (R S : RattleType) (h : R.Denot → S.Denot) where
  abbrev mapped : (C.the_row R).Denot → (C.the_row S).Denot
  mapped = (the_former this).map R.Denot S.Denot h

  pub the_places : Alike R S h → Alike (C.the_row R) (C.the_row S) mapped
  the_places alike =
      let fields_placed = struct_places (I.the_type R) (I.the_type S) (vec.mapped h, tt) _ (λ d. refl) refl
      (laid _ _ _ (vec.the_places heap.the_row ghosts R S h alike), tt) in
      view_places in_fields (list this) view (λ X Y k a. refl) (λ X a. refl) R.Denot S.Denot h (C.the_row R).coded (C.the_row S).coded
      (invariant R.Denot) (invariant S.Denot) (λ a p q. refl) (λ a p q. refl) (λ a e. tt) (λ a e. tt)
      (over (I.the_row R)) (over (I.the_row S)) fields_placed

  pub the_codes_placed : Recodes R S h → Recodes (C.the_row R) (C.the_row S) mapped
  the_codes_placed same items = sym (code_map R.coded.code S.coded.code h (λ x. sym (same x)) items)

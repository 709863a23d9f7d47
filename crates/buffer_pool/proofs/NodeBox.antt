-- A box of a node, as the walks that call the functions of `Box` name it.
use Rattle.buffer_pool.proofs.Steps.{[], ◌∷◌, refl, RattleType}
use mir.Syntax.{Dict, impl, tcons, tnil, dnil}
use mir.Raw.{raw as bare}
use denote.Exit.{no}
use denote.Param.{arg, layout}
use denote.Param.Laws.{Laws, arg_laws}
use Rattle.std_alloc.proofs.BoxSteps.Form as box
use Rattle.std_alloc.specs.contracts.boxed.Box as boxed
use Rattle.std_heap.specs.contracts.GlobalAllocator.TheImpl.{ghosts, dict}
use Rattle.std_heap.proofs.Global.TheLaws as heap_laws
use Rattle.buffer_pool.proofs.node.Node.TheLaws as node_laws
use Rattle.buffer_pool.proofs.NodeSteps.{Z, Nr}

-- a type as a call passes it
abbrev pub passed : RattleType → RattleType
passed R = arg (bare (layout R)) no R

-- what lets a value of this type go: the empty method that Rattle makes for types that need no drop
abbrev pub drop_of : RattleType → Dict
drop_of R = impl ("buffer_pool::Destruct++none::drop" ∷ []) (tcons (layout R) tnil) dnil

abbrev pub Zp : RattleType
Zp = passed Z

abbrev pub Np : RattleType
Np = passed Nr

pub Zp-laws : Laws Zp
Zp-laws = arg_laws (bare (layout Z)) no Z heap_laws.the_row_laws refl

pub Np-laws : Laws Np
Np-laws = arg_laws (bare (layout Nr)) no Nr node_laws.the_row_laws refl

abbrev pub E : box.Bx
E = record { row = Np; laws = Np-laws; al = record { row = Zp; laws = Zp-laws; g = ghosts; d = dict; drops = drop_of Zp } }

abbrev pub Boxed : RattleType
Boxed = boxed.the_row Nr Z ghosts

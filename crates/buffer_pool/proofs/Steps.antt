-- The names that the walks share.
pub use Rattle.std.proofs.Common.{◌≡◌, ℕ, suc, ◌+◌, ◌-◌, ◌<◌, List, [], ◌∷◌, ◌++◌, length, refl, sym, ap, subst, ◌∙◌, lit<, w64}
pub use mathlib.Core.List.{map-append}
pub use seplogic.Ra.Ura.{Ura}
pub use base.Fraction.{full_share}
pub use base.Logic.{SProp, ent, sep, emp, never, fst∗, id⊢}
pub use base.Fml.{Fml, GName, ftrue, fsep, flft}
pub use mir.Syntax.{Fn, named}
pub use mir.Val.{Val, vint, vptr, vunit, vstruct, vcons, vnil, of_list}
pub use prog.Wp.{Env, WpFn}
pub use contract.BorrowLft.{◌⊑◌, ⊑_static}
pub use contract.Monad.{fact, fact_i}
pub use contract.Running.{tables}
pub use types.Logic.{Logic, sem}
pub use types.Kit.{Item, Goal, Seq, Step, step, ‵, raw, ◌⊛◌, some, later, prop, at_ret, ◌$◌, ◌∵◌, !, qed, by, move, keep, drop, use0, use1, use2, split, split3, join, await, pick, group, rewrite, regoal, fsplit, fsplit3, fjoin, fjoin3, fpick, fpack, feq_i, feq_l, flt_l, suffices, frame, done}
pub use types.Part.{whole, sub, agg, look_in, store_in}
pub use types.Run.{look, stop, fld, load, lit, unit_lit, of_opd, addr, and_then, no_more, assigns, assigns_last, first, blocks, exec, returns, enter}
pub use types.ByLocal.{alloc_all, pass_all, free_all, look_at, get, get_in, through, sets, sets_last, lands_as, lands_last, is, env}
pub use types.Tokens.{lft_new}
pub use denote.Exit.{yes, no}
pub use denote.Builtin.{RefOf, RawPtr, u64}
pub use denote.RattleType.{RattleType, owns, Valss}
pub use denote.Memory.{cell_at, part_at, mem, shared_of}
pub use denote.RawPtr.{Ptr, block_ptr, null_ptr, ptr_val, in_a_block}
pub use denote.Ref.{MutRef, ShrRef}
pub use denote.Follow.{follows, Part, lends_Part}
pub use denote.Signature.{plain, mut_ref_to, types_at}
pub use denote.Steps.{nothing, heard, only}
pub use denote.Opens.{hide}
pub use denote.Struct.Lending.{lent_at}
pub use denote.Triple.Call.{calls_at, calls_at_last}
pub use denote.Triple.Clauses.{Lasts, lasts}
pub use denote.Triple.Spec.{triple_of}
pub use denote.Triple.Walked.{says, Stays, stay_dropped, stay_ref, walk_of, ends_at, Goes-ref, Goes-dropped, Goes-spent_ref}
pub use Rattle.core.proofs.alloc.Calls.{Goes-blank}
pub use Rattle.core.proofs.alloc.Shapes.{after}
pub use Rattle.core.proofs.atomic.Steps.{Ptr-Good, fm}
pub use Rattle.std.proofs.raw_atomic.Walks.{proved_at, leaves}

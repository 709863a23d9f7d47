-- The machine value of a `Loose`, and what it owns, taken apart and made. Assumes `Logic`.
use Rattle.buffer_pool.proofs.Steps.{◌≡◌, ℕ, List, [], ◌∷◌, ◌++◌, refl, subst, ◌∙◌, Ura, never, fst∗, Val, vstruct, vcons, vnil, of_list, Logic, sem, Item, Goal, Seq, Step, step, ‵, ◌$◌, drop, fsplit, fjoin, fpick, fpack, feq_i, feq_l, RattleType, Valss, Ptr, block_ptr, null_ptr, ptr_val, in_a_block, nothing, Ptr-Good}
use mir.Syntax.{ty_ptr}
use denote.Param.{layout}
use denote.Struct.Struct.{within, as_fields}
use denote.Struct.Owning.{shape}
use Rattle.core.proofs.cell.Inside.{Good}
use Rattle.buffer_pool.specs.declared.loose.Loose.{Loose}
use Rattle.buffer_pool.specs.contracts.loose.Loose as Ls
use Rattle.buffer_pool.specs.Links.{owned_at}
use Rattle.buffer_pool.proofs.NodeSteps.{token}

abbrev pub Or : RattleType
Or = Ls.the_row

-- a struct whose one field is the pointer p
abbrev pub lone_word : Ptr → Val
lone_word p = vstruct (vcons (ptr_val p) vnil)

pub lone_good : (p : Ptr) → Good (layout Or) (lone_word p)
lone_good p = as_fields (ty_ptr ∷ []) (ptr_val p ∷ []) (Ptr-Good p, tt)

module _ {M : Type 1} {𝓤 : Ura M} {𝓛 : Logic 𝓤} {K : Type 0} {Γ : List (Item 𝓤)} {G : Goal 𝓤 𝓛.H} where
  -- [the node]
  pub loose_had : K → (d : Loose) (vs : List Val)
      → ((b o : ℕ) → d.at ≡ block_ptr b o → vs ≡ lone_word (block_ptr b o) ∷ [] → Seq K 𝓛 (‵ (owned_at (block_ptr b o) d.node) ∷ Γ) G)
      → Seq K 𝓛 (‵ (Or.own_val d vs) ∷ Γ) G
  loose_had t d vs k =
      fsplit t $ fpick t (λ vss. fsplit t $ feq_l t (λ all. fsplit t $ feq_l t (λ is_at. drop t $
      in_a_block t d.at (λ p. owned_at p d.node) (fst∗ 𝓤 (never 𝓤) (sem 𝓛 (token d.node null_ptr))) (λ b o e. k b o e
      (subst (λ (p : Ptr). vs ≡ lone_word p ∷ []) e (all ∙ (λ i. vstruct (of_list (is_at i ++ [])) ∷ [])))))))

  pub loose_made : K → (d : Loose) → Step K 𝓛 (‵ (Or.own_val d (lone_word d.at ∷ [])) ∷ Γ) G (‵ (owned_at d.at d.node) ∷ Γ) G
  loose_made t d = step (λ s.
      let v = lone_word d.at in
      nothing t $ feq_i t (List Val) (ptr_val d.at ∷ []) (ptr_val d.at ∷ []) refl $ fjoin t $
      feq_i t (List Val) (v ∷ []) (v ∷ []) refl $ fjoin t $
      fpack t (Valss (shape Ls.the_type).fields) (within (shape Ls.the_type) (d.at, tt) (v ∷ [])) (ptr_val d.at ∷ [], tt) $ fjoin t $ s)

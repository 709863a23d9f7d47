-- What the calls of texts in memory tell, and that none fails where none is planned to.
use Rattle.std.proofs.Common.{◌≡◌, List, ℕ, [], refl, sym, ◌∙◌, subst}
use Rattle.lt_world.specs.declared.texts.Fetched.{Fetched}
use Rattle.lt_world.specs.declared.texts.Fetched.TheVariants as fetched
use Rattle.lt_world.specs.Plans.{is_due}
use Rattle.lt_world.specs.TextRuns.{Shelf, after_fetch, FetchPlanned, Fetches, same, fetches}
use Rattle.lt_world.proofs.FileLaws.{undue}

pub leads_fetch : (a b : Shelf) (answer : Fetched) (name : List ℕ) → b ≡ after_fetch answer name a → FetchPlanned answer (is_due a.plan) → Fetches a b
leads_fetch a b answer name is planned = let P : Shelf → Type 0 = λ s. Fetches a s in subst P (sym is) (fetches same answer name planned)

calm_fetch : (b : Shelf) (answer : Fetched) (name : List ℕ) → FetchPlanned answer (is_due b.plan) → b.plan.fails ≡ [] → ((after_fetch answer name b).plan.fails ≡ []) × ((after_fetch answer name b).faults ≡ b.faults)
calm_fetch b (fetched.Text text) name planned un = (un, refl)
calm_fetch b fetched.Missing name planned un = (un, refl)
calm_fetch b fetched.Long name planned un = (un, refl)
calm_fetch b fetched.Failed name planned un = absurd (undue b.plan un planned)
calm_fetch b fetched.NoMemory name planned un = (un, refl)

-- with no plan the count stays, and there is no plan then
pub calm : (a b : Shelf) → Fetches a b → a.plan.fails ≡ [] → (b.plan.fails ≡ []) × (b.faults ≡ a.faults)
calm a b same un = (un, refl)
calm a b (fetches ab answer name planned) un = let so_far = calm a _ ab un in let now = calm_fetch _ answer name planned so_far.0 in (now.0, now.1 ∙ so_far.1)

fetch_stays : (b : Shelf) (answer : Fetched) (name : List ℕ) → (after_fetch answer name b).texts ≡ b.texts
fetch_stays b (fetched.Text text) name = refl
fetch_stays b fetched.Missing name = refl
fetch_stays b fetched.Long name = refl
fetch_stays b fetched.Failed name = refl
fetch_stays b fetched.NoMemory name = refl

-- no call changes what was added
pub stays : (a b : Shelf) → Fetches a b → b.texts ≡ a.texts
stays a b same = refl
stays a b (fetches ab answer name planned) = fetch_stays _ answer name ∙ stays a _ ab

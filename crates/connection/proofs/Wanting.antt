-- Where a step may want memory.
use Rattle.std.proofs.Common.{◌≡◌, ℕ, Bool, true, false, ◌&&◌, cond, ◌+◌, List, take, drop, Option, Some, None, refl, ap, sym, ◌∙◌}
use Rattle.std.specs.Prelude.{Result, Ok, Err, OnErr}
use Rattle.chunkqueue.specs.Items.{Item}
use Rattle.http_head.specs.declared.ends.HeadEnd.TheVariants as end
use Rattle.http_head.specs.declared.refusal.HeadRefusal.{HeadRefusal}
use Rattle.http_head.specs.Ends.{head_end}
use Rattle.http_head.specs.Head.{head_of}
use Rattle.server_model.specs.Request.{Head, front_of, front_at, front_by, is_headed}
use Rattle.server_model.specs.Held.{Stage, Awaiting, Heading, Taking, Asking, Answering, Held}
use Rattle.server_model.specs.Steps.{has_no_items, wants_memory_at, wants_memory}
use Rattle.server_model.proofs.Requests.{front_is}
use Rattle.connection.specs.Stages.{next_number, next_number_at, feeds, feeds_at}

-- a head that ends is whole
ends_headed : (bytes : List ℕ) (n : ℕ) → head_end bytes ≡ end.At n → is_headed (front_of bytes) ≡ true
ends_headed bytes n at = ap is_headed (front_is bytes) ∙ ap (λ e. is_headed (front_at e bytes)) at ∙ by (head_of (take n bytes))
  where
    by : (r : Result Head HeadRefusal) → is_headed (front_by r (drop n bytes)) ≡ true
    by (Err refused) = refl
    by (Ok head) = refl

next_at : (s : Stage) (input : List ℕ) (owed : List Item) (number : ℕ) → next_number_at s owed ≡ Some number → is_headed (front_of input) ≡ true → wants_memory_at s input owed ≡ true
next_at (Awaiting k) input owed number is headed = headed
next_at (Heading k head) input owed number is headed = refl
next_at (Taking k head s content) input owed number is headed = absurd (cc (is))
next_at (Asking k r) input owed number is headed = absurd (cc (is))
next_at (Answering k true) input owed number is headed = absurd (cc (is))
next_at (Answering k false) input owed number is headed = by (has_no_items owed) is
  where
    by : (t : Bool) → cond t (Some (k + 1)) None ≡ Some number → (t && is_headed (front_of input)) ≡ true
    by true follows = headed
    by false follows = absurd (cc (follows))

-- a whole head is taken up
pub next_wants : (held : Held) (number n : ℕ) → next_number held ≡ Some number → head_end held.input ≡ end.At n → wants_memory held ≡ true
next_wants held number n is at = next_at held.stage held.input held.owed number is (ends_headed held.input n at)

feeds_wants_at : (s : Stage) (input : List ℕ) (owed : List Item) → feeds_at s input ≡ true → wants_memory_at s input owed ≡ true
feeds_wants_at (Awaiting k) input owed is = absurd (cc (is))
feeds_wants_at (Heading k head) input owed is = refl
feeds_wants_at (Taking k head s content) input owed is = is
feeds_wants_at (Asking k r) input owed is = absurd (cc (is))
feeds_wants_at (Answering k last) input owed is = absurd (cc (is))

-- a body takes up what came
pub feeds_wants : (held : Held) → feeds held ≡ true → wants_memory held ≡ true
feeds_wants held is = feeds_wants_at held.stage held.input held.owed is

pub on_err : {T E : Type 0} (r : Result T E) (P Q : Type 0) → OnErr r P → (P → Q) → OnErr r Q
on_err (Ok x) P Q is gives = tt
on_err (Err e) P Q is gives = gives is

-- where a head may be taken up, memory is wanted for a whole one
pub taking_up_wants : {T E : Type 0} (r : Result T E) (held : Held) (found : Option ℕ) (number : ℕ) → found ≡ next_number held → found ≡ Some number → OnErr r ((n : ℕ) × (head_end held.input ≡ end.At n)) → OnErr r (wants_memory held ≡ true)
taking_up_wants r held found number is some ends = on_err r ((n : ℕ) × (head_end held.input ≡ end.At n)) (wants_memory held ≡ true) ends (λ e. next_wants held number e.0 (sym is ∙ some) e.1)

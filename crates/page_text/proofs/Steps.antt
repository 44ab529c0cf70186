-- One line on a desk: what its reader and the desk say of it is what the definitions say.
use mathlib.Core.Path.{◌≡◌, refl, ap, ◌∙◌}
use mathlib.Core.List.{List}
use Prim.Native.Nat.{ℕ}
use borrow.Author.Tests.{eq-eqb, ne_eqb}
use Rattle.std.specs.Prelude.{Result, Ok, Err}
use Rattle.std.specs.Result.{IsErrAnd}
use Rattle.std.proofs.lemmas.Result.{err_from_is_err_and}
use Rattle.book.specs.declared.Kind.{Kind}
use Rattle.book.specs.declared.Refusal.{Refusal}
use Rattle.book.specs.Refusals.{code}
use Rattle.book.specs.Book.{take_number}
use Rattle.block.specs.Block.{lists_of}
use Rattle.desk.specs.Desk.{block, taken, at0}
use Rattle.page_line.specs.Records.{Line, entry, malformed}
use Rattle.page_text.specs.Reading.{step_of, takes_in, takes}
use Rattle.page_text.specs.Words.{inner_of, leaves, step_made}
use Rattle.page_text.specs.declared.BadLine.{BadLine}
use Rattle.page_text.specs.declared.BadLine.TheVariants.{Refused}

pub line-bad : (l : Line) (ws : List ℕ) → l ≡ malformed → (Err 0 ≡ takes l (lists_of (block ws))) × (ws ≡ leaves l ws)
unfolding takes_in leaves
line-bad l ws e = rw e (refl, refl)

-- what a `?` hands on of a refused record
pub handed : (r : Result (Unit {0}) BadLine) (e : Refusal) → IsErrAnd r (λ b. b ≡ Refused e) → step_made r ≡ Err (code e)
handed r e h =
    let p = err_from_is_err_and r h in
    ap step_made p.1 ∙ ap (λ (b : BadLine). Err (inner_of b)) p.2

module _ (l : Line) (k : Kind) (r ws ws' : List ℕ) (n : ℕ) (e : l ≡ entry k r) (en : n ≡ take_number k r (lists_of (block ws))) (ew : ws' ≡ at0 n (taken k r ws) ws) where
  left : ws' ≡ leaves l ws
  unfolding leaves
  left = rw (e, ← en) ew

  pub line-went : n ≡ 0 → (Ok tt ≡ takes l (lists_of (block ws))) × (ws' ≡ leaves l ws)
  unfolding takes_in step_of
  line-went h = (rw (e, ← en, eq-eqb n 0 h), left)

  pub line_refused : (n ≡ 0 → ⊥) → (Err n ≡ takes l (lists_of (block ws))) × (ws' ≡ leaves l ws)
  unfolding takes_in step_of
  line_refused h = (rw (e, ← en, ne_eqb n 0 h), left)

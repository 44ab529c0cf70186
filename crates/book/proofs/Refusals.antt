-- The numbers of refusals: none is 0, so a call is done exactly if it gets 0; and what a `?` hands on, the refusal that it met.
use mathlib.Core.Path.{◌≡◌, refl, sym, ap, ◌∙◌}
use mathlib.Core.Bool.{true, false, true≢false}
use lib.Dec.{eqb}
use borrow.Author.Tests.{eq-eqb}
use Rattle.std.proofs.Common.{Result, Ok, Err}
use Rattle.std.specs.Result.{is_ok, is_err, IsErrAnd}
use Rattle.std.proofs.lemmas.Result.{err_from_is_err_and}
use Rattle.book.specs.declared.Refusal.{Refusal}
use Rattle.book.specs.declared.Refusal.TheVariants.{TooShort, OutOfRange, Taken, Unknown, InUse, Full, NothingToUndo, Crowded, NoStart, NoEnd, NoLine, NotEnoughEndpoints, InvalidPoint, PathTooShort, TooLong, BadText}
use Rattle.book.specs.Refusals.{code, number_of}

pub code_some : (e : Refusal) → eqb (code e) 0 ≡ false
code_some TooShort = refl
code_some OutOfRange = refl
code_some Taken = refl
code_some Unknown = refl
code_some InUse = refl
code_some Full = refl
code_some NothingToUndo = refl
code_some Crowded = refl
code_some NoStart = refl
code_some NoEnd = refl
code_some NoLine = refl
code_some NotEnoughEndpoints = refl
code_some InvalidPoint = refl
code_some PathTooShort = refl
code_some TooLong = refl
code_some BadText = refl

pub done_is : {T : Type 0} (r : Result T Refusal) → eqb (number_of r) 0 ≡ is_ok r
done_is (Ok x) = refl
done_is (Err e) = code_some e

pub refused : (e : Refusal) → code e ≡ 0 → ⊥
refused e z = true≢false (sym (eq-eqb (code e) 0 z) ∙ code_some e)

pub passed : {T : Type 0} (r : Result T Refusal) (e : Refusal) → IsErrAnd r (λ y. y ≡ e) → number_of r ≡ code e
passed r e h = let p = err_from_is_err_and r h in ap number_of p.1 ∙ ap code p.2

pub erred : {T : Type 0} (r : Result T Refusal) → is_err r ≡ true → number_of r ≡ 0 → ⊥
erred (Ok x) e z = true≢false (sym e)
erred (Err y) e z = refused y z

pub not_erred : {T : Type 0} (r : Result T Refusal) → is_err r ≡ false → number_of r ≡ 0
not_erred (Ok x) e = refl
not_erred (Err y) e = absurd (true≢false e)

-- Rows: as many sorts as a kind has fields, and a row as it is filled, word by word.
use mathlib.Core.Path.{◌≡◌, refl, sym, ap, ◌∙◌}
use mathlib.Core.List.{List, [], ◌∷◌, ◌++◌}
use Prim.Native.Nat.{ℕ, zero, suc, ◌+◌, ◌≤◌, ◌<◌}
use native.Mathlib.Omega.{arith}
use native.Mathlib.Numerals.{add-one}
use lib.ListN.{length, get_or, take, set}
use lib.Seq.{length-take-le, take-suc}
use Rattle.decimals.specs.Write.{written}
use Rattle.decimals.proofs.Written.{length-written, more, one}
use Rattle.book.specs.declared.Kind.{Kind}
use Rattle.book.specs.Book.{width}
use Rattle.page_line.specs.Fields.{word, row_of}
use Rattle.page_line.specs.Records.{ROW, sorts}
use Rattle.page_line.specs.declared.Sort.{Sort}

pub sorts-width : (k : Kind) → length (sorts k) ≡ width k
sorts-width Kind.Box = refl
sorts-width Kind.Port = refl
sorts-width Kind.Net = refl
sorts-width Kind.End = refl

pub sorts-few : (k : Kind) → length (sorts k) ≤ ROW
sorts-few Kind.Box = omega arith
sorts-few Kind.Port = omega arith
sorts-few Kind.Net = omega arith
sorts-few Kind.End = omega arith

-- ---- the words of a row, and one more of them written
pub row_at : (ss : List Sort) (vs : List ℕ) (i : ℕ) (d : Sort) → length vs ≡ length ss → i < length ss → get_or (row_of ss vs) i 0 ≡ word (get_or ss i d) (get_or vs i 0)
unfolding row_of
row_at [] vs i d h l = absurd (omega arith)
row_at (s ∷ ss) [] i d h l = absurd (omega arith)
row_at (s ∷ ss) (v ∷ vs) zero d h l = refl
row_at (s ∷ ss) (v ∷ vs) (suc i) d h l = row_at ss vs i d (omega arith) (omega arith)

pub row-length : (ss : List Sort) (vs : List ℕ) → length vs ≡ length ss → length (row_of ss vs) ≡ length ss
unfolding row_of
row-length [] vs h = refl
row-length (s ∷ ss) [] h = absurd (omega arith)
row-length (s ∷ ss) (v ∷ vs) h = ap suc (row-length ss vs (omega arith))

-- one word more of a row R that is written at a buffer's begin
pub fill_on : (start row R : List ℕ) (i x : ℕ) → row ≡ written start 0 (take i R) → i < length R → length R ≤ length start → x ≡ get_or R i 0
    → set row i x ≡ written start 0 (take (i + 1) R)
fill_on start row R i x e h hs ex =
    let l : 0 + length (take i R) ≡ i = omega (arith, length-take-le i R (omega arith)) in
    let n : 0 + length (take i R) < length (written start 0 (take i R)) = omega (arith, length-written start 0 (take i R) (omega arith)) in
    let t : take i R ++ (x ∷ []) ≡ take (i + 1) R = ap (λ y. take i R ++ (y ∷ [])) ex ∙ sym (rw add-one (take-suc R i 0 h)) in
    ap (λ r. set r i x) e ∙ ap (λ k. set (written start 0 (take i R)) k x) (sym l) ∙ one _ _ x n ∙ more start 0 (take i R) (x ∷ []) (omega arith) ∙ ap (written start 0) t

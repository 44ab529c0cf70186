-- A record that was read has as many words as its kind has fields, and they are the buffer's first.
use mathlib.Core.Path.{◌≡◌, refl, sym, ap, ◌∙◌}
use mathlib.Core.List.{List, [], ◌∷◌}
use mathlib.Core.Bool.{Bool, true, false, cond}
use Prim.Native.Nat.{ℕ, ◌+◌, ◌-◌}
use native.Mathlib.Omega.{arith}
use lib.ListN.{length, take, drop}
use lib.Seq.{take_at}
use lib.Dec.{eqb, ltb}
use borrow.Author.Tests.{eqb-true}
use Rattle.decimals.specs.Bytes.{TAB, LF, split}
use Rattle.decimals.specs.Decimal.{is_empty}
use Rattle.decimals.specs.Write.{written}
use Rattle.std.specs.Prelude.{Option, Some, None}
use Rattle.book.specs.declared.Kind.{Kind}
use Rattle.book.specs.Book.{width}
use Rattle.page_line.specs.Fields.{all_plain, values, row_of}
use Rattle.page_line.specs.Records.{Line, entry, malformed, Told, kind_in, row_in, kind_of, line_of, record_of, shape, sorts}
use Rattle.page_line.specs.Lines.{LINE, ended_in, ended, line_at, lines_in, lines_of, text_lines_in, text_lines}
use Rattle.page_line.proofs.Rows.{row-length, sorts-width}

abbrev pub Wide : Line → Type 0
Wide (entry k r) = length r ≡ width k
Wide malformed = ◌≡◌ {A = ℕ} 0 0

wide-cond : (b : Bool) (x y : Line) → (b ≡ true → Wide x) → Wide y → Wide (cond b x y)
wide-cond true x y f g = f refl
wide-cond false x y f g = g

wide-shape : (f : Option Kind) (vs : List ℕ) → Wide (shape f vs)
unfolding shape
wide-shape (Some k) vs =
    wide-cond (eqb (length vs) (length (sorts k))) (entry k (row_of (sorts k) vs)) malformed
    (λ e. row-length (sorts k) vs (eqb-true (length vs) (length (sorts k)) e) ∙ sorts-width k) refl
wide-shape None vs = refl

wide-record : (ps : List (List ℕ)) → Wide (record_of ps)
unfolding record_of
wide-record [] = refl
wide-record (w ∷ fs) = wide-cond (all_plain fs) (shape (kind_of w) (values fs)) malformed (λ e. wide-shape (kind_of w) (values fs)) refl

wide-ended : (p : List ℕ) → Wide (ended p)
unfolding ended_in line_of
wide-ended p = wide-cond (ltb (length p) LINE) (record_of (split TAB p)) malformed (λ e. wide-record (split TAB p)) refl

pub wide_at : (text : List ℕ) (at e : ℕ) → Wide (line_at text at e)
unfolding line_at
wide_at text at e = go (eqb e (length text))
  where
    go : (b : Bool) → Wide (cond b malformed (ended (take (e - at) (drop at text))))
    go true = refl
    go false = wide-ended (take (e - at) (drop at text))

-- the row that a reader of lines left
row_first : (before r : List ℕ) → take (length r) (written before 0 r) ≡ r
unfolding written
row_first before r = take_at r (drop (0 + length r) before) (length r) refl

entry-told : (l : Line) (k : Kind) (before after : List ℕ) (w : ℕ) → Wide l → Some k ≡ kind_in l → after ≡ written before 0 (row_in l) → w ≡ width k
    → (length (take w after) ≡ width k) × (l ≡ entry k (take w after))
unfolding kind_in row_in
entry-told (entry j r) k before after w g e ea ew =
    let ek : j ≡ k = cc in
    let n : length r ≡ w = g ∙ ap width ek ∙ sym ew in
    let t : take w after ≡ r = rw (← n, ea) (row_first before r) in
    (rw (t, n) ew, rw (t, ek))
entry-told malformed k before after w g e ea ew = let z : ◌≡◌ {A = ℕ} 0 1 = cc in absurd (omega arith)

pub told-row : (l : Line) (k : Kind) (before after : List ℕ) (f : Option Kind) (w : ℕ) → Told l before after f → Wide l → f ≡ Some k → w ≡ width k
    → (length (take w after) ≡ width k) × (l ≡ entry k (take w after))
told-row l k before after f w t g e ew = entry-told l k before after w g (sym e ∙ t.kind) t.row ew

none_told : (l : Line) → None ≡ kind_in l → l ≡ malformed
unfolding kind_in
none_told (entry k r) e = let z : ◌≡◌ {A = ℕ} 0 1 = cc in absurd (omega arith)
none_told malformed e = refl

pub told-bad : (l : Line) (before after : List ℕ) (f : Option Kind) → Told l before after f → f ≡ None → l ≡ malformed
told-bad l before after f t e = none_told l (sym e ∙ t.kind)

-- ---- all lines of a text
abbrev pub AllWide : List Line → Type 0
AllWide [] = ◌≡◌ {A = ℕ} 0 0
AllWide (x ∷ xs) = Wide x × AllWide xs

wide-pieces : (ps : List (List ℕ)) → AllWide (lines_of ps)
unfolding lines_in
wide-pieces [] = refl
wide-pieces (p ∷ []) = go (is_empty p)
  where
    go : (b : Bool) → AllWide (cond b [] (malformed ∷ []))
    go true = refl
    go false = (refl, refl)
wide-pieces (p ∷ q ∷ ps) = (wide-ended p, wide-pieces (q ∷ ps))

pub wide-lines : (text : List ℕ) → AllWide (text_lines text)
unfolding text_lines_in
wide-lines text = wide-pieces (split LF text)

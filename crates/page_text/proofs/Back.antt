-- What is written of valid lists is read back: each record's line is read as the record, and in kept order each record finds its number 0.
use mathlib.Core.Path.{◌≡◌, refl, sym, ap, ◌∙◌}
use mathlib.Core.List.{List, [], ◌∷◌, ◌++◌, map, append_assoc, append-nil}
use mathlib.Core.Bool.{Bool, true, ◌&&◌}
use Prim.Native.Nat.{ℕ, zero, suc, ◌<◌}
use native.Mathlib.Omega.{arith}
use lib.ListN.{length, get_or}
use lib.Dec.{leb}
use borrow.Author.Tests.{lt-ltb, leb-true}
use Rattle.fixed.specs.Constants.{LEAST, GREATEST}
use Rattle.fixed.proofs.Bools.{and_left, and_right}
use Rattle.decimals.specs.Bytes.{split}
use Rattle.decimals.specs.Decimal.{BASE, is_empty}
use Rattle.rows.specs.Rows.{key}
use Rattle.book.specs.declared.Kind.{Kind}
use Rattle.book.specs.Sizes.{IDS}
use Rattle.book.specs.Book.{Record, Lists, width, ok_id_in, ok_id, ok_place, field, ok_fields, fields_number, ok_record, add_number, take_number_in, Item, items, in_order}
use Rattle.book.proofs.Fields.{record-long, record-ranged, record-0, answer-n}
use Rattle.book.proofs.Builds.{Builds, none, one, builds}
use Rattle.page_line.specs.Records.{Line, entry}
use Rattle.page_line.specs.Lines.{lines_in, text_lines_in, text_lines}
use Rattle.page_line.specs.Write.{line_text}
use Rattle.page_line.proofs.Rows.{sorts-width}
use Rattle.page_line.proofs.Back.{all_fit, line-back}
use Rattle.page_text.specs.Reading.{step_of, takes_in, takes, adds, lines_text, text_of_page}
use Rattle.page_text.specs.Law.{Goes, none as none-goes, one as one-goes, RoundTrip}
use Rattle.std.specs.Prelude.{Ok}
use Rattle.page_text.proofs.First.{accepts}

-- ---- a record in range has words that are written and read back
fit_all : (r : List ℕ) → ((i : ℕ) → i < length r → get_or r i 0 < BASE) → all_fit r ≡ true
unfolding all_fit
fit_all [] f = refl
fit_all (x ∷ r) f = rw (lt-ltb x BASE (f 0 (omega arith))) (fit_all r (λ i h. f (suc i) (omega arith)))

pub id-fits : (v : ℕ) → ok_id v ≡ true → v < BASE
unfolding ok_id_in
id-fits v e = omega (arith, leb-true v IDS (and_right (leb 1 v) (leb v IDS) e))

place-fits : (x y : ℕ) → ok_place x y ≡ true → (x < BASE) × (y < BASE)
unfolding ok_place
place-fits x y e =
    let a = and_right (leb LEAST x) (leb x GREATEST) (and_left (leb LEAST x && leb x GREATEST) (leb LEAST y && leb y GREATEST) e) in
    let b = and_right (leb LEAST y) (leb y GREATEST) (and_right (leb LEAST x && leb x GREATEST) (leb LEAST y && leb y GREATEST) e) in
    (omega (arith, leb-true x GREATEST a), omega (arith, leb-true y GREATEST b))

point-fits : (a x y d m : ℕ) → m < BASE → (ok_id a && ok_place x y) && leb d m ≡ true → (a < BASE) × (x < BASE) × (y < BASE) × (d < BASE)
point-fits a x y d m h e =
    let p = and_left (ok_id a && ok_place x y) (leb d m) e in
    let q = place-fits x y (and_right (ok_id a) (ok_place x y) p) in
    (id-fits a (and_left (ok_id a) (ok_place x y) p), q.0, q.1, omega (arith, leb-true d m (and_right (ok_id a && ok_place x y) (leb d m) e)))

box-fits : (a b c d e : ℕ) (t : Bool) → (ok_id a && (ok_place b c && ok_place d e)) && t ≡ true
    → (a < BASE) × (b < BASE) × (c < BASE) × (d < BASE) × (e < BASE)
box-fits a b c d e t h =
    let p = and_left (ok_id a && (ok_place b c && ok_place d e)) t h in
    let q = and_right (ok_id a) (ok_place b c && ok_place d e) p in
    let u = place-fits b c (and_left (ok_place b c) (ok_place d e) q) in
    let v = place-fits d e (and_right (ok_place b c) (ok_place d e) q) in
    (id-fits a (and_left (ok_id a) (ok_place b c && ok_place d e) p), u.0, u.1, v.0, v.1)

four : (r : Record) → (field 0 r < BASE) × (field 1 r < BASE) × (field 2 r < BASE) × (field 3 r < BASE) → (i : ℕ) → i < 4 → get_or r i 0 < BASE
four r f zero h = f.0
four r f (suc zero) h = f.1
four r f (suc (suc zero)) h = f.2
four r f (suc (suc (suc zero))) h = f.3
four r f (suc (suc (suc (suc i)))) h = absurd (omega arith)

field_fits : (k : Kind) (r : Record) → ok_fields k r ≡ true → (i : ℕ) → i < width k → get_or r i 0 < BASE
field_fits Kind.Box r e i h = go i h
  where
    f : (field 0 r < BASE) × (field 1 r < BASE) × (field 2 r < BASE) × (field 3 r < BASE) × (field 4 r < BASE)
    f = box-fits (field 0 r) (field 1 r) (field 2 r) (field 3 r) (field 4 r) (leb (field 1 r) (field 3 r) && leb (field 2 r) (field 4 r)) e

    go : (i : ℕ) → i < 5 → get_or r i 0 < BASE
    go zero h = f.0
    go (suc zero) h = f.1
    go (suc (suc zero)) h = f.2
    go (suc (suc (suc zero))) h = f.3
    go (suc (suc (suc (suc zero)))) h = f.4
    go (suc (suc (suc (suc (suc i))))) h = absurd (omega arith)
field_fits Kind.Port r e i h = four r (point-fits (field 0 r) (field 1 r) (field 2 r) (field 3 r) 15 (omega arith) e) i h
field_fits Kind.Net r e zero h = id-fits (field 0 r) e
field_fits Kind.Net r e (suc i) h = absurd (omega arith)
field_fits Kind.End r e i h = four r (point-fits (field 0 r) (field 1 r) (field 2 r) (field 3 r) 1 (omega arith) e) i h

record-fits : (k : Kind) (r : Record) → ok_record k r ≡ true → all_fit r ≡ true
record-fits k r e =
    let w = record-long k r e in
    fit_all r (λ i h. field_fits k r (record-ranged k r e) i (omega arith))

-- ---- a page's text by its records in kept order
items_text : List Item → List ℕ
items_text [] = []
items_text (i ∷ is) = line_text i.kind i.row ++ items_text is

items-text : (k : Kind) (rs : List Record) (is : List Item) → items_text (items k rs ++ is) ≡ lines_text k rs ++ items_text is
unfolding items lines_text items_text
items-text k [] is = refl
items-text k (r ∷ rs) is = ap (λ (t : List ℕ). line_text k r ++ t) (items-text k rs is) ∙ sym (append_assoc (line_text k r) (lines_text k rs) (items_text is))

page-items : (l : Lists) → items_text (in_order l) ≡ text_of_page l
unfolding in_order text_of_page items_text
page-items l =
    items-text Kind.Box l.boxes _
    ∙ ap (λ (t : List ℕ). lines_text Kind.Box l.boxes ++ t)
    (items-text Kind.Port l.ports _
    ∙ ap (λ (t : List ℕ). lines_text Kind.Port l.ports ++ t)
    (items-text Kind.Net l.nets _ ∙ ap (λ (t : List ℕ). lines_text Kind.Net l.nets ++ t) last))
  where
    last : items_text (items Kind.End l.ends) ≡ lines_text Kind.End l.ends
    last = ap items_text (sym (append-nil (items Kind.End l.ends))) ∙ items-text Kind.End l.ends [] ∙ append-nil (lines_text Kind.End l.ends)

-- ---- records that can be added one by one: their lines are read back, and go
abbrev line_for : Item → Line
line_for i = entry i.kind i.row

no_lines : text_lines [] ≡ []
unfolding text_lines_in lines_in split is_empty
no_lines = refl

lines-read : {l m : Lists} {is : List Item} → Builds l is m → text_lines (items_text is) ≡ map line_for is
unfolding items_text
lines-read none = no_lines
lines-read (one {i = i} {is = is} o z b) =
    line-back i.kind i.row (record-long i.kind i.row o ∙ sym (sorts-width i.kind)) (record-fits i.kind i.row o) (items_text is)
    ∙ ap (λ (xs : List Line). line_for i ∷ xs) (lines-read b)

went : (k : Kind) (r : Record) (l : Lists) → ok_record k r ≡ true → add_number k l (key r) ≡ 0 → takes (entry k r) l ≡ Ok tt
unfolding takes_in step_of take_number_in
went k r l o z = rw (answer-n (fields_number k r) (add_number k l (key r)) (record-0 k r o), z)

lines-go : {l m : Lists} {is : List Item} → Builds l is m → Goes l (map line_for is) m
unfolding adds
lines-go none = none-goes
lines-go (one {l = l} {i = i} o z b) = one-goes (went i.kind i.row l o z) (lines-go b)

pub round_trip : RoundTrip
round_trip l ok =
    let b = builds l ok in
    accepts (text_of_page l) l (rw (← page-items l, lines-read b) (lines-go b))
